-- That the broker was down, by what the steps of a recovery answered.
use Rattle.std.proofs.Common.{◌≡◌, Bool, true, false, Option, Some, None, Result, Ok, Err, refl, subst}
use Rattle.std.specs.Prelude.{OnOk}
use Rattle.words.specs.declared.refusal.Refusal.{Refusal}
use Rattle.words.specs.declared.refusal.Refusal.TheVariants.{AlreadyReady}
use Rattle.workers.specs.Recovered.{told_of_recovery}

-- where something was done
pub done_so : {A P Q : Type 0} (result : Result A Refusal) → (P → Q) → OnOk result P → OnOk result Q
done_so (Ok done) so was = so was
done_so (Err refusal) so was = tt

-- who is told that it recovered made a step, or had made one
pub down_told : {P : Type 0} (begun : Bool) (step : Result Bool Refusal) (told : Result Unit Refusal)
    → told_of_recovery begun step ≡ Some told → OnOk step P → (begun ≡ true → P) → OnOk told P
down_told begun (Ok false) told is down was = absurd (cc is)
down_told {P} begun (Ok true) told is down was =
    let same : (let o : Result Unit Refusal = Ok tt in o) ≡ told = cc is in
    subst (λ (t : Result Unit Refusal). OnOk t P) same down
down_told {P} false (Err refusal) told is down was =
    let same : (let o : Result Unit Refusal = Err refusal in o) ≡ told = cc is in
    subst (λ (t : Result Unit Refusal). OnOk t P) same tt
down_told {P} true (Err AlreadyReady) told is down was =
    let same : (let o : Result Unit Refusal = Ok tt in o) ≡ told = cc is in
    subst (λ (t : Result Unit Refusal). OnOk t P) same (was refl)
down_told {P} true (Err refusal) told is down was =
    let same : (let o : Result Unit Refusal = Err refusal in o) ≡ told = cc is in
    subst (λ (t : Result Unit Refusal). OnOk t P) same tt

-- and who is told nothing yet has made one
pub down_by_none : {P : Type 0} (begun : Bool) (step : Result Bool Refusal) → told_of_recovery begun step ≡ None
    → OnOk step P → P
down_by_none begun (Ok false) is down = down
down_by_none begun (Ok true) is down = absurd (cc is)
down_by_none false (Err refusal) is down = absurd (cc is)
down_by_none true (Err AlreadyReady) is down = absurd (cc is)
down_by_none true (Err refusal) is down = absurd (cc is)
