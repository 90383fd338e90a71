use Rattle.std.proofs.Common.{◌≡◌, ℕ, suc, ◌+◌, ◌-◌, ◌<◌, [], ◌∷◌, ◌++◌, replicate, set, sym, ap, ◌∙◌, arith, append_assoc}
use Rattle.std.proofs.lemmas.List.{length-replicate}
use Rattle.std.proofs.lemmas.List.{set_at, replicate_more}
use Rattle.words.specs.declared.told.Row.TheVariants.{NoCall}
use Rattle.words.specs.declared.told.Told.TheVariants.{None as told_none, Row as told_row}
use Rattle.interleave.proofs.durable.DurableQueue.new.Goals as goal

-- one client more has called nothing
one_more : (i : ℕ) → i < 16 → set (replicate i (told_row NoCall) ++ replicate (16 - i) told_none) i (told_row NoCall) ≡ replicate (i + 1) (told_row NoCall) ++ replicate (16 - (i + 1)) told_none
one_more i h =
    let one : 16 - i ≡ suc (16 - (i + 1)) = omega arith in
    rw one (
    set_at (replicate i (told_row NoCall)) told_none (replicate (16 - (i + 1)) told_none) (told_row NoCall) i (length-replicate i (told_row NoCall))
    ∙ sym (append_assoc (replicate i (told_row NoCall)) (told_row NoCall ∷ []) (replicate (16 - (i + 1)) told_none))
    ∙ ap (λ xs. xs ++ replicate (16 - (i + 1)) told_none) (replicate_more i (told_row NoCall))
    )

pub loop-client-preserved : goal.loop-client-preserved
loop-client-preserved c =
    let h : c.loop-client.client < 16 = omega arith in
    rw c.loop-client.invariant (one_more c.loop-client.client h)
