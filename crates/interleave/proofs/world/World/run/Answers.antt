use Rattle.std.proofs.Common.{◌≡◌, ◌+◌, ◌-◌, ◌≤◌, ℕ, List, [], ◌∷◌, ◌++◌, Some, length, slice_get, Bool, true, false, take, refl, sym, ap, ◌∙◌, subst, arith}
use Rattle.std.proofs.lemmas.List.{take_more, take_all}
use Rattle.std.proofs.lemmas.Option.{get_or_from_slice_get, slice_get_read}
use Rattle.protocol.specs.declared.acts.Act.{Act}
use Rattle.interleave.specs.Holds.{Holds}
use Rattle.interleave.specs.Runs.{IsAttempt}
use Rattle.interleave.specs.State.{State, count_of}
use Rattle.interleave.specs.Trace.{Roomy}
use Rattle.interleave.proofs.machine.Holding.{explained_world}
use Rattle.interleave.proofs.words.KeptWords.{kept_sound}
use Rattle.interleave.proofs.runs.Attempts.{SoFar, none_so_far, one_more, ended}
use mir.Val.{bool_byte}
use Rattle.interleave.proofs.world.World.run.Goals as goal

byte_is : (b : Bool) → bool_byte b ≡ count_of b
byte_is true = refl
byte_is false = refl

count_few : (b : Bool) → count_of b ≤ 1
count_few true = omega arith
count_few false = omega arith

pub loop-act-init : goal.loop-act-init
loop-act-init c =
    record {
      so_far = none_so_far c.args.self.now.room c.args.self.now.now;
      room = omega arith;
      all = refl;
      holds = subst Holds (ap (λ (r : Roomy). r.now) c.self.view_is) c.self.invariant.world;
    }

pub loop-act-preserved : goal.loop-act-preserved
loop-act-preserved c =
    let xs : List (Act ℕ) = c.args.acts.now in
    let i = c.loop-act.act-index in
    let old : State = c.args.self.now.now in
    let room : ℕ = c.args.self.now.room in
    let taken : ℕ = c.loop-act.ran.taken in
    let w : State = c.loop-act.self.now in
    let v : State = c.act.new.self.now in
    let act : Act ℕ = c.act-item.result in
    let here : slice_get xs i ≡ Some act = slice_get_read xs (length xs) i act refl c.loop-act-test.true c.act-item.is in
    let longer : take (i + 1) xs ≡ take i xs ++ act ∷ [] =
    take_more xs i act c.loop-act-test.true ∙ ap (λ (x : Act ℕ). take i xs ++ x ∷ []) (get_or_from_slice_get xs i act act here) in
    let byte : c.from-taken.result ≡ count_of c.act.result = c.from-taken.ensures ∙ byte_is c.act.result in
    let made : IsAttempt c.loop-act.self.room w act c.act.result v = c.act.ensures.attempt in
    let attempt : IsAttempt (room - taken) w act c.act.result v = record {
      full = made.full;
      short = λ full. omega (arith, made.short full, c.loop-act.invariant.room);
      leaves = made.leaves;
      accepts = made.accepts;
    } in
    let now = one_more c.loop-act.invariant.so_far c.loop-act.invariant.holds attempt in
    let few = count_few c.act.result in
    record {
      so_far =
          subst (λ (n : ℕ). SoFar room old (take (i + 1) xs) (taken + n) v) (sym byte)
          (subst (λ (ys : List (Act ℕ)). SoFar room old ys (taken + count_of c.act.result) v) (sym longer) now);
      room = omega (arith, c.loop-act.invariant.room, c.act.ensures.room, byte);
      all = omega (arith, byte, few, c.loop-act.invariant.all);
      holds = c.act.ensures.holds;
    }

pub returns-clause-run : goal.returns-clause-run
returns-clause-run c =
    let xs : List (Act ℕ) = c.args.acts.now in
    let whole : take c.loop-act.act-index xs ≡ xs = take_all c.loop-act.act-index xs (omega (arith, c.loop-act-test.false)) in
    let run = subst (λ (ys : List (Act ℕ)). SoFar c.args.self.now.room c.args.self.now.now ys c.loop-act.ran.taken c.loop-act.self.now) whole c.loop-act.invariant.so_far in
    let holds : Holds c.args.self.now.now = subst Holds (ap (λ (r : Roomy). r.now) c.self.view_is) c.self.invariant.world in
    record {
      went = run.went;
      room = c.loop-act.invariant.room;
      told = run.told;
      goes_on = run.on;
      stands = run.stands;
      tells = run.tells;
      ready = ended run holds;
    }

pub returns-clause-explained : goal.returns-clause-explained
returns-clause-explained c = explained_world _ c.loop-act.invariant.holds

pub returns-clause-sound : goal.returns-clause-sound
returns-clause-sound c = kept_sound _ c.loop-act.invariant.holds
