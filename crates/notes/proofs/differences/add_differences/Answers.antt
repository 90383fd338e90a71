use Rattle.std.proofs.Common.{◌≡◌, ◌≤◌, ◌<◌, ◌++◌, ◌∷◌, ◌+◌, ℕ, [], List, Result, Ok, Err, is_ok, true, if◌then◌else◌, length, take, sym, ap, subst, ◌∙◌, arith, rules, vec_capacity, vec_len, Vec, Global}
use Rattle.std.proofs.lemmas.Bool.{false≢true}
use Rattle.std.specs.Prelude.{is_err}
use Rattle.std.proofs.lemmas.Grind.{common_steps}
use Rattle.persist.specs.declared.access.Change.{Change}
use Rattle.persist.proofs.Facts.{partly}
use Rattle.notes.specs.Noting.{HasNoted}
use Rattle.notes.proofs.Mixing.{noted_first, noted_front, noted_last, noted_next, noted_same}
use Rattle.notes.proofs.differences.add_differences.Goals as goal
use Rattle.notes.proofs.differences.add_differences.Goals.{then-was-is+else-is_err, else-was-is}

-- what is not pushed changes nothing
refused_push : {T E : Type 0} (old new more : List Change) (done : Result T E) → is_err done ≡ true
    → new ≡ (if is_ok done then old ++ more else old) → new ≡ old
refused_push old new more (Ok _) err e = absurd (false≢true err)
refused_push old new more (Err _) err e = e

pub loop-at-init : goal.loop-at-init
loop-at-init g c = record {
  noted = noted_first c.args.changes.now.items c.args.from (g.W.KeptWords.kept_words c.args.words.now) c.args.memory.now.words.kept;
  capacity = omega arith;
}

pub loop-at-preserved : goal.loop-at-preserved
loop-at-preserved g c =
    let i = c.loop-at.invariant in
    let old : List ℕ = c.args.memory.now.words.kept in
    let words : List ℕ = g.W.KeptWords.kept_words c.args.words.now in
    let from : ℕ = c.args.from in
    let at : ℕ = c.loop-at.at in
    let h : at < length words = omega (arith, c.loop-at-test.true, c.size-at-end.ensures) in
    let lt : from + at < length old = omega (arith, h, c.requires) in
    let most : (v : Vec Change Global) → vec_capacity c.loop-at.changes ≤ vec_capacity v → c.if-was-is.changes ≡ v
    → vec_capacity c.args.changes.now ≤ vec_capacity c.if-was-is.changes =
    λ v more is. subst (λ (x : Vec Change Global). vec_capacity c.args.changes.now ≤ vec_capacity x) (sym is)
    (omega (arith, more, i.capacity)) in
    elim c.if-was-is.branch [
      | then-was-is+else-is_err w ↦
          let pushed : w.push.new.self.items ≡ c.loop-at.changes.items
          ++ record { word = from + at; old = c.kept-was.result; new = c.kept-is.result } ∷ [] =
          grind (arith, common_steps) in
          record {
            noted = noted_next c.args.changes.now.items c.loop-at.changes.items c.kept-was.result from at words old
                c.if-was-is.changes.items h lt
                (ap (λ (v : Vec Change Global). v.items) w.changes-is ∙ (pushed
                ∙ ap (λ (n : ℕ). c.loop-at.changes.items ++ record { word = from + at; old = c.kept-was.result; new = n } ∷ [])
                c.kept-is.ensures)) i.noted;
            capacity = most w.push.new.self w.push.ensures.capacity w.changes-is;
          }
      | else-was-is w ↦ record {
        noted = subst (λ (v : Vec Change Global). HasNoted c.args.changes.now.items v.items old (partly from (at + 1) words old))
            (sym w.changes-is)
            (noted_same c.args.changes.now.items c.loop-at.changes.items from at words old h lt
            (sym c.kept-was.ensures ∙ (w.if-was-is.false ∙ c.kept-is.ensures)) i.noted);
        capacity = most c.loop-at.changes (omega arith) w.changes-is;
      }
    ]

pub returns-then-is_err-clause-noted : goal.returns-then-is_err-clause-noted
returns-then-is_err-clause-noted g c = λ all. absurd (false≢true all)

pub returns-then-is_err-clause-before : goal.returns-then-is_err-clause-before
returns-then-is_err-clause-before g c =
    let same : c.push.new.self.items ≡ c.loop-at.changes.items =
    refused_push c.loop-at.changes.items _ _ c.push.result (sym c.is_err.ensures.value ∙ c.if-is_err.true) c.push.ensures.items in
    ap (take (vec_len c.args.changes.now)) same
    ∙ noted_front _ _ _ _ _ (search rules) c.loop-at.invariant.noted

pub returns-clause-noted : goal.returns-clause-noted
returns-clause-noted g c = λ _.
    noted_last c.args.changes.now.items c.loop-at.changes.items c.args.from c.loop-at.at
    (g.W.KeptWords.kept_words c.args.words.now) c.args.memory.now.words.kept
    (omega (arith, c.loop-at-test.false, c.loop-at.auto.at-end, c.size-at-end.ensures)) c.loop-at.invariant.noted

pub returns-clause-before : goal.returns-clause-before
returns-clause-before g c = noted_front _ _ _ _ _ (search rules) c.loop-at.invariant.noted
