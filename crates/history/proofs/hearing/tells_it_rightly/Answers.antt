use Rattle.std.proofs.Common.{rules, inl, inr, subst, ⊎_elim, Option, ℕ}
use Rattle.history.specs.Hearing.{IsProgress}
use Rattle.events.specs.Telling.{IsToldSome}
use Rattle.history.proofs.HearSteps.{some_from_not_taken, base_from_none, not_base_from_last, not_some}
use Rattle.history.proofs.hearing.tells_it_rightly.Goals as goal

pub returns-then-says_of_later : goal.returns-then-says_of_later
returns-then-says_of_later c = (
  λ _. inl (some_from_not_taken _ _ _ _ _ _ _ _ _ c.requires.few c.requires.progress
      (c.says_of_later.ensures.0 c.if-says_of_later.true)),
  search rules,
)

pub returns-in-None : goal.returns-in-None
returns-in-None c =
    let none : IsToldSome c.args.who.now.kind c.args.who.now.events.now.items c.args.who.now.entries.now
    c.args.who.now.client c.args.q c.args.told.now
    → ⊥ = not_some _ _ _ _ _ _ _ _ _ c.requires.once c.requires.progress c.requires.later
    (λ last. cc (c.says_of_last.ensures.1 last, c.if-says_of_last.false))
    (λ later. cc (c.says_of_later.ensures.1 later, c.if-says_of_later.false)) in
    let progress = subst (λ (last : Option ℕ). IsProgress c.args.who.now.kind c.args.who.now.events.now.items
    c.args.who.now.entries.now c.args.who.now.client c.args.q c.args.progress.from last) c.in-None.is
    c.requires.progress in (
      λ same. inr (record { none = base_from_none _ _ _ _ _ _ progress; same = c.is_told.ensures.0 same }),
      λ either. ⊎_elim (λ some. absurd (none some)) (λ old. c.is_told.ensures.1 old.same) either,
    )

pub returns-in-Some : goal.returns-in-Some
returns-in-Some c =
    let none : IsToldSome c.args.who.now.kind c.args.who.now.events.now.items c.args.who.now.entries.now
    c.args.who.now.client c.args.q c.args.told.now
    → ⊥ = not_some _ _ _ _ _ _ _ _ _ c.requires.once c.requires.progress c.requires.later
    (λ last. cc (c.says_of_last.ensures.1 last, c.if-says_of_last.false))
    (λ later. cc (c.says_of_later.ensures.1 later, c.if-says_of_later.false)) in
    let progress = subst (λ (last : Option ℕ). IsProgress c.args.who.now.kind c.args.who.now.events.now.items
    c.args.who.now.entries.now c.args.who.now.client c.args.q c.args.progress.from last) c.in-Some.is
    c.requires.progress in (
      search rules,
      λ either. ⊎_elim (λ some. absurd (none some))
          (λ old. absurd (not_base_from_last _ _ _ _ _ _ _ progress old.none)) either,
    )
