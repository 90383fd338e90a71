use Rattle.std.proofs.Common.{List, ℕ, ◌≡◌, length}
use Rattle.words.specs.declared.told.Told.{Told}
use Rattle.std.proofs.lemmas.Option.{slice_get_within}
use Rattle.events.specs.History.{IsDurable, ReadyAt}
use Rattle.events.proofs.Facts.{told_if_interrupted}
use Rattle.history.proofs.checking.tells.Goals as goal

pub returns-then-is_durable : goal.returns-then-is_durable
returns-then-is_durable c =
    let durable : IsDurable c.args.events.now.items = c.is_durable.ensures.0 c.if-is_durable.true in (
      λ told. record {
        verdicts = λ log. absurd (log durable);
        interrupted = λ log. absurd (log durable);
        rows = λ _. c.all_told.ensures.told.0 told;
      },
      λ tells. c.all_told.ensures.told.1 (tells.rows durable),
    )

pub returns : goal.returns
returns c =
    let log : ¬ (IsDurable c.args.events.now.items) =
    λ durable. cc (c.is_durable.ensures.1 durable, c.if-is_durable.false) in (
      λ told.
          let verdicts = c.all_told-2.ensures.told.0 told in
          let sixteen : (q : ℕ) (tells : List Told) → ReadyAt c.args.events.now.items q tells
          → length tells ≡ 16 = λ q tells at.
          (c.all_told-2.ensures.sixteen told q (slice_get_within _ _ _ at)).sixteen tells at in
          record {
            verdicts = λ _. verdicts;
            interrupted = λ _. told_if_interrupted _ _ _ c.requires.history.places c.requires.once sixteen verdicts;
            rows = λ durable. absurd (log durable);
          },
      λ tells. c.all_told-2.ensures.told.1 (tells.verdicts log),
    )
