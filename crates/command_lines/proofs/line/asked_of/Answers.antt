use Rattle.std.proofs.Common.{map, refl, inl, inr}
use Rattle.options.specs.Asked.{AsksFor, FitsAll}
use Rattle.command_lines.specs.Commands.{pqd_app}
use Rattle.command_lines.specs.Lines.{Refuses}
use Rattle.command_lines.proofs.ByWords.{faultless, held_by_words, known_met, passed_on, refused}
use Rattle.command_lines.proofs.line.asked_of.Goals as goal

pub returns-in_err-matches-clause-refused : goal.returns-in_err-matches-clause-refused
returns-in_err-matches-clause-refused g c =
    let words = map g.S.AsStr.text c.args.words.now in
    let error = c.in_err-matches.field-0.0 in
    passed_on _ error (Refuses words) c.from_residual.ensures.1 (refused _ words error c.requires.app c.in_err-matches.ensures.kinds)

pub asked_in-requires : goal.asked_in-requires
asked_in-requires g c = record {
  known = known_met _ _ c.in_ok-matches.matches c.requires.app c.in_ok-matches.ensures.ok.2 c.in_ok-matches.ensures.kinds;
}

pub returns-in-Ok-clause-asked : goal.returns-in-Ok-clause-asked
returns-in-Ok-clause-asked g c = record {
  faultless = faultless pqd_app refl refl _ _ c.requires.app c.in_ok-matches.ensures.kinds;
  asks = held_by_words pqd_app refl refl (λ command values. AsksFor command values c.in-Ok.asked) _ _ c.in_ok-matches.matches c.requires.app
      c.in_ok-matches.ensures.ok.2 c.in-Ok.ensures.asked;
}

pub returns-clause-refused : goal.returns-clause-refused
returns-clause-refused g c =
    let misfit = held_by_words pqd_app refl refl (λ command values. ¬ (FitsAll command values)) _ _ c.in_ok-matches.matches c.requires.app
    c.in_ok-matches.ensures.ok.2 c.in-Err.ensures.misfit in
    elim c.refusal.ensures [
      | inl memory ↦ inl memory
      | inr kind ↦ inr (inr (kind, misfit))
    ]
