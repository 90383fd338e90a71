use Rattle.sound_words.proofs.Surveys.{record_on_chain}
use Rattle.sound_words.proofs.kept.KeptQueue.are_claims_sound.Goals as goal

pub returns-clause-sound : goal.returns-clause-sound
returns-clause-sound g c = (
  λ told. record {
    in_range = c.are_in_range.ensures.0 c.if-not-are_in_range.false;
    in_turn = λ n h. (c.are_in_turn.ensures.0 c.if-not-are_in_turn.false n (record_on_chain _ _ c.requires.chain n h)).turn h;
    issued = (c.note_claims.ensures.claims.0 told).issued;
    once = (c.note_claims.ensures.claims.0 told).once;
  },
  λ claims. c.note_claims.ensures.claims.1 (record { issued = claims.issued; once = claims.once }),
)
