use Rattle.sound_words.proofs.kept.KeptQueue.is_chain_sound.Goals as goal

pub returns-clause-sound : goal.returns-clause-sound
returns-clause-sound g c = (
  λ told. record {
    ends = (c.follow.ensures.run.0 c.if-not-follow.false).ends;
    issued = (c.follow.ensures.run.0 c.if-not-follow.false).issued;
    loose = c.are_loose.ensures.0 told;
    sentinel = c.is_sentinel.ensures.0 c.if-not-is_sentinel.false;
  },
  λ chain. c.are_loose.ensures.1 chain.loose,
)
