use Rattle.std.proofs.Common.{arith}
use Rattle.sound_words.proofs.kept.KeptQueue.is_head_sound.Goals as goal

pub overflow_cast-head : goal.overflow_cast-head
overflow_cast-head g c =
    let h = c.requires.chain.issued _ (c.requires.order.on_chain _ (c.has_place.ensures.0 c.if-not-has_place.false)) in
    omega (arith, h.is_record.1, c.kept_at-head.ensures.few)

pub kept_at-requires : goal.kept_at-requires
kept_at-requires g c = (c.requires.chain.issued _ (c.requires.order.on_chain _ (c.has_place.ensures.0 c.if-not-has_place.false))).is_record.1
