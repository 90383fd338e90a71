-- What crates above may cite of this one's proofs.
pub use Rattle.events.proofs.Lists.{get_before, get_last, get_longer, get_push_cases, pairs_head, pairs_map, pairs_tail}
pub use Rattle.events.proofs.Interrupted.{one_reply, told_if_interrupted}
pub use Rattle.events.proofs.Members.{IsIn, contains_from_in, in_from_contains, in_order_from_taken, in_part}
pub use Rattle.events.proofs.Members.{part_of_part, part_same, taken_at, taken_from_in_order}
pub use Rattle.events.proofs.Growing.{begins_before, begins_longer, begins_within, is_end_before, is_end_longer}
pub use Rattle.events.proofs.Growing.{no_end_longer, open_before, open_less}
pub use Rattle.events.proofs.GrowingReplay.{Runs, queue_longer, queue_push, runs_from_replays}
pub use Rattle.events.proofs.Openings.{EndsBy, no_two_open, open_once, open_push}
pub use Rattle.events.proofs.TraceQueue.{all_settled, part_settled_effects, part_with_effect, part_with_pending}
pub use Rattle.events.proofs.TraceQueue.{part_without_pending, queue_of_order, queue_settled_effects, queue_with_effect}
pub use Rattle.events.proofs.TraceQueue.{queue_with_events, queue_with_pending, queue_with_settled}
pub use Rattle.events.proofs.TraceQueue.{queue_without_pending}
pub use Rattle.events.proofs.EffectLists.{entry_if_settled, entry_in_order, order_first, order_settled_effects}
pub use Rattle.events.proofs.EffectLists.{part_with_settled}
pub use Rattle.events.proofs.TraceGrows.{answered, begun, called, crashed, ready}
pub use Rattle.events.proofs.TraceEffects.{forgot, found, settled, settled_effects_alone, took}
pub use Rattle.events.proofs.TraceExplains.{trace_arises, trace_explains}
pub use Rattle.events.proofs.GrowingTold.{IsMoreBy, says_longer}
