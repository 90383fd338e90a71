-- What crates above may cite of this one's proofs.
pub use Rattle.protocol.proofs.worlds.Facts.{agrees, effect_room, evict_room, explained, few_left, in_log, inv_crashed}
pub use Rattle.protocol.proofs.worlds.Facts.{inv_evicted, inv_new, inv_recovered, inv_started, inv_stepped, is_ready}
pub use Rattle.protocol.proofs.worlds.Facts.{is_recovering, kept_fits, leaves_right, left_falls, no_calls, part_evicted}
pub use Rattle.protocol.proofs.worlds.Facts.{part_stepped, recovery_point, recovery_reads, recovery_silent, step_room}
pub use Rattle.protocol.proofs.worlds.Facts.{still_alike, still_alike_evicted, told_announced, told_are_now}
pub use Rattle.protocol.proofs.worlds.Facts.{told_by_rule, told_is, words_sound, zero_fits}
pub use Rattle.protocol.proofs.boot.Booted.{boots, may_boot, told_at}
pub use Rattle.protocol.proofs.worlds.Rotated.{inv_rotated, tells_now}
pub use Rattle.protocol.proofs.worlds.Moments.{Noted, calling, holder, keep_noted}
pub use Rattle.protocol.proofs.worlds.ReadyWorlds.{access_kept, none_at_end}
pub use Rattle.protocol.proofs.calls.Preparations.{prepared_issued}
pub use Rattle.protocol.proofs.calls.Rows.{KnowsNext, ledger_after}
pub use Rattle.protocol.proofs.changes.Puts.{issued_more, put_cases, put_same}
pub use Rattle.protocol.proofs.records.RecordStores.{acting_announced, acting_or}
pub use Rattle.protocol.proofs.recovery.RecoveryEnds.{hand_may}
pub use Rattle.protocol.proofs.worlds.Acts.{call_other, call_same, step_noted, step_noted_now, step_row}
pub use Rattle.protocol.proofs.worlds.Stages.{in_order_stage, stage_in_order}
pub use Rattle.protocol.proofs.told.Tells.{more_by_stage}
pub use Rattle.protocol.proofs.worlds.RecoveringWorlds.{nobody_kept}
pub use Rattle.protocol.proofs.calls.Bound.{Falls, left, left_most, step_falls}
pub use Rattle.protocol.proofs.calls.Rebegun.{next_unissued, record_owner}
pub use Rattle.protocol.proofs.told.Issuing.{call_once}
pub use Rattle.protocol.proofs.told.Rightly.{KeptBy, call_begun_fits}
