-- What crates above may cite of this one's proofs.
pub use Rattle.interleave.proofs.words.Requests.{AskElsewhere, all_same, around_alone, around_recovered, around_stepped}
pub use Rattle.interleave.proofs.words.Requests.{asked_alone, asked_at_boot, asked_at_first, asked_evicted}
pub use Rattle.interleave.proofs.words.Requests.{asked_recovered}
pub use Rattle.interleave.proofs.words.Requests.{asked_same, asked_started, asked_stepped, unasked_for}
pub use Rattle.interleave.proofs.words.Requests.{Returned, returned}
pub use Rattle.interleave.proofs.recovery.Downtime.{became_ready, some_left}
pub use Rattle.interleave.proofs.machine.Holding.{call_fits, explained_world, holds_after_crash, holds_after_recover}
pub use Rattle.interleave.proofs.machine.Starts.{IsTaken, IsWhyUnstarted, stale_start, startable, taken}
pub use Rattle.interleave.proofs.machine.Starts.{unstarted_by_nobody, why_unstarted}
pub use Rattle.interleave.proofs.machine.Holding.{holds_after_start, is_none, no_call, part_after_crash}
pub use Rattle.interleave.proofs.machine.Holding.{part_after_recover}
pub use Rattle.interleave.proofs.machine.Holding.{recovered_is, recovery_next, recovery_reads, waiting_is}
pub use Rattle.interleave.proofs.words.KeptWords.{falls_on, few_to_ready, kept_sound, left_evicted, tells_on}
pub use Rattle.interleave.proofs.words.KeptWords.{told_again}
pub use Rattle.interleave.proofs.machine.Outcomes.{goes_on_after, told_at_ready}
pub use Rattle.interleave.proofs.runs.AloneCalls.{get_set}
pub use Rattle.interleave.proofs.runs.AloneReplies.{goes_on_after_alone}
pub use Rattle.interleave.proofs.runs.Attempts.{goes_further, goes_nowhere}
pub use Rattle.interleave.proofs.words.Parts.{holds_alike}
pub use Rattle.interleave.proofs.words.Values.{shown_at, zero_at}
pub use Rattle.interleave.proofs.words.Boots.{holds_booted}
pub use Rattle.interleave.proofs.machine.Evictions.{evicted_change, evicted_world}
pub use Rattle.interleave.proofs.machine.Invariants.{room_held}
pub use Rattle.interleave.proofs.words.ZeroWords.{holds_over}
pub use Rattle.interleave.proofs.words.UnusedWords.{zero_words_are_unused}
pub use Rattle.interleave.proofs.verdicts.Carried.{last_rotated, one_verdict, recalled_rotated, rested_rotated}
pub use Rattle.interleave.proofs.verdicts.Carried.{uncounted}
pub use Rattle.interleave.proofs.verdicts.Given.{last_new, none_above, one_reply, recalled_last, recalled_none}
pub use Rattle.interleave.proofs.verdicts.Given.{rested_at_ready}
pub use Rattle.interleave.proofs.verdicts.Last.{IsGiven, answered, last_after, rested_after}
pub use Rattle.interleave.proofs.verdicts.Recalled.{base_stays, recalled_after, reply_on}
pub use Rattle.interleave.proofs.verdicts.Alone.{answered_alone, last_alone, number_of_log, recalled_alone}
pub use Rattle.interleave.proofs.verdicts.Settled.{base_below, settled}
pub use Rattle.interleave.proofs.order.Rotations.{quiet_at}
pub use Rattle.interleave.proofs.machine.Acts.{act_adds_one}
pub use Rattle.interleave.proofs.order.TurnReplies.{step_adds, step_adds_none}
