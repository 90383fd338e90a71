-- What crates above may cite of this one's proofs.
pub use Rattle.windows.proofs.Solved.{explained, order_or_pattern}
pub use Rattle.windows.proofs.Paired.{all_or}
pub use Rattle.windows.proofs.Least.{IsLeast, HasNone, Search, found_least, found_none, search_least, none_counts}
pub use Rattle.windows.proofs.Counts.{at_most, no_more_than, some_passes}
pub use Rattle.windows.proofs.Paired.{IsTakenBy, IsUntaken, Taker, taker, take_of, IsOut, out_if_below, untaken_if_not}
pub use Rattle.windows.proofs.Paired.{ArePaired, paired_or}
pub use Rattle.windows.proofs.Numbers.{nth, nth_rank}
pub use Rattle.windows.proofs.Bounds.{HasRelease, HasLimit, has_release, has_limit, release, limit, open_at, open_count}
pub use Rattle.windows.proofs.Bounds.{begin_of, end_of, low, high, begun_by, missing, is_done, is_open, low_few}
pub use Rattle.windows.proofs.Short.{short_pattern}
pub use Rattle.windows.proofs.Empties.{IsClear, NotClear, IsStuck, Moments, moments_or, given_or, clear_or_not}
pub use Rattle.windows.proofs.Empties.{not_both_clear, stuck_pattern}
pub use Rattle.windows.proofs.Fates.{IsGiving}
