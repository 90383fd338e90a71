-- What crates above may cite of this one's proofs.
pub use Rattle.findings.proofs.Reading.{NothingKnown, end_at, begins_call, place_end, end_is, end_none, is_end, return_is}
pub use Rattle.findings.proofs.Meanings.{Means, means_none, means_done, means_not, means_open, means_took, means_nothing}
pub use Rattle.findings.proofs.Meanings.{means_take_not, means_take_open, HasMeaning, calls_of, are_calls}
pub use Rattle.findings.proofs.Explained.{order, explains}
pub use Rattle.findings.proofs.Found.{pattern_is}
pub use Rattle.findings.proofs.Whole.{order_without}
pub use Rattle.findings.proofs.Showing.{pattern_refutes, within_events}
