-- What crates above may cite of this one's proofs.
pub use Rattle.persist.proofs.Requests.{asked_elsewhere, lent_alike}
pub use Rattle.persist.proofs.Noting.{accessed_noted, applied_length, part_noted}
pub use Rattle.persist.proofs.Parts.{bare_part, change_within, elsewhere, index_within, outside_left, part_evicted}
pub use Rattle.persist.proofs.Parts.{set_after, set_before}
pub use Rattle.persist.proofs.Overwrites.{partly, partly_all, partly_more, partly_none}
