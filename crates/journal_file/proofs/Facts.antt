-- What crates above may cite of this one's proofs.
pub use Rattle.journal_file.proofs.Restarts.{killed, running_if_known, stopped}
