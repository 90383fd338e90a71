-- What crates above may cite of this one's proofs.
pub use Rattle.desk.proofs.Keeping.{answered_more}
