-- What crates above may cite of this one's proofs.
pub use Rattle.explore.proofs.Explained.{AreOf, explained, left}
