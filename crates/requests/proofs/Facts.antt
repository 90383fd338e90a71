-- What crates above may cite of this one's proofs.
pub use Rattle.requests.proofs.Written.{AreItemsPlain, IsPlain, read-compact_text}
