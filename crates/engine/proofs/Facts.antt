-- What crates above may cite of this one's proofs.
pub use Rattle.engine.proofs.Telling.{some_written}
