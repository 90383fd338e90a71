-- What crates above may cite of this one's proofs.
pub use Rattle.roll.proofs.Places.{get_set_else}
