-- What crates above may cite of this one's proofs.
pub use Rattle.notes.proofs.Making.{made_by_none, made_by_notes, noted_none}
