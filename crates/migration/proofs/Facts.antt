-- What crates above may cite of this one's proofs.
pub use Rattle.migration.proofs.Brokers.{broker_sound, counts_same, directory_same, queue_kept, slot_same}
pub use Rattle.migration.proofs.Pieces.{piece, pieces_length}
pub use Rattle.migration.proofs.Slots.{listed, slot_more}
