-- What crates above may cite of this one's proofs.
pub use Rattle.directory.proofs.Rows.{names_equal, short_of}
pub use Rattle.directory.proofs.Creations.{creation_begins, creation_crashed, creation_evicted, creation_goes_on}
pub use Rattle.directory.proofs.Creations.{creation_less, creation_moves, directory_is, kept_directory, rest_crashed}
pub use Rattle.directory.proofs.Creations.{rest_evicted, rest_moves, set_here, slot_closed, slot_open}
pub use Rattle.directory.proofs.Kept.{directory_at, queue_of-same}
pub use Rattle.directory.proofs.Sounds.{blank_rest, creation_blocks, creation_head, head_crashed, head_evicted}
pub use Rattle.directory.proofs.Sounds.{head_moves, outside_same, rest_sound, sound_rest}
pub use Rattle.directory.proofs.Recoveries.{one_less, recovery_begins, recovery_evicted, recovery_finds, recovery_moves}
pub use Rattle.directory.proofs.Recoveries.{recovery_opens}
pub use Rattle.directory.proofs.Directories.{opened}
