-- What crates above may cite of this one's proofs.
pub use Rattle.journal.proofs.Cuts.{cut_is_left, left_is_read, length-frame_of}
pub use Rattle.journal.proofs.FramesRead.{length-applied, length-sum_of}
pub use Rattle.journal.proofs.JournalsRead.{whole_journal_is_read}
pub use Rattle.journal.proofs.Appends.{end_more, is_journal_anew, is_journal_more, journal_more, length-words_after}
