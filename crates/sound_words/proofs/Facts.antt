-- What crates above may cite of this one's proofs.
pub use Rattle.sound_words.proofs.Alike.{owner_below, sound_like}
pub use Rattle.sound_words.proofs.AlikeTold.{content_like, tells_like, told_like}
pub use Rattle.sound_words.proofs.ToldBy.{IsTellable, among_any, among_none, row_is_empty, row_is_got, row_is_open}
pub use Rattle.sound_words.proofs.ToldBy.{told_done, told_empty, told_got, told_nobody, told_not_dequeued}
pub use Rattle.sound_words.proofs.ToldBy.{told_not_enqueued, told_nothing, told_of}
pub use Rattle.sound_words.proofs.Chains.{is_among_or_not, walk_end, walk_next}
pub use Rattle.sound_words.proofs.Range.{sound_fits}
pub use Rattle.sound_words.proofs.Surveys.{claimed_by_mark}
