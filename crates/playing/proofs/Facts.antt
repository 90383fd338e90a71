-- What crates above may cite of this one's proofs.
pub use Rattle.playing.proofs.Again.{comes_next, made_first, made_within, nothing_pending, pending, put_off_first}
pub use Rattle.playing.proofs.Plays.{always_ok, ends_answered, ends_refused, gives_answered, gives_on, gives_refused}
pub use Rattle.playing.proofs.Plays.{leads_on, not_first, refused_same}
pub use Rattle.playing.proofs.Recoveries.{recovery_refused}
pub use Rattle.playing.proofs.GoingAlone.{few_alone, first, goes_first}
