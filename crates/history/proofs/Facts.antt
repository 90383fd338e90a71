-- What crates above may cite of this one's proofs.
pub use Rattle.history.proofs.CountSteps.{IsCounted, counted_more, front_reply, put_more, reply_at_front}
pub use Rattle.history.proofs.ReplaySteps.{queue_more, right_here}
