-- What crates above may cite of this one's proofs.
pub use Rattle.workers.proofs.brokers.Comings.{through_itself}
pub use Rattle.workers.proofs.guard.Betweens.{between_at, between_since, between_weaker}
pub use Rattle.workers.proofs.guard.Guarded.{recovery_errors}
pub use Rattle.workers.proofs.guard.Laters.{all_later, later_itself, later_still, session_further, session_stays}
