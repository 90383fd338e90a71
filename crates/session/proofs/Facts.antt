-- What crates above may cite of this one's proofs.
pub use Rattle.session.proofs.downtime.Uncalled.{uncalled_booted, uncalled_new, uncalled_recovered}
pub use Rattle.session.proofs.brokers.Worlds.{clients_there, holds_there, up_there}
pub use Rattle.session.proofs.calls.Clients.{accepted_within}
pub use Rattle.session.proofs.calls.SlotCalls.{IsAnsweredAt, answered_at}
pub use Rattle.session.proofs.calls.Admissions.{open_after, open_answer}
