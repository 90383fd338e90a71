-- What crates above may cite of this one's proofs.
pub use Rattle.broker_script.proofs.PutOffs.{nothing_made}
pub use Rattle.broker_script.proofs.Staying.{queues_noted, recovered_on, recovered_ready, recovered_settled}
pub use Rattle.broker_script.proofs.Staying.{session_goes_further}
pub use Rattle.broker_script.proofs.Worlds.{listed_open, open_world}
