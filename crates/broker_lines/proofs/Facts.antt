-- What crates above may cite of this one's proofs.
pub use Rattle.broker_lines.proofs.Scripts.{goes_on, stops, stops_past}
