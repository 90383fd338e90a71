-- What crates above may cite of this one's proofs.
pub use Rattle.etcd_text.proofs.Spelling.{one_spelling}
