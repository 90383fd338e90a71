-- What crates above may cite of this one's proofs.
pub use Rattle.fenced.proofs.Steps.{as_named, from_it, is_named, joined_same, same_fields, with_it, with_other}
pub use Rattle.fenced.proofs.Turns.{drop_text, fresh_text, put_text, taken_text}
