-- What crates above may cite of this one's proofs.
pub use Rattle.grammar.proofs.Cuts.{cut_at_first, second_word, some_word}
pub use Rattle.grammar.proofs.Unique.{command_back, command_in, read, value_back, value_in}
