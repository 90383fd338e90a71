-- What crates above may cite of this one's proofs.
pub use Rattle.arena.proofs.BrokerWords.{block_ends, in_block, queue_fits}
pub use Rattle.arena.proofs.Chains.{Distinct, distinct, in_end, in_end_cases, in_left, in_right, leads_at, leads_one}
pub use Rattle.arena.proofs.Chains.{leads_trans, not_again, parts_apart, rest_of, same_chain}
