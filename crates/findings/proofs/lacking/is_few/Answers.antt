use Rattle.std.proofs.Common.{arith}
use Rattle.std.proofs.lemmas.List.Kept.{AllPairs-from_increasing}
use Rattle.findings.proofs.Listing.{pairs_differ}
use Rattle.findings.proofs.lacking.is_few.Goals as goal

pub returns : goal.returns
returns c = λ yes. record {
  certain = c.are_known_puts.ensures c.if-not-are_known_puts.false;
  different = pairs_differ _ (AllPairs-from_increasing _ (c.numbers_rise.ensures c.if-not-numbers_rise.false));
  in_since = c.are_in_since.ensures c.if-not-are_in_since.false;
  listed = c.are_listed.ensures yes;
  fewer = omega (arith, c.if-takes-puts.false);
}
