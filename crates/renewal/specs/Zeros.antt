-- Where the words of a node and of a record lie, and runs of words that are noted to be 0.
use Rattle.std.specs.Prelude.{◌≡◌, ℕ, ◌+◌, ◌-◌, ◌*◌, ◌/◌, Bool, true, false, List, length, slice_index_or}
use Rattle.words.specs.declared.call.Kind.{Kind}
use Rattle.words.specs.declared.call.Kind.TheVariants.{Durable, Log}
use Rattle.arena.specs.Shape.{Shape, greatest, record_of}
use Rattle.renewal.specs.Renewal.{Renewal}
use Rattle.renewal.specs.Roles.{used_for}
use Rattle.renewal.specs.Words.{IsFresh, word_renewed}
use Rattle.renewal.specs.declared.zeros.TheConstants.{RUN}

-- how many words a node has, and how many a record's cell or entry has
abbrev pub node_words : Kind → ℕ
node_words Durable = 6
node_words Log = 7

abbrev pub answer_words : Kind → ℕ
answer_words Durable = 1
answer_words Log = 4

-- where they begin
abbrev pub node_from : Shape → ℕ → ℕ
node_from s n = 2 + 2 * s.clients + node_words s.kind * n

abbrev pub answer_from : Shape → ℕ → ℕ
answer_from s n = node_from s (greatest s + 1) + answer_words s.kind * (n - 1)

-- the first record of a client that is not used, or the one past its last
abbrev pub first_unused : Renewal → ℕ → ℕ
first_unused r t = record_of r.shape t (used_for r.shape (length r.content) t)

-- each word of a run that is noted is 0
abbrev pub AreZeroRuns : Renewal → List Bool → Type 0
AreZeroRuns r runs = (w : ℕ) → slice_index_or runs (w / RUN) false ≡ true → word_renewed r w ≡ 0

-- a queue in fresh records, what follows each of its nodes on the chain, and its runs of words that are 0
pub record IsFreshBlock (r : Renewal) (links : List ℕ) (runs : List Bool) : Type 0 where
  pub fresh : IsFresh r links
  pub zeros : AreZeroRuns r runs
