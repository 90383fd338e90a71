-- What may be written in fresh records, and the block of words that it becomes.
use Rattle.std.specs.Prelude.{◌≡◌, ℕ, ◌+◌, ◌*◌, ◌≤◌, List, length, map, Option, Some, None}
use Rattle.std.specs.List.{range_with_len}
use Rattle.words.specs.PlainQueue.{FitsValue}
use Rattle.words.specs.declared.call.Kind.{Kind}
use Rattle.words.specs.declared.call.Kind.TheVariants.{Durable, Log}
use Rattle.words.specs.declared.call.Reply.TheVariants.{Got}
use Rattle.words.specs.declared.limits.TheConstants.{MAX_CALL_NUMBER, MAX_CLIENTS}
use Rattle.words.specs.declared.told.Outcome.{Outcome}
use Rattle.words.specs.declared.told.Outcome.TheVariants.{Taken}
use Rattle.words.specs.declared.told.Row.{Row}
use Rattle.words.specs.declared.told.Row.TheVariants.{Got as row_got}
use Rattle.words.specs.declared.told.Told.{Told}
use Rattle.words.specs.declared.told.Told.TheVariants.{None as told_none, Verdict as told_verdict, Row as told_row}
use Rattle.words.specs.declared.told.Verdict.{Verdict}
use Rattle.arena.specs.Broker.{block_size_of}
use Rattle.arena.specs.Content.{kept_content}
use Rattle.arena.specs.Layout.{place_at}
use Rattle.arena.specs.Limits.{AreCounts}
use Rattle.arena.specs.Place.{IsClient, IsNode}
use Rattle.arena.specs.Shape.{Shape, greatest}
use Rattle.arena.specs.Words.{bumps}
use Rattle.arena.specs.declared.place.Place.{Place}
use Rattle.sound_words.specs.Kept.{kept_in}
use Rattle.sound_words.specs.Sound.{AreSoundWords}
use Rattle.words.specs.Told.{no_call}
use Rattle.sound_words.specs.Told.{tells_by, told_by}
use Rattle.renewal.specs.Renewal.{Renewal, item_in, told_in}
use Rattle.renewal.specs.Renewed.{SaysFollower, chain, renewed}
use Rattle.renewal.specs.Roles.{used_for}

-- so many items fit into fresh records of this shape: beside one record for each, each client needs two
abbrev pub FitFresh : Shape → ℕ → Type 0
FitFresh s count = count + 2 * s.clients ≤ greatest s

-- what a queue of this kind may tell
abbrev pub FitsOutcome : Outcome → Type 0
FitsOutcome (Taken (Got value)) = FitsValue value
FitsOutcome _ = Unit {0}

abbrev pub FitsRow : Row → Type 0
FitsRow (row_got value) = FitsValue value
FitsRow _ = Unit {0}

pub record FitsVerdict (verdict : Verdict) : Type 0 where
  pub numbered : 1 ≤ verdict.number
  pub in_range : verdict.number ≤ MAX_CALL_NUMBER
  pub outcome : FitsOutcome verdict.outcome

abbrev pub MayBeTold : Kind → Told → Type 0
MayBeTold Durable told_none = Unit {0}
MayBeTold Durable (told_verdict verdict) = ⊥
MayBeTold Durable (told_row row) = FitsRow row
MayBeTold Log told_none = Unit {0}
MayBeTold Log (told_verdict verdict) = FitsVerdict verdict
MayBeTold Log (told_row row) = ⊥

-- there is room, and items and tellings are those of a queue of this kind
pub record MayBeRenewed (r : Renewal) : Type 0 where
  pub counts : AreCounts r.shape.clients r.shape.records
  pub listed : length r.tells ≡ MAX_CLIENTS
  pub room : FitFresh r.shape (length r.content)
  pub items : (at : ℕ) → FitsValue (item_in r at)
  pub told : (t : ℕ) → MayBeTold r.shape.kind (told_in r t)

-- of each of its nodes this list says what follows it on the chain
abbrev pub AreLinksOf : Renewal → List ℕ → Type 0
AreLinksOf r links = (n : ℕ) → IsNode r.shape n → SaysFollower links (chain r) n

-- such a queue, and of each of its nodes what follows it on the chain
pub record IsFresh (r : Renewal) (links : List ℕ) : Type 0 where
  pub may : MayBeRenewed r
  pub follows : AreLinksOf r links

-- a client that is to be told nothing is told so by the kind of the queue
abbrev pub told_anew : Kind → Told → Told
told_anew kind told_none = no_call kind
told_anew kind told = told

-- a word is that of its place; past the queue's layout it is 0
abbrev pub renewed_or_zero : Renewal → Option Place → ℕ
renewed_or_zero r None = 0
renewed_or_zero r (Some place) = renewed r place

abbrev pub word_renewed : Renewal → ℕ → ℕ
word_renewed r w = renewed_or_zero r (place_at r.shape w)

-- a queue's block of words
unfoldable pub block_renewed : Renewal → List ℕ
block_renewed r = map (word_renewed r) (range_with_len 0 (block_size_of r.shape.clients r.shape.records))

-- what kept words hold and tell is to be written for this shape
abbrev pub renewal_of : Shape → Shape → (Place → ℕ) → Renewal
renewal_of to s kept = record { shape = to; content = kept_content s kept; tells = tells_by s kept }

-- so a block of words of one shape becomes one of another
abbrev pub words_renewed : Shape → Shape → List ℕ → List ℕ
words_renewed to s old = block_renewed (renewal_of to s (kept_in s old))

-- the items that it holds fit there
abbrev pub ItemsFit : Shape → Shape → List ℕ → Type 0
ItemsFit to s old = FitFresh to (length (kept_content s (kept_in s old)))

-- these words may become one of that shape: a queue of the same kind, with as many clients or more, which has
-- room for their items
pub record MayBecome (s : Shape) (old : List ℕ) (to : Shape) : Type 0 where
  pub sound : AreSoundWords s old
  pub counts : AreCounts s.clients s.records
  pub new_counts : AreCounts to.clients to.records
  pub kind : to.kind ≡ s.kind
  pub clients : s.clients ≤ to.clients
  pub room : ItemsFit to s old

-- new words of this shape are sound and have the queue of the old ones: they hold the same items in the same order,
-- tell each client the same, and clients that were not there that they made no call; and few records are used
pub record IsRenewalOf (s : Shape) (old : List ℕ) (to : Shape) (new : List ℕ) : Type 0 where
  pub sound : AreSoundWords to new
  pub content : kept_content to (kept_in to new) ≡ kept_content s (kept_in s old)
  pub told : (t : ℕ) → IsClient s t → told_by to (kept_in to new) t ≡ told_by s (kept_in s old) t
  pub others : (t : ℕ) → s.clients ≤ t → IsClient to t → told_by to (kept_in to new) t ≡ no_call to.kind
  pub tells : s.clients ≡ to.clients → tells_by to (kept_in to new) ≡ tells_by s (kept_in s old)
  pub used : (t : ℕ) → IsClient to t
      → bumps (kept_in to new) t ≡ used_for to (length (kept_content s (kept_in s old))) t
