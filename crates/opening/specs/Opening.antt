-- How a broker begins to serve on the words that an image keeps.
use Rattle.std.specs.Prelude.{◌≡◌, ◌<◌, ◌⊎◌, ℕ, Bool, true, false, List, [], Option, Some, None, Result, Ok, Err}
use Rattle.words.specs.declared.limits.TheConstants.{MAX_CLIENTS}
use Rattle.words.specs.declared.refusal.Refusal.{Refusal}
use Rattle.words.specs.declared.refusal.Refusal.TheVariants.{BadClients, BadCount, BadRecords, NoMemory}
use Rattle.persist.specs.Image.{reading, reading_v1}
use Rattle.persist.specs.Memory.{Words, words_at_rest}
use Rattle.arena.specs.Content.{kept_content as content_of}
use Rattle.arena.specs.Shape.{Counts, Shape, shape_of}
use Rattle.arena.specs.declared.form.Form.{Form}
use Rattle.arena.specs.declared.form.Form.TheVariants.{OfItems, OfValues}
use Rattle.directory.specs.Directory.{HasQueue}
use Rattle.directory.specs.Queue.{directory_of}
use Rattle.directory.specs.Sound.{counts_in}
use Rattle.directory.specs.declared.queue.Queue.{Queue}
use Rattle.sound_words.specs.Kept.{kept_in}
use Rattle.sound_words.specs.Told.{tells_by}
use Rattle.migration.specs.Words.{broker_migrated}
use Rattle.renewal.specs.Broker.{broker_renewed}
use Rattle.interleave.specs.Queue.{told_in}
use Rattle.interleave.specs.State.{State, kept_content, order_in}
use Rattle.interleave.specs.Values.{value_of_place}
use Rattle.named.specs.Booting.{AreBootWords, AreBootWordsIn, IsBooted, MayRefuse, MayRefuseIn, kept_block}
use Rattle.named.specs.Brokers.{Brokered, world_at}
use Rattle.named.specs.Migrating.{IsMigrated}
use Rattle.named.specs.Renewing.{AreToldAsBefore, IsRenewed, IsWhyUnrenewed}
use Rattle.named.specs.Stopping.{IsRecoveryStep}
use Rattle.interleave.specs.Telling.{IsToldAtReady}

-- there are no clients, or too many
abbrev pub AreBadClients : ℕ → Type 0
AreBadClients clients = (clients ≡ 0) ⊎ (MAX_CLIENTS < clients)

-- why a broker is not made
abbrev pub IsWhyUnmade : Refusal → Type 0
IsWhyUnmade refusal = (refusal ≡ BadClients) ⊎ (refusal ≡ BadRecords) ⊎ (refusal ≡ NoMemory)

-- steps of recovery alone, none of them refused, lead from the one broker to the other
pub data Recovers (old : Brokered) : Brokered → Type 0 where
  nothing : Recovers old old
  next : {now new : Brokered} (ready : Bool) (so_far : Recovers old now)
      (step : IsRecoveryStep now new (Ok ready) now.recovery) → Recovers old new

-- a queue that recovered on the kept words of its block: it holds what they hold, each client was told what they tell,
-- and no call took effect yet
pub record IsQueueOpened (s : Shape) (kept : List ℕ) (now : Option State) : Type 0 where
  pub world : State
  pub is : now ≡ Some world
  pub shape : world.shape ≡ s
  pub holds : kept_content world ≡ content_of s (value_of_place s kept)
  pub told : told_in world.queue ≡ tells_by s (value_of_place s kept)
  pub at_ready : IsToldAtReady world
  pub none_yet : order_in world ≡ []

-- the broker that began on these words, and is ready: it has their counts and the queues of their directory
pub record IsOpened (ws : Words) (b : Brokered) : Type 0 where
  pub sound : AreBootWords ws.kept
  pub start : Brokered
  pub booted : IsBooted ws start
  pub steps : Recovers start b
  pub ready : b.recovery ≡ None
  pub counts : b.counts ≡ counts_in ws.kept
  pub directory : b.directory ≡ directory_of ws.kept
  pub queues : (slot : ℕ) (queue : Queue) → HasQueue (directory_of ws.kept) slot queue
      → IsQueueOpened (shape_of queue.kind (counts_in ws.kept)) (kept_block (counts_in ws.kept) slot ws.kept)
      (world_at b slot)

-- the broker began on these words, and a broker may begin on them
pub record HasBegunOn (ws : Words) (b : Brokered) : Type 0 where
  pub sound : AreBootWords ws.kept
  pub booted : IsBooted ws b

-- so it did on the words of an image, by whether that has the first form
pub record HasBegunFromItems (image : List ℕ) (b : Brokered) : Type 0 where
  pub words : List ℕ
  pub read : reading image ≡ Ok words
  pub begun : HasBegunOn (words_at_rest words) b

pub record HasBegunFromFirst (image : List ℕ) (b : Brokered) : Type 0 where
  pub words : List ℕ
  pub read : reading_v1 image ≡ Ok words
  pub sound : AreBootWordsIn OfValues words
  pub begun : HasBegunOn (words_at_rest (broker_migrated words)) b

abbrev pub HasBegunFrom : Bool → List ℕ → Brokered → Type 0
HasBegunFrom false image b = HasBegunFromItems image b
HasBegunFrom true image b = HasBegunFromFirst image b

-- the broker that an image keeps
pub record IsOpenedFrom (image : List ℕ) (b : Brokered) : Type 0 where
  pub words : List ℕ
  pub read : reading image ≡ Ok words
  pub opened : IsOpened (words_at_rest words) b

-- the broker that an image of the first form keeps: it began on the migrated words, with what the old words hold and
-- tell
pub record IsOpenedFromFirst (image : List ℕ) (b : Brokered) : Type 0 where
  pub words : List ℕ
  pub read : reading_v1 image ≡ Ok words
  pub opened : IsOpened (words_at_rest (broker_migrated words)) b
  pub migrated : IsMigrated words opened.start

abbrev pub IsOpenedBy : Bool → List ℕ → Brokered → Type 0
IsOpenedBy false image b = IsOpenedFrom image b
IsOpenedBy true image b = IsOpenedFromFirst image b

-- why an image is refused, by what it is read as: its fault; or, where it has none, want of memory, or what is wrong
-- with its words
abbrev pub IsWhyUnread : Form → Result (List ℕ) Refusal → Refusal → Type 0
IsWhyUnread form (Err fault) refusal = refusal ≡ fault
IsWhyUnread form (Ok words) refusal = (refusal ≡ NoMemory) ⊎ MayRefuseIn form words refusal

-- by whether it has the first form
abbrev pub IsWhyUnopened : Bool → List ℕ → Refusal → Type 0
IsWhyUnopened false image refusal = IsWhyUnread OfItems (reading image) refusal
IsWhyUnopened true image refusal = IsWhyUnread OfValues (reading_v1 image) refusal

-- a queue in fresh records that recovered: of this shape, it holds what the old block's words hold, each client was
-- told what they tell, and no call took effect yet
pub record IsQueueRenewed (s : Shape) (old : List ℕ) (to : Shape) (now : Option State) : Type 0 where
  pub world : State
  pub is : now ≡ Some world
  pub shape : world.shape ≡ to
  pub holds : kept_content world ≡ content_of s (kept_in s old)
  pub told : AreToldAsBefore s old world
  pub at_ready : IsToldAtReady world
  pub none_yet : order_in world ≡ []

-- the broker in fresh records, of these counts, that began on what one kept, and is ready: it has that one's queues
pub record IsOpenedAnew (old : List ℕ) (to : Counts) (b : Brokered) : Type 0 where
  pub opened : IsOpened (words_at_rest (broker_renewed to old)) b
  pub renewed : IsRenewed old to opened.start
  pub counts : b.counts ≡ to
  pub directory : b.directory ≡ directory_of old
  pub queues : (slot : ℕ) (queue : Queue) → HasQueue (directory_of old) slot queue
      → IsQueueRenewed (shape_of queue.kind (counts_in old)) (kept_block (counts_in old) slot old)
      (shape_of queue.kind to) (world_at b slot)

-- the broker that an image keeps, in fresh records, by whether that has the first form
pub record IsRenewedBy (first : Bool) (image : List ℕ) (to : Counts) (b : Brokered) : Type 0 where
  pub start : Brokered
  pub begun : HasBegunFrom first image start
  pub anew : IsOpenedAnew start.words.kept to b

-- why there is none: the image is refused, or its broker is not renewed
pub record IsUnrenewedBy (first : Bool) (image : List ℕ) (to : Counts) (refusal : Refusal) : Type 0 where
  pub start : Brokered
  pub begun : HasBegunFrom first image start
  pub why : IsWhyUnrenewed start.words.kept to refusal

abbrev pub IsWhyNotRenewed : Bool → List ℕ → Counts → Refusal → Type 0
IsWhyNotRenewed first image to refusal = IsWhyUnopened first image refusal ⊎ IsUnrenewedBy first image to refusal

-- why a broker does not go on, on words that a journal left: they are no memory's, or break a rule, or memory ran out
abbrev pub IsWhyNotReopened : List ℕ → Refusal → Type 0
IsWhyNotReopened words refusal = (refusal ≡ BadCount) ⊎ (refusal ≡ NoMemory) ⊎ MayRefuse words refusal

-- the broker in fresh records, of these counts, that goes on with what the words hold and tell
abbrev pub IsReopenedAnew : List ℕ → Counts → Brokered → Type 0
IsReopenedAnew words to b = AreBootWords words × IsOpenedAnew words to b

-- why it does not: they are refused, or not renewed
abbrev pub IsWhyNotReopenedAnew : List ℕ → Counts → Refusal → Type 0
IsWhyNotReopenedAnew words to refusal = IsWhyNotReopened words refusal ⊎ IsWhyUnrenewed words to refusal
