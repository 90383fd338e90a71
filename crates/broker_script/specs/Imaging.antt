-- Images of a broker's memory: the one that is remembered, and a broker that begins on it.
use Rattle.std.specs.Prelude.{◌≡◌, ◌≢◌, ◌⊎◌, ◌<◌, ℕ, List, [], ◌∷◌, Result, Ok, Err, IfErr, OnErr, OnOk, length, take, nat_lt, slice_index, slice_set, if◌then◌else◌}
use Rattle.sha2.specs.Sha256.{sha256}
use Rattle.words.specs.declared.refusal.Refusal.{Refusal}
use Rattle.words.specs.declared.refusal.Refusal.TheVariants.{BadCount, Damaged, NoMemory, NoWord}
use Rattle.persist.specs.Image.{image_of}
use Rattle.persist.specs.Memory.{words_at_rest}
use Rattle.persist.specs.declared.memory.TheConstants.{MAX_WORDS}
use Rattle.named.specs.Booting.{AreBootWords, IsBooted, MayRefuse}
use Rattle.session.specs.Keeping.{AreKeptAsHeard}
use Rattle.playing.specs.declared.lines.Line.TheVariants.{Refused}
use Rattle.broker_lines.specs.declared.printed.Printed.{Printed}
use Rattle.broker_lines.specs.declared.printed.Printed.TheVariants.{Whole, Image, WasSet, Booted, Unsound}
use Rattle.broker_script.specs.Play.{Played, new_played, session_of}

-- the first bytes of the SHA-256 of some bytes
abbrev pub digest_of : List ℕ → List ℕ
digest_of bytes = take 4 (sha256 bytes)

-- an image as a line: its size and its digest
abbrev pub image_line : List ℕ → Printed
image_line bytes = Image (length bytes) (digest_of bytes)

-- the image is shown, and its words are remembered
pub record Images (old : Played) (lines : List Printed) (new : Played) : Type 0 where
  pub line : lines ≡ image_line (image_of old.broker.words.kept) ∷ []
  pub remembered : new ≡ record old { image = old.broker.words.kept }

-- a word of the remembered image is changed, and the line says which value it had; or there is no such word
abbrev pub set_line : List ℕ → ℕ → Printed
set_line image word =
    if nat_lt word (length image) then WasSet word (slice_index image word) else Whole (Refused NoWord)

pub record SetsWord (old : Played) (word value : ℕ) (lines : List Printed) (new : Played) : Type 0 where
  pub line : lines ≡ set_line old.image word ∷ []
  pub changed : new ≡ record old { image = slice_set old.image word value }

-- why no broker begins on these words: there are none, or too many, or they break a rule, the first of them this
abbrev pub IsOfBadCount : List ℕ → Refusal → Type 0
IsOfBadCount image refusal = ((length image ≡ 0) ⊎ (MAX_WORDS < length image)) × (refusal ≡ BadCount)

pub record IsNotBooted (image : List ℕ) (refusal : Refusal) : Type 0 where
  pub memory : refusal ≢ NoMemory
  pub why : IsOfBadCount image refusal ⊎ MayRefuse image refusal

-- the line of a boot: which rule is broken, it says, too
abbrev pub boot_line : Result Unit Refusal → Printed
boot_line (Ok u) = Booted
boot_line (Err (Damaged rule)) = Unsound rule
boot_line (Err refusal) = Whole (Refused refusal)

-- a broker begins on the remembered words, as a crash left them, and a session over it, in place of those before; or
-- that is refused
pub record Boots (old : Played) (lines : List Printed) (new : Played) : Type 0 where
  pub result : Result Unit Refusal
  pub line : lines ≡ boot_line result ∷ []
  pub sound : OnOk result (AreBootWords old.image)
  pub booted : OnOk result (IsBooted (words_at_rest old.image) new.broker)
  pub kept : OnOk result (AreKeptAsHeard new.broker new.kept)
  pub begins : OnOk result (new ≡ record (new_played (session_of new)) { image = old.image })
  pub errors : IfErr result (IsNotBooted old.image)
  pub none : length old.image ≡ 0 → result ≡ Err BadCount
  pub same : OnErr result (new ≡ old)
