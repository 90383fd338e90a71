-- Which kept words are those of a broker: its head, and its directory.
use Rattle.std.specs.Prelude.{◌≡◌, ℕ, ◌+◌, ◌<◌, ◌⊎◌, List, Option, length, slice_index}
use Rattle.words.specs.declared.refusal.Refusal.{Refusal}
use Rattle.words.specs.declared.refusal.Refusal.TheVariants.{Damaged}
use Rattle.words.specs.declared.refusal.Rule.TheVariants.{Image, Directory}
use Rattle.arena.specs.Shape.{Counts}
use Rattle.arena.specs.Limits.{AreCounts}
use Rattle.arena.specs.Broker.{block_from_in, block_size_in, broker_size_in}
use Rattle.arena.specs.Form.{running}
use Rattle.arena.specs.declared.form.Form.{Form}
use Rattle.arena.specs.declared.broker.TheConstants.{SLOTS}
use Rattle.arena.specs.declared.codes.TheConstants.{CLOSED_GATE}
use Rattle.directory.specs.Queue.{gate_at, IsOpen, directory_of}
use Rattle.directory.specs.Directory.{IsDirectory, IsFree}
use Rattle.directory.specs.declared.queue.Queue.{Queue}

-- the head's two words: how many clients, and how many records of each
abbrev pub counts_in : List ℕ → Counts
counts_in ws = record { clients = slice_index ws 0; records = slice_index ws 1 }

-- they are in range, and there are as many words as their layout has
pub record HeadIsSoundIn (form : Form) (ws : List ℕ) : Type 0 where
  pub counts : AreCounts (slice_index ws 0) (slice_index ws 1)
  pub size : length ws ≡ broker_size_in form (counts_in ws)

-- each word of the block is 0
abbrev pub IsBlockZeroIn : Form → Counts → List ℕ → ℕ → Type 0
IsBlockZeroIn form c ws slot = (word : ℕ) → word < block_size_in form c.clients c.records
    → slice_index ws (block_from_in form c slot + word) ≡ 0

-- a closed slot, with nothing in its block
pub record IsShutIn (form : Form) (c : Counts) (ws : List ℕ) (slot : ℕ) : Type 0 where
  pub gate : slice_index ws (gate_at slot) ≡ CLOSED_GATE
  pub block : IsBlockZeroIn form c ws slot

abbrev pub SlotIsSoundIn : Form → Counts → List ℕ → ℕ → Type 0
SlotIsSoundIn form c ws slot = IsShutIn form c ws slot ⊎ IsOpen ws slot

-- each slot is closed, or open with a name and a kind; no two have queues of one name
pub record DirectoryIsSoundIn (form : Form) (c : Counts) (ws : List ℕ) : Type 0 where
  pub slots : (slot : ℕ) → slot < SLOTS → SlotIsSoundIn form c ws slot
  pub names : IsDirectory (directory_of ws)

pub record AreBrokerWordsIn (form : Form) (ws : List ℕ) : Type 0 where
  pub head : HeadIsSoundIn form ws
  pub directory : DirectoryIsSoundIn form (counts_in ws) ws

-- the words break the rule of the directory, and not that of the head
pub record HasDirectoryBrokenIn (form : Form) (ws : List ℕ) : Type 0 where
  pub head : HeadIsSoundIn form ws
  pub broken : DirectoryIsSoundIn form (counts_in ws) ws → ⊥

-- a refusal by the first rule that is broken
abbrev pub IsBrokerDamagedIn : Form → List ℕ → Refusal → Type 0
IsBrokerDamagedIn form ws (Damaged Image) = HeadIsSoundIn form ws → ⊥
IsBrokerDamagedIn form ws (Damaged Directory) = HasDirectoryBrokenIn form ws
IsBrokerDamagedIn form ws _ = ⊥

-- all this in the form that queues run in
abbrev pub HeadIsSound : List ℕ → Type 0
HeadIsSound = HeadIsSoundIn running

abbrev pub IsBlockZero : Counts → List ℕ → ℕ → Type 0
IsBlockZero = IsBlockZeroIn running

abbrev pub SlotIsSound : Counts → List ℕ → ℕ → Type 0
SlotIsSound = SlotIsSoundIn running

abbrev pub DirectoryIsSound : Counts → List ℕ → Type 0
DirectoryIsSound = DirectoryIsSoundIn running

abbrev pub AreBrokerWords : List ℕ → Type 0
AreBrokerWords = AreBrokerWordsIn running

abbrev pub IsBrokerDamaged : List ℕ → Refusal → Type 0
IsBrokerDamaged = IsBrokerDamagedIn running

-- the block of each slot that is free in the directory is kept all 0
abbrev pub AreFreeBlocksZero : Counts → List ℕ → List (Option Queue) → Type 0
AreFreeBlocksZero c ws directory = (slot : ℕ) → slot < SLOTS → IsFree directory slot → IsBlockZero c ws slot
