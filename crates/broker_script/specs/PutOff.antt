-- A line that was refused for want of memory before anything was made of it.
use Rattle.std.specs.Prelude.{◌≡◌, ◌≢◌, ℕ, Result, Ok, Err}
use Rattle.words.specs.declared.refusal.Refusal.{Refusal}
use Rattle.words.specs.declared.refusal.Refusal.TheVariants.{NoMemory}
use Rattle.named.specs.Brokers.{Brokered, quiet, world_at}
use Rattle.session.specs.Sessions.{kept_in}
use Rattle.broker_script.specs.Play.{Played}
use Rattle.playing.specs.declared.put_off.Unfollowed.{Unfollowed}
use Rattle.playing.specs.declared.put_off.Unfollowed.TheVariants.{PutOff, Halfway}

-- each word, each queue's world, the directory, what is under way and what is kept of each client are as before. How
-- many accesses the memory had may differ, and so may the room in histories
pub record IsAsBefore (old new : Brokered) : Type 0 where
  pub counts : new.counts ≡ old.counts
  pub cached : new.words.cached ≡ old.words.cached
  pub kept : new.words.kept ≡ old.words.kept
  pub worlds : (slot : ℕ) → quiet (world_at new slot) ≡ quiet (world_at old slot)
  pub directory : new.directory ≡ old.directory
  pub creation : new.creation ≡ old.creation
  pub recovery : new.recovery ≡ old.recovery

pub record IsPutOff (old new : Played) : Type 0 where
  pub broker : IsAsBefore old.broker new.broker
  pub kept : (slot client : ℕ) → kept_in new.kept slot client ≡ kept_in old.kept slot client
  pub others : new ≡ record old { broker = new.broker; kept = new.kept }

-- a result that is not for want of memory
abbrev pub HadMemory : {A : Type 0} → Result A Refusal → Type 0
HadMemory result = result ≢ Err NoMemory

-- what a line leaves that gave nothing
abbrev pub PutsOff : {A : Type 0} → Played → Result A Unfollowed → Played → Type 0
PutsOff old (Ok lines) new = Unit {0}
PutsOff old (Err PutOff) new = IsPutOff old new
PutsOff old (Err Halfway) new = Unit {0}
