-- A queue that begins on kept words, as they may lie after a crash: its recovery comes first.
use Rattle.std.specs.Prelude.{◌≡◌, ℕ, ◌≤◌, List, [], Some, None}
use Rattle.words.specs.declared.limits.TheConstants.{MAX_CLIENTS}
use Rattle.words.specs.declared.told.Told.{Told}
use Rattle.arena.specs.Content.{kept_content}
use Rattle.arena.specs.Place.{IsPlace}
use Rattle.arena.specs.Shape.{Shape}
use Rattle.arena.specs.declared.place.Place.{Place}
use Rattle.sound_words.specs.Sound.{IsSound}
use Rattle.recover.specs.Table.{boot_recovery}
use Rattle.sound_words.specs.Told.{tells_by}
use Rattle.protocol.specs.Machine.{World}

-- recovery begins; nobody calls, and the history is empty. What the words hold and tell is what it begins with
abbrev pub world_at_boot : Shape → (Place → ℕ) → List Told → World
world_at_boot s k told = record {
  shape = s;
  memory = record { cached = k; kept = k };
  calls = λ j. None;
  recovery = Some boot_recovery;
  base = kept_content s k;
  told = told;
  log = record { events = []; issued = []; effects = [] };
}

-- the same, with what the words tell
abbrev pub world_on : Shape → (Place → ℕ) → World
world_on s k = world_at_boot s k (tells_by s k)

-- the words of the layout are sound, those of places that it does not have are 0, and there are 1 to 16 clients
pub record MayBoot (s : Shape) (k : Place → ℕ) : Type 0 where
  pub some : 1 ≤ s.clients
  pub few : s.clients ≤ MAX_CLIENTS
  pub sound : IsSound s k
  pub nowhere : (p : Place) → (IsPlace s p → ⊥) → k p ≡ 0
