-- A world that begins on kept words, as a crash left them: its recovery comes first.
use Rattle.std.specs.Prelude.{◌≡◌, ℕ, List, [], Some, None, replicate}
use Rattle.words.specs.declared.call.Kind.{Kind}
use Rattle.words.specs.declared.call.Kind.TheVariants.{Durable as durable_kind, Log as log_kind}
use Rattle.words.specs.declared.told.Told.{Told}
use Rattle.persist.specs.Memory.{Words, words_after_crash}
use Rattle.arena.specs.Content.{kept_content}
use Rattle.interleave.specs.LogQueue.{told_queue}
use Rattle.words.specs.declared.refusal.Refusal.{Refusal}
use Rattle.words.specs.declared.refusal.Refusal.TheVariants.{NoMemory}
use Rattle.arena.specs.Shape.{Shape}
use Rattle.sound_words.specs.Sound.{AreSoundWords, IsDamaged}
use Rattle.recover.specs.Table.{boot_recovery}
use Rattle.sound_words.specs.Told.{tells_by}
use Rattle.interleave.specs.Core.{CoreState, state_of}
use Rattle.interleave.specs.Holds.{Holds}
use Rattle.interleave.specs.Values.{value_of_place}
use Rattle.interleave.specs.State.{State}
use Rattle.interleave.specs.declared.queue.Queue.{Queue}
use Rattle.interleave.specs.declared.queue.Queue.TheVariants.{Durable, Log}

-- a queue whose clients are told this
abbrev pub queue_at_boot : Kind → List Told → Queue
queue_at_boot durable_kind told = Durable told
queue_at_boot log_kind told = Log (told_queue told)

-- nobody calls and nothing happened yet; what the kept words hold and tell is what it begins with
abbrev pub booted_world : Shape → Words → State
booted_world s ws = record {
  shape = s;
  words = words_after_crash ws;
  queue = queue_at_boot s.kind (tells_by s (value_of_place s ws.kept));
  calls = replicate s.clients None;
  base = kept_content s (value_of_place s ws.kept);
  told = tells_by s (value_of_place s ws.kept);
  log = record { events = []; issued = []; effects = [] };
  recovery = Some boot_recovery;
}

-- why it may not begin: the words break a rule, the first of them this; or they are sound, and there is no memory
abbrev pub MayRefuse : Shape → List ℕ → Refusal → Type 0
MayRefuse s ws NoMemory = AreSoundWords s ws
MayRefuse s ws refusal = IsDamaged s ws refusal

-- a core that begins on these kept words, whatever was cached; and what holds of every world holds of it there
abbrev pub IsBootedOn : Shape → List ℕ → CoreState → Type 0
IsBootedOn s kept c = (ws : Words) → ws.kept ≡ kept → state_of c (words_after_crash ws) ≡ booted_world s ws

abbrev pub HoldsOn : List ℕ → CoreState → Type 0
HoldsOn kept c = (ws : Words) → ws.kept ≡ kept → Holds (state_of c (words_after_crash ws))
