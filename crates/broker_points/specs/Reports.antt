-- What a report on the points of a broker's script says.
use Rattle.std.specs.Prelude.{ℕ, zero, suc, Bool, true, List, [], ◌++◌, Option, Some, None, length, slice_get, codes, decimal}
use Rattle.words.specs.Text.{told_text}
use Rattle.directory.specs.declared.queue.Queue.{Queue}
use Rattle.interleave.specs.State.{State, kept_content}
use Rattle.named.specs.Brokers.{Brokered}
use Rattle.playing.specs.Transcript.{told_at}
use Rattle.script_reports.specs.Reports.{content_text, end_text}
use Rattle.broker_script.specs.Play.{Played, the_world}

-- what the clients below this one are told, parted by commas
abbrev pub told_lead : ℕ → List ℕ
told_lead zero = codes " "
told_lead (suc client) = codes ", "

abbrev pub told_texts : State → ℕ → List ℕ
told_texts w zero = []
told_texts w (suc client) = told_texts w client ++ (told_lead client ++ told_text (told_at w client))

-- what all clients of a queue are
abbrev pub all_told_text : Brokered → ℕ → List ℕ
all_told_text b slot = told_texts (the_world b slot) b.counts.clients

-- a queue: what each client is told, and what it holds
abbrev pub queue_text : Brokered → ℕ → List ℕ → List ℕ
queue_text b slot name =
    codes "; " ++ name ++ codes ": told" ++ all_told_text b slot
    ++ content_text (kept_content (the_world b slot))

-- each queue, in slot order
abbrev pub place_text : Brokered → ℕ → Option (Option Queue) → List ℕ
place_text b slot (Some (Some queue)) = queue_text b slot queue.name
place_text b slot (Some None) = []
place_text b slot None = []

abbrev pub slot_text : Brokered → ℕ → List ℕ
slot_text b slot = place_text b slot (slice_get b.directory slot)

abbrev pub places_text : Brokered → ℕ → List ℕ
places_text b zero = []
places_text b (suc slot) = places_text b slot ++ slot_text b slot

abbrev pub queues_text : Brokered → List ℕ
queues_text b = places_text b (length b.directory)

-- the line of a point, in its parts
abbrev pub start_text : ℕ → ℕ → List ℕ
start_text number steps = codes "point " ++ (decimal number ++ (codes ": recovery " ++ decimal steps))

abbrev pub line_of_point : ℕ → Played → Bool → List ℕ
line_of_point number p ok =
    start_text number p.recovery ++ queues_text p.broker ++ end_text ok

-- of one that is ok
abbrev pub point_text : ℕ → Played → List ℕ
point_text number p = line_of_point number p true
