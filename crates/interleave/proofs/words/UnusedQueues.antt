-- A queue that begins on words that are all zero, recovery first.
use Rattle.std.proofs.Common.{◌≡◌, ℕ, zero, suc, ◌≤◌, ◌<◌, ◌-◌, List, [], length, Some, filter, map, ◌==◌, replicate, refl, sym, ap, ◌∙◌, arith}
use Rattle.std.proofs.lemmas.List.{ext_get_or, length-append, length-replicate}
use Rattle.std.proofs.lemmas.List.FromFn.{length-map-range_with_len}
use Rattle.std.proofs.lemmas.Option.{get_or_from_slice_get}
use Rattle.words.specs.PlainQueue.{Value}
use Rattle.words.specs.declared.call.Kind.{Kind}
use Rattle.words.specs.declared.call.Kind.TheVariants.{Durable as durable_kind, Log as log_kind}
use Rattle.words.specs.declared.told.Row.TheVariants.{NoCall}
use Rattle.words.specs.declared.told.Told.{Told}
use Rattle.words.specs.declared.told.Told.TheVariants.{None as told_none, Row as told_row}
use Rattle.persist.specs.Memory.{Words, words_after_crash}
use Rattle.arena.specs.Chain.{walk}
use Rattle.arena.specs.Content.{kept_content as content_of}
use Rattle.arena.specs.Shape.{Shape, greatest}
use Rattle.arena.specs.Words.{links, marks, values}
use Rattle.arena.specs.declared.place.Place.{Place}
use Rattle.recover.specs.Table.{boot_recovery}
use Rattle.sound_words.specs.Told.{told_by, tells_by}
use Rattle.protocol.proofs.Facts.{told_at}
use Rattle.interleave.specs.Booted.{booted_world, queue_at_boot}
use Rattle.interleave.specs.Holds.{Holds}
use Rattle.interleave.specs.Queue.{new_queue, told_in}
use Rattle.interleave.specs.Ranges.{AreUnused}
use Rattle.interleave.specs.State.{State, world_over}
use Rattle.interleave.specs.Values.{value_of_place}
use Rattle.interleave.specs.declared.queue.Queue.{Queue}
use Rattle.interleave.proofs.words.Boots.{holds_booted}
use Rattle.interleave.proofs.machine.Holding.{tells_nothing}
use Rattle.interleave.proofs.words.KeptWords.{kept_sound}
use Rattle.interleave.proofs.words.ZeroWords.{holds_over}
use Rattle.interleave.proofs.words.Values.{shown_zero}

-- where all is 0
abbrev zeros : Place → ℕ
zeros p = 0

-- the chain has no node
no_chain : (n : ℕ) → walk n (links zeros) 0 ≡ []
no_chain zero = refl
no_chain (suc n) = refl

holds_nothing : (s : Shape) → content_of s zeros ≡ []
holds_nothing s = ap (λ (ns : List ℕ). map (values zeros) (filter (λ (n : ℕ). marks zeros n == 0) ns)) (no_chain (greatest s))

-- as many are told something
told_count : (kind : Kind) (clients : ℕ) → clients ≤ 16 → length (told_in (new_queue kind clients)) ≡ 16
told_count durable_kind clients few =
    let here : List Told = replicate clients (told_row NoCall) in
    let nobody : List Told = replicate (16 - clients) told_none in
    omega (arith, few, length-append here nobody, length-replicate clients (told_row NoCall), length-replicate (16 - clients) told_none)
told_count log_kind clients few = refl

-- and what a new queue's clients are
tells_of_new : (s : Shape) → 1 ≤ s.clients → s.clients ≤ 16 → tells_by s zeros ≡ told_in (new_queue s.kind s.clients)
tells_of_new s some few =
    let long : length (tells_by s zeros) ≡ 16 = length-map-range_with_len (told_by s zeros) 0 16 in
    ext_get_or told_none (tells_by s zeros) (told_in (new_queue s.kind s.clients)) (long ∙ sym (told_count s.kind s.clients few))
    (λ t lt.
    let below : t < 16 = omega (arith, lt, long) in
    get_or_from_slice_get (tells_by s zeros) t (told_by s zeros t) told_none (told_at s zeros t below)
    ∙ sym (get_or_from_slice_get (told_in (new_queue s.kind s.clients)) t (told_by s zeros t) told_none (tells_nothing s some few t below)))

-- a queue that is told it is a new one
queue_of_new : (kind : Kind) (clients : ℕ) → queue_at_boot kind (told_in (new_queue kind clients)) ≡ new_queue kind clients
queue_of_new durable_kind clients = refl
queue_of_new log_kind clients = refl

module _ (s : Shape) (ws : Words) (unused : AreUnused s ws) (some : 1 ≤ s.clients) (few : s.clients ≤ 16) where
  shown : value_of_place s ws.kept ≡ zeros
  shown = ap (value_of_place s) unused.kept ∙ shown_zero s (length ws.kept)

  tells : tells_by s (value_of_place s ws.kept) ≡ told_in (new_queue s.kind s.clients)
  tells = ap (tells_by s) shown ∙ tells_of_new s some few

  base : content_of s (value_of_place s ws.kept) ≡ []
  base = ap (content_of s) shown ∙ holds_nothing s

  queue : queue_at_boot s.kind (tells_by s (value_of_place s ws.kept)) ≡ new_queue s.kind s.clients
  queue = ap (queue_at_boot s.kind) tells ∙ queue_of_new s.kind s.clients

  words : words_after_crash ws ≡ ws
  words = ap (λ (xs : List ℕ). let v : Words = record ws { cached = xs } in v) (unused.kept ∙ sym unused.cached)

  -- a world that begins on unused words is a new one whose recovery comes first
  pub booted_unused : booted_world s ws ≡ record (world_over s ws) { recovery = Some boot_recovery }
  booted_unused =
      let booted : State = booted_world s ws in
      let new : State = world_over s ws in
      ap (λ (x : Words). let w : State = record booted { words = x } in w) words
      ∙ ap (λ (x : Queue). let w : State = record booted { words = ws; queue = x } in w) queue
      ∙ ap (λ (x : List Value). let w : State = record booted { words = ws; queue = new.queue; base = x } in w) base
      ∙ ap (λ (x : List Told). let w : State = record booted { words = ws; queue = new.queue; base = []; told = x } in w) tells

  pub holds_unused : Holds (booted_world s ws)
  holds_unused = holds_booted s ws some few (kept_sound (world_over s ws) (holds_over s ws unused some few))
