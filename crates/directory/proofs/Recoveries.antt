-- The recovery of a directory: what a step comes to, and what holds of the words while it is under way.
use Rattle.std.proofs.Common.{◌≡◌, ℕ, suc, ◌+◌, ◌<◌, ◌≤◌, Bool, true, false, List, Option, Some, None, refl, sym, ◌∙◌, ap, arith, inl, inr, ◌⊎◌, length-set, slice_index, slice_set}
use Rattle.std.specs.Prelude.{◌==◌, nat_lt, slice_get, replicate, IfSome, if◌then◌else◌}
use Rattle.std.proofs.lemmas.Bool.Decides.{eqb_tells, leb_tells}
use Rattle.std.proofs.lemmas.List.{get_or-replicate}
use Rattle.std.proofs.lemmas.Option.{slice_get-get_or}
use Rattle.persist.specs.Memory.{Words, Load, words_after_access, words_after_eviction}
use Rattle.arena.specs.Shape.{Counts}
use Rattle.arena.specs.declared.broker.SlotId.{SlotId}
use Rattle.arena.specs.declared.broker.BrokerPlace.TheVariants.{QueueKind}
use Rattle.directory.specs.Queue.{first_name_at, second_name_at, kind_at, gate_at, queue_of, queue_in, slot_in, IsOpenSlot}
use Rattle.directory.specs.Directory.{Directory}
use Rattle.directory.specs.UnderWay.{IsSettled, IsAtRest, HaveSameDirectory}
use Rattle.directory.specs.Recovering.{AreFoundBefore, IsLoaded, IsRecovering, Finds, left_of_slot, due_of_slot, IsOneLess}
use Rattle.directory.specs.declared.queue.Queue.{Queue}
use Rattle.directory.proofs.SlotWords.{evicted_same}
use Rattle.directory.proofs.Creations.{rest_moves, counted, rest_evicted, slot_open, set_here, set_there, directory_is, kept_directory}
use Rattle.directory.specs.Step.{after_one, value_found}
use Rattle.directory.specs.Recovery.{access_of, load_of, slot_at, recovery_at, boot_recovery, past_slot, queue_found, recovered, recovered_at}
use Rattle.directory.specs.declared.recovery.DirectoryPoint.{DirectoryPoint}
use Rattle.directory.specs.declared.recovery.DirectoryPoint.TheVariants.{LoadGate, LoadFirstName, LoadSecondName, LoadKind}
use Rattle.directory.specs.declared.recovery.DirectoryRecovery.{DirectoryRecovery}

-- a step that loads the kind
pub kind_step : (c : Counts) (ws : Words) (recovery : DirectoryRecovery) (slot : SlotId) (first second found : ℕ)
    → recovery.at ≡ LoadKind slot first second → found ≡ value_found c (Load (QueueKind slot)) ws
    → queue_found recovery.places slot (queue_of first second found) ≡ recovered recovery (value_found c (access_of recovery) ws)
kind_step c ws recovery slot first second found at is =
    ap (λ (k : ℕ). queue_found recovery.places slot (queue_of first second k)) is
    ∙ sym (ap (λ (p : DirectoryPoint). recovered_at recovery.places p (value_found c (Load (load_of p)) ws)) at)

-- a number is below another, or not
lt_tells : (a b : ℕ) → ((nat_lt a b ≡ true) × (a < b)) ⊎ ((nat_lt a b ≡ false) × (b ≤ a))
lt_tells a b = elim (leb_tells (suc a) b) [ inl e ↦ inl (e.0, omega arith) | inr e ↦ inr (e.0, omega arith) ]

-- where the words say that no gate is open, the slot has nothing
slot_shut : (ws : List ℕ) (slot : ℕ) → (slice_index ws (gate_at slot) == 1) ≡ false → slot_in ws slot ≡ None
slot_shut ws slot shut = ap (λ (b : Bool). if b then queue_in ws slot else None) shut

-- one slot more was read
pub found_more : (directory places : Directory) (slot : ℕ) → slot < 8 → AreFoundBefore places directory slot → slice_get directory slot ≡ Some None → AreFoundBefore places directory (slot + 1)
found_more directory places slot below h free = record {
  count = h.count;
  before = λ other small. elim (eqb_tells other slot) [
    | inl e ↦ ap (λ (s : ℕ). slice_get places s) e.1 ∙ (h.from slot (omega arith) below ∙ (sym free ∙ ap (λ (s : ℕ). slice_get directory s) (sym e.1)))
    | inr e ↦ h.before other (omega (arith, e.1))
  ];
  from = λ other large small. h.from other (omega arith) small;
}

pub found_queue : (directory places : Directory) (slot : ℕ) (value : Option Queue) → slot < 8 → AreFoundBefore places directory slot → slice_get directory slot ≡ Some value → AreFoundBefore (slice_set places slot value) directory (slot + 1)
found_queue directory places slot value below h is = record {
  count = length-set places slot value ∙ h.count;
  before = λ other small. elim (eqb_tells other slot) [
    | inl e ↦ ap (λ (s : ℕ). slice_get (slice_set places slot value) s) e.1 ∙ (set_here places slot value (omega (arith, h.count)) ∙ (sym is ∙ ap (λ (s : ℕ). slice_get directory s) (sym e.1)))
    | inr e ↦ set_there places slot other value (omega (arith, h.count)) e.1 ∙ h.before other (omega (arith, e.1))
  ];
  from = λ other large small. set_there places slot other value (omega (arith, h.count)) (λ e. omega arith) ∙ h.from other (omega arith) small;
}

module _ (c : Counts) (ws : Words) (directory : Directory) (rest : IsAtRest ws directory) where
  -- a load leaves the directory at rest
  loaded : IsAtRest (words_after_access ws) directory
  loaded = rest_moves ws (words_after_access ws) (counted ws rest.room) directory rest

  -- all slots were read
  found_all : (places : Directory) (slot : ℕ) → 8 ≤ slot → AreFoundBefore places directory slot → places ≡ directory
  found_all places slot all h =
      sym (directory_is ws.kept places h.count (λ other below. h.before other (omega arith) ∙ (rest.slots other below).same))
      ∙ kept_directory ws directory rest

  past : (places : Directory) (slot : SlotId) → slot.0 < 8 → AreFoundBefore places directory (slot.0 + 1) → Finds (words_after_access ws) directory (past_slot places slot)
  past places slot below h = elim (lt_tells (slot.0 + 1) 8) [
    | inl e ↦ rw e.0 (record { rest = loaded; in_range = e.1; found = h; loaded = tt })
    | inr e ↦ rw e.0 (found_all places (slot.0 + 1) e.1 h)
  ]

  settled : (slot : ℕ) → slot < 8 → IsSettled ws slot
  settled slot below = (rest.slots slot below).settled

  finds : (places : Directory) (at : DirectoryPoint) → slot_at at < 8 → AreFoundBefore places directory (slot_at at) → IsLoaded ws at
      → Finds (words_after_access ws) directory (recovered_at places at (value_found c (Load (load_of at)) ws)).after
  finds places (LoadGate slot) below h known =
      let gate = (settled slot.0 below).gate in
      let own = (rest.slots slot.0 below).same in
      elim (eqb_tells (slice_index ws.cached (gate_at slot.0)) 1) [
        | inl e ↦ rw e.0 (record { rest = loaded; in_range = below; found = h; loaded = sym gate ∙ e.1 })
        | inr e ↦
            let shut : (slice_index ws.kept (gate_at slot.0) == 1) ≡ false = ap (λ (g : ℕ). g == 1) (sym gate) ∙ e.0 in
            rw e.0 (past places slot below (found_more directory places slot.0 below h (own ∙ ap Some (slot_shut ws.kept slot.0 shut))))
      ]
  finds places (LoadFirstName slot) below h known =
      record { rest = loaded; in_range = below; found = h; loaded = (known, sym (settled slot.0 below).first) }
  finds places (LoadSecondName slot first) below h known =
      record { rest = loaded; in_range = below; found = h; loaded = (known.0, known.1, sym (settled slot.0 below).second) }
  finds places (LoadKind slot first second) below h known =
      let found : ℕ = slice_index ws.cached (kind_at slot.0) in
      let has : slot_in ws.kept slot.0 ≡ queue_of first second found =
      slot_open ws.kept slot.0 known.0
      ∙ (ap (λ (w : ℕ). queue_of w (slice_index ws.kept (second_name_at slot.0)) (slice_index ws.kept (kind_at slot.0))) known.1
      ∙ (ap (λ (w : ℕ). queue_of first w (slice_index ws.kept (kind_at slot.0))) known.2
      ∙ ap (λ (w : ℕ). queue_of first second w) (sym (settled slot.0 below).kind))) in
      past (slice_set places slot.0 (queue_of first second found)) slot below
      (found_queue directory places slot.0 (queue_of first second found) below h ((rest.slots slot.0 below).same ∙ ap Some has))

pub recovery_finds : (c : Counts) (ws : Words) (recovery : DirectoryRecovery) (directory : Directory) → IsRecovering ws recovery directory
    → Finds (after_one c (access_of recovery) ws) directory (recovered recovery (value_found c (access_of recovery) ws)).after
recovery_finds c ws recovery directory h = finds c ws directory h.rest recovery.places recovery.at h.in_range h.found h.loaded

-- it begins on a directory at rest
pub recovery_begins : (ws : Words) (directory : Directory) → IsAtRest ws directory → IsRecovering ws boot_recovery directory
recovery_begins ws directory h = record {
  rest = h;
  in_range = omega arith;
  found = record {
    count = refl;
    before = λ other small. absurd (omega arith);
    from = λ other large small. slice_get-get_or (replicate 8 None) other None small ∙ ap Some (get_or-replicate 8 other None None small);
  };
  loaded = tt;
}

-- it stays where the words of the directory stay, and in evictions
loaded_moves : (old new : Words) → ((w : ℕ) → w < 34 → slice_index new.kept w ≡ slice_index old.kept w) → (at : DirectoryPoint) → slot_at at < 8 → IsLoaded old at → IsLoaded new at
loaded_moves old new same (LoadGate slot) below h = tt
loaded_moves old new same (LoadFirstName slot) below h = same (gate_at slot.0) (omega arith) ∙ h
loaded_moves old new same (LoadSecondName slot first) below h = (same (gate_at slot.0) (omega arith) ∙ h.0, same (first_name_at slot.0) (omega arith) ∙ h.1)
loaded_moves old new same (LoadKind slot first second) below h =
    (same (gate_at slot.0) (omega arith) ∙ h.0, same (first_name_at slot.0) (omega arith) ∙ h.1, same (second_name_at slot.0) (omega arith) ∙ h.2)

pub recovery_moves : (old new : Words) (recovery : DirectoryRecovery) (directory : Directory) → IsRecovering old recovery directory → HaveSameDirectory old new → IsRecovering new recovery directory
recovery_moves old new recovery directory h same = record {
  rest = rest_moves old new same directory h.rest;
  in_range = h.in_range;
  found = h.found;
  loaded = loaded_moves old new same.kept recovery.at h.in_range h.loaded;
}

loaded_evicted : (ws : Words) (word : ℕ) (directory : Directory) → IsAtRest ws directory → (at : DirectoryPoint) → slot_at at < 8 → IsLoaded ws at → IsLoaded (words_after_eviction word ws) at
loaded_evicted ws word directory rest (LoadGate slot) below h = tt
loaded_evicted ws word directory rest (LoadFirstName slot) below h = let s = evicted_same ws word slot.0 below rest.room.kept (rest.slots slot.0 below).settled in s.gate ∙ h
loaded_evicted ws word directory rest (LoadSecondName slot first) below h = let s = evicted_same ws word slot.0 below rest.room.kept (rest.slots slot.0 below).settled in (s.gate ∙ h.0, s.first ∙ h.1)
loaded_evicted ws word directory rest (LoadKind slot first second) below h = let s = evicted_same ws word slot.0 below rest.room.kept (rest.slots slot.0 below).settled in (s.gate ∙ h.0, s.first ∙ h.1, s.second ∙ h.2)

pub recovery_evicted : (ws : Words) (word : ℕ) (recovery : DirectoryRecovery) (directory : Directory) → IsRecovering ws recovery directory → IsRecovering (words_after_eviction word ws) recovery directory
recovery_evicted ws word recovery directory h = record {
  rest = rest_evicted ws word directory h.rest;
  in_range = h.in_range;
  found = h.found;
  loaded = loaded_evicted ws word directory h.rest recovery.at h.in_range h.loaded;
}

-- it has fewer steps left after each
past_less : (recovery : DirectoryRecovery) (places : Directory) (slot : SlotId) → slot_at recovery.at ≡ slot.0 → 1 ≤ left_of_slot recovery.at → due_of_slot recovery.at ≤ 1 → IsOneLess recovery (past_slot places slot)
past_less recovery places slot at some due = elim (lt_tells (slot.0 + 1) 8) [
  | inl e ↦ rw e.0 (omega arith, omega arith)
  | inr e ↦ rw e.0 (omega arith, omega arith)
]

less : (places places_then : Directory) (at : DirectoryPoint) (found : ℕ) → places ≡ places_then → IsOneLess (recovery_at places at) (recovered_at places_then at found).after
less places places_then (LoadGate slot) found same = elim (eqb_tells found 1) [
  | inl e ↦ rw e.0 (omega arith, omega arith)
  | inr e ↦ rw e.0 (past_less (recovery_at places (LoadGate slot)) places_then slot refl (omega arith) (omega arith))
]
less places places_then (LoadFirstName slot) found same = (omega arith, omega arith)
less places places_then (LoadSecondName slot first) found same = (omega arith, omega arith)
less places places_then (LoadKind slot first second) found same =
    past_less (recovery_at places (LoadKind slot first second)) (slice_set places_then slot.0 (queue_of first second found)) slot refl (omega arith) (omega arith)

pub one_less : (recovery : DirectoryRecovery) (found : ℕ) → IsOneLess recovery (recovered recovery found).after
one_less recovery found = less recovery.places recovery.places recovery.at found refl

-- a slot whose gate it found open is open, and has a queue
opened_at : (c : Counts) (ws : Words) (places directory : Directory) (at : DirectoryPoint) → IsAtRest ws directory → slot_at at < 8
    → IfSome (recovered_at places at (value_found c (Load (load_of at)) ws)).opened (λ slot. IsOpenSlot ws.kept slot.0)
opened_at c ws places directory (LoadGate slot) rest below =
    let own = rest.slots slot.0 below in
    elim (eqb_tells (slice_index ws.cached (gate_at slot.0)) 1) [
      | inl e ↦ rw e.0 (elim own.sound [ inl shut ↦ absurd (let one : 0 ≡ 1 = sym shut ∙ (sym own.settled.gate ∙ e.1) in omega arith) | inr opened ↦ record { in_range = below; opened = opened } ])
      | inr e ↦ rw e.0 tt
    ]
opened_at c ws places directory (LoadFirstName slot) rest below = tt
opened_at c ws places directory (LoadSecondName slot first) rest below = tt
opened_at c ws places directory (LoadKind slot first second) rest below = tt

pub recovery_opens : (c : Counts) (ws : Words) (recovery : DirectoryRecovery) (directory : Directory) → IsRecovering ws recovery directory
    → IfSome (recovered recovery (value_found c (access_of recovery) ws)).opened (λ slot. IsOpenSlot ws.kept slot.0)
recovery_opens c ws recovery directory h = opened_at c ws recovery.places directory recovery.at h.rest h.in_range
