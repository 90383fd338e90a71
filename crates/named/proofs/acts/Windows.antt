-- An act through a window on a block: the queue acted on the words of its block and through its own ports alone.
use Rattle.std.proofs.Common.{◌≡◌, ◌≢◌, ℕ, ◌+◌, ◌<◌, ◌≤◌, ◌⊎◌, inl, inr, Bool, List, Option, None, Some, Result, Ok, Err, drop, length, slice_set, refl, sym, ap, subst, ◌∙◌, arith}
use Rattle.std.specs.Prelude.{IfErr, IfOk, IfSome}
use Rattle.std.proofs.lemmas.List.{length-drop, length-take}
use Rattle.words.specs.declared.call.Call.{Call}
use Rattle.words.specs.declared.call.Client.{Client}
use Rattle.words.specs.declared.call.Reply.{Reply}
use Rattle.words.specs.declared.limits.TheConstants.{QUEUE_PORTS, RECOVERY_PORT}
use Rattle.words.specs.declared.refusal.Refusal.{Refusal}
use Rattle.words.specs.declared.refusal.Refusal.TheVariants.{NoMemory}
use Rattle.persist.specs.Memory.{Around, IsSameOutside, Lent, MemoryState, Request, Words, asked_through, lent_part}
use Rattle.persist.specs.Memory.{seen_in, words_in}
use Rattle.persist.specs.Noted.{IsNoted, change_behind}
use Rattle.persist.specs.declared.access.Change.{Change}
use Rattle.persist.proofs.Facts.{asked_elsewhere, bare_part, outside_left, part_noted}
use Rattle.interleave.specs.Asked.{AreAsked, lent_after_alone, lent_after_recover, lent_after_step}
use Rattle.interleave.specs.Calls.{is_no_memory}
use Rattle.interleave.specs.Core.{CoreState, roomy_over, state_of}
use Rattle.interleave.specs.Holds.{Holds}
use Rattle.interleave.specs.Rules.{IsByAlone, IsByRule, Rule, waiting_in}
use Rattle.interleave.specs.State.{State, IsAnsweredAlone, after_alone, after_evict, after_recover, after_start}
use Rattle.interleave.specs.State.{after_step}
use Rattle.interleave.proofs.Facts.{AskElsewhere, all_same, around_alone, around_recovered, around_stepped, asked_alone}
use Rattle.interleave.proofs.Facts.{asked_evicted, asked_recovered, asked_same, asked_started, asked_stepped}
use Rattle.named.proofs.acts.Shapes.{alone_alike}
use Rattle.named.specs.Blocks.{AskAlikeBeside, BlockState, IsActIn, IsAloneIn, IsAskedIn, IsBeside, IsWithinBlock}
use Rattle.named.specs.Blocks.{IsWellIn, requests_in, state_in}

-- the first of a queue's ports is one of them
pub through_first : (lent : Lent) (name : ℕ) (was : BlockState) (m : MemoryState) → lent ≡ lent_part name was.port was.from was.len m
    → lent ≡ lent_part name (was.port + 0) was.from was.len m
through_first lent name was m e = e ∙ ap (λ (n : ℕ). lent_part name n was.from was.len m) (omega arith)

-- the queue with this core, where it was
abbrev pub with_core : BlockState → CoreState → BlockState
with_core block core = record block { core = core }

-- what such an act leaves of the whole memory
pub record ActedIn (old new : MemoryState) (was : BlockState) (core : CoreState) (after : State) : Type 0 where
  pub state : state_in new.words (with_core was core) ≡ after
  pub well : IsWellIn new.words (with_core was core)
  pub asked : IsAskedIn new (with_core was core)
  pub beside : AskAlikeBeside was.port old new
  pub outside : IsSameOutside was.from was.len old.words new.words

-- what such an act leaves, by the shape of what it leaves
pub left_within : (old new : MemoryState) (was : BlockState) (core : CoreState) (after : State) → ActedIn old new was core after
    → after.shape ≡ was.core.shape → IsWithinBlock old was new (with_core was core)
left_within old new was core after acted shape = record {
  well = acted.well;
  asked = acted.asked;
  beside = acted.beside;
  outside = acted.outside;
  place = (refl, refl, refl, ap (λ (w : State). w.shape) acted.state ∙ shape);
}

-- the window as it was lent, and as it came back
pub record Window (old new : MemoryState) (was : BlockState) (core : CoreState) (name port name2 port2 from2 len2 : ℕ) (first : Lent) (ws : Words) : Type 0 where
  pub well : IsWellIn old.words was
  pub asked : IsAskedIn old was
  pub own : port < QUEUE_PORTS
  pub lent : first ≡ lent_part name (was.port + port) was.from was.len old
  pub words : ws ≡ words_in was.from was.len old.words
  pub inside : from2 + len2 ≤ length new.words.cached
  pub holds : Holds (state_of core (words_in from2 len2 new.words))

-- what a call alone leaves, answered or refused
abbrev pub AloneIn : MemoryState → MemoryState → BlockState → CoreState → Client → Result (Reply × ℕ) Refusal → Type 0
AloneIn old new was core client (Err refusal) = ActedIn old new was core (state_in old.words was)
AloneIn old new was core client (Ok answer) = ActedIn old new was core (after_alone answer.1 (state_in old.words was) client)

module _ (old new : MemoryState) (was : BlockState) (core : CoreState) (client : Client) where
  pub alone_same : (result : Result (Reply × ℕ) Refusal) → AloneIn old new was core client result
      → IfErr result (λ e. state_in new.words (with_core was core) ≡ state_in old.words was)
  alone_same (Err refusal) acted = acted.state
  alone_same (Ok answer) acted = tt

  pub alone_world : (result : Result (Reply × ℕ) Refusal) → AloneIn old new was core client result
      → IfOk result (λ answer. state_in new.words (with_core was core) ≡ after_alone answer.1 (state_in old.words was) client)
  alone_world (Err refusal) acted = tt
  alone_world (Ok answer) acted = acted.state

module _ (old new : MemoryState) (was : BlockState) (core : CoreState) (name port name2 port2 from2 len2 : ℕ) (first : Lent) (ws : Words)
    (window : Window old new was core name port name2 port2 from2 len2 first ws) where
  -- the world before it
  abbrev world : State
  world = state_of was.core ws

  before : state_in old.words was ≡ world
  before = ap (state_of was.core) (sym window.words)

  held : Holds world
  held = subst Holds before window.well.holds

  asked_before : AreAsked world.shape world.calls world.recovery (requests_in old was)
  asked_before = record { of_calls = window.asked.of_calls; of_recovery = window.asked.of_recovery }

  own_request : first.request ≡ requests_in old was port
  own_request = ap (λ (l : Lent). l.request) window.lent

  -- whatever it came to, where no more than the port's own request changed around the words
  came_to : (after : State) (last : Lent) → state_of core (words_in from2 len2 new.words) ≡ after → lent_part name2 port2 from2 len2 new ≡ last → last.around ≡ first.around
      → ((requests : ℕ → Request) → requests port ≡ last.request → AskElsewhere (requests_in old was) requests port → AreAsked after.shape after.calls after.recovery requests)
      → ActedIn old new was core after
  came_to after last came lent stays asks = record {
    state = there ∙ came;
    well = record {
      some = window.well.some;
      inside = omega (arith, window.inside, from, len);
      ports = window.well.ports;
      holds = subst Holds (sym there) window.holds;
    };
    asked = subst (λ (w : State). AreAsked w.shape w.calls w.recovery (requests_in new was)) (sym came) (asks (requests_in new was) here elsewhere);
    beside = λ p beside. others p (λ e. outside_own p e beside);
    outside = outside_left name (was.port + port) was.from was.len name2 port2 from2 len2 old new around;
  }
    where
      around : (lent_part name2 port2 from2 len2 new).around ≡ (lent_part name (was.port + port) was.from was.len old).around
      around = ap (λ (l : Lent). l.around) lent ∙ stays ∙ ap (λ (l : Lent). l.around) window.lent

      from : from2 ≡ was.from
      from = ap (λ (a : Around). a.from) around

      len : len2 ≡ was.len
      len = ap (λ (a : Around). a.len) around

      through : port2 ≡ was.port + port
      through = ap (λ (a : Around). a.port) around

      there : state_of core (words_in was.from was.len new.words) ≡ state_of core (words_in from2 len2 new.words)
      there = ap (state_of core) (bare_part name (was.port + port) was.from was.len name2 port2 from2 len2 old new around)

      here : requests_in new was port ≡ last.request
      here = ap (λ (n : ℕ). seen_in n was.len (asked_through new (was.port + port))) (sym from)
          ∙ ap (λ (n : ℕ). seen_in from2 n (asked_through new (was.port + port))) (sym len)
          ∙ ap (λ (n : ℕ). seen_in from2 len2 (asked_through new n)) (sym through) ∙ ap (λ (l : Lent). l.request) lent

      others : (p : ℕ) → p ≢ was.port + port → asked_through new p ≡ asked_through old p
      others p ne =
          asked_elsewhere old.asked new.asked (was.port + port) p ne
          (ap (λ (n : ℕ). slice_set new.asked n None) (sym through) ∙ ap (λ (a : Around). a.others) around)

      elsewhere : AskElsewhere (requests_in old was) (requests_in new was) port
      elsewhere t ne = ap (seen_in was.from was.len) (others (was.port + t) (λ e. ne (omega (arith, e))))

      outside_own : (p : ℕ) → p ≡ was.port + port → IsBeside was.port p → ⊥
      outside_own p e (inl low) = omega (arith, e, low)
      outside_own p e (inr high) = omega (arith, e, high, window.own)

  -- nothing was asked for
  unasked : (after : State) → lent_part name2 port2 from2 len2 new ≡ first → state_of core (words_in from2 len2 new.words) ≡ after
      → ((requests : ℕ → Request) → ((t : ℕ) → requests t ≡ requests_in old was t) → AreAsked after.shape after.calls after.recovery requests) → ActedIn old new was core after
  unasked after lent came asks =
      came_to after first came lent refl (λ requests here there. asks requests (all_same (requests_in old was) requests port (here ∙ own_request) there))

  pub stepped_in : (full : Bool) (client : Client) → client.0 ≡ port → state_of core (words_in from2 len2 new.words) ≡ after_step full world client
      → lent_part name2 port2 from2 len2 new ≡ lent_after_step full world client first → ActedIn old new was core (after_step full (state_in old.words was) client)
  stepped_in full client its came lent =
      subst (λ (w : State). ActedIn old new was core (after_step full w client)) (sym before)
      (came_to (after_step full world client) (lent_after_step full world client first) came lent (around_stepped full world client first)
      (λ requests here there. asked_stepped full world client first (requests_in old was) requests held (own_request ∙ ap (requests_in old was) (sym its))
      (ap requests its ∙ here) (λ t ne. there t (λ e. ne (e ∙ sym its))) asked_before))

  pub recovered_in : (full : Bool) → RECOVERY_PORT ≡ port → state_of core (words_in from2 len2 new.words) ≡ after_recover full world
      → lent_part name2 port2 from2 len2 new ≡ lent_after_recover full world first → ActedIn old new was core (after_recover full (state_in old.words was))
  recovered_in full its came lent =
      subst (λ (w : State). ActedIn old new was core (after_recover full w)) (sym before)
      (came_to (after_recover full world) (lent_after_recover full world first) came lent (around_recovered full world first)
      (λ requests here there. asked_recovered full world first (requests_in old was) requests held (own_request ∙ ap (requests_in old was) (sym its))
      (ap requests its ∙ here) (λ t ne. there t (λ e. ne (e ∙ sym its))) asked_before))

  pub started_in : (full : Bool) (client : Client) (number : ℕ) (call : Call) → state_of core (words_in from2 len2 new.words) ≡ after_start full world client number call
      → lent_part name2 port2 from2 len2 new ≡ first → ActedIn old new was core (after_start full (state_in old.words was) client number call)
  started_in full client number call came lent =
      subst (λ (w : State). ActedIn old new was core (after_start full w client number call)) (sym before)
      (unasked (after_start full world client number call) lent came
      (λ requests same. asked_started full world client number call (requests_in old was) requests held same asked_before))

  pub evicted_in : (word : ℕ) → state_of core (words_in from2 len2 new.words) ≡ after_evict world word
      → lent_part name2 port2 from2 len2 new ≡ first → ActedIn old new was core (after_evict (state_in old.words was) word)
  evicted_in word came lent =
      subst (λ (w : State). ActedIn old new was core (after_evict w word)) (sym before)
      (unasked (after_evict world word) lent came (λ requests same. asked_evicted world word (requests_in old was) requests same asked_before))

  pub alone_in : (client : Client) (result : Result (Reply × ℕ) Refusal) → client.0 ≡ port
      → IfErr result (λ e. state_of core (words_in from2 len2 new.words) ≡ world) → IfErr result (λ e. lent_part name2 port2 from2 len2 new ≡ first)
      → IfOk result (λ answer. state_of core (words_in from2 len2 new.words) ≡ after_alone answer.1 world client)
      → IfOk result (λ answer. lent_part name2 port2 from2 len2 new ≡ lent_after_alone answer.1 world client first) → AloneIn old new was core client result
  alone_in client (Err refusal) its same left came lent =
      subst (λ (w : State). ActedIn old new was core w) (sym before)
      (unasked world left same (λ requests e. asked_same world.shape world.calls world.recovery (requests_in old was) requests e asked_before))
  alone_in client (Ok answer) its same left came lent =
      subst (λ (w : State). ActedIn old new was core (after_alone answer.1 w client)) (sym before)
      (came_to (after_alone answer.1 world client) (lent_after_alone answer.1 world client first) came lent (around_alone answer.1 world client first)
      (λ requests here there. (asked_alone answer.1 world client first (requests_in old was) held (own_request ∙ ap (requests_in old was) (sym its)) asked_before
      requests (ap requests its ∙ here) (λ t ne. there t (λ e. ne (e ∙ sym its)))).0))

  -- what changed in the window changed in the whole memory, as that numbers it, and nothing else did
  pub noted_in : (change : Option Change) (last : Lent) → lent_part name2 port2 from2 len2 new ≡ last → last.around ≡ first.around
      → IsNoted change ws.kept (words_in from2 len2 new.words).kept → IsNoted (change_behind was.from change) old.words.kept new.words.kept
  noted_in change last lent stays noted =
      part_noted was.from was.len change old.words new.words (outside_left name (was.port + port) was.from was.len name2 port2 from2 len2 old new around) room
      (subst (λ (x : Words). IsNoted change x.kept (words_in was.from was.len new.words).kept) window.words
      (subst (λ (x : Words). IsNoted change ws.kept x.kept) (sym (bare_part name (was.port + port) was.from was.len name2 port2 from2 len2 old new around)) noted))
    where
      around : (lent_part name2 port2 from2 len2 new).around ≡ (lent_part name (was.port + port) was.from was.len old).around
      around = ap (λ (l : Lent). l.around) lent ∙ stays ∙ ap (λ (l : Lent). l.around) window.lent

      room : was.from + was.len ≤ length old.words.kept
      room = omega (arith, window.well.inside, window.well.some, window.well.holds.safe.words.same, length-take was.len (drop was.from old.words.kept), length-drop was.from old.words.kept, length-take was.len (drop was.from old.words.cached), length-drop was.from old.words.cached)

  -- an act by a rule
  pub act_in : {A : Type 0} (rule : Rule A) (result : Result A Refusal)
      → IsByRule rule (roomy_over was.core ws) result (roomy_over core (words_in from2 len2 new.words))
      → ActedIn old new was core (rule.leaves (is_no_memory result) (state_in old.words was))
      → (rule.leaves (is_no_memory result) (state_in old.words was)).shape ≡ was.core.shape
      → IsActIn rule old was result new (with_core was core)
  act_in rule result made acted shape = record {
    by_rule = record {
      leaves = acted.state;
      answers = subst (λ (xs : Words). result ≡ rule.answers (is_no_memory result) (state_of was.core xs)) window.words made.answers;
      full = made.full;
      room = made.room;
      spare = made.spare;
    };
    within = left_within old new was core (rule.leaves (is_no_memory result) (state_in old.words was)) acted shape;
  }

  -- a call alone
  pub alone_act : (client : Client) (result : Result (Reply × ℕ) Refusal)
      → IsByAlone client (roomy_over was.core ws) result (roomy_over core (words_in from2 len2 new.words))
      → AloneIn old new was core client result → IsAloneIn client old was result new (with_core was core)
  alone_act client result made acted = record {
    alone = record {
      refused = λ refusal e. made.refused refusal (ap (λ (w : State). waiting_in w client) (sym before) ∙ e);
      errors = subst (λ (w : State). IfErr result (λ e. (e ≡ NoMemory) ⊎ (waiting_in w client ≡ Err e))) (sym before) made.errors;
      full = made.full;
      same = alone_same old new was core client result acted;
      steps = made.steps;
      answer = subst (λ (w : State). IfOk result (λ answer. IsAnsweredAlone w client answer.1 answer.0)) (sym before) made.answer;
      world = alone_world old new was core client result acted;
      room = made.room;
      spare = made.spare;
    };
    within = alone_within result acted;
  }
    where
      alone_within : (r : Result (Reply × ℕ) Refusal) → AloneIn old new was core client r → IsWithinBlock old was new (with_core was core)
      alone_within (Err refusal) it = left_within old new was core (state_in old.words was) it refl
      alone_within (Ok answer) it =
          left_within old new was core (after_alone answer.1 (state_in old.words was) client) it (alone_alike answer.1 (state_in old.words was) client).0

-- the memory that lent the words of a call alone has them back
pub alone_lender : (w : State) (client : Client) (first : Lent) (left : Lent) (result : Result (Reply × ℕ) Refusal) → IfErr result (λ e. left ≡ first)
    → IfOk result (λ answer. left ≡ lent_after_alone answer.1 w client first) → left.around.lender ≡ first.around.lender
alone_lender w client first left (Err refusal) same on = ap (λ (l : Lent). l.around.lender) same
alone_lender w client first left (Ok answer) same on = ap (λ (l : Lent). l.around.lender) on ∙ ap (λ (a : Around). a.lender) (around_alone answer.1 w client first)

-- the number of a word that changed in a part fits, as the whole numbers it
pub number_fits : (from len : ℕ) (change : Option Change) (old new : List ℕ) → IsNoted change old new → length old ≤ len → from + len ≤ 18446744073709551615
    → IfSome change (λ c. from + c.word ≤ 18446744073709551615)
number_fits from len None old new noted short fits = tt
number_fits from len (Some c) old new noted short fits = omega (arith, noted.real.within, short, fits)
