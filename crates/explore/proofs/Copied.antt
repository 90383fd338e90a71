-- Recovery of a copy of what a world keeps goes as that of the world would, if it stopped.
use Rattle.std.proofs.Common.{◌≡◌, ◌≤◌, ◌<◌, ◌+◌, ◌-◌, ◌++◌, ◌∷◌, [], ℕ, zero, suc, true, false, List, length, map, replicate, slice_index, refl, sym, ap, subst, ◌∙◌, arith, append_assoc}
use Rattle.std.proofs.lemmas.List.{ext_get_or}
use Rattle.std.proofs.lemmas.List.FromFn.{get_or-map-range_with_len, length-map-range_with_len}
use Rattle.std.proofs.lemmas.Option.{unwrap_or-slice_get}
use Rattle.std.specs.List.{range_with_len}
use Rattle.std.specs.Prelude.{Bool, Option, Some, None, if◌then◌else◌, ◌==◌, is_ok, is_some, slice_get, unwrap_or}
use Rattle.std.proofs.lemmas.Bool.{ne_eqb}
use Rattle.words.specs.declared.limits.TheConstants.{MAX_CLIENTS, RECOVERY_PORT}
use Rattle.words.specs.declared.told.Told.{Told}
use Rattle.words.specs.declared.told.Told.TheVariants.{None as told_none}
use Rattle.persist.specs.Memory.{Access, Cas, Fence, Flush, Lent, Load, Request, Nothing, Store, Words, after}
use Rattle.persist.specs.Memory.{words_after_access, words_after_store}
use Rattle.words.specs.PlainQueue.{Value}
use Rattle.arena.specs.Content.{kept_content as content_of}
use Rattle.arena.specs.Layout.{size_of, word_at}
use Rattle.arena.specs.Shape.{Shape}
use Rattle.stepper.specs.Step.{IsAskedFor, IsReadInRange, after_one, at_word, lent_after_one, place_of, value_found}
use Rattle.events.specs.declared.event.Event.{Event}
use Rattle.events.specs.declared.event.Event.TheVariants.{Crash as crash_event, Ready as ready_event}
use Rattle.recover.specs.Table.{IsPoint, access_of, boot_recovery, recovery_after, recovery_reached}
use Rattle.recover.specs.declared.recovery.Recovery.{Recovery}
use Rattle.protocol.specs.Machine.{World, next_recovery, recovery_events, recovery_left}
use Rattle.protocol.specs.Measure.{steps_left}
use Rattle.protocol.specs.declared.acts.Act.TheVariants.{Recover}
use Rattle.protocol.proofs.Facts.{left_falls, recovery_point}
use Rattle.interleave.specs.Asked.{AreAsked, IfRecoveryAsked, recovery_lent_with}
use Rattle.interleave.specs.Holds.{Holds, from_invariant}
use Rattle.interleave.specs.Queue.{told_in}
use Rattle.interleave.specs.State.{State, after_acts, after_recover, after_recovery_step, after_stop, count_of}
use Rattle.interleave.specs.State.{is_accepted, kept_content, machine, order_in, most_to_ready, queue_at_ready}
use Rattle.interleave.specs.State.{recover_result_with, recover_with, steps_to_ready, taken_of, is_down}
use Rattle.interleave.specs.declared.queue.Queue.{Queue}
use Rattle.interleave.proofs.Facts.{AskElsewhere, asked_at_boot, asked_recovered, few_to_ready, holds_after_crash}
use Rattle.interleave.proofs.Facts.{holds_after_recover, part_after_crash, part_after_recover, recovered_is}
use Rattle.interleave.proofs.Facts.{recovery_next, recovery_reads, some_left, told_again}
use Rattle.interleave.specs.Ranges.{KeptFit}
use Rattle.interleave.specs.Values.{value_of_place}
use Rattle.playing.specs.Transcript.{told_at}
use Rattle.explore.proofs.Shapes.{after_acts_shape}
use Rattle.explore.specs.Points.{recovered, recovery_of}
use Rattle.explore.proofs.Sizes.{after_acts_size}

-- words that differ in their accesses alone
abbrev pub AreAlike : Words → Words → Type 0
AreAlike a b = (a.cached ≡ b.cached) × (a.kept ≡ b.kept)

accesses_aside : (a b : Words) → AreAlike a b → a ≡ record b { accesses = a.accesses }
accesses_aside a b alike =
    ap (λ (l : List ℕ). let x : Words = record { cached = l; kept = a.kept; accesses = a.accesses } in x) alike.0
    ∙ ap (λ (l : List ℕ). let x : Words = record { cached = b.cached; kept = l; accesses = a.accesses } in x) alike.1

swapped : (t : Bool) (word new n : ℕ) (b : Words)
    → AreAlike (words_after_access (if t then words_after_store word new (record b { accesses = n }) else record b { accesses = n }))
    (words_after_access (if t then words_after_store word new b else b))
swapped true word new n b = (refl, refl)
swapped false word new n b = (refl, refl)

counted_on : (access : Access ℕ) (b : Words) (n : ℕ) → AreAlike (after access (record b { accesses = n })) (after access b)
counted_on (Load word) b n = (refl, refl)
counted_on (Store word value) b n = (refl, refl)
counted_on (Cas word old new) b n = swapped (slice_index b.cached word == old) word new n b
counted_on (Flush word) b n = (refl, refl)
counted_on (Fence word) b n = (refl, refl)

alike_after : (access : Access ℕ) (a b : Words) → AreAlike a b → AreAlike (after access a) (after access b)
alike_after access a b alike =
    subst (λ (x : Words). AreAlike (after access x) (after access b)) (sym (accesses_aside a b alike))
    (counted_on access b a.accesses)

-- where recovery is, by whether it has told every client
abbrev pub left : Bool → Recovery → Option Recovery
left true r = None
left false r = Some r

left_is : (ready : Bool) (r : Recovery) → recovery_left (recovery_reached ready r) ≡ left ready r
left_is true r = refl
left_is false r = refl

abbrev pub events_by : Bool → List Event → Recovery → List Event
events_by true events r = events ++ ready_event r.told ∷ []
events_by false events r = events

events_are : (ready : Bool) (events : List Event) (r : Recovery)
    → recovery_events events (recovery_reached ready r) ≡ events_by ready events r
events_are true events r = refl
events_are false events r = refl

told_by : (ready : Bool) (queue : Queue) (r : Recovery) → ready ≡ true
    → told_in (queue_at_ready queue (recovery_reached ready r)) ≡ r.told
told_by true queue r done = told_again queue r.told
told_by false queue r done = cc

-- what is asked for through recovery's port, and nothing through others
abbrev pub at_port : Request → ℕ → Request
at_port request port = if port == RECOVERY_PORT then request else Nothing

elsewhere : (a b : Request) → AskElsewhere (at_port a) (at_port b) RECOVERY_PORT
elsewhere a b t ne =
    let no : (t == RECOVERY_PORT) ≡ false = ne_eqb t RECOVERY_PORT ne in
    ap (λ (x : Bool). if x then b else Nothing) no ∙ sym (ap (λ (x : Bool). if x then a else Nothing) no)

-- the copy's words are the world's, but for their accesses, and its recovery is where the world's is
pub record Follows (v : State) (ready : Bool) (r : Recovery) (ws : Words) (lent : Lent) : Type 0 where
  pub holds : Holds v
  pub words : AreAlike ws v.words
  pub recovery : v.recovery ≡ left ready r
  pub asked : AreAsked v.shape v.calls v.recovery (at_port lent.request)
  pub told : ready ≡ true → told_in v.queue ≡ r.told

pub begins : (w : State) (ws : Words) (lent : Lent) → Holds w → ws.cached ≡ w.words.kept → ws.kept ≡ w.words.kept
    → Follows (after_stop w) false boot_recovery ws lent
begins w ws lent holds cached kept = record {
  holds = holds_after_crash false w holds;
  words = (cached, kept);
  recovery = refl;
  asked = asked_at_boot w.shape (length w.calls) (at_port lent.request);
  told = λ done. cc;
}

-- what the next step asks for
module _ (v : State) (r : Recovery) (ws : Words) (lent : Lent) (follows : Follows v false r ws lent) where
  pub is_point : IsPoint v.shape r.at
  is_point = recovery_point (machine v) (from_invariant _ follows.holds.inv) r follows.recovery

  pub reads : IsReadInRange v.shape (access_of v.shape.kind r.at) (value_found v.shape (access_of v.shape.kind r.at) ws)
  reads =
      let s = v.shape in
      let a = access_of s.kind r.at in
      subst (λ (l : List ℕ). IsReadInRange s a (slice_index l (word_at s (place_of a)))) (sym follows.words.0)
      (recovery_reads v r follows.holds follows.recovery)

-- a step of both
module _ (v : State) (r next : Recovery) (ready : Bool) (ws : Words) (lent : Lent) (follows : Follows v false r ws lent)
    (reached : recovery_reached ready next ≡ recovery_after v.shape r (value_found v.shape (access_of v.shape.kind r.at) ws)) where
  goes : recovery_reached ready next ≡ next_recovery (machine v) r
  goes =
      reached
      ∙ ap (λ (l : List ℕ). recovery_after v.shape r (slice_index l (word_at v.shape (place_of (access_of v.shape.kind r.at))))) follows.words.0
      ∙ recovery_next v r follows.holds follows.recovery

  step_is : after_recover false v ≡ after_recovery_step v r
  step_is = ap (recover_with false v) follows.recovery

  asked_on : AreAsked (after_recover false v).shape (after_recover false v).calls (after_recover false v).recovery
      (at_port (lent_after_one v.shape (access_of v.shape.kind r.at) lent).request)
  asked_on =
      let after_lent = lent_after_one v.shape (access_of v.shape.kind r.at) lent in
      asked_recovered false v lent (at_port lent.request) (at_port after_lent.request) follows.holds refl
      (sym (ap (λ (o : Option Recovery). (recovery_lent_with false v lent o).request) follows.recovery))
      (elsewhere lent.request after_lent.request) follows.asked

  pub goes_on : Follows (after_recover false v) ready next (after_one v.shape (access_of v.shape.kind r.at) ws)
      (lent_after_one v.shape (access_of v.shape.kind r.at) lent)
  goes_on = record {
    holds = holds_after_recover false v follows.holds;
    words =
        subst (λ (u : State). AreAlike (after_one v.shape (access_of v.shape.kind r.at) ws) u.words) (sym step_is)
        (alike_after (at_word v.shape (access_of v.shape.kind r.at)) ws v.words follows.words);
    recovery = ap (λ (u : State). u.recovery) step_is ∙ ap recovery_left (sym goes) ∙ left_is ready next;
    asked = asked_on;
    told = λ done. ap (λ (u : State). told_in u.queue) step_is ∙ ap (λ n. told_in (queue_at_ready v.queue n)) (sym goes)
        ∙ told_by ready v.queue next done;
  }

  pub events_on : (after_recover false v).log.events ≡ events_by ready v.log.events next
  events_on =
      ap (λ (u : State). u.log.events) step_is ∙ ap (recovery_events v.log.events) (sym goes)
      ∙ events_are ready v.log.events next

  pub falls : steps_to_ready (after_recover false v) < steps_to_ready v
  falls =
      subst (λ (u : State). steps_to_ready u < steps_to_ready v) (sym step_is)
      (subst (λ (m : World). steps_left m < steps_left (machine v)) (sym (recovered_is v r follows.holds follows.recovery))
      (left_falls (machine v) (from_invariant _ follows.holds.inv) r follows.recovery))

  pub accepted : count_of (is_accepted v Recover) ≡ 1
  accepted = ap (λ (o : Option Recovery). count_of (is_ok (recover_result_with false v o))) follows.recovery

-- so many steps were made, by the end of which recovery follows the world's
pub record Runs (c : State) (most steps : ℕ) (ready : Bool) (r : Recovery) (ws : Words) (lent : Lent) : Type 0 where
  pub v : State
  pub follows : Follows v ready r ws lent
  pub shape : v.shape ≡ c.shape
  pub leads : after_acts v (replicate (most - steps) Recover) ≡ after_acts c (replicate most Recover)
  pub counts : steps + taken_of v (replicate (most - steps) Recover) ≡ taken_of c (replicate most Recover)
  pub events : v.log.events ≡ events_by ready c.log.events r
  pub few : ready ≡ false → steps_to_ready v + steps ≤ most

pub no_steps : (w : State) (most : ℕ) (ws : Words) (lent : Lent) → Holds w → ws.cached ≡ w.words.kept → ws.kept ≡ w.words.kept
    → most ≡ most_to_ready w.shape → Runs (after_stop w) most 0 false boot_recovery ws lent
no_steps w most ws lent holds cached kept many =
    let all : most - 0 ≡ most = omega arith in
    let few = few_to_ready (after_stop w) (holds_after_crash false w holds) in
    let counts : taken_of (after_stop w) (replicate (most - 0) Recover) ≡ taken_of (after_stop w) (replicate most Recover) =
    ap (λ n. taken_of (after_stop w) (replicate n Recover)) all in
    record {
      v = after_stop w;
      follows = begins w ws lent holds cached kept;
      shape = refl;
      leads = ap (λ n. after_acts (after_stop w) (replicate n Recover)) all;
      counts = omega (arith, counts);
      events = refl;
      few = λ done. omega (arith, few, many);
    }

-- one step more
pub one_step : (c : State) (most steps : ℕ) (r next : Recovery) (ready : Bool) (ws new : Words) (lent after_lent : Lent) (s : Shape)
    → (runs : Runs c most steps false r ws lent) → steps < most → s ≡ c.shape
    → new ≡ after_one s (access_of s.kind r.at) ws → after_lent ≡ lent_after_one s (access_of s.kind r.at) lent
    → recovery_reached ready next ≡ recovery_after s r (value_found s (access_of s.kind r.at) ws)
    → Runs c most (steps + 1) ready next new after_lent
one_step c most steps r next ready ws new lent after_lent s runs below shape words lents reached =
    let v : State = runs.v in
    let same : s ≡ v.shape = shape ∙ sym runs.shape in
    let get = subst (λ (t : Shape). recovery_reached ready next ≡ recovery_after t r (value_found t (access_of t.kind r.at) ws)) same reached in
    let written = words ∙ ap (λ (t : Shape). after_one t (access_of t.kind r.at) ws) same in
    let lent_on = lents ∙ ap (λ (t : Shape). lent_after_one t (access_of t.kind r.at) lent) same in
    let on = goes_on v r next ready ws lent runs.follows get in
    let fall = falls v r next ready ws lent runs.follows get in
    let one = accepted v r next ready ws lent runs.follows get in
    let rest : ℕ = most - (steps + 1) in
    let left_are : most - steps ≡ suc rest = omega (arith, below) in
    let all : taken_of v (replicate (most - steps) Recover)
    ≡ count_of (is_accepted v Recover) + taken_of (after_recover false v) (replicate rest Recover) =
    ap (λ n. taken_of v (replicate n Recover)) left_are in
    record {
      v = after_recover false v;
      follows =
          subst (λ (l : Lent). Follows (after_recover false v) ready next new l) (sym lent_on)
          (subst (λ (x : Words). Follows (after_recover false v) ready next x (lent_after_one v.shape (access_of v.shape.kind r.at) lent)) (sym written) on);
      shape = ap (λ (u : State). u.shape) (step_is v r next ready ws lent runs.follows get) ∙ runs.shape;
      leads = ap (λ n. after_acts v (replicate n Recover)) (sym left_are) ∙ runs.leads;
      counts = omega (arith, one, all, runs.counts);
      events =
          events_on v r next ready ws lent runs.follows get ∙ ap (λ (l : List Event). events_by ready l next) runs.events;
      few = λ done. let before = runs.few refl in omega (arith, fall, before);
    }

-- once it is ready, all further steps are refused
stays_ready : (n : ℕ) (v : State) → v.recovery ≡ None
    → (after_acts v (replicate n Recover) ≡ v) × (taken_of v (replicate n Recover) ≡ 0)
stays_ready zero v none = (refl, refl)
stays_ready (suc n) v none =
    let same : after_recover false v ≡ v = ap (recover_with false v) none in
    let rest = stays_ready n v none in
    let first : count_of (is_accepted v Recover) ≡ 0 =
    ap (λ (o : Option Recovery). count_of (is_ok (recover_result_with false v o))) none in
    let more : taken_of (after_recover false v) (replicate n Recover) ≡ 0 =
    ap (λ (u : State). taken_of u (replicate n Recover)) same ∙ rest.1 in
    (ap (λ (u : State). after_acts u (replicate n Recover)) same ∙ rest.0, omega (arith, first, more))

-- the copy has as many words as before
pub runs_size : (c : State) (most n : ℕ) (ready : Bool) (r : Recovery) (ws : Words) (lent : Lent)
    → Runs c most n ready r ws lent → length ws.kept ≡ length c.words.kept
runs_size c most n ready r ws lent runs =
    ap length runs.follows.words.1 ∙ sym (after_acts_size runs.v (replicate (most - n) Recover))
    ∙ ap (λ (u : State). length u.words.kept) runs.leads ∙ after_acts_size c (replicate most Recover)

-- what a recovery that is ready has come to
pub record Ends (w : State) (n : ℕ) (told_list : List Told) (words : List ℕ) : Type 0 where
  pub steps : n ≡ taken_of (after_stop w) (recovery_of w.shape)
  pub told : told_list ≡ told_in (recovered w).queue
  pub kept : words ≡ (recovered w).words.kept
  pub events : (recovered w).log.events ≡ w.log.events ++ crash_event ∷ ready_event told_list ∷ []

pub ends : (w : State) (most n : ℕ) (ready : Bool) (r : Recovery) (ws : Words) (lent : Lent) → most ≡ most_to_ready w.shape
    → Runs (after_stop w) most n ready r ws lent → ready ≡ true → Ends w n r.told ws.kept
ends w most n false r ws lent many runs done = cc
ends w most n true r ws lent many runs done =
    let c : State = after_stop w in
    let v : State = runs.v in
    let end = stays_ready (most - n) v runs.follows.recovery in
    let is : v ≡ recovered w =
    sym end.0 ∙ runs.leads ∙ ap (λ k. after_acts c (replicate k Recover)) many in
    let counted : n ≡ taken_of c (replicate most Recover) = omega (arith, end.1, runs.counts) in
    record {
      steps = counted ∙ ap (λ k. taken_of c (replicate k Recover)) many;
      told = sym (runs.follows.told refl) ∙ ap (λ (u : State). told_in u.queue) is;
      kept = runs.follows.words.1 ∙ ap (λ (u : State). u.words.kept) is;
      events =
          ap (λ (u : State). u.log.events) (sym is) ∙ runs.events
          ∙ append_assoc w.log.events (crash_event ∷ []) (ready_event r.told ∷ []);
    }

-- steps of recovery keep what holds of a world, and where its history began, and the order
recoveries_hold : (n : ℕ) (v : State) → Holds v → Holds (after_acts v (replicate n Recover))
recoveries_hold zero v holds = holds
recoveries_hold (suc n) v holds = recoveries_hold n (after_recover false v) (holds_after_recover false v holds)

pub recovered_holds : (w : State) → Holds w → Holds (recovered w)
recovered_holds w holds = recoveries_hold (most_to_ready w.shape) (after_stop w) (holds_after_crash false w holds)

by_recovery : (v : State) (o : Option Recovery) → ((recover_with false v o).base ≡ v.base) × ((recover_with false v o).told ≡ v.told)
by_recovery v None = (refl, refl)
by_recovery v (Some r) = (refl, refl)

recoveries_begin : (n : ℕ) (v : State)
    → ((after_acts v (replicate n Recover)).base ≡ v.base) × ((after_acts v (replicate n Recover)).told ≡ v.told)
    × (order_in (after_acts v (replicate n Recover)) ≡ order_in v)
recoveries_begin zero v = (refl, refl, refl)
recoveries_begin (suc n) v =
    let rest = recoveries_begin n (after_recover false v) in
    let one = by_recovery v v.recovery in
    (rest.0 ∙ one.0, rest.1 ∙ one.1, rest.2 ∙ part_after_recover false v)

pub recovered_begins : (w : State)
    → ((recovered w).base ≡ w.base) × ((recovered w).told ≡ w.told) × (order_in (recovered w) ≡ order_in w)
recovered_begins w =
    let all = recoveries_begin (most_to_ready w.shape) (after_stop w) in
    (all.0, all.1, all.2 ∙ part_after_crash false w)

-- what a word list of the recovered world's size holds may be looked at
pub recovered_fits : (w : State) (ws : List ℕ) → Holds w → ws ≡ (recovered w).words.kept → KeptFit w.shape ws
recovered_fits w ws holds is =
    let v : State = recovered w in
    let held = recovered_holds w holds in
    let shape : v.shape ≡ w.shape = after_acts_shape (after_stop w) (recovery_of w.shape) in
    subst (λ (s : Shape). KeptFit s ws) shape
    (subst (KeptFit v.shape) (sym is) (record {
      room = omega (arith, held.safe.words.room, held.safe.words.same);
      fits = held.safe.words.kept;
    }))

-- what each of sixteen clients was told, one after another
pub all_told : (v : State) (told : List Told) → told ≡ told_in v.queue → length told ≡ MAX_CLIENTS
    → told ≡ map (told_at v) (range_with_len 0 MAX_CLIENTS)
all_told v told is sixteen =
    ext_get_or told_none told (map (told_at v) (range_with_len 0 MAX_CLIENTS))
    (sixteen ∙ sym (length-map-range_with_len (told_at v) 0 MAX_CLIENTS))
    (λ i below.
    sym (unwrap_or-slice_get told i told_none) ∙ ap (λ (l : List Told). unwrap_or (slice_get l i) told_none) is
    ∙ sym (get_or-map-range_with_len (told_at v) 0 MAX_CLIENTS i i told_none (omega (arith, below, sixteen)) (let same : 0 + i ≡ i = omega arith in same)))

-- what the copy holds once it has recovered
pub content_is : (w : State) (s : Shape) (kept : List ℕ) (content : List Value) → s ≡ w.shape
    → kept ≡ (recovered w).words.kept → content ≡ content_of s (value_of_place s kept) → content ≡ kept_content (recovered w)
content_is w s kept content shape words is =
    let v : State = recovered w in
    is
    ∙ ap (λ (t : Shape). content_of t (value_of_place t kept)) (shape ∙ sym (after_acts_shape (after_stop w) (recovery_of w.shape)))
    ∙ ap (λ (ws : List ℕ). content_of v.shape (value_of_place v.shape ws)) words
