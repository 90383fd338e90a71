-- What callers of the machine may rely on.
use Rattle.words.proofs.Facts.{parts_blank}
use Rattle.std.proofs.Common.{Option, ◌≡◌, ◌≢◌, ℕ, ◌+◌, ◌≤◌, ◌<◌, inl, inr, List, [], ◌∷◌, ◌++◌, length, map, filter, not, Some, None, ◌==◌, refl, sym, ◌∙◌, ap, subst, arith}
use Rattle.std.specs.Prelude.{slice_get}
use Rattle.std.specs.List.{AllByRecursion, AllPairs}
use Rattle.std.proofs.lemmas.Option.{slice_get_within}
use Rattle.std.proofs.lemmas.Bool.Decides.{Decides-eqb}
use Rattle.std.proofs.lemmas.List.{append-nil, length-map}
use Rattle.std.proofs.lemmas.Map.Made.{IsDistinct-from_AllPairs}
use Rattle.std.proofs.lemmas.Map.Steps.{length-le_from_distinct_below}
use Rattle.std.proofs.lemmas.Bool.{cases_eq, eq-eqb, ne_eqb}
use Rattle.std.proofs.lemmas.List.Elements.{filter-append, recursion_from_All, All-weaker}
use Rattle.words.specs.declared.call.Client.{Client}
use Rattle.words.specs.declared.call.Call.{Call}
use Rattle.words.specs.declared.told.Told.{Told}
use Rattle.stepper.specs.declared.resume.After.TheVariants.{More, Done as Ready}
use Rattle.recover.specs.declared.recovery.Recovery.{Recovery}
use Rattle.arena.specs.Chain.{IsChain, IsAmong}
use Rattle.arena.specs.Chain.LeadsTo.{there}
use Rattle.arena.specs.Content.{chain_of, claimed_of, waiting_of, kept_content}
use Rattle.arena.specs.Place.{IsPlace}
use Rattle.arena.specs.Ranges.{Fits, IsReadByCalls}
use Rattle.arena.specs.Shape.{Shape, greatest}
use Rattle.arena.specs.Words.{links, marks, values}
use Rattle.arena.specs.declared.place.Place.{Place}
use Rattle.arena.specs.declared.place.Place.TheVariants.{Head, Tail, Announcement, Bump, Item, Next, Mark, Cell, Insert}
use Rattle.arena.specs.declared.place.Place.TheVariants.{Number, EntryKind, Status, EntryNode}
use Rattle.helping.specs.Table.{node_of, token_of}
use Rattle.events.specs.Effects.{order_of}
use Rattle.events.specs.Explains.{Explains}
use Rattle.events.specs.History.{IsHistory}
use Rattle.events.specs.Trace.{IsTrace, IsEffect, queue_of}
use Rattle.events.specs.Parts.{IsPartOf}
use Rattle.events.specs.declared.event.Effect.{Effect}
use Rattle.events.proofs.Facts.{begun, pairs_map, part_same, trace_arises, trace_explains}
use Rattle.stepper.specs.declared.resume.After.{After}
use Rattle.protocol.specs.Machine.{World, with_start, with_step, with_eviction, with_crash, with_recovery_step}
use Rattle.protocol.specs.Machine.{next_recovery, recovery_left, after_keeping, effects_after, new_world, MayStart}
use Rattle.protocol.specs.Machine.{MayStep}
use Rattle.protocol.specs.declared.UnderWay.{UnderWay}
use Rattle.protocol.specs.Announced.{IsToldOfAnnounced}
use Rattle.protocol.proofs.told.Issuing.{told_of_announced}
use Rattle.protocol.specs.Kept.{TellsOf}
use Rattle.protocol.specs.Measure.{most_steps, weight, steps_left_at, steps_left}
use Rattle.protocol.specs.Recovered.{end_of, IsRecovered}
use Rattle.protocol.proofs.recovery.RecoveryBound.{IsLess, falls, few_at}
use Rattle.arena.proofs.Facts.{distinct, parts_apart}
use Rattle.protocol.proofs.chain.Chains.{any_in, few, linked_by, walked}
use Rattle.protocol.specs.invariants.Base.{AllFit}
use Rattle.protocol.specs.invariants.Places.{SaysEmpty}
use Rattle.protocol.proofs.records.RecordStores.{none_records}
use Rattle.protocol.proofs.calls.Rebegun.{empty_some}
use Rattle.protocol.specs.invariants.Worlds.{ledger_of, Working, IsReady, Recovering, InvAt, Inv}
use Rattle.protocol.proofs.worlds.Moments.{keep_noted, calling}
use Rattle.protocol.proofs.worlds.Acts.{evicted_part, stepped_part, step_noted}
use Rattle.protocol.proofs.worlds.ReadyWorlds.{evicted_ready, stepped_ready, started_ready, fresh_told}
use Rattle.protocol.proofs.recovery.RecoveryEnds.{Woken}
use Rattle.protocol.proofs.recovery.RecoveryTelling.{all_answered}
use Rattle.protocol.proofs.worlds.RecoveringWorlds.{RecoveredTo, evicted_recovering, evicted_recovering_part}
use Rattle.protocol.proofs.worlds.RecoveringWorlds.{ready_crashed, recovering_crashed, crashed_part, recovered_works}
use Rattle.protocol.proofs.worlds.RecoveringWorlds.{recovered_part, nobody_kept, nobody_fenced, point_fits, reads_fit}
use Rattle.protocol.proofs.worlds.RecoveringWorlds.{woken, told_woken}
use Rattle.stepper.specs.Step.{place_of, kept_by}
use Rattle.recover.specs.Table.{access_of, IsPoint}
use Rattle.sound_words.specs.Told.{tells_by}
use Rattle.sound_words.specs.Sound.{IsSound}
use Rattle.protocol.proofs.recovery.Sound.{crash_sound}
use Rattle.protocol.proofs.recovery.SoundForRecovery.{sound_for_recovery}
use Rattle.protocol.proofs.recovery.Nowhere.{nowhere}
use Rattle.protocol.proofs.told.StillTold.{TellsAlike, put_alike, recovered_alike, told_now}
use Rattle.protocol.specs.Acts.{TellsNothing}

-- a ready world, and a recovering one
pub is_ready : (w : World) → Inv w → w.recovery ≡ None → IsReady w
is_ready w v e = subst (InvAt w) e v

pub is_recovering : (w : World) → Inv w → (r : Recovery) → w.recovery ≡ Some r → Recovering w r
is_recovering w v r e = subst (InvAt w) e v

pub inv_evicted : (w : World) → Inv w → (p : Place) → Inv (with_eviction w p)
inv_evicted w v p = go w.recovery refl v
  where
    go : (r : Option Recovery) → w.recovery ≡ r → InvAt w r → Inv (with_eviction w p)
    go None e h = subst (InvAt (with_eviction w p)) (sym e) (evicted_ready w h p)
    go (Some r) e h = subst (InvAt (with_eviction w p)) (sym e) (evicted_recovering w r h p)

pub inv_stepped : (w : World) → Inv w → (client : Client) (u : UnderWay) → MayStep w client u → Inv (with_step w client u)
inv_stepped w v client u may = subst (InvAt (with_step w client u)) (sym may.ready) (stepped_ready w (is_ready w v may.ready) client u may)

pub inv_started : (w : World) → Inv w → (client : Client) (number : ℕ) (call : Call) → MayStart w client number call → Inv (with_start w client number call)
inv_started w v client number call may = subst (InvAt (with_start w client number call)) (sym may.ready) (started_ready w (is_ready w v may.ready) client number call may)

pub inv_crashed : (w : World) → Inv w → Inv (with_crash w)
inv_crashed w v = go w.recovery v
  where
    go : (r : Option Recovery) → InvAt w r → Inv (with_crash w)
    go None h = ready_crashed w h
    go (Some r) h = recovering_crashed w r h

pub inv_recovered : (w : World) → Inv w → (r : Recovery) → w.recovery ≡ Some r → Inv (with_recovery_step w r)
inv_recovered w v r e = go (next_recovery w r) refl (recovered_works w r (is_recovering w v r e))
  where
    go : (next : After Recovery (List Told)) → next_recovery w r ≡ next → RecoveredTo (with_recovery_step w r) next → Inv (with_recovery_step w r)
    go (More x) q h = subst (λ y. InvAt (with_recovery_step w r) (recovery_left y)) (sym q) h
    go (Ready told) q h = subst (λ y. InvAt (with_recovery_step w r) (recovery_left y)) (sym q) h

-- nothing that counts is taken back
pub part_evicted : (w : World) → Inv w → (p : Place) → IsPartOf (order_of w.log.effects) (order_of (with_eviction w p).log.effects)
part_evicted w v p = go w.recovery v
  where
    go : (r : Option Recovery) → InvAt w r → IsPartOf (order_of w.log.effects) (order_of (with_eviction w p).log.effects)
    go None h = evicted_part w h.working p
    go (Some r) h = evicted_recovering_part w r h p

pub part_stepped : (w : World) → Inv w → (client : Client) (u : UnderWay) → MayStep w client u → IsPartOf (order_of w.log.effects) (order_of (with_step w client u).log.effects)
part_stepped w v client u may = stepped_part w (is_ready w v may.ready).working client u may

pub part_started : (w : World) → Inv w → (client : Client) (number : ℕ) (call : Call) → MayStart w client number call → IsPartOf (order_of w.log.effects) (order_of (with_start w client number call).log.effects)
part_started w v client number call may = part_same (order_of w.log.effects)

pub part_crashed : (w : World) → Inv w → IsPartOf (order_of w.log.effects) (order_of (with_crash w).log.effects)
part_crashed w v = crashed_part w

pub part_recovered : (w : World) → Inv w → (r : Recovery) → w.recovery ≡ Some r → IsPartOf (order_of w.log.effects) (order_of (with_recovery_step w r).log.effects)
part_recovered w v r e = recovered_part w r (is_recovering w v r e)

pub in_log : (w : World) → Inv w → IsTrace w.shape.kind w.base w.told w.log.events w.log.effects
in_log w v = go w.recovery v
  where
    go : (r : Option Recovery) → InvAt w r → IsTrace w.shape.kind w.base w.told w.log.events w.log.effects
    go None h = h.working.log
    go (Some r) h = h.log

-- the order explains the history
pub explained : (w : World) → Inv w → IsHistory w.log.events × Explains w.base w.told w.log.events (order_of w.log.effects)
explained w v = (
  trace_arises w.shape.kind w.base w.told w.log.events w.log.effects (in_log w v),
  trace_explains w.shape.kind w.base w.told w.log.events w.log.effects (in_log w v),
)

none_left : (k : ℕ → ℕ) (xs : List ℕ) → ((x : ℕ) → IsAmong x xs → k x ≢ 0) → filter (λ n. k n == 0) xs ≡ []
none_left k [] h = refl
none_left k (x ∷ xs) h = rw (ne_eqb (k x) 0 (h x (inl refl))) (none_left k xs (λ y i. h y (inr i)))

all_left : (k : ℕ → ℕ) (xs : List ℕ) → ((x : ℕ) → IsAmong x xs → k x ≡ 0) → filter (λ n. k n == 0) xs ≡ xs
all_left k [] h = refl
all_left k (x ∷ xs) h = rw (eq-eqb (k x) 0 (h x (inl refl))) (ap (λ t. x ∷ t) (all_left k xs (λ y i. h y (inr i))))

all_marked : (k : ℕ → ℕ) (xs : List ℕ) → ((x : ℕ) → IsAmong x xs → k x ≢ 0) → filter (λ n. not (k n == 0)) xs ≡ xs
all_marked k [] h = refl
all_marked k (x ∷ xs) h = rw (ne_eqb (k x) 0 (h x (inl refl))) (ap (λ t. x ∷ t) (all_marked k xs (λ y i. h y (inr i))))

none_marked : (k : ℕ → ℕ) (xs : List ℕ) → ((x : ℕ) → IsAmong x xs → k x ≡ 0) → filter (λ n. not (k n == 0)) xs ≡ []
none_marked k [] h = refl
none_marked k (x ∷ xs) h = rw (eq-eqb (k x) 0 (h x (inl refl))) (none_marked k xs (λ y i. h y (inr i)))

-- the nodes that kept links reach are the claimed ones and then the waiting ones
pub chain_is : (s : Shape) (k : Place → ℕ) (claimed waiting : List ℕ) → IsChain (links k) 0 (claimed ++ waiting) → AllFit s k → chain_of s k ≡ claimed ++ waiting
chain_is s k claimed waiting chain fits =
    walked (links k) (greatest s) 0 (claimed ++ waiting) chain
    (few (claimed ++ waiting) (greatest s) (distinct (links k) 0 (claimed ++ waiting) chain)
    (λ h. (linked_by (links k) 0 (claimed ++ waiting) chain 0 h).2 refl)
    (λ q h.
    let p : (p : ℕ) × (links k p ≡ q) × (q ≢ 0) = linked_by (links k) 0 (claimed ++ waiting) chain q h in
    subst (λ x. x ≤ greatest s) p.1 (fits (Next (node_of p.0)) tt)))

-- the claimed ones have a kept claim, and the waiting ones have none
module _ (s : Shape) (k : Place → ℕ) (claimed waiting : List ℕ) (chain : IsChain (links k) 0 (claimed ++ waiting)) (fits : AllFit s k)
    (on : (n : ℕ) → IsAmong n claimed → marks k n ≢ 0) (back : (n : ℕ) → marks k n ≢ 0 → IsAmong n claimed) where
  without_claim : (x : ℕ) → IsAmong x waiting → marks k x ≡ 0
  without_claim x h = elim (cases_eq (marks k x) 0) [
    | inl z ↦ z
    | inr q ↦ absurd (parts_apart claimed waiting x (distinct (links k) 0 (claimed ++ waiting) chain) (back x q) h)
  ]

  pub waiting_is : waiting_of s k ≡ waiting
  waiting_is =
      ap (filter (λ n. marks k n == 0)) (chain_is s k claimed waiting chain fits)
      ∙ filter-append (λ n. marks k n == 0) claimed waiting
      ∙ ap (λ t. t ++ filter (λ n. marks k n == 0) waiting) (none_left (marks k) claimed on)
      ∙ all_left (marks k) waiting without_claim

  pub claimed_is : claimed_of s k ≡ claimed
  claimed_is =
      ap (filter (λ n. not (marks k n == 0))) (chain_is s k claimed waiting chain fits)
      ∙ filter-append (λ n. not (marks k n == 0)) claimed waiting
      ∙ ap (λ t. t ++ filter (λ n. not (marks k n == 0)) waiting) (all_marked (marks k) claimed on)
      ∙ ap (λ t. claimed ++ t) (none_marked (marks k) waiting without_claim)
      ∙ append-nil claimed

-- agreement: the kept words hold what replay of the order leaves
pub agrees : (w : World) → Inv w → kept_content w.shape w.memory.kept ≡ queue_of w.log.events w.base w.log.effects
agrees w v = go w.recovery v
  where
    go : (r : Option Recovery) → InvAt w r → kept_content w.shape w.memory.kept ≡ queue_of w.log.events w.base w.log.effects
    go None h =
        let x : Working w = h.working in
        ap (map (values w.memory.kept)) (waiting_is w.shape w.memory.kept x.claimed x.waiting x.base.chained.chain x.base.fits_kept x.base.marked.on x.base.marked.back) ∙ x.base.content
    go (Some r) h = ap (map (values w.memory.kept)) (waiting_is w.shape w.memory.kept h.claimed h.waiting h.sound.chain h.sound.fits h.sound.on h.sound.back) ∙ h.sound.content

below_all : (q n : ℕ) (effects : List Effect) → AllByRecursion (λ (x : Effect). x.place < n) effects → IsAmong q (map (λ (x : Effect). x.place) effects) → q < n
below_all q n [] h i = absurd i
below_all q n (x ∷ xs) h (inl e) = subst (λ y. y < n) (sym e) h.0
below_all q n (x ∷ xs) h (inr i) = below_all q n xs h.1 i

-- each effect is of a call of its own, so there are no more of them than events
pub log_room : (w : World) (effects : List Effect) → IsTrace w.shape.kind w.base w.told w.log.events effects → length effects ≤ length w.log.events
log_room w effects log =
    let places : List ℕ = map (λ (x : Effect). x.place) effects in
    let apart : AllPairs (λ (x y : ℕ). x ≢ y) (map (λ (x : Effect). x.place) effects) = pairs_map (λ (x y : ℕ). x ≢ y) (λ (x : Effect). x.place) effects log.once in
    let below : AllByRecursion (λ (x : Effect). x.place < length w.log.events) effects =
    recursion_from_All (λ (x : Effect). x.place < length w.log.events) effects
    (All-weaker (λ (x : Effect). IsEffect w.log.events x) (λ (x : Effect). x.place < length w.log.events) (λ x e. omega (arith, e.after, e.before)) effects log.within) in
    subst (λ k. k ≤ length w.log.events) (length-map effects (λ (x : Effect). x.place))
    (length-le_from_distinct_below (map (λ (x : Effect). x.place) effects) (length w.log.events) (IsDistinct-from_AllPairs Decides-eqb (map (λ (x : Effect). x.place) effects) apart)
    (λ q h. below_all q (length w.log.events) effects below (any_in q (map (λ (x : Effect). x.place) effects) h)))

pub effect_room : (w : World) → Inv w → length w.log.effects ≤ length w.log.events
effect_room w v = log_room w w.log.effects (in_log w v)

pub step_room : (w : World) → Inv w → (client : Client) (u : UnderWay) → MayStep w client u → length (effects_after w u u.op) ≤ length w.log.events
step_room w v client u may =
    let x : Working w = (is_ready w v may.ready).working in
    log_room w (effects_after w u u.op) (step_noted w x client.0 u may.waits u.op (calling w x client.0 u may.waits).0).log

pub evict_room : (w : World) → Inv w → (p : Place) → length (after_keeping w p) ≤ length w.log.events
evict_room w v p = go w.recovery v
  where
    go : (r : Option Recovery) → InvAt w r → length (after_keeping w p) ≤ length w.log.events
    go None h = log_room w (after_keeping w p) (keep_noted w h.working p).log
    go (Some r) h = subst (λ e. length e ≤ length w.log.events) (sym (nobody_kept w h.none p)) (log_room w w.log.effects h.log)

pub zero_fits : (s : Shape) (p : Place) → Fits s p 0
zero_fits s Head = omega arith
zero_fits s Tail = omega arith
zero_fits s (Announcement t) = omega arith
zero_fits s (Bump t) = omega arith
zero_fits s (Item n part) = tt
zero_fits s (Next n) = omega arith
zero_fits s (Mark n) = omega arith
zero_fits s (Cell c) = omega arith
zero_fits s (Insert n) = omega arith
zero_fits s (Number e) = omega arith
zero_fits s (EntryKind e) = omega arith
zero_fits s (Status e) = omega arith
zero_fits s (EntryNode e) = omega arith

zero_silent : (s : Shape) (c : ℕ) → SaysEmpty s (λ p. 0) c → ⊥
zero_silent s c e = empty_some s.kind (token_of c) (sym e)

-- the words of a new queue
new_works : (s : Shape) (told : List Told) → 1 ≤ s.clients → s.clients ≤ 16 → Working (new_world s told)
new_works s told some few = record {
  ready = refl;
  sixteen = few;
  clients = some;
  claimed = [];
  waiting = [];
  base = record {
    chained = record { chain = refl; kept = λ n h. refl; on = λ n h. absurd (h refl); ahead = λ n h z. refl };
    marked = record { kept = λ n h. refl; back = λ n h. absurd (h refl); on = λ n h. absurd h; ahead = λ n h z. absurd (h refl) };
    content = refl;
    head = inl refl;
    head_to_tail = there;
    kept_head = inl refl;
    kept_head_to_head = there;
    kept_tail = there;
    linked_part = λ n part h. refl;
    message = λ n. record { item = parts_blank 0 (omega arith); stays = λ part. inl refl; sized = λ part word some. refl };
    issued_link = λ n h. absurd (h refl);
    issued_mark = λ n h. absurd (h refl);
    flying_link = λ n h z. absurd (h refl);
    flying_mark = λ n h z. absurd (h refl);
    took_link = λ n h e. absurd (h refl);
    took_mark = λ n h e. absurd (h refl);
    lag = λ h. refl;
    one_claim = λ h g f. refl;
    one_mark = λ n j h e. absurd (h refl);
    empty = record {
      flying = λ c h z. absurd (zero_silent s c h);
      took = λ c h some e. absurd (zero_silent s c h);
      unmarked = λ n h e. absurd (h refl);
      said = λ c h. h;
    };
    kept_bump = λ t. omega arith;
    no_bump = λ t h. refl;
    announced = λ t some. absurd (some refl);
    announced_kept = λ t some. absurd (some refl);
    blank = λ p r some none. refl;
    blank_kept = λ p r some none. refl;
    absent = λ p none. refl;
    absent_kept = λ p none. refl;
    fits = λ p read. zero_fits s p;
    fits_kept = λ p read. zero_fits s p;
  };
  records = none_records s (ledger_of (new_world s told)) (λ i. refl);
  calls = λ i. tt;
  idle = λ client e way. absurd (cc_none way.open_from.begins.1.1);
  up = λ down. absurd (cc_none_crash down.crash);
  log = begun s.kind [] told;
}
  where
    cc_none : {X : Type 0} {x : X} → None ≡ Some x → ⊥
    cc_none e = cc

    cc_none_crash : {X : Type 0} {x : X} → None ≡ Some x → ⊥
    cc_none_crash e = cc

-- nothing was done yet
pub inv_new : (s : Shape) (told : List Told) → 1 ≤ s.clients → s.clients ≤ 16 → TellsNothing s told → Inv (new_world s told)
inv_new s told some few fresh = record {
  working = new_works s told some few;
  tells = λ client x lt h. inr (
    record {
      none = record { none = λ p low high taken. absurd (omega (arith, high)) };
      same = fresh client.0 lt ∙ ap (λ y. Some y) (sym (fresh_told s client.0 x h));
    },
    inl refl,
  );
  issued = λ j x at. absurd (none_some at);
}
  where
    none_some : {X : Type 0} {x : X} → None ≡ Some x → ⊥
    none_some e = cc

-- what recovery learnt is in range
pub recovery_point : (w : World) → Inv w → (r : Recovery) → w.recovery ≡ Some r → IsPoint w.shape r.at
recovery_point w v r e =
    let x : Recovering w r = is_recovering w v r e in
    point_fits w.shape w.memory x.claimed x.waiting (queue_of w.log.events w.base w.log.effects) x.sound r x.at

-- nobody calls during recovery, and nothing takes effect
pub no_calls : (w : World) → Inv w → (r : Recovery) → w.recovery ≡ Some r → (j : ℕ) → w.calls j ≡ None
no_calls w v r e j = (is_recovering w v r e).none j

pub recovery_silent : (w : World) → Inv w → (r : Recovery) → w.recovery ≡ Some r → (with_recovery_step w r).log.effects ≡ w.log.effects
recovery_silent w v r e = nobody_fenced w (is_recovering w v r e).none (kept_by (access_of w.shape.kind r.at))

-- sixteen clients are told, by the kept words
pub told_is : (w : World) → Inv w → (r : Recovery) → w.recovery ≡ Some r → (told : List Told) → next_recovery w r ≡ Ready told
    → (length told ≡ 16) × ((t : ℕ) (x : Told) → slice_get told t ≡ Some x → TellsOf w.shape (with_recovery_step w r).memory.kept t x)
told_is w v r e told q = told_woken w r (is_recovering w v r e) told q

-- what recovery leaves: the ends of the chain are right, and what was under way is answered
pub leaves_right : (w : World) → Inv w → (r : Recovery) → w.recovery ≡ Some r → (told : List Told) → next_recovery w r ≡ Ready told
    → IsRecovered w.shape (with_recovery_step w r).memory.kept
leaves_right w v r e told q =
    let x : Recovering w r = is_recovering w v r e in
    let h : Woken w.shape (with_recovery_step w r).memory x.claimed x.waiting (queue_of w.log.events w.base w.log.effects) told = woken w r x told q in
    let chain : chain_of w.shape (with_recovery_step w r).memory.kept ≡ x.claimed ++ x.waiting = chain_is w.shape (with_recovery_step w r).memory.kept x.claimed x.waiting h.sound.chain h.sound.fits in
    let claimed : claimed_of w.shape (with_recovery_step w r).memory.kept ≡ x.claimed =
    claimed_is w.shape (with_recovery_step w r).memory.kept x.claimed x.waiting h.sound.chain h.sound.fits h.sound.on h.sound.back in
    let waiting : waiting_of w.shape (with_recovery_step w r).memory.kept ≡ x.waiting =
    waiting_is w.shape (with_recovery_step w r).memory.kept x.claimed x.waiting h.sound.chain h.sound.fits h.sound.on h.sound.back in
    record {
      head = h.head ∙ ap (end_of 0) (sym claimed);
      tail = h.tail ∙ ap (end_of 0) (sym chain);
      answered = λ n i. (all_answered w.shape (with_recovery_step w r).memory x.claimed x.waiting (queue_of w.log.events w.base w.log.effects) h.sound h.all n (subst (IsAmong n) claimed i)).0;
      taken = λ log n i. h.taken log n (subst (IsAmong n) waiting i);
    }

-- and every word is kept as it is cached
pub nothing_pending : (w : World) → Inv w → (r : Recovery) → w.recovery ≡ Some r → (told : List Told) → next_recovery w r ≡ Ready told
    → (p : Place) → (with_recovery_step w r).memory.cached p ≡ (with_recovery_step w r).memory.kept p
nothing_pending w v r e told q = (woken w r (is_recovering w v r e) told q).same

-- while recovery is under way the kept words tell the same and hold the same, and what they tell is what recovery tells
pub still_alike : (w : World) → Inv w → (r : Recovery) → w.recovery ≡ Some r → TellsAlike w.shape w.memory.kept (with_recovery_step w r).memory.kept
still_alike w v r e = recovered_alike w r (is_recovering w v r e)

pub still_alike_evicted : (w : World) → Inv w → (r : Recovery) → w.recovery ≡ Some r → (p : Place) → TellsAlike w.shape w.memory.kept (with_eviction w p).memory.kept
still_alike_evicted w v r e p = put_alike w r (is_recovering w v r e) p

pub told_are_now : (w : World) → Inv w → (r : Recovery) → w.recovery ≡ Some r → (told : List Told) → next_recovery w r ≡ Ready told
    → told ≡ tells_by w.shape w.memory.kept
told_are_now w v r e told q =
    let x : Recovering w r = is_recovering w v r e in
    told_now w r x (chain_is w.shape w.memory.kept x.claimed x.waiting x.sound.chain x.sound.fits) told q

-- the kept words are sound
pub words_sound : (w : World) → Inv w → IsSound w.shape w.memory.kept
words_sound w v = go w.recovery v
  where
    go : (r : Option Recovery) → InvAt w r → IsSound w.shape w.memory.kept
    go None h =
        let x : Working w = h.working in
        sound_for_recovery w.shape w.memory.kept x.claimed x.waiting (ledger_of w).queue
        (crash_sound w.shape w.memory (ledger_of w) x.claimed x.waiting x.base x.records)
        (chain_is w.shape w.memory.kept x.claimed x.waiting x.base.chained.chain x.base.fits_kept)
    go (Some r) h =
        sound_for_recovery w.shape w.memory.kept h.claimed h.waiting (queue_of w.log.events w.base w.log.effects) h.sound
        (chain_is w.shape w.memory.kept h.claimed h.waiting h.sound.chain h.sound.fits)

-- where the layout has no place, they are 0
pub words_nowhere : (w : World) → Inv w → (p : Place) → (IsPlace w.shape p → ⊥) → w.memory.kept p ≡ 0
words_nowhere w v = go w.recovery v
  where
    go : (r : Option Recovery) → InvAt w r → (p : Place) → (IsPlace w.shape p → ⊥) → w.memory.kept p ≡ 0
    go None h =
        let x : Working w = h.working in
        nowhere w.shape w.memory.kept x.claimed x.waiting (ledger_of w).queue (crash_sound w.shape w.memory (ledger_of w) x.claimed x.waiting x.base x.records)
    go (Some r) h = nowhere w.shape w.memory.kept h.claimed h.waiting (queue_of w.log.events w.base w.log.effects) h.sound

-- there are 1 to 16 clients
pub some_clients : (w : World) → Inv w → (1 ≤ w.shape.clients) × (w.shape.clients ≤ 16)
some_clients w v = go w.recovery v
  where
    go : (r : Option Recovery) → InvAt w r → (1 ≤ w.shape.clients) × (w.shape.clients ≤ 16)
    go None h = (h.working.clients, h.working.sixteen)
    go (Some r) h = (h.clients, h.sixteen)

-- the words that calls read are in range, kept and cached
pub kept_fits : (w : World) → Inv w → (p : Place) → IsReadByCalls p → Fits w.shape p (w.memory.kept p)
kept_fits w v p read = go w.recovery v
  where
    go : (r : Option Recovery) → InvAt w r → Fits w.shape p (w.memory.kept p)
    go None h = h.working.base.fits_kept p read
    go (Some r) h = h.sound.fits p read

-- what recovery's next access reads is in range
pub recovery_reads : (w : World) → Inv w → (r : Recovery) → w.recovery ≡ Some r
    → Fits w.shape (place_of (access_of w.shape.kind r.at)) (w.memory.cached (place_of (access_of w.shape.kind r.at)))
recovery_reads w v r e =
    let x : Recovering w r = is_recovering w v r e in
    reads_fit w.shape w.memory x.claimed x.waiting (queue_of w.log.events w.base w.log.effects) x.sound r x.at

-- recovery never has more steps left than these, each of its steps takes one at least, and evictions take none
pub few_left : (w : World) → Inv w → steps_left w ≤ most_steps w.shape
few_left w v = go w.recovery v
  where
    go : (r : Option Recovery) → InvAt w r → steps_left_at w.shape w.memory.cached r ≤ most_steps w.shape
    go None h = omega arith
    go (Some r) h = few_at w.shape w.memory h.claimed h.waiting (queue_of w.log.events w.base w.log.effects) h.sound r h.at

pub left_falls : (w : World) → Inv w → (r : Recovery) → w.recovery ≡ Some r → steps_left (with_recovery_step w r) < steps_left w
left_falls w v r e =
    let x : Recovering w r = is_recovering w v r e in
    let now : steps_left w ≡ weight w.shape w.memory.cached r.at + 1 = ap (steps_left_at w.shape w.memory.cached) e in
    omega (arith, now, go (next_recovery w r) (falls w.shape w.memory x.claimed x.waiting (queue_of w.log.events w.base w.log.effects) x.sound r x.at))
  where
    go : (next : After Recovery (List Told)) → IsLess w.shape (with_recovery_step w r).memory.cached next (weight w.shape w.memory.cached r.at)
        → steps_left_at w.shape (with_recovery_step w r).memory.cached (recovery_left next) ≤ weight w.shape w.memory.cached r.at
    go (More q) h = omega (arith, h)
    go (Ready told) h = omega arith

pub left_evicted : (w : World) (p : Place) → steps_left (with_eviction w p) ≡ steps_left w
left_evicted w p = refl

-- what the kept words tell a client is told of its announced call
pub told_by_rule : (w : World) → Inv w → (client : Client) (told : Told) → client.0 < 16 → TellsOf w.shape w.memory.kept client.0 told → IsToldOfAnnounced w.shape w.memory.kept w.told w.log client told
told_by_rule w v client told few h = go w.recovery v
  where
    go : (r : Option Recovery) → InvAt w r → IsToldOfAnnounced w.shape w.memory.kept w.told w.log client told
    go None x = told_of_announced w.shape w.memory.kept w.told w.log client told (x.tells client told few h)
    go (Some r) x = told_of_announced w.shape w.memory.kept w.told w.log client told (x.tells client told few h)

-- and so is each client when recovery ends
pub told_announced : (w : World) → Inv w → (r : Recovery) → w.recovery ≡ Some r → (told : List Told) → next_recovery w r ≡ Ready told
    → (client : Client) (x : Told) → slice_get told client.0 ≡ Some x → IsToldOfAnnounced w.shape (with_recovery_step w r).memory.kept w.told (with_recovery_step w r).log client x
told_announced w v r e told q client x at =
    let all : (length told ≡ 16) × ((t : ℕ) (x : Told) → slice_get told t ≡ Some x → TellsOf w.shape (with_recovery_step w r).memory.kept t x) = told_is w v r e told q in
    told_by_rule (with_recovery_step w r) (inv_recovered w v r e) client x (subst (λ n. client.0 < n) all.0 (slice_get_within told client.0 x at)) (all.1 client.0 x at)
