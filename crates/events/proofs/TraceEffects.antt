-- A trace whose effects grow, or lose such as do not count.
use Rattle.std.proofs.Common.{ℕ, ◌≡◌, ◌≢◌, ◌<◌, ◌≤◌, Bool, true, false, not, ◌==◌, if◌then◌else◌, List, [], ◌∷◌, ◌++◌}
use Rattle.std.proofs.Common.{length, refl, ap, arith, subst, sym, ◌∙◌, ⊎_elim, append-nil}
use Rattle.std.specs.Prelude.{All, Contains, EachIndex}
use Rattle.std.specs.List.{filter}
use Rattle.std.proofs.lemmas.Bool.{cases_lt}
use Rattle.std.proofs.lemmas.List.{map-append}
use Rattle.std.proofs.lemmas.List.Elements.{All-weaker, All-contains_itself, All-filter, All-map, All-push}
use Rattle.std.proofs.lemmas.List.Elements.{Contains-append_left, Contains-push_cases}
use Rattle.std.proofs.lemmas.List.Kept.{AllPairs-filter}
use Rattle.words.specs.PlainQueue.{Value}
use Rattle.words.specs.declared.call.Client.{Client}
use Rattle.words.specs.declared.call.Kind.{Kind}
use Rattle.words.specs.declared.call.Reply.{Reply}
use Rattle.words.specs.declared.call.Reply.TheVariants.{Empty}
use Rattle.words.specs.declared.told.Told.{Told}
use Rattle.events.specs.declared.event.Effect.{Effect}
use Rattle.events.specs.declared.event.Event.{Event}
use Rattle.events.specs.declared.event.Entry.{Entry}
use Rattle.events.specs.Effects.{effect_settled_at, entry_of, order_of, with_effect, with_pending, is_pending_at}
use Rattle.events.specs.Effects.{without_pending, with_settled, settled_effects}
use Rattle.events.specs.Explains.{IsAnswered}
use Rattle.events.specs.History.{ReadyAt, HasNoEnd, IsOpenFrom}
use Rattle.events.specs.Trace.{IsTrace, IsEffect, IsPending, entries_of, queue_of}
use Rattle.events.specs.Replay.{IsServed, Replays}
use Rattle.events.specs.Telling.{TellsAt}
use Rattle.events.proofs.Lists.{pairs_map, pairs_push, pairs_weaker}
use Rattle.events.proofs.Members.{in_from_contains, contains_from_in, in_part, taken_from_in_order, in_order_from_taken}
use Rattle.events.proofs.Growing.{begins_within}
use Rattle.events.proofs.GrowingTold.{IsMoreBy, tells_longer}
use Rattle.events.proofs.GrowingReplay.{runs_from_replays, replays_from_runs, runs_push, runs_kept}
use Rattle.events.proofs.EffectLists.{order_with_effect, order_with_pending, order_kept, keeps_settled}
use Rattle.events.proofs.EffectLists.{entries_with_settled, part_with_settled, with_settled_only}

-- each Ready was before the Call at p
abbrev pub IsAfterReadies : List Event → ℕ → Type 0
IsAfterReadies events p = (q : ℕ) (tells : List Told) → ReadyAt events q tells → q < length events → q ≤ p

-- a call that has no end yet began after each Ready
open_after : (kind : Kind) (base : List Value) (told : List Told) (events : List Event) (effects : List Effect)
    (client : Client) (p : ℕ)
    → IsTrace kind base told events effects → IsOpenFrom events client (length events) p
    → IsAfterReadies events p
open_after kind base told events effects client p trace open_from q tells at within =
    ⊎_elim (λ lt. absurd ((trace.fresh q within).fresh tells client p at lt open_from)) (λ le. le) (cases_lt p q)

-- what an order needs to be that of a trace: it has more than the old one has, by a call that began after each Ready
pub record IsNextOrder (events : List Event) (p : ℕ) (order grown : List Entry) : Type 0 where
  pub after : IsAfterReadies events p
  pub more_by : IsMoreBy p order grown

-- then clients were told rightly, and complete calls have their replies
tells_more : (kind : Kind) (told : List Told) (events : List Event) (p : ℕ) (order grown : List Entry)
    → IsNextOrder events p order grown → EachIndex events (λ q. TellsAt kind told events order q)
    → EachIndex events (λ q. TellsAt kind told events grown q)
tells_more kind told events p order grown next tells q lt =
    subst (λ (es : List Event). TellsAt kind told es grown q) (append-nil events)
    (tells_longer kind told events [] p order grown q lt (λ others at. next.after q others at lt) next.more_by
    (tells q lt))

answers_more : (events : List Event) (p : ℕ) (order grown : List Entry) → IsMoreBy p order grown
    → EachIndex events (λ q. IsAnswered events order q) → EachIndex events (λ q. IsAnswered events grown q)
answers_more events p order grown by answers q lt = record {
  taken = λ e client reply begins end returned. by.kept q reply
      ((answers q lt).taken e client reply begins end returned);
}

-- one entry at the end is more by its call
more_by_last : (order : List Entry) (p : ℕ) (reply : Reply)
    → IsMoreBy p order (order ++ record { place = p; reply = reply } ∷ [])
more_by_last order p reply = record {
  kept = λ q r taken. Contains-append_left order (record { place = p; reply = reply } ∷ []) _ taken;
  only = λ q other taken.
      let some = taken_from_in_order (order ++ record { place = p; reply = reply } ∷ []) q taken in
      ⊎_elim (λ old. in_order_from_taken order q some.0 old)
      (λ new. absurd (other (sym (ap (λ (e : Entry). e.place) new))))
      (Contains-push_cases order (record { place = p; reply = reply }) _ some.1);
}

-- an effect at the end
pub record IsNextEffect (events : List Event) (base : List Value) (effects : List Effect) (effect : Effect)
    : Type 0 where
  pub client : Client
  pub open_from : IsOpenFrom events client (length events) effect.place
  pub now : effect.moment ≡ length events
  pub first : All (λ x. x.place ≢ effect.place) effects
  pub served : IsServed events (queue_of events base effects) (entry_of effect)
  pub empty : effect.settled ≡ false → effect.reply ≡ Empty

next_is_effect : (events : List Event) (base : List Value) (effects : List Effect) (effect : Effect)
    → IsNextEffect events base effects effect → IsEffect events effect
next_is_effect events base effects effect next = record {
  client = next.client;
  within = record {
    begins = next.open_from.begins;
    no_end = subst (HasNoEnd events next.client effect.place) (sym next.now) next.open_from.no_end;
  };
  after = let lt : effect.place < length events =
      begins_within events next.client effect.place next.open_from.begins in omega (arith, next.now);
  before = omega (arith, next.now);
}

effect_push : (kind : Kind) (base : List Value) (told : List Told) (events : List Event) (effects : List Effect)
    (effect : Effect)
    → IsTrace kind base told events effects → IsNextEffect events base effects effect
    → IsMoreBy effect.place (order_of effects) (order_of (effects ++ effect ∷ []))
    → IsTrace kind base told events (effects ++ effect ∷ [])
effect_push kind base told events effects effect trace next by =
    let order : IsNextOrder events effect.place (order_of effects) (order_of (effects ++ effect ∷ [])) =
    record {
      after = open_after kind base told events effects next.client effect.place trace next.open_from;
      more_by = by;
    } in
    record {
      places = trace.places;
      numbers = trace.numbers;
      within = All-push (λ x. IsEffect events x) effects effect trace.within
          (next_is_effect events base effects effect next);
      once = pairs_push (λ x y. x.place ≢ y.place) effects effect trace.once next.first;
      ascending = pairs_push (λ x y. x.moment ≤ y.moment) effects effect trace.ascending
          (All-weaker (λ x. IsEffect events x) (λ x. x.moment ≤ effect.moment)
          (λ x is. omega (arith, is.before, next.now)) effects trace.within);
      pending = All-push (λ x. x.settled ≡ false → IsPending events x) effects effect trace.pending
          (λ not. record { empty = next.empty not; client = next.client; open_from = next.open_from });
      replays = replays_from_runs events base (entries_of (effects ++ effect ∷ []))
          (rw (map-append entry_of effects (effect ∷ []))
          (runs_push events base (entries_of effects) (entry_of effect)
          (runs_from_replays events base (entries_of effects) trace.replays) next.served));
      answers = answers_more events effect.place (order_of effects)
          (order_of (effects ++ effect ∷ [])) by trace.answers;
      sixteen = trace.sixteen;
      tells = tells_more kind told events effect.place (order_of effects)
          (order_of (effects ++ effect ∷ [])) order trace.tells;
      fresh = trace.fresh;
    }

-- a call without an end and without an effect takes effect, and counts
pub took : (kind : Kind) (base : List Value) (told : List Told) (events : List Event) (effects : List Effect)
    (client : Client) (p : ℕ) (reply : Reply)
    → IsTrace kind base told events effects → IsOpenFrom events client (length events) p
    → All (λ x. x.place ≢ p) effects
    → IsServed events (queue_of events base effects) (record { place = p; reply = reply })
    → IsTrace kind base told events (with_effect p reply (length events) effects)
took kind base told events effects client p reply trace open_from first served =
    let effect : Effect = record { place = p; reply = reply; moment = length events; settled = true } in
    effect_push kind base told events effects effect trace
    (record {
      client = client;
      open_from = open_from;
      now = refl;
      first = first;
      served = served;
      empty = λ not. cc not;
    })
    (rw (order_with_effect effects p reply (length events)) (more_by_last (order_of effects) p reply))

-- or finds the queue empty, and does not count yet
pub found : (kind : Kind) (base : List Value) (told : List Told) (events : List Event) (effects : List Effect)
    (client : Client) (p : ℕ)
    → IsTrace kind base told events effects → IsOpenFrom events client (length events) p
    → All (λ x. x.place ≢ p) effects
    → IsServed events (queue_of events base effects) (record { place = p; reply = Empty })
    → IsTrace kind base told events (with_pending p (length events) effects)
found kind base told events effects client p trace open_from first served =
    let effect : Effect = record { place = p; reply = Empty; moment = length events; settled = false } in
    effect_push kind base told events effects effect trace
    (record { client = client; open_from = open_from; now = refl; first = first; served = served; empty = λ not. refl })
    (rw (order_with_pending effects p (length events))
    (record { kept = λ q r taken. taken; only = λ q other taken. taken }))

-- effects that are left out and do not count are Empties
pub dropped_empty : (keep : Effect → Bool) (events : List Event) (effects : List Effect)
    → ((x : Effect) → x.settled ≡ true → keep x ≡ true)
    → All (λ x. x.settled ≡ false → IsPending events x) effects
    → All (λ x. keep x ≡ false → x.reply ≡ Empty) effects
dropped_empty keep events effects counts pending =
    All-weaker (λ x. x.settled ≡ false → IsPending events x) (λ x. keep x ≡ false → x.reply ≡ Empty)
    (λ x is dropped. go x x.settled refl is dropped) effects pending
  where
    go : (x : Effect) (s : Bool) → x.settled ≡ s → (x.settled ≡ false → IsPending events x) → keep x ≡ false
        → x.reply ≡ Empty
    go x true s is dropped = cc (counts x s, dropped)
    go x false s is dropped = (is s).empty

-- without some effects that do not count it is a trace still
kept_trace : (keep : Effect → Bool) (kind : Kind) (base : List Value) (told : List Told) (events : List Event)
    (effects : List Effect)
    → ((x : Effect) → x.settled ≡ true → keep x ≡ true) → IsTrace kind base told events effects
    → IsTrace kind base told events (filter keep effects)
kept_trace keep kind base told events effects counts trace =
    let same : order_of (filter keep effects) ≡ order_of effects = order_kept keep effects counts in
    record {
      places = trace.places;
      numbers = trace.numbers;
      within = All-filter keep (λ x. IsEffect events x) effects trace.within;
      once = AllPairs-filter (λ x y. x.place ≢ y.place) keep effects trace.once;
      ascending = AllPairs-filter (λ x y. x.moment ≤ y.moment) keep effects trace.ascending;
      pending = All-filter keep (λ x. x.settled ≡ false → IsPending events x) effects trace.pending;
      replays = replays_from_runs events base (entries_of (filter keep effects))
          (runs_kept keep events base effects (dropped_empty keep events effects counts trace.pending)
          (runs_from_replays events base (entries_of effects) trace.replays));
      answers = subst (λ (order : List Entry). EachIndex events (λ p. IsAnswered events order p))
          (sym same) trace.answers;
      sixteen = trace.sixteen;
      tells = subst (λ (order : List Entry). EachIndex events (λ q. TellsAt kind told events order q))
          (sym same) trace.tells;
      fresh = trace.fresh;
    }

-- the call at p leaves out what it found before
pub forgot : (kind : Kind) (base : List Value) (told : List Told) (events : List Event) (effects : List Effect) (p : ℕ)
    → IsTrace kind base told events effects → IsTrace kind base told events (without_pending p effects)
forgot kind base told events effects p trace =
    kept_trace (λ e. not (is_pending_at p e)) kind base told events effects (keeps_settled p) trace

-- a crash leaves out what does not count
pub settled_effects_alone : (kind : Kind) (base : List Value) (told : List Told) (events : List Event)
    (effects : List Effect)
    → IsTrace kind base told events effects → IsTrace kind base told events (settled_effects effects)
settled_effects_alone kind base told events effects trace =
    kept_trace (λ e. e.settled) kind base told events effects (λ x s. s) trace

-- an effect that counts now is one still
counts_effect : (events : List Event) (p : ℕ) (x : Effect) → IsEffect events x → IsEffect events (effect_settled_at p x)
counts_effect events p x is = go (x.place == p)
  where
    go : (t : Bool) → IsEffect events (if t then record x { settled = true } else x)
    go true = record {
      client = is.client;
      within = record { begins = is.within.begins; no_end = is.within.no_end };
      after = is.after;
      before = is.before;
    }
    go false = is

counts_pending : (events : List Event) (p : ℕ) (x : Effect) → (x.settled ≡ false → IsPending events x)
    → (effect_settled_at p x).settled ≡ false → IsPending events (effect_settled_at p x)
counts_pending events p x is = go (x.place == p)
  where
    go : (t : Bool) → (let y : Effect = if t then record x { settled = true } else x in y.settled ≡ false
        → IsPending events y)
    go true = λ not. cc not
    go false = is

counts_place : (p : ℕ) (x : Effect) → (effect_settled_at p x).place ≡ x.place
counts_place p x = go (x.place == p)
  where
    go : (t : Bool) → (let y : Effect = if t then record x { settled = true } else x in y.place ≡ x.place)
    go true = refl
    go false = refl

counts_moment : (p : ℕ) (x : Effect) → (effect_settled_at p x).moment ≡ x.moment
counts_moment p x = go (x.place == p)
  where
    go : (t : Bool) → (let y : Effect = if t then record x { settled = true } else x in y.moment ≡ x.moment)
    go true = refl
    go false = refl

-- what settling puts into the order is the call's entry alone
more_by_settled : (p : ℕ) (effects : List Effect) → IsMoreBy p (order_of effects) (order_of (with_settled p effects))
more_by_settled p effects = record {
  kept = λ q reply taken. contains_from_in (order_of (with_settled p effects)) _
      (in_part _ (part_with_settled p effects) (in_from_contains (order_of effects) _ taken));
  only = λ q other taken.
      let some = taken_from_in_order (order_of (with_settled p effects)) q taken in
      in_order_from_taken (order_of effects) q some.0
      (contains_from_in (order_of effects) _
      (with_settled_only p effects _ other (in_from_contains (order_of (with_settled p effects)) _ some.1)));
}

-- what the call at p found counts now
pub settled : (kind : Kind) (base : List Value) (told : List Told) (events : List Event) (effects : List Effect)
    (client : Client) (p : ℕ)
    → IsTrace kind base told events effects → IsOpenFrom events client (length events) p
    → IsTrace kind base told events (with_settled p effects)
settled kind base told events effects client p trace open_from =
    let by : IsMoreBy p (order_of effects) (order_of (with_settled p effects)) = more_by_settled p effects in
    let order : IsNextOrder events p (order_of effects) (order_of (with_settled p effects)) =
    record { after = open_after kind base told events effects client p trace open_from; more_by = by } in
    record {
      places = trace.places;
      numbers = trace.numbers;
      within = All-map (λ x. IsEffect events x) (effect_settled_at p) effects
          (All-weaker (λ x. IsEffect events x) (λ x. IsEffect events (effect_settled_at p x))
          (counts_effect events p) effects trace.within);
      once = pairs_map (λ x y. x.place ≢ y.place) (effect_settled_at p) effects
          (pairs_weaker (Contains effects) (λ x y. x.place ≢ y.place)
          (λ x y. (effect_settled_at p x).place ≢ (effect_settled_at p y).place) effects
          (λ x y _ _ other same. other (sym (counts_place p x) ∙ same ∙ counts_place p y))
          (All-contains_itself effects) trace.once);
      ascending = pairs_map (λ x y. x.moment ≤ y.moment) (effect_settled_at p) effects
          (pairs_weaker (Contains effects) (λ x y. x.moment ≤ y.moment)
          (λ x y. (effect_settled_at p x).moment ≤ (effect_settled_at p y).moment) effects
          (λ x y _ _ le. omega (arith, counts_moment p x, counts_moment p y))
          (All-contains_itself effects) trace.ascending);
      pending = All-map (λ x. x.settled ≡ false → IsPending events x) (effect_settled_at p) effects
          (All-weaker (λ x. x.settled ≡ false → IsPending events x)
          (λ x. (effect_settled_at p x).settled ≡ false → IsPending events (effect_settled_at p x))
          (counts_pending events p) effects trace.pending);
      replays = subst (Replays events base) (sym (entries_with_settled p effects)) trace.replays;
      answers = answers_more events p (order_of effects) (order_of (with_settled p effects)) by trace.answers;
      sixteen = trace.sixteen;
      tells = tells_more kind told events p (order_of effects) (order_of (with_settled p effects)) order trace.tells;
      fresh = trace.fresh;
    }
