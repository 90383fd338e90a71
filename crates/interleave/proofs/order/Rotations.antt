-- A rotation keeps what holds of a world, and what the history that ends leaves to the next.
use Rattle.std.proofs.Common.{[], ◌≡◌, ℕ, zero, suc, ◌<◌, ◌≤◌, inl, inr, Bool, true, false, if◌then◌else◌, List}
use Rattle.std.proofs.Common.{◌∷◌, length, Option, Some, None, Result, Ok, Err, is_ok, slice_get, slice_index}
use Rattle.std.proofs.Common.{slice_index_or, refl, sym, ap, ◌∙◌, subst, arith, ⊎_elim}
use Rattle.std.specs.Prelude.{unwrap_or}
use Rattle.std.proofs.lemmas.List.FromFn.{length-map-range_with_len}
use Rattle.std.proofs.lemmas.Option.{slice_get_within}
use Rattle.words.specs.declared.call.Client.{Client}
use Rattle.words.specs.declared.call.Kind.{Kind}
use Rattle.words.specs.declared.call.Kind.TheVariants.{Durable as durable_kind, Log as log_kind}
use Rattle.words.specs.declared.limits.TheConstants.{MAX_CLIENTS}
use Rattle.words.specs.declared.refusal.Refusal.{Refusal}
use Rattle.words.specs.declared.refusal.Refusal.TheVariants.{NotReady, Busy, NoMemory}
use Rattle.words.specs.declared.told.Told.{Told}
use Rattle.words.specs.declared.told.Told.TheVariants.{None as told_none}
use Rattle.interleave.specs.LogQueue.{floor_of}
use Rattle.arena.specs.Words.{announcements}
use Rattle.sound_words.specs.Told.{told_by}
use Rattle.events.specs.Trace.{IsNumberOf}
use Rattle.protocol.specs.Kept.{TellsOf}
use Rattle.protocol.specs.declared.UnderWay.{UnderWay}
use Rattle.protocol.specs.invariants.Told.{IsTold}
use Rattle.protocol.specs.invariants.Worlds.{Inv, IsReady}
use Rattle.protocol.proofs.Facts.{in_log, inv_rotated, is_ready, tells_now, told_at, told_by_rule}
use Rattle.interleave.specs.Calls.{is_no_memory}
use Rattle.interleave.specs.Floors.{AreFloorsRightIn, FloorsFit}
use Rattle.interleave.specs.Holds.{Holds, from_invariant, to_invariant}
use Rattle.interleave.specs.Numbers.{AreNumbersRisingIn, HasNumber}
use Rattle.interleave.specs.Numbers.{told_floor}
use Rattle.interleave.specs.Queue.{told_in}
use Rattle.interleave.specs.Ranges.{IsOfKind}
use Rattle.interleave.specs.Rotation.{AreNumbersTold, IsBaseToldRightly, IsQuiet, ShareNoNumber, after_rotate}
use Rattle.interleave.specs.Rotation.{after_rotation, queue_with_told, rotate_result, some_client_calls}
use Rattle.interleave.specs.State.{State, machine, order_in, is_down, kept_content, kept_tells}
use Rattle.interleave.specs.Turn.{NobodyCalls}
use Rattle.interleave.specs.declared.queue.Queue.{Queue}
use Rattle.interleave.specs.declared.queue.Queue.TheVariants.{Durable, Log}
use Rattle.interleave.proofs.numbers.Floors.{floors_unused}
use Rattle.interleave.proofs.machine.Holding.{is_none}
use Rattle.interleave.proofs.numbers.Uniqueness.{there_at, told_covers}
use Rattle.interleave.proofs.records.Accounts.{accounted_none}

-- where no client of the list calls
nobody_in : (calls : List (Option UnderWay)) → some_client_calls calls ≡ false → (t : ℕ)
    → slice_index_or calls t None ≡ None
nobody_in [] e t = refl
nobody_in (Some u ∷ calls) e t = cc
nobody_in (None ∷ calls) e zero = refl
nobody_in (None ∷ calls) e (suc t) = nobody_in calls e t

-- what an attempt answers by these
abbrev answer_by : Bool → Bool → Bool → Result Unit Refusal
answer_by down called full =
    if down then Err NotReady else (if called then Err Busy else (if full then Err NoMemory else Ok tt))

-- a history may end where recovery is not under way, and no call is
pub quiet_at : (full : Bool) (w : State) → rotate_result full w ≡ Ok tt → IsQuiet w
quiet_at full w is = go (is_down w) (some_client_calls w.calls) full refl refl is
  where
    go : (down called f : Bool) → is_down w ≡ down → some_client_calls w.calls ≡ called
        → answer_by down called f ≡ Ok tt → IsQuiet w
    go true called f e g is = cc
    go false true f e g is = cc
    go false false true e g is = cc
    go false false false e g is = record { ready = is_none w.recovery e; nobody = nobody_in w.calls g }

-- what is refused for want of memory too is refused so
pub refused_so : (w : State) (refusal : Refusal) → rotate_result true w ≡ Err refusal
    → Err refusal ≡ rotate_result (is_no_memory (let r : Result Unit Refusal = Err refusal in r)) w
refused_so w refusal is = go (is_down w) (some_client_calls w.calls) is
  where
    go : (down called : Bool) → answer_by down called true ≡ Err refusal
        → Err refusal ≡ answer_by down called (is_no_memory (let r : Result Unit Refusal = Err refusal in r))
    go true called e = sym e
    go false true e = sym e
    go false false e = subst (λ (r : Result Unit Refusal). r ≡ answer_by false false (is_no_memory r)) e refl

pub told_with : (queue : Queue) (told : List Told) → told_in (queue_with_told queue told) ≡ told
told_with (Durable old) told = refl
told_with (Log clients) told = refl

kind_with : (kind : Kind) (queue : Queue) (told : List Told) → IsOfKind kind queue
    → IsOfKind kind (queue_with_told queue told)
kind_with durable_kind (Durable old) told is = tt
kind_with log_kind (Log clients) told is = tt
kind_with durable_kind (Log clients) told is = absurd is
kind_with log_kind (Durable old) told is = absurd is

-- what the kept words tell a client
abbrev tells : State → Client → Told
tells w client = told_by w.shape (machine w).memory.kept client.0

-- it is told that rightly now
abbrev IsToldNow : State → Client → Kind → Type 0
IsToldNow w client kind =
    IsTold kind w.told w.log.issued (announcements (machine w).memory.kept client.0) w.log.events (order_in w) client
    (tells w client)

module _ (w : State) (holds : Holds w) where
  inv : Inv (machine w)
  inv = from_invariant _ holds.inv

  tells_at : (client : Client) → client.0 < MAX_CLIENTS → slice_get (kept_tells w) client.0 ≡ Some (tells w client)
  tells_at client few = told_at w.shape (machine w).memory.kept client.0 few

  -- its floor by that
  floor_by : (client : Client) → client.0 < MAX_CLIENTS → told_floor (kept_tells w) client ≡ floor_of (tells w client)
  floor_by client few = ap (λ (o : Option Told). floor_of (unwrap_or o told_none)) (tells_at client few)

  few_of : (p n : ℕ) (client : Client) → HasNumber w.log.events client p n → client.0 < MAX_CLIENTS
  few_of p n client has = ((in_log (machine w) inv).places p _ has.1).0

  -- the base of the next history tells each client what is right in this one
  pub told_rightly : IsBaseToldRightly w
  told_rightly client x at =
      let here : slice_get (kept_tells w) client.0 ≡ Some x =
      ap (λ (ts : List Told). slice_get ts client.0) (sym (told_with w.queue (kept_tells w))) ∙ at in
      let long : length (kept_tells w) ≡ 16 =
      length-map-range_with_len (told_by w.shape (machine w).memory.kept) 0 16 in
      let few : client.0 < 16 = omega (arith, slice_get_within (kept_tells w) client.0 x here, long) in
      let both : Some (tells w client) ≡ Some x = sym (tells_at client few) ∙ here in
      let same : tells w client ≡ x = cc in
      told_by_rule (machine w) inv client x few
      (subst (TellsOf w.shape (machine w).memory.kept client.0) same (tells_now (machine w) inv client.0))

module _ (w : State) (holds : Holds w) (quiet : IsQuiet w) where
  ready : IsReady (machine w)
  ready = is_ready (machine w) (inv w holds) quiet.ready

  pub nobody_calls : NobodyCalls w
  nobody_calls client way = ready.working.idle client (quiet.nobody client.0) way

  rightly : (client : Client) → client.0 < MAX_CLIENTS → IsToldNow w client w.shape.kind
  rightly client few = ready.tells client (tells w client) few (tells_now (machine w) (inv w holds) client.0)

  -- each number in the order is at most the floor by what the kept words tell its client
  pub numbers_told : AreNumbersTold w
  numbers_told i number client x = go w.queue w.shape.kind refl holds.kind holds.numbers
    where
      has : HasNumber w.log.events client x.entry.place number
      has = x.has_number

      few : client.0 < MAX_CLIENTS
      few = few_of w holds x.entry.place number client has

      go : (queue : Queue) (kind : Kind) → w.shape.kind ≡ kind → IsOfKind kind queue
          → AreNumbersRisingIn queue w.told w.log.events (order_in w) → number ≤ told_floor (kept_tells w) client
      go (Durable reports) durable_kind e is v =
          let none : number ≡ 0 = subst (λ (k : Kind). IsNumberOf k number) e
          ((in_log (machine w) (inv w holds)).numbers x.entry.place number client has.0 has.1) in
          omega (arith, none)
      go (Durable reports) log_kind e is v = absurd is
      go (Log clients) durable_kind e is v = absurd is
      go (Log clients) log_kind e is v =
          let floor = floor_by w holds client few in
          let told : IsToldNow w client log_kind = subst (IsToldNow w client) e (rightly client few) in
          let low = told_covers w.told w.log.events (order_in w) clients.floors v client (tells w client)
          (⊎_elim (λ some. inl some.0) (λ none. inr none.0) told) x.entry.place number has
          (there_at (order_in w) i x.entry x.at) in
          omega (arith, floor, low)

  -- each floor is by what the kept words tell
  floors_told : (floors : List ℕ) → FloorsFit (machine w) floors → (client : Client) → client.0 < MAX_CLIENTS
      → told_floor (kept_tells w) client ≤ slice_index floors client.0
  floors_told floors fit client few =
      let told = floor_by w holds client few in
      let exact = fit.told quiet.ready client few (quiet.nobody client.0) in
      omega (arith, told, exact)

  -- so the numbers of the next history rise from here
  numbers_rotated : AreNumbersRisingIn (queue_with_told w.queue (kept_tells w)) (kept_tells w) [] []
  numbers_rotated = go w.queue holds.numbers holds.floors
    where
      go : (queue : Queue) → AreNumbersRisingIn queue w.told w.log.events (order_in w)
          → AreFloorsRightIn queue (machine w)
          → AreNumbersRisingIn (queue_with_told queue (kept_tells w)) (kept_tells w) [] []
      go (Durable reports) v fit = tt
      go (Log clients) v fit = record {
        sixteen = v.sixteen;
        rise = λ p q m n client has_m has_n lt there. cc (has_m.1);
        within = λ p n client has there. cc (has.1);
        base = λ p n client has. cc (has.1);
        base_floors = floors_told clients.floors fit;
      }

  -- no floor changes, nor what is told
  floors_rotated : (queue : Queue) → AreFloorsRightIn queue (machine w)
      → AreFloorsRightIn (queue_with_told queue (kept_tells w)) (machine (after_rotation w))
  floors_rotated (Durable reports) fit = tt
  floors_rotated (Log clients) fit =
      floors_unused (machine (after_rotation w)) quiet.nobody clients.floors (fit.told quiet.ready)

  -- what holds of a world holds where its next history begins
  pub holds_rotated : Holds (after_rotation w)
  holds_rotated = record {
    safe = holds.safe;
    kind = kind_with w.shape.kind w.queue (kept_tells w) holds.kind;
    inv = to_invariant _ (inv_rotated (machine w) (inv w holds) quiet.ready quiet.nobody);
    numbers = numbers_rotated;
    floors = floors_rotated w.queue holds.floors;
    records = accounted_none (machine (after_rotation w)) refl;
  }

-- whatever a rotation answers
pub holds_after_rotate : (full : Bool) (w : State) → Holds w → Holds (after_rotate full w)
holds_after_rotate full w holds = go (rotate_result full w) refl
  where
    go : (r : Result Unit Refusal) → rotate_result full w ≡ r → Holds (if is_ok r then after_rotation w else w)
    go (Err refusal) e = holds
    go (Ok u) e = holds_rotated w holds (quiet_at full w e)

-- it leaves what the kept words tell, and what they hold
pub tells_rotated : (full : Bool) (w : State)
    → (kept_tells (after_rotate full w) ≡ kept_tells w) × (kept_content (after_rotate full w) ≡ kept_content w)
tells_rotated full w = go (is_ok (rotate_result full w))
  where
    go : (b : Bool) → (kept_tells (if b then after_rotation w else w) ≡ kept_tells w)
        × (kept_content (if b then after_rotation w else w) ≡ kept_content w)
    go true = (refl, refl)
    go false = (refl, refl)

-- and what each client was last told
pub told_rotated : (full : Bool) (w : State) → rotate_result full w ≡ Ok tt
    → told_in (after_rotate full w).queue ≡ kept_tells w
told_rotated full w is =
    ap (λ (r : Result Unit Refusal). told_in (if is_ok r then after_rotation w else w).queue) is
    ∙ told_with w.queue (kept_tells w)

-- a log queue's call in the order of a history has another number than each call of its client in that of a later one,
-- where the later one's base tells what the kept words of the earlier one told at its end
pub numbers_are_new : (old new : State) → Holds old → IsQuiet old → Holds new → new.shape.kind ≡ log_kind
    → new.told ≡ kept_tells old → ShareNoNumber old new
numbers_are_new old new holds quiet later log same i j number client x y =
    go new.queue new.shape.kind log later.kind later.numbers
  where
    low : number ≤ told_floor (kept_tells old) client
    low = numbers_told old holds quiet i number client x

    go : (queue : Queue) (kind : Kind) → kind ≡ log_kind → IsOfKind kind queue
        → AreNumbersRisingIn queue new.told new.log.events (order_in new) → ⊥
    go (Log clients) kind e is v =
        let high = v.base y.entry.place number client y.has_number in
        let floor : told_floor new.told client ≡ told_floor (kept_tells old) client =
        ap (λ (told : List Told). told_floor told client) same in
        omega (arith, low, high, floor)
    go (Durable reports) kind e is v = absurd (subst (λ (k : Kind). IsOfKind k (Durable reports)) e is)
