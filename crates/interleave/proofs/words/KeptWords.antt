-- What the kept words of a world tell and hold: they are sound at every moment, and recovery changes neither.
use Rattle.std.proofs.Common.{◌≡◌, ◌≤◌, ◌<◌, ℕ, Bool, true, false, List, Option, Some, None, Result, Ok, Err, refl, sym, ap, subst, ◌∙◌}
use Rattle.std.specs.Prelude.{is_some, IfOk, slice_get}
use Rattle.protocol.specs.Measure.{steps_left}
use Rattle.protocol.specs.Recovered.{IsRecovered}
use Rattle.protocol.specs.Announced.{IsToldOfAnnounced}
use Rattle.words.specs.declared.call.Client.{Client}
use Rattle.words.specs.declared.told.Told.{Told}
use Rattle.words.specs.declared.refusal.Refusal.{Refusal}
use Rattle.arena.specs.Layout.{place_at}
use Rattle.arena.specs.Content.{kept_content as content_of}
use Rattle.arena.specs.declared.place.Place.{Place}
use Rattle.sound_words.specs.Kept.{kept_in}
use Rattle.sound_words.specs.Told.{tells_by}
use Rattle.stepper.specs.declared.resume.After.{After}
use Rattle.stepper.specs.declared.resume.After.TheVariants.{More as go_on, Done as Ready}
use Rattle.recover.specs.declared.recovery.Recovery.{Recovery}
use Rattle.sound_words.proofs.Facts.{sound_like}
use Rattle.protocol.specs.Machine.{World, next_recovery}
use Rattle.protocol.proofs.Facts.{few_left, leaves_right, left_falls, still_alike, still_alike_evicted, told_announced}
use Rattle.protocol.proofs.Facts.{told_are_now, words_sound}
use Rattle.interleave.specs.Holds.{Holds, from_invariant}
use Rattle.interleave.specs.Queue.{told_in, queue_with_reports}
use Rattle.interleave.specs.Values.{value_of_place}
use Rattle.interleave.specs.State.{State, machine, after_recovery_step, is_down, kept_tells, kept_content, IsKeptSound}
use Rattle.interleave.specs.State.{AreToldOfAnnounced, IsMended, steps_to_ready, most_to_ready, after_crash, evict_with}
use Rattle.interleave.specs.State.{after_evict, is_ready, queue_at_ready, recover_with, recover_result_with}
use Rattle.interleave.specs.State.{after_recover, recover_result}
use Rattle.interleave.specs.declared.queue.Queue.{Queue}
use Rattle.interleave.specs.declared.queue.Queue.TheVariants.{Durable, Log}
use Rattle.interleave.proofs.machine.Holding.{evicted_is, recovered_is}
use Rattle.interleave.proofs.words.Values.{shown_at}

pub told_again : (queue : Queue) (told : List Told) → told_in (queue_with_reports queue told) ≡ told
told_again (Durable old) told = refl
told_again (Log clients) told = refl

-- at every moment the kept words are such as recovery can begin with
pub kept_sound : (w : State) → Holds w → IsKeptSound w
kept_sound w holds =
    let s = w.shape in
    record {
      count = holds.safe.words.count;
      sound = sound_like s (value_of_place s w.words.kept) (kept_in s w.words.kept) (λ p at. sym (shown_at s w.words.kept p at)) (words_sound (machine w) (from_invariant _ holds.inv));
    }

-- what a step of recovery leaves of what the kept words tell and hold
pub tells_on : (full : Bool) (w : State) → Holds w → (kept_tells (after_recover full w) ≡ kept_tells w) × (kept_content (after_recover full w) ≡ kept_content w)
tells_on full w holds = go w.recovery refl full
  where
    go : (o : Option Recovery) → w.recovery ≡ o → (f : Bool) → (kept_tells (recover_with f w o) ≡ kept_tells w) × (kept_content (recover_with f w o) ≡ kept_content w)
    go None e f = (refl, refl)
    go (Some r) e true = (refl, refl)
    go (Some r) e false =
        let is = recovered_is w r holds e in
        let alike = still_alike (machine w) (from_invariant _ holds.inv) r e in
        (ap (λ (m : World). tells_by w.shape m.memory.kept) is ∙ alike.tells, ap (λ (m : World). content_of w.shape m.memory.kept) is ∙ alike.holds)

-- a crash leaves all of it
pub tells_crashed : (full : Bool) (w : State) → (kept_tells (after_crash full w) ≡ kept_tells w) × (kept_content (after_crash full w) ≡ kept_content w)
tells_crashed true w = (refl, refl)
tells_crashed false w = (refl, refl)

-- and so does an eviction during recovery
pub tells_evicted : (w : State) (word : ℕ) → Holds w → is_down w ≡ true → (kept_tells (after_evict w word) ≡ kept_tells w) × (kept_content (after_evict w word) ≡ kept_content w)
tells_evicted w word holds down = go (place_at w.shape word) refl w.recovery refl
  where
    go : (o : Option Place) → place_at w.shape word ≡ o → (q : Option Recovery) → w.recovery ≡ q
        → (kept_tells (evict_with w word o) ≡ kept_tells w) × (kept_content (evict_with w word o) ≡ kept_content w)
    go None named q e = (refl, refl)
    go (Some p) named None e = let up : is_down w ≡ false = ap is_some e in absurd (cc)
    go (Some p) named (Some r) e =
        let is = evicted_is w word p holds named in
        let alike = still_alike_evicted (machine w) (from_invariant _ holds.inv) r e p in
        (ap (λ (m : World). tells_by w.shape m.memory.kept) is ∙ alike.tells, ap (λ (m : World). content_of w.shape m.memory.kept) is ∙ alike.holds)

-- once it is ready, each client is told what the kept words tell
pub told_by_kept : (full : Bool) (w : State) → Holds w → recover_result full w ≡ Ok true → told_in (after_recover full w).queue ≡ kept_tells w
told_by_kept full w holds is = go w.recovery refl full is
  where
    ends : (r : Recovery) → w.recovery ≡ Some r → (next : After Recovery (List Told)) → next_recovery (machine w) r ≡ next → is_ready next ≡ true → told_in (queue_at_ready w.queue next) ≡ kept_tells w
    ends r e (go_on p) is_next ready = cc
    ends r e (Ready told) is_next ready = told_again w.queue told ∙ told_are_now (machine w) (from_invariant _ holds.inv) r e told is_next

    go : (o : Option Recovery) → w.recovery ≡ o → (f : Bool) → recover_result_with f w o ≡ Ok true → told_in (recover_with f w o).queue ≡ kept_tells w
    go None e f is2 = cc
    go (Some r) e true is2 = cc
    go (Some r) e false is2 = ends r e (next_recovery (machine w) r) refl (let same : is_ready (next_recovery (machine w) r) ≡ true = cc in same)

-- of its announced call
pub told_of_announced : (full : Bool) (w : State) → Holds w → recover_result full w ≡ Ok true → AreToldOfAnnounced (after_recover full w)
told_of_announced full w holds is = go w.recovery refl full is
  where
    ends : (r : Recovery) → w.recovery ≡ Some r → (next : After Recovery (List Told)) → next_recovery (machine w) r ≡ next → is_ready next ≡ true
        → (client : Client) (told : Told) → slice_get (told_in (queue_at_ready w.queue next)) client.0 ≡ Some told
        → IsToldOfAnnounced w.shape (machine (after_recovery_step w r)).memory.kept w.told (machine (after_recovery_step w r)).log client told
    ends r e (go_on p) is_next ready client told at = cc
    ends r e (Ready tells) is_next ready client told at =
        let here : slice_get tells client.0 ≡ Some told = ap (λ (ts : List Told). slice_get ts client.0) (sym (told_again w.queue tells)) ∙ at in
        subst (λ (m : World). IsToldOfAnnounced w.shape m.memory.kept w.told m.log client told) (sym (recovered_is w r holds e))
        (told_announced (machine w) (from_invariant _ holds.inv) r e tells is_next client told here)

    go : (o : Option Recovery) → w.recovery ≡ o → (f : Bool) → recover_result_with f w o ≡ Ok true → AreToldOfAnnounced (recover_with f w o)
    go None e f is2 = cc
    go (Some r) e true is2 = cc
    go (Some r) e false is2 = λ client told at.
        ends r e (next_recovery (machine w) r) refl (let same : is_ready (next_recovery (machine w) r) ≡ true = cc in same) client told at

-- and the kept words are mended
pub mended : (full : Bool) (w : State) → Holds w → recover_result full w ≡ Ok true → IsMended (after_recover full w)
mended full w holds is = go w.recovery refl full is
  where
    ends : (r : Recovery) → w.recovery ≡ Some r → (next : After Recovery (List Told)) → next_recovery (machine w) r ≡ next → is_ready next ≡ true → IsMended (after_recovery_step w r)
    ends r e (go_on p) is_next ready = cc
    ends r e (Ready told) is_next ready =
        subst (λ (m : World). IsRecovered w.shape m.memory.kept) (sym (recovered_is w r holds e)) (leaves_right (machine w) (from_invariant _ holds.inv) r e told is_next)

    go : (o : Option Recovery) → w.recovery ≡ o → (f : Bool) → recover_result_with f w o ≡ Ok true → IsMended (recover_with f w o)
    go None e f is2 = cc
    go (Some r) e true is2 = cc
    go (Some r) e false is2 = ends r e (next_recovery (machine w) r) refl (let same : is_ready (next_recovery (machine w) r) ≡ true = cc in same)

-- how many steps recovery has left
pub few_to_ready : (w : State) → Holds w → steps_to_ready w ≤ most_to_ready w.shape
few_to_ready w holds = few_left (machine w) (from_invariant _ holds.inv)

-- fewer after each step
pub falls_on : (full : Bool) (w : State) → Holds w → (result : Result Bool Refusal) → result ≡ recover_result full w
    → IfOk result (λ ready. steps_to_ready (after_recover full w) < steps_to_ready w)
falls_on full w holds result is = go w.recovery refl full result is
  where
    go : (o : Option Recovery) → w.recovery ≡ o → (f : Bool) → (x : Result Bool Refusal) → x ≡ recover_result_with f w o → IfOk x (λ ready. steps_to_ready (recover_with f w o) < steps_to_ready w)
    go None e f (Err refusal) is2 = tt
    go None e f (Ok b) is2 = cc
    go (Some r) e true (Err refusal) is2 = tt
    go (Some r) e true (Ok b) is2 = cc
    go (Some r) e false (Err refusal) is2 = cc
    go (Some r) e false (Ok b) is2 = subst (λ (m : World). steps_left m < steps_left (machine w)) (sym (recovered_is w r holds e)) (left_falls (machine w) (from_invariant _ holds.inv) r e)

-- and as many after an eviction
pub left_evicted : (w : State) (word : ℕ) → steps_to_ready (after_evict w word) ≡ steps_to_ready w
left_evicted w word = go (place_at w.shape word)
  where
    go : (o : Option Place) → steps_to_ready (evict_with w word o) ≡ steps_to_ready w
    go None = refl
    go (Some p) = refl
