-- What an eviction makes of a world.
use Rattle.std.proofs.Common.{◌≡◌, ℕ, ◌≤◌, ◌<◌, inl, inr, List, length, Option, Some, None, Result, Ok, Err, refl, slice_index, slice_set, sym, ap, ◌∙◌, subst, arith}
use Rattle.std.proofs.lemmas.List.{set-get_or}
use Rattle.std.proofs.lemmas.Bool.{eq-eqb, lt-ltb, le-ltb}
use Rattle.words.specs.PlainQueue.{Value}
use Rattle.words.specs.declared.refusal.Refusal.{Refusal}
use Rattle.words.specs.declared.refusal.Refusal.TheVariants.{NoWord}
use Rattle.persist.specs.declared.access.Change.{Change}
use Rattle.events.specs.declared.event.Effect.{Effect}
use Rattle.sound_words.specs.Sound.{SizeIsSound}
use Rattle.std.specs.Prelude.{MatchOption}
use Rattle.persist.specs.Changes.{change_of}
use Rattle.persist.specs.Memory.{Words, words_after_eviction}
use Rattle.arena.specs.Layout.{laid_out, place_at, size_of, word_at}
use Rattle.arena.specs.Shape.{Shape}
use Rattle.arena.specs.Place.{IsPlace}
use Rattle.arena.specs.declared.place.Place.{Place}
use Rattle.recover.specs.declared.recovery.Recovery.{Recovery}
use Rattle.protocol.specs.Machine.{Trace, after_keeping}
use Rattle.protocol.specs.declared.UnderWay.{UnderWay}
use Rattle.protocol.proofs.Facts.{evict_room}
use Rattle.interleave.specs.Changes.{effects_on_change}
use Rattle.interleave.specs.Holds.{Holds, from_invariant}
use Rattle.interleave.specs.Ranges.{WordsFit}
use Rattle.interleave.specs.State.{State, machine, machine_of, evict_with, evict_result, evict_result_with, after_evict}
use Rattle.interleave.proofs.machine.Invariants.{room_held}
use Rattle.interleave.proofs.words.Ranges.{IsSafe-evicted}
use Rattle.interleave.specs.Trace.{Traced, state_with}
use Rattle.interleave.specs.declared.queue.Queue.{Queue}
use Rattle.interleave.proofs.machine.Effects.{effects_of_change, place_of_word}

-- a word past the layout has no place
place_none : (s : Shape) (word : ℕ) → size_of s ≤ word → place_at s word ≡ None
place_none s word past = go (place_at s word) refl
  where
    go : (o : Option Place) → place_at s word ≡ o → place_at s word ≡ None
    go None e = e
    go (Some p) e = let at = place_of_word s word p e in absurd (omega (arith, past, (laid_out s).below p at.0, at.1))

-- and one without a place is past it
past_none : (s : Shape) (word : ℕ) → place_at s word ≡ None → size_of s ≤ word
past_none s word e =
    subst (λ o. MatchOption o (size_of s ≤ word) (λ q. IsPlace s q × (word_at s q ≡ word))) e ((laid_out s).named word)

-- there it is 0
rest_zero : (s : Shape) (ws : List ℕ) (word : ℕ) → SizeIsSound s ws → size_of s ≤ word → word < length ws
    → slice_index ws word ≡ 0
rest_zero s ws word (inl same) past within = absurd (omega (arith, same, past, within))
rest_zero s ws word (inr block) past within = block.rest word past within

-- so its eviction changes nothing
module _ (s : Shape) (ws : Words) (word : ℕ) (fits : WordsFit s ws) (past : size_of s ≤ word)
    (within : word < length ws.cached) where
  same_value : slice_index ws.kept word ≡ slice_index ws.cached word
  same_value =
      rest_zero s ws.kept word fits.count past (omega (arith, within, fits.same))
      ∙ sym (rest_zero s ws.cached word fits.cached_count past within)

  rest_words : words_after_eviction word ws ≡ ws
  rest_words =
      ap (λ (v : ℕ). let m : Words = record ws { kept = slice_set ws.kept word v } in m) (sym same_value)
      ∙ ap (λ (vs : List ℕ). let m : Words = record ws { kept = vs } in m) (set-get_or ws.kept word 0)

  rest_change : change_of ws word ≡ None
  rest_change = rw (eq-eqb (slice_index ws.kept word) (slice_index ws.cached word) same_value) refl

module _ (s : Shape) (ws : Words) (queue : Queue) (calls : List (Option UnderWay)) (t : Traced) (word : ℕ) (p : Place)
    (named : place_at s word ≡ Some p) (holds : Holds (state_with s ws queue calls t)) where
  at : IsPlace s p × (word_at s p ≡ word)
  at = place_of_word s word p named

  is_place : IsPlace s p
  is_place = at.0

  word_is : word_at s p ≡ word
  word_is = at.1

  below : word < length ws.cached
  below = omega (arith, (laid_out s).below p is_place, word_is, holds.safe.words.room)

  -- what the code notes of a change is what the machine notes
  notes : effects_on_change (machine_of s (words_after_eviction word ws) calls t.base t.told t.log) (change_of ws word) ≡ after_keeping (machine (state_with s ws queue calls t)) p
  notes =
      let long : size_of s ≤ length ws.kept = omega (arith, holds.safe.words.room, holds.safe.words.same) in
      subst (λ (v : ℕ). effects_on_change (machine_of s (words_after_eviction v ws) calls t.base t.told t.log) (change_of ws v) ≡ after_keeping (machine (state_with s ws queue calls t)) p) word_is
      (effects_of_change s ws calls t.base t.told t.log p is_place long)

  -- there is room for what is noted
  room_is : length (after_keeping (machine (state_with s ws queue calls t)) p) ≤ length t.log.events
  room_is = evict_room (machine (state_with s ws queue calls t)) (from_invariant _ holds.inv) p

  -- the world that it leaves
  left_is : (now : Words) (after : Traced) → now ≡ words_after_eviction word ws → after.base ≡ t.base → after.told ≡ t.told → after.log ≡ (let l : Trace = record t.log { effects = after_keeping (machine (state_with s ws queue calls t)) p } in l) → after.recovery ≡ t.recovery
      → state_with s now queue calls after ≡ after_evict (state_with s ws queue calls t) word
  left_is now after words base told log recovery =
      ap (λ (m : Words). state_with s m queue calls after) words
      ∙ ap (λ (b : List Value). let w : State = record (state_with s (words_after_eviction word ws) queue calls after) { base = b } in w) base
      ∙ ap (λ o. let w : State = record (state_with s (words_after_eviction word ws) queue calls after) { base = t.base; told = o } in w) told
      ∙ ap (λ (l : Trace). let w : State = record (state_with s (words_after_eviction word ws) queue calls t) { log = l; recovery = after.recovery } in w) log
      ∙ ap (λ (r : Option Recovery). let w : State = record (evict_with (state_with s ws queue calls t) word (Some p)) { recovery = r } in w) recovery
      ∙ ap (evict_with (state_with s ws queue calls t) word) (sym named)

module _ (s : Shape) (ws : Words) (queue : Queue) (calls : List (Option UnderWay)) (t : Traced) (word : ℕ)
    (holds : Holds (state_with s ws queue calls t)) where
  -- a word that there is not
  pub no_word : length ws.cached ≤ word → place_at s word ≡ None
  no_word past = place_none s word (omega (arith, past, holds.safe.words.room))

  pub refused_word : length ws.cached ≤ word → evict_result (state_with s ws queue calls t) word ≡ Err NoWord
  refused_word past =
      ap (evict_result_with (state_with s ws queue calls t) word) (no_word past)
      ∙ rw (le-ltb word (length ws.cached) past) refl

  module _ (within : word < length ws.cached) where
    -- the words stay in range
    pub evicted_fit : WordsFit s (words_after_eviction word ws)
    evicted_fit = go (place_at s word) refl
      where
        go : (o : Option Place) → place_at s word ≡ o → WordsFit s (words_after_eviction word ws)
        go (Some p) e =
            let kept = (IsSafe-evicted s ws calls p (is_place s ws queue calls t word p e holds) holds.safe).words in
            subst (λ v. WordsFit s (words_after_eviction v ws)) (word_is s ws queue calls t word p e holds) kept
        go None e =
            subst (WordsFit s) (sym (rest_words s ws word holds.safe.words (past_none s word e) within)) holds.safe.words

    -- what the code notes of it
    abbrev noted : List Effect
    noted = effects_on_change (machine_of s (words_after_eviction word ws) calls t.base t.told t.log) (change_of ws word)

    none_noted : place_at s word ≡ None → noted ≡ t.log.effects
    none_noted e =
        ap (effects_on_change (machine_of s (words_after_eviction word ws) calls t.base t.told t.log))
        (rest_change s ws word holds.safe.words (past_none s word e) within)

    pub noted_room : length noted ≤ length t.log.events
    noted_room = go (place_at s word) refl
      where
        go : (o : Option Place) → place_at s word ≡ o → length noted ≤ length t.log.events
        go (Some p) e =
            subst (λ (es : List Effect). length es ≤ length t.log.events) (sym (notes s ws queue calls t word p e holds))
            (room_is s ws queue calls t word p e holds)
        go None e = subst (λ (es : List Effect). length es ≤ length t.log.events) (sym (none_noted e)) (room_held holds)

    -- the world that it leaves
    pub evicted_world : (now : Words) (after : Traced) → now ≡ words_after_eviction word ws
        → after.base ≡ t.base → after.told ≡ t.told → after.log ≡ (let l : Trace = record t.log { effects = noted } in l)
        → after.recovery ≡ t.recovery
        → state_with s now queue calls after ≡ after_evict (state_with s ws queue calls t) word
    evicted_world now after words base told log recovery = go (place_at s word) refl
      where
        go : (o : Option Place) → place_at s word ≡ o
            → state_with s now queue calls after ≡ after_evict (state_with s ws queue calls t) word
        go (Some p) e =
            left_is s ws queue calls t word p e holds now after words base told
            (log ∙ ap (λ (es : List Effect). let l : Trace = record t.log { effects = es } in l) (notes s ws queue calls t word p e holds))
            recovery
        go None e =
            let same : now ≡ ws = words ∙ rest_words s ws word holds.safe.words (past_none s word e) within in
            let kept : after.log ≡ t.log = log ∙ ap (λ (es : List Effect). let l : Trace = record t.log { effects = es } in l) (none_noted e) in
            ap (λ (m : Words). state_with s m queue calls after) same
            ∙ ap (λ (b : List Value). let w : State = record (state_with s ws queue calls after) { base = b } in w) base
            ∙ ap (λ o. let w : State = record (state_with s ws queue calls after) { base = t.base; told = o } in w) told
            ∙ ap (λ (l : Trace). let w : State = record (state_with s ws queue calls t) { log = l; recovery = after.recovery } in w) kept
            ∙ ap (λ (r : Option Recovery). let w : State = record (state_with s ws queue calls t) { recovery = r } in w) recovery
            ∙ ap (evict_with (state_with s ws queue calls t) word) (sym e)

    -- and what it answers
    pub evicted_change : evict_result (state_with s ws queue calls t) word ≡ Ok (change_of ws word)
    evicted_change = go (place_at s word) refl
      where
        go : (o : Option Place) → place_at s word ≡ o → evict_result (state_with s ws queue calls t) word ≡ Ok (change_of ws word)
        go (Some p) e = ap (evict_result_with (state_with s ws queue calls t) word) e
        go None e =
            ap (evict_result_with (state_with s ws queue calls t) word) e
            ∙ rw (lt-ltb word (length ws.cached) within) refl
            ∙ ap (λ (o : Option Change). let r : Result (Option Change) Refusal = Ok o in r)
            (sym (rest_change s ws word holds.safe.words (past_none s word e) within))
