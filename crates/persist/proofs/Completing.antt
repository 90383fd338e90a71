-- What a memory answers and leaves where it completes a request that may be for a word outside a part, as the part
-- shows it.
use Rattle.std.proofs.Common.{◌≡◌, ℕ, ◌+◌, ◌-◌, ◌<◌, ◌≤◌, inl, inr, Bool, true, false, Option, Some, None, Result, Ok, Err, IfOk, IfSome, take, drop, slice_index, slice_set, if◌then◌else◌, ◌==◌, refl, ap, ◌∙◌, subst, arith}
use Rattle.words.specs.declared.refusal.Refusal.{Refusal}
use Rattle.persist.specs.Changes.{change_at, change_from, change_of, fence_result}
use Rattle.persist.specs.Completed.{completed_request, completed_result, completed_words}
use Rattle.persist.specs.Memory.{MemoryState, Words, asked_through, asking, lent_part, request_after_fence, seen_in, words_in}
use Rattle.persist.specs.declared.access.Change.{Change}
use Rattle.persist.proofs.Parts.{change_within, set_after, set_before}
use Rattle.persist.proofs.Requests.{within_tells}

-- the answer, with its word numbered from this one on
abbrev pub answer_from : ℕ → Result (Option Change) Refusal → Result (Option Change) Refusal
answer_from from (Ok change) = Ok (change_from from change)
answer_from from (Err e) = Err e

-- a change of a word at this distance
change_numbered : (from w : ℕ) (ws : Words) → change_from from (change_of ws (from + w)) ≡ change_at w (change_of ws (from + w))
change_numbered from w ws =
    let old = slice_index ws.kept (from + w) in
    let new = slice_index ws.cached (from + w) in
    let made : ℕ → Option Change = λ n. Some (record { word = n; old = old; new = new }) in
    let back : (from + w) - from ≡ w = omega arith in
    let go : (b : Bool) → change_from from (if b then None else made (from + w)) ≡ change_at w (if b then None else made (from + w))
    = elim [ true ↦ refl | false ↦ ap made back ] in
    go (old == new)

module _ (from len : ℕ) where
  -- what is answered
  pub told_in : (r : Option ℕ) (ws : Words) → answer_from from (completed_result from len r ws) ≡ fence_result (seen_in from len r) (words_in from len ws)
  told_in None ws = refl
  told_in (Some w) ws =
      elim (within_tells from len w) [
        | inl t ↦
            let near : w - from < len = omega (arith, t.1, t.2) in
            let far : from + (w - from) ≡ w = omega (arith, t.1) in
            rw (t.0) (ap Ok (subst (λ (n : ℕ). change_from from (change_of ws n) ≡ change_of (words_in from len ws) (w - from)) far
            (change_numbered from (w - from) ws ∙ change_within from len (w - from) ws near)))
        | inr f ↦ rw f refl
      ]

  -- its word is none before the part
  pub told_from : (r : Option ℕ) (ws : Words) → IfOk (completed_result from len r ws) (λ change. IfSome change (λ c. from ≤ c.word))
  told_from None ws = tt
  told_from (Some w) ws =
      elim (within_tells from len w) [
        | inl t ↦
            let old = slice_index ws.kept w in
            let new = slice_index ws.cached w in
            let made : Option Change = Some (record { word = w; old = old; new = new }) in
            let go : (b : Bool) → IfSome (if b then None else made) (λ c. from ≤ c.word)
            = elim [ true ↦ tt | false ↦ t.1 ] in
            rw (t.0) (go (old == new))
        | inr f ↦ rw f tt
      ]

  seen_left : (r : Option ℕ) → seen_in from len (completed_request from len r) ≡ request_after_fence (seen_in from len r)
  seen_left None = refl
  seen_left (Some w) = elim (within_tells from len w) [ inl t ↦ rw (t.0) refl | inr f ↦ rw f (rw f refl) ]

  cached_left : (r : Option ℕ) (ws : Words) → (completed_words from len r ws).cached ≡ ws.cached
  cached_left None ws = refl
  cached_left (Some w) ws = elim (within_tells from len w) [ inl t ↦ rw (t.0) refl | inr f ↦ rw f refl ]

  kept_before : (r : Option ℕ) (ws : Words) → take from (completed_words from len r ws).kept ≡ take from ws.kept
  kept_before None ws = refl
  kept_before (Some w) ws =
      elim (within_tells from len w) [
        | inl t ↦
            let far : from + (w - from) ≡ w = omega (arith, t.1) in
            rw (t.0) (subst (λ (n : ℕ). take from (slice_set ws.kept n (slice_index ws.cached w)) ≡ take from ws.kept) far (set_before ws.kept from (w - from) (slice_index ws.cached w)))
        | inr f ↦ rw f refl
      ]

  kept_after : (r : Option ℕ) (ws : Words) → drop (from + len) (completed_words from len r ws).kept ≡ drop (from + len) ws.kept
  kept_after None ws = refl
  kept_after (Some w) ws =
      elim (within_tells from len w) [
        | inl t ↦
            let near : w - from < len = omega (arith, t.1, t.2) in
            let far : from + (w - from) ≡ w = omega (arith, t.1) in
            rw (t.0) (subst (λ (n : ℕ). drop (from + len) (slice_set ws.kept n (slice_index ws.cached w)) ≡ drop (from + len) ws.kept) far
            (set_after ws.kept from len (w - from) (slice_index ws.cached w) near))
        | inr f ↦ rw f refl
      ]

  -- and how the part is lent then
  pub completed_lent : (name port : ℕ) (m n : MemoryState) → n.words ≡ completed_words from len (asked_through m port) m.words
      → asked_through n port ≡ completed_request from len (asked_through m port) → slice_set n.asked port None ≡ slice_set m.asked port None
      → lent_part name port from len n ≡ asking (request_after_fence (seen_in from len (asked_through m port))) (lent_part name port from len m)
  completed_lent name port m n words asked others =
      let r = asked_through m port in
      rw (words, asked, others, seen_left r, cached_left r m.words, kept_before r m.words, kept_after r m.words) refl
