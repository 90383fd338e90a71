-- What ports were asked for, and how a memory and its parts show it.
use Rattle.std.proofs.Common.{◌≡◌, ◌≢◌, ℕ, ◌+◌, ◌-◌, ◌<◌, ◌≤◌, ◌⊎◌, inl, inr, true, false, Option, Some, None, List, suc, length, length-set, replicate, slice_index_or, slice_set, refl, sym, ap, ◌∙◌, subst, arith}
use Rattle.std.proofs.lemmas.Bool.{cases_eq, cases_lt}
use Rattle.std.proofs.lemmas.Bool.Decides.{leb_tells}
use Rattle.std.proofs.lemmas.List.{get_or_past, get_or-replicate, get_or-set_same, get_or-set_other, length-replicate, set-get_or, set-set}
use Rattle.persist.specs.Changes.{AreAskedWithin}
use Rattle.persist.specs.Completed.{completed_words}
use Rattle.persist.specs.Memory.{Lent, MemoryState, Word, Words, after_fence, is_within, lent_whole, seen_in, seen_whole, words_after_access, words_after_eviction, words_in}
use Rattle.persist.proofs.Parts.{part_evicted}

-- a word is in the part, at some distance, or it is not
pub within_tells : (from len w : ℕ) → ((is_within from len w ≡ true) × (from ≤ w) × (w < from + len)) ⊎ (is_within from len w ≡ false)
within_tells from len w =
    elim (leb_tells from w) [
      | inl low ↦ elim (leb_tells (suc w) (from + len)) [
        | inl high ↦ inl (rw (low.0, high.0) refl, low.1, omega (arith, high.1))
        | inr high ↦ inr (rw (low.0, high.0) refl)
      ]
      | inr low ↦ inr (rw (low.0) refl)
    ]

-- a request for a word of the part is shown as one for that word
pub seen_asked : (from len w : ℕ) → w < len → seen_in from len (Some (from + w)) ≡ Word w
seen_asked from len w h =
    elim (within_tells from len (from + w)) [
      | inl t ↦ rw (t.0) (ap Word (omega arith))
      | inr f ↦ absurd (outside f)
    ]
  where
    outside : is_within from len (from + w) ≡ false → ⊥
    outside f = elim (leb_tells from (from + w)) [
      | inl low ↦ elim (leb_tells (suc (from + w)) (from + len)) [
        | inl high ↦ let e : is_within from len (from + w) ≡ true = rw (low.0, high.0) refl in cc
        | inr high ↦ omega (arith, high.1)
      ]
      | inr low ↦ omega (arith, low.1)
    ]

-- what a memory answers where it completes a request for a word of a part, and what it leaves, as the part shows it
pub completed_in : (from len : ℕ) (r : Option ℕ) (ws : Words) → words_in from len (completed_words from len r ws) ≡ after_fence (seen_in from len r) (words_in from len ws)
completed_in from len None ws = refl
completed_in from len (Some w) ws =
    elim (within_tells from len w) [
      | inl t ↦
          let near : w - from < len = omega (arith, t.1, t.2) in
          let far : from + (w - from) ≡ w = omega (arith, t.1) in
          rw (t.0) (ap words_after_access (subst (λ (n : ℕ). words_in from len (words_after_eviction n ws) ≡ words_after_eviction (w - from) (words_in from len ws)) far
          (part_evicted from len (w - from) ws near)))
      | inr f ↦ rw f refl
    ]

-- the requests are as they were where this one is, and the others are
whole_alike : (r q : Option ℕ) → seen_whole r ≡ seen_whole q → r ≡ q
whole_alike None None e = refl
whole_alike None (Some w) e = absurd cc
whole_alike (Some w) None e = absurd cc
whole_alike (Some v) (Some w) e = let same : v ≡ w = cc in ap Some same

pub same_requests : (asked new : List (Option ℕ)) (port : ℕ) → slice_index_or new port None ≡ slice_index_or asked port None
    → slice_set new port None ≡ slice_set asked port None → new ≡ asked
same_requests asked new port this others =
    sym (set-get_or new port None) ∙ ap (slice_set new port) this ∙ sym (set-set new port None (slice_index_or asked port None))
    ∙ ap (λ (l : List (Option ℕ)). slice_set l port (slice_index_or asked port None)) others
    ∙ set-set asked port None (slice_index_or asked port None) ∙ set-get_or asked port None

-- so it is where the memory is lent as it was
pub lent_alike : (name port : ℕ) (m n : MemoryState) → lent_whole name port n ≡ lent_whole name port m → n.asked ≡ m.asked
lent_alike name port m n e =
    same_requests m.asked n.asked port (whole_alike _ _ (ap (λ (l : Lent). l.request) e)) (ap (λ (l : Lent). l.around.others) e)

-- what was asked for through another port
pub asked_elsewhere : (asked new : List (Option ℕ)) (port other : ℕ) → other ≢ port → slice_set new port None ≡ slice_set asked port None
    → slice_index_or new other None ≡ slice_index_or asked other None
asked_elsewhere asked new port other ne e =
    sym (get_or-set_other new port other None None ne) ∙ ap (λ (l : List (Option ℕ)). slice_index_or l other None) e ∙ get_or-set_other asked port other None None ne

-- a request through a port leaves the others
pub others_left : (asked : List (Option ℕ)) (port : ℕ) (r : Option ℕ) → slice_set (slice_set asked port r) port None ≡ slice_set asked port None
others_left asked port r = set-set asked port r None

-- a request for a word of the memory is made
pub asked_within : (size : ℕ) (asked : List (Option ℕ)) (port w : ℕ) → AreAskedWithin size asked → w < size → AreAskedWithin size (slice_set asked port (Some w))
asked_within size asked port w within inside = record { within = λ other v e. here other v e (cases_eq other port) }
  where
    here : (other v : ℕ) → slice_index_or (slice_set asked port (Some w)) other None ≡ Some v → (other ≡ port) ⊎ (other ≡ port → ⊥) → v < size
    here other v e (inr ne) = within.within other v (sym (get_or-set_other asked port other (Some w) None ne) ∙ e)
    here other v e (inl same) = at (cases_lt port (length asked))
      where
        moved : slice_index_or (slice_set asked port (Some w)) port None ≡ Some v
        moved = subst (λ n. slice_index_or (slice_set asked port (Some w)) n None ≡ Some v) same e

        at : (port < length asked) ⊎ (length asked ≤ port) → v < size
        at (inl h) = let is : Some w ≡ Some v = sym (get_or-set_same asked port (Some w) None h) ∙ moved in let eq : w ≡ v = cc in omega (arith, inside, eq)
        at (inr h) = let past : slice_index_or (slice_set asked port (Some w)) port None ≡ None = get_or_past (slice_set asked port (Some w)) port None (omega (arith, h, length-set asked port (Some w))) in
            let no : None ≡ Some v = sym past ∙ moved in absurd cc

-- where nothing is asked for, each request is for a word
pub none_within : (size : ℕ) (asked : List (Option ℕ)) → ((port : ℕ) → slice_index_or asked port None ≡ None) → AreAskedWithin size asked
none_within size asked none = record { within = λ port w e. let no : None ≡ Some w = sym (none port) ∙ e in absurd cc }

pub none_asked : (n port : ℕ) → (let l : List (Option ℕ) = replicate n None in slice_index_or l port None ≡ None)
none_asked n port = at (cases_lt port n)
  where
    at : (port < n) ⊎ (n ≤ port) → (let l : List (Option ℕ) = replicate n None in slice_index_or l port None ≡ None)
    at (inl h) = get_or-replicate n port None None h
    at (inr h) = get_or_past (let l : List (Option ℕ) = replicate n None in l) port None (omega (arith, h, length-replicate n (let o : Option ℕ = None in o)))
