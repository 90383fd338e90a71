-- Texts put one after another, with commas between them.
use Rattle.std.proofs.Common.{◌≡◌, ◌∙◌, ℕ, ◌+◌, ◌<◌, Bool, true, false, ◌==◌, List, [], ◌∷◌, ◌++◌, length, take, get_or, Option, Some, None, refl, ap, sym, arith, append_assoc, append-nil, length-append}
use Rattle.std.specs.List.{filter_map, cons_option, join_with_byte}
use Rattle.std.proofs.lemmas.List.{take_more}
use Rattle.std.proofs.lemmas.List.Elements.{filter_map-append}
use Rattle.replies.specs.declared.pieces.TheConstants.{COMMA}

-- a text more, behind a comma
join-one_more : (c : ℕ) (texts : List (List ℕ)) (text : List ℕ) → 0 < length texts → join_with_byte c (texts ++ text ∷ []) ≡ join_with_byte c texts ++ c ∷ text
join-one_more c [] text h = absurd (omega (arith, h))
join-one_more c (one ∷ []) text h = refl
join-one_more c (one ∷ two ∷ texts) text h =
    let more : join_with_byte c ((two ∷ texts) ++ text ∷ []) ≡ join_with_byte c (two ∷ texts) ++ c ∷ text = join-one_more c (two ∷ texts) text (omega arith) in
    ap (λ rest. one ++ c ∷ rest) more ∙ sym (append_assoc one (c ∷ join_with_byte c (two ∷ texts)) (c ∷ text))

-- behind a front these texts were put, if any
pub record HasPut (front : List ℕ) (texts : List (List ℕ)) (is_first : Bool) (out : List ℕ) : Type 0 where
  pub text : out ≡ front ++ join_with_byte COMMA texts
  pub first : is_first ≡ (length texts == 0)

-- the first text, and a further one
first_here : (front : List ℕ) (texts : List (List ℕ)) (out text : List ℕ) → HasPut front texts true out → HasPut front (texts ++ text ∷ []) false (out ++ text)
first_here front [] out text h = record {
  text = ap (λ xs. xs ++ text) (h.text ∙ append-nil front);
  first = refl;
}
first_here front (one ∷ texts) out text h = absurd (grind (arith, h.first))

next_here : (front : List ℕ) (texts : List (List ℕ)) (out text : List ℕ) → HasPut front texts false out → HasPut front (texts ++ text ∷ []) false ((out ++ COMMA ∷ []) ++ text)
next_here front [] out text h = absurd (grind (arith, h.first))
next_here front (one ∷ texts) out text h = record {
  text = rw (join-one_more COMMA (one ∷ texts) text (omega arith), append_assoc out (COMMA ∷ []) text, h.text) (append_assoc front (join_with_byte COMMA (one ∷ texts)) (COMMA ∷ text));
  first = grind (arith, length-append);
}

module _ {X : Type 0} (f : X → Option (List ℕ)) (front : List ℕ) (xs : List X) (i : ℕ) (x : X) (first : Bool) (out : List ℕ) (within : i < length xs) (item : x ≡ get_or xs i x) where
  -- one place more
  texts_more : filter_map f (take (i + 1) xs) ≡ filter_map f (take i xs) ++ cons_option (f x) []
  texts_more =
      ap (filter_map f) (take_more xs i x within) ∙ filter_map-append f (take i xs) (get_or xs i x ∷ [])
      ∙ ap (λ y. filter_map f (take i xs) ++ cons_option (f y) []) (sym item)

  pub put_none : HasPut front (filter_map f (take i xs)) first out → f x ≡ None → HasPut front (filter_map f (take (i + 1) xs)) first out
  put_none h none = rw (texts_more, none, append-nil) h

  pub put_first : HasPut front (filter_map f (take i xs)) first out → first ≡ true → (text : List ℕ) → f x ≡ Some text → HasPut front (filter_map f (take (i + 1) xs)) false (out ++ text)
  put_first h is text some = rw (texts_more, some) (first_here front (filter_map f (take i xs)) out text (rw is at h))

  pub put_next : HasPut front (filter_map f (take i xs)) first out → first ≡ false → (text : List ℕ) → f x ≡ Some text → HasPut front (filter_map f (take (i + 1) xs)) false ((out ++ COMMA ∷ []) ++ text)
  put_next h is text some = rw (texts_more, some) (next_here front (filter_map f (take i xs)) out text (rw is at h))
