-- Words that others are partly written over, and what is noted of that.
use Rattle.std.proofs.Common.{◌≡◌, ◌<◌, ℕ, zero, suc, ◌+◌, List, [], ◌∷◌, ◌++◌, length, set, get_or, take, drop, refl, sym, ap, ◌∙◌, subst, arith, append_assoc, append-nil}
use Rattle.std.proofs.lemmas.List.Elements.{All-append, All-cons, All-nil}
use Rattle.std.proofs.lemmas.List.Sums.{fold-append}
use Rattle.std.proofs.lemmas.List.{set-get_or, take_at}
use Rattle.persist.specs.Memory.{overwritten}
use Rattle.persist.specs.declared.access.Change.{Change}
use Rattle.persist.specs.Noted.{change_made}
use Rattle.persist.proofs.Facts.{partly, partly_all, partly_more, partly_none}
use Rattle.notes.specs.Noting.{HasNoted}

front_get : (n : ℕ) (words old : List ℕ) → n < length words → n < length old
    → get_or (take n words ++ drop n old) n 0 ≡ get_or old n 0
front_get n [] old h lt = absurd (omega (arith, h))
front_get n (w ∷ ws) [] h lt = absurd (omega (arith, lt))
front_get zero (w ∷ ws) (x ∷ xs) h lt = refl
front_get (suc n) (w ∷ ws) (x ∷ xs) h lt = front_get n ws xs (omega (arith, h)) (omega (arith, lt))

-- the word behind those that are written is as it was
partly_get : (from n : ℕ) (words old : List ℕ) → n < length words → from + n < length old
    → get_or (partly from n words old) (from + n) 0 ≡ get_or old (from + n) 0
partly_get zero n words old h lt =
    let e : 0 + n ≡ n = omega arith in
    ap (λ (k : ℕ). get_or (take n words ++ drop k old) k 0) e
    ∙ front_get n words old h (omega (arith, lt))
    ∙ ap (λ (k : ℕ). get_or old k 0) (sym e)
partly_get (suc f) n words [] h lt = absurd (omega (arith, lt))
partly_get (suc f) n words (x ∷ xs) h lt =
    let e : suc f + n ≡ suc (f + n) = omega arith in
    ap (λ (k : ℕ). get_or (take (suc f) (x ∷ xs) ++ (take n words ++ drop k (x ∷ xs))) k 0) e
    ∙ partly_get f n words xs h (omega (arith, lt))
    ∙ ap (λ (k : ℕ). get_or (x ∷ xs) k 0) (sym e)

partly_same : (from n : ℕ) (words old : List ℕ) → n < length words → from + n < length old
    → get_or old (from + n) 0 ≡ get_or words n 0 → partly from (n + 1) words old ≡ partly from n words old
partly_same from n words old h lt same =
    sym (partly_more from n words old h lt)
    ∙ (ap (set (partly from n words old) (from + n)) (sym same ∙ sym (partly_get from n words old h lt))
    ∙ set-get_or (partly from n words old) (from + n) 0)

-- notes of the words so far: none at first, all in the end
pub noted_first : (changes : List Change) (from : ℕ) (words old : List ℕ)
    → HasNoted changes changes old (partly from 0 words old)
noted_first changes from words old = record {
  more = [];
  behind = sym (append-nil changes);
  made = record { words = partly_none from words old; within = All-nil (λ (c : Change). c.word < length old) };
}

pub noted_last : (changes now : List Change) (from n : ℕ) (words old : List ℕ) → n ≡ length words
    → HasNoted changes now old (partly from n words old) → HasNoted changes now old (overwritten from words old)
noted_last changes now from n words old all noted =
    subst (HasNoted changes now old) (partly_all from n words old all) noted

-- a word that is the same
pub noted_same : (changes now : List Change) (from n : ℕ) (words old : List ℕ) → n < length words → from + n < length old
    → get_or old (from + n) 0 ≡ get_or words n 0 → HasNoted changes now old (partly from n words old)
    → HasNoted changes now old (partly from (n + 1) words old)
noted_same changes now from n words old h lt same noted =
    subst (HasNoted changes now old) (sym (partly_same from n words old h lt same)) noted

-- one that is not, and whose change is noted
pub noted_next : (changes now : List Change) (was from n : ℕ) (words old : List ℕ) (after : List Change)
    → n < length words → from + n < length old
    → after ≡ now ++ record { word = from + n; old = was; new = get_or words n 0 } ∷ []
    → HasNoted changes now old (partly from n words old) → HasNoted changes after old (partly from (n + 1) words old)
noted_next changes now was from n words old after h lt pushed noted =
    let change : Change = record { word = from + n; old = was; new = get_or words n 0 } in
    let P : Change → Type 0 = λ c. c.word < length old in
    record {
      more = noted.more ++ change ∷ [];
      behind = pushed ∙ (ap (λ (cs : List Change). cs ++ change ∷ []) noted.behind
          ∙ append_assoc changes noted.more (change ∷ []));
      made = record {
        words = sym (partly_more from n words old h lt)
            ∙ (ap (λ (ws : List ℕ). change_made ws change) noted.made.words
            ∙ sym (fold-append change_made old noted.more (change ∷ [])));
        within = All-append P noted.more (change ∷ []) noted.made.within (All-cons P change [] lt (All-nil P));
      };
    }

-- what was there before stands at the front
pub noted_front : (changes now : List Change) (n : ℕ) (old new : List ℕ) → n ≡ length changes
    → HasNoted changes now old new → take n now ≡ changes
noted_front changes now n old new long noted =
    ap (λ (l : List Change). take n l) noted.behind ∙ take_at changes noted.more n (sym long)
