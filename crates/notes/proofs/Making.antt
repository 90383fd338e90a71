-- Changes of acts, one behind the other, make the words of all of them.
use Rattle.std.proofs.Common.{◌≡◌, ◌<◌, ℕ, List, [], ◌∷◌, ◌++◌, length, Option, Some, None, refl, sym, ap, ◌∙◌, subst, append_assoc, append-nil}
use Rattle.std.specs.List.{All}
use Rattle.std.proofs.lemmas.List.Elements.{All-append, All-cons, All-nil}
use Rattle.std.proofs.lemmas.List.Sums.{fold-append}
use Rattle.persist.specs.declared.access.Change.{Change}
use Rattle.persist.specs.Noted.{IsNoted, applied, change_made, changes_in}
use Rattle.persist.proofs.Facts.{applied_length}
use Rattle.notes.specs.Noting.{HasNoted, IsMadeBy}

abbrev IsWithin : List ℕ → Change → Type 0
IsWithin words change = change.word < length words

pub made_by_none : (words : List ℕ) → IsMadeBy [] words words
made_by_none words = record { words = refl; within = All-nil (IsWithin words) }

pub made_by_more : (first second : List Change) (old now new : List ℕ) → IsMadeBy first old now → IsMadeBy second now new
    → IsMadeBy (first ++ second) old new
made_by_more first second old now new one other =
    let long : length now ≡ length old = ap (λ (ws : List ℕ). length ws) one.words ∙ applied_length old first in
    record {
      words = other.words ∙ (ap (applied second) one.words ∙ sym (fold-append change_made old first second));
      within = All-append (IsWithin old) first second one.within
          (subst (λ (n : ℕ). All (λ (c : Change). c.word < n) second) long other.within);
    }

All-one : (P : Change → Type 0) (x : Change) → P x → All P (x ∷ [])
All-one P x is = All-cons P x [] is (All-nil P)

pub made_by_one : (change : Option Change) (old new : List ℕ) → IsNoted change old new → IsMadeBy (changes_in change) old new
made_by_one None old new noted = record { words = noted.applied; within = All-nil (IsWithin old) }
made_by_one (Some change) old new noted = record {
  words = noted.applied;
  within = All-one (IsWithin old) change noted.real.within;
}

-- so it is behind those that were handed out
pub made_by_notes : (handed old new : List Change) (first was now : List ℕ) → IsMadeBy (handed ++ old) first was
    → HasNoted old new was now → IsMadeBy (handed ++ new) first now
made_by_notes handed old new first was now before noted =
    subst (λ (cs : List Change). IsMadeBy cs first now)
    (append_assoc handed old noted.more ∙ ap (λ (cs : List Change). handed ++ cs) (sym noted.behind))
    (made_by_more (handed ++ old) noted.more first was now before noted.made)

pub noted_one : (change : Option Change) (old new : List Change) (was now : List ℕ) → new ≡ old ++ changes_in change
    → IsNoted change was now → HasNoted old new was now
noted_one change old new was now behind noted = record {
  more = changes_in change;
  behind = behind;
  made = made_by_one change was now noted;
}

pub noted_none : (old : List Change) (was now : List ℕ) → now ≡ was → HasNoted old old was now
noted_none old was now same = record {
  more = [];
  behind = sym (append-nil old);
  made = subst (IsMadeBy [] was) (sym same) (made_by_none was);
}
