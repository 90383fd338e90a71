-- What an access and an eviction leave is what their changes make of the kept words, in a part of a memory too.
use Rattle.std.proofs.Common.{◌≡◌, ℕ, ◌+◌, ◌<◌, ◌≤◌, List, [], ◌∷◌, ◌++◌, length, Option, Some, None, Bool, true, false, if◌then◌else◌, ◌==◌, slice_index, slice_set, take, drop, refl, sym, ap, ◌∙◌, arith}
use Rattle.std.proofs.lemmas.Bool.{eqb-true}
use Rattle.std.proofs.lemmas.List.Sums.{fold-append}
use Rattle.std.proofs.lemmas.Bool.Decides.{nat_tests}
use Rattle.std.proofs.lemmas.List.{set-get_or, take-append-drop, drop-drop, get_or_past, length-set, length-take}
use Rattle.persist.specs.Changes.{change_of}
use Rattle.persist.specs.Memory.{Access, Words, Load, Store, Cas, Flush, Fence, IsSameOutside, after, words_after_eviction, words_after_store, words_in}
use Rattle.persist.specs.Noted.{IsNoted, applied, change_behind, change_made, change_made_by, changes_in}
use Rattle.persist.specs.declared.access.Change.{Change}
use Rattle.persist.proofs.Parts.{index_within, set_within, set_before, set_after}

-- where nothing changes there is no change
pub nothing_noted : (kept : List ℕ) → IsNoted None kept kept
nothing_noted kept = record { real = tt; applied = refl }

-- a word that has its cached value kept
set_noted : (kept cached : List ℕ) (word : ℕ) → length kept ≡ length cached → (same : Bool) → (slice_index kept word == slice_index cached word) ≡ same
    → IsNoted (if same then None else Some (record { word = word; old = slice_index kept word; new = slice_index cached word })) kept (slice_set kept word (slice_index cached word))
set_noted kept cached word long true e = record { real = tt; applied = ap (slice_set kept word) (sym (eqb-true _ _ e)) ∙ set-get_or kept word 0 }
set_noted kept cached word long false e = record {
  real = record {
    within = grind (arith, nat_tests, get_or_past kept word 0, get_or_past cached word 0, e, long);
    was = refl;
    other = grind (arith, nat_tests, e);
  };
  applied = refl;
}

pub evicted_noted : (word : ℕ) (ws : Words) → length ws.kept ≡ length ws.cached → IsNoted (change_of ws word) ws.kept (words_after_eviction word ws).kept
evicted_noted word ws long = set_noted ws.kept ws.cached word long _ refl

pub accessed_noted : (access : Access ℕ) (ws : Words) → length ws.kept ≡ length ws.cached → IsNoted (change_made_by access ws) ws.kept (after access ws).kept
accessed_noted (Load word) ws long = nothing_noted ws.kept
accessed_noted (Store word value) ws long = nothing_noted ws.kept
accessed_noted (Flush word) ws long = nothing_noted ws.kept
accessed_noted (Fence word) ws long = evicted_noted word ws long
accessed_noted (Cas word old new) ws long =
    let go : (b : Bool) → IsNoted None ws.kept (if b then words_after_store word new ws else ws).kept
    = elim [ true ↦ nothing_noted ws.kept | false ↦ nothing_noted ws.kept ] in
    go (slice_index ws.cached word == old)

-- lists are the same that are so before a part, within it and behind it
same_parts : (from len : ℕ) (x y : List ℕ) → take from x ≡ take from y → take len (drop from x) ≡ take len (drop from y) → drop (from + len) x ≡ drop (from + len) y → x ≡ y
same_parts from len x y before within behind =
    let past : (z : List ℕ) → drop len (drop from z) ≡ drop (from + len) z = λ z. drop-drop len from z ∙ ap (λ n. drop n z) (omega arith) in
    let rest : (z : List ℕ) → take len (drop from z) ++ drop (from + len) z ≡ drop from z =
    λ z. ap (λ (t : List ℕ). take len (drop from z) ++ t) (sym (past z)) ∙ take-append-drop len (drop from z) in
    let whole : (z : List ℕ) → take from z ++ (take len (drop from z) ++ drop (from + len) z) ≡ z =
    λ z. ap (λ (t : List ℕ). take from z ++ t) (rest z) ∙ take-append-drop from z in
    sym (whole x) ∙ rw (before, within, behind) (whole y)

pub part_noted : (from len : ℕ) (change : Option Change) (old new : Words) → IsSameOutside from len old new → from + len ≤ length old.kept
    → IsNoted change (words_in from len old).kept (words_in from len new).kept → IsNoted (change_behind from change) old.kept new.kept
part_noted from len None old new outside room noted = record {
  real = tt;
  applied = same_parts from len new.kept old.kept outside.kept_before noted.applied outside.kept_after;
}
part_noted from len (Some c) old new outside room noted =
    let within : c.word < len = omega (arith, noted.real.within, length-take len (drop from old.kept)) in
    record {
      real = record {
        within = omega (arith, within, room);
        was = noted.real.was ∙ index_within old.kept from len c.word within;
        other = noted.real.other;
      };
      applied = same_parts from len new.kept (slice_set old.kept (from + c.word) c.new)
          (outside.kept_before ∙ sym (set_before old.kept from c.word c.new))
          (noted.applied ∙ sym (set_within old.kept from len c.word c.new within))
          (outside.kept_after ∙ sym (set_after old.kept from len c.word c.new within));
    }

-- a change behind others
pub more_noted : (first old new : List ℕ) (changes : List Change) (change : Option Change) → old ≡ applied changes first → IsNoted change old new
    → new ≡ applied (changes ++ changes_in change) first
more_noted first old new changes change was noted =
    noted.applied ∙ ap (applied (changes_in change)) was ∙ sym (fold-append change_made first changes (changes_in change))

-- and there are as many words as before
pub applied_length : (first : List ℕ) (changes : List Change) → length (applied changes first) ≡ length first
applied_length first [] = refl
applied_length first (change ∷ changes) = applied_length (change_made first change) changes ∙ length-set first change.word change.new
