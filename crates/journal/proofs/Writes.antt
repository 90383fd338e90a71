-- What a written batch is.
use Rattle.std.proofs.Common.{◌≡◌, ℕ, ◌^◌, ◌<◌, ◌≤◌, ◌+◌, ◌++◌, List, [], length, take, Result, Ok, Err, is_ok, if◌then◌else◌, get_or, arith, refl, sym, ap, ◌∙◌}
use Rattle.std.specs.Prelude.{All, OnOk}
use Rattle.std.specs.List.{flat_map}
use Rattle.std.proofs.lemmas.List.{append_assoc, flat_map_more, length-take, take_all, take_at, take_more, take-take}
use Rattle.std.proofs.lemmas.List.Elements.{All-from_get_or, All-get_or}
use Rattle.persist.specs.declared.access.Change.{Change}
use Rattle.journal.specs.Frame.{IsChangeIn}

-- no change at all
abbrev pub no_change : Change
no_change = record { word = 0; old = 0; new = 0 }

pub batch_within : (size : ℕ) (changes : List Change) → All (λ change. change.word < size) changes → All (λ change. change.new < 2 ^ 64) changes → All (IsChangeIn size) changes
batch_within size changes words values =
    All-from_get_or (IsChangeIn size) changes no_change
    (λ i inside. record {
      word = All-get_or (λ change. change.word < size) changes i no_change inside words;
      value = All-get_or (λ change. change.new < 2 ^ 64) changes i no_change inside values;
    })

-- one more text behind those so far
pub appended_more : {X : Type 0} (f : X → List ℕ) (start : List ℕ) (xs : List X) (i : ℕ) (none : X)
    (out after : List ℕ) → i < length xs → out ≡ start ++ flat_map f (take i xs) → after ≡ out ++ f (get_or xs i none)
    → after ≡ start ++ flat_map f (take (i + 1) xs)
appended_more f start xs i none out after inside so_far appended =
    let more : flat_map f (take (i + 1) xs) ≡ flat_map f (take i xs) ++ f (get_or xs i none) =
    ap (flat_map f) (take_more xs i none inside) ∙ sym (flat_map_more f [] (take i xs) (get_or xs i none)) in
    appended
    ∙ ap (λ (bytes : List ℕ). bytes ++ f (get_or xs i none)) so_far
    ∙ append_assoc start (flat_map f (take i xs)) (f (get_or xs i none))
    ∙ ap (λ (bytes : List ℕ). start ++ bytes) (sym more)

-- what stands in front of what stands in front
pub begins_on : (start out after : List ℕ) → take (length start) out ≡ start → take (length out) after ≡ out
    → take (length start) after ≡ start
begins_on start out after begins still =
    let within : length start ≤ length out =
    omega (arith, sym (length-take (length start) out) ∙ ap (λ (xs : List ℕ). length xs) begins) in
    sym (take-take (length start) (length out) after within) ∙ ap (take (length start)) still ∙ begins

pub begins_more : (out more after : List ℕ) → after ≡ out ++ more → take (length out) after ≡ out
begins_more out more after grown = rw grown (take_at out more (length out) refl)

pub begins_same : (out after : List ℕ) → after ≡ out → take (length out) after ≡ out
begins_same out after same = rw same (take_all (length out) out (omega arith))

-- more is appended, or nothing is
module _ {E : Type 0} (out after more : List ℕ) where
  pub appended_if : (done : Result (Unit {0}) E) → after ≡ (if is_ok done then out ++ more else out)
      → OnOk done (after ≡ out ++ more)
  appended_if (Ok _) e = e
  appended_if (Err _) e = tt

  pub begins_if : (done : Result (Unit {0}) E) → after ≡ (if is_ok done then out ++ more else out)
      → take (length out) after ≡ out
  begins_if (Ok _) e = begins_more out more after e
  begins_if (Err _) e = begins_same out after e

-- three parts, one behind the other
pub appended_thrice : (start a b c first second third : List ℕ) → first ≡ start ++ a → second ≡ first ++ b
    → third ≡ second ++ c → third ≡ start ++ (a ++ b ++ c)
appended_thrice start a b c first second third e f g = rw (g, f, e) (simp append_assoc)

-- a whole whose last part is appended behind the first
pub appended_behind : {E : Type 0} (done : Result (Unit {0}) E) (start part more whole out after : List ℕ)
    → part ++ more ≡ whole → out ≡ start ++ part → OnOk done (after ≡ out ++ more) → OnOk done (after ≡ start ++ whole)
appended_behind (Ok _) start part more whole out after parts first last =
    last ∙ ap (λ (bytes : List ℕ). bytes ++ more) first ∙ append_assoc start part more
    ∙ ap (λ (bytes : List ℕ). start ++ bytes) parts
appended_behind (Err _) start part more whole out after parts first last = tt
