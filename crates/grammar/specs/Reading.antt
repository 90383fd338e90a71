-- What reading a text comes to.
use Rattle.std.specs.Prelude.{◌≡◌, ◌≢◌, ℕ, List, [], ◌∷◌, Option, MatchOption, decimal}
use Rattle.words.specs.PlainQueue.{Value}
use Rattle.words.specs.Text.{value_text}

-- a value was read: the words are its spelling, and it is one of those that are wanted; or none was, and the words are
-- the spelling of none that is. So it is of two values, and of three
abbrev pub Reads : {A W : Type 0} → (A → W) → (A → Type 0) → W → Option A → Type 0
Reads {A = A} spelling wanted words result =
    MatchOption result ((a : A) → wanted a → words ≢ spelling a) (λ a. (words ≡ spelling a) × wanted a)

abbrev pub Reads₂ : {A B W : Type 0} → (A → B → W) → (A → Type 0) → (B → Type 0) → W → Option (A × B) → Type 0
Reads₂ {A = A} {B = B} spelling first second words result =
    MatchOption result ((a : A) (b : B) → first a → second b → words ≢ spelling a b)
    (λ r. (words ≡ spelling r.0 r.1) × first r.0 × second r.1)

abbrev pub Reads₃ : {A B C W : Type 0} → (A → B → C → W) → (A → Type 0) → (B → Type 0) → (C → Type 0) → W
    → Option (A × B × C) → Type 0
Reads₃ {A = A} {B = B} {C = C} spelling first second third words result =
    MatchOption result ((a : A) (b : B) (c : C) → first a → second b → third c → words ≢ spelling a b c)
    (λ r. (words ≡ spelling r.0 r.1 r.2) × first r.0 × second r.1 × third r.2)

-- how a number and a value are spelled, and two numbers and a value
abbrev pub number_and_value_words : ℕ → Value → List (List ℕ)
number_and_value_words n value = decimal n ∷ value_text value ∷ []

abbrev pub numbers_and_value_words : ℕ → ℕ → Value → List (List ℕ)
numbers_and_value_words m n value = decimal m ∷ number_and_value_words n value

-- nothing of this form is said, whatever stands in its one place, or in its two or three
abbrev pub SaysNone : {A S : Type 0} → (S → Type 0) → (A → S) → Type 0
SaysNone {A = A} says form = (a : A) → says (form a) → ⊥

abbrev pub SaysNone₂ : {A B S : Type 0} → (S → Type 0) → (A → B → S) → Type 0
SaysNone₂ {A = A} {B = B} says form = (a : A) (b : B) → says (form a b) → ⊥

abbrev pub SaysNone₃ : {A B C S : Type 0} → (S → Type 0) → (A → B → C → S) → Type 0
SaysNone₃ {A = A} {B = B} {C = C} says form = (a : A) (b : B) (c : C) → says (form a b c) → ⊥
