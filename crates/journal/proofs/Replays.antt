-- Words after the frames that bytes go on with.
use Rattle.std.proofs.Common.{◌≡◌, ℕ, zero, suc, ◌<◌, ◌≤◌, true, false, List, length, arith, refl, ap, sym, ◌∙◌, inl, inr}
use Rattle.std.proofs.lemmas.Bool.{cond-true, cond-false, cases_Bool}
use Rattle.journal.specs.Reading.{Replay, goes_on, replayed, replay, sum_in, changes_in, values_set, behind}
use Rattle.journal.proofs.Frames.{goes_on_short, behind_shorter}

-- nothing more
abbrev pub rests : List ℕ → List ℕ → Replay
rests words bytes = record { words = words; tail = bytes }

pub stops : (most : ℕ) (key before words bytes : List ℕ) → goes_on key before (length words) bytes ≡ false → replayed most key before words bytes ≡ rests words bytes
unfolding replayed
stops zero key before words bytes not_on = refl
stops (suc most) key before words bytes not_on = cond-false (goes_on key before (length words) bytes) _ _ not_on

pub steps : (most : ℕ) (key before words bytes : List ℕ) → goes_on key before (length words) bytes ≡ true → replayed (suc most) key before words bytes ≡ replayed most key (sum_in bytes) (values_set words (changes_in bytes)) (behind bytes)
unfolding replayed
steps most key before words bytes on = cond-true (goes_on key before (length words) bytes) _ _ on

-- there are no more frames than bytes
enough : (n m : ℕ) (key before words bytes : List ℕ) → length bytes ≤ n → length bytes ≤ m → replayed n key before words bytes ≡ replayed m key before words bytes
enough zero m key before words bytes short long =
    let none : goes_on key before (length words) bytes ≡ false = goes_on_short key before (length words) bytes (omega arith) in
    stops zero key before words bytes none ∙ sym (stops m key before words bytes none)
enough (suc n) zero key before words bytes long short =
    let none : goes_on key before (length words) bytes ≡ false = goes_on_short key before (length words) bytes (omega arith) in
    stops (suc n) key before words bytes none ∙ sym (stops zero key before words bytes none)
enough (suc n) (suc m) key before words bytes left right =
    elim (cases_Bool (goes_on key before (length words) bytes)) [
      | inl on ↦
          let shorter : length (behind bytes) < length bytes = behind_shorter key before (length words) bytes on in
          steps n key before words bytes on
          ∙ enough n m key (sum_in bytes) (values_set words (changes_in bytes)) (behind bytes) (omega arith) (omega arith)
          ∙ sym (steps m key before words bytes on)
      | inr off ↦ stops (suc n) key before words bytes off ∙ sym (stops (suc m) key before words bytes off)
    ]

-- it ends where no frame follows
pub replay_ends : (key before words bytes : List ℕ) → goes_on key before (length words) bytes ≡ false → replay key before words bytes ≡ rests words bytes
replay_ends key before words bytes not_on = stops (length bytes) key before words bytes not_on

-- and goes on behind a frame
pub replay_goes_on : (key before words bytes : List ℕ) → goes_on key before (length words) bytes ≡ true → replay key before words bytes ≡ replay key (sum_in bytes) (values_set words (changes_in bytes)) (behind bytes)
replay_goes_on key before words bytes on =
    let shorter : length (behind bytes) < length bytes = behind_shorter key before (length words) bytes on in
    enough (length bytes) (suc (length bytes)) key before words bytes (omega arith) (omega arith)
    ∙ steps (length bytes) key before words bytes on
    ∙ enough (length bytes) (length (behind bytes)) key (sum_in bytes) (values_set words (changes_in bytes)) (behind bytes) (omega arith) (omega arith)

-- the state behind a frame, as its parts were found
pub replay_stepped : (key before words bytes sum after rest : List ℕ) → goes_on key before (length words) bytes ≡ true → after ≡ values_set words (changes_in bytes) → sum ≡ sum_in bytes → rest ≡ behind bytes → replay key sum after rest ≡ replay key before words bytes
replay_stepped key before words bytes sum after rest on made summed left =
    ap (λ (s : List ℕ). replay key s after rest) summed
    ∙ ap (λ (w : List ℕ). replay key (sum_in bytes) w rest) made
    ∙ ap (λ (b : List ℕ). replay key (sum_in bytes) (values_set words (changes_in bytes)) b) left
    ∙ sym (replay_goes_on key before words bytes on)
