-- A list that was written to through a slice, and then pushed to where it had room.
use Rattle.std.proofs.Common.{◌≡◌, ℕ, zero, suc, ◌≤◌, List, [], ◌∷◌, ◌++◌, take, drop, length, if◌then◌else◌, Result, Ok, Err, IsOk, is_ok, refl, ap, subst, arith}
use Rattle.std.specs.List.{insert, remove}
use Rattle.std.proofs.Math.Seq.{take-append_seam}

-- what a push leaves that had room
pub pushed : {T E A : Type 0} (r : Result T E) (new a b : A) → IsOk r → new ≡ (if is_ok r then a else b) → new ≡ a
pushed (Ok x) new a b ok e = e
pushed (Err x) new a b ok e = absurd (cc)

-- what a list is after a write through a slice of it whole
pub written : {A : Type 0} (len : ℕ) (new old : List A) → length new ≡ len → take len (new ++ drop (length new) old) ≡ new
written len new old long = subst (λ (n : ℕ). take n (new ++ drop (length new) old) ≡ new) long (take-append_seam new (drop (length new) old))

-- the removal of what was inserted
pub remove-insert : {A : Type 0} (xs : List A) (i : ℕ) (x : A) → i ≤ length xs → remove (insert xs i x) i ≡ xs
remove-insert xs zero x h = refl
remove-insert [] (suc i) x h = absurd (omega arith)
remove-insert (y ∷ xs) (suc i) x h = ap (λ l. y ∷ l) (remove-insert xs i x (omega arith))
