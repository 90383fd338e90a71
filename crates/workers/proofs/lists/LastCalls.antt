-- What stands in a list whose last call is open, and in one whose last call has ended.
use Rattle.std.proofs.Common.{◌≡◌, ◌⊎◌, ℕ, zero, suc, ◌<◌, true, false, List, [], ◌∷◌, ◌++◌, length, set, get_or, Some}
use Rattle.std.proofs.Common.{slice_get, refl, sym, ap, ◌∙◌, inl, inr, ⊎_elim, arith, true≢false}
use Rattle.std.proofs.lemmas.Option.{same_Some}
use Rattle.workers.specs.Lists.{OnlyLastIsOpen, ends_open, is_open, with_end}
use Rattle.workers.specs.declared.entry.End.{End}
use Rattle.workers.specs.declared.entry.End.TheVariants.{Answered, Interrupted, Open}
use Rattle.workers.specs.declared.entry.Entry.{Entry}

-- the list's last call, which is open
pub record IsLastOpen (list : List Entry) : Type 0 where
  pub before : ℕ
  pub entry : Entry
  pub length_is : length list ≡ suc before
  pub at : slice_get list before ≡ Some entry
  pub is_open : entry.end ≡ Open

-- the entry is the last one, as it stands after its end
pub record IsEndedLast (end : End) (list : List Entry) (k : ℕ) (e : Entry) : Type 0 where
  pub last : suc k ≡ length list
  pub was : Entry
  pub at : slice_get list k ≡ Some was
  pub is : e ≡ record was { end = end }

-- a test that is true says that the end is open
pub open_from_test : (end : End) → is_open end ≡ true → end ≡ Open
open_from_test Open is = refl
open_from_test Interrupted is = absurd (true≢false (sym is))
open_from_test (Answered reply) is = absurd (true≢false (sym is))

pub length_with_end : (end : End) (list : List Entry) → length (with_end end list) ≡ length list
length_with_end end [] = refl
length_with_end end (x ∷ []) = refl
length_with_end end (x ∷ y ∷ more) = ap suc (length_with_end end (y ∷ more))

pub last_is_open : (list : List Entry) → ends_open list ≡ true → IsLastOpen list
last_is_open [] opens = absurd (true≢false (sym opens))
last_is_open (x ∷ []) opens = record {
  before = 0;
  entry = x;
  length_is = refl;
  at = refl;
  is_open = open_from_test x.end opens;
}
last_is_open (x ∷ y ∷ more) opens =
    let later = last_is_open (y ∷ more) opens in
    record {
      before = suc later.before;
      entry = later.entry;
      length_is = ap suc later.length_is;
      at = later.at;
      is_open = later.is_open;
    }

-- the last call is open exactly as the list says
pub ends_as_last : (list : List Entry) (k : ℕ) (e : Entry) → slice_get list k ≡ Some e → suc k ≡ length list
    → ends_open list ≡ is_open e.end
ends_as_last [] k e at last = absurd (omega arith)
ends_as_last (x ∷ []) zero e at last = ap (λ (z : Entry). is_open z.end) (same_Some x e at)
ends_as_last (x ∷ []) (suc k) e at last = absurd (omega arith)
ends_as_last (x ∷ y ∷ more) zero e at last = absurd (omega arith)
ends_as_last (x ∷ y ∷ more) (suc k) e at last = ends_as_last (y ∷ more) k e at (omega arith)

-- a place is the last one, or lies before it
pub last_or_before : (list : List Entry) (k : ℕ) (e : Entry) → slice_get list k ≡ Some e
    → (suc k < length list) ⊎ (suc k ≡ length list)
last_or_before [] k e at = absurd cc
last_or_before (x ∷ []) zero e at = inr refl
last_or_before (x ∷ []) (suc k) e at = absurd cc
last_or_before (x ∷ y ∷ more) zero e at = inl (omega arith)
last_or_before (x ∷ y ∷ more) (suc k) e at =
    ⊎_elim (λ less. inl (omega (arith, less))) (λ last. inr (ap suc last)) (last_or_before (y ∷ more) k e at)

pub all_ended : (list : List Entry) → OnlyLastIsOpen list → ends_open list ≡ false → (k : ℕ) (e : Entry)
    → slice_get list k ≡ Some e → is_open e.end ≡ false
all_ended list only_last ended k e at =
    ⊎_elim
    (λ less. only_last k e at less)
    (λ last. sym (ends_as_last list k e at last) ∙ ended)
    (last_or_before list k e at)

pub with_end_before : (end : End) (list : List Entry) (k : ℕ) (e : Entry) → slice_get list k ≡ Some e
    → suc k < length list → slice_get (with_end end list) k ≡ Some e
with_end_before end [] k e at less = absurd (omega arith)
with_end_before end (x ∷ []) k e at less = absurd (omega arith)
with_end_before end (x ∷ y ∷ more) zero e at less = at
with_end_before end (x ∷ y ∷ more) (suc k) e at less = with_end_before end (y ∷ more) k e at (omega arith)

pub with_end_last : (end : End) (list : List Entry) (k : ℕ) (e : Entry) → slice_get list k ≡ Some e
    → suc k ≡ length list → slice_get (with_end end list) k ≡ Some (record e { end = end })
with_end_last end [] k e at last = absurd (omega arith)
with_end_last end (x ∷ []) zero e at last =
    ap (λ (z : Entry). let now : Entry = record z { end = end } in Some now) (same_Some x e at)
with_end_last end (x ∷ []) (suc k) e at last = absurd (omega arith)
with_end_last end (x ∷ y ∷ more) zero e at last = absurd (omega arith)
with_end_last end (x ∷ y ∷ more) (suc k) e at last = with_end_last end (y ∷ more) k e at (omega arith)

pub with_end_at : (end : End) (list : List Entry) (k : ℕ) (e : Entry) → slice_get (with_end end list) k ≡ Some e
    → (slice_get list k ≡ Some e × suc k < length list) ⊎ IsEndedLast end list k e
with_end_at end [] k e at = absurd cc
with_end_at end (x ∷ []) zero e at = inr (record { last = refl; was = x; at = refl; is = sym (same_Some _ e at) })
with_end_at end (x ∷ []) (suc k) e at = absurd cc
with_end_at end (x ∷ y ∷ more) zero e at = inl (at, omega arith)
with_end_at end (x ∷ y ∷ more) (suc k) e at =
    ⊎_elim
    (λ old. inl (old.0, omega (arith, old.1)))
    (λ new. inr (record { last = ap suc new.last; was = new.was; at = new.at; is = new.is }))
    (with_end_at end (y ∷ more) k e at)

-- what is written in the last place
pub with_end_written : (end : End) (list : List Entry) (k : ℕ) (e : Entry) → suc k ≡ length list
    → get_or list k e ≡ e → set list k (record e { end = end }) ≡ with_end end list
with_end_written end [] k e last is = absurd (omega arith)
with_end_written end (x ∷ []) zero e last is =
    ap (λ (z : Entry). let now : Entry = record z { end = end } in now ∷ []) (sym is)
with_end_written end (x ∷ []) (suc k) e last is = absurd (omega arith)
with_end_written end (x ∷ y ∷ more) zero e last is = absurd (omega arith)
with_end_written end (x ∷ y ∷ more) (suc k) e last is =
    ap (λ es. x ∷ es) (with_end_written end (y ∷ more) k e (omega arith) is)

-- the call that is pushed is the last one
pub ends_open_push : (list : List Entry) (e : Entry) → ends_open (list ++ e ∷ []) ≡ is_open e.end
ends_open_push [] e = refl
ends_open_push (x ∷ []) e = refl
ends_open_push (x ∷ y ∷ more) e = ends_open_push (y ∷ more) e

pub with_end_push : (end : End) (list : List Entry) (e : Entry)
    → with_end end (list ++ e ∷ []) ≡ list ++ record e { end = end } ∷ []
with_end_push end [] e = refl
with_end_push end (x ∷ []) e = refl
with_end_push end (x ∷ y ∷ more) e = ap (λ es. x ∷ es) (with_end_push end (y ∷ more) e)
