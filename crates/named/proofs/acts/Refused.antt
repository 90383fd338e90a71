-- What a call says that passes on why another was refused.
use Rattle.std.proofs.Common.{◌≡◌, ℕ, List, true, is_some, Option, Some, None, Result, Ok, Err, IfSome, if◌then◌else◌, refl, ap, sym, subst}
use Rattle.std.specs.Prelude.{IfErr, IfOk, IsErr, IsErrAnd, OnErr, OnOk}
use Rattle.words.specs.declared.refusal.Refusal.{Refusal}
use Rattle.words.specs.declared.refusal.Refusal.TheVariants.{NotReady}
use Rattle.persist.specs.Noted.{IsNoted, answer_in, change_in}
use Rattle.persist.specs.declared.access.Noted.{Noted}
use Rattle.named.specs.declared.recovery.BrokerRecovery.{BrokerRecovery}

module _ {T : Type 0} where
  -- for this reason
  pub passed_on : (r : Result T Refusal) (e : Refusal) → IsErr r × IsErrAnd r (λ y. y ≡ e) → r ≡ Err e
  passed_on (Ok x) e is = absurd (cc (is.0))
  passed_on (Err y) e is = ap Err is.1

  pub why : (Q : Refusal → Type 0) (r : Result T Refusal) (e : Refusal) → IsErr r × IsErrAnd r (λ y. y ≡ e) → Q e → IfErr r Q
  why Q (Ok x) e is reason = tt
  why Q (Err y) e is reason = subst Q (sym is.1) reason

  -- it made nothing, and did nothing
  pub nothing : (Q : T → Type 0) (r : Result T Refusal) (e : Refusal) → IsErr r × IsErrAnd r (λ y. y ≡ e) → IfOk r Q
  nothing Q (Ok x) e is = absurd (cc (is.0))
  nothing Q (Err y) e is = tt

  pub not_done : (P : Type 0) (r : Result T Refusal) (e : Refusal) → IsErr r × IsErrAnd r (λ y. y ≡ e) → OnOk r P
  not_done P (Ok x) e is = absurd (cc (is.0))
  not_done P (Err y) e is = tt

  pub not_ok : (r : Result T Refusal) (e : Refusal) (x : T) → r ≡ Err e → r ≡ Ok x → ⊥
  not_ok (Ok y) e x is ok = cc (is)
  not_ok (Err y) e x is ok = cc (ok)

  pub same_ok : (x y : T) → (let r : Result T Refusal = Ok x in r) ≡ Ok y → x ≡ y
  same_ok x y is = cc (is)

  -- where it was done this holds, and where it was refused
  pub done : (P : Type 0) (r : Result T Refusal) → P → OnOk r P
  done P (Ok x) holds = holds
  done P (Err y) holds = tt

  pub left : (P : Type 0) (r : Result T Refusal) → P → OnErr r P
  left P (Ok x) holds = tt
  left P (Err y) holds = holds

module _ {T : Type 0} (r : Result (Noted T) Refusal) (e : Refusal) (is : IsErr r × IsErrAnd r (λ y. y ≡ e)) where
  -- for this reason, and no word changed
  pub answered_so : answer_in r ≡ Err e
  answered_so = go r is
    where
      go : (r : Result (Noted T) Refusal) → IsErr r × IsErrAnd r (λ y. y ≡ e) → answer_in r ≡ Err e
      go (Ok x) is = absurd (cc (is.0))
      go (Err y) is = ap Err is.1

  pub noted_as : (old new : List ℕ) → IsNoted None old new → IsNoted (change_in r) old new
  noted_as old new noted = go r is
    where
      go : (r : Result (Noted T) Refusal) → IsErr r × IsErrAnd r (λ y. y ≡ e) → IsNoted (change_in r) old new
      go (Ok x) is = absurd (cc (is.0))
      go (Err y) is = noted

  pub unnoted : (kept : List ℕ) → IsNoted (change_in r) kept kept
  unnoted kept = noted_as kept kept (record { real = tt; applied = refl })

-- who is not ready recovers
pub down_there : (o : Option BrokerRecovery) (e : Refusal) → (let x : Result Unit Refusal = Err e in x) ≡ (if is_some o then Err NotReady else Ok tt)
    → (e ≡ NotReady) × (is_some o ≡ true)
down_there (Some r) e is = (cc (is), refl)
down_there None e is = absurd (cc (is))

pub not_down : (o : Option BrokerRecovery) → o ≡ None → is_some o ≡ true → ⊥
not_down None up down = cc (down)
not_down (Some r) up down = cc (up)

-- what is asked of what is there
pub if_none : {A : Type 0} (Q : A → Type 0) (o : Option A) → o ≡ None → IfSome o Q
if_none Q None is = tt
if_none Q (Some x) is = absurd (cc (is))

pub if_some : {A : Type 0} (Q : A → Type 0) (o : Option A) (x : A) → o ≡ Some x → Q x → IfSome o Q
if_some Q None x is holds = tt
if_some Q (Some y) x is holds = let same : y ≡ x = cc (is) in subst Q (sym same) holds

pub not_both : {A : Type 0} (o : Option A) (x : A) → o ≡ Some x → o ≡ None → ⊥
not_both None x is none = cc (is)
not_both (Some y) x is none = cc (none)
