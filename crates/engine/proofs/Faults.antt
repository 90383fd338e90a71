-- A failure is told exactly where it was.
use Rattle.std.proofs.Common.{◌≡◌, ℕ, ◌+◌, ◌<◌, Result, Ok, Err, arith, ap, sym, subst}
use Rattle.std.proofs.lemmas.Bool.{false≢true}
use Rattle.std.specs.Prelude.{IsErr, IsErrAnd, IsErrOf, OnOk}
use Rattle.engine.specs.Failing.{failure_of}
use Rattle.engine.specs.Output.{settle_failures_of, write_failures_of}
use Rattle.engine.specs.declared.output.Unsent.{Unsent}
use Rattle.engine.specs.declared.output.Unsent.TheVariants as unsent
use Rattle.engine.specs.declared.failure.Failure.{Failure}
use Rattle.engine.specs.declared.failure.Failure.TheVariants.{ReadFailed, WriteFailed, NotKept}

-- this is told, and only where one failed more often
abbrev pub Tells : Type 0 → ℕ → ℕ → Type 0
Tells Told old new = (Told → old < new) × (old < new → Told)

pub none_failed : {Told : Type 0} (old mid new : ℕ) → mid ≡ old → new ≡ mid + 0 → (Told → ⊥) → Tells Told old new
none_failed old mid new so_far same never = (λ told. absurd (never told), λ more. absurd (omega arith))

pub one_failed : {Told : Type 0} (old mid new : ℕ) → mid ≡ old → new ≡ mid + 1 → Told → Tells Told old new
one_failed old mid new so_far grown told = (λ _. omega arith, λ _. told)

-- a result is no other
pub no_failure : (failure : Failure) → ◌≡◌ {A = Result (Unit {0}) Failure} (Ok tt) (Err failure) → ⊥
no_failure failure e = cc

pub read_no_write : ◌≡◌ {A = Result (Unit {0}) Failure} (Err ReadFailed) (Err WriteFailed) → ⊥
read_no_write e = cc

pub read_no_settle : ◌≡◌ {A = Result (Unit {0}) Failure} (Err ReadFailed) (Err NotKept) → ⊥
read_no_settle e = cc

-- a reply was not sent, for this reason, and that is what the input's failure says
module _ (result : Result (Unit {0}) Failure) (why : Unsent)
    (given : IsErr result × IsErrAnd result (λ failure. failure ≡ failure_of why)) where
  told : result ≡ Err (failure_of why)
  told = go result given.0 given.1
    where
      go : (r : Result (Unit {0}) Failure) → IsErr r → IsErrAnd r (λ failure. failure ≡ failure_of why)
          → r ≡ Err (failure_of why)
      go (Err failure) is gives = ap (λ (f : Failure). Err f) gives
      go (Ok _) is gives = absurd (false≢true is)

  pub not_ok : (P : Type 0) → OnOk result P
  not_ok P = subst (λ (r : Result (Unit {0}) Failure). OnOk r P) (sym told) tt

  pub not_read : IsErrOf result ReadFailed → ⊥
  not_read = other why told
    where
      other : (w : Unsent) → result ≡ Err (failure_of w) → result ≡ Err ReadFailed → ⊥
      other unsent.NotKept is read = cc
      other unsent.WriteFailed is read = cc

  pub read_tells : (old mid new : ℕ) → mid ≡ old → new ≡ mid + 0 → Tells (IsErrOf result ReadFailed) old new
  read_tells old mid new so_far same = none_failed old mid new so_far same not_read

  pub write_tells : (A : Type 0) (old mid new : ℕ) → mid ≡ old → new ≡ mid + write_failures_of {A = A} (Err why)
      → Tells (IsErrOf result WriteFailed) old new
  write_tells A old mid new so_far grown = go why told grown
    where
      go : (w : Unsent) → result ≡ Err (failure_of w) → new ≡ mid + write_failures_of {A = Unit {0}} (Err w)
          → Tells (IsErrOf result WriteFailed) old new
      go unsent.NotKept is e = none_failed old mid new so_far e (λ other. cc)
      go unsent.WriteFailed is e = one_failed old mid new so_far e is

  pub settle_tells : (A : Type 0) (old mid new : ℕ) → mid ≡ old → new ≡ mid + settle_failures_of {A = A} (Err why)
      → Tells (IsErrOf result NotKept) old new
  settle_tells A old mid new so_far grown = go why told grown
    where
      go : (w : Unsent) → result ≡ Err (failure_of w) → new ≡ mid + settle_failures_of {A = Unit {0}} (Err w)
          → Tells (IsErrOf result NotKept) old new
      go unsent.NotKept is e = one_failed old mid new so_far e is
      go unsent.WriteFailed is e = none_failed old mid new so_far e (λ other. cc)
