-- Each step's access is at a place of the layout, what it writes fits there, and what it leads to is in range.
use Rattle.words.specs.declared.call.Reply.{Reply}
use Rattle.std.proofs.Common.{◌≡◌, ℕ, zero, suc, ◌+◌, List, [], ◌∷◌, Option, Some, None, slice_get, arith, refl, subst}
use Rattle.std.proofs.lemmas.Bool.Decides.{nat_tests}
use Rattle.words.specs.declared.call.Kind.{Kind}
use Rattle.words.specs.declared.call.Kind.TheVariants.{Durable, Log}
use Rattle.words.specs.PlainQueue.{Value}
use Rattle.words.specs.declared.call.NodeId.{NodeId}
use Rattle.words.specs.declared.call.Token.{Token}
use Rattle.words.specs.declared.call.Call.{Call}
use Rattle.words.specs.declared.call.Call.TheVariants.{Enq, Deq}
use Rattle.persist.specs.Memory.{Access, Load, Store, Cas, Flush, Fence}
use Rattle.stepper.specs.Loading.{loaded_with}
use Rattle.stepper.specs.declared.loading.Loading.{Loading}
use Rattle.stepper.specs.declared.loading.Loading.TheVariants.{Length as at_length, First as at_first}
use Rattle.stepper.specs.declared.loading.Loading.TheVariants.{Second as at_second, Third as at_third}
use Rattle.arena.specs.Shape.{Shape}
use Rattle.arena.specs.Place.{IsPlace}
use Rattle.arena.specs.Ranges.{Fits, IsReadByCalls}
use Rattle.arena.specs.declared.place.Place.{Place}
use Rattle.arena.specs.declared.place.Place.TheVariants.{Insert}
use Rattle.arena.specs.declared.place.Write.{Write}
use Rattle.recover.specs.Table.{access_of as recovery_access, kept_place as recovery_kept_place}
use Rattle.recover.specs.Table.{IsKeeping as IsRecoveryKeeping, IsPoint as IsRecoveryPoint}
use Rattle.recover.specs.declared.point.RecoveryPoint.{RecoveryPoint}
use Rattle.recover.specs.declared.point.RecoveryPoint.TheVariants.{RecoveryLoadHead, RecoveryLoadNext}
use Rattle.recover.specs.declared.point.RecoveryPoint.TheVariants.{RecoveryLoadInsert, RecoveryStoreStatus}
use Rattle.recover.specs.declared.point.RecoveryPoint.TheVariants.{RecoveryLoadMark, RecoveryStoreResult}
use Rattle.recover.specs.declared.point.RecoveryPoint.TheVariants.{RecoveryStoreHead, RecoveryStoreTail}
use Rattle.recover.specs.declared.point.RecoveryPoint.TheVariants.{RecoveryLoadAnnouncement, RecoveryLoadCell}
use Rattle.recover.specs.declared.point.RecoveryPoint.TheVariants.{RecoveryLoadGot, RecoveryLoadNumber}
use Rattle.recover.specs.declared.point.RecoveryPoint.TheVariants.{RecoveryLoadKind, RecoveryLoadStatus}
use Rattle.recover.specs.declared.point.RecoveryPoint.TheVariants.{RecoveryLoadRemove, RecoveryLoadEntryNode}
use Rattle.recover.specs.declared.point.RecoveryPoint.TheVariants.{RecoveryLoadRemovedItem, Flush as RecoveryFlush}
use Rattle.recover.specs.declared.point.RecoveryPoint.TheVariants.{Fence as RecoveryFence}
use Rattle.recover.specs.declared.keeping.RecoveryKeeping.{RecoveryKeeping}
use Rattle.recover.specs.declared.keeping.RecoveryKeeping.TheVariants.{Status as RecoveryKeepStatus}
use Rattle.recover.specs.declared.keeping.RecoveryKeeping.TheVariants.{Result as RecoveryKeepResult}
use Rattle.recover.specs.declared.keeping.RecoveryKeeping.TheVariants.{Head as RecoveryKeepHead}
use Rattle.recover.specs.declared.keeping.RecoveryKeeping.TheVariants.{Tail as RecoveryKeepTail}
use Rattle.stepper.specs.Step.{place_of, IsReadInRange}
use Rattle.stepper.specs.Preparation.{announcement, item_writes, preparation_from, preparation_of, prepared_with, write}
use Rattle.stepper.specs.Preparation.{IsBegun, IsPreparing}
use Rattle.stepper.specs.declared.resume.After.{After}
use Rattle.stepper.specs.declared.resume.After.TheVariants.{More, Done}
use Rattle.stepper.specs.declared.prepare.Begun.{Begun}
use Rattle.helping.specs.declared.dequeue.Claim.{Claim}
use Rattle.helping.specs.declared.dequeue.Claim.TheVariants.{Won, LostTo}
use Rattle.helping.specs.Table.{access_of, after_keeping, kept_place, successor, first_from, prepared_op, begun_at}
use Rattle.helping.specs.Table.{answer_or_again, with_loaded, IsClaiming, IsKeeping, IsPoint}
use Rattle.helping.specs.declared.op.Op.{Op}
use Rattle.helping.specs.declared.op.Op.TheVariants.{PrepareStore, PrepareFlush, PrepareFence, EnqueueLoadTail}
use Rattle.helping.specs.declared.op.Op.TheVariants.{EnqueueLoadNext, EnqueueCheckTail, EnqueueLink, EnqueueMoveTail}
use Rattle.helping.specs.declared.op.Op.TheVariants.{EnqueueHelpTail, DequeueLoadHead, DequeueLoadTail, DequeueLoadNext}
use Rattle.helping.specs.declared.op.Op.TheVariants.{DequeueCheckHead, DequeueStoreEmpty, DequeueHelpTail}
use Rattle.helping.specs.declared.op.Op.TheVariants.{DequeueLoadItem, DequeueClaim, DequeueStoreResult, DequeueMoveHead}
use Rattle.helping.specs.declared.op.Op.TheVariants.{Flush as FlushPoint, Fence as FencePoint}
use Rattle.helping.specs.declared.keeping.Keeping.{Keeping}
use Rattle.helping.specs.declared.keeping.Keeping.TheVariants.{Link as KeepLink, PassedLink as KeepPassedLink}
use Rattle.helping.specs.declared.keeping.Keeping.TheVariants.{Empty as KeepEmpty}
use Rattle.helping.specs.declared.keeping.Keeping.TheVariants.{DequeuePassedLink as KeepDequeuePassedLink}
use Rattle.helping.specs.declared.keeping.Keeping.TheVariants.{Claim as KeepClaim, Result as KeepResult}

-- the access is at a place, and what it may write fits there
abbrev pub AccessFits : Shape → Access Place → Type 0
AccessFits s (Load p) = IsPlace s p
AccessFits s (Store p v) = IsPlace s p × Fits s p v
AccessFits s (Cas p old new) = IsPlace s p × Fits s p new
AccessFits s (Flush p) = IsPlace s p
AccessFits s (Fence p) = IsPlace s p

abbrev pub AfterFits : Shape → After Op Reply → Type 0
AfterFits s (More op) = IsPoint s op
AfterFits s (Done reply) = Unit {0}

pub at_place : (s : Shape) (access : Access Place) → AccessFits s access → IsPlace s (place_of access)
at_place s (Load p) h = h
at_place s (Store p v) h = h.0
at_place s (Cas p old new) h = h.0
at_place s (Flush p) h = h
at_place s (Fence p) h = h

record WriteFits (s : Shape) (w : Write) : Type 0 where
  is_place : IsPlace s w.place
  fits : Fits s w.place w.value

abbrev AllWritesFit : Shape → List Write → Type 0
AllWritesFit s [] = Unit {0}
AllWritesFit s (w ∷ ws) = WriteFits s w × AllWritesFit s ws

one_of : (s : Shape) (ws : List Write) (i : ℕ) (w : Write) → AllWritesFit s ws → slice_get ws i ≡ Some w → WriteFits s w
one_of s [] i w all e = cc
one_of s (v ∷ ws) zero w all e = let same : v ≡ w = cc in subst (WriteFits s) same all.0
one_of s (v ∷ ws) (suc i) w all e = one_of s ws i w all.1 e

-- the parts of a message fit
parts_fit : (s : Shape) (b : Begun) (value : Value) → IsBegun s b → (rest : List Write) → AllWritesFit s rest → AllWritesFit s (item_writes b value rest)
parts_fit s b value h rest all =
    (record { is_place = grind (arith, h.is_record); fits = tt }, (record { is_place = grind (arith, h.is_record); fits = tt }, (record { is_place = grind (arith, h.is_record); fits = tt }, (record { is_place = grind (arith, h.is_record); fits = tt }, all))))

-- what a call prepares fits
preparation_fits : (s : Shape) (kind : Kind) (call : Call) (b : Begun) → s.kind ≡ kind → b.call ≡ call → IsBegun s b → AllWritesFit s (preparation_from kind call b)
preparation_fits s Durable (Enq value) b k c h = (record { is_place = h.client; fits = grind (arith, h.unused) }, parts_fit s b value h [] tt)
preparation_fits s Durable Deq b k c h = (record { is_place = h.client; fits = grind (arith, h.unused) }, (record { is_place = h.client; fits = grind (arith, h.is_record) }, tt))
preparation_fits s Log (Enq value) b k c h = (
  record { is_place = h.client; fits = grind (arith, h.unused) },
  (
    record { is_place = (k, h.is_record); fits = h.number },
    (
      record { is_place = (k, h.is_record); fits = grind arith },
      (
        record { is_place = (k, h.is_record); fits = grind (arith, h.is_record) },
        parts_fit s b value h (write (Insert (record { 0 = b.token.0 })) b.token.0 ∷ announcement b ∷ [])
            (record { is_place = (k, grind (arith, h.is_record)); fits = grind (arith, h.is_record) }, (record { is_place = h.client; fits = grind (arith, h.is_record) }, tt)),
      ),
    ),
  ),
)
preparation_fits s Log Deq b k c h = (record { is_place = h.client; fits = grind (arith, h.unused) }, (record { is_place = (k, h.is_record); fits = h.number }, (record { is_place = (k, h.is_record); fits = grind arith }, (record { is_place = h.client; fits = grind (arith, h.is_record) }, tt))))

in_hand_fits : (s : Shape) (b : Begun) (i : ℕ) (w : Write) → IsPreparing s b i w → WriteFits s w
in_hand_fits s b i w h = one_of s (preparation_of s.kind b) i w (preparation_fits s s.kind b.call b refl refl h.begun) h.in_hand

first_fits : (s : Shape) (b : Begun) (call : Call) → IsBegun s b → IsPoint s (first_from call b)
first_fits s b (Enq value) h = h.is_record
first_fits s b Deq h = h.is_record

prepared_fits : (s : Shape) (b : Begun) (i : ℕ) (w : Option Write) → slice_get (preparation_of s.kind b) i ≡ w → IsBegun s b → IsPoint s (prepared_op (prepared_with b i w))
prepared_fits s b i None e h = first_fits s b b.call h
prepared_fits s b i (Some w) e h = record { begun = h; in_hand = e }

pub begun_fits : (s : Shape) (b : Begun) → IsBegun s b → IsPoint s (begun_at s.kind b)
begun_fits s b h = prepared_fits s b 0 (slice_get (preparation_of s.kind b) 0) refl h

again_fits : (s : Shape) (claim : Claim) (p : Token) (v : Value) → IsPoint s (DequeueLoadHead (record { token = p })) → AfterFits s (answer_or_again claim p v)
again_fits s Won p v h = tt
again_fits s (LostTo other) p v h = h

-- what calls read are words that calls read
abbrev pub ReadsByCalls : Access Place → Type 0
ReadsByCalls (Load p) = IsReadByCalls p
ReadsByCalls (Store p v) = Unit {0}
ReadsByCalls (Cas p old new) = IsReadByCalls p
ReadsByCalls (Flush p) = Unit {0}
ReadsByCalls (Fence p) = Unit {0}

pub reads_by_calls : (kind : Kind) (op : Op) → ReadsByCalls (access_of kind op)
reads_by_calls kind (PrepareStore p) = tt
reads_by_calls kind (PrepareFlush p) = tt
reads_by_calls kind (PrepareFence p) = tt
reads_by_calls kind (EnqueueLoadTail p) = tt
reads_by_calls kind (EnqueueLoadNext p) = tt
reads_by_calls kind (EnqueueCheckTail p) = tt
reads_by_calls kind (EnqueueLink p) = tt
reads_by_calls kind (FlushPoint k) = tt
reads_by_calls kind (FencePoint k) = tt
reads_by_calls kind (EnqueueMoveTail p) = tt
reads_by_calls kind (EnqueueHelpTail p) = tt
reads_by_calls kind (DequeueLoadHead p) = tt
reads_by_calls kind (DequeueLoadTail p) = tt
reads_by_calls kind (DequeueLoadNext p) = tt
reads_by_calls kind (DequeueCheckHead p) = tt
reads_by_calls kind (DequeueStoreEmpty p) = tt
reads_by_calls kind (DequeueHelpTail p) = tt
reads_by_calls kind (DequeueLoadItem p) = tt
reads_by_calls kind (DequeueClaim p) = tt
reads_by_calls kind (DequeueStoreResult p) = tt
reads_by_calls kind (DequeueMoveHead p) = tt

pub in_range : (s : Shape) (access : Access Place) (v : ℕ) → Fits s (place_of access) v → IsReadInRange s access v
in_range s (Load p) v fits = fits
in_range s (Store p w) v fits = tt
in_range s (Cas p old new) v fits = fits
in_range s (Flush p) v fits = tt
in_range s (Fence p) v fits = tt

pub read_in_range : (s : Shape) (access : Access Place) (v : ℕ) → ReadsByCalls access → (IsReadByCalls (place_of access) → Fits s (place_of access) v) → IsReadInRange s access v
read_in_range s (Load p) v read fits = fits read
read_in_range s (Store p w) v read fits = tt
read_in_range s (Cas p old new) v read fits = fits read
read_in_range s (Flush p) v read fits = tt
read_in_range s (Fence p) v read fits = tt

kept_fits : (s : Shape) (kind : Kind) (q : Keeping) → s.kind ≡ kind → IsKeeping s q → IsPlace s (kept_place kind q)
kept_fits s kind (KeepLink p) k h = grind arith
kept_fits s kind (KeepPassedLink p) k h = grind arith
kept_fits s Durable (KeepEmpty p) k h = grind arith
kept_fits s Log (KeepEmpty p) k h = grind arith
kept_fits s kind (KeepDequeuePassedLink p) k h = grind arith
kept_fits s kind (KeepClaim p) k h = grind arith
kept_fits s Durable (KeepResult p) k h = grind arith
kept_fits s Log (KeepResult p) k h = grind arith

pub access_fits : (s : Shape) (kind : Kind) (op : Op) → s.kind ≡ kind → IsPoint s op → AccessFits s (access_of kind op)
access_fits s kind (PrepareStore p) k h = let w = in_hand_fits s p.begun p.index p.write h in (w.is_place, w.fits)
access_fits s kind (PrepareFlush p) k h = (in_hand_fits s p.begun p.index p.write h).is_place
access_fits s kind (PrepareFence p) k h = (in_hand_fits s p.begun p.index p.write h).is_place
access_fits s kind (EnqueueLoadTail p) k h = tt
access_fits s kind (EnqueueLoadNext p) k h = grind arith
access_fits s kind (EnqueueCheckTail p) k h = tt
access_fits s kind (EnqueueLink p) k h = grind arith
access_fits s kind (FlushPoint q) k h = kept_fits s kind q k h
access_fits s kind (FencePoint q) k h = kept_fits s kind q k h
access_fits s kind (EnqueueMoveTail p) k h = grind arith
access_fits s kind (EnqueueHelpTail p) k h = grind arith
access_fits s kind (DequeueLoadHead p) k h = tt
access_fits s kind (DequeueLoadTail p) k h = tt
access_fits s kind (DequeueLoadNext p) k h = grind arith
access_fits s kind (DequeueCheckHead p) k h = tt
access_fits s Durable (DequeueStoreEmpty p) k h = grind arith
access_fits s Log (DequeueStoreEmpty p) k h = grind arith
access_fits s kind (DequeueHelpTail p) k h = grind arith
access_fits s kind (DequeueLoadItem p) k h = h.2
access_fits s kind (DequeueClaim p) k h = grind arith
access_fits s Durable (DequeueStoreResult p) k h = grind arith
access_fits s Log (DequeueStoreResult p) k h = grind arith
access_fits s kind (DequeueMoveHead p) k h = grind arith

recovery_kept_fits : (s : Shape) (kind : Kind) (q : RecoveryKeeping) → s.kind ≡ kind → IsRecoveryKeeping s q → IsPlace s (recovery_kept_place kind q)
recovery_kept_fits s kind (RecoveryKeepStatus p) k h = (h.0, h.3)
recovery_kept_fits s Durable (RecoveryKeepResult p) k h = grind arith
recovery_kept_fits s Log (RecoveryKeepResult p) k h = grind arith
recovery_kept_fits s kind (RecoveryKeepHead p) k h = tt
recovery_kept_fits s kind (RecoveryKeepTail p) k h = tt

-- the same of recovery
pub recovery_access_fits : (s : Shape) (kind : Kind) (at : RecoveryPoint) → s.kind ≡ kind → IsRecoveryPoint s at → AccessFits s (recovery_access kind at)
recovery_access_fits s kind (RecoveryLoadHead p) k h = tt
recovery_access_fits s kind (RecoveryLoadNext p) k h = grind arith
recovery_access_fits s kind (RecoveryLoadInsert p) k h = grind arith
recovery_access_fits s kind (RecoveryStoreStatus p) k h = ((h.0, h.3), omega arith)
recovery_access_fits s kind (RecoveryLoadMark p) k h = grind arith
recovery_access_fits s Durable (RecoveryStoreResult p) k h = grind arith
recovery_access_fits s Log (RecoveryStoreResult p) k h = grind arith
recovery_access_fits s kind (RecoveryStoreHead p) k h = grind arith
recovery_access_fits s kind (RecoveryStoreTail p) k h = grind arith
recovery_access_fits s kind (RecoveryFlush q) k h = recovery_kept_fits s kind q k h
recovery_access_fits s kind (RecoveryFence q) k h = recovery_kept_fits s kind q k h
recovery_access_fits s kind (RecoveryLoadAnnouncement p) k h = h
recovery_access_fits s kind (RecoveryLoadCell p) k h = grind arith
recovery_access_fits s kind (RecoveryLoadGot p) k h = h.1
recovery_access_fits s kind (RecoveryLoadNumber p) k h = grind arith
recovery_access_fits s kind (RecoveryLoadKind p) k h = grind arith
recovery_access_fits s kind (RecoveryLoadStatus p) k h = grind arith
recovery_access_fits s kind (RecoveryLoadRemove p) k h = grind arith
recovery_access_fits s kind (RecoveryLoadEntryNode p) k h = grind arith
recovery_access_fits s kind (RecoveryLoadRemovedItem p) k h = h.1

after_keeping_fits : (s : Shape) (q : Keeping) → IsKeeping s q → AfterFits s (after_keeping q)
after_keeping_fits s (KeepLink p) h = grind (arith, nat_tests)
after_keeping_fits s (KeepPassedLink p) h = grind (arith, nat_tests)
after_keeping_fits s (KeepEmpty p) h = tt
after_keeping_fits s (KeepDequeuePassedLink p) h = grind (arith, nat_tests)
after_keeping_fits s (KeepClaim p) h = grind (arith, nat_tests)
after_keeping_fits s (KeepResult p) h = grind (arith, nat_tests)

loaded_fits : (s : Shape) (token : Token) (first next : NodeId) (loading : Loading) (v : ℕ) → IsClaiming s token.0 first.0 next.0 → AfterFits s (More (with_loaded (record { token = token; first = first; next = next; loading = loading }) (loaded_with loading v)))
loaded_fits s token first next at_length v h = h
loaded_fits s token first next (at_first len) v h = h
loaded_fits s token first next (at_second len one) v h = h
loaded_fits s token first next (at_third len one two) v h = h

pub successor_fits : (s : Shape) (op : Op) (v : ℕ) → IsPoint s op → IsReadInRange s (access_of s.kind op) v → AfterFits s (successor s.kind op v)
successor_fits s (PrepareStore p) v h f = h
successor_fits s (PrepareFlush p) v h f = h
successor_fits s (FlushPoint q) v h f = h
successor_fits s (FencePoint q) v h f = after_keeping_fits s q h
successor_fits s (PrepareFence p) v h f = prepared_fits s p.begun (p.index + 1) (slice_get (preparation_of s.kind p.begun) (p.index + 1)) refl h.begun
successor_fits s (EnqueueLoadTail p) v h f = grind (arith, nat_tests)
successor_fits s (EnqueueLoadNext p) v h f = grind (arith, nat_tests)
successor_fits s (EnqueueCheckTail p) v h f = grind (arith, nat_tests)
successor_fits s (EnqueueLink p) v h f = grind (arith, nat_tests)
successor_fits s (EnqueueMoveTail p) v h f = tt
successor_fits s (EnqueueHelpTail p) v h f = grind (arith, nat_tests)
successor_fits s (DequeueLoadHead p) v h f = grind (arith, nat_tests)
successor_fits s (DequeueLoadTail p) v h f = grind (arith, nat_tests)
successor_fits s (DequeueLoadNext p) v h f = grind (arith, nat_tests)
successor_fits s (DequeueCheckHead p) v h f = grind (arith, nat_tests)
successor_fits s (DequeueStoreEmpty p) v h f = grind (arith, nat_tests)
successor_fits s (DequeueHelpTail p) v h f = grind (arith, nat_tests)
successor_fits s (DequeueLoadItem p) v h f = loaded_fits s p.token p.first p.next p.loading v h
successor_fits s (DequeueClaim p) v h f = grind (arith, nat_tests)
successor_fits s (DequeueStoreResult p) v h f = grind (arith, nat_tests)
successor_fits s (DequeueMoveHead p) v h f = again_fits s p.claimed.claim p.claimed.token p.claimed.value h.0.0
