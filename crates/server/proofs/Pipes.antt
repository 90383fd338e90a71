-- A reader and a writer that were served with a journal.
use Rattle.std.proofs.Common.{◌≡◌, ◌∙◌, ◌⊎◌, ◌++◌, ◌∷◌, ap, inl, inr, ℕ, List, [], length, refl, subst, sym, Option, Some, None, Result, Ok, Err, arith}
use Rattle.std.specs.Prelude.{IfSome, IsErrOf, OnErr, OnOk}
use Rattle.chronicle.specs.Chronicled.{Chronicled, entries}
use Rattle.desk.specs.Answering.{IsServedInTurn}
use Rattle.desk.specs.Answering.AreAnsweredInTurn.{nothing}
use Rattle.devices.specs.Devices.{IsFlushed}
use Rattle.devices.specs.declared.device.Reader.{Ghosts as Reader}
use Rattle.devices.specs.declared.device.Writer.{Ghosts as Writer}
use Rattle.engine.specs.declared.failure.Failure.{Failure}
use Rattle.engine.specs.declared.failure.Failure.TheVariants.{NotKept, ReadFailed, WriteFailed}
use Rattle.journal_file.specs.OnDevice.{OnDevice}
use Rattle.named.specs.Brokers.{Brokered}
use Rattle.session.specs.Sessions.{Sessioned}
use Rattle.wire.specs.declared.answer.Answer.{Answer}
use Rattle.wire.specs.declared.request.Request.{Request}
use Rattle.workers.specs.Moments.{GoesOnLater}
use Rattle.workers.specs.Naming.{Rolls}
use Rattle.workers.specs.Opening.{IsNameOf, Unnamed}
use Rattle.workers.proofs.Facts.{later_itself, later_still}
use Rattle.serving.specs.Connections.{IsServedLastingly, TellsAll, TellsBy, TellsRead, TellsSome, TellsSomehow}
use Rattle.serving.specs.Connections.{unserved}
use Rattle.serving.specs.Image.{IsOpenedOver}
use Rattle.serving.specs.Journaled.{IsLeftAfter, IsLeftSince, IsPiped, IsPipedTo}

-- a desk that begins has served nothing
none_kept : {A : Type 0} (settled unsettled : List A) → settled ++ unsettled ≡ []
    → (let c : Chronicled A = record { settled = settled; unsettled = unsettled } in c)
    ≡ record { settled = []; unsettled = [] }
none_kept [] [] none = refl
none_kept [] (x ∷ unsettled) none = absurd (cc none)
none_kept (x ∷ settled) unsettled none = absurd (cc none)

pub none_served : (c : Chronicled (Request × Answer)) → entries c ≡ [] → c ≡ unserved
none_served c none = none_kept c.settled c.unsettled none

-- how a connection was served, by how it ended
pub tells_by : {R W : Type 0} (reader : Reader R) (writer : Writer W) (old new : Chronicled (Request × Answer))
    (ended : Result Unit Failure) (from to : R) (before after : W)
    → OnOk ended (TellsAll reader writer old new from before after)
    → OnOk ended (IsFlushed (writer.written after) (writer.flushed after))
    → (IsErrOf ended ReadFailed → TellsRead reader writer old new from to before after)
    → (IsErrOf ended WriteFailed → TellsSome reader writer old new from before after)
    → (IsErrOf ended NotKept → TellsSome reader writer old new from before after)
    → TellsBy reader writer old new ended from to before after
tells_by reader writer old new (Ok done) from to before after all flushed read write kept = (all, flushed)
tells_by reader writer old new (Err ReadFailed) from to before after all flushed read write kept = read refl
tells_by reader writer old new (Err WriteFailed) from to before after all flushed read write kept = write refl
tells_by reader writer old new (Err NotKept) from to before after all flushed read write kept = kept refl

pub error_so : {P T E : Type 0} (result : Result T E) → P → OnErr result P
error_so (Ok done) is = tt
error_so (Err e) is = is

pub error_weaker : {T E : Type 0} (U P Q : Type 0) (result : Result T E) → (P → Q) → OnErr result (U ⊎ P)
    → OnErr result (U ⊎ Q)
error_weaker U P Q (Ok done) weaker is = tt
error_weaker U P Q (Err e) weaker (inl is) = inl is
error_weaker U P Q (Err e) weaker (inr is) = inr (weaker is)

-- the session that is left goes on from the first one
left_came : (first : Sessioned) (bytes : List ℕ) (j : OnDevice) (left : IsLeftAfter first bytes j)
    → GoesOnLater first left.image.last
left_came first bytes j left =
    let ends = left.moments in
    subst (λ (s : Sessioned). GoesOnLater first s) ends.latest
    (ends.has.moments.each (length ends.has.batches) (omega arith)).goes_on

-- nothing was answered lastingly
none_in_turn : (clients : ℕ) (first : Sessioned) (served : List (Request × Answer)) → served ≡ []
    → IsServedInTurn clients first served first
none_in_turn clients first served none =
    subst (λ (l : List (Request × Answer)). IsServedInTurn clients first l first) (sym none)
    (record { start = first; came = later_itself first; turn = nothing })

-- there are as many clients as the broker has
pub clients_of : {roll : Rolls} {clients : ℕ} {first : Sessioned} (o : Unnamed) → IsNameOf roll clients first o
    → clients ≡ first.broker.counts.clients
clients_of o name = sym name.all ∙ ap (λ (s : Sessioned). s.broker.counts.clients) name.session

module _ (broker : Brokered) (clients : ℕ) (all : clients ≡ broker.counts.clients) (first : Sessioned)
    (IsSo : Chronicled (Request × Answer) → Type 0) (opened : IsOpenedOver broker first) where
  pub piped : (token : Option Sessioned) → IsServedLastingly clients first token IsSo → IsPiped broker IsSo
  piped None by = record {
    first = first;
    opened = opened;
    served = by.served;
    is = by.is;
    sure = first;
    turn =
        subst (λ (n : ℕ). IsServedInTurn n first by.served.settled first) all
        (none_in_turn clients first by.served.settled (by.known refl));
  }
  piped (Some sure) by = record {
    first = first;
    opened = opened;
    served = by.served;
    is = by.is;
    sure = sure;
    turn = subst (λ (n : ℕ). IsServedInTurn n first by.served.settled sure) all by.lasting;
  }

  pub piped_to : (token : Option Sessioned) (last : Sessioned) (bytes : List ℕ) (j : OnDevice)
      → IsServedLastingly clients first token IsSo → IfSome token (λ sure. GoesOnLater sure last)
      → IsLeftSince first last bytes j → IsPipedTo broker bytes j IsSo
  unfolding piped
  piped_to None last bytes j by heard left =
      record { piped = piped None by; left = record { left = left.left; later = left_came first bytes j left.left } }
  piped_to (Some sure) last bytes j by heard left = record {
    piped = piped (Some sure) by;
    left = record { left = left.left; later = later_still sure last left.left.image.last heard left.later };
  }

-- however it ended
pub piped_somehow : {R W : Type 0} (reader : Reader R) (writer : Writer W) (broker : Brokered) (clients : ℕ)
    (all : clients ≡ broker.counts.clients) (first : Sessioned) (token : Option Sessioned) (ended : Result Unit Failure) (from to : R) (before after : W)
    → IsOpenedOver broker first
    → IsServedLastingly clients first token (λ served. TellsBy reader writer unserved served ended from to before after)
    → IsPiped broker (λ served. TellsSomehow reader writer unserved served from to before after)
piped_somehow reader writer broker clients all first token ended from to before after opened by =
    piped broker clients all first (λ served. TellsSomehow reader writer unserved served from to before after) opened token
    (record { served = by.served; is = (ended, by.is); lasting = by.lasting; known = by.known })

-- of the broker that a session is over
pub of_opened : (broker : Brokered) (first : Sessioned) (bytes : List ℕ) (j : OnDevice)
    (IsSo : Chronicled (Request × Answer) → Type 0) → IsOpenedOver broker first → IsPipedTo first.broker bytes j IsSo
    → IsPipedTo broker bytes j IsSo
of_opened broker first bytes j IsSo opened piped = subst (λ (b : Brokered). IsPipedTo b bytes j IsSo) opened.same piped

pub of_opened_unleft : (broker : Brokered) (first : Sessioned) (IsSo : Chronicled (Request × Answer) → Type 0)
    → IsOpenedOver broker first → IsPiped first.broker IsSo → IsPiped broker IsSo
of_opened_unleft broker first IsSo opened piped = subst (λ (b : Brokered). IsPiped b IsSo) opened.same piped
