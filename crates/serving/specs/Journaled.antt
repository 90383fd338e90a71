-- What is left of a broker that was served with a journal.
use Rattle.std.specs.Prelude.{◌≡◌, ℕ, List}
use Rattle.chronicle.specs.Chronicled.{Chronicled}
use Rattle.desk.specs.Answering.{IsServedInTurn}
use Rattle.words.specs.declared.refusal.Refusal.TheVariants.{ReadFailed, WriteFailed}
use Rattle.engine.specs.declared.failure.Failure.{Failure}
use Rattle.engine.specs.declared.failure.Failure.TheVariants as failure
use Rattle.journal_file.specs.OnDevice.{OnDevice}
use Rattle.lasting.specs.Lasting.{EndsAtMomentOf}
use Rattle.named.specs.Brokers.{Brokered}
use Rattle.session.specs.Sessions.{Sessioned}
use Rattle.wire.specs.declared.answer.Answer.{Answer}
use Rattle.wire.specs.declared.request.Request.{Request}
use Rattle.workers.specs.Moments.{GoesOnLater}
use Rattle.serving.specs.declared.journals.Unserved.{Unserved}
use Rattle.serving.specs.declared.journals.Unserved.TheVariants.{Refused, NotKept}
use Rattle.serving.specs.Image.{IsImageAfter, IsOpenedOver}

-- The bytes are the image of what the session came to. The journal has the same words, and is kept whole. Each
-- beginning of its batches ends at a moment of the session, the last one at what it came to, and each goes on from
-- those before.
pub record IsLeftAfter (first : Sessioned) (bytes : List ℕ) (j : OnDevice) : Type 0 where
  pub image : IsImageAfter first bytes
  pub words : j.words ≡ image.last.broker.words.kept
  pub kept : j.kept ≡ j.size
  pub moments : EndsAtMomentOf first image.last j

-- and the session goes on from this one
pub record IsLeftSince (first since : Sessioned) (bytes : List ℕ) (j : OnDevice) : Type 0 where
  pub left : IsLeftAfter first bytes j
  pub later : GoesOnLater since left.image.last

-- A session over the broker answered requests in turn, of which this is so; what is settled of them, up to this session.
pub record IsPiped (broker : Brokered) (IsSo : Chronicled (Request × Answer) → Type 0) : Type 0 where
  pub first : Sessioned
  pub opened : IsOpenedOver broker first
  pub served : Chronicled (Request × Answer)
  pub is : IsSo served
  pub sure : Sessioned
  pub turn : IsServedInTurn broker.counts.clients first served.settled sure

-- and it came to what the image and the journal have
pub record IsPipedTo (broker : Brokered) (bytes : List ℕ) (j : OnDevice) (IsSo : Chronicled (Request × Answer) → Type 0)
    : Type 0 where
  pub piped : IsPiped broker IsSo
  pub left : IsLeftSince piped.first piped.sure bytes j

-- why a broker is not served with a journal to the end of its input
abbrev pub unserved_by : Failure → Unserved
unserved_by failure.ReadFailed = Refused ReadFailed
unserved_by failure.WriteFailed = Refused WriteFailed
unserved_by failure.NotKept = NotKept
