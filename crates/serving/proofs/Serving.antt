-- What was served with a desk that has its session for itself.
use Rattle.std.proofs.Common.{◌≡◌, ℕ, Bool, List, [], ◌++◌, Option, true, false, Result, Ok, Err, IfOk, Vec, Global, subst}
use Rattle.std.specs.Io.KnownBytes.{Appends}
use Rattle.devices.specs.Devices.{AppendsBeginning}
use Rattle.words.specs.declared.refusal.Refusal.{Refusal}
use Rattle.engine.specs.Lines.{lines_of}
use Rattle.engine.specs.declared.reply.Reply.{Reply}
use Rattle.engine.specs.Replies.{Served, output_of, made_of}
use Rattle.engine.specs.Settled.{AreTold, SomeAreTold}
use Rattle.engine.proofs.Facts.{some_written}
use Rattle.engine.specs.Serving.{HasInput, Serves, ServesWhatWasRead}
use Rattle.requests.specs.Line.{meaning}
use Rattle.named.specs.Brokers.{Brokered}
use Rattle.session.specs.Sessions.{Sessioned}
use Rattle.desk.specs.Serving.{AreAnswered}
use Rattle.owning.specs.Serving.{GoesOnRight, Leads}
use Rattle.persist.specs.Image.{image_of, reading}
use Rattle.named.specs.Booting.{AreBootWords}
use Rattle.serving.specs.Image.{IsImageOf, IsOpenedOver}
use Rattle.serving.specs.Piping.{IsServed, LeavesImage, ServesInput, ServesInputRead}

-- nothing had been served before, and what is known of the replies tells how their text was written
module _ (input : Option (List ℕ)) (A : List Reply → Type 0) (W : List ℕ → Type 0)
    (text_of : (replies : List Reply) → A replies → W (output_of replies)) (old made : Served) (none : old ≡ []) where
  are_made : (whole : Bool) → HasInput input (λ text. Serves meaning whole (lines_of text) old made A)
      → ServesInput whole input W made
  are_made whole h = record {
    input = h.input;
    its = h.its;
    so = record {
      replies = h.so.replies;
      answers = h.so.answers;
      written = text_of h.so.replies h.so.written;
      served = subst (λ (l : Served). made ≡ l ++ made_of h.so.replies) none h.so.served;
    };
  }

  are_read : (left : Option (List ℕ)) → HasInput input (λ text. ServesWhatWasRead meaning text left old made A)
      → ServesInputRead input left W made
  are_read left h =
      let r = h.so.replied in
      record {
        input = h.input;
        its = h.its;
        so = record {
          part = h.so.part;
          unread = h.so.unread;
          left_is = h.so.left_is;
          one = h.so.one;
          replied = record {
            replies = r.replies;
            handled = r.handled;
            written = text_of r.replies r.written;
            served = subst (λ (l : Served). made ≡ l ++ made_of r.replies) none r.served;
          };
        };
      }

-- so it is where all of the text was written, and where a beginning of it was
module _ (input : Option (List ℕ)) (old settled now made : Served) (w v : Option (List ℕ)) (none : old ≡ []) where
  pub all_made : HasInput input (λ text. Serves meaning true (lines_of text) old made (AreTold old settled now w v))
      → ServesInput true input (Appends w v) made
  all_made h =
      are_made input (AreTold old settled now w v) (Appends w v) (λ rs told. told.written) old made none true h

  pub some_made : HasInput input (λ text. Serves meaning false (lines_of text) old made (SomeAreTold old settled now w v))
      → ServesInput false input (AppendsBeginning w v) made
  some_made h =
      are_made input (SomeAreTold old settled now w v) (AppendsBeginning w v)
      (λ rs told. some_written old settled now w v rs told) old made none false h

  pub all_read : (left : Option (List ℕ))
      → HasInput input (λ text. ServesWhatWasRead meaning text left old made (AreTold old settled now w v))
      → ServesInputRead input left (Appends w v) made
  all_read left h =
      are_read input (AreTold old settled now w v) (Appends w v) (λ rs told. told.written) old made none left h

-- the requests that were made, where the session that was opened is the first one
unfoldable pub is_served : (AreMade : Served → Type 0) (first opened last : Sessioned) (made : Served) → opened ≡ first
    → IsOpenedOver opened.broker opened → AreMade made → Leads first made last
    → AreAnswered first.broker.counts.clients made → GoesOnRight first last → IsServed first.broker AreMade
is_served AreMade first opened last made is over are_made leads answered on = record {
  first = first;
  opened = subst (λ (s : Sessioned). IsOpenedOver s.broker s) is over;
  made = made;
  are_made = are_made;
  last = last;
  leads = leads;
  answered = answered;
  goes_on = on;
}

-- and the image of what they led to, where there was memory for that
pub leaves_image : (AreMade : Served → Type 0) (broker b : Brokered) (served : IsServed broker AreMade)
    (r : Result (Vec ℕ Global) Refusal) → b ≡ served.last.broker → IfOk r (λ bytes. bytes.items ≡ image_of b.words.kept)
    → IfOk r (λ bytes. reading bytes.items ≡ Ok b.words.kept) → AreBootWords b.words.kept
    → IfOk r (λ bytes. LeavesImage broker AreMade bytes.items)
leaves_image AreMade broker b served (Err e) same image read boots = tt
leaves_image AreMade broker b served (Ok bytes) same image read boots = record {
  served = served;
  image =
      subst (λ (x : Brokered). IsImageOf x bytes.items) same
      (record { image = image; read = read; boots = boots });
}
