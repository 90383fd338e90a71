-- What is left of a session that connections shared, and of its journal.
use Rattle.std.proofs.Common.{◌≡◌, List, ℕ, false, true≢false, Result, Ok, Err, subst}
use Rattle.std.specs.Prelude.{OnOk, is_err}
use Rattle.journal_file.specs.OnDevice.{OnDevice}
use Rattle.lasting.specs.Lasting.{EndsAtMomentOf}
use Rattle.named.specs.Booting.{AreBootWords}
use Rattle.named.specs.Brokers.{Brokered}
use Rattle.persist.specs.Image.{image_of, reading}
use Rattle.session.specs.Keeping.{SessionGoesOn}
use Rattle.session.specs.Promises.{KeepsNumbers}
use Rattle.session.specs.Sessions.{Sessioned}
use Rattle.workers.specs.Moments.{GoesOnLater}
use Rattle.workers.specs.Seats.{AreSeatsRecorded}
use Rattle.workers.specs.declared.entry.Entry.{Entry}
use Rattle.serving.specs.Image.{IsImageAfter, IsImageOf}
use Rattle.serving.specs.Journaled.{IsLeftAfter, IsLeftSince}

-- what an answer that is no refusal says
pub on_ok : {T E : Type 0} (P : Type 0) (answer : Result T E) → is_err answer ≡ false → OnOk answer P → P
on_ok {T} {E} P (Ok done) fine holds = holds
on_ok {T} {E} P (Err refusal) fine holds = absurd (true≢false fine)

-- its image, and its journal with the same words
pub left_after : {S : Type 0} (list : S → List Entry) (seats : List S) (first last : Sessioned) (b : Brokered)
    (bytes : List ℕ) (j : OnDevice) → b ≡ last.broker → AreSeatsRecorded list first seats last
    → SessionGoesOn first last → KeepsNumbers last → bytes ≡ image_of b.words.kept → reading bytes ≡ Ok b.words.kept
    → AreBootWords b.words.kept → j.words ≡ last.broker.words.kept → j.kept ≡ j.size → EndsAtMomentOf first last j
    → IsLeftAfter first bytes j
left_after list seats first last b bytes j same lists on keeps image read boots words kept moments =
    let after : IsImageAfter first bytes = record {
      last = last;
      goes_on = on;
      rotated = lists.rotated;
      came = lists.came;
      promises = keeps;
      image =
          subst (λ (x : Brokered). IsImageOf x bytes) same
          (record { image = image; read = read; boots = boots });
    } in
    record { image = after; words = words; kept = kept; moments = moments }

-- and the session goes on from an earlier one
pub left_since : {S : Type 0} (list : S → List Entry) (seats : List S) (first since last : Sessioned) (b : Brokered)
    (bytes : List ℕ) (j : OnDevice) → b ≡ last.broker → AreSeatsRecorded list first seats last
    → SessionGoesOn first last → KeepsNumbers last → bytes ≡ image_of b.words.kept → reading bytes ≡ Ok b.words.kept
    → AreBootWords b.words.kept → j.words ≡ last.broker.words.kept → j.kept ≡ j.size → EndsAtMomentOf first last j
    → GoesOnLater since last → IsLeftSince first since bytes j
unfolding left_after
left_since list seats first since last b bytes j same lists on keeps image read boots words kept moments later = record {
  left = left_after list seats first last b bytes j same lists on keeps image read boots words kept moments;
  later = later;
}
