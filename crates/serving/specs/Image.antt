-- What is left of a broker that was served.
use Rattle.std.specs.Prelude.{◌≡◌, ◌⊎◌, ℕ, Bool, List, Ok}
use Rattle.words.specs.declared.refusal.Refusal.{Refusal}
use Rattle.words.specs.declared.refusal.Refusal.TheVariants.{Busy, NoMemory}
use Rattle.persist.specs.Image.{image_of, reading}
use Rattle.named.specs.Booting.{AreBootWords}
use Rattle.named.specs.Brokers.{Brokered}
use Rattle.session.specs.Keeping.{AreKeptAsHeard, SessionGoesOn}
use Rattle.session.specs.Promises.{KeepsNumbers}
use Rattle.session.specs.Sessions.{Sessioned}
use Rattle.workers.specs.Coming.{CameThrough}

-- the session over the broker as it begins: it keeps what each client was told
pub record IsOpenedOver (broker : Brokered) (s : Sessioned) : Type 0 where
  pub same : s.broker ≡ broker
  pub kept : AreKeptAsHeard broker s.kept

-- the bytes are the image of the broker's kept words; they are read as these words, which boot
pub record IsImageOf (b : Brokered) (bytes : List ℕ) : Type 0 where
  pub image : bytes ≡ image_of b.words.kept
  pub read : reading bytes ≡ Ok b.words.kept
  pub boots : AreBootWords b.words.kept

-- The bytes are the image of what the session came to. What was settled as it began is so still, no number took effect
-- twice, and the queues that there were are there, each with a history that went on from where it began, or ended with
-- a rotation or a renewal.
pub record IsImageAfter (first : Sessioned) (bytes : List ℕ) : Type 0 where
  pub last : Sessioned
  pub goes_on : SessionGoesOn first last
  pub rotated : Bool
  pub came : CameThrough first.broker rotated last.broker
  pub promises : KeepsNumbers last
  pub image : IsImageOf last.broker bytes

-- why a broker is not served, or leaves no image: a call, a creation or a seat is in use, or there is no memory
abbrev pub IsBusyOrNoMemory : Refusal → Type 0
IsBusyOrNoMemory refusal = (refusal ≡ NoMemory) ⊎ (refusal ≡ Busy)
