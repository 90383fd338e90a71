-- A renewal of a queue, by its name.
use Rattle.std.specs.Prelude.{◌≡◌, ◌≢◌, ℕ, List, [], ◌∷◌, Result, Ok, Err, IfErr, OnErr, OnOk}
use Rattle.words.specs.declared.refusal.Refusal.{Refusal}
use Rattle.words.specs.declared.refusal.Refusal.TheVariants.{NoMemory}
use Rattle.arena.specs.declared.broker.SlotId.{SlotId}
use Rattle.named.specs.Brokers.{Brokered}
use Rattle.named.specs.Finding.{IsPlaced}
use Rattle.named.specs.Renewing.{IsRenewedAt, IsWhyNotRenewedAt, MayRenew}
use Rattle.playing.specs.declared.lines.Line.TheVariants.{Refused}
use Rattle.broker_lines.specs.declared.printed.Printed.{Printed}
use Rattle.broker_lines.specs.declared.printed.Printed.TheVariants.{Whole, Renewed}
use Rattle.broker_script.specs.Play.{Played}

-- the line of a renewal
abbrev pub renew_line : Result Unit Refusal → Printed
renew_line (Ok u) = Renewed
renew_line (Err refusal) = Whole (Refused refusal)

-- why the queue in a slot is not renewed
pub record IsNotRenewed (b : Brokered) (slot : ℕ) (refusal : Refusal) : Type 0 where
  pub memory : refusal ≢ NoMemory
  pub why : IsWhyNotRenewedAt b slot refusal

-- the queue in a slot is in fresh records, and recovery begins, none of whose steps was made; or that is refused
pub record RenewsIn (old : Played) (slot : ℕ) (lines : List Printed) (new : Played) : Type 0 where
  pub result : Result Unit Refusal
  pub line : lines ≡ renew_line result ∷ []
  pub may : OnOk result (MayRenew old.broker slot)
  pub renewed : OnOk result (IsRenewedAt old.broker new.broker slot)
  pub others : OnOk result (new ≡ record old { broker = new.broker; recovery = 0 })
  pub errors : IfErr result (IsNotRenewed old.broker slot)
  pub same : OnErr result (new ≡ old)

-- the queue of this name, once it was looked for
abbrev pub RenewsPlaced : Played → List Printed → Played → Result SlotId Refusal → Type 0
RenewsPlaced old lines new (Ok slot) = RenewsIn old slot.0 lines new
RenewsPlaced old lines new (Err refusal) = (lines ≡ renew_line (Err refusal) ∷ []) × (new ≡ old)

pub record Renews (old : Played) (name : List ℕ) (lines : List Printed) (new : Played) : Type 0 where
  pub place : Result SlotId Refusal
  pub placed : IsPlaced old.broker name place
  pub followed : RenewsPlaced old lines new place
