-- What the kept words tell of each client's last call is right.
use Rattle.std.specs.Prelude.{◌≡◌, ◌≢◌, ◌<◌, ◌⊎◌, List, Some, length, ℕ}
use Rattle.words.specs.declared.call.Client.{Client}
use Rattle.words.specs.declared.call.Kind.{Kind}
use Rattle.words.specs.declared.limits.TheConstants.{MAX_CLIENTS}
use Rattle.words.specs.declared.told.Told.{Told}
use Rattle.arena.specs.Words.{announcements}
use Rattle.events.specs.Effects.{order_of}
use Rattle.events.specs.Telling.{IsToldBase, IsToldSome}
use Rattle.events.specs.declared.event.Entry.{Entry}
use Rattle.events.specs.declared.event.Event.{Event}
use Rattle.protocol.specs.Announced.{IsCallOf, IsNobodys}
use Rattle.protocol.specs.Kept.{TellsOf}
use Rattle.protocol.specs.Machine.{World}
use Rattle.protocol.specs.declared.Issued.{Issued}
use Rattle.protocol.specs.declared.UnderWay.{UnderWay}

-- the call of client t with the number n at the place p is that of the record e, or the record has no call
pub record Names (issued : List Issued) (e t n p : ℕ) : Type 0 where
  pub some : e ≢ 0
  pub call : Issued
  pub of : IsCallOf issued e call
  pub own : call.begun.client.0 ≡ t
  pub number : call.begun.number ≡ n
  pub place : call.place ≡ p

abbrev pub NamesNobody : List Issued → ℕ → Type 0
NamesNobody issued e = (e ≡ 0) ⊎ IsNobodys issued e

-- a client is told rightly of the call of record e, if a Ready comes now
abbrev pub IsTold : Kind → List Told → List Issued → ℕ → List Event → List Entry → Client → Told → Type 0
IsTold kind base issued e events order client told =
    ((x : IsToldSome kind events order client (length events) told) × Names issued e client.0 x.tells.number x.place)
    ⊎ (IsToldBase kind base events order client (length events) told × NamesNobody issued e)

-- what the kept words tell is right now
abbrev pub RightlyTold : World → Type 0
RightlyTold w =
    (client : Client) (told : Told) → client.0 < MAX_CLIENTS → TellsOf w.shape w.memory.kept client.0 told
    → IsTold w.shape.kind w.told w.log.issued (announcements w.memory.kept client.0) w.log.events
    (order_of w.log.effects) client told

-- each call under way is that of its record
abbrev pub AreIssued : World → Type 0
AreIssued w =
    (j : ℕ) (u : UnderWay) → w.calls j ≡ Some u
    → IsCallOf w.log.issued u.begun.token.0 (record { place = u.place; begun = u.begun })
