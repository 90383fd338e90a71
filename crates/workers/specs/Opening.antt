-- Which sessions may be shared, and under which name.
use Rattle.std.specs.Prelude.{◌≡◌, ◌⊎◌, ℕ, true, false, Ok, Some}
use Rattle.words.specs.declared.call.Client.{Client}
use Rattle.words.specs.declared.refusal.Refusal.{Refusal}
use Rattle.words.specs.declared.refusal.Refusal.TheVariants.{Busy, NoMemory}
use Rattle.interleave.specs.Verdicts.{number_under_way}
use Rattle.named.specs.Brokers.{Brokered, answer_at, is_creating}
use Rattle.session.specs.Sessions.{Sessioned}
use Rattle.workers.specs.Naming.{Rolls}

-- the client has a call with this number under way in the queue of a slot
abbrev pub IsCalling : Brokered → ℕ → Client → ℕ → Type 0
IsCalling b slot client number = answer_at (λ w. Ok (number_under_way w client)) b slot client ≡ Ok (Some number)

pub record HasCall (b : Brokered) : Type 0 where
  pub slot : ℕ
  pub client : Client
  pub number : ℕ
  pub calling : IsCalling b slot client number

-- a client has a call under way, or a creation is
abbrev pub IsInUse : Brokered → Type 0
IsInUse b = (is_creating b ≡ true) ⊎ HasCall b

-- no client has one in the queue of a slot
abbrev pub HasNoCall : Brokered → ℕ → Type 0
HasNoCall b slot = (client : Client) (number : ℕ) → IsCalling b slot client number → ⊥

pub record IsNotInUse (b : Brokered) : Type 0 where
  pub creating : is_creating b ≡ false
  pub calls : (slot : ℕ) → HasNoCall b slot

-- why a session is not shared: it is in use; or it is not, and there is no memory
abbrev pub IsWhyNotOpened : Brokered → Refusal → Type 0
IsWhyNotOpened b refusal = ((refusal ≡ Busy) × IsInUse b) ⊎ ((refusal ≡ NoMemory) × IsNotInUse b)

-- a session that has no name yet, with its rolls
pub record Unnamed : Type 0 where
  pub roll : Rolls
  pub session : Sessioned

-- the name says which rolls these are, how many clients there are, and what the session was
pub record IsNameOf (roll : Rolls) (clients : ℕ) (first : Sessioned) (o : Unnamed) : Type 0 where
  pub same : o.roll ≡ roll
  pub all : o.session.broker.counts.clients ≡ clients
  pub session : o.session ≡ first
