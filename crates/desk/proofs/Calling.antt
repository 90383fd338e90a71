-- What a client's call is answered, between two marks.
use Rattle.std.proofs.Common.{◌≡◌, ◌<◌, ◌≤◌, true, ℕ, List, Option, None, Some, Result, Ok, ap, inl, inr, refl, subst, sym}
use Rattle.std.specs.Prelude.{◌↔◌, IfSome, IsNone, OnOk}
use Rattle.std.proofs.lemmas.Bool.{cases_lt}
use Rattle.words.specs.declared.call.Client.{Client}
use Rattle.words.specs.declared.refusal.Refusal.{Refusal}
use Rattle.words.specs.declared.refusal.Refusal.TheVariants.{NoClient}
use Rattle.words.specs.declared.told.Told.{Told}
use Rattle.named.specs.Brokers.{Brokered}
use Rattle.session.specs.Sessions.{Sessioned}
use Rattle.wire.specs.declared.answer.Answer.{Answer}
use Rattle.wire.specs.declared.answer.Answer.TheVariants.{Refused, Told as told_answer}
use Rattle.workers.specs.Moments.{GoesOnLater}
use Rattle.workers.specs.Seen.{IsRenewedBetween}
use Rattle.workers.proofs.Facts.{between_at, between_since, between_weaker, later_itself, later_still}
use Rattle.desk.specs.Answering.{IsCallAnswer, IsCalledBetween, IsCalledOf, IsTellingIn, IsToldOf, OfClient, Says, answer_as}
use Rattle.desk.specs.Answering.{IsWhyUnrenewed}
use Rattle.desk.specs.Requests.{is_no_room}
use Rattle.desk.specs.declared.calls.Asked.{Asked}
use Rattle.desk.proofs.Settling.{call_since, room_refused}

-- a client that there is has a number below theirs, and one that there is not has none
pub below : {A : Type 0} (clients number : ℕ) (o : Option A) (client : A) → o ≡ Some client
    → (IsNone o ↔ (clients ≤ number)) → number < clients
below {A} clients number o client is none = elim (cases_lt number clients) [
  | inl lt ↦ lt
  | inr le ↦ let gone = subst (λ (x : Option A). IsNone x) is (none.1 le) in absurd (cc gone)
]

pub above : {A : Type 0} (clients number : ℕ) (o : Option A) → o ≡ None → (IsNone o ↔ (clients ≤ number)) → clients ≤ number
above {A} clients number o is none = none.0 (subst (λ (x : Option A). IsNone x) (sym is) refl)

-- the client of this number
abbrev client_of : ℕ → Client
client_of number = record { 0 = number }

module _ (clients number : ℕ) (client : Client) (is : client.0 ≡ number) (few : number < clients) where
  pub told_of : (b : Brokered) (queue : Option (List ℕ)) (result : Result Told Refusal) → IsTellingIn b client queue result
      → IsToldOf clients b number queue result
  told_of b queue result telling =
      inr (few, subst (λ (k : Client). IsTellingIn b k queue result) (ap client_of is) telling)

  of_number : (first before s : Sessioned) (asked : Asked) (answer : Answer)
      → IsCallAnswer first before s client asked answer
      → OfClient clients number answer (λ c. IsCallAnswer first before s c asked answer)
  of_number first before s asked answer call =
      inr (few, subst (λ (k : Client). IsCallAnswer first before s k asked answer) (ap client_of is) call)

  -- at the mark behind it
  pub called_at : (first before now : Sessioned) (asked : Option Asked) (answer : Answer)
      → IfSome asked (λ a. IsCallAnswer first before now client a answer) → GoesOnLater before now
      → IsCalledOf clients first before now number asked answer
  called_at first before now None answer call later = tt
  called_at first before now (Some asked) answer call later =
      between_at before now later (of_number first before now asked answer call)

  -- or between
  pub called_between : (first earlier before now : Sessioned) (asked : Option Asked) (answer : Answer)
      → GoesOnLater earlier before → IsCalledBetween first before now client asked answer
      → IsCalledOf clients first earlier now number asked answer
  called_between first earlier before now None answer on call = tt
  called_between first earlier before now (Some asked) answer on call =
      between_since earlier before now on
      (between_weaker before now
      (λ s one. of_number first earlier s asked answer (call_since first earlier before s client asked answer on one)) call)

-- where there is no such client
pub called_of_none : (clients number : ℕ) (first now : Sessioned) (asked : Option Asked) → clients ≤ number
    → IsCalledOf clients first now now number asked (Refused NoClient)
called_of_none clients number first now None many = tt
called_of_none clients number first now (Some asked) many = between_at now now (later_itself now) (inl (many, refl))

-- of a client that there is
pub called_here : (first before now : Sessioned) (client : Client) (asked : Option Asked) (answer : Answer)
    → IfSome asked (λ a. IsCallAnswer first before now client a answer) → GoesOnLater before now
    → IsCalledBetween first before now client asked answer
called_here first before now client None answer call later = tt
called_here first before now client (Some asked) answer call later = between_at before now later call

-- a call that found no room, and whose queue could not begin in fresh records
pub called_without_room : (first before now then : Sessioned) (client : Client) (asked : Option Asked) (answer : Answer)
    (refusal : Refusal) → IfSome asked (λ a. IsCallAnswer first before now client a answer) → is_no_room answer ≡ true
    → IsWhyUnrenewed refusal → GoesOnLater before now → GoesOnLater now then
    → IsCalledBetween first before then client asked (Refused refusal)
called_without_room first before now then client None answer refusal call none why earlier later = tt
called_without_room first before now then client (Some asked) answer refusal call none why earlier later = record {
  session = now;
  earlier = earlier;
  later = later;
  is = room_refused first before now client asked answer refusal call none why;
}

-- one that was made once more, behind a later mark
pub called_again : (first before marked now : Sessioned) (client : Client) (asked : Option Asked) (answer : Answer)
    → IfSome asked (λ a. IsCallAnswer first marked now client a answer) → GoesOnLater before marked
    → GoesOnLater marked now → IsCalledBetween first before now client asked answer
called_again first before marked now client None answer call earlier later = tt
called_again first before marked now client (Some asked) answer call earlier later =
    between_at before now (later_still before marked now earlier later)
    (call_since first before marked now client asked answer earlier call)

-- what is told of what a client was last told
pub told_on_wire : (clients : ℕ) (b : Brokered) (number : ℕ) (queue : Option (List ℕ)) (result : Result Told Refusal)
    → IsToldOf clients b number queue result
    → OfClient clients number (answer_as told_answer result)
    (λ client. Says told_answer (answer_as told_answer result) (IsTellingIn b client queue))
told_on_wire clients b number queue result (inl none) = inl (none.0, ap (answer_as told_answer) none.1)
told_on_wire clients b number queue result (inr some) = inr (some.0, record { result = result; is = refl; made = some.1 })

-- a queue that was renewed behind a mark was so behind each earlier one
pub renewed_since : {A : Type 0} {slot : ℕ} (earlier before now : Sessioned) (result : Result A Refusal) (done : A)
    → result ≡ Ok done → GoesOnLater earlier before → OnOk result (IsRenewedBetween before now slot)
    → IsRenewedBetween earlier now slot
renewed_since {A} {slot} earlier before now result done is on so =
    let renewed = subst (λ (r : Result A Refusal). OnOk r (IsRenewedBetween before now slot)) is so in
    record {
      session = renewed.session;
      earlier = later_still earlier before renewed.session on renewed.earlier;
      renewed = renewed.renewed;
      ready = renewed.ready;
    }
