-- Numbers that were answered stay so over the acts on one slot.
use Rattle.std.proofs.Common.{◌≡◌, ◌≢◌, ◌⊎◌, inl, inr, ℕ, List, Option, sym, ap, subst}
use Rattle.std.proofs.lemmas.Bool.{cases_eq}
use Rattle.words.specs.declared.call.Client.{Client}
use Rattle.words.specs.declared.call.Reply.{Reply}
use Rattle.words.specs.declared.told.Verdict.{Verdict}
use Rattle.named.specs.Brokers.{Brokered}
use Rattle.session.specs.Keeping.{IsSettled}
use Rattle.session.specs.Sessions.{IsLogClient, kept_in}

-- where one place has something new, what was answered there stays so
pub answers_go_on : (old new : Brokered) (was is : List (List (Option Verdict))) (slot : ℕ) (client : Client)
    → ((at other : ℕ) → (at ≢ slot) ⊎ (other ≢ client.0) → kept_in is at other ≡ kept_in was at other)
    → ((number : ℕ) (reply : Reply) → IsLogClient old slot client → IsSettled (kept_in was slot client.0) number reply
    → IsSettled (kept_in is slot client.0) number reply)
    → (at : ℕ) (other : Client) (number : ℕ) (reply : Reply) → IsLogClient old at other
    → IsSettled (kept_in was at other.0) number reply → IsSettled (kept_in is at other.0) number reply
answers_go_on old new was is slot client others here at other number reply its answered =
    elim (cases_eq at slot) [
      | inr apart ↦ same (others at other.0 (inl apart))
      | inl there ↦ elim (cases_eq other.0 client.0) [
        | inr apart ↦ same (others at other.0 (inr apart))
        | inl it ↦ there_is there it
      ]
    ]
  where
    same : kept_in is at other.0 ≡ kept_in was at other.0 → IsSettled (kept_in is at other.0) number reply
    same e = subst (λ (v : Option Verdict). IsSettled v number reply) (sym e) answered

    there_is : at ≡ slot → other.0 ≡ client.0 → IsSettled (kept_in is at other.0) number reply
    there_is there it =
        let who : other ≡ client = ap (λ (n : ℕ). let x : Client = record { 0 = n } in x) it in
        subst (λ (n : ℕ). IsSettled (kept_in is n other.0) number reply) (sym there)
        (subst (λ (c : Client). IsSettled (kept_in is slot c.0) number reply) (sym who)
        (here number reply
        (subst (IsLogClient old slot) who (subst (λ (n : ℕ). IsLogClient old n other) there its))
        (subst (λ (c : Client). IsSettled (kept_in was slot c.0) number reply) who
        (subst (λ (n : ℕ). IsSettled (kept_in was n other.0) number reply) there answered))))
