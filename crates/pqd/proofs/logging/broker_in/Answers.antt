use Rattle.std.proofs.Common.{◌≡◌, ℕ, List, Option, rules, subst}
use Rattle.std.specs.Prelude.{IfSome}
use Rattle.journal_store.specs.Found.{IsFoundIn}
use Rattle.pqd.proofs.Texts.{of_text}
use Rattle.pqd.proofs.logging.broker_in.Goals as goal

pub returns-clause-found : goal.returns-clause-found
returns-clause-found g c =
    let bytes = c.in_ok-bytes.bytes.items in
    let found = c.in_ok-found.found in
    let same : c.deref.result.now ≡ c.in_ok-bytes.bytes.items = search rules in
    of_text c.args.asked.now c.args.log.now.text bytes found c.in_ok-broker_on.field-0
    (subst (λ (it : Option (List ℕ)). IfSome it (λ known. known ≡ bytes)) c.in_ok-bytes.ensures.text c.in_ok-bytes.ensures.read)
    (subst (λ (it : List ℕ). IsFoundIn it found) same c.in_ok-found.ensures)
    c.in_ok-broker_on.ensures.words
