use Rattle.std.proofs.Common.{ℕ, ◌≤◌, ◌+◌, ◌-◌, ◌/◌, length, sym, subst, arith}
use Rattle.words.specs.declared.limits.TheConstants.{MAX_RECORDS}
use Rattle.arena.specs.Place.{IsClient}
use Rattle.renewal.specs.Renewal.{Renewal}
use Rattle.renewal.specs.Roles.{used_for}
use Rattle.renewal.proofs.Roles.{used_within}
use Rattle.renewal.proofs.renewal.Renewal.used.Goals as goal

pub returns-clause-within : goal.returns-clause-within
returns-clause-within c =
    let t : ℕ = c.args.client.0 in
    let r : Renewal = record { shape = c.self.inside.layout.now; content = c.self.inside.content.now; tells = c.self.inside.tells.now } in
    let client : IsClient r.shape t = subst (λ (x : Renewal). IsClient x.shape t) (sym c.self.view_is) c.requires in
    let within : used_for r.shape (length r.content) t ≤ r.shape.records =
    used_within r.shape (length r.content) c.self.invariant.counts.some_client c.self.invariant.room t client in
    subst (λ (k : ℕ). 2 + (length r.content + (k - 1 - t)) / k ≤ c.args.self.now.shape.records) (sym c.clients-clients.ensures.value)
    (subst (λ (x : Renewal). used_for r.shape (length r.content) t ≤ x.shape.records) c.self.view_is within)

pub returns-clause-small : goal.returns-clause-small
returns-clause-small c =
    let few : c.args.self.now.shape.records ≤ MAX_RECORDS =
    subst (λ (x : Renewal). x.shape.records ≤ MAX_RECORDS) c.self.view_is c.self.invariant.counts.few_records in
    omega (arith, few, returns-clause-within c)
