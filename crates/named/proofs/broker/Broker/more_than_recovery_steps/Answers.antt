use Rattle.std.proofs.Common.{◌≡◌, ◌≤◌, ◌+◌, ◌*◌, ◌∙◌, ap, arith, sym}
use Rattle.arena.specs.Shape.{Counts, Shape}
use Rattle.named.specs.Brokers.{Brokered}
use Rattle.named.specs.Lasting.{steps_left}
use Rattle.named.proofs.downtime.MostSteps.{few_product, recovery_most}
use Rattle.named.proofs.broker.Broker.more_than_recovery_steps.Goals as goal

pub overflow_mul-each : goal.overflow_mul-each
overflow_mul-each c =
    let few = few_product c.clients-clients.result c.records-records.result c.self.inside.layout.clients c.self.inside.layout.records
    c.clients-clients.ensures.counts c.clients-clients.ensures.value
    (c.records-records.ensures.value ∙ ap (λ (s : Shape). s.records) c.queue.ensures.layout) in
    omega (arith, few.0, few.1)

pub overflow_mul-each-2 : goal.overflow_mul-each-2
overflow_mul-each-2 c =
    let few = few_product c.clients-clients.result c.records-records.result c.self.inside.layout.clients c.self.inside.layout.records
    c.clients-clients.ensures.counts c.clients-clients.ensures.value
    (c.records-records.ensures.value ∙ ap (λ (s : Shape). s.records) c.queue.ensures.layout) in
    omega (arith, few.0, few.1)

pub overflow_add-each : goal.overflow_add-each
overflow_add-each c =
    let few = few_product c.clients-clients.result c.records-records.result c.self.inside.layout.clients c.self.inside.layout.records
    c.clients-clients.ensures.counts c.clients-clients.ensures.value
    (c.records-records.ensures.value ∙ ap (λ (s : Shape). s.records) c.queue.ensures.layout) in
    omega (arith, few.0, few.1)

pub overflow_add-each-2 : goal.overflow_add-each-2
overflow_add-each-2 c =
    let few = few_product c.clients-clients.result c.records-records.result c.self.inside.layout.clients c.self.inside.layout.records
    c.clients-clients.ensures.counts c.clients-clients.ensures.value
    (c.records-records.ensures.value ∙ ap (λ (s : Shape). s.records) c.queue.ensures.layout) in
    omega (arith, few.0, few.1)

pub overflow_mul-result : goal.overflow_mul-result
overflow_mul-result c =
    let few = few_product c.clients-clients.result c.records-records.result c.self.inside.layout.clients c.self.inside.layout.records
    c.clients-clients.ensures.counts c.clients-clients.ensures.value
    (c.records-records.ensures.value ∙ ap (λ (s : Shape). s.records) c.queue.ensures.layout) in
    omega (arith, few.0, few.1)

pub overflow_add-result : goal.overflow_add-result
overflow_add-result c =
    let few = few_product c.clients-clients.result c.records-records.result c.self.inside.layout.clients c.self.inside.layout.records
    c.clients-clients.ensures.counts c.clients-clients.ensures.value
    (c.records-records.ensures.value ∙ ap (λ (s : Shape). s.records) c.queue.ensures.layout) in
    omega (arith, few.0, few.1)

pub overflow_add-result-2 : goal.overflow_add-result-2
overflow_add-result-2 c =
    let few = few_product c.clients-clients.result c.records-records.result c.self.inside.layout.clients c.self.inside.layout.records
    c.clients-clients.ensures.counts c.clients-clients.ensures.value
    (c.records-records.ensures.value ∙ ap (λ (s : Shape). s.records) c.queue.ensures.layout) in
    omega (arith, few.0, few.1)

pub returns : goal.returns
returns c = λ b well same.
    let clients : c.clients-clients.result ≡ b.counts.clients =
    c.clients-clients.ensures.value ∙ sym (ap (λ (x : Counts). x.clients) (same ∙ sym (ap (λ (v : Brokered). v.counts) c.self.view_is))) in
    let records : c.records-records.result ≡ b.counts.records =
    c.records-records.ensures.value ∙ (ap (λ (s : Shape). s.records) c.queue.ensures.layout
    ∙ sym (ap (λ (x : Counts). x.records) (same ∙ sym (ap (λ (v : Brokered). v.counts) c.self.view_is)))) in
    let most : steps_left b ≤ 32 + 8 * (10 * (c.clients-clients.result * c.records-records.result) + 9 * c.clients-clients.result + 10) =
    rw (clients, records) (recovery_most b well) in
    omega (arith, most)
