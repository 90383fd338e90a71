use Rattle.std.proofs.Common.{ℕ, ◌≤◌, ◌<◌, ◌+◌, ap, subst, ◌∙◌}
use Rattle.arena.specs.Shape.{Shape, greatest, record_of}
use Rattle.renewal.specs.Zeros.{answer_from, node_from}
use Rattle.renewal.proofs.Unused.{unused_answers, unused_nodes}
use Rattle.renewal.proofs.renewal.Renewal.note_unused.Goals as goal

pub note-requires-clause-zero : goal.note-requires-clause-zero
note-requires-clause-zero c = λ w from to.
    let s : Shape = c.args.self.now.shape in
    let t : ℕ = c.args.client.0 in
    let few : record_of s t s.records ≤ greatest s + 1 =
    subst (λ (n : ℕ). n ≤ greatest s + 1) c.past_records-past.ensures.record c.past_records-past.ensures.few in
    unused_nodes c.args.self.now c.past_records-past.ensures.may t c.requires.client few w
    (subst (λ (n : ℕ). n ≤ w) (c.node_from.ensures ∙ ap (node_from s) c.first_unused-unused.ensures.record) from)
    (subst (λ (n : ℕ). w < n) (c.node_from-2.ensures ∙ ap (node_from s) c.past_records-past.ensures.record) to)

pub note-requires-2-clause-zero : goal.note-requires-2-clause-zero
note-requires-2-clause-zero c = λ w from to.
    let s : Shape = c.args.self.now.shape in
    unused_answers c.args.self.now c.past_records-past.ensures.may c.args.client.0 c.requires.client w
    (subst (λ (n : ℕ). n ≤ w) (c.answer_from.ensures ∙ ap (answer_from s) c.first_unused-unused.ensures.record) from)
    (subst (λ (n : ℕ). w < n) (c.answer_from-2.ensures ∙ ap (answer_from s) c.past_records-past.ensures.record) to)
