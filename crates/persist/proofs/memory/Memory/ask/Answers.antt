use Rattle.std.proofs.Common.{None, Some, length, slice_set, ap, ◌∙◌, length-set}
use Rattle.persist.specs.Memory.{MemoryState}
use Rattle.persist.proofs.Requests.{asked_within, others_left}
use Rattle.persist.proofs.Shown.{below}
use Rattle.persist.proofs.memory.Memory.ask.Goals as goal

pub invariant_of-self : goal.invariant_of-self
invariant_of-self c =
    let inside = below c.self.inside.kept.items c.self.inside.changes.entries c.self.inside.accesses c.args.self.now.words
    (ap (λ (m : MemoryState). m.words) c.self.view_is) c.args.word c.requires.word in
    record {
      words = c.self.invariant.words;
      ports = length-set c.self.inside.requests c.args.port (Some c.args.word) ∙ c.self.invariant.ports;
      requests = asked_within (length c.self.inside.kept.items) c.self.inside.requests c.args.port c.args.word c.self.invariant.requests inside;
    }

pub returns-clause-others : goal.returns-clause-others
returns-clause-others c =
    others_left c.self.inside.requests c.args.port (Some c.args.word)
    ∙ ap (λ (m : MemoryState). slice_set m.asked c.args.port None) c.self.view_is
