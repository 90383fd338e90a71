use Rattle.std.proofs.Common.{subst, arith, Some}
use Rattle.std.proofs.lemmas.Option.{slice_get_within}
use Rattle.directory.specs.Directory.{Directory, HasName}
use Rattle.directory.proofs.slots.Directory.find.Goals as goal

pub returns-clause-none : goal.returns-clause-none
returns-clause-none c =
    subst (λ (d : Directory). HasName d c.args.name.now → ⊥) c.self.view_is
    (λ h.
    let within = slice_get_within c.self.inside.places h.slot (Some h.here.queue) h.here.has in
    c.loop-slot.invariant h.slot (omega (arith, c.self.invariant.count)) h.here)
