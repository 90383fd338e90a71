use Rattle.std.proofs.Common.{Some, ap, arith, slice_set}
use Rattle.directory.specs.Directory.{Directory}
use Rattle.directory.proofs.Directories.{opened_in, place_there}
use Rattle.directory.proofs.slots.Directory.open.Goals as goal

pub invariant_of-self : goal.invariant_of-self
invariant_of-self c =
    opened_in c.self.inside.places c.args.self.now c.self.view_is c.args.slot.0 c.args.queue c.self.invariant c.requires.free c.requires.new_name

pub returns-clause-directory : goal.returns-clause-directory
returns-clause-directory c =
    opened_in c.self.inside.places c.args.self.now c.self.view_is c.args.slot.0 c.args.queue c.self.invariant c.requires.free c.requires.new_name

pub listed : goal.listed
listed c = place_there c.self.inside.places c.args.self.now c.self.view_is c.args.slot.0 c.requires.free

pub bounds-self-inside-slot : goal.bounds-self-inside-slot
bounds-self-inside-slot c =
    let there = place_there c.self.inside.places c.args.self.now c.self.view_is c.args.slot.0 c.requires.free in
    omega (arith, there, c.self.invariant.count)

pub returns-clause-opened : goal.returns-clause-opened
returns-clause-opened c = ap (λ (d : Directory). slice_set d c.args.slot.0 (Some c.args.queue)) c.self.view_is
