use Rattle.std.proofs.Common.{Option, sym, subst}
use Rattle.std.specs.Prelude.{IsTrue, ◌↔◌}
use Rattle.directory.specs.Directory.{IsQueueNamed}
use Rattle.directory.specs.declared.queue.Queue.{Queue}
use Rattle.directory.proofs.Rows.{names_equal}
use Rattle.directory.proofs.slots.is_named.Goals as goal

pub returns-in-Some : goal.returns-in-Some
returns-in-Some c =
    subst (λ (q : Option Queue). IsTrue c.eq.result ↔ IsQueueNamed q c.args.name.now) (sym c.in-Some.is)
    (names_equal c.in-Some.queue.name c.args.name.now c.eq.result c.eq.ensures)
