use Rattle.std.proofs.Common.{sym, subst}
use Rattle.directory.specs.Directory.{HasQueue}
use Rattle.named.specs.Brokers.{Brokered}
use Rattle.broker_script.proofs.Facts.{queues_noted}
use Rattle.broker_points.specs.Points.{nowhere, further}
use Rattle.broker_points.proofs.point.follow.Goals as goal

pub note-requires : goal.note-requires
note-requires c slot queue has =
    subst (λ (b : Brokered). HasQueue b.directory slot queue) (sym c.broker.ensures.broker)
    (queues_noted c.args.player.now c.args.statement.now c.in_ok-_lines._lines.items c.follow_line.new.player c.args.known.now
    c.forget.new.known c.in_ok-_lines.ensures.follows c.requires c.forget.ensures.kept c.forget.ensures.none slot queue has)

pub returns-clause-leads : goal.returns-clause-leads
returns-clause-leads c = further c.in_ok-_lines._lines.items c.in_ok-_lines.ensures.follows nowhere
