use Rattle.std.proofs.Common.{ap, ◌∙◌}
use Rattle.fenced.specs.Engine.{Engine}
use Rattle.fenced.specs.Requests.{after}
use Rattle.etcd_text.specs.Asked.{asked_by}
use Rattle.etcd_log.specs.Plain.{engine_of}
use Rattle.etcd_log.proofs.Twice.{again_done}
use Rattle.etcd_log.proofs.plain.PlainEngineExchange.ask.Goals as goal

pub returns-in-Ok-clause-done : goal.returns-in-Ok-clause-done
returns-in-Ok-clause-done c =
    again_done (asked_by c.args.request.now) (engine_of c.args.self.now.tail c.args.self.now.changes.items)
    (engine_of c.do_once-in-Twice.new.self.tail c.do_once-in-Twice.new.self.changes.items)
    (engine_of c.do_once-in-Twice-2.new.self.tail c.do_once-in-Twice-2.new.self.changes.items) c.do_once-in-Twice-2.result
    (c.in-Ok.ensures.done ∙ ap (λ (e : Engine). after e (asked_by c.args.request.now)) c.next_fate.ensures)
    c.do_once-in-Twice-2.ensures.done c.do_once-in-Twice-2.ensures.stays
