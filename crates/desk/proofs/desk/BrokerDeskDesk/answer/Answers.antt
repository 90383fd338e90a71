use Rattle.std.proofs.Common.{sym, ◌∙◌}
use Rattle.chronicle.specs.Chronicled.{entries}
use Rattle.desk.proofs.Keeping.{stopped_last}
use Rattle.desk.proofs.Turns.{is_marked, turn_more}
use Rattle.desk.proofs.desk.BrokerDeskDesk.answer.Goals as goal

pub answer-requires : goal.answer-requires
answer-requires g c = is_marked g.J.Naming.clients g.J.Naming.first _ _ c.self.invariant.turn

pub invariant_of-self : goal.invariant_of-self
invariant_of-self g c = record {
  turn = turn_more g.J.Naming.clients g.J.Naming.first _ _ _ _ c.args.request _ c.answer.result c.self.invariant.turn
      c.answer.ensures c.copied.ensures c.note.ensures.entries;
  stops = c.is_stopping-self-inside.ensures
      ∙ sym (stopped_last _ (entries c.note.new.self) c.copied.result c.answer.result c.note.ensures.entries);
}
