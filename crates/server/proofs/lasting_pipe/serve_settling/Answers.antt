use Rattle.std.proofs.Common.{◌≡◌, List, [], rules, subst, sym}
use Rattle.std.specs.Prelude.{IfSome, None, Option}
use Rattle.chronicle.specs.Chronicled.{Chronicled, entries}
use Rattle.desk.specs.Answering.{IsServedInTurn}
use Rattle.session.specs.Sessions.{Sessioned}
use Rattle.wire.specs.declared.answer.Answer.{Answer}
use Rattle.wire.specs.declared.request.Request.{Request}
use Rattle.serving.specs.Connections.{TellsBy}
use Rattle.server.proofs.Pipes.{none_served, tells_by}
use Rattle.server.proofs.lasting_pipe.serve_settling.Goals as goal

pub returns-clause-served : goal.returns-clause-served
returns-clause-served g c =
    let connection = c.lasting_connection-ended in
    let e = connection.ensures in
    let began = c.new-desk.result.desk.desk.served in
    let desk = connection.new.desk.desk.desk in
    let empty : entries began ≡ [] = search rules in
    let token : desk.assured ≡ c.into_token-token.result = search rules in
    record {
      served = desk.served;
      is =
          subst (λ (old : Chronicled (Request × Answer)). TellsBy g.R.Reader g.W.Writer old desk.served connection.result
          c.args.reader.now connection.new.reader c.args.writer.now connection.new.writer) (none_served began empty)
          (tells_by g.R.Reader g.W.Writer began desk.served connection.result c.args.reader.now connection.new.reader
          c.args.writer.now connection.new.writer e.served e.flushed e.read_failed e.write_failed e.not_kept);
      lasting =
          subst (λ (t : Option Sessioned). IfSome t (IsServedInTurn g.J.Naming.clients g.J.Naming.first desk.served.settled))
          token e.lasting;
      known = subst (λ (t : Option Sessioned). t ≡ None → desk.served.settled ≡ []) token e.known;
    }
