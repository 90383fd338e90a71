use Rattle.workers.specs.Marks.{HasNumberAnswered}
use Rattle.server.proofs.Restarts.{told_still}
use Rattle.server.proofs.laws.told_replies_outlast_restarts.Goals as goal

pub returns : goal.returns
returns c = λ first now b r client asked reply number replied is.
    let has : HasNumberAnswered replied.session client replied.list number reply = record {
      index = replied.has.index;
      entry = replied.has.entry;
      at = replied.has.at;
      ran = is;
      end = replied.has.end;
    } in
    told_still first now client asked reply number replied is r.j r.has r.bytes r.left b r.opened
    (c.marked_answers_are_told.ensures.settled first replied.session client replied.list replied.marked number reply has)
