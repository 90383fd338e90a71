use Rattle.serving.proofs.lasting_desk.LastingDesk.new.Goals as goal

pub returns-clause-served : goal.returns-clause-served
returns-clause-served g c = c.in_ok-desk.ensures.served
