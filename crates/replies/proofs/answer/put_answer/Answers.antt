use Rattle.replies.proofs.answer.put_answer.Goals as goal

pub returns-in-Created-clause-text : goal.returns-in-Created-clause-text
returns-in-Created-clause-text g c = rw c.in-Created.is (rw c.from.ensures at c.put_around.ensures.items)

pub returns-in-Interrupted-clause-text : goal.returns-in-Interrupted-clause-text
returns-in-Interrupted-clause-text g c = rw c.in-Interrupted.is c.put.ensures.items

pub returns-in-Unfinished-clause-text : goal.returns-in-Unfinished-clause-text
returns-in-Unfinished-clause-text g c = rw c.in-Unfinished.is c.put-in-Unfinished.ensures.items

pub returns-in-Crashed-clause-text : goal.returns-in-Crashed-clause-text
returns-in-Crashed-clause-text g c = rw c.in-Crashed.is c.put-in-Crashed.ensures.items

pub returns-in-Stopping-clause-text : goal.returns-in-Stopping-clause-text
returns-in-Stopping-clause-text g c = rw c.in-Stopping.is c.put-in-Stopping.ensures.items
