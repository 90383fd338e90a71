use Rattle.std.proofs.Common.{inl}
use Rattle.deciding.proofs.Hearing.{nothing_known}
use Rattle.deciding.proofs.reading.known_at.Goals as goal

pub returns-in-Some : goal.returns-in-Some
returns-in-Some c = inl c.in-Some.ensures.some

pub returns-in-None-returned_reply : goal.returns-in-None-returned_reply
returns-in-None-returned_reply c = nothing_known c.args.findings.now.events c.args.findings.now.learnt c.args.place
    c.in-None.ensures.none c.in-None-returned_reply.ensures.none
