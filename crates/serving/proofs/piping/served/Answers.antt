use Rattle.std.proofs.Common.{inr, rules}
use Rattle.chronicle.specs.Chronicled.{entries}
use Rattle.serving.proofs.Serving.{all_made, some_made, is_served, leaves_image}
use Rattle.serving.proofs.piping.served.Goals as goal

pub returns-in-Ok-served-clause-image : goal.returns-in-Ok-served-clause-image
unfolding is_served
returns-in-Ok-served-clause-image g c =
    let first = g.J.Beginning.first in
    let made = entries c.serve-served.new.desk.served in
    let end = c.into_session-session.ensures in
    let image = c.to_image.ensures in
    leaves_image _ first.broker c.broker.result.now
    (is_served _ first c.args.session c.into_session-session.result made c.requires.name c.requires.opened
    (all_made _ _ _ _ made _ _ c.in-Ok.ensures.served c.in-Ok-served.ensures.served) end.leads end.answered end.goes_on)
    c.to_image.result c.broker.ensures.broker image.image image.read image.boots

pub returns-in-Ok-served-clause-no_memory : goal.returns-in-Ok-served-clause-no_memory
returns-in-Ok-served-clause-no_memory g c = λ is.
    let first = g.J.Beginning.first in
    let made = entries c.serve-served.new.desk.served in
    let end = c.into_session-session.ensures in
    inr (is_served _ first c.args.session c.into_session-session.result made c.requires.name c.requires.opened
    (all_made _ _ _ _ made _ _ c.in-Ok.ensures.served c.in-Ok-served.ensures.served) end.leads end.answered end.goes_on)

pub returns-in-Err-WriteFailed-clause-write_failed : goal.returns-in-Err-WriteFailed-clause-write_failed
returns-in-Err-WriteFailed-clause-write_failed g c = λ is.
    let first = g.J.Beginning.first in
    let made = entries c.serve-served.new.desk.served in
    let end = c.into_session-session.ensures in
    is_served _ first c.args.session c.into_session-session.result made c.requires.name c.requires.opened
    (some_made _ _ _ _ made _ _ c.in-Ok.ensures.served (c.serve-served.ensures.write_failed (search rules))) end.leads
    end.answered end.goes_on
