use Rattle.server.proofs.Endings.{image_served}
use Rattle.server.proofs.ending.image_left.Goals as goal

pub returns-clause-image : goal.returns-clause-image
returns-clause-image g c =
    let closed = c.close_with-session.ensures in
    let image = c.to_image.ensures in
    image_served _ _ g.J.Naming.first c.close_with-session.result c.broker.result.now g.J.Naming.clients c.args.workers
    c.args.marks.items c.to_image.result c.requires.clients c.requires.opened c.requires.marks closed.later c.broker.ensures.broker
    closed.lists closed.goes_on closed.promises image.image image.read image.boots
