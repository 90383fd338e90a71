use Rattle.named.proofs.Facts.{broker_goes_further}
use Rattle.broker_script.specs.Recovering.{Recovers}
use Rattle.broker_script.specs.Transcript.{Crashes}
use Rattle.broker_script.specs.Play.{session_of}
use Rattle.broker_script.proofs.Facts.{recovered_on, recovered_ready, recovered_settled, session_goes_further}
use Rattle.broker_points.specs.Points.{nowhere, further}
use Rattle.broker_points.proofs.point.stop_and_recover.Goals as goal

pub returns-clause-leads : goal.returns-clause-leads
returns-clause-leads c =
    further c.in_ok-_stopped._stopped.items c.in_ok-_stopped.ensures.follows
    (further c.in_ok-_told._told.items c.in_ok-_told.ensures.follows nowhere)

pub returns-clause-ready : goal.returns-clause-ready
returns-clause-ready c =
    let recovery : Recovers c.follow_line.new.player c.in_ok-_told._told.items c.follow_line-2.new.player = c.in_ok-_told.ensures.follows in
    recovered_ready recovery

pub returns-clause-goes_on : goal.returns-clause-goes_on
returns-clause-goes_on c =
    let crash : Crashes c.args.player.now c.in_ok-_stopped._stopped.items c.follow_line.new.player = c.in_ok-_stopped.ensures.follows in
    let recovery : Recovers c.follow_line.new.player c.in_ok-_told._told.items c.follow_line-2.new.player = c.in_ok-_told.ensures.follows in
    broker_goes_further c.args.player.now.broker c.follow_line.new.player.broker c.follow_line-2.new.player.broker crash.goes_on (recovered_on recovery)

pub returns-clause-settled : goal.returns-clause-settled
returns-clause-settled c =
    let crash : Crashes c.args.player.now c.in_ok-_stopped._stopped.items c.follow_line.new.player = c.in_ok-_stopped.ensures.follows in
    let recovery : Recovers c.follow_line.new.player c.in_ok-_told._told.items c.follow_line-2.new.player = c.in_ok-_told.ensures.follows in
    session_goes_further (session_of c.args.player.now) (session_of c.follow_line.new.player) (session_of c.follow_line-2.new.player)
    crash.settled (recovered_settled recovery)
