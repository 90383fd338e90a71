-- What the fields of a session come to.
use Rattle.session.specs.Sessions.{Sessioned}
use Rattle.session.specs.declared.session.Session.TheInside.{Inside}

abbrev pub session_view : Inside → Sessioned
session_view s = record { broker = s.broker; kept = s.kept }
