use Rattle.server.proofs.listening.net.Given as goal

abbrev pub ghosts-served : goal.ghosts-served
ghosts-served g a = record {
  roll = a.opened.roll;
  clients = a.opened.session.broker.counts.clients;
  first = a.opened.session;
}
