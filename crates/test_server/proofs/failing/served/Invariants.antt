use Rattle.test_server.proofs.failing.served.Given as goal

abbrev pub ghosts-exchanged : goal.ghosts-exchanged
ghosts-exchanged g a = record {
  roll = a.opened.roll;
  clients = a.opened.session.broker.counts.clients;
  first = a.opened.session;
}
