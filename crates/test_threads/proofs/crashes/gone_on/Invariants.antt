use Rattle.test_threads.proofs.crashes.gone_on.Given as goal

abbrev pub ghosts-goes_on : goal.ghosts-goes_on
ghosts-goes_on g a = record {
  roll = a.opened.roll;
  clients = a.opened.session.broker.counts.clients;
  first = a.opened.session;
}
