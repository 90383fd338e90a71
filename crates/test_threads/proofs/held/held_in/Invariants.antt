use Rattle.test_threads.proofs.held.held_in.Given as goal

abbrev pub ghosts-held : goal.ghosts-held
ghosts-held g a = record {
  roll = a.opened.roll;
  clients = a.opened.session.broker.counts.clients;
  first = a.opened.session;
}
