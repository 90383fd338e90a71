use Rattle.test_threads.proofs.crashes.cut_off_in.Given as goal

abbrev pub ghosts-cut_off : goal.ghosts-cut_off
ghosts-cut_off g a = record {
  roll = a.opened.roll;
  clients = a.opened.session.broker.counts.clients;
  first = a.opened.session;
}
