use Rattle.test_threads.proofs.crowd.a_crowd_of_clients_takes_effect_once_beside_crashes.Given as goal

abbrev pub ghosts-crowded : goal.ghosts-crowded
ghosts-crowded g a = record {
  roll = a.opened.roll;
  clients = a.opened.session.broker.counts.clients;
  first = a.opened.session;
}
