use Rattle.test_threads.proofs.creations.creations_are_whole_or_not_at_all_beside_crashes.Given as goal

abbrev pub ghosts-created_beside_crashes : goal.ghosts-created_beside_crashes
ghosts-created_beside_crashes g a = record {
  roll = a.opened.roll;
  clients = a.opened.session.broker.counts.clients;
  first = a.opened.session;
}
