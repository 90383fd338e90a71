use Rattle.test_server.proofs.sharing.is_found_in_use.Given as goal

abbrev pub ghosts-shared_by_all : goal.ghosts-shared_by_all
ghosts-shared_by_all g a = record {
  roll = a.opened.roll;
  clients = a.opened.session.broker.counts.clients;
  first = a.opened.session;
}
