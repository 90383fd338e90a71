use Rattle.test_refusals.proofs.shareds.tell.Given as goal

abbrev pub ghosts-acts : goal.ghosts-acts
ghosts-acts g a = record {
  roll = a.opened.roll;
  clients = a.opened.session.broker.counts.clients;
  first = a.opened.session;
}
