use Rattle.server.proofs.lasting_net.net_lasting.Given as goal

abbrev pub ghosts-served-J-Naming : goal.ghosts-served-J-Naming
ghosts-served-J-Naming g a = record {
  roll = a.noted.noting.roll;
  clients = a.noted.noting.session.broker.counts.clients;
  first = a.noted.noting.session;
}

abbrev pub ghosts-served-J-Settling : goal.ghosts-served-J-Settling
ghosts-served-J-Settling g a = record { policy = a.journaling.policy }
