use Rattle.serving.proofs.piping.pipe.Given as goal

abbrev pub ghosts-served : goal.ghosts-served
ghosts-served g a = record { first = a.session }
