use Rattle.directory.proofs.Directories.{opened}
use Rattle.directory.proofs.Sounds.{rest_sound}
use Rattle.directory.proofs.laws.directories_are_sound.Goals as goal

pub returns-clause-rest : goal.returns-clause-rest
returns-clause-rest c counts ws directory h once zero = rest_sound counts ws directory h once zero

pub returns-clause-more : goal.returns-clause-more
returns-clause-more c directory slot queue h free fresh = opened directory slot queue h free fresh
