use Rattle.sound_words.proofs.Tables.{zeros}
use Rattle.sound_words.proofs.soundness.surveyed.Goals as goal

pub first_broken-requires-clause-no_place : goal.first_broken-requires-clause-no_place
first_broken-requires-clause-no_place g c = zeros 65537

pub first_broken-requires-clause-no_token : goal.first_broken-requires-clause-no_token
first_broken-requires-clause-no_token g c = zeros 65537
