use Rattle.std.proofs.Common.{refl}
use Rattle.playing.specs.Play.{new_play}
use Rattle.explore.proofs.Attempted.{commands_attempted}
use Rattle.explore.proofs.laws.transcripts_follow_attempts.Goals as goal

pub returns : goal.returns
returns c = λ s commands. commands_attempted commands (new_play s) s refl
