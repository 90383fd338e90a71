use Rattle.protocol.proofs.runs.RunsBooted.{booted_explained}
use Rattle.protocol.proofs.laws.a_queue_begins_on_sound_words.Goals as goal

pub returns : goal.returns
returns c = booted_explained
