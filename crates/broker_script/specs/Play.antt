-- A broker that follows a script.
use Rattle.std.specs.Prelude.{ℕ, List, [], Option, replicate, slice_get, unwrap_or}
use Rattle.words.specs.declared.call.Kind.TheVariants.{Durable}
use Rattle.words.specs.declared.told.Verdict.{Verdict}
use Rattle.arena.specs.Shape.{shape_of}
use Rattle.arena.specs.declared.broker.TheConstants.{SLOTS}
use Rattle.interleave.specs.State.{State, new_world}
use Rattle.named.specs.Brokers.{Brokered, world_at}
use Rattle.playing.specs.Play.{Play}
use Rattle.playing.specs.declared.steps.TheConstants.{CLIENT_NUMBERS}
use Rattle.playing.specs.declared.steps.Steps.{Steps}
use Rattle.session.specs.Sessions.{Sessioned}

-- a broker, what its session keeps of each client in each slot, how many steps the calls on each slot's queue have
-- made, the creation that was begun last, and recovery since the last crash, and the words of the image that is
-- remembered, of which there is none at first
pub record Played : Type 0 where
  pub broker : Brokered
  pub kept : List (List (Option Verdict))
  pub steps : List Steps
  pub creation : ℕ
  pub recovery : ℕ
  pub image : List ℕ

-- the session that its lines ask
abbrev pub session_of : Played → Sessioned
session_of p = record { broker = p.broker; kept = p.kept }

-- no step was made
abbrev pub no_steps : Steps
no_steps = record { calls = replicate CLIENT_NUMBERS 0; recovery = 0 }

-- the queue in a slot as a world of its own, with the steps that its calls have made. On a closed slot no line is
-- followed; a new world stands for it
abbrev pub the_world : Brokered → ℕ → State
the_world b slot = unwrap_or (world_at b slot) (new_world (shape_of Durable b.counts))

abbrev pub steps_at : Played → ℕ → Steps
steps_at p slot = unwrap_or (slice_get p.steps slot) no_steps

abbrev pub play_at : Played → ℕ → Play
play_at p slot = record { world = the_world p.broker slot; steps = steps_at p slot }

-- a session over a broker on which no step was made
abbrev pub new_played : Sessioned → Played
new_played s = record {
  broker = s.broker;
  kept = s.kept;
  steps = replicate SLOTS no_steps;
  creation = 0;
  recovery = 0;
  image = [];
}
