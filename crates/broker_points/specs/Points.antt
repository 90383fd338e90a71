-- What a crash of a whole broker after some acts comes to.
use Rattle.std.specs.Prelude.{◌≡◌, ℕ, List, [], ◌∷◌, ◌++◌, None, length, map, take}
use Rattle.arena.specs.Broker.{broker_size}
use Rattle.arena.specs.Shape.{Counts}
use Rattle.grammar.specs.declared.commands.Command.TheVariants.{Evict, Crash, Recover}
use Rattle.named.specs.Brokers.{IsNew}
use Rattle.named.specs.GoingOn.{BrokerGoesOn}
use Rattle.named.specs.Promises.{AreExplained}
use Rattle.session.specs.Keeping.{SessionGoesOn}
use Rattle.session.specs.Sessions.{Sessioned}
use Rattle.explore.specs.Points.{evicted_words}
use Rattle.explore.specs.declared.evictions.Evictions.{Evictions}
use Rattle.broker_lines.specs.Grammar.{counts_by}
use Rattle.broker_lines.specs.declared.printed.Printed.{Printed}
use Rattle.broker_lines.specs.declared.statements.BrokerLine.{BrokerLine}
use Rattle.broker_lines.specs.declared.statements.Statement.{Statement}
use Rattle.broker_lines.specs.declared.statements.Statement.TheVariants.{Whole as whole}
use Rattle.broker_script.specs.Play.{Played, new_played, session_of}
use Rattle.broker_script.specs.Transcript.{FollowsLine}
use Rattle.broker_points.specs.Reports.{point_text}

-- some lines lead a broker from here to there
pub data Leads : Played → List Statement → Played → Type 0 where
  nowhere : {old : Played} → Leads old [] old
  further : {old next new : Played} {statement : Statement} {statements : List Statement}
      (lines : List Printed) (line : FollowsLine old statement lines next) (rest : Leads next statements new)
      → Leads old (statement ∷ statements) new

-- the environment keeps these words
abbrev pub eviction : ℕ → Statement
eviction word = whole (Evict word)

abbrev pub evictions_at : Counts → Evictions → ℕ → List Statement
evictions_at c evictions point = map eviction (evicted_words evictions (broker_size c) point)

-- everything stops, and recovery goes on to its end
abbrev pub downtime : List Statement
downtime = whole Crash ∷ whole Recover ∷ []

-- the line of a point. A session over a new broker made these acts, then the environment kept words, everything
-- stopped, and the broker recovered: each queue that it had is there and its history goes on, each history is explained
-- by its order, which leaves what the queue holds, and each number that was settled is so, with the same reply
pub record IsPointAfter (c : Counts) (acts : List Statement) (evictions : Evictions) (point : ℕ) (text : List ℕ)
    : Type 0 where
  pub session : Sessioned
  pub made : IsNew c session.broker
  pub stopping : Played
  pub acted : Leads (new_played session) (acts ++ evictions_at c evictions point) stopping
  pub found : Played
  pub recovered : Leads stopping downtime found
  pub ready : found.broker.recovery ≡ None
  pub goes_on : BrokerGoesOn stopping.broker found.broker
  pub explained : AreExplained found.broker
  pub settled : SessionGoesOn (session_of stopping) (session_of found)
  pub is : text ≡ point_text point found

-- that of a crash after all of these acts, on a broker as its line says
abbrev pub IsPointAfterAll : BrokerLine → List Statement → Evictions → List ℕ → Type 0
IsPointAfterAll broker acts evictions text =
    IsPointAfter (counts_by broker) acts evictions (length acts) text

-- that of a crash after the first of these acts, so many of them
abbrev pub IsPointAt : Counts → List Statement → Evictions → ℕ → List ℕ → Type 0
IsPointAt c acts evictions point text = IsPointAfter c (take point acts) evictions point text
