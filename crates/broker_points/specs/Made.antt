-- Acts that are added to a list as they are accepted.
use Rattle.std.specs.Prelude.{◌≡◌, ℕ, List, ◌∷◌, ◌++◌, replicate}
use Rattle.words.specs.declared.call.Kind.{Kind}
use Rattle.broker_lines.specs.declared.statements.Ask.{Ask}
use Rattle.broker_lines.specs.declared.statements.Statement.{Statement}
use Rattle.broker_lines.specs.declared.statements.Statement.TheVariants.{BeginCreation, Asks}
use Rattle.broker_script.specs.Play.{Played}
use Rattle.broker_points.specs.Acts.{Attempts, attempts_of}

-- these were attempted, and those that were accepted added to a list
pub record Adds (old : Played) (attempts before after : List Statement) (new : Played) : Type 0 where
  pub more : List Statement
  pub made : Attempts old attempts more new
  pub is : after ≡ before ++ more

-- the acts that this line attempts were attempted, and those that were accepted added to a list
abbrev pub AddsActsOf : Statement → Played → List Statement → List Statement → Played → Type 0
AddsActsOf statement old before after new = Adds old (attempts_of statement) before after new

-- so were an act that begins something and up to so many steps of that
abbrev pub AddsBegun : Statement → Statement → ℕ → Played → List Statement → List Statement → Played → Type 0
AddsBegun first step most old before after new = Adds old (first ∷ replicate most step) before after new

-- so were the acts of a creation that begins and makes up to so many steps, and those of what a client asks
abbrev pub AddsCreation : List ℕ → Kind → ℕ → Played → List Statement → List Statement → Played → Type 0
AddsCreation name kind most old before after new = AddsActsOf (BeginCreation name kind most) old before after new

abbrev pub AddsAsked : List ℕ → Ask → Played → List Statement → List Statement → Played → Type 0
AddsAsked name ask old before after new = AddsActsOf (Asks name ask) old before after new
