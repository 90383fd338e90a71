-- What becomes of whoever says a first line.
use Rattle.std.specs.Prelude.{◌≡◌, ◌≤◌, ℕ, List, Option, Some, None, ⊤, length}
use Rattle.std.specs.Borrow.{Bor}
use Rattle.engine.specs.declared.limits.TheConstants.{MAX_LINE}
use Rattle.door.specs.Hello.{said}
use Rattle.door.specs.declared.judging.Entry.{Entry}
use Rattle.door.specs.declared.judging.Entry.TheVariants.{Denied, Welcomed}
use Rattle.door.specs.declared.standing.Standing.{Standing}
use Rattle.door.specs.declared.standing.Standing.TheVariants.{Before, Inside}

-- the line says the secret, and is no longer than a line may be
abbrev pub IsHello : List ℕ → List ℕ → Type 0
IsHello secret line = (length line ≤ MAX_LINE) × (said line ≡ Some secret)

-- welcome is who says it, and nobody else
abbrev pub IsJudged : List ℕ → List ℕ → Entry → Type 0
IsJudged secret line (Welcomed welcome) = IsHello secret line
IsJudged secret line Denied = ¬ (IsHello secret line)

-- it is no more before the door
abbrev pub IsInside : Standing → Type 0
IsInside (Inside welcome) = ⊤
IsInside (Before secret) = ⊥

-- who comes stands before the secret that is asked for; where none is, everyone is inside
abbrev pub StandsBy : Option (Bor (List ℕ)) → Standing → Type 0
StandsBy None (Inside welcome) = ⊤
StandsBy None (Before secret) = ⊥
StandsBy (Some asked) (Before secret) = secret.now ≡ asked.now
StandsBy (Some asked) (Inside welcome) = ⊥
