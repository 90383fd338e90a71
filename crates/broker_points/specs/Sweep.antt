-- Points that were made.
use Rattle.std.specs.Prelude.{ℕ, ◌+◌, IsTrue, List, ◌++◌, All, count_by, length, map, not}
use Rattle.std.specs.List.{AllZip, concat, range_with_len}
use Rattle.broker_lines.specs.Grammar.{counts_by}
use Rattle.broker_points.specs.Points.{IsPointAt}
use Rattle.broker_points.specs.Run.{count_text}
use Rattle.broker_points.specs.declared.point.Point.{Point}
use Rattle.broker_points.specs.declared.sweep.Schedule.{Schedule}

-- its line
abbrev pub text_of : Point → List ℕ
text_of point = point.text.items

-- the point of a schedule with this number, those with these, and all
abbrev pub IsPointOf : Schedule → ℕ → List ℕ → Type 0
IsPointOf schedule point text =
    IsPointAt (counts_by schedule.broker) schedule.acts.items schedule.evictions point text

abbrev pub ArePointsOf : Schedule → List ℕ → List Point → Type 0
ArePointsOf schedule numbers points = AllZip (IsPointOf schedule) numbers (map text_of points)

abbrev pub AreAllPointsOf : Schedule → List Point → Type 0
AreAllPointsOf schedule points = ArePointsOf schedule (range_with_len 0 (length schedule.acts.items + 1)) points

-- all of them are ok
abbrev pub AreOk : List Point → Type 0
AreOk points = All (λ point. IsTrue point.ok) points

-- their lines, and one that counts them
abbrev pub report_on : List Point → List ℕ
report_on points =
    concat (map text_of points) ++ count_text (length points) (count_by (λ point. not point.ok) points)
