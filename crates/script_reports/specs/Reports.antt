-- What the reports on a script say.
use Rattle.std.specs.Prelude.{◌≡◌, ℕ, ◌+◌, Bool, true, false, List, [], ◌∷◌, ◌++◌, Option, Some, None, length, take, fold, max, codes, decimal}
use Rattle.std.specs.List.{flat_map}
use Rattle.words.specs.PlainQueue.{Value}
use Rattle.words.specs.Text.{told_text}
use Rattle.words.specs.declared.told.Told.{Told}
use Rattle.grammar.specs.Grammar.{shape_by}
use Rattle.explore.specs.Points.{Found, all_found, found_of, part_of, points_on}
use Rattle.playing.specs.Prints.{values_text}
use Rattle.explore.specs.Stopped.{alone_on, alone_text}
use Rattle.explore.specs.declared.answers.Alone.{Alone}
use Rattle.grammar.specs.declared.commands.Command.{Command}
use Rattle.grammar.specs.declared.commands.QueueLine.{QueueLine}
use Rattle.explore.specs.declared.part.Part.{Part}
use Rattle.explore.specs.declared.part.Wanted.{Wanted}
use Rattle.explore.specs.declared.point.Point.{Point}
use Rattle.explore.specs.declared.sweep.Report.{Report}

-- what clients are told, parted by commas
abbrev pub later_told_text : Told → List ℕ
later_told_text told = codes ", " ++ told_text told

abbrev pub told_all_text : List Told → List ℕ
told_all_text [] = []
told_all_text (first ∷ rest) = told_text first ++ flat_map later_told_text rest

abbrev pub ok_text : Bool → List ℕ
ok_text true = codes "ok"
ok_text false = codes "bad"

-- the line of a point of a queue of so many clients, in its parts
abbrev pub steps_text : ℕ → ℕ → List ℕ
steps_text number steps = codes "point " ++ decimal number ++ codes ": recovery " ++ decimal steps ++ codes "; told "

abbrev pub content_text : List Value → List ℕ
content_text content = codes "; content" ++ values_text content

abbrev pub end_text : Bool → List ℕ
end_text ok = codes "; " ++ ok_text ok ++ codes "\n"

abbrev pub point_text : ℕ → ℕ → Found → List ℕ
point_text clients number found =
    steps_text number found.steps ++ told_all_text (take clients found.told)
    ++ content_text found.content ++ end_text found.ok

-- those of some points, numbered from here
abbrev pub numbered_text : ℕ → ℕ → List Found → List ℕ
numbered_text clients number [] = []
numbered_text clients number (found ∷ rest) =
    point_text clients number found ++ numbered_text clients (number + 1) rest

-- a line for each point, numbered from here, and one that counts them, and those that are not ok
abbrev pub report_text : ℕ → ℕ → List Found → ℕ → List ℕ
report_text clients number points bad =
    numbered_text clients number points
    ++ (codes "points " ++ decimal (length points) ++ codes " bad " ++ decimal bad ++ codes "\n")

-- the line of a point that was found
abbrev pub line_of : ℕ → ℕ → Point → List ℕ
line_of clients number point = point_text clients number (found_of point)

-- the lines of a report, its points numbered from here
abbrev pub text_of_report : ℕ → ℕ → Report → List ℕ
text_of_report clients from report = report_text clients from (all_found report.points.items) report.bad

-- the lines of a part of the points, which have the numbers that they have in the whole: of those from one on, so many
-- of them, or all
abbrev pub lines_of_part : ℕ → Part → List Found → List ℕ
lines_of_part clients part points = numbered_text clients part.from (part_of part points)

abbrev pub lines_from : ℕ → ℕ → Option ℕ → List Found → List ℕ
lines_from clients from count points = lines_of_part clients (record { from = from; count = count }) points

-- the lines of all points
abbrev pub all_lines : ℕ → List Found → List ℕ
all_lines clients points = numbered_text clients 0 points

-- of two parts that follow each other, the first from here on and each of so many points, the lines, put together, are
-- those of one part
abbrev pub PartsMakeOne : ℕ → List Found → ℕ → ℕ → ℕ → Type 0
PartsMakeOne clients points from first second =
    lines_from clients from (Some first) points ++ lines_from clients (from + first) (Some second) points
    ≡ lines_from clients from (Some (first + second)) points

-- and so it is of a part and all points that come after it
abbrev pub PartAndRestMakeOne : ℕ → List Found → ℕ → ℕ → Type 0
PartAndRestMakeOne clients points from first =
    lines_from clients from (Some first) points ++ lines_from clients (from + first) None points
    ≡ lines_from clients from None points

-- the report on a part of a script's points
abbrev pub points_text : Wanted → Option QueueLine → List Command → List ℕ
points_text wanted None commands = []
points_text wanted (Some queue) commands =
    report_text queue.clients wanted.part.from
    (part_of wanted.part (points_on (shape_by queue) commands wanted.evictions)) 0

-- a call that went on alone, and a newline
abbrev pub ended_alone_text : Alone → List ℕ
ended_alone_text alone = alone_text alone ++ codes "\n"

-- the most steps that one of them took
abbrev pub most_steps : List Alone → ℕ
most_steps calls = fold (λ most alone. max most alone.steps) 0 calls

-- a line for each of them, and one that counts them
abbrev pub calls_text : List Alone → List ℕ
calls_text calls =
    flat_map ended_alone_text calls
    ++ (codes "alone " ++ decimal (length calls) ++ codes " most " ++ decimal (most_steps calls) ++ codes "\n")

abbrev pub stopped_text : Option QueueLine → List Command → List ℕ
stopped_text None commands = []
stopped_text (Some queue) commands = calls_text (alone_on (shape_by queue) commands)
