-- Points that are made by several workers.
use Rattle.std.specs.Prelude.{ℕ, ◌+◌, ◌-◌, ◌*◌, map, min, List}
use Rattle.std.specs.List.{range_with_len}
use Rattle.explore.specs.Points.{Found, found_at}
use Rattle.explore.specs.declared.sweep.Schedule.{Schedule}
use Rattle.explore.specs.declared.sweep.TheConstants.{PIECE}

-- the points of a piece of those from one on, up to another
abbrev pub piece_range : ℕ → ℕ → ℕ → List ℕ
piece_range from to piece = range_with_len (from + piece * PIECE) (min PIECE (to - (from + piece * PIECE)))

-- what is found at these points of a schedule
abbrev pub found_of_schedule : Schedule → List ℕ → List Found
found_of_schedule schedule points =
    map (found_at schedule.layout schedule.acts.items schedule.evictions) points

-- what is found at those of a piece
abbrev pub found_in_piece : Schedule → ℕ → ℕ → ℕ → List Found
found_in_piece schedule from to piece = found_of_schedule schedule (piece_range from to piece)

-- those of all points from one on, up to another
abbrev pub found_in_range : Schedule → ℕ → ℕ → List Found
found_in_range schedule from to = found_of_schedule schedule (range_with_len from (to - from))
