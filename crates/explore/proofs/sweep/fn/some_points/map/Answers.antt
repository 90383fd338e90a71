use Rattle.explore.proofs.sweep.fn.some_points.map.Goals as goal

pub piece_points-requires : goal.piece_points-requires
piece_points-requires c = record { some = c.requires.0; within = c.requires.1 }
