pub mod Runs
pub mod RunsEnd
pub mod RunsAlone
pub mod RunsBooted
pub mod RunsTold
pub mod RunsLeft
