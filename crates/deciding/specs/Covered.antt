-- Values that came out, and were in the queue at a place.
use Rattle.std.specs.Prelude.{ℕ, ◌<◌, ◌≤◌}
use Rattle.windows.specs.Calls.{Calls}
use Rattle.windows.proofs.Facts.{take_of}

abbrev pub IsCovered : Calls → ℕ → ℕ → Type 0
IsCovered calls put place =
    (take_of calls put < calls.places) × ((calls.end put ≤ place) × (place < take_of calls put))
