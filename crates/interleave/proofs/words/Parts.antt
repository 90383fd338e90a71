-- A world over other words with the same values.
use Rattle.std.proofs.Common.{◌≡◌, ℕ, List, sym, subst}
use Rattle.persist.specs.Memory.{Words}
use Rattle.interleave.specs.Core.{CoreState, state_of}
use Rattle.interleave.specs.Holds.{Holds}
use Rattle.interleave.specs.Ranges.{WordsFit}

-- what holds over words holds over any with the same values
pub holds_alike : (c : CoreState) (u v : Words) → v.cached ≡ u.cached → v.kept ≡ u.kept → Holds (state_of c u) → Holds (state_of c v)
holds_alike c u v cached kept holds =
    subst (λ (xs : List ℕ). let ws : Words = record v { cached = xs } in Holds (state_of c ws)) (sym cached)
    (subst (λ (xs : List ℕ). let ws : Words = record v { cached = u.cached; kept = xs } in Holds (state_of c ws)) (sym kept) same)
  where
    ws : Words
    ws = record v { cached = u.cached; kept = u.kept }

    fit : WordsFit c.shape ws
    fit =
        let words = holds.safe.words in
        record { room = words.room; same = words.same; cached_count = words.cached_count; count = words.count; cached = words.cached; kept = words.kept }

    same : Holds (state_of c ws)
    same = record {
      safe = record { words = fit; clients = holds.safe.clients; few = holds.safe.few; calls_fit = holds.safe.calls_fit };
      kind = holds.kind;
      inv = holds.inv;
      numbers = holds.numbers;
      floors = holds.floors;
      records = holds.records;
    }
