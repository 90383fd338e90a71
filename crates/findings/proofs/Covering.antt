-- Pieces that cover places one after another.
use Rattle.std.proofs.Common.{ℕ, ◌≡◌, ◌<◌, ◌≤◌, List, Some, get_or, length, arith, max, ap, sym, ◌∙◌, ⊎_elim}
use Rattle.std.proofs.lemmas.Bool.{cases_lt}
use Rattle.std.proofs.lemmas.Option.{slice_get-get_or}
use Rattle.findings.specs.declared.witness.Piece.{Piece}
use Rattle.findings.specs.Shows.{IsCovered}

-- with one more piece, which begins where those before it reach
pub covered_more : (pieces : List Piece) (i from reached next : ℕ) (piece : Piece) → i < length pieces
    → piece ≡ get_or pieces i piece → piece.from ≤ reached → next ≡ max reached piece.to
    → ((m : ℕ) → from ≤ m → m < reached → IsCovered pieces m)
    → (m : ℕ) → from ≤ m → m < next → IsCovered pieces m
covered_more pieces i from reached next piece lt is low is_next so_far m ge less =
    ⊎_elim
    (λ (old : m < reached). so_far m ge old)
    (λ (new : reached ≤ m). record {
      index = i;
      piece = piece;
      at = slice_get-get_or pieces i piece lt ∙ ap Some (sym is);
      within = (omega arith, omega arith);
    })
    (cases_lt m reached)
