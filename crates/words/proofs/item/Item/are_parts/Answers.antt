use Rattle.std.proofs.Common.{◌≡◌, ◌-◌, ℕ, Bool, List, length, take, drop, sym, ap, ◌∙◌, subst, arith}
use Rattle.std.specs.Prelude.{◌↔◌, IsTrue, slice_index}
use Rattle.std.specs.List.{list_all}
use Rattle.std.proofs.lemmas.List.{take_all, length-drop}
use Rattle.words.specs.Item.{AreParts, row_of, is_zero}
use Rattle.words.proofs.Parts.{parts_told}
use Rattle.words.proofs.item.Item.are_parts.Goals as goal

pub returns : goal.returns
returns c =
    let len : ℕ = slice_index c.args.parts 0 in
    let row : List ℕ = row_of (slice_index c.args.parts 1) (slice_index c.args.parts 2) (slice_index c.args.parts 3) in
    let is : c.row_of-row.result ≡ row = c.row_of-row.ensures in
    let whole : take (24 - len) (drop len row) ≡ drop len row = take_all (24 - len) (drop len row) (omega (arith, length-drop len row)) in
    let same : c.are_zeros.result ≡ list_all is_zero (drop len row) =
    c.are_zeros.ensures
    ∙ ap (λ (r : List ℕ). list_all is_zero (take (24 - len) (drop len r))) is
    ∙ ap (list_all is_zero) whole in
    subst
    (λ (b : Bool). IsTrue b ↔ AreParts len (slice_index c.args.parts 1) (slice_index c.args.parts 2) (slice_index c.args.parts 3))
    (sym same)
    (parts_told len (slice_index c.args.parts 1) (slice_index c.args.parts 2) (slice_index c.args.parts 3) c.if-len.false)
