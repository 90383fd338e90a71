use Rattle.std.proofs.Common.{◌≡◌, ℕ, List, Option, Some, length, min, take, sym, ap, ◌∙◌, arith}
use Rattle.std.proofs.lemmas.List.{length-take}
use Rattle.protocol.specs.declared.UnderWay.{UnderWay}
use Rattle.interleave.proofs.order.Prefixes.{get_in_front, set_in_front}
use Rattle.interleave.proofs.calls.Calls.go_on.Goals as goal

pub go_on-requires : goal.go_on-requires
go_on-requires c =
    let places : List (Option UnderWay) = c.self.inside.places in
    let long : length c.args.self.now ≡ min c.self.inside.clients (length places) =
    ap (λ (xs : List (Option UnderWay)). length xs) (sym c.self.view_is) ∙ length-take c.self.inside.clients places in
    omega (arith, long, c.requires)

pub returns : goal.returns
returns c = λ u at.
    let n : ℕ = c.self.inside.clients in
    let places : List (Option UnderWay) = c.self.inside.places in
    let there = get_in_front n c.args.client.0 places c.args.self.now (Some u) c.self.view_is at in
    ap (take n) (c.go_on.ensures u there)
    ∙ set_in_front n c.args.client.0 places c.args.self.now (Some (record u { op = c.args.op.now })) c.self.view_is c.requires
