use Rattle.std.proofs.Common.{◌≡◌, ℕ, length, List, None, Option, replicate, take, sym, ap, ◌∙◌}
use Rattle.std.proofs.lemmas.List.{length-take-le, take-replicate}
use Rattle.protocol.specs.declared.UnderWay.{UnderWay}
use Rattle.interleave.proofs.calls.Calls.end_all.Goals as goal

pub returns : goal.returns
returns c =
    let n : ℕ = c.self.inside.clients in
    let places : List (Option UnderWay) = c.self.inside.places in
    let long : n ≡ length c.args.self.now = sym (length-take-le n places c.self.invariant.1) ∙ ap (λ (xs : List (Option UnderWay)). length xs) c.self.view_is in
    ap (take n) c.clear.ensures ∙ take-replicate n (length places) None c.self.invariant.1 ∙ ap (λ m. replicate m None) long
