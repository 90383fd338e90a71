use Rattle.std.proofs.Common.{◌<◌, rules, arith}
use Rattle.words.specs.declared.call.Client.{Client}
use Rattle.findings.proofs.recorded.is_under_way.Goals as goal

pub returns : goal.returns
returns c =
    let client : Client = record { 0 = c.args.client } in
    let way = c.requires.standing.under_way client c.index-begun.result.now c.requires.below in (
      λ yes.
          let lt : c.args.standing.now.crashed < c.index-begun.result.now = search rules in
          way.0 (omega (arith, lt, c.index-begun.ensures)),
      λ is.
          let lt : c.args.standing.now.crashed < c.index-begun.result.now =
          omega (arith, way.1 is, c.index-begun.ensures) in
          search rules,
    )
