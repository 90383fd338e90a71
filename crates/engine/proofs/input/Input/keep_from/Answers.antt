use Rattle.std.proofs.Common.{◌∙◌, ap, take, arith, rules}
use Rattle.std.proofs.lemmas.List.{length-take}
use Rattle.engine.proofs.Buffers.{moved}
use Rattle.engine.proofs.input.Input.keep_from.Goals as goal

pub returns : goal.returns
returns c =
    ap (take c.min-kept.result) c.copy_within.ensures.after ∙ moved c.args.used c.args.self.now.len c.min-kept.result c.args.self.now.bytes c.min-kept.ensures (omega (arith, length-take c.args.self.now.len c.args.self.now.bytes)) (search rules)
