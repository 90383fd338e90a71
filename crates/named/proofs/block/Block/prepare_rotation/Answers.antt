use Rattle.std.proofs.Common.{◌≡◌, false, true, Ok, Err, subst}
use Rattle.std.specs.Prelude.{IfErr, OnOk}
use Rattle.persist.specs.Memory.{words_in}
use Rattle.interleave.specs.Rotation.{rotate_result}
use Rattle.named.specs.Blocks.{BlockState, state_in}
use Rattle.named.proofs.block.Block.prepare_rotation.Goals as goal

pub returns-clause-quiet : goal.returns-clause-quiet
returns-clause-quiet c = λ ws.
    subst (λ (b : BlockState). OnOk c.prepare_rotation.result (rotate_result false (state_in ws b) ≡ Ok tt)) c.self.view_is
    (c.prepare_rotation.ensures.quiet (words_in c.self.inside.from c.self.inside.len ws))

pub returns-clause-errors : goal.returns-clause-errors
returns-clause-errors c = λ ws.
    subst (λ (b : BlockState). IfErr c.prepare_rotation.result (λ e. rotate_result true (state_in ws b) ≡ Err e)) c.self.view_is
    (c.prepare_rotation.ensures.errors (words_in c.self.inside.from c.self.inside.len ws))
