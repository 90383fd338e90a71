use Rattle.std.proofs.Common.{◌≡◌, Result, Err, is_ok, sym, ap, subst, ◌∙◌, if◌then◌else◌, rules}
use Rattle.words.specs.declared.refusal.Refusal.{Refusal}
use Rattle.interleave.specs.Calls.{is_no_memory}
use Rattle.interleave.specs.Core.{state_of}
use Rattle.interleave.specs.Rotation.{after_rotation, rotate_result}
use Rattle.interleave.specs.State.{State}
use Rattle.interleave.proofs.order.Rotations.{refused_so}
use Rattle.interleave.proofs.lent.Core.rotate.Goals as goal

pub returns-in_err-base-clause-result : goal.returns-in_err-base-clause-result
returns-in_err-base-clause-result g c = λ ws.
    let w : State = state_of c.args.self.now ws in
    let refused : c.from_residual.result ≡ Err c.in_err-base.field-0.0 = search rules in
    subst (λ (r : Result Unit Refusal). r ≡ rotate_result (is_no_memory r) w) (sym refused)
    (refused_so w c.in_err-base.field-0.0 (c.in_err-base.ensures.errors ws))

pub returns-in_err-base-clause-world : goal.returns-in_err-base-clause-world
returns-in_err-base-clause-world g c = λ ws is.
    let w : State = state_of c.args.self.now ws in
    let refused : c.from_residual.result ≡ Err c.in_err-base.field-0.0 = search rules in
    ap (λ (r : Result Unit Refusal). if is_ok r then after_rotation w else w) (sym refused ∙ returns-in_err-base-clause-result g c ws)

pub returns-clause-world : goal.returns-clause-world
returns-clause-world g c = λ ws is.
    let w : State = state_of c.args.self.now ws in
    c.begin_anew.ensures.world ws is
    ∙ sym (ap (λ (r : Result Unit Refusal). if is_ok r then after_rotation w else w) (c.in_ok-base.ensures.quiet ws))

pub returns-clause-result : goal.returns-clause-result
returns-clause-result g c = λ ws. sym (c.in_ok-base.ensures.quiet ws)
