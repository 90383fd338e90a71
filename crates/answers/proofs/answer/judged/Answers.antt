use Rattle.std.proofs.Common.{◌≡◌, ◌-◌, ◌<◌, ℕ, Option, sym, subst, arith}
use Rattle.std.specs.Prelude.{IfSome}
use Rattle.findings.specs.declared.witness.Witness.{Witness}
use Rattle.events.specs.declared.event.Order.{Order}
use Rattle.answers.specs.Answers.{IsExplanation, IsRefutation}
use Rattle.answers.proofs.answer.judged.Goals as goal

pub returns : goal.returns
returns c =
    let rec = c.args.recording.now in
    let low = c.args.between.low in
    let high = c.args.between.high in
    let count : c.in_ok-prefix.prefix.count ≡ high = c.in_ok-prefix.ensures in
    let explained : IsExplanation rec low c.in-Some.order =
    subst (λ (o : Option Order). IfSome o (λ e. IsExplanation rec low e)) c.in-Some.is
    c.in_ok-order.ensures in
    let refuted : IsRefutation rec high c.in-Some-2.witness =
    subst (λ (o : Option Witness). IfSome o (λ w. IsRefutation rec high w)) c.in-Some-2.is c.in_ok-witness.ensures in
    let some : 0 < c.in_ok-prefix.prefix.count = omega (arith, count) in
    let before : low ≡ c.in_ok-prefix.prefix.count - 1 = omega (arith, count) in
    record {
      some = some;
      within = omega (arith, count);
      refuted = subst (λ (n : ℕ). IsRefutation rec n c.in-Some-2.witness) (sym count) refuted;
      before_it = subst (λ (n : ℕ). IsExplanation rec n c.in-Some.order) before explained;
    }
