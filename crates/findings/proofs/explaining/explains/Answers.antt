use Rattle.std.proofs.Common.{ℕ, arith, get_or, subst}
use Rattle.std.specs.Prelude.{IfSome, Option, Vec}
use Rattle.std.specs.declared.alloc.Global.{Global}
use Rattle.findings.specs.Agreeing.{IsIndexOf}
use Rattle.findings.proofs.Tables.{named_within}
use Rattle.findings.proofs.explaining.explains.Goals as goal

pub numbers_by_place-requires : goal.numbers_by_place-requires
numbers_by_place-requires c = λ k d lt.
    omega (arith, named_within c.args.findings.now.events (get_or c.args.entries.now k d).place (c.names_calls.ensures.0 c.if-not-names_calls.false k d lt), c.len.ensures.events)

pub returns-then-not-names_calls : goal.returns-then-not-names_calls
returns-then-not-names_calls c = (
  λ no. cc,
  λ explains. cc (c.names_calls.ensures.1 explains.is_order.calls, c.if-not-names_calls.true),
)

pub returns-then-not-precedence_is_kept : goal.returns-then-not-precedence_is_kept
returns-then-not-precedence_is_kept c = (
  λ no. cc,
  λ explains. cc (c.precedence_is_kept.ensures.1 explains.precedence, c.if-not-precedence_is_kept.true),
)

pub returns : goal.returns
returns c =
    let order = c.args.entries.now in
    let index : IsIndexOf order c.len.result c.in-Some.table.items =
    subst (λ (o : Option (Vec ℕ Global)). IfSome o (λ t. IsIndexOf order c.len.result t.items)) c.in-Some.is
    c.in_ok-table.ensures.some in (
      λ yes. record {
        is_order = record {
          calls = c.names_calls.ensures.0 c.if-not-names_calls.false;
          once = index.once;
        };
        answers = c.all_answered.ensures.0 c.if-not-all_answered.false;
        replays = c.in_ok-replays.ensures.0 c.if-not-branch.false;
        precedence = c.precedence_is_kept.ensures.0 c.if-not-precedence_is_kept.false;
        agrees = c.all_agree.ensures.0 yes;
      },
      λ explains. c.all_agree.ensures.1 explains.agrees,
    )
