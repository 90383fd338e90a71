use Rattle.std.proofs.Common.{◌≡◌, drop, fold, max}
use Rattle.script_reports.specs.Reports.{most_steps}
use Rattle.explore.specs.declared.answers.Alone.{Alone}
use Rattle.script_reports.proofs.reports.most_steps.Given as goal

-- the calls that are left bring what all of them do
abbrev pub invariant-loop-call : goal.invariant-loop-call
invariant-loop-call l =
    fold (λ most (call : Alone). max most call.steps) l.most (drop l.call-index l.calls) ≡ most_steps l.calls
