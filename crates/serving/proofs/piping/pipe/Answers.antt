use Rattle.std.proofs.Common.{inl, inr, IfErr, false, subst, sym, ◌∙◌}
use Rattle.words.specs.declared.refusal.Refusal.TheVariants.{Busy}
use Rattle.named.specs.Brokers.{Brokered}
use Rattle.workers.specs.Opening.{IsInUse, IsNotInUse}
use Rattle.serving.specs.Piping.{MayEndServed}
use Rattle.serving.proofs.piping.pipe.Goals as goal

-- what was served does not end for this reason
not_busy : MayEndServed Busy → ⊥
not_busy (inl e) = cc
not_busy (inr (inl e)) = cc
not_busy (inr (inr e)) = cc

-- nor is a broker in use that is not
not_both : (b : Brokered) → IsNotInUse b → IsInUse b → ⊥
not_both b idle (inl creating) = let e = sym creating ∙ idle.creating in cc
not_both b idle (inr call) = idle.calls call.slot call.client call.number call.calling

pub returns-clause-busy : goal.returns-clause-busy
returns-clause-busy g c = (
  (λ is. absurd (not_busy (subst (λ r. IfErr r MayEndServed) is c.served.ensures.errors))),
  (λ used. absurd (not_both c.args.broker (subst IsNotInUse c.open-session.ensures.broker (c.is_in_use.ensures.idle c.if-is_in_use.false)) used)),
)
