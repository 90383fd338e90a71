use Rattle.std.proofs.Common.{◌≡◌, ◌∙◌, ℕ, List, false, true, refl, Result, Ok, Err, sym, ap, subst, arith}
use Rattle.std.specs.Prelude.{OnErr, OnOk, length}
use Rattle.std.specs.Result.{is_err}
use Rattle.persist.specs.Memory.{Words, overwritten}
use Rattle.persist.specs.declared.access.Change.{Change}
use Rattle.arena.specs.Broker.{block_from}
use Rattle.notes.specs.Noting.{HasNoted}
use Rattle.named.specs.Brokers.{Brokered}
use Rattle.named.specs.Renewing.{IsRenewedAt, IsWhyNotRenewedAt, MayRenew}
use Rattle.named.proofs.promises.Promises.{promises_kept}
use Rattle.named.proofs.acts.Refused.{left, not_done, why}
use Rattle.named.proofs.broker.Broker.renew_noted.Goals as goal

pub note_rewrite-requires : goal.note_rewrite-requires
note_rewrite-requires c =
    omega (
      arith,
      c.in_ok-anew.ensures.anew.within,
      c.block-from.ensures.from,
      ap (λ (b : Brokered). block_from b.counts c.args.slot.0) c.self.view_is,
      ap (λ (b : Brokered). length b.words.kept) c.self.view_is,
    )

-- what was not refused was noted
done : {T E : Type 0} (r : Result T E) (P : Type 0) → is_err r ≡ false → OnOk r P → P
done (Ok x) P right noted = noted
done (Err e) P right noted = absurd (cc (right))

refused : {T E : Type 0} (r : Result T E) (P : Type 0) → is_err r ≡ true → OnErr r P → P
refused (Ok x) P wrong left = absurd (cc (wrong))
refused (Err e) P wrong left = left

pub returns-clause-noted : goal.returns-clause-noted
returns-clause-noted c =
    let old : List Change = c.args.notes.now.changes in
    let new : List Change = c.note_rewrite.new.self.changes in
    let block : List ℕ = c.in_ok-anew.anew.block in
    let kept : List ℕ = c.self.inside.memory.words.kept in
    let noted : HasNoted old new kept (overwritten c.block-from.result block kept) =
    done c.note_rewrite.result _ (sym c.is_err.ensures.value ∙ c.if-is_err.false) c.note_rewrite.ensures.noted in
    let made : overwritten c.block-from.result block kept ≡ c.begin_anew.new.self.words.kept =
    ap (λ (n : ℕ). overwritten n block kept) c.block-from.ensures.from
    ∙ ap (λ (b : Brokered). overwritten (block_from b.counts c.args.slot.0) block b.words.kept) c.self.view_is
    ∙ c.in_ok-anew.ensures.anew.words
    ∙ sym (ap (λ (ws : Words). ws.kept) c.begin_anew.ensures.renewed.booted.words) in
    subst (λ (ws : List ℕ). HasNoted old new ws c.begin_anew.new.self.words.kept)
    (ap (λ (b : Brokered). b.words.kept) (c.self.view_is ∙ c.take_spare-list.ensures))
    (subst (HasNoted old new kept) made noted)

pub returns-in_err-anew-clause-errors : goal.returns-in_err-anew-clause-errors
returns-in_err-anew-clause-errors c =
    let e = c.in_err-anew.field-0.0 in
    let reason : IsWhyNotRenewedAt c.args.self.now c.args.slot.0 e =
    subst (λ (b : Brokered). IsWhyNotRenewedAt b c.args.slot.0 e) c.take_spare-list.ensures c.in_err-anew.ensures.errors in
    why _ c.from_residual.result e c.from_residual.ensures reason

pub returns-in_err-anew-clause-may : goal.returns-in_err-anew-clause-may
returns-in_err-anew-clause-may c = not_done _ c.from_residual.result c.in_err-anew.field-0.0 c.from_residual.ensures

pub returns-in_err-anew-clause-renewed : goal.returns-in_err-anew-clause-renewed
returns-in_err-anew-clause-renewed c = not_done _ c.from_residual.result c.in_err-anew.field-0.0 c.from_residual.ensures

pub returns-in_err-anew-clause-room : goal.returns-in_err-anew-clause-room
returns-in_err-anew-clause-room c = not_done _ c.from_residual.result c.in_err-anew.field-0.0 c.from_residual.ensures

pub returns-in_err-anew-clause-noted : goal.returns-in_err-anew-clause-noted
returns-in_err-anew-clause-noted c = not_done _ c.from_residual.result c.in_err-anew.field-0.0 c.from_residual.ensures

pub returns-in_err-anew-clause-promised : goal.returns-in_err-anew-clause-promised
returns-in_err-anew-clause-promised c = not_done _ c.from_residual.result c.in_err-anew.field-0.0 c.from_residual.ensures

pub returns-in_err-anew-clause-unnoted : goal.returns-in_err-anew-clause-unnoted
returns-in_err-anew-clause-unnoted c = left _ c.from_residual.result refl

pub returns-in_err-anew-clause-same : goal.returns-in_err-anew-clause-same
returns-in_err-anew-clause-same c = left _ c.from_residual.result c.take_spare-list.ensures

pub returns-then-is_err-clause-may : goal.returns-then-is_err-clause-may
returns-then-is_err-clause-may c = tt

pub returns-then-is_err-clause-renewed : goal.returns-then-is_err-clause-renewed
returns-then-is_err-clause-renewed c = tt

pub returns-then-is_err-clause-room : goal.returns-then-is_err-clause-room
returns-then-is_err-clause-room c = tt

pub returns-then-is_err-clause-noted : goal.returns-then-is_err-clause-noted
returns-then-is_err-clause-noted c = tt

pub returns-then-is_err-clause-promised : goal.returns-then-is_err-clause-promised
returns-then-is_err-clause-promised c = tt

pub returns-in_err-anew-clause-promises : goal.returns-in_err-anew-clause-promises
returns-in_err-anew-clause-promises c = promises_kept _ _ c.self.invariant.well c.self.view_is

pub returns-then-is_err-clause-errors : goal.returns-then-is_err-clause-errors
returns-then-is_err-clause-errors c = subst (λ (b : Brokered). MayRenew b c.args.slot.0) c.take_spare-list.ensures c.in_ok-anew.ensures.may

pub returns-then-is_err-clause-same : goal.returns-then-is_err-clause-same
returns-then-is_err-clause-same c = c.take_spare-list.ensures

pub returns-then-is_err-clause-unnoted : goal.returns-then-is_err-clause-unnoted
returns-then-is_err-clause-unnoted c = refused c.note_rewrite.result _ (sym c.is_err.ensures.value ∙ c.if-is_err.true) c.note_rewrite.ensures.same

pub returns-then-is_err-clause-promises : goal.returns-then-is_err-clause-promises
returns-then-is_err-clause-promises c = promises_kept _ _ c.self.invariant.well c.self.view_is

pub begin_anew-requires-clause-may : goal.begin_anew-requires-clause-may
begin_anew-requires-clause-may c = c.in_ok-anew.ensures.may

pub begin_anew-requires-clause-anew : goal.begin_anew-requires-clause-anew
begin_anew-requires-clause-anew c = c.in_ok-anew.ensures.anew

pub returns-clause-may : goal.returns-clause-may
returns-clause-may c = subst (λ (b : Brokered). MayRenew b c.args.slot.0) c.take_spare-list.ensures c.in_ok-anew.ensures.may

pub returns-clause-renewed : goal.returns-clause-renewed
returns-clause-renewed c = subst (λ (b : Brokered). IsRenewedAt b c.begin_anew.new.self c.args.slot.0) c.take_spare-list.ensures c.begin_anew.ensures.renewed

pub returns-clause-room : goal.returns-clause-room
returns-clause-room c = c.begin_anew.ensures.room

pub returns-clause-promised : goal.returns-clause-promised
returns-clause-promised c = done c.note_rewrite.result _ (sym c.is_err.ensures.value ∙ c.if-is_err.false) c.note_rewrite.ensures.promised

pub returns-clause-promises : goal.returns-clause-promises
returns-clause-promises c = c.begin_anew.ensures.promises

pub returns-clause-errors : goal.returns-clause-errors
returns-clause-errors c = tt

pub returns-clause-same : goal.returns-clause-same
returns-clause-same c = tt

pub returns-clause-unnoted : goal.returns-clause-unnoted
returns-clause-unnoted c = tt
