use Rattle.std.proofs.Common.{◌≡◌, ◌-◌, ◌+◌, ◌<◌, length, ◌∙◌, refl, subst, sym, arith}
use Rattle.std.proofs.lemmas.Option.{slice_get_read}
use Rattle.interleave.proofs.order.PendingEffects.{none_at_all, none_before, none_more, only_one, HasNoneFrom}
use Rattle.interleave.proofs.effects.unsettled.Goals as goal

pub returns-then-effect-place : goal.returns-then-effect-place
returns-then-effect-place c =
    let n = c.loop-after.after in
    let next : n ≡ (n - 1) + 1 = omega (arith, c.loop-after-test.true) in
    let in_list : n - 1 < length c.args.effects.now = omega (arith, c.loop-after-test.true, c.loop-after.invariant.within) in
    none_before c.args.place c.args.effects.now n (n - 1) _ next c.requires c.loop-after.invariant.none (slice_get_read c.args.effects.now (length c.args.effects.now) (n - 1) _ refl in_list c.index-effects-after.is) c.if-effect-place.true

pub returns-then-waits : goal.returns-then-waits
returns-then-waits c =
    let n = c.loop-after.after in
    let in_list : n - 1 < length c.args.effects.now = omega (arith, c.loop-after-test.true, c.loop-after.invariant.within) in
    only_one c.args.place c.args.effects.now (n - 1) _ c.requires (slice_get_read c.args.effects.now (length c.args.effects.now) (n - 1) _ refl in_list c.index-effects-after.is) (sym c.waits.ensures ∙ c.if-waits.true)

pub loop-after-preserved : goal.loop-after-preserved
loop-after-preserved c =
    let n = c.loop-after.after in
    let next : n ≡ (n - 1) + 1 = omega (arith, c.loop-after-test.true) in
    let in_list : n - 1 < length c.args.effects.now = omega (arith, c.loop-after-test.true, c.loop-after.invariant.within) in
    record {
      same = c.loop-after.invariant.same;
      place = c.loop-after.invariant.place;
      within = omega (arith, c.loop-after.invariant.within);
      none = none_more c.args.place c.args.effects.now n (n - 1) _ next c.loop-after.invariant.none (slice_get_read c.args.effects.now (length c.args.effects.now) (n - 1) _ refl in_list c.index-effects-after.is) (sym c.waits.ensures ∙ c.if-waits.false);
    }

pub returns : goal.returns
returns c =
    let none_left : c.loop-after.after ≡ 0 = omega (arith, c.loop-after-test.false) in
    none_at_all c.args.place c.args.effects.now (subst (λ n. HasNoneFrom c.args.place c.args.effects.now n) none_left c.loop-after.invariant.none)
