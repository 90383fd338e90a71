use Rattle.std.proofs.Common.{◌<◌, true, false, Some, None, length, refl, ap, arith}
use Rattle.std.proofs.lemmas.Result.{on_ok_weaker}
use Rattle.recording.specs.declared.act.Act.TheVariants.{Begin, Answer}
use Rattle.prefixes.specs.declared.facts.Fate.{Fate}
use Rattle.prefixes.specs.Steps.{answer_events}
use Rattle.prefixes.proofs.Turns.{nothing_happens, nothing_learnt, happens, is_learnt, looked_up, not_there, begun_by}
use Rattle.prefixes.proofs.Turns.{not_begun, fate_at, refused_at}
use Rattle.prefixes.proofs.facts.add.Goals as goal

pub returns-in-Some-clause-events : goal.returns-in-Some-clause-events
returns-in-Some-clause-events c =
    let rec = c.args.recording.now in
    let steps = c.args.steps.now in
    let call = c.in-Begin.call in
    let lookup = c.in-Some.ensures.lookup in
    let lt : call < length rec.calls.items = omega (arith, lookup.3.0, ap length c.deref.ensures.value) in
    let refused = refused_at rec steps c.args.fates.now call c.index-fates-call.result true c.requires.fates lt
    c.if-fates-call.true in
    nothing_happens rec steps c.args.i _ (Begin call) c.args.facts.now.events c.requires.within c.in-Begin.is
    c.requires.events (begun_by rec steps _ call true _ refused refl)

pub returns-in-Some-clause-learnt : goal.returns-in-Some-clause-learnt
returns-in-Some-clause-learnt c =
    let rec = c.args.recording.now in
    let steps = c.args.steps.now in
    let call = c.in-Begin.call in
    let lookup = c.in-Some.ensures.lookup in
    let lt : call < length rec.calls.items = omega (arith, lookup.3.0, ap length c.deref.ensures.value) in
    let refused = refused_at rec steps c.args.fates.now call c.index-fates-call.result true c.requires.fates lt
    c.if-fates-call.true in
    nothing_learnt rec steps c.args.i _ (Begin call) c.args.facts.now.learnt c.requires.within c.in-Begin.is
    c.requires.learnt (begun_by rec steps 0 call true _ refused refl)

pub returns-in-Some-2-clause-events : goal.returns-in-Some-2-clause-events
returns-in-Some-2-clause-events c =
    let rec = c.args.recording.now in
    let steps = c.args.steps.now in
    let call = c.in-Begin.call in
    let lookup = c.in-Some.ensures.lookup in
    let lt : call < length rec.calls.items = omega (arith, lookup.3.0, ap length c.deref.ensures.value) in
    let refused = refused_at rec steps c.args.fates.now call c.index-fates-call.result false c.requires.fates lt
    c.if-fates-call.false in
    let at = looked_up c.deref.result.now rec.calls.items call c.in-Some.field-0.now c.deref.ensures.value
    lookup.3.0 lookup.1 in
    on_ok_weaker c.begin.result
    (happens rec steps c.args.i _ (Begin call) c.args.facts.now.events c.begin.new.facts.events _
    c.requires.within c.in-Begin.is c.requires.events
    (begun_by rec steps (length c.args.facts.now.events) call false _ refused at))
    c.begin.ensures.events

pub returns-in-Some-2-clause-learnt : goal.returns-in-Some-2-clause-learnt
returns-in-Some-2-clause-learnt c =
    let rec = c.args.recording.now in
    let steps = c.args.steps.now in
    let call = c.in-Begin.call in
    let lookup = c.in-Some.ensures.lookup in
    let lt : call < length rec.calls.items = omega (arith, lookup.3.0, ap length c.deref.ensures.value) in
    let fate = fate_at rec steps c.args.fates.now call c.index-fates-call-in-Some-2.result c.requires.fates lt in
    let refused = refused_at rec steps c.args.fates.now call c.index-fates-call.result false c.requires.fates lt
    c.if-fates-call.false in
    let at = looked_up c.deref.result.now rec.calls.items call c.in-Some.field-0.now c.deref.ensures.value
    lookup.3.0 lookup.1 in
    on_ok_weaker c.begin.result
    (is_learnt rec steps c.args.i _ (Begin call) c.args.facts.now.learnt c.begin.new.facts.learnt _ _
    c.requires.within c.in-Begin.is c.requires.learnt (begun_by rec steps 0 call false _ refused at)
    (ap (λ (f : Fate). f.outcome) fate))
    c.begin.ensures.learnt

pub returns-in-None-clause-events : goal.returns-in-None-clause-events
returns-in-None-clause-events c =
    let rec = c.args.recording.now in
    let call = c.in-Begin.call in
    let none = not_there c.deref.result.now rec.calls.items call c.deref.ensures.value c.in-None.ensures.lookup.3 in
    nothing_happens rec c.args.steps.now c.args.i _ (Begin call) c.args.facts.now.events c.requires.within
    c.in-Begin.is c.requires.events (not_begun rec c.args.steps.now _ call none)

pub returns-in-None-clause-learnt : goal.returns-in-None-clause-learnt
returns-in-None-clause-learnt c =
    let rec = c.args.recording.now in
    let call = c.in-Begin.call in
    let none = not_there c.deref.result.now rec.calls.items call c.deref.ensures.value c.in-None.ensures.lookup.3 in
    nothing_learnt rec c.args.steps.now c.args.i _ (Begin call) c.args.facts.now.learnt c.requires.within
    c.in-Begin.is c.requires.learnt (not_begun rec c.args.steps.now 0 call none)

-- an answer
pub returns-in-Some-get-clause-events : goal.returns-in-Some-get-clause-events
returns-in-Some-get-clause-events c =
    let rec = c.args.recording.now in
    let call = c.in-Answer.call in
    let said = c.in-Answer.said in
    let of = c.in-Some-get.of.now in
    let lookup = c.in-Some-get.ensures.lookup in
    let at = looked_up c.deref-in-Answer.result.now rec.calls.items call of c.deref-in-Answer.ensures.value
    lookup.3.0 lookup.1 in
    on_ok_weaker c.answer.result
    (happens rec c.args.steps.now c.args.i _ (Answer call said) c.args.facts.now.events
    c.answer.new.facts.events (answer_events rec said (Some of)) c.requires.within c.in-Answer.is
    c.requires.events (ap (answer_events rec said) at))
    c.answer.ensures.events

pub returns-in-Some-get-clause-learnt : goal.returns-in-Some-get-clause-learnt
returns-in-Some-get-clause-learnt c =
    let rec = c.args.recording.now in
    let call = c.in-Answer.call in
    let said = c.in-Answer.said in
    let of = c.in-Some-get.of.now in
    let lookup = c.in-Some-get.ensures.lookup in
    let at = looked_up c.deref-in-Answer.result.now rec.calls.items call of c.deref-in-Answer.ensures.value
    lookup.3.0 lookup.1 in
    on_ok_weaker c.answer.result
    (is_learnt rec c.args.steps.now c.args.i _ (Answer call said) c.args.facts.now.learnt
    c.answer.new.facts.learnt _ None c.requires.within c.in-Answer.is c.requires.learnt
    (ap (answer_events rec said) at) refl)
    c.answer.ensures.learnt

pub returns-in-None-get-clause-events : goal.returns-in-None-get-clause-events
returns-in-None-get-clause-events c =
    let rec = c.args.recording.now in
    let call = c.in-Answer.call in
    let said = c.in-Answer.said in
    let none = not_there c.deref-in-Answer.result.now rec.calls.items call c.deref-in-Answer.ensures.value
    c.in-None-get.ensures.lookup.3 in
    nothing_happens rec c.args.steps.now c.args.i _ (Answer call said) c.args.facts.now.events c.requires.within
    c.in-Answer.is c.requires.events (ap (answer_events rec said) none)

pub returns-in-None-get-clause-learnt : goal.returns-in-None-get-clause-learnt
returns-in-None-get-clause-learnt c =
    let rec = c.args.recording.now in
    let call = c.in-Answer.call in
    let said = c.in-Answer.said in
    let none = not_there c.deref-in-Answer.result.now rec.calls.items call c.deref-in-Answer.ensures.value
    c.in-None-get.ensures.lookup.3 in
    nothing_learnt rec c.args.steps.now c.args.i _ (Answer call said) c.args.facts.now.learnt c.requires.within
    c.in-Answer.is c.requires.learnt (ap (answer_events rec said) none)
