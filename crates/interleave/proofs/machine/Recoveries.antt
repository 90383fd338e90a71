-- What a step of recovery makes of a world.
use Rattle.std.proofs.Common.{◌≡◌, List, Option, Some, None, refl, true, ap, ◌∙◌}
use Rattle.std.specs.Prelude.{is_some, IfSome}
use Rattle.words.specs.PlainQueue.{Value}
use Rattle.words.specs.declared.told.Told.{Told}
use Rattle.persist.specs.Memory.{Words}
use Rattle.events.specs.declared.event.Effect.{Effect}
use Rattle.events.specs.declared.event.Event.{Event}
use Rattle.recover.specs.Table.{access_of as recovery_access}
use Rattle.stepper.specs.declared.resume.After.{After}
use Rattle.recover.specs.declared.recovery.Recovery.{Recovery}
use Rattle.stepper.specs.Step.{after_one}
use Rattle.protocol.specs.Machine.{next_recovery, recovery_left, recovery_events}
use Rattle.protocol.specs.declared.Issued.{Issued}
use Rattle.protocol.specs.declared.UnderWay.{UnderWay}
use Rattle.arena.specs.Shape.{Shape}
use Rattle.interleave.specs.State.{State, machine, after_recovery_step, queue_at_ready}
use Rattle.interleave.specs.Trace.{Traced, state_with}
use Rattle.interleave.specs.declared.queue.Queue.{Queue}

-- a recovery that is under way
pub recovery_some : (o : Option Recovery) → is_some o ≡ true → (r : Recovery) × (o ≡ Some r)
recovery_some None e = cc
recovery_some (Some r) e = (r, refl)

pub of_some : (o : Option Recovery) (P : Recovery → Type 0) → ((r : Recovery) → o ≡ Some r → P r) → IfSome o P
of_some None P h = tt
of_some (Some r) P h = h r refl

-- worlds that differ in their traces alone, and those agree, are one
pub state_same : (s : Shape) (ws : Words) (queue : Queue) (calls : List (Option UnderWay)) (a : Traced) (base : List Value) (told : List Told) (events : List Event) (issued : List Issued) (effects : List Effect) (recovery : Option Recovery)
    → a.base ≡ base → a.told ≡ told → a.log.events ≡ events → a.log.issued ≡ issued → a.log.effects ≡ effects → a.recovery ≡ recovery
    → state_with s ws queue calls a ≡ (let w : State = record { shape = s; words = ws; queue = queue; calls = calls; base = base; told = told; log = record { events = events; issued = issued; effects = effects }; recovery = recovery } in w)
state_same s ws queue calls a base told events issued effects recovery b t e i f r =
    ap (λ (x : List Value). let w : State = record (state_with s ws queue calls a) { base = x } in w) b
    ∙ ap (λ (x : List Told). let w : State = record (state_with s ws queue calls a) { base = base; told = x } in w) t
    ∙ ap (λ (x : List Event). let w : State = record (state_with s ws queue calls a) { base = base; told = told; log = record { events = x; issued = a.log.issued; effects = a.log.effects } } in w) e
    ∙ ap (λ (x : List Issued). let w : State = record (state_with s ws queue calls a) { base = base; told = told; log = record { events = events; issued = x; effects = a.log.effects } } in w) i
    ∙ ap (λ (x : List Effect). let w : State = record (state_with s ws queue calls a) { base = base; told = told; log = record { events = events; issued = issued; effects = x } } in w) f
    ∙ ap (λ (x : Option Recovery). let w : State = record { shape = s; words = ws; queue = queue; calls = calls; base = base; told = told; log = record { events = events; issued = issued; effects = effects }; recovery = x } in w) r

module _ (s : Shape) (ws : Words) (queue : Queue) (calls : List (Option UnderWay)) (t : Traced) where
  -- what a step of recovery leaves
  pub left_by_recovery : (r : Recovery) (next : After Recovery (List Told)) (after : Traced) → next ≡ next_recovery (machine (state_with s ws queue calls t)) r
      → after.base ≡ t.base → after.told ≡ t.told → after.log.events ≡ recovery_events t.log.events next → after.log.issued ≡ t.log.issued → after.log.effects ≡ t.log.effects → after.recovery ≡ recovery_left next
      → state_with s (after_one s (recovery_access s.kind r.at) ws) (queue_at_ready queue next) calls after ≡ after_recovery_step (state_with s ws queue calls t) r
  left_by_recovery r next after is b o e i f q =
      let ms : Words = after_one s (recovery_access s.kind r.at) ws in
      state_same s ms (queue_at_ready queue next) calls after t.base t.told (recovery_events t.log.events next) t.log.issued t.log.effects (recovery_left next) b o e i f q
      ∙ ap (λ (n : After Recovery (List Told)). let w : State = record { shape = s; words = ms; queue = queue_at_ready queue n; calls = calls; base = t.base; told = t.told; log = record { events = recovery_events t.log.events n; issued = t.log.issued; effects = t.log.effects }; recovery = recovery_left n } in w) is
