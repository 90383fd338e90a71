-- What a world is whose client began a call.
use Rattle.std.proofs.Common.{◌≡◌, ◌+◌, ◌*◌, ℕ, List, [], ◌∷◌, ◌++◌, Option, Some, length, ap, ◌∙◌}
use Rattle.std.specs.Prelude.{slice_set}
use Rattle.words.specs.declared.call.Call.{Call}
use Rattle.words.specs.declared.call.Client.{Client}
use Rattle.words.specs.declared.call.Token.{Token}
use Rattle.persist.specs.Memory.{Words, words_after_access}
use Rattle.arena.specs.Shape.{Shape}
use Rattle.stepper.specs.declared.prepare.Begun.{Begun}
use Rattle.events.specs.declared.event.Event.TheVariants.{Call as call_event}
use Rattle.protocol.specs.Machine.{begun_of}
use Rattle.protocol.specs.declared.UnderWay.{UnderWay}
use Rattle.interleave.specs.Core.{CoreState, call_begun_by, core_with_room, state_of}
use Rattle.interleave.specs.State.{State, after_call_began, machine, used_by}
use Rattle.interleave.specs.Trace.{AddsCall, AddsIssued, Traced, state_with}
use Rattle.interleave.specs.declared.queue.Queue.{Queue}

-- the core noted that this call began: each part of it is the one before, or says so
module _ (old mid new : CoreState) (ws left : Words) (b : Begun) (client : Client) (number : ℕ) (call : Call)
    (same : mid ≡ core_with_room old mid.trace.room) (loaded : left ≡ words_after_access ws)
    (begun : b ≡ begun_of (machine (state_of old ws)) client number call)
    (shape : new.shape ≡ mid.shape) (queue : new.queue ≡ mid.queue)
    (calls : new.calls ≡ slice_set mid.calls b.client.0 (Some (call_begun_by mid b)))
    (base : new.trace.base ≡ mid.trace.base) (told : new.trace.told ≡ mid.trace.told)
    (events : AddsCall b mid.trace new.trace) (issued : AddsIssued b mid.trace new.trace)
    (effects : new.trace.log.effects ≡ mid.trace.log.effects) (recovery : new.trace.recovery ≡ mid.trace.recovery) where
  abbrev noted : CoreState → Begun → Traced
  noted core begun = record {
    base = core.trace.base;
    told = core.trace.told;
    log = record {
      events = core.trace.log.events ++ call_event begun.client begun.number begun.call ∷ [];
      issued = core.trace.log.issued ++ record { place = length core.trace.log.events; begun = begun } ∷ [];
      effects = core.trace.log.effects;
    };
    recovery = core.trace.recovery;
    room = new.trace.room;
  }

  abbrev begins : CoreState → Begun → State
  begins core begun =
      state_with core.shape (words_after_access ws) core.queue
      (slice_set core.calls begun.client.0 (Some (call_begun_by core begun))) (noted core begun)

  trace_is : new.trace ≡ noted mid b
  trace_is =
      ap (λ x. record new.trace { base = x }) base
      ∙ ap (λ x. record new.trace { base = mid.trace.base; told = x }) told
      ∙ ap (λ x. record new.trace { base = mid.trace.base; told = mid.trace.told; log = record new.trace.log { events = x } }) events
      ∙ ap (λ x. record (noted mid b) { log = record (noted mid b).log { issued = x; effects = new.trace.log.effects }; recovery = new.trace.recovery }) issued
      ∙ ap (λ x. record (noted mid b) { log = record (noted mid b).log { effects = x }; recovery = new.trace.recovery }) effects
      ∙ ap (λ x. record (noted mid b) { recovery = x }) recovery

  pub began : state_of new left ≡ after_call_began (state_of old ws) client number call
  began =
      ap (λ (x : Shape). state_with x left new.queue new.calls new.trace) shape
      ∙ ap (λ (x : Words). state_with mid.shape x new.queue new.calls new.trace) loaded
      ∙ ap (λ (x : Queue). state_with mid.shape (words_after_access ws) x new.calls new.trace) queue
      ∙ ap (λ (x : List (Option UnderWay)). state_with mid.shape (words_after_access ws) mid.queue x new.trace) calls
      ∙ ap (state_with mid.shape (words_after_access ws) mid.queue (slice_set mid.calls b.client.0 (Some (call_begun_by mid b)))) trace_is
      ∙ ap (λ (x : CoreState). begins x b) same
      ∙ ap (begins old) begun

-- the record that it takes
pub record_is : (old : CoreState) (ws : Words) (client : Client) (number : ℕ) (call : Call) (used records : ℕ) (token : Token)
    → used ≡ used_by (state_of old ws) client → records ≡ old.shape.records → token.0 ≡ 1 + client.0 * records + used
    → (let b : Begun = record { client = client; used = used; token = token; number = number; call = call } in b)
    ≡ begun_of (machine (state_of old ws)) client number call
record_is old ws client number call used records token used_is records_are token_is =
    ap (λ (n : ℕ). let b : Begun = record { client = client; used = used; token = record { 0 = n }; number = number; call = call } in b)
    (token_is ∙ ap (λ (r : ℕ). 1 + client.0 * r + used) records_are)
    ∙ ap (λ (u : ℕ). let b : Begun = record {
      client = client;
      used = u;
      token = record { 0 = 1 + client.0 * old.shape.records + u };
      number = number;
      call = call;
    } in b) used_is
