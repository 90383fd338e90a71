use Rattle.std.proofs.Common.{◌<◌, ◌≤◌, ◌≡◌, length, Some, None, slice_get, slice_index_or, slice_set, refl, sym, ap, subst, ◌∙◌, arith}
use Rattle.std.specs.Option.{option_copied}
use Rattle.persist.specs.Memory.{Words}
use Rattle.std.proofs.lemmas.Option.{slice_get_within}
use Rattle.protocol.specs.Machine.{effects_after, with_next}
use Rattle.protocol.specs.declared.UnderWay.{UnderWay}
use Rattle.interleave.specs.Core.{CoreState, machine_over}
use Rattle.interleave.specs.Stepped.{IsSteppedBy}
use Rattle.interleave.proofs.machine.Calls.{call_at, of_call, the_call}
use Rattle.interleave.proofs.machine.Effects.{noted_is}
use Rattle.interleave.proofs.words.Ranges.{call_fits, next_is, IsSafe-stepped}
use Rattle.interleave.proofs.lent.Core.advance.Goals as goal

pub step_at-stepped-requires-clause-point : goal.step_at-stepped-requires-clause-point
step_at-stepped-requires-clause-point g c =
    let here = call_at c.args.self.now.calls c.args.client.0 c.in-Some.under_way.now (sym c.call_of.ensures ∙ ap option_copied c.in-Some.is) in
    (call_fits c.args.self.now.shape _ c.args.self.now.calls c.args.client.0 _ c.requires.safe here).point

pub note-requires-clause-fit : goal.note-requires-clause-fit
note-requires-clause-fit g c =
    let here = call_at c.args.self.now.calls c.args.client.0 c.in-Some.under_way.now (sym c.call_of.ensures ∙ ap option_copied c.in-Some.is) in
    let fits = call_fits c.args.self.now.shape _ c.args.self.now.calls c.args.client.0 _ c.requires.safe here in
    rw c.step_at-stepped.ensures.one_access (IsSafe-stepped _ _ _ c.in-Some.under_way.now fits c.requires.safe).words

pub note-requires-clause-room : goal.note-requires-clause-room
note-requires-clause-room g c =
    let s = c.args.self.now.shape in
    let t = c.args.self.now.trace in
    let u : UnderWay = c.in-Some.under_way.now in
    let there : slice_index_or c.args.self.now.calls c.args.client.0 None ≡ Some u = sym c.call_of.ensures ∙ ap option_copied c.in-Some.is in
    let fits = call_fits c.args.self.now.shape _ c.args.self.now.calls c.args.client.0 _ c.requires.safe (call_at c.args.self.now.calls c.args.client.0 u there) in
    let words = c.requires.safe.words in
    let next = next_is s (g.M.WordMemory.words c.args.memory.now) c.args.self.now.calls t.base t.told t.log u fits c.requires.safe in
    let effects = noted_is s (g.M.WordMemory.words c.args.memory.now) c.args.self.now.calls t.base t.told t.log u fits.point (omega (arith, words.room, words.same)) in
    let room = the_call c.args.self.now.calls c.args.client u (λ call.
    length (effects_after (machine_over c.args.self.now (g.M.WordMemory.words c.args.memory.now)) call call.op) ≤ length t.log.events) there c.requires.effects in
    rw (c.step_at-stepped.ensures.one_access, c.step_at-stepped.ensures.next, c.step_at-stepped.ensures.change, c.looking-looking.ensures, next, effects) room

pub go_on-requires-clause-client : goal.go_on-requires-clause-client
go_on-requires-clause-client g c =
    let here = call_at c.args.self.now.calls c.args.client.0 c.in-Some.under_way.now (sym c.call_of.ensures ∙ ap option_copied c.in-Some.is) in
    subst (λ (k : CoreState). c.args.client.0 < length k.calls) (sym c.note.ensures) (slice_get_within _ _ _ here)

pub returns-clause-step : goal.returns-clause-step
returns-clause-step g c =
    let s = c.args.self.now.shape in
    let t = c.args.self.now.trace in
    let u : UnderWay = c.in-Some.under_way.now in
    let there : slice_index_or c.args.self.now.calls c.args.client.0 None ≡ Some u = sym c.call_of.ensures ∙ ap option_copied c.in-Some.is in
    let here = call_at c.args.self.now.calls c.args.client.0 u there in
    let fits = call_fits s _ c.args.self.now.calls c.args.client.0 _ c.requires.safe here in
    let words = c.requires.safe.words in
    let ws : Words = g.M.WordMemory.words c.args.memory.now in
    let next = next_is s ws c.args.self.now.calls t.base t.told t.log u fits c.requires.safe in
    let effects = noted_is s ws c.args.self.now.calls t.base t.told t.log u fits.point (omega (arith, words.room, words.same)) in
    of_call c.args.self.now.calls c.args.client u (λ call. IsSteppedBy call c.args.client c.args.self.now ws c.go_on.new.self (g.M.WordMemory.words c.step_at-stepped.new.memory) (record { answer = c.go_on.result; change = c.step_at-stepped.result.change })) there
    (record {
      words = c.step_at-stepped.ensures.one_access;
      calls = c.go_on.ensures.calls u (ap (λ (k : CoreState). slice_get k.calls c.args.client.0) c.note.ensures ∙ here)
          ∙ ap (λ (k : CoreState). slice_set k.calls c.args.client.0 (with_next u c.step_at-stepped.result.after)) c.note.ensures
          ∙ rw (c.step_at-stepped.ensures.next, next) refl;
      log = c.go_on.ensures.log ∙ rw (c.note.ensures, c.step_at-stepped.ensures.one_access, c.step_at-stepped.ensures.next, c.step_at-stepped.ensures.change, c.looking-looking.ensures, next, effects) refl;
      answer = c.go_on.ensures.answer ∙ rw (c.step_at-stepped.ensures.next, next) refl;
      change = c.step_at-stepped.ensures.change;
    })
