use Rattle.std.proofs.Common.{◌≡◌, ℕ, false, List, sym, ap, subst, ◌∙◌}
use Rattle.arena.specs.Content.{kept_content}
use Rattle.arena.specs.Shape.{Shape}
use Rattle.sound_words.specs.Told.{tells_by}
use Rattle.protocol.specs.Machine.{Trace}
use Rattle.protocol.specs.Rotated.{empty_trace}
use Rattle.interleave.specs.Core.{CoreState, state_of}
use Rattle.interleave.specs.Holds.{Holds}
use Rattle.interleave.specs.Rotation.{queue_with_told}
use Rattle.interleave.specs.State.{State, kept_tells}
use Rattle.interleave.specs.Trace.{state_with}
use Rattle.interleave.specs.Values.{value_of_place}
use Rattle.interleave.specs.declared.queue.Queue.{Queue}
use Rattle.interleave.proofs.machine.Recoveries.{state_same}
use Rattle.interleave.proofs.order.Rotations.{holds_rotated, quiet_at}
use Rattle.interleave.proofs.lent.Core.begin_anew.Goals as goal

pub returns-clause-world : goal.returns-clause-world
returns-clause-world g c = λ ws is.
    let old : CoreState = c.args.self.now in
    let inside : CoreState = record { shape = c.self.inside.layout; queue = c.self.inside.queue; calls = c.self.inside.calls; trace = c.self.inside.trace } in
    let was : inside ≡ old = c.self.view_is in
    let w : State = state_of old ws in
    let s : Shape = old.shape in
    let told : c.tells-told.result ≡ kept_tells w = c.tells-told.ensures ∙ ap (λ (k : List ℕ). tells_by s (value_of_place s k)) (sym is) in
    let base : c.args.base.items ≡ kept_content s (value_of_place s ws.kept) =
    c.requires.base ∙ ap (λ (k : List ℕ). kept_content s (value_of_place s k)) (sym is) in
    let queue : c.tell.new.self ≡ queue_with_told old.queue (kept_tells w) =
    c.tell.ensures ∙ ap (λ (k : CoreState). queue_with_told k.queue c.copied.result) was ∙ ap (queue_with_told old.queue) (c.copied.ensures ∙ told) in
    let log = c.begin_anew.ensures.log in
    ap (λ (k : CoreState). state_with k.shape ws c.tell.new.self k.calls c.begin_anew.new.self) was
    ∙ ap (λ (q : Queue). state_with s ws q old.calls c.begin_anew.new.self) queue
    ∙ state_same s ws (queue_with_told old.queue (kept_tells w)) old.calls c.begin_anew.new.self (kept_content s (value_of_place s ws.kept)) (kept_tells w) empty_trace.events empty_trace.issued empty_trace.effects old.trace.recovery
    (c.begin_anew.ensures.base ∙ base) (c.begin_anew.ensures.told ∙ told) (ap (λ (l : Trace). l.events) log) (ap (λ (l : Trace). l.issued) log) (ap (λ (l : Trace). l.effects) log)
    (c.begin_anew.ensures.recovery ∙ ap (λ (k : CoreState). k.trace.recovery) was)

pub returns-clause-holds : goal.returns-clause-holds
returns-clause-holds g c = λ ws is holds.
    let w : State = state_of c.args.self.now ws in
    subst Holds (sym (returns-clause-world g c ws is)) (holds_rotated w holds (quiet_at false w (c.requires.quiet ws)))
