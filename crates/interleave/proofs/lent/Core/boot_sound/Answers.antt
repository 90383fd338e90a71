use Rattle.std.proofs.Common.{◌≡◌, ℕ, List, [], Option, None, Some, replicate, sym, subst, ap, ◌∙◌}
use Rattle.words.specs.declared.call.Kind.{Kind}
use Rattle.words.specs.declared.told.Told.{Told}
use Rattle.persist.specs.Memory.{Words, words_after_crash}
use Rattle.arena.specs.Content.{kept_content}
use Rattle.arena.specs.Shape.{Shape}
use Rattle.sound_words.specs.Sound.{AreSoundWords}
use Rattle.sound_words.specs.Kept.{kept_in}
use Rattle.recover.specs.Table.{boot_recovery}
use Rattle.sound_words.specs.Told.{tells_by}
use Rattle.protocol.specs.Machine.{Trace}
use Rattle.protocol.specs.declared.UnderWay.{UnderWay}
use Rattle.interleave.specs.Booted.{queue_at_boot}
use Rattle.interleave.specs.Holds.{Holds}
use Rattle.interleave.specs.Ranges.{WordsFit}
use Rattle.interleave.specs.Trace.{state_with}
use Rattle.interleave.specs.Values.{value_of_place}
use Rattle.interleave.specs.declared.queue.Queue.{Queue}
use Rattle.interleave.proofs.words.Boots.{booted_fit, booted_tells, holds_booted}
use Rattle.interleave.proofs.machine.Recoveries.{state_same}
use Rattle.interleave.proofs.lent.Core.boot_sound.Goals as goal

pub content-requires : goal.content-requires
content-requires g c =
    let s : Shape = c.args.layout in
    let kept : List ℕ = g.K.KeptWords.kept_words c.args.kept.now in
    let ws : Words = record { cached = kept; kept = kept; accesses = 0 } in
    let counts = c.clients-clients.ensures.counts in
    let fit : WordsFit s ws = booted_fit s ws counts.some_client counts.few_clients c.requires in
    record { room = fit.room; fits = fit.kept }

pub returns-clause-booted : goal.returns-clause-booted
returns-clause-booted g c = λ ws is.
    let s : Shape = c.args.layout in
    let counts = c.clients-clients.ensures.counts in
    let sound : AreSoundWords s ws.kept = subst (AreSoundWords s) (sym is) c.requires in
    let tells : List Told = tells_by s (value_of_place s ws.kept) in
    let told : c.tells-told.result ≡ tells =
    c.tells-told.ensures ∙ ap (λ (k : List ℕ). tells_by s (kept_in s k)) (sym is) ∙ booted_tells s ws counts.some_client counts.few_clients sound in
    let queue : c.at_boot-queue.result ≡ queue_at_boot s.kind tells =
    c.at_boot-queue.ensures ∙ ap (λ (k : Kind). queue_at_boot k c.copied.result) c.kind.ensures ∙ ap (queue_at_boot s.kind) (c.copied.ensures ∙ told) in
    let calls : c.none-calls.result ≡ replicate s.clients None = c.none-calls.ensures ∙ ap (λ (n : ℕ). replicate n None) c.clients-clients.ensures.value in
    let base : c.in_ok-base.base.items ≡ kept_content s (value_of_place s ws.kept) =
    c.in_ok-base.ensures.content ∙ ap (λ (k : List ℕ). kept_content s (value_of_place s k)) (sym is) in
    let log = c.booted-trace.ensures.log in
    ap (λ (q : Queue). state_with s (words_after_crash ws) q c.none-calls.result c.booted-trace.result) queue
    ∙ ap (λ (cs : List (Option UnderWay)). state_with s (words_after_crash ws) (queue_at_boot s.kind tells) cs c.booted-trace.result) calls
    ∙ state_same s (words_after_crash ws) (queue_at_boot s.kind tells) (replicate s.clients None) c.booted-trace.result (kept_content s (value_of_place s ws.kept)) tells [] [] [] (Some boot_recovery)
    (c.booted-trace.ensures.base ∙ base) (c.booted-trace.ensures.told ∙ told) (ap (λ (l : Trace). l.events) log) (ap (λ (l : Trace). l.issued) log) (ap (λ (l : Trace). l.effects) log) c.booted-trace.ensures.recovery

pub returns-clause-holds : goal.returns-clause-holds
returns-clause-holds g c = λ ws is.
    let s : Shape = c.args.layout in
    let counts = c.clients-clients.ensures.counts in
    let sound : AreSoundWords s ws.kept = subst (AreSoundWords s) (sym is) c.requires in
    subst Holds (sym (returns-clause-booted g c ws is)) (holds_booted s ws counts.some_client counts.few_clients sound)
