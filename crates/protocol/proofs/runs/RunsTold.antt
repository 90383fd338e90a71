-- What is told after a crash is told by the words that the crash left.
use Rattle.std.proofs.Common.{Option, ◌≡◌, ◌≢◌, ℕ, List, [], ◌∷◌, Some, None, refl, sym, ◌∙◌, ap, subst}
use mathlib.Core.Path.{fun_ext}
use Rattle.words.specs.declared.call.Call.{Call}
use Rattle.words.specs.declared.call.Client.{Client}
use Rattle.words.specs.declared.told.Told.{Told}
use Rattle.arena.specs.Content.{kept_content}
use Rattle.arena.specs.Shape.{Shape}
use Rattle.arena.specs.declared.place.Place.{Place}
use Rattle.sound_words.specs.Sound.{IsSound}
use Rattle.sound_words.specs.Told.{tells_by}
use Rattle.recover.specs.declared.recovery.Recovery.{Recovery}
use Rattle.protocol.specs.Acts.{StaysDown, start_attempt, step_attempt, recovery_attempt, with_act, run, IsReached, KeepAlike}
use Rattle.protocol.specs.declared.acts.Act.{Act}
use Rattle.protocol.specs.declared.acts.Act.TheVariants.{Start, Step, Evict, Crash, Recover}
use Rattle.protocol.specs.Booted.{MayBoot, world_at_boot}
use Rattle.protocol.specs.Down.{IsDown, TellAlike, TellsAfter, WhileDown, WillTell}
use Rattle.protocol.specs.Machine.{World, with_eviction, with_crash}
use Rattle.protocol.specs.declared.UnderWay.{UnderWay}
use Rattle.protocol.proofs.boot.Booted.{boots}
use Rattle.protocol.specs.invariants.Worlds.{Inv}
use Rattle.protocol.proofs.worlds.Facts.{inv_crashed, still_alike, still_alike_evicted, told_are_now, words_sound, words_nowhere, some_clients}
use Rattle.protocol.proofs.told.StillTold.{TellsAlike, alike, alike_more}
use Rattle.protocol.proofs.runs.Runs.{act_kept, run_kept, inv_reached}
use Rattle.protocol.proofs.runs.RunsEnd.{run_shape, reached_shape}

start_alike : (w : World) → w.recovery ≢ None → (client : Client) (number : ℕ) (call : Call) (r : Option Recovery) (u : Option UnderWay) → w.recovery ≡ r
    → TellsAlike w.shape w.memory.kept (start_attempt w client number call r u).memory.kept
start_alike w down client number call None u e = absurd (down e)
start_alike w down client number call (Some r) u e = alike w.shape w.memory.kept

step_alike : (w : World) → w.recovery ≢ None → (client : Client) (r : Option Recovery) (u : Option UnderWay) → w.recovery ≡ r
    → TellsAlike w.shape w.memory.kept (step_attempt w client r u).memory.kept
step_alike w down client None u e = absurd (down e)
step_alike w down client (Some r) u e = alike w.shape w.memory.kept

evict_alike : (w : World) → Inv w → w.recovery ≢ None → (p : Place) (r : Option Recovery) → w.recovery ≡ r
    → TellsAlike w.shape w.memory.kept (with_eviction w p).memory.kept
evict_alike w v down p None e = absurd (down e)
evict_alike w v down p (Some r) e = still_alike_evicted w v r e p

recover_alike : (w : World) → Inv w → w.recovery ≢ None → (r : Option Recovery) → w.recovery ≡ r → TellsAlike w.shape w.memory.kept (recovery_attempt w r).memory.kept
recover_alike w v down None e = absurd (down e)
recover_alike w v down (Some r) e = still_alike w v r e

-- no act changes what the words tell while the queue is down
act_alike : (w : World) → Inv w → w.recovery ≢ None → (act : Act Place) → TellsAlike w.shape w.memory.kept (with_act w act).memory.kept
act_alike w v down (Start client number call) = start_alike w down client number call w.recovery (w.calls client.0) refl
act_alike w v down (Step client) = step_alike w down client w.recovery (w.calls client.0) refl
act_alike w v down (Evict p) = evict_alike w v down p w.recovery refl
act_alike w v down Crash = alike w.shape w.memory.kept
act_alike w v down Recover = recover_alike w v down w.recovery refl

run_alike : (later : List (Act Place)) (w : World) → Inv w → StaysDown IsDown with_act w later → TellsAlike w.shape w.memory.kept (run w later).memory.kept
run_alike [] w v down = alike w.shape w.memory.kept
run_alike (act ∷ acts) w v down =
    let rest : TellsAlike (with_act w act).shape (with_act w act).memory.kept (run (with_act w act) acts).memory.kept =
    run_alike acts (with_act w act) (act_kept w v act).inv down.1 in
    alike_more w.shape w.memory.kept (with_act w act).memory.kept (run (with_act w act) acts).memory.kept (act_alike w v down.0 act)
    (subst (λ x. TellsAlike x (with_act w act).memory.kept (run (with_act w act) acts).memory.kept) (run_shape (act ∷ []) w) rest)

alike_after : (s : Shape) (w : World) → IsReached s w → (later : List (Act Place)) → StaysDown IsDown with_act (with_crash w) later
    → TellsAlike s w.memory.kept (run (with_crash w) later).memory.kept
alike_after s w r later down =
    let v : Inv w = inv_reached s w r in
    subst (λ x. TellsAlike x w.memory.kept (run (with_crash w) later).memory.kept) (reached_shape s w r)
    (run_alike later (with_crash w) (inv_crashed w v) down)

pub still_tells : (s : Shape) (w : World) → IsReached s w → WhileDown (with_crash w) (λ v. tells_by s v.memory.kept ≡ tells_by s w.memory.kept)
still_tells s w r later down = (alike_after s w r later down).tells

pub still_holds : (s : Shape) (w : World) → IsReached s w → WhileDown (with_crash w) (λ v. kept_content s v.memory.kept ≡ kept_content s w.memory.kept)
still_holds s w r later down = (alike_after s w r later down).holds

-- so it is these words that tell each client in the end
pub told_later : (later : List (Act Place)) (w : World) → Inv w → (tells : List Told) → TellsAfter w later tells → tells ≡ tells_by w.shape w.memory.kept
told_later later w v tells t =
    let x : World = run w later in
    told_are_now x (run_kept later w v).inv t.point t.waits tells t.ends
    ∙ ap (λ z. tells_by z x.memory.kept) (run_shape later w)
    ∙ (run_alike later w v t.down).tells

pub told_by_crash : (s : Shape) (w : World) → IsReached s w → WillTell (with_crash w) (tells_by s w.memory.kept)
told_by_crash s w r later tells t =
    told_later later (with_crash w) (inv_crashed w (inv_reached s w r)) tells t ∙ ap (λ z. tells_by z w.memory.kept) (reached_shape s w r)

pub told_alike : (s : Shape) (v w : World) → IsReached s v → IsReached s w → KeepAlike v w → TellAlike (with_crash v) (with_crash w)
told_alike s v w r q same later latest tells telling t u =
    told_by_crash s v r later tells t ∙ ap (tells_by s) (fun_ext same) ∙ sym (told_by_crash s w q latest telling u)

-- a queue that begins on sound words tells what these tell
pub told_by_boot : (s : Shape) (kept : Place → ℕ) → MayBoot s kept → WillTell (world_at_boot s kept (tells_by s kept)) (tells_by s kept)
told_by_boot s kept may later tells t = told_later later (world_at_boot s kept (tells_by s kept)) (boots s kept may) tells t

-- the kept words are sound after any acts
pub kept_sound : (s : Shape) (w : World) → IsReached s w → IsSound s w.memory.kept
kept_sound s w r = subst (λ x. IsSound x w.memory.kept) (reached_shape s w r) (words_sound w (inv_reached s w r))

-- so a queue may begin on them
may_begin : (w : World) → Inv w → MayBoot w.shape w.memory.kept
may_begin w v = record { some = (some_clients w v).0; few = (some_clients w v).1; sound = words_sound w v; nowhere = words_nowhere w v }

pub kept_may_begin : (s : Shape) (w : World) → IsReached s w → MayBoot s w.memory.kept
kept_may_begin s w r = subst (λ x. MayBoot x w.memory.kept) (reached_shape s w r) (may_begin w (inv_reached s w r))

pub booted_may_begin : (s : Shape) (kept : Place → ℕ) (acts : List (Act Place)) → MayBoot s kept → MayBoot s (run (world_at_boot s kept (tells_by s kept)) acts).memory.kept
booted_may_begin s kept acts may =
    let w : World = run (world_at_boot s kept (tells_by s kept)) acts in
    let v : Inv w = (run_kept acts (world_at_boot s kept (tells_by s kept)) (boots s kept may)).inv in
    subst (λ x. MayBoot x w.memory.kept) (run_shape acts (world_at_boot s kept (tells_by s kept))) (may_begin w v)
