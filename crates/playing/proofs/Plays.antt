-- Steps of a call lead and give what the first does and then the rest; one that answers or is refused is the last.
use Rattle.std.proofs.Common.{[], ◌∷◌, ◌⊎◌, inl, inr, ◌≡◌, ◌≢◌, refl, false, ℕ, suc, ◌<◌, ◌+◌, ◌-◌, sym, ap, ◌∙◌, arith, slice_index}
use Rattle.std.specs.Prelude.{Option, None, Some, Result, Ok, Err, OnOk, slice_get}
use Rattle.words.specs.declared.call.Client.{Client}
use Rattle.words.specs.declared.call.Reply.{Reply}
use Rattle.words.specs.declared.refusal.Refusal.{Refusal}
use Rattle.words.specs.declared.refusal.Refusal.TheVariants.{NoMemory}
use Rattle.interleave.specs.Calls.{is_no_memory, waiting_result}
use Rattle.interleave.specs.State.{State, is_down, step_result, step_result_with, step_with, after_step}
use Rattle.playing.specs.Steps.{count_after, call_counted}
use Rattle.playing.specs.Play.{Play, play_after_step, play_then, after_steps}
use Rattle.playing.specs.Transcript.{lines_then, step_lines}
use Rattle.playing.specs.declared.lines.Line.TheVariants.{Return, Refused}
use Rattle.playing.specs.declared.steps.Steps.{Steps}

-- a refusal that is not for want of memory
pub is_another : (X : Type 0) (refusal : Refusal) → refusal ≢ NoMemory → is_no_memory {X = X} (Err refusal) ≡ false
is_another X NoMemory other = absurd (other refl)
is_another X _ other = refl

-- what follows where the end is good
pub where_both : {X E : Type 0} {P Q S : Type 0} (r : Result X E) → OnOk r P → OnOk r Q → (P → Q → S) → OnOk r S
where_both (Ok x) p q leads = leads p q
where_both (Err e) p q leads = tt

-- the other of two, where it is not the first
pub not_first : {P Q : Type 0} → P ⊎ Q → (P → ⊥) → Q
not_first (inl p) other = absurd (other p)
not_first (inr q) other = q

-- what holds anyway holds there
pub always_ok : {X E : Type 0} {P : Type 0} (r : Result X E) → P → OnOk r P
always_ok (Ok x) p = p
always_ok (Err e) p = tt

-- a refused step changes nothing
by_waiting : (w : State) (client : Client) (u : Result _ Refusal) (refusal : Refusal)
    → step_result_with false w u ≡ Err refusal → step_with false w client u ≡ w
by_waiting w client (Ok u) refusal is = absurd (cc)
by_waiting w client (Err e) refusal is = refl

pub refused_same : (w : State) (client : Client) (refusal : Refusal) → step_result false w client ≡ Err refusal
    → after_step false w client ≡ w
refused_same w client refusal is =
    by_waiting w client (waiting_result (is_down w) (slice_get w.calls client.0)) refusal is

-- a step that answers is the last
pub ends_answered : (client : Client) (most done : ℕ) (play : Play) (reply : Reply) → done < most
    → step_result false play.world client ≡ Ok (Some reply)
    → after_steps client (most - done) play ≡ play_after_step play client
ends_answered client most done play reply more is =
    let left : most - done ≡ suc (most - (done + 1)) = omega arith in
    ap (λ n. after_steps client n play) left
    ∙ ap (λ (r : Result (Option Reply) Refusal).
    play_then r (after_steps client (most - (done + 1)) (play_after_step play client)) (play_after_step play client) play) is

pub gives_answered : (client : Client) (most done : ℕ) (play : Play) (reply : Reply) → done < most
    → step_result false play.world client ≡ Ok (Some reply)
    → step_lines client (most - done) play
    ≡ Return client reply (count_after 1 (slice_index play.steps.calls client.0)) ∷ []
gives_answered client most done play reply more is =
    let left : most - done ≡ suc (most - (done + 1)) = omega arith in
    ap (λ n. step_lines client n play) left
    ∙ ap (λ (r : Result (Option Reply) Refusal).
    lines_then client (count_after 1 (slice_index play.steps.calls client.0)) r
    (step_lines client (most - (done + 1)) (play_after_step play client))) is

-- and so is one that is refused
pub ends_refused : (client : Client) (most done : ℕ) (play : Play) (refusal : Refusal) → done < most
    → step_result false play.world client ≡ Err refusal → after_steps client (most - done) play ≡ play
ends_refused client most done play refusal more is =
    let left : most - done ≡ suc (most - (done + 1)) = omega arith in
    ap (λ n. after_steps client n play) left
    ∙ ap (λ (r : Result (Option Reply) Refusal).
    play_then r (after_steps client (most - (done + 1)) (play_after_step play client)) (play_after_step play client) play) is

pub gives_refused : (client : Client) (most done : ℕ) (play : Play) (refusal : Refusal) → done < most
    → step_result false play.world client ≡ Err refusal → step_lines client (most - done) play ≡ Refused refusal ∷ []
gives_refused client most done play refusal more is =
    let left : most - done ≡ suc (most - (done + 1)) = omega arith in
    ap (λ n. step_lines client n play) left
    ∙ ap (λ (r : Result (Option Reply) Refusal).
    lines_then client (count_after 1 (slice_index play.steps.calls client.0)) r
    (step_lines client (most - (done + 1)) (play_after_step play client))) is

-- a step, by what it leaves and what it counts
pub one_step : (client : Client) (play : Play) (world : State) (steps : Steps)
    → world ≡ after_step false play.world client → steps ≡ call_counted 1 client play.steps
    → record { world = world; steps = steps } ≡ play_after_step play client
one_step client play world steps left count = cc

-- after a step that does not answer, the steps that are left lead where they did with it
pub leads_on : (client : Client) (most done : ℕ) (play next : Play) → done < most
    → step_result false play.world client ≡ Ok None → next ≡ play_after_step play client
    → after_steps client (most - (done + 1)) next ≡ after_steps client (most - done) play
leads_on client most done play next more going same =
    let left : most - done ≡ suc (most - (done + 1)) = omega arith in
    ap (λ p. after_steps client (most - (done + 1)) p) same
    ∙ sym (ap (λ n. after_steps client n play) left
    ∙ ap (λ (r : Result (Option Reply) Refusal).
    play_then r (after_steps client (most - (done + 1)) (play_after_step play client)) (play_after_step play client) play) going)

-- and give the same lines
pub gives_on : (client : Client) (most done : ℕ) (play next : Play) → done < most
    → step_result false play.world client ≡ Ok None → next ≡ play_after_step play client
    → step_lines client (most - (done + 1)) next ≡ step_lines client (most - done) play
gives_on client most done play next more going same =
    let left : most - done ≡ suc (most - (done + 1)) = omega arith in
    ap (λ p. step_lines client (most - (done + 1)) p) same
    ∙ sym (ap (λ n. step_lines client n play) left
    ∙ ap (λ (r : Result (Option Reply) Refusal).
    lines_then client (count_after 1 (slice_index play.steps.calls client.0)) r
    (step_lines client (most - (done + 1)) (play_after_step play client))) going)
