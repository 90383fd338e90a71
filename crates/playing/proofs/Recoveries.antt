-- Steps of recovery lead and give what the first does and then the rest; one that is refused is the last.
use Rattle.std.proofs.Common.{[], ◌∷◌, ◌≡◌, refl, false, ℕ, suc, ◌<◌, sym, ap, ◌∙◌, arith}
use Rattle.std.specs.Prelude.{Bool, Option, None, Some, Result, Ok, Err}
use Rattle.words.specs.declared.refusal.Refusal.{Refusal}
use Rattle.interleave.specs.State.{State, recover_with, recover_result_with, after_recover, recover_result}
use Rattle.playing.specs.declared.lines.Line.TheVariants.{Refused}
use Rattle.playing.specs.Play.{Play, play_after_recovery_step, recover_then, after_recovery, most_recovery}
use Rattle.playing.specs.Transcript.{ready_lines, recovery_lines}

-- a refused step changes nothing
by_recovery : (w : State) (r : Option _) (refusal : Refusal) → recover_result_with false w r ≡ Err refusal
    → recover_with false w r ≡ w
by_recovery w None refusal is = refl
by_recovery w (Some r) refusal is = absurd (cc)

pub recovery_refused : (w : State) (refusal : Refusal) → recover_result false w ≡ Err refusal → after_recover false w ≡ w
recovery_refused w refusal is = by_recovery w w.recovery refusal is

-- steps of recovery, by what comes of the first
by_first : (more : ℕ) (play : Play) (r : Result Bool Refusal) → recover_result false play.world ≡ r
    → after_recovery (suc more) play
    ≡ recover_then r (after_recovery more (play_after_recovery_step play)) (play_after_recovery_step play) (λ refusal. play)
by_first more play r is =
    ap (λ x. recover_then x (after_recovery more (play_after_recovery_step play)) (play_after_recovery_step play) (λ refusal. play)) is

lines_by_first : (more : ℕ) (play : Play) (r : Result Bool Refusal) → recover_result false play.world ≡ r
    → recovery_lines (suc more) play
    ≡ recover_then r (recovery_lines more (play_after_recovery_step play)) (ready_lines (play_after_recovery_step play))
    (λ refusal. Refused refusal ∷ [])
lines_by_first more play r is =
    ap (λ x.
    recover_then x (recovery_lines more (play_after_recovery_step play)) (ready_lines (play_after_recovery_step play))
    (λ refusal. Refused refusal ∷ [])) is

-- and so is one that is refused
pub ends_refused : (more : ℕ) (play : Play) (refusal : Refusal) → recover_result false play.world ≡ Err refusal
    → after_recovery (suc more) play ≡ play
ends_refused more play refusal is = by_first more play (Err refusal) is

pub gives_refused : (more : ℕ) (play : Play) (refusal : Refusal) → recover_result false play.world ≡ Err refusal
    → recovery_lines (suc more) play ≡ Refused refusal ∷ []
gives_refused more play refusal is = lines_by_first more play (Err refusal) is

-- after one after which recovery goes on, the steps that are left lead where they did with it
pub leads_on : (more : ℕ) (play next : Play) → recover_result false play.world ≡ Ok false → next ≡ play_after_recovery_step play
    → after_recovery more next ≡ after_recovery (suc more) play
leads_on more play next is same = ap (after_recovery more) same ∙ sym (by_first more play (Ok false) is)

-- and give the same lines
pub gives_on : (more : ℕ) (play next : Play) → recover_result false play.world ≡ Ok false → next ≡ play_after_recovery_step play
    → recovery_lines more next ≡ recovery_lines (suc more) play
gives_on more play next is same = ap (recovery_lines more) same ∙ sym (lines_by_first more play (Ok false) is)

-- recovery may need a step
pub some_most : (w : State) → 0 < most_recovery w
unfolding most_recovery
some_most w = omega arith
