-- A call that goes on alone to its answer goes on as by single steps.
use Rattle.std.proofs.Common.{◌≡◌, ℕ, zero, suc, ◌+◌, ◌-◌, ◌≤◌, ◌<◌, false, true, List, [], ◌∷◌, length, slice_get, slice_index, slice_set, refl, sym, ap, ◌∙◌, arith}
use Rattle.std.proofs.lemmas.Option.{slice_get_within}
use Rattle.std.specs.Prelude.{Bool, Option, Some, None, Result, Ok, Err}
use Rattle.words.specs.declared.call.Client.{Client}
use Rattle.words.specs.declared.call.Reply.{Reply}
use Rattle.words.specs.declared.limits.TheConstants.{MAX_STEPS_ALONE}
use Rattle.words.specs.declared.refusal.Refusal.{Refusal}
use Rattle.words.specs.declared.refusal.Refusal.TheVariants.{Idle}
use Rattle.stepper.specs.declared.resume.After.{After}
use Rattle.stepper.specs.declared.resume.After.TheVariants.{More, Done}
use Rattle.protocol.specs.Machine.{next_of, with_next}
use Rattle.protocol.specs.declared.UnderWay.{UnderWay}
use Rattle.interleave.specs.Calls.{answer_of, waiting_result}
use Rattle.interleave.specs.State.{State, machine, is_down, after_one_access, step_with, step_result, step_result_with, after_step, after_alone, IsAnsweredAlone}
use Rattle.playing.specs.declared.lines.Line.TheVariants.{Return, Refused}
use Rattle.playing.specs.Steps.{count_after, call_counted}
use Rattle.playing.specs.Play.{Play, play_after_step, most_alone, after_steps}
use Rattle.playing.specs.Transcript.{step_lines}
use Rattle.playing.specs.declared.steps.Steps.{Steps}
use Rattle.playing.proofs.Plays.{refused_same, leads_on, gives_on, ends_answered, gives_answered, ends_refused, gives_refused}

get_set : {X : Type 0} (xs : List X) (i : ℕ) (x : X) → i < length xs → slice_get (slice_set xs i x) i ≡ Some x
get_set [] i x h = absurd (omega (arith, h))
get_set (y ∷ xs) zero x h = refl
get_set (y ∷ xs) (suc i) x h = get_set xs i x (omega (arith, h))

index_set : (xs : List ℕ) (i x : ℕ) → i < length xs → slice_index (slice_set xs i x) i ≡ x
index_set [] i x h = absurd (omega (arith, h))
index_set (y ∷ xs) zero x h = refl
index_set (y ∷ xs) (suc i) x h = index_set xs i x (omega (arith, h))

set_set : (xs : List ℕ) (i x z : ℕ) → slice_set (slice_set xs i x) i z ≡ slice_set xs i z
set_set [] i x z = refl
set_set (y ∷ xs) zero x z = refl
set_set (y ∷ xs) (suc i) x z = ap (λ l. y ∷ l) (set_set xs i x z)

length_set : (xs : List ℕ) (i x : ℕ) → length (slice_set xs i x) ≡ length xs
length_set [] i x = refl
length_set (y ∷ xs) zero x = refl
length_set (y ∷ xs) (suc i) x = ap suc (length_set xs i x)

-- counts add up
counts : (n v : ℕ) → count_after n (count_after 1 v) ≡ count_after (suc n) v
counts n v = omega arith

-- a world that refuses a step goes on refusing
stays : (k : ℕ) (w : State) (client : Client) (refusal : Refusal) → step_result false w client ≡ Err refusal
    → after_alone k w client ≡ w
stays zero w client refusal is = refl
stays (suc k) w client refusal is = ap (λ v. after_step false v client) (stays k w client refusal is)
    ∙ refused_same w client refusal is

-- the first of some steps, and then the rest
pub first : (k : ℕ) (w : State) (client : Client)
    → after_alone (suc k) w client ≡ after_alone k (after_step false w client) client
first zero w client = refl
first (suc k) w client = ap (λ v. after_step false v client) (first k w client)

-- once it is answered, the client has no call
answered_idle : (w : State) (client : Client) (reply : Reply) → step_result false w client ≡ Ok (Some reply)
    → step_result false (after_step false w client) client ≡ Err Idle
answered_idle w client reply is = go (is_down w) (slice_get w.calls client.0) refl refl
  where
    said : (d : Bool) (o : Option (Option UnderWay)) → is_down w ≡ d → slice_get w.calls client.0 ≡ o
        → step_result_with false w (waiting_result d o) ≡ Ok (Some reply)
    said d o down here =
        sym (ap (λ (e : Bool). step_result_with false w (waiting_result e o)) down)
        ∙ sym (ap (λ (p : Option (Option UnderWay)). step_result_with false w (waiting_result (is_down w) p)) here)
        ∙ is

    done : (u : UnderWay) (a : After _ _) → is_down w ≡ false → slice_get w.calls client.0 ≡ Some (Some u)
        → next_of (machine w) u ≡ a → answer_of a ≡ Some reply
        → step_result false (after_one_access w client u) client ≡ Err Idle
    done u (More op) up here next told = absurd (cc)
    done u (Done r) up here next told =
        let none : slice_get (after_one_access w client u).calls client.0 ≡ Some None =
        get_set w.calls client.0 (with_next u (next_of (machine w) u))
        (slice_get_within w.calls client.0 (Some u) here) ∙ ap (λ (a : After _ _). Some (with_next u a)) next in
        ap (λ (o : Option (Option UnderWay)).
        step_result_with false (after_one_access w client u) (waiting_result (is_down w) o)) none
        ∙ ap (λ (d : Bool). step_result_with false (after_one_access w client u) (waiting_result d (Some None))) up

    go : (d : Bool) (o : Option (Option UnderWay)) → is_down w ≡ d → slice_get w.calls client.0 ≡ o
        → step_result false (after_step false w client) client ≡ Err Idle
    go d None down here = let told = said d None down here in absurd (cc)
    go true (Some call) down here = let told = said true (Some call) down here in absurd (cc)
    go false (Some None) up here = let told = said false (Some None) up here in absurd (cc)
    go false (Some (Some u)) up here =
        let step : after_step false w client ≡ after_one_access w client u =
        ap (λ (o : Option (Option UnderWay)). step_with false w client (waiting_result (is_down w) o)) here
        ∙ ap (λ (d : Bool). step_with false w client (waiting_result d (Some (Some u)))) up in
        let both = said false (Some (Some u)) up here in
        let told : answer_of (next_of (machine w) u) ≡ Some reply = cc in
        ap (λ v. step_result false v client) step ∙ done u (next_of (machine w) u) up here refl told

-- before the step that answers, none does
pub goes_first : (k : ℕ) (w : State) (client : Client) (reply : Reply)
    → step_result false (after_alone (suc k) w client) client ≡ Ok (Some reply) → step_result false w client ≡ Ok None
goes_first k w client reply last = go (step_result false w client) refl
  where
    go : (r : Result (Option Reply) Refusal) → step_result false w client ≡ r → step_result false w client ≡ Ok None
    go (Ok None) is = is
    go (Ok (Some other)) is =
        let idle = answered_idle w client other is in
        let same : after_alone (suc k) w client ≡ after_step false w client = first k w client
        ∙ stays k (after_step false w client) client Idle idle in
        let bad : Err Idle ≡ Ok (Some reply) = sym idle ∙ ap (λ v. step_result false v client) (sym same) ∙ last in
        absurd (cc)
    go (Err refusal) is =
        let same : after_alone (suc k) w client ≡ w = stays (suc k) w client refusal is in
        let bad : Err refusal ≡ Ok (Some reply) = sym is ∙ ap (λ v. step_result false v client) (sym same) ∙ last in
        absurd (cc)

-- where so many steps alone lead, and what they count
abbrev pub alone : Play → Client → ℕ → Play
alone play client n = record { world = after_alone n play.world client; steps = call_counted n client play.steps }

pub record Alone (play : Play) (client : Client) (n m : ℕ) (reply : Reply) : Type 0 where
  pub leads : after_steps client m play ≡ alone play client n
  pub gives : step_lines client m play ≡ Return client reply (count_after n (slice_index play.steps.calls client.0)) ∷ []

-- counted once and then again
again : (n : ℕ) (client : Client) (steps : Steps) → client.0 < length steps.calls
    → count_after n (slice_index (call_counted 1 client steps).calls client.0)
    ≡ count_after (suc n) (slice_index steps.calls client.0)
again n client steps there =
    let v = slice_index steps.calls client.0 in
    ap (count_after n) (index_set steps.calls client.0 (count_after 1 v) there) ∙ counts n v

counted_on : (n : ℕ) (client : Client) (steps : Steps) → client.0 < length steps.calls
    → call_counted n client (call_counted 1 client steps) ≡ call_counted (suc n) client steps
counted_on n client steps there =
    ap (λ l. record steps { calls = l })
    (set_set steps.calls client.0 (count_after 1 (slice_index steps.calls client.0)) _
    ∙ ap (slice_set steps.calls client.0) (again n client steps there))

next_alone : (play : Play) (client : Client) (k : ℕ) → client.0 < length play.steps.calls
    → alone (play_after_step play client) client (suc k) ≡ alone play client (suc (suc k))
next_alone play client k there =
    ap (λ w. record { world = w; steps = call_counted (suc k) client (call_counted 1 client play.steps) })
    (sym (first (suc k) play.world client))
    ∙ ap (λ s. record { world = after_alone (suc (suc k)) play.world client; steps = s })
    (counted_on (suc k) client play.steps there)

-- a call that is answered after so many steps alone is so within as many single steps or more
pub goes_alone : (client : Client) (n m : ℕ) (play : Play) (reply : Reply) → n ≤ m
    → client.0 < length play.steps.calls → IsAnsweredAlone play.world client n reply → Alone play client n m reply
goes_alone client zero m play reply few there is = absurd is
goes_alone client (suc zero) m play reply few there is =
    let all : m ≡ m - 0 = omega arith in
    record {
      leads = ap (λ j. after_steps client j play) all ∙ ends_answered client m 0 play reply (omega (arith, few)) is;
      gives = ap (λ j. step_lines client j play) all ∙ gives_answered client m 0 play reply (omega (arith, few)) is;
    }
goes_alone client (suc (suc k)) m play reply few there is =
    let all : m ≡ m - 0 = omega arith in
    let none : step_result false play.world client ≡ Ok None = goes_first k play.world client reply is in
    let next = play_after_step play client in
    let rest =
    goes_alone client (suc k) (m - (0 + 1)) next reply (omega (arith, few))
    (omega (
      arith,
      there,
      length_set play.steps.calls client.0
          (count_after 1 (slice_index play.steps.calls client.0)),
    ))
    (ap (λ w. step_result false w client) (sym (first k play.world client)) ∙ is) in
    record {
      leads = ap (λ j. after_steps client j play) all
          ∙ sym (leads_on client m 0 play next (omega (arith, few)) none refl) ∙ rest.leads
          ∙ next_alone play client k there;
      gives = ap (λ j. step_lines client j play) all
          ∙ sym (gives_on client m 0 play next (omega (arith, few)) none refl) ∙ rest.gives
          ∙ ap (λ n. Return client reply n ∷ []) (again (suc k) client play.steps there);
    }

pub few_alone : (n : ℕ) → n ≤ MAX_STEPS_ALONE → n ≤ most_alone
unfolding most_alone
few_alone n few = few

-- and one that is refused leads nowhere
pub refused_leads : (client : Client) (play : Play) (refusal : Refusal)
    → step_result false play.world client ≡ Err refusal → after_steps client most_alone play ≡ play
refused_leads client play refusal is =
    let all : most_alone ≡ most_alone - 0 = omega arith in
    let some : 1 ≤ most_alone = few_alone 1 (omega arith) in
    ap (λ j. after_steps client j play) all ∙ ends_refused client most_alone 0 play refusal (omega (arith, some)) is

pub refused_gives : (client : Client) (play : Play) (refusal : Refusal)
    → step_result false play.world client ≡ Err refusal → step_lines client most_alone play ≡ Refused refusal ∷ []
refused_gives client play refusal is =
    let all : most_alone ≡ most_alone - 0 = omega arith in
    let some : 1 ≤ most_alone = few_alone 1 (omega arith) in
    ap (λ j. step_lines client j play) all ∙ gives_refused client most_alone 0 play refusal (omega (arith, some)) is
