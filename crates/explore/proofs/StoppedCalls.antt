-- A call that goes on alone is found with its answer, within the most steps, or not at all.
use Rattle.std.proofs.Common.{◌≡◌, refl, sym, ap, ◌∙◌, arith, ℕ, zero, suc, ◌+◌, ◌<◌, ◌≤◌, false, List, [], ◌∷◌, ◌++◌, ◌-◌, take, length, append_assoc}
use Rattle.std.proofs.lemmas.List.{append-nil, length-take}
use Rattle.std.proofs.lemmas.List.Elements.{All-nil, All-cons, All-append}
use Rattle.std.specs.Prelude.{Option, Some, None, Result, Ok, Err, All}
use Rattle.std.specs.List.{flat_map, range_with_len}
use Rattle.words.specs.declared.call.Client.{Client}
use Rattle.words.specs.declared.call.Reply.{Reply}
use Rattle.words.specs.declared.refusal.Refusal.{Refusal}
use Rattle.interleave.specs.State.{State, new_world, after_acts, after_step, step_result, IsAnsweredAlone}
use Rattle.arena.specs.Shape.{Shape}
use Rattle.words.specs.declared.limits.TheConstants.{MAX_STEPS_ALONE}
use Rattle.protocol.specs.declared.acts.Act.{Act}
use Rattle.playing.specs.Play.{most_alone}
use Rattle.explore.specs.Stopped.{answer_or, answer_alone, lone_answers, alone_after, alone_at}
use Rattle.explore.specs.declared.answers.Alone.{Alone}
use Rattle.playing.proofs.Facts.{first, goes_first}

abbrev one : ℕ → Client → Reply → ℕ → List Alone
one point client reply steps = record { point = point; client = client; reply = reply; steps = steps } ∷ []

-- so many steps more, the last of which answers
answers : (k more made point : ℕ) (w : State) (client : Client) (reply : Reply)
    → IsAnsweredAlone w client (suc k) reply → k < more
    → answer_alone point made more w client ≡ one point client reply (made + suc k)
answers k zero made point w client reply is few = absurd (omega (arith, few))
answers zero (suc more) made point w client reply is few =
    let steps : suc made ≡ made + 1 = omega arith in
    ap (λ r. answer_or point (suc made) client r (answer_alone point (suc made) more (after_step false w client) client)) is
    ∙ ap (one point client reply) steps
answers (suc k) (suc more) made point w client reply is few =
    let v : State = after_step false w client in
    let next : IsAnsweredAlone v client (suc k) reply =
    ap (λ u. step_result false u client) (sym (first k w client)) ∙ is in
    let steps : suc made + suc k ≡ made + suc (suc k) = omega arith in
    ap (λ r. answer_or point (suc made) client r (answer_alone point (suc made) more v client)) (goes_first k w client reply is)
    ∙ answers k more (suc made) point v client reply next (omega (arith, few)) ∙ ap (one point client reply) steps

pub answered : (steps most point : ℕ) (w : State) (client : Client) (reply : Reply) (old new : List Alone)
    → IsAnsweredAlone w client steps reply → steps ≤ most
    → new ≡ old ++ record { point = point; client = client; reply = reply; steps = steps } ∷ []
    → new ≡ old ++ answer_alone point 0 most w client
answered zero most point w client reply old new is few pushed = absurd is
answered (suc k) most point w client reply old new is few pushed =
    let steps : suc k ≡ 0 + suc k = omega arith in
    pushed ∙ ap (λ n. old ++ one point client reply n) steps
    ∙ ap (λ l. old ++ l) (sym (answers k most 0 point w client reply is (omega (arith, few))))

-- where the first step is refused, nothing comes
refused : (most made point : ℕ) (w : State) (client : Client) (refusal : Refusal)
    → step_result false w client ≡ Err refusal → answer_alone point made most w client ≡ []
refused zero made point w client refusal is = refl
refused (suc most) made point w client refusal is =
    ap (λ r. answer_or point (suc made) client r (answer_alone point (suc made) most (after_step false w client) client)) is

pub passed : (most point : ℕ) (w : State) (client : Client) (refusal : Refusal) (old : List Alone)
    → step_result false w client ≡ Err refusal → old ≡ old ++ answer_alone point 0 most w client
passed most point w client refusal old is =
    sym (append-nil old) ∙ ap (λ l. old ++ l) (sym (refused most 0 point w client refusal is))

-- no more steps are made than may be
abbrev HasFew : ℕ → Alone → Type 0
HasFew most alone = alone.steps ≤ most

by_answer : (most steps point : ℕ) (client : Client) (r : Result (Option Reply) Refusal) (going : List Alone)
    → steps ≤ most → All (HasFew most) going → All (HasFew most) (answer_or point steps client r going)
by_answer most steps point client (Ok (Some reply)) going few rest = All-cons (HasFew most) _ [] few (All-nil (HasFew most))
by_answer most steps point client (Ok None) going few rest = rest
by_answer most steps point client (Err refusal) going few rest = All-nil (HasFew most)

few_steps : (more made most point : ℕ) (w : State) (client : Client) → made + more ≤ most
    → All (HasFew most) (answer_alone point made more w client)
few_steps zero made most point w client few = All-nil (HasFew most)
few_steps (suc more) made most point w client few =
    by_answer most (suc made) point client (step_result false w client) _ (omega (arith, few))
    (few_steps more (suc made) most point (after_step false w client) client (omega (arith, few)))

few_of_all : (P : Alone → Type 0) (f : ℕ → List Alone) → ((n : ℕ) → All P (f n)) → (ns : List ℕ) → All P (flat_map f ns)
few_of_all P f each [] = All-nil P
few_of_all P f each (n ∷ ns) = All-append P (f n) (flat_map f ns) (each n) (few_of_all P f each ns)

few_by_client : (point : ℕ) (w : State) (number : ℕ)
    → All (HasFew MAX_STEPS_ALONE) (answer_alone point 0 most_alone w (record { 0 = number }))
unfolding most_alone
few_by_client point w number =
    few_steps MAX_STEPS_ALONE 0 MAX_STEPS_ALONE point w (record { 0 = number }) (omega arith)

few_in : (point : ℕ) (w : State) → All (HasFew MAX_STEPS_ALONE) (lone_answers point w)
few_in point w =
    few_of_all (HasFew MAX_STEPS_ALONE) (λ number. answer_alone point 0 most_alone w (record { 0 = number }))
    (few_by_client point w) (range_with_len 0 w.shape.clients)

pub few_at : (s : Shape) (acts : List (Act ℕ)) (points : List ℕ)
    → All (HasFew MAX_STEPS_ALONE) (flat_map (alone_at s acts) points)
few_at s acts points =
    few_of_all (HasFew MAX_STEPS_ALONE) (alone_at s acts)
    (λ point. few_in point (after_acts (new_world s) (take point acts))) points

-- what was found so far grows by what comes of the next number
pub next_found : (f : ℕ → List Alone) (old new : List Alone) (number end : ℕ) → number < end → new ≡ old ++ f number
    → new ++ flat_map f (range_with_len (number + 1) (end - (number + 1)))
    ≡ old ++ flat_map f (range_with_len number (end - number))
next_found f old new number end here grown =
    let rest : ℕ = end - (number + 1) in
    let left : suc rest ≡ end - number = omega (arith, here) in
    ap (λ l. l ++ flat_map f (range_with_len (number + 1) rest)) grown
    ∙ append_assoc old (f number) (flat_map f (range_with_len (number + 1) rest))
    ∙ ap (λ n. old ++ flat_map f (range_with_len number n)) left

-- until there is none
pub all_found : (f : ℕ → List Alone) (found : List Alone) (number end : ℕ) → end ≤ number
    → found ≡ found ++ flat_map f (range_with_len number (end - number))
all_found f found number end past =
    let none : 0 ≡ end - number = omega (arith, past) in
    sym (append-nil found) ∙ ap (λ n. found ++ flat_map f (range_with_len number n)) none

-- the acts up to a point
pub up_to : (s : Shape) (acts cut : List (Act ℕ)) (point : ℕ) → cut ≡ take point acts → point ≤ length acts
    → alone_after s cut (length cut) ≡ alone_at s acts point
up_to s acts cut point is within =
    let many : length (take point acts) ≡ point = omega (arith, length-take point acts, within) in
    ap (λ l. alone_after s l (length l)) is ∙ ap (alone_after s (take point acts)) many
