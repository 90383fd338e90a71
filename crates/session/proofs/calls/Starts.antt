-- What a start answers is what a request answers that has begun to run.
use Rattle.std.proofs.Common.{◌≡◌, ◌≤◌, ℕ, Option, None, Some, Result, Ok, Err, refl, sym, ap, subst, ◌∙◌}
use Rattle.std.specs.Prelude.{IfErr}
use Rattle.std.specs.Option.{unwrap_or}
use Rattle.words.specs.declared.call.Call.{Call}
use Rattle.words.specs.declared.call.Client.{Client}
use Rattle.words.specs.declared.call.Reply.{Reply}
use Rattle.words.specs.declared.refusal.Refusal.{Refusal}
use Rattle.words.specs.declared.refusal.Refusal.TheVariants.{NoMemory}
use Rattle.interleave.specs.Calls.{is_no_memory}
use Rattle.interleave.specs.State.{State, after_start, start_result}
use Rattle.interleave.specs.Rules.{starting}
use Rattle.named.specs.Acting.{IsActAt, IsSameBeside}
use Rattle.named.specs.Brokers.{Brokered, admission, answer_at, answer_if, room_at, world_after, world_at}
use Rattle.named.specs.Slots.{answered}
use Rattle.session.specs.Requests.{IsBegunBy, IsStarted, as_begun, number_or_zero}
use Rattle.session.specs.Sessions.{Sessioned}

-- whether memory was refused is not a matter of what else would be answered
memory_alike : (X Y : Type 0) (refusal : Refusal) → is_no_memory {X = X} (Err refusal) ≡ is_no_memory {X = Y} (Err refusal)
memory_alike X Y NoMemory = refl
memory_alike X Y _ = refl

same_memory : (r : Result Unit Refusal) → is_no_memory (as_begun r) ≡ is_no_memory r
same_memory (Ok u) = refl
same_memory (Err refusal) = memory_alike (Option Reply) Unit refusal

begun_at : (f : State → Result Unit Refusal) (b : Brokered) (slot : ℕ) (client : Client)
    → as_begun (answer_at f b slot client) ≡ answer_at (λ w. as_begun (f w)) b slot client
begun_at f b slot client = go (admission b client) (world_at b slot)
  where
    go : (r : Result Unit Refusal) (o : Option State)
        → as_begun (answer_if r (answered f o)) ≡ answer_if r (answered (λ w. as_begun (f w)) o)
    go (Err refusal) o = refl
    go (Ok u) None = refl
    go (Ok u) (Some w) = refl

refused_begun : (p : Refusal → Type 0) (r : Result Unit Refusal) → IfErr r p → IfErr (as_begun r) p
refused_begun p (Err refusal) is = is
refused_begun p (Ok u) is = tt

pub started_by : (old new : Brokered) (slot : ℕ) (client : Client) (number : ℕ) (call : Call) (r : Result Unit Refusal)
    → IsActAt (starting client number call) slot client old r new → IsSameBeside slot old new
    → IsStarted old new slot client number call (as_begun r)
started_by old new slot client number call r act beside = record {
  act = record {
    world = act.world ∙ ap (λ x. world_after (λ w. after_start x w client number call) old slot client) (sym (same_memory r));
    answers = ap as_begun act.answers ∙ begun_at (λ w. start_result (is_no_memory r) w client number call) old slot client
        ∙ ap (λ x. answer_at (λ w. as_begun (start_result x w client number call)) old slot client) (sym (same_memory r));
    full = λ e. act.full (sym (same_memory r) ∙ e);
    room = act.room;
    spare = refused_begun (λ e. room_at old slot ≤ room_at new slot) r act.spare;
  };
  beside = beside;
}

pub number_is : (number : Option ℕ) → unwrap_or number 0 ≡ number_or_zero number
number_is (Some number) = refl
number_is None = refl

-- a request that runs has begun, or its start was refused
pub begun_if_runs : (old new : Sessioned) (slot : ℕ) (client : Client) (number : ℕ) (call : Call) (r : Result Unit Refusal)
    (answer : Result (Option Reply) Refusal) → answer ≡ Ok None → IsStarted old.broker new.broker slot client number call (as_begun r)
    → new.kept ≡ old.kept → IsBegunBy old new slot client number call (as_begun r) answer
begun_if_runs old new slot client number call r answer runs started kept =
    subst (IsBegunBy old new slot client number call (as_begun r)) (sym runs) (started, kept)
