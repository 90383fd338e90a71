-- What a session answers, as a line of a player.
use Rattle.std.proofs.Common.{◌≡◌, ◌≢◌, inl, inr, refl, sym, ap, ◌∙◌, subst, ℕ, Bool, true, false, ◌==◌, if◌then◌else◌}
use Rattle.std.specs.Prelude.{Option, Some, None, Result, Ok, Err, is_ok, slice_get}
use Rattle.words.specs.declared.call.Call.{Call}
use Rattle.words.specs.declared.call.Client.{Client}
use Rattle.words.specs.declared.call.Reply.{Reply}
use Rattle.words.specs.declared.refusal.Refusal.{Refusal}
use Rattle.words.specs.declared.refusal.Refusal.TheVariants.{NoMemory, NoRoom}
use Rattle.interleave.specs.State.{State, after_bump_load, after_call_began, after_start, number_to_start, start_result, start_result_with, start_with, used_by}
use Rattle.named.specs.Brokers.{Brokered, IsWell, admission, answer_if, quiet, world_at}
use Rattle.named.specs.GoingOn.{BrokerGoesOn}
use Rattle.named.specs.Slots.{acted, answered}
use Rattle.session.specs.Keeping.{SessionGoesOn}
use Rattle.session.specs.Requests.{IsBegunBy, IsRun, IsServedBy}
use Rattle.session.specs.Sessions.{IsRight, Sessioned, kept_in}
use Rattle.playing.specs.Play.{steps_with}
use Rattle.broker_lines.specs.declared.statements.Ask.{Ask}
use Rattle.broker_lines.specs.declared.statements.Ask.TheVariants.{Begin}
use Rattle.broker_script.specs.Asking.{IsAskedIn, IsAnswered, as_answered, steps_begun}
use Rattle.broker_script.specs.Play.{Played, session_of, steps_at}
use Rattle.broker_script.specs.PutOff.{IsAsBefore, IsPutOff}
use Rattle.broker_script.proofs.PutOffs.{as_before, beside_one, put_off, start_left}

-- a start that was refused changes nothing but the count of accesses
start_unmade : (w : State) (client : Client) (call : Call) (refusal : Refusal) (number : Result ℕ Refusal) (used : Bool)
    → (used_by w client == w.shape.records) ≡ used → start_result_with false w client number ≡ Err refusal
    → quiet (Some (start_with false w client call number)) ≡ quiet (Some w)
start_unmade w client call refusal (Err other) used is refused = refl
start_unmade w client call refusal (Ok number) true is refused =
    ap (λ (b : Bool). quiet (Some (if b then after_bump_load w else after_call_began w client number call))) is
start_unmade w client call refusal (Ok number) false is refused =
    let made : Ok tt ≡ Err refusal =
    sym (ap (λ (b : Bool). let r : Result Unit Refusal = if b then Err NoRoom else Ok tt in r) is) ∙ refused in
    absurd (cc (made))

unmade_in : (client : Client) (number : ℕ) (call : Call) (refusal : Refusal) (o : Option State)
    → answered (λ w. start_result false w client number call) o ≡ Err refusal
    → quiet (acted (λ w. after_start false w client number call) o) ≡ quiet o
unmade_in client number call refusal None refused = refl
unmade_in client number call refusal (Some w) refused =
    start_unmade w client call refusal (number_to_start w client number call) (used_by w client == w.shape.records) refl refused

unmade_at : (client : Client) (number : ℕ) (call : Call) (refusal : Refusal) (a : Result Unit Refusal) (o : Option State)
    → answer_if a (answered (λ w. start_result false w client number call) o) ≡ Err refusal
    → quiet (if is_ok a then acted (λ w. after_start false w client number call) o else o) ≡ quiet o
unmade_at client number call refusal (Err other) o refused = refl
unmade_at client number call refusal (Ok u) o refused = unmade_in client number call refusal o refused

-- a call that was to run to its end, and was refused memory
run_refused : (old new : Brokered) (slot : ℕ) (client : Client) (number : ℕ) (call : Call) → IsWell old → IsWell new
    → IsRun old new slot client number call (Err NoMemory) → IsAsBefore old new
run_refused old new slot client number call well well_now (inl none, room, beside) =
    beside_one slot old new well well_now beside (ap quiet (none.2 slot))
run_refused old new slot client number call well well_now (inr refused, room, beside) =
    beside_one slot old new well well_now beside
    (ap quiet refused.1 ∙ unmade_at client number call NoMemory (admission old client) (world_at old slot) refused.0)

pub served_refused : (old new : Sessioned) (slot : ℕ) (client : Client) (number : ℕ) (call : Call)
    (comes_to : Result (Option Reply) Refusal) → IsWell old.broker → IsWell new.broker
    → IsServedBy old new slot client number call (Err NoMemory) comes_to → IsAsBefore old.broker new.broker
served_refused old new slot client number call (Err refusal) well well_now by =
    subst (λ (s : Sessioned). IsAsBefore old.broker s.broker) (sym by.1) (as_before old.broker)
served_refused old new slot client number call (Ok (Some reply)) well well_now by = absurd (let e = by.0 in cc)
served_refused old new slot client number call (Ok None) well well_now by =
    run_refused old.broker new.broker slot client number call well well_now by

-- and one that was to begin
pub begun_refused : (old new : Sessioned) (slot : ℕ) (client : Client) (number : ℕ) (call : Call)
    (comes_to : Result (Option Reply) Refusal) → IsWell old.broker → IsWell new.broker
    → IsBegunBy old new slot client number call (Err NoMemory) comes_to → IsAsBefore old.broker new.broker
begun_refused old new slot client number call (Err refusal) well well_now by =
    subst (λ (s : Sessioned). IsAsBefore old.broker s.broker) (sym by.1) (as_before old.broker)
begun_refused old new slot client number call (Ok (Some reply)) well well_now by = absurd (let e = by.0 in cc)
begun_refused old new slot client number call (Ok None) well well_now by =
    start_left old.broker new.broker slot client number call well well_now by.0.act.world by.0.beside

-- a refusal is one of the call that was to run to its end
pub was_refused : (r : Result Reply Refusal) (refusal : Refusal) → as_answered r ≡ Err refusal → r ≡ Err refusal
was_refused (Ok reply) refusal is = absurd (cc (is))
was_refused (Err other) refusal is = let same : other ≡ refusal = cc (is) in ap (λ (e : Refusal). Err e) same

-- a player whose session was refused memory
pub ask_put_off : (p inside : Played) → inside ≡ p → (s : Sessioned) → IsAsBefore inside.broker s.broker
    → s.kept ≡ inside.kept → IsPutOff p (record inside { broker = s.broker; kept = s.kept })
ask_put_off p inside is s by kept = put_off p inside is s by (λ at other. ap (λ k. kept_in k at other) kept)

-- what it answered
pub asked_as : (p inside : Played) → inside ≡ p → (s : Sessioned) (slot : ℕ) (ask : Ask)
    (result : Result (Option Reply) Refusal) → IsRight (session_of inside)
    → IsAnswered (session_of inside) s slot ask result → result ≢ Err NoMemory → BrokerGoesOn inside.broker s.broker
    → SessionGoesOn (session_of inside) s → steps_at inside slot ≡ steps_begun ask result (steps_at inside slot)
    → IsAskedIn p slot ask result (record inside { broker = s.broker; kept = s.kept })
asked_as p inside is s slot ask result right answers memory goes_on settled steps =
    subst (λ (x : Played). IsAskedIn x slot ask result (record inside { broker = s.broker; kept = s.kept })) is
    (record {
      right = right;
      answered = answers;
      memory = memory;
      goes_on = goes_on;
      settled = settled;
      steps = steps;
      other_steps = λ other apart. refl;
      others = refl;
    })

-- a call that began, of which no step was made
pub asked_begun : (p inside : Played) → inside ≡ p → (s : Sessioned) (new : Played) (slot : ℕ) (client : Client)
    (number : ℕ) (call : Call) → IsRight (session_of inside)
    → IsAnswered (session_of inside) s slot (Begin client number call) (Ok None) → BrokerGoesOn inside.broker s.broker
    → SessionGoesOn (session_of inside) s → steps_at new slot ≡ steps_with client (steps_at inside slot) (Ok tt)
    → ((other : ℕ) → other ≢ slot → slice_get new.steps other ≡ slice_get inside.steps other)
    → new ≡ record inside { broker = s.broker; kept = s.kept; steps = new.steps }
    → IsAskedIn p slot (Begin client number call) (Ok None) new
asked_begun p inside is s new slot client number call right answers goes_on settled steps others made =
    let same : s ≡ session_of new = sym (ap session_of made) in
    subst (λ (x : Played). IsAskedIn x slot (Begin client number call) (Ok None) new) is
    (record {
      right = right;
      answered = subst (λ (y : Sessioned). IsAnswered (session_of inside) y slot (Begin client number call) (Ok None)) same answers;
      memory = λ e. cc (e);
      goes_on = subst (λ (y : Sessioned). BrokerGoesOn inside.broker y.broker) same goes_on;
      settled = subst (λ (y : Sessioned). SessionGoesOn (session_of inside) y) same settled;
      steps = steps;
      other_steps = others;
      others = made ∙ ap (λ (y : Sessioned). record inside { broker = y.broker; kept = y.kept; steps = new.steps }) same;
    })
