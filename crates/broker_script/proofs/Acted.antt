-- A call on a queue of a broker, as a play of that queue alone.
use Rattle.std.proofs.Common.{◌≡◌, ◌≢◌, refl, sym, ap, ap₂, ◌∙◌, subst, ℕ, zero, suc, false, List, [], ◌∷◌, arith}
use Rattle.std.specs.Prelude.{Option, Some, None, Result, Ok, Err, IsSome, IfOk, OnOk, slice_get, slice_index, slice_set, unwrap_or}
use Rattle.words.specs.declared.call.Call.{Call}
use Rattle.words.specs.declared.call.Client.{Client}
use Rattle.words.specs.declared.call.Reply.{Reply}
use Rattle.words.specs.declared.refusal.Refusal.{Refusal}
use Rattle.words.specs.declared.refusal.Refusal.TheVariants.{NoMemory}
use Rattle.persist.specs.Memory.{Words}
use Rattle.directory.specs.UnderWay.{HasDirectory, HaveSameDirectory}
use Rattle.interleave.specs.Rules.{starting, stepping}
use Rattle.interleave.specs.State.{State, step_result}
use Rattle.named.specs.Acting.{IsActAt, IsSameBeside}
use Rattle.named.specs.Brokers.{Brokered, IsWell, world_at}
use Rattle.session.specs.Sessions.{Sessioned}
use Rattle.playing.specs.Play.{Play, play_after_start, play_after_step, steps_with}
use Rattle.playing.specs.Steps.{call_counted, count_after}
use Rattle.playing.specs.declared.lines.Line.{Line}
use Rattle.playing.specs.declared.lines.Line.TheVariants.{Return}
use Rattle.playing.specs.declared.steps.Steps.{Steps}
use Rattle.playing.proofs.Facts.{refused_same}
use Rattle.broker_script.specs.OnQueue.{answer_line, IsAnsweredBy, IsOnlyIn}
use Rattle.broker_script.specs.Play.{Played, no_steps, play_at, steps_at, the_world}
use Rattle.broker_script.proofs.Worlds.{is_world, started_alone, stepped_alone, IsAsAlone}

-- an act, where the broker is that of a play
pub started : (old : Played) (b : Brokered) → b ≡ old.broker → (slot : ℕ) (client : Client) (number : ℕ) (call : Call)
    (result : Result Unit Refusal) (new : Brokered) → IsActAt (starting client number call) slot client b result new
    → IsWell b → old.broker.recovery ≡ None → IsSome (world_at old.broker slot) → result ≢ Err NoMemory
    → IsAsAlone (starting client number call) slot old.broker result new
started old b is slot client number call result new act well ready is_open memory =
    started_alone slot client number call old.broker result new
    (subst (λ (x : Brokered). IsActAt (starting client number call) slot client x result new) is act)
    (subst IsWell is well) ready is_open memory

pub stepped : (old : Played) (b : Brokered) → b ≡ old.broker → (slot : ℕ) (client : Client)
    (result : Result (Option Reply) Refusal) (new : Brokered) → IsActAt (stepping client) slot client b result new
    → IsWell b → old.broker.recovery ≡ None → IsSome (world_at old.broker slot) → result ≢ Err NoMemory
    → IsAsAlone (stepping client) slot old.broker result new
stepped old b is slot client result new act well ready is_open memory =
    stepped_alone slot client old.broker result new
    (subst (λ (x : Brokered). IsActAt (stepping client) slot client x result new) is act)
    (subst IsWell is well) ready is_open memory

-- a refused start leaves the play as it was
pub start_refused : (old new : Played) (slot : ℕ) (client : Client) (number : ℕ) (call : Call) (refusal : Refusal)
    → IsAsAlone (starting client number call) slot old.broker (Err refusal) new.broker → new.steps ≡ old.steps
    → play_at new slot ≡ play_after_start (play_at old slot) client number call
start_refused old new slot client number call refusal alone same =
    ap₂ (λ (w : State) (s : Steps). record { world = w; steps = s }) (is_world new.broker slot _ alone.world)
    (ap (λ (l : List Steps). unwrap_or (slice_get l slot) no_steps) same
    ∙ ap (λ (r : Result Unit Refusal). steps_with client (play_at old slot).steps r) alone.answers)

-- and so does a refused step
pub step_refused : (old new : Played) (slot : ℕ) (client : Client) (refusal : Refusal)
    → IsAsAlone (stepping client) slot old.broker (Err refusal) new.broker → new.steps ≡ old.steps
    → play_at new slot ≡ play_at old slot
step_refused old new slot client refusal alone same =
    ap₂ (λ (w : State) (s : Steps). record { world = w; steps = s })
    (is_world new.broker slot _ alone.world ∙ refused_same (the_world old.broker slot) client refusal (sym alone.answers))
    (ap (λ (l : List Steps). unwrap_or (slice_get l slot) no_steps) same)

-- a step that is made, and counted
pub step_made : (p inside : Played) → inside ≡ p → (s : Sessioned) (new : Played) (slot : ℕ) (client : Client)
    (answer : Option Reply) → IsAsAlone (stepping client) slot p.broker (Ok answer) s.broker
    → steps_at new slot ≡ call_counted 1 client (steps_at inside slot)
    → new ≡ record inside { broker = s.broker; kept = s.kept; steps = new.steps }
    → play_at new slot ≡ play_after_step (play_at p slot) client
step_made p inside is s new slot client answer alone counted made =
    ap₂ (λ (w : State) (steps : Steps). record { world = w; steps = steps })
    (ap (λ (x : Played). the_world x.broker slot) made ∙ is_world s.broker slot _ alone.world)
    (counted ∙ ap (λ (x : Played). call_counted 1 client (steps_at x slot)) is)

-- and its answer
pub step_answered : (p inside : Played) → inside ≡ p → (b : Brokered) (slot : ℕ) (client : Client)
    (answer : Option Reply) (steps : ℕ) (line : Option Line) → IsAsAlone (stepping client) slot p.broker (Ok answer) b
    → steps ≡ count_after 1 (slice_index (steps_at inside slot).calls client.0) → line ≡ answer_line client steps answer
    → IsAnsweredBy (play_at p slot) client line
step_answered p inside is b slot client answer steps line alone counted gives = record {
  answer = answer;
  answered = sym alone.answers;
  is = gives ∙ ap (λ (n : ℕ). answer_line client n answer)
      (counted ∙ ap (λ (x : Played). count_after 1 (slice_index (steps_at x slot).calls client.0)) is);
}

-- the queue is still there
pub still_open : (b : Brokered) (new : Played) (slot : ℕ) (w : State) → new.broker ≡ b → world_at b slot ≡ Some w
    → IsSome (world_at new.broker slot)
still_open b new slot w same is = subst IsSome (sym (ap (λ (x : Brokered). world_at x slot) same ∙ is)) refl

-- nothing but the queue's own
pub only_in : (slot : ℕ) (old new : Played) → IsSameBeside slot old.broker new.broker
    → ((other : ℕ) → other ≢ slot → slice_get new.steps other ≡ slice_get old.steps other)
    → new.creation ≡ old.creation → new.recovery ≡ old.recovery → new.image ≡ old.image → IsOnlyIn slot old new
only_in slot old new beside steps creation recovery image =
    record { beside = beside; steps = steps; creation = creation; recovery = recovery; image = image }

-- what was not written is as it was
pub set_beside : {X : Type 0} (xs : List X) (i : ℕ) (x : X) (k : ℕ) → k ≢ i
    → slice_get (slice_set xs i x) k ≡ slice_get xs k
set_beside [] i x k apart = refl
set_beside (y ∷ xs) zero x zero apart = absurd (apart refl)
set_beside (y ∷ xs) zero x (suc k) apart = refl
set_beside (y ∷ xs) (suc i) x zero apart = refl
set_beside (y ∷ xs) (suc i) x (suc k) apart = set_beside xs i x k (λ e. apart (ap suc e))

-- a call that began, and has made no step
pub start_made : (p inside : Played) → inside ≡ p → (s : Sessioned) (new : Played) (slot : ℕ) (client : Client)
    (number : ℕ) (call : Call) → IsAsAlone (starting client number call) slot p.broker (Ok tt) s.broker
    → steps_at new slot ≡ steps_with client (steps_at inside slot) (Ok tt)
    → new ≡ record inside { broker = s.broker; kept = s.kept; steps = new.steps }
    → play_at new slot ≡ play_after_start (play_at p slot) client number call
start_made p inside is s new slot client number call alone counted made =
    ap₂ (λ (w : State) (steps : Steps). record { world = w; steps = steps })
    (ap (λ (x : Played). the_world x.broker slot) made ∙ is_world s.broker slot _ alone.world)
    (counted ∙ ap (λ (x : Played). steps_with client (steps_at x slot) (Ok tt)) is
    ∙ ap (λ (r : Result Unit Refusal). steps_with client (steps_at p slot) r) alone.answers)

-- an act of a session on one queue, whose steps alone are counted
pub acted_only : (p inside : Played) → inside ≡ p → (s : Sessioned) (new : Played) (slot : ℕ)
    → IsSameBeside slot inside.broker s.broker
    → ((other : ℕ) → other ≢ slot → slice_get new.steps other ≡ slice_get inside.steps other)
    → new ≡ record inside { broker = s.broker; kept = s.kept; steps = new.steps } → IsOnlyIn slot p new
acted_only p inside is s new slot beside others made =
    subst (λ (x : Played). IsOnlyIn slot x new) is
    (only_in slot inside new
    (subst (λ (x : Played). IsSameBeside slot inside.broker x.broker) (sym made) beside) others
    (ap (λ (x : Played). x.creation) made) (ap (λ (x : Played). x.recovery) made) (ap (λ (x : Played). x.image) made))

same_directory : (old mid new : Words) → HaveSameDirectory old mid → HaveSameDirectory mid new → HaveSameDirectory old new
same_directory old mid new one other = record {
  room = other.room;
  cached = λ word below. other.cached word below ∙ one.cached word below;
  kept = λ word below. other.kept word below ∙ one.kept word below;
}

-- some acts on one queue, one after the other
pub only_then : (slot : ℕ) (old mid new : Played) → IsOnlyIn slot old mid → IsOnlyIn slot mid new → IsOnlyIn slot old new
only_then slot old mid new one other = record {
  beside = record {
    counts = other.beside.counts ∙ one.beside.counts;
    other_rooms = λ at apart. other.beside.other_rooms at apart ∙ one.beside.other_rooms at apart;
    others = λ at apart. other.beside.others at apart ∙ one.beside.others at apart;
    directory = other.beside.directory ∙ one.beside.directory;
    creation = other.beside.creation ∙ one.beside.creation;
    recovery = other.beside.recovery ∙ one.beside.recovery;
    directory_words = same_directory old.broker.words mid.broker.words new.broker.words one.beside.directory_words other.beside.directory_words;
  };
  steps = λ at apart. other.steps at apart ∙ one.steps at apart;
  creation = other.creation ∙ one.creation;
  recovery = other.recovery ∙ one.recovery;
  image = other.image ∙ one.image;
}

-- and none
has_directory : (b : Brokered) → IsWell b → HasDirectory b.words
has_directory b well =
    let cached = well.room.cached in
    let kept = well.room.kept in
    record { cached = omega arith; kept = omega arith }

pub only_none : (slot : ℕ) (old : Played) → IsWell old.broker → IsOnlyIn slot old old
only_none slot old well = record {
  beside = record {
    counts = refl;
    other_rooms = λ at apart. refl;
    others = λ at apart. refl;
    directory = refl;
    creation = refl;
    recovery = refl;
    directory_words = record { room = has_directory old.broker well; cached = λ word below. refl; kept = λ word below. refl };
  };
  steps = λ at apart. refl;
  creation = refl;
  recovery = refl;
  image = refl;
}

-- what follows of the value, where there is one
pub on_ok_from : {X E : Type 0} {Q : Type 0} (r : Result X E) (P : X → Type 0) → ((x : X) → P x → Q) → IfOk r P → OnOk r Q
on_ok_from (Ok x) P follows p = follows x p
on_ok_from (Err e) P follows p = tt

-- a step's line is that of an answer
pub record IsLineOf (play : Play) (client : Client) (line : Line) : Type 0 where
  pub reply : Reply
  pub answered : step_result false play.world client ≡ Ok (Some reply)
  pub is : line ≡ Return client reply (count_after 1 (slice_index play.steps.calls client.0))

by_answer : (play : Play) (client : Client) (found : Option Line) (line : Line) (answer : Option Reply)
    → step_result false play.world client ≡ Ok answer
    → found ≡ answer_line client (count_after 1 (slice_index play.steps.calls client.0)) answer → found ≡ Some line
    → IsLineOf play client line
by_answer play client found line None answered is some = absurd (cc)
by_answer play client found line (Some reply) answered is some = record { reply = reply; answered = answered; is = (cc) }

pub answered_some : (play : Play) (client : Client) (found : Option Line) (line : Line) → IsAnsweredBy play client found
    → found ≡ Some line → IsLineOf play client line
answered_some play client found line by some =
    by_answer play client found line by.answer by.answered by.is some

by_none : (play : Play) (client : Client) (found : Option Line) (answer : Option Reply)
    → step_result false play.world client ≡ Ok answer
    → found ≡ answer_line client (count_after 1 (slice_index play.steps.calls client.0)) answer → found ≡ None
    → step_result false play.world client ≡ Ok None
by_none play client found None answered is none = answered
by_none play client found (Some reply) answered is none = absurd (cc)

-- and no line that of none
pub answered_none : (play : Play) (client : Client) (found : Option Line) → IsAnsweredBy play client found → found ≡ None
    → step_result false play.world client ≡ Ok None
answered_none play client found by none = by_none play client found by.answer by.answered by.is none

-- what holds of the value, and beside it, put together
pub all_three : {X E : Type 0} {Q R : Type 0} (r : Result X E) (P : X → Type 0) (S : X → Type 0)
    → ((x : X) → P x → Q → R → S x) → IfOk r P → OnOk r Q → OnOk r R → IfOk r S
all_three (Ok x) P S put p q s = put x p q s
all_three (Err e) P S put p q s = tt
