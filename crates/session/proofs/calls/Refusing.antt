-- Where a client's look at a queue is refused, so is all that it asks of it; and where it is not, the queue's world answers.
use Rattle.std.proofs.Common.{◌≡◌, ℕ, Bool, true, false, is_ok, if◌then◌else◌, List, Option, Some, None, Result, Ok, Err, refl, ap, sym, subst, ◌∙◌, arith}
use Rattle.std.specs.Prelude.{IfOk, IsErr, IsErrAnd, OnErr, OnOk}
use Rattle.words.specs.declared.call.Client.{Client}
use Rattle.words.specs.declared.refusal.Refusal.{Refusal}
use Rattle.words.specs.declared.call.Reply.{Reply}
use Rattle.words.specs.declared.refusal.Refusal.TheVariants.{NoClient, NoQueue, NotReady}
use Rattle.persist.specs.Noted.{IsNoted, answer_in, change_in}
use Rattle.persist.specs.declared.access.Noted.{Noted}
use Rattle.interleave.specs.Calls.{is_no_memory}
use Rattle.interleave.specs.Rules.{stepping}
use Rattle.interleave.specs.State.{State}
use Rattle.named.specs.Brokers.{Brokered, IsWell, admission, answer_at, answer_if, has_client, is_down, world_at}
use Rattle.named.specs.Looking.{look_at}
use Rattle.named.specs.Slots.{acted, answered}
use Rattle.named.proofs.Facts.{directory_as_it_was}
use Rattle.named.specs.declared.looks.Look.{Look}
use Rattle.session.specs.Requests.{IsAdvanced}

-- what a call says that passes on why another was refused
pub passed_on : {T : Type 0} (r : Result T Refusal) (e : Refusal) → IsErr r × IsErrAnd r (λ y. y ≡ e) → r ≡ Err e
passed_on (Ok x) e is = absurd (cc (is.0))
passed_on (Err y) e is = ap Err is.1

pub same_refusal : {T : Type 0} (a b : Refusal) → (let r : Result T Refusal = Err a in r) ≡ Err b → a ≡ b
same_refusal a b same = cc (same)

pub not_done : {T : Type 0} (P : Type 0) (r : Result T Refusal) (e : Refusal) → IsErr r × IsErrAnd r (λ y. y ≡ e) → OnOk r P
not_done P (Ok x) e is = absurd (cc (is.0))
not_done P (Err y) e is = tt

pub refused_too : {T A : Type 0} (f : State → T) (g : State → Result A Refusal) (b : Brokered) (slot : ℕ) (client : Client) (e : Refusal)
    → (let x : Result T Refusal = Err e in x) ≡ answer_at (λ w. let r : Result T Refusal = Ok (f w) in r) b slot client
    → (let y : Result A Refusal = Err e in y) ≡ answer_at g b slot client
refused_too {T} {A} f g b slot client e refused = go (admission b client) (world_at b slot) refused
  where
    go : (r : Result Unit Refusal) (o : Option State)
        → (let x : Result T Refusal = Err e in x) ≡ answer_if r (answered (λ w. let r : Result T Refusal = Ok (f w) in r) o)
        → (let y : Result A Refusal = Err e in y) ≡ answer_if r (answered g o)
    go (Err other) o is = let same : e ≡ other = cc (is) in ap (λ (x : Refusal). let y : Result A Refusal = Err x in y) same
    go (Ok u) None is = let same : e ≡ NoQueue = cc (is) in ap (λ (x : Refusal). let y : Result A Refusal = Err x in y) same
    go (Ok u) (Some w) is = absurd (cc (is))

-- a step is refused so, and nothing was done
abbrev stopped : Refusal → Result (Option Reply) Refusal
stopped e = Err e

pub not_advanced : {T : Type 0} (f : State → T) (b : Brokered) (slot : ℕ) (client : Client) (e : Refusal) → IsWell b
    → (let x : Result T Refusal = Err e in x) ≡ answer_at (λ w. let r : Result T Refusal = Ok (f w) in r) b slot client
    → IsAdvanced b b slot client (Err e)
not_advanced {T} f b slot client e well refused = record {
  act = record {
    world = nothing_after (admission b client) (world_at b slot) refused;
    answers = refused_too f ((stepping client).answers (is_no_memory (stopped e))) b slot client e refused;
    full = λ full. absurd (cc (full, not_for_memory (has_client b client) (is_down b) (world_at b slot) refused));
    room = omega arith;
    spare = omega arith;
  };
  stays = λ went. absurd (cc (went));
  beside = record {
    counts = refl;
    other_rooms = λ other ne. refl;
    others = λ other ne. refl;
    directory = refl;
    creation = refl;
    recovery = refl;
    directory_words = directory_as_it_was b b well refl;
  };
}
  where
    nothing_after : (r : Result Unit Refusal) (o : Option State)
        → (let x : Result T Refusal = Err e in x) ≡ answer_if r (answered (λ w. let r : Result T Refusal = Ok (f w) in r) o)
        → o ≡ (if is_ok r then acted ((stepping client).leaves (is_no_memory (stopped e))) o else o)
    nothing_after (Err other) o is = refl
    nothing_after (Ok u) None is = refl
    nothing_after (Ok u) (Some w) is = absurd (cc (is))

    not_for_memory : (there down : Bool) (o : Option State)
        → (let x : Result T Refusal = Err e in x)
        ≡ answer_if (if there then (if down then Err NotReady else Ok tt) else Err NoClient) (answered (λ w. let r : Result T Refusal = Ok (f w) in r) o)
        → is_no_memory (stopped e) ≡ false
    not_for_memory false down o is = let same : NoClient ≡ e = cc (is) in subst (λ (x : Refusal). is_no_memory (stopped x) ≡ false) same refl
    not_for_memory true true o is = let same : NotReady ≡ e = cc (is) in subst (λ (x : Refusal). is_no_memory (stopped x) ≡ false) same refl
    not_for_memory true false None is = let same : NoQueue ≡ e = cc (is) in subst (λ (x : Refusal). is_no_memory (stopped x) ≡ false) same refl
    not_for_memory true false (Some w) is = absurd (cc (is))

pub answered_by : {A : Type 0} (g : State → Result A Refusal) (b : Brokered) (slot : ℕ) (client : Client) (w : State)
    → world_at b slot ≡ Some w → admission b client ≡ Ok tt → answer_at g b slot client ≡ g w
answered_by g b slot client w here admitted =
    ap (λ (a : Result Unit Refusal). answer_if a (answered g (world_at b slot))) admitted ∙ ap (answered g) here

pub looked : (look : Look) (b : Brokered) (slot : ℕ) (client : Client) (w : State) → world_at b slot ≡ Some w → admission b client ≡ Ok tt
    → (let x : Result Look Refusal = Ok look in x) ≡ answer_at (λ w. let r : Result Look Refusal = Ok (look_at client w) in r) b slot client
    → look ≡ look_at client w
looked look b slot client w here admitted is =
    let both : (let x : Result Look Refusal = Ok look in x) ≡ Ok (look_at client w) =
    is ∙ answered_by (λ w. let r : Result Look Refusal = Ok (look_at client w) in r) b slot client w here admitted in
    cc (both)

pub nothing : {T : Type 0} (Q : T → Type 0) (r : Result T Refusal) (e : Refusal) → IsErr r × IsErrAnd r (λ y. y ≡ e) → IfOk r Q
nothing Q (Ok x) e is = absurd (cc (is.0))
nothing Q (Err y) e is = tt

pub left : {T : Type 0} (P : Type 0) (r : Result T Refusal) → P → OnErr r P
left P (Ok x) holds = tt
left P (Err y) holds = holds

module _ {T : Type 0} where
  pub answered_so : (r : Result (Noted T) Refusal) (e : Refusal) → IsErr r × IsErrAnd r (λ y. y ≡ e) → answer_in r ≡ Err e
  answered_so (Ok x) e is = absurd (cc (is.0))
  answered_so (Err y) e is = ap Err is.1

  pub noted_as : (r : Result (Noted T) Refusal) (e : Refusal) (old new : List ℕ) → IsErr r × IsErrAnd r (λ y. y ≡ e) → IsNoted None old new
      → IsNoted (change_in r) old new
  noted_as (Ok x) e old new is noted = absurd (cc (is.0))
  noted_as (Err y) e old new is noted = noted

  -- it answered nothing, or this and nothing else
  pub answers_none : (r : Result (Noted T) Refusal) (e : Refusal) (x : T) → r ≡ Err e → answer_in r ≡ Ok x → ⊥
  answers_none (Ok noted) e x is answer = cc (is)
  answers_none (Err y) e x is answer = cc (answer)

  pub answers_this : (r : Result (Noted T) Refusal) (noted : Noted T) (x y : T) → r ≡ Ok noted → noted.answer ≡ x → answer_in r ≡ Ok y → x ≡ y
  answers_this r noted x y is this answer =
      let same : (let a : Result T Refusal = Ok noted.answer in a) ≡ Ok y = sym (ap answer_in is) ∙ answer in
      cc (same, this)
