-- What clients are told by kept words, case by case.
use Rattle.std.proofs.Common.{◌≡◌, ◌≢◌, ℕ, ◌≤◌, ◌<◌, inl, inr, List, [], ◌∷◌, Some, None, true, false, refl, sym, ◌∙◌, ap, subst}
use Rattle.std.specs.Prelude.{nat_eq}
use Rattle.std.specs.List.{list_any}
use Rattle.std.proofs.lemmas.Bool.{cases_eq, eq-eqb, ne_eqb, lt-ltb, le-ltb}
use Rattle.words.specs.declared.call.Reply.TheVariants.{Done, Got, Empty}
use Rattle.words.specs.declared.told.Outcome.TheVariants.{NotTaken, Taken}
use Rattle.words.specs.declared.told.Row.TheVariants.{Open, Empty as row_empty, Got as row_got}
use Rattle.words.specs.declared.told.Told.TheVariants.{None as told_none}
use Rattle.arena.specs.Shape.{Shape}
use Rattle.arena.specs.Words.{links, marks, values, cells, entry_kinds, statuses, announcements}
use Rattle.arena.specs.Chain.{IsAmong}
use Rattle.arena.specs.Content.{chain_of}
use Rattle.arena.specs.declared.place.Place.{Place}
use Rattle.words.specs.Told.{no_call}
use Rattle.sound_words.specs.Told.{node_claimed_by, row_with, dequeue_outcome, outcome_by, report_on, told_by}
use Rattle.sound_words.specs.Sound.{IsOnChain}

-- links lead to chain nodes alone, and only chain nodes are claimed, each by a token of its own
pub record IsTellable (s : Shape) (kept : Place → ℕ) : Type 0 where
  pub linked : (at : ℕ) → links kept at ≢ 0 → IsOnChain s kept (links kept at)
  pub link : (n : ℕ) → IsOnChain s kept n → (at : ℕ) × (links kept at ≡ n)
  pub claimed : (at : ℕ) → marks kept at ≢ 0 → IsOnChain s kept at
  pub once : (n m : ℕ) → marks kept n ≢ 0 → marks kept n ≡ marks kept m → n ≡ m

first_claimed : (kept : Place → ℕ) (e at : ℕ) (ns : List ℕ) → marks kept at ≡ e → ((n : ℕ) → marks kept n ≡ e → n ≡ at) → IsAmong at ns → node_claimed_by kept e ns ≡ Some at
first_claimed kept e at [] mark once h = absurd h
first_claimed kept e at (n ∷ ns) mark once (inl same) = rw (eq-eqb (marks kept n) e (ap (marks kept) (sym same) ∙ mark)) (ap Some (sym same))
first_claimed kept e at (n ∷ ns) mark once (inr h) =
    elim (cases_eq (marks kept n) e) [
      | inl eq ↦ rw (eq-eqb (marks kept n) e eq) (ap Some (once n eq))
      | inr ne ↦ rw (ne_eqb (marks kept n) e ne) (first_claimed kept e at ns mark once h)
    ]

none_claimed : (kept : Place → ℕ) (e : ℕ) (ns : List ℕ) → ((at : ℕ) → marks kept at ≢ e) → node_claimed_by kept e ns ≡ None
none_claimed kept e [] never = refl
none_claimed kept e (n ∷ ns) never = rw (ne_eqb (marks kept n) e (never n)) (none_claimed kept e ns never)

pub among_any : (x : ℕ) (xs : List ℕ) → IsAmong x xs → list_any (nat_eq x) xs ≡ true
among_any x [] h = absurd h
among_any x (y ∷ ys) (inl e) = rw (eq-eqb x y e) refl
among_any x (y ∷ ys) (inr h) = elim (cases_eq x y) [ inl e ↦ rw (eq-eqb x y e) refl | inr ne ↦ rw (ne_eqb x y ne) (among_any x ys h) ]

pub among_none : (x : ℕ) (xs : List ℕ) → (IsAmong x xs → ⊥) → list_any (nat_eq x) xs ≡ false
among_none x [] h = refl
among_none x (y ∷ ys) h = rw (ne_eqb x y (λ e. h (inl e))) (among_none x ys (λ t. h (inr t)))

-- the token claims this node
pub claimed_is : (s : Shape) (kept : Place → ℕ) → IsTellable s kept → (e at : ℕ) → e ≢ 0 → marks kept at ≡ e → node_claimed_by kept e (chain_of s kept) ≡ Some at
claimed_is s kept c e at some mark =
    let marked : marks kept at ≢ 0 = λ z. some (sym mark ∙ z) in
    first_claimed kept e at (chain_of s kept) mark (λ n eq. sym (c.once at n marked (mark ∙ sym eq))) (c.claimed at marked)

-- an entry of an enqueue
pub told_done : (s : Shape) (kept : Place → ℕ) → IsTellable s kept → (e at : ℕ) → e ≢ 0 → entry_kinds kept e ≡ 1 → links kept at ≡ e → outcome_by s kept e ≡ Taken Done
told_done s kept c e at some kind link =
    let on : IsAmong e (chain_of s kept) = subst (λ x. IsAmong x (chain_of s kept)) link (c.linked at (λ z. some (sym link ∙ z))) in
    rw (eq-eqb (entry_kinds kept e) 1 kind, among_any e (chain_of s kept) on) refl

pub told_not_enqueued : (s : Shape) (kept : Place → ℕ) → IsTellable s kept → (e : ℕ) → entry_kinds kept e ≡ 1 → ((at : ℕ) → links kept at ≢ e) → outcome_by s kept e ≡ NotTaken
told_not_enqueued s kept c e kind never =
    let off : IsAmong e (chain_of s kept) → ⊥ = λ h. (let l : (at : ℕ) × (links kept at ≡ e) = c.link e h in never l.0 l.1) in
    rw (eq-eqb (entry_kinds kept e) 1 kind, among_none e (chain_of s kept) off) refl

-- an entry of a dequeue
pub told_empty : (s : Shape) (kept : Place → ℕ) (e : ℕ) → entry_kinds kept e ≢ 1 → statuses kept e ≡ 2 → outcome_by s kept e ≡ Taken Empty
told_empty s kept e kind status = rw (ne_eqb (entry_kinds kept e) 1 kind, eq-eqb (statuses kept e) 2 status) refl

pub told_got : (s : Shape) (kept : Place → ℕ) → IsTellable s kept → (e at : ℕ) → e ≢ 0 → entry_kinds kept e ≢ 1 → statuses kept e ≢ 2 → marks kept at ≡ e → outcome_by s kept e ≡ Taken (Got (values kept at))
told_got s kept c e at some kind status mark =
    rw (ne_eqb (entry_kinds kept e) 1 kind, ne_eqb (statuses kept e) 2 status) (ap (dequeue_outcome kept) (claimed_is s kept c e at some mark))

pub told_not_dequeued : (s : Shape) (kept : Place → ℕ) (e : ℕ) → entry_kinds kept e ≢ 1 → statuses kept e ≢ 2 → ((at : ℕ) → marks kept at ≢ e) → outcome_by s kept e ≡ NotTaken
told_not_dequeued s kept e kind status never =
    rw (ne_eqb (entry_kinds kept e) 1 kind, ne_eqb (statuses kept e) 2 status) (ap (dequeue_outcome kept) (none_claimed kept e (chain_of s kept) never))

-- a cell
pub row_is_got : (s : Shape) (kept : Place → ℕ) → IsTellable s kept → (e at : ℕ) → e ≢ 0 → marks kept at ≡ e → row_with kept e (node_claimed_by kept e (chain_of s kept)) ≡ row_got (values kept at)
row_is_got s kept c e at some mark = ap (row_with kept e) (claimed_is s kept c e at some mark)

pub row_is_empty : (s : Shape) (kept : Place → ℕ) (e : ℕ) → cells kept e ≡ 1 → ((at : ℕ) → marks kept at ≢ e) → row_with kept e (node_claimed_by kept e (chain_of s kept)) ≡ row_empty
row_is_empty s kept e cell never = ap (row_with kept e) (none_claimed kept e (chain_of s kept) never) ∙ rw (eq-eqb (cells kept e) 1 cell) refl

pub row_is_open : (s : Shape) (kept : Place → ℕ) (e : ℕ) → cells kept e ≢ 1 → ((at : ℕ) → marks kept at ≢ e) → row_with kept e (node_claimed_by kept e (chain_of s kept)) ≡ Open
row_is_open s kept e cell never = ap (row_with kept e) (none_claimed kept e (chain_of s kept) never) ∙ rw (ne_eqb (cells kept e) 1 cell) refl

-- a client that announced nothing, one that did, and nobody
pub told_nothing : (s : Shape) (kept : Place → ℕ) (t : ℕ) → t < s.clients → announcements kept t ≡ 0 → told_by s kept t ≡ no_call s.kind
told_nothing s kept t client none = rw (lt-ltb t s.clients client, eq-eqb (announcements kept t) 0 none) refl

pub told_of : (s : Shape) (kept : Place → ℕ) (t : ℕ) → t < s.clients → announcements kept t ≢ 0 → told_by s kept t ≡ report_on s.kind s kept (announcements kept t)
told_of s kept t client some = rw (lt-ltb t s.clients client, ne_eqb (announcements kept t) 0 some) refl

pub told_nobody : (s : Shape) (kept : Place → ℕ) (t : ℕ) → s.clients ≤ t → told_by s kept t ≡ told_none
told_nobody s kept t past = rw (le-ltb t s.clients past) refl
