-- Seats that are given in the order of their clients, and handed back from the last on.
use Rattle.std.proofs.Common.{length, ◌≤◌, ◌≡◌, ◌⊎◌, ℕ, ◌+◌, List, [], ◌∷◌, ◌++◌, Some, slice_get, sym, ap, ◌∙◌, inl, inr}
use Rattle.std.proofs.Common.{⊎_elim, length-append, subst}
use Rattle.words.specs.declared.call.Client.{Client}
use Rattle.events.proofs.Facts.{get_push_cases}
use Rattle.session.specs.Sessions.{Sessioned}
use Rattle.workers.specs.Coming.{CameThrough}
use Rattle.workers.specs.Following.{Guarded, IsGuardedWell, beginnings}
use Rattle.workers.specs.Lists.{AreNamed, IsRecorded, events_at}
use Rattle.workers.specs.Seats.{AreSeatsRecorded, AreAllInOrder, AreEmpty}
use Rattle.workers.specs.declared.entry.Entry.{Entry}

-- of all seats these are left, and each of the others has its list among the rows
pub record AreLeft {S : Type 0} (list : S → List Entry) (rows : List (List Entry)) (seats now : List S) : Type 0 where
  pub each : (k : ℕ) (seat : S) → slice_get seats k ≡ Some seat
      → (slice_get now k ≡ Some seat) ⊎ (slice_get rows k ≡ Some (list seat))

abbrev pub client_of : ℕ → Client
client_of k = record { 0 = k }

-- the next client's seat is given
pub order_pushed : {S : Type 0} (client : S → Client) (n : ℕ) (seats : List S) (seat : S)
    → AreAllInOrder client n seats → client seat ≡ record { 0 = n } → AreAllInOrder client (n + 1) (seats ++ seat ∷ [])
order_pushed client n seats seat order is = record {
  all = length-append seats (seat ∷ []) ∙ ap (λ k. k + 1) order.all;
  each = λ k x at. ⊎_elim
      (λ old. order.each k x old)
      (λ new. sym (ap client new.1) ∙ (is ∙ ap client_of (sym order.all ∙ sym new.0)))
      (get_push_cases seats seat k x at);
}

pub empty_pushed : {S : Type 0} (list : S → List Entry) (seats : List S) (seat : S) → AreEmpty list seats
    → list seat ≡ [] → AreEmpty list (seats ++ seat ∷ [])
empty_pushed list seats seat empty is = record {
  each = λ k x at. ⊎_elim (λ old. empty.each k x old) (λ new. sym (ap list new.1) ∙ is)
      (get_push_cases seats seat k x at);
}

-- the last seat that is left is handed back
pub left_popped : {S : Type 0} (client : S → Client) (list : S → List Entry) (clients : ℕ) (rows : List (List Entry))
    (seats was now : List S) (popped : S) → AreAllInOrder client clients seats → AreLeft list rows seats was
    → was ≡ now ++ popped ∷ [] → slice_get rows (client popped).0 ≡ Some (list popped) → AreLeft list rows seats now
left_popped {S} client list clients rows seats was now popped order left is known = record {
  each = λ k seat at. ⊎_elim
      (λ stood. ⊎_elim (λ old. inl old) (λ new. inr (mine k seat at new.1))
      (get_push_cases now popped k seat (subst (λ (l : List S). slice_get l k ≡ Some seat) is stood)))
      (λ row. inr row)
      (left.each k seat at);
}
  where
    mine : (k : ℕ) (seat : S) → slice_get seats k ≡ Some seat → popped ≡ seat → slice_get rows k ≡ Some (list seat)
    mine k seat at same =
        subst (λ (x : S). slice_get rows k ≡ Some (list x)) same
        (subst (λ (c : Client). slice_get rows c.0 ≡ Some (list popped)) (ap client same ∙ order.each k seat at) known)

-- when none is left each seat's list is a row
pub rows_from_none_left : {S : Type 0} (list : S → List Entry) (rows : List (List Entry)) (seats now : List S)
    → AreLeft list rows seats now → now ≡ [] → (k : ℕ) (seat : S) → slice_get seats k ≡ Some seat
    → slice_get rows k ≡ Some (list seat)
rows_from_none_left {S} list rows seats now left none k seat at =
    ⊎_elim
    (λ stood. absurd (gone (subst (λ (l : List S). slice_get l k ≡ Some seat) none stood)))
    (λ row. row)
    (left.each k seat at)
  where
    gone : slice_get [] k ≡ Some seat → ⊥
    gone stood = cc

-- what lies under the lock says of each row what the histories have
pub accounted_by_rows : {S : Type 0} (list : S → List Entry) (clients : ℕ) (first : Sessioned) (g : Guarded) (s : Sessioned)
    (seats : List S) → s ≡ g.session → IsGuardedWell clients first g
    → ((k : ℕ) (seat : S) → slice_get seats k ≡ Some seat → slice_get g.rows k ≡ Some (list seat))
    → AreSeatsRecorded list first seats s
accounted_by_rows list clients first g s seats is well each = record {
  begun = subst (λ (t : Sessioned). (slot : ℕ) → beginnings first g.rotated slot ≤ length (events_at t.broker slot)) (sym is)
      well.followed.begun;
  rotated = g.rotated;
  came = subst (λ (t : Sessioned). CameThrough first.broker g.rotated t.broker) (sym is) well.came;
  each = λ k seat at.
      subst (λ (t : Sessioned). IsRecorded (beginnings first g.rotated) t (client_of k) (list seat)) (sym is)
      (well.followed.each k (list seat) (each k seat at)).recorded;
  named = λ k seat at.
      subst (λ (t : Sessioned). AreNamed t.broker.directory (list seat)) (sym is)
      (well.named k (list seat) (each k seat at));
}
