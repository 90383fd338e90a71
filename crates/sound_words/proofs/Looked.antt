-- The walk along the chain that sees which announced records stand there, and what they claim.
use Rattle.std.proofs.Common.{◌≡◌, ◌≢◌, ℕ, suc, ◌-◌, ◌/◌, ◌<◌, inl, inr, Bool, true, false, List, [], ◌∷◌, Some, if◌then◌else◌, ◌==◌, ◌||◌, length, get_or, set, refl, sym, ◌∙◌, ap, subst, arith}
use Rattle.std.specs.Prelude.{nat_eq, slice_index, slice_index_or}
use Rattle.std.specs.List.{list_any}
use Rattle.std.proofs.lemmas.Bool.{cases_eq, eq-eqb, ne_eqb, or_right}
use Rattle.words.specs.declared.call.Kind.{Kind}
use Rattle.words.specs.declared.call.Kind.TheVariants.{Durable, Log}
use Rattle.arena.specs.Shape.{Shape, owner}
use Rattle.arena.specs.Place.{IsClient, IsNode, IsRecord}
use Rattle.arena.specs.Words.{links, marks, announcements}
use Rattle.arena.specs.Chain.{walk}
use Rattle.arena.specs.Content.{chain_of}
use Rattle.arena.specs.declared.form.Form.{Form}
use Rattle.arena.specs.declared.place.Place.{Place}
use Rattle.sound_words.specs.Told.{node_claimed_by}
use Rattle.sound_words.specs.Seen.{node_or, IsSeen, AreSeen, IsNodeNoted, IsClaimNoted}
use Rattle.sound_words.specs.Sound.{IsOwn, IsOnChain, IsClaimOf, AnswersAreSound, ChainIsSoundIn, IsSound}
use Rattle.sound_words.proofs.Chains.{walk_end, walk_next}
use Rattle.sound_words.proofs.Surveys.{in_chain, next_on_chain, record_on_chain, record_of_mark}
use Rattle.sound_words.proofs.Alike.{owner_below}
use Rattle.sound_words.proofs.Tables.{set_cases, placed}

-- a client announces a record of its own
own_of : (k : Kind) (s : Shape) (kept : Place → ℕ) → AnswersAreSound k s kept → (t : ℕ) → IsClient s t → announcements kept t ≢ 0 → IsOwn s kept t (announcements kept t)
own_of Durable s kept h t client some = elim (h.rows t client) [ inl z ↦ absurd (some z) | inr own ↦ own ]
own_of Log s kept h t client some = elim (h.logs t client) [ inl z ↦ absurd (some z) | inr a ↦ a.own ]

pub announced_own : (s : Shape) (kept : Place → ℕ) → IsSound s kept → (t : ℕ) → IsClient s t → announcements kept t ≢ 0 → IsOwn s kept t (announcements kept t)
announced_own s kept h t client some = own_of s.kind s kept h.answers t client some

or_none : (b : Bool) → (b || false) ≡ b
or_none true = refl
or_none false = refl

-- so only a record's owner can have announced it
announced_by : (s : Shape) (kept : Place → ℕ) → IsSound s kept → (t token : ℕ) → IsClient s t → announcements kept t ≢ 0 → announcements kept t ≡ token → t ≡ owner s token
announced_by s kept h t token client some at = sym (announced_own s kept h t client some).owned ∙ ap (owner s) at

-- a record is of a client, and so is the record of a mark
pub owner_of_client : (s : Shape) (record_number records : ℕ) → IsRecord s record_number → records ≡ s.records → (record_number - 1) / records < s.clients
owner_of_client s record_number records r is = subst (λ x. (record_number - 1) / x < s.clients) (sym is) (owner_below s record_number r)

pub mark_of_client : (s : Shape) (kept : Place → ℕ) → IsSound s kept → (node m records : ℕ) → IsRecord s node → m ≡ marks kept node → m ≢ 0 → records ≡ s.records → (m - 1) / records < s.clients
mark_of_client s kept h node m records r at some = owner_of_client s m records (record_of_mark s kept h.chain h.claims node m r at some)

-- a node whose record its owner announced, and one whose record it did not
pub node_noted : (s : Shape) (kept : Place → ℕ) → IsSound s kept → (on_chain : List Bool) (node own : ℕ) → own < length on_chain → own ≡ owner s node → announcements kept own ≡ node → IsNodeNoted s kept node on_chain (set on_chain own true)
node_noted s kept h on_chain node own within owns names = record {
  each = λ t client some. elim (set_cases on_chain own true false within t) [
    | inl p ↦ p.1 ∙ sym (or_right (get_or on_chain t false) (announcements kept t == node) (eq-eqb (announcements kept t) node (ap (announcements kept) p.0 ∙ names)))
    | inr p ↦ rw (ne_eqb (announcements kept t) node (λ e. p.0 (announced_by s kept h t node client some e ∙ sym owns))) (p.1 ∙ sym (or_none (get_or on_chain t false)))
  ];
}

pub node_passed : (s : Shape) (kept : Place → ℕ) → IsSound s kept → (on_chain : List Bool) (node own : ℕ) → own ≡ owner s node → announcements kept own ≢ node → IsNodeNoted s kept node on_chain on_chain
node_passed s kept h on_chain node own owns other = record {
  each = λ t client some.
      rw (ne_eqb (announcements kept t) node (λ e. other (ap (announcements kept) (owns ∙ sym (announced_by s kept h t node client some e)) ∙ e)))
      (sym (or_none (get_or on_chain t false)));
}

-- a claim of a record that its owner announced, of one that it did not, and none
pub claim_noted : (s : Shape) (kept : Place → ℕ) → IsSound s kept → (claimed : List ℕ) (node m own : ℕ) → own < length claimed → m ≡ marks kept node → own ≡ owner s m → announcements kept own ≡ m → IsClaimNoted s kept node claimed (set claimed own node)
claim_noted s kept h claimed node m own within at owns names = record {
  each = λ t client some. elim (placed claimed own node within t) [
    | inl p ↦ rw (eq-eqb (marks kept node) (announcements kept t) (sym at ∙ sym names ∙ ap (announcements kept) (sym p.0))) p.1
    | inr p ↦ rw (ne_eqb (marks kept node) (announcements kept t) (λ e. p.0 (announced_by s kept h t m client some (sym e ∙ sym at) ∙ sym owns))) p.1
  ];
}

pub claim_passed : (s : Shape) (kept : Place → ℕ) → IsSound s kept → (claimed : List ℕ) (node m own : ℕ) → m ≡ marks kept node → own ≡ owner s m → announcements kept own ≢ m → IsClaimNoted s kept node claimed claimed
claim_passed s kept h claimed node m own at owns other = record {
  each = λ t client some.
      rw (ne_eqb (marks kept node) (announcements kept t) (λ e. other (ap (announcements kept) (owns ∙ sym (announced_by s kept h t m client some (sym e ∙ sym at))) ∙ sym e ∙ sym at))) refl;
}

pub no_claim : (s : Shape) (kept : Place → ℕ) (claimed : List ℕ) (node m : ℕ) → m ≡ marks kept node → m ≡ 0 → IsClaimNoted s kept node claimed claimed
no_claim s kept claimed node m at none = record {
  each = λ t client some. rw (ne_eqb (marks kept node) (announcements kept t) (λ e. some (sym e ∙ sym at ∙ none))) refl;
}

-- what is seen of a token so far, where the walk still finds these nodes
pub record IsLookedFor (s : Shape) (kept : Place → ℕ) (token : ℕ) (on_chain : Bool) (claimed : ℕ) (rest : List ℕ) : Type 0 where
  pub node : list_any (nat_eq token) (chain_of s kept) ≡ (on_chain || list_any (nat_eq token) rest)
  pub claim : node_claimed_by kept token (chain_of s kept) ≡ node_or claimed (node_claimed_by kept token rest)
  pub sure : claimed ≢ 0 → IsClaimOf s kept token claimed

looked_for_more : (s : Shape) (kept : Place → ℕ) → IsSound s kept → (token : ℕ) (on_chain : Bool) (claimed next : ℕ) (rest : List ℕ) → token ≢ 0 → IsOnChain s kept next → IsLookedFor s kept token on_chain claimed (next ∷ rest) → IsLookedFor s kept token (on_chain || (token == next)) (if marks kept next == token then next else claimed) rest
looked_for_more s kept h token on_chain claimed next rest some on f =
    let record_next : IsRecord s next = record_on_chain s kept h.chain next on in
    let node : list_any (nat_eq token) (chain_of s kept) ≡ ((on_chain || (token == next)) || list_any (nat_eq token) rest) =
    elim on_chain as (λ b. list_any (nat_eq token) (chain_of s kept) ≡ (b || list_any (nat_eq token) (next ∷ rest)) → list_any (nat_eq token) (chain_of s kept) ≡ ((b || (token == next)) || list_any (nat_eq token) rest)) [ true ↦ λ e. e | false ↦ λ e. e ] f.node in
    elim (cases_eq (marks kept next) token) [
      | inl e ↦ (
          let mine : IsClaimOf s kept token next = record { on_chain = on; mark = e } in
          let first : node_claimed_by kept token (next ∷ rest) ≡ Some next = rw (eq-eqb (marks kept next) token e) refl in
          let past : node_or next (node_claimed_by kept token rest) ≡ Some next = rw (ne_eqb next 0 (λ z. omega (arith, z, record_next.0))) refl in
          let claim : node_claimed_by kept token (chain_of s kept) ≡ Some next =
          elim (cases_eq claimed 0) [
            | inl z ↦ f.claim ∙ rw (eq-eqb claimed 0 z) first
            | inr was ↦ (
                let before : IsClaimOf s kept token claimed = f.sure was in
                let same : claimed ≡ next = h.claims.once claimed next
                (record { on_chain = before.on_chain; marked = λ z. some (sym before.mark ∙ z) })
                (record { on_chain = on; marked = λ z. some (sym e ∙ z) }) (before.mark ∙ sym e) in
                f.claim ∙ rw (ne_eqb claimed 0 was) (ap Some same))
          ] in
          rw (eq-eqb (marks kept next) token e) (record { node = node; claim = claim ∙ sym past; sure = λ _. mine }))
      | inr d ↦ (
          let passed : node_claimed_by kept token (next ∷ rest) ≡ node_claimed_by kept token rest = rw (ne_eqb (marks kept next) token d) refl in
          rw (ne_eqb (marks kept next) token d) (record { node = node; claim = f.claim ∙ ap (node_or claimed) passed; sure = f.sure }))
    ]

-- what is seen of announced records so far
pub record AreLooked (s : Shape) (kept : Place → ℕ) (on_chain : ℕ → Bool) (claimed : ℕ → ℕ) (left node : ℕ) : Type 0 where
  pub at_node : IsNode s node
  pub each : (t : ℕ) → IsClient s t → announcements kept t ≢ 0 → IsLookedFor s kept (announcements kept t) (on_chain t) (claimed t) (walk left (links kept) node)

-- what follows a node is on the chain
pub linked_on_chain : {form : Form} (s : Shape) (kept : Place → ℕ) → ChainIsSoundIn form s kept → (node next : ℕ) → IsNode s node → next ≡ links kept node → next ≢ 0 → IsOnChain s kept next
linked_on_chain s kept c node next here at ne =
    elim (cases_eq node 0) [
      | inl e ↦ subst (IsOnChain s kept) (sym at) (in_chain (links kept) 0 (chain_of s kept) node c.ends (inl e) (λ z. ne (at ∙ z)))
      | inr some ↦ next_on_chain s kept c node next (omega (arith, some), here) at ne
    ]

-- it goes on
pub looked_more : (s : Shape) (kept : Place → ℕ) → IsSound s kept → (on_chain on_after : ℕ → Bool) (claimed claimed_after : ℕ → ℕ) (left less node next : ℕ) → left ≡ suc less → next ≡ links kept node → next ≢ 0 → AreLooked s kept on_chain claimed left node → ((t : ℕ) → IsClient s t → announcements kept t ≢ 0 → on_after t ≡ (on_chain t || (announcements kept t == next))) → ((t : ℕ) → IsClient s t → announcements kept t ≢ 0 → claimed_after t ≡ (if marks kept next == announcements kept t then next else claimed t)) → AreLooked s kept on_after claimed_after less next
looked_more s kept h on_chain on_after claimed claimed_after left less node next e at ne f nodes claims =
    let on : IsOnChain s kept next = linked_on_chain s kept h.chain node next f.at_node at ne in
    let w : walk left (links kept) node ≡ next ∷ walk less (links kept) next = walk_next (links kept) left less node next e (sym at) ne in
    record {
      at_node = (record_on_chain s kept h.chain next on).1;
      each = λ t client some.
          rw (nodes t client some, claims t client some)
          (looked_for_more s kept h (announcements kept t) (on_chain t) (claimed t) next (walk less (links kept) next) some on
          (subst (IsLookedFor s kept (announcements kept t) (on_chain t) (claimed t)) w (f.each t client some)));
    }

-- where the walk finds no more: no node is next, or all are passed
seen_of : (s : Shape) (kept : Place → ℕ) → IsSound s kept → (token : ℕ) (on_chain : Bool) (claimed : ℕ) → IsLookedFor s kept token on_chain claimed [] → IsSeen s kept token on_chain claimed
seen_of s kept h token on_chain claimed f = record {
  node = sym (f.node ∙ or_none on_chain);
  claim = sym f.claim;
  within = elim (cases_eq claimed 0) [ inl z ↦ omega (arith, z) | inr some ↦ (record_on_chain s kept h.chain claimed (f.sure some).on_chain).1 ];
}

looked_all : (s : Shape) (kept : Place → ℕ) → IsSound s kept → (on_chain : List Bool) (claimed : List ℕ) (left node : ℕ) → walk left (links kept) node ≡ [] → AreLooked s kept (λ t. slice_index_or on_chain t false) (λ t. slice_index claimed t) left node → AreSeen s kept on_chain claimed
looked_all s kept h on_chain claimed left node none f = record {
  each = λ t client. record {
    seen = λ some.
        seen_of s kept h (announcements kept t) (slice_index_or on_chain t false) (slice_index claimed t)
        (subst (IsLookedFor s kept (announcements kept t) (slice_index_or on_chain t false) (slice_index claimed t)) none (f.each t client some));
  };
}

pub looked_end : (s : Shape) (kept : Place → ℕ) → IsSound s kept → (on_chain : List Bool) (claimed : List ℕ) (left node next : ℕ) → next ≡ links kept node → next ≡ 0 → AreLooked s kept (λ t. slice_index_or on_chain t false) (λ t. slice_index claimed t) left node → AreSeen s kept on_chain claimed
looked_end s kept h on_chain claimed left node next at none = looked_all s kept h on_chain claimed left node (walk_end (links kept) left node (sym at ∙ none))

pub looked_out : (s : Shape) (kept : Place → ℕ) → IsSound s kept → (on_chain : List Bool) (claimed : List ℕ) (left node : ℕ) → left ≡ 0 → AreLooked s kept (λ t. slice_index_or on_chain t false) (λ t. slice_index claimed t) left node → AreSeen s kept on_chain claimed
looked_out s kept h on_chain claimed left node none = looked_all s kept h on_chain claimed left node (ap (λ k. walk k (links kept) node) none)
