-- What migrated words hold and tell is what the old ones did.
use Rattle.std.proofs.Common.{◌≡◌, ◌≢◌, ℕ, ◌+◌, ◌<◌, ◌≤◌, ◌⊎◌, inl, inr, List, [], ◌∷◌, map, filter, Some, None, if◌then◌else◌, ◌==◌, refl, sym, ◌∙◌, ap, arith}
use Rattle.std.specs.Prelude.{nat_eq, nat_lt}
use Rattle.std.specs.List.{list_any, range_with_len}
use Rattle.std.proofs.lemmas.Bool.{cases_eq, cases_lt, eq-eqb, ne_eqb, lt-ltb, le-ltb}
use mathlib.Core.Path.{fun_ext}
use Rattle.words.specs.PlainQueue.{Value}
use Rattle.words.specs.declared.call.Kind.{Kind}
use Rattle.words.specs.declared.call.Kind.TheVariants.{Durable, Log}
use Rattle.words.specs.declared.call.Reply.TheVariants.{Got, Empty}
use Rattle.words.specs.declared.told.Outcome.{Outcome}
use Rattle.words.specs.declared.told.Outcome.TheVariants.{Taken}
use Rattle.words.specs.declared.told.Row.TheVariants.{Open, Empty as row_empty, Got as row_got}
use Rattle.words.specs.declared.told.Told.{Told}
use Rattle.words.specs.declared.told.Told.TheVariants.{None as told_none, Verdict as told_verdict, Row as told_row}
use Rattle.words.specs.declared.told.Verdict.{Verdict}
use Rattle.arena.specs.Chain.{IsAmong}
use Rattle.arena.specs.Content.{chain_of, content_in}
use Rattle.arena.specs.Shape.{Shape}
use Rattle.arena.specs.Words.{announcements, cells, entry_kinds, item_again, marks, numbers, statuses, value_of}
use Rattle.arena.specs.Words.{values_in}
use Rattle.arena.specs.declared.form.Form.TheVariants.{OfItems, OfValues}
use Rattle.arena.specs.declared.place.Part.TheVariants.{Length, First, Second, Third}
use Rattle.arena.specs.declared.place.Place.{Place}
use Rattle.words.specs.Told.{no_call}
use Rattle.sound_words.specs.Told.{node_claimed_by, row_in, enqueue_outcome, dequeue_outcome_in, outcome_in, report_in}
use Rattle.sound_words.specs.Told.{told_in, tells_in}
use Rattle.sound_words.proofs.Facts.{among_any}
use Rattle.migration.specs.Migrated.{cell_migrated, migrated, part_migrated}
use Rattle.migration.proofs.Values.{value_fits}

-- a cell tells of no value where it did not
cell_still : (cell node : ℕ) → cell < 2 → cell_migrated cell node ≡ cell
cell_still cell node low = rw (lt-ltb cell 2 low) refl

pub cell_named : (cell node : ℕ) → 2 ≤ cell → cell_migrated cell node ≡ node + 2
cell_named cell node high = rw (le-ltb cell 2 high) refl

empty_like : (cell node : ℕ) → (cell_migrated cell node == 1) ≡ (cell == 1)
empty_like cell node = elim (cases_lt cell 2) [
  | inl low ↦ ap (λ x. x == 1) (cell_still cell node low)
  | inr high ↦
      let named : cell_migrated cell node ≢ 1 = λ one. omega (arith, cell_named cell node high, one) in
      ne_eqb (cell_migrated cell node) 1 named ∙ sym (ne_eqb cell 1 (λ one. omega (arith, high, one)))
]

module _ (s : Shape) (k : Place → ℕ) where
  abbrev l : Place → ℕ
  l = migrated s k

  -- a node of the chain has the item of its value
  pub message_like : (n : ℕ) → IsAmong n (chain_of s k) → values_in OfItems l n ≡ values_in OfValues k n
  message_like n on =
      let value : Value = values_in OfValues k n in
      ap (λ b. value_of (part_migrated b value Length) (part_migrated b value First) (part_migrated b value Second) (part_migrated b value Third))
      (among_any n (chain_of s k) on)
      ∙ item_again value (value_fits _)

  -- the node that a token claims
  pub claimed_like : (token : ℕ) (ns : List ℕ) → node_claimed_by l token ns ≡ node_claimed_by k token ns
  claimed_like token [] = refl
  claimed_like token (n ∷ ns) = ap (λ o. if marks k n == token then Some n else o) (claimed_like token ns)

  found : (token : ℕ) (ns : List ℕ)
      → (node_claimed_by k token ns ≡ None) ⊎ record { at : ℕ; is : node_claimed_by k token ns ≡ Some at; among : IsAmong at ns }
  found token [] = inl refl
  found token (n ∷ ns) = elim (cases_eq (marks k n) token) [
    | inl e ↦ inr (record { at = n; is = rw (eq-eqb (marks k n) token e) refl; among = inl refl })
    | inr ne ↦ elim (found token ns) [
      | inl none ↦ inl (rw (ne_eqb (marks k n) token ne) none)
      | inr q ↦ inr (record { at = q.at; is = rw (ne_eqb (marks k n) token ne) q.is; among = inr q.among })
    ]
  ]

  -- rows and outcomes
  row_like : (c : ℕ) → row_in OfItems l c (node_claimed_by l c (chain_of s k)) ≡ row_in OfValues k c (node_claimed_by k c (chain_of s k))
  row_like c = ap (row_in OfItems l c) (claimed_like c (chain_of s k)) ∙ elim (found c (chain_of s k)) [
    | inl none ↦
        ap (row_in OfItems l c) none ∙ ap (λ b. if b then row_empty else Open) (empty_like (cells k c) _) ∙ ap (row_in OfValues k c) (sym none)
    | inr q ↦ ap (row_in OfItems l c) q.is ∙ ap row_got (message_like q.at q.among) ∙ ap (row_in OfValues k c) (sym q.is)
  ]

  dequeued_like : (e : ℕ) → dequeue_outcome_in OfItems l (node_claimed_by l e (chain_of s k)) ≡ dequeue_outcome_in OfValues k (node_claimed_by k e (chain_of s k))
  dequeued_like e = ap (dequeue_outcome_in OfItems l) (claimed_like e (chain_of s k)) ∙ elim (found e (chain_of s k)) [
    | inl none ↦ ap (dequeue_outcome_in OfItems l) none ∙ ap (dequeue_outcome_in OfValues k) (sym none)
    | inr q ↦ ap (dequeue_outcome_in OfItems l) q.is ∙ ap (λ v. Taken (Got v)) (message_like q.at q.among) ∙ ap (dequeue_outcome_in OfValues k) (sym q.is)
  ]

  outcome_like : (e : ℕ) → outcome_in OfItems s l e ≡ outcome_in OfValues s k e
  outcome_like e =
      ap (λ o. if entry_kinds k e == 1 then enqueue_outcome (list_any (nat_eq e) (chain_of s k)) else (if statuses k e == 2 then Taken Empty else o))
      (dequeued_like e)

  report_like : (kind : Kind) (c : ℕ) → report_in OfItems kind s l c ≡ report_in OfValues kind s k c
  report_like Durable c = ap told_row (row_like c)
  report_like Log c = ap (λ (o : Outcome). let v : Verdict = record { number = numbers k c; outcome = o } in told_verdict v) (outcome_like c)

  told_like : (t : ℕ) → told_in OfItems s l t ≡ told_in OfValues s k t
  told_like t =
      ap (λ r. if nat_lt t s.clients then (if announcements k t == 0 then no_call s.kind else r) else told_none)
      (report_like s.kind (announcements k t))

  pub tells_like : tells_in OfItems s l ≡ tells_in OfValues s k
  tells_like = ap (λ (f : ℕ → Told). map f (range_with_len 0 16)) (fun_ext told_like)

  -- the content
  messages_like : (ns : List ℕ) → ((n : ℕ) → IsAmong n ns → IsAmong n (chain_of s k))
      → map (values_in OfItems l) (filter (λ n. marks k n == 0) ns) ≡ map (values_in OfValues k) (filter (λ n. marks k n == 0) ns)
  messages_like [] all = refl
  messages_like (n ∷ ns) all =
      let rest : map (values_in OfItems l) (filter (λ m. marks k m == 0) ns) ≡ map (values_in OfValues k) (filter (λ m. marks k m == 0) ns) =
      messages_like ns (λ m i. all m (inr i)) in
      elim (cases_eq (marks k n) 0) [
        | inl z ↦ rw (eq-eqb (marks k n) 0 z, message_like n (all n (inl refl))) (ap (λ vs. values_in OfValues k n ∷ vs) rest)
        | inr ne ↦ rw (ne_eqb (marks k n) 0 ne) rest
      ]

  pub content_like : content_in OfItems s l ≡ content_in OfValues s k
  content_like = messages_like (chain_of s k) (λ n i. i)
