-- What sound words hold and tell does not depend on places that the layout does not have.
use Rattle.std.proofs.Common.{◌≡◌, ◌≢◌, ℕ, ◌<◌, ◌⊎◌, inl, inr, List, [], ◌∷◌, map, filter, Some, None, if◌then◌else◌, ◌==◌, refl, sym, ◌∙◌, ap}
use Rattle.std.specs.Prelude.{nat_eq}
use Rattle.std.specs.List.{list_any, range_with_len}
use Rattle.std.proofs.lemmas.Bool.{cases_eq, cases_lt, eq-eqb, ne_eqb}
use mathlib.Core.Path.{fun_ext}
use Rattle.words.specs.declared.call.Kind.{Kind}
use Rattle.words.specs.declared.call.Kind.TheVariants.{Durable, Log}
use Rattle.words.specs.declared.call.Reply.TheVariants.{Got, Empty}
use Rattle.words.specs.declared.told.Outcome.{Outcome}
use Rattle.words.specs.declared.told.Outcome.TheVariants.{Taken}
use Rattle.words.specs.declared.told.Row.TheVariants.{Open, Empty as row_empty, Got as row_got}
use Rattle.words.specs.declared.told.Told.{Told}
use Rattle.words.specs.declared.told.Told.TheVariants.{Verdict as told_verdict, Row as told_row}
use Rattle.words.specs.declared.told.Verdict.{Verdict}
use Rattle.arena.specs.Shape.{Shape}
use Rattle.arena.specs.Place.{IsPlace, IsNode, IsRecord}
use Rattle.arena.specs.Words.{marks, part_at, values, numbers, entry_kinds, statuses, announcements}
use Rattle.arena.specs.Chain.{IsAmong}
use Rattle.arena.specs.Content.{chain_of, kept_content}
use Rattle.arena.specs.declared.place.Part.{Part}
use Rattle.arena.specs.declared.place.Part.TheVariants.{Length, First, Second, Third}
use Rattle.arena.specs.declared.place.Place.{Place}
use Rattle.arena.specs.declared.place.Place.TheVariants.{Announcement, Item, Mark, Cell, Number, EntryKind, Status}
use Rattle.sound_words.specs.Sound.{AnswersAreSound, IsSound}
use Rattle.sound_words.specs.Told.{node_claimed_by, row_with, enqueue_outcome, dequeue_outcome, outcome_by, report_on, told_by, tells_by}
use Rattle.sound_words.proofs.Alike.{chain_like}
use Rattle.sound_words.proofs.Surveys.{record_on_chain}
use Rattle.sound_words.proofs.ToldBy.{told_nothing, told_of, told_nobody}

-- an announced record
announced_record : (kind : Kind) (s : Shape) (k : Place → ℕ) → AnswersAreSound kind s k → (t : ℕ) → t < s.clients → announcements k t ≢ 0
    → IsRecord s (announcements k t)
announced_record Durable s k a t lt some = elim (a.rows t lt) [ inl z ↦ absurd (some z) | inr own ↦ own.issued.is_record ]
announced_record Log s k a t lt some = elim (a.logs t lt) [ inl z ↦ absurd (some z) | inr one ↦ one.own.issued.is_record ]

-- l has the words of k at the places of the layout
module _ (s : Shape) (k l : Place → ℕ) (same : (p : Place) → IsPlace s p → l p ≡ k p) (h : IsSound s k) where
  chains : chain_of s l ≡ chain_of s k
  chains = chain_like s k l same h

  node : (n : ℕ) → IsAmong n (chain_of s k) → IsNode s n
  node n i = (record_on_chain s k h.chain n i).1

  mark : (n : ℕ) → IsNode s n → marks l n ≡ marks k n
  mark n i = same (Mark (record { 0 = n })) i

  part : (n : ℕ) (p : Part) → IsNode s n → part_at l n p ≡ part_at k n p
  part n p i = same (Item (record { 0 = n }) p) i

  value : (n : ℕ) → IsNode s n → values l n ≡ values k n
  value n i = cc (part n Length i, part n First i, part n Second i, part n Third i)

  -- the node that a token claims
  claimed_like : (c : ℕ) (ns : List ℕ) → ((n : ℕ) → IsAmong n ns → IsNode s n) → node_claimed_by l c ns ≡ node_claimed_by k c ns
  claimed_like c [] all = refl
  claimed_like c (n ∷ ns) all =
      ap (λ m. if m == c then Some n else node_claimed_by l c ns) (mark n (all n (inl refl)))
      ∙ ap (λ o. if marks k n == c then Some n else o) (claimed_like c ns (λ m i. all m (inr i)))

  claimed_now : (c : ℕ) → node_claimed_by l c (chain_of s l) ≡ node_claimed_by k c (chain_of s k)
  claimed_now c = ap (node_claimed_by l c) chains ∙ claimed_like c (chain_of s k) node

  found : (c : ℕ) (ns : List ℕ) → (node_claimed_by k c ns ≡ None) ⊎ record { at : ℕ; is : node_claimed_by k c ns ≡ Some at; among : IsAmong at ns }
  found c [] = inl refl
  found c (n ∷ ns) = elim (cases_eq (marks k n) c) [
    | inl e ↦ inr (record { at = n; is = rw (eq-eqb (marks k n) c e) refl; among = inl refl })
    | inr ne ↦ elim (found c ns) [
      | inl none ↦ inl (rw (ne_eqb (marks k n) c ne) none)
      | inr q ↦ inr (record { at = q.at; is = rw (ne_eqb (marks k n) c ne) q.is; among = inr q.among })
    ]
  ]

  -- rows and outcomes
  row_like : s.kind ≡ Durable → (c : ℕ) → IsRecord s c → row_with l c (node_claimed_by l c (chain_of s l)) ≡ row_with k c (node_claimed_by k c (chain_of s k))
  row_like e c r = ap (row_with l c) (claimed_now c) ∙ elim (found c (chain_of s k)) [
    | inl none ↦ ap (row_with l c) none ∙ ap (λ x. if x == 1 then row_empty else Open) (same (Cell (record { 0 = c })) (e, r)) ∙ ap (row_with k c) (sym none)
    | inr q ↦ ap (row_with l c) q.is ∙ ap row_got (value q.at (node q.at q.among)) ∙ ap (row_with k c) (sym q.is)
  ]

  dequeued_like : (e : ℕ) → dequeue_outcome l (node_claimed_by l e (chain_of s l)) ≡ dequeue_outcome k (node_claimed_by k e (chain_of s k))
  dequeued_like e = ap (dequeue_outcome l) (claimed_now e) ∙ elim (found e (chain_of s k)) [
    | inl none ↦ ap (dequeue_outcome l) none ∙ ap (dequeue_outcome k) (sym none)
    | inr q ↦ ap (dequeue_outcome l) q.is ∙ ap (λ v. Taken (Got v)) (value q.at (node q.at q.among)) ∙ ap (dequeue_outcome k) (sym q.is)
  ]

  outcome_like : s.kind ≡ Log → (e : ℕ) → IsRecord s e → outcome_by s l e ≡ outcome_by s k e
  outcome_like log e r =
      let removed : Outcome = dequeue_outcome l (node_claimed_by l e (chain_of s l)) in
      ap (λ x. if x == 1 then enqueue_outcome (list_any (nat_eq e) (chain_of s l)) else (if statuses l e == 2 then Taken Empty else removed))
      (same (EntryKind (record { 0 = e })) (log, r))
      ∙ ap (λ c. if entry_kinds k e == 1 then enqueue_outcome (list_any (nat_eq e) c) else (if statuses l e == 2 then Taken Empty else removed)) chains
      ∙ ap (λ x. if entry_kinds k e == 1 then enqueue_outcome (list_any (nat_eq e) (chain_of s k)) else (if x == 2 then Taken Empty else removed))
      (same (Status (record { 0 = e })) (log, r))
      ∙ ap (λ o. if entry_kinds k e == 1 then enqueue_outcome (list_any (nat_eq e) (chain_of s k)) else (if statuses k e == 2 then Taken Empty else o)) (dequeued_like e)

  announced_like : (kind : Kind) → s.kind ≡ kind → (c : ℕ) → IsRecord s c → report_on kind s l c ≡ report_on kind s k c
  announced_like Durable e c r = ap told_row (row_like e c r)
  announced_like Log e c r =
      ap (λ (n : ℕ). let v : Verdict = record { number = n; outcome = outcome_by s l c } in told_verdict v) (same (Number (record { 0 = c })) (e, r))
      ∙ ap (λ (o : Outcome). let v : Verdict = record { number = numbers k c; outcome = o } in told_verdict v) (outcome_like e c r)

  pub told_like : (t : ℕ) → told_by s l t ≡ told_by s k t
  told_like t = elim (cases_lt t s.clients) [
    | inr ge ↦ told_nobody s l t ge ∙ sym (told_nobody s k t ge)
    | inl lt ↦
        let a : announcements l t ≡ announcements k t = same (Announcement (record { 0 = t })) lt in
        elim (cases_eq (announcements k t) 0) [
          | inl z ↦ told_nothing s l t lt (a ∙ z) ∙ sym (told_nothing s k t lt z)
          | inr some ↦
              told_of s l t lt (λ z. some (sym a ∙ z)) ∙ ap (report_on s.kind s l) a
              ∙ announced_like s.kind refl (announcements k t) (announced_record s.kind s k h.answers t lt some) ∙ sym (told_of s k t lt some)
        ]
  ]

  pub tells_like : tells_by s l ≡ tells_by s k
  tells_like = ap (λ (f : ℕ → Told). map f (range_with_len 0 16)) (fun_ext told_like)

  -- the content
  values_like : (ns : List ℕ) → ((n : ℕ) → IsAmong n ns → IsNode s n)
      → map (values l) (filter (λ n. marks l n == 0) ns) ≡ map (values k) (filter (λ n. marks k n == 0) ns)
  values_like [] all = refl
  values_like (n ∷ ns) all =
      let i : IsNode s n = all n (inl refl) in
      let rest : map (values l) (filter (λ n. marks l n == 0) ns) ≡ map (values k) (filter (λ n. marks k n == 0) ns) = values_like ns (λ m j. all m (inr j)) in
      elim (cases_eq (marks k n) 0) [
        | inl z ↦ rw (eq-eqb (marks l n) 0 (mark n i ∙ z), eq-eqb (marks k n) 0 z, value n i) (ap (λ vs. values k n ∷ vs) rest)
        | inr ne ↦ rw (ne_eqb (marks l n) 0 (λ z. ne (sym (mark n i) ∙ z)), ne_eqb (marks k n) 0 ne) rest
      ]

  pub content_like : kept_content s l ≡ kept_content s k
  content_like = ap (λ ns. map (values l) (filter (λ n. marks l n == 0) ns)) chains ∙ values_like (chain_of s k) node
