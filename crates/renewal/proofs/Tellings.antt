-- What renewed words hold and tell is what they are to hold and tell.
use Rattle.std.proofs.Common.{◌≡◌, ◌≢◌, ℕ, ◌<◌, inl, inr, Bool, true, false, List, [], ◌∷◌, ◌++◌, length, map, filter, get_or, Option, Some, None, ◌==◌, refl, sym, ◌∙◌, ap, subst, arith}
use Rattle.std.specs.Prelude.{is_some, unwrap_or}
use Rattle.std.proofs.lemmas.Bool.{cases_eq, eq-eqb, ne_eqb}
use Rattle.std.proofs.lemmas.List.{ext_get_or, get_or-map, length-map}
use Rattle.std.proofs.lemmas.List.Elements.{filter-append}
use Rattle.std.proofs.lemmas.List.FromFn.{get_or-map-range_with_len, length-map-range_with_len}
use Rattle.words.specs.PlainQueue.{Value}
use Rattle.words.specs.declared.call.Kind.{Kind}
use Rattle.words.specs.declared.call.Kind.TheVariants.{Durable, Log}
use Rattle.words.specs.declared.call.Reply.TheVariants.{Done, Got, Empty}
use Rattle.words.specs.declared.told.Outcome.{Outcome}
use Rattle.words.specs.declared.told.Outcome.TheVariants.{NotTaken, Taken}
use Rattle.words.specs.declared.told.Row.{Row}
use Rattle.words.specs.declared.told.Row.TheVariants.{NoCall, Open, Empty as row_empty, Got as row_got}
use Rattle.words.specs.declared.told.Told.{Told}
use Rattle.words.specs.declared.told.Told.TheVariants.{None as told_none, Verdict as told_verdict, Row as told_row}
use Rattle.words.specs.declared.told.Verdict.{Verdict}
use Rattle.arena.specs.Chain.{IsAmong}
use Rattle.arena.specs.Content.{chain_of, kept_content}
use Rattle.arena.specs.Shape.{Shape}
use Rattle.arena.specs.Words.{cells, entry_kinds, item_again, marks, numbers, statuses, values}
use Rattle.arena.specs.declared.place.Place.{Place}
use Rattle.sound_words.specs.Sound.{IsOnChain}
use Rattle.words.specs.Told.{no_call}
use Rattle.sound_words.specs.Told.{dequeue_outcome, node_claimed_by, outcome_by, report_on, row_with, told_by}
use Rattle.sound_words.proofs.Facts.{among_any, told_empty, told_nothing, told_of}
use Rattle.renewal.specs.Renewal.{Renewal, item_in, told_in}
use Rattle.renewal.specs.Renewed.{announced, cell_told, has_node, has_verdict, message, number_told, outcome_node}
use Rattle.renewal.specs.Renewed.{outcome_record, outcome_status, removed, renewed, status, told_node, told_status}
use Rattle.renewal.specs.Renewed.{waiting}
use Rattle.renewal.specs.Roles.{first_record, item_record, role_of, second_record}
use Rattle.renewal.specs.Words.{MayBeRenewed, MayBeTold, told_anew}
use Rattle.renewal.proofs.Members.{IsRemoved, IsWaiting, chain_is, on_removed, on_waiting, role_waiting, two}
use Rattle.renewal.proofs.Roles.{role_first, role_second}
use Rattle.renewal.proofs.Sound.{cell_second, claimed_removed, first_kind, first_number, mark_first, mark_removed}
use Rattle.renewal.proofs.Sound.{mark_waiting, message_fits, no_claim, node_linked, once, removed_linked, second_kind}
use Rattle.renewal.proofs.Sound.{second_number}

-- the one of these nodes that a token claims, and none
claimed_one : (k : Place → ℕ) (token n : ℕ) (ns : List ℕ) → marks k n ≡ token → ((x : ℕ) → IsAmong x ns → marks k x ≡ token → x ≡ n) → IsAmong n ns
    → node_claimed_by k token ns ≡ Some n
claimed_one k token n [] mark one h = absurd h
claimed_one k token n (x ∷ xs) mark one h = elim (cases_eq (marks k x) token) [
  | inl e ↦ rw (eq-eqb (marks k x) token e) (ap Some (one x (inl refl) e))
  | inr ne ↦
      let rest : IsAmong n xs = elim h [ inl here ↦ absurd (ne (ap (marks k) (sym here) ∙ mark)) | inr later ↦ later ] in
      rw (ne_eqb (marks k x) token ne) (claimed_one k token n xs mark (λ y i. one y (inr i)) rest)
]

claimed_none : (k : Place → ℕ) (token : ℕ) (ns : List ℕ) → ((x : ℕ) → IsAmong x ns → marks k x ≢ token) → node_claimed_by k token ns ≡ None
claimed_none k token [] none = refl
claimed_none k token (x ∷ xs) none = rw (ne_eqb (marks k x) token (none x (inl refl))) (claimed_none k token xs (λ y i. none y (inr i)))

-- a test that all of these pass, or none of them
all_kept : (p : ℕ → Bool) (xs : List ℕ) → ((x : ℕ) → IsAmong x xs → p x ≡ true) → filter p xs ≡ xs
all_kept p [] all = refl
all_kept p (x ∷ xs) all = rw (all x (inl refl)) (ap (λ (ys : List ℕ). x ∷ ys) (all_kept p xs (λ y i. all y (inr i))))

none_kept : (p : ℕ → Bool) (xs : List ℕ) → ((x : ℕ) → IsAmong x xs → p x ≡ false) → filter p xs ≡ []
none_kept p [] none = refl
none_kept p (x ∷ xs) none = rw (none x (inl refl)) (none_kept p xs (λ y i. none y (inr i)))

module _ (r : Renewal) (h : MayBeRenewed r) where
  abbrev s : Shape
  s = r.shape

  abbrev m : ℕ
  m = length r.content

  abbrev l : Place → ℕ
  l = renewed r

  -- messages
  value_at : (n : ℕ) → values l n ≡ message r (role_of s n)
  value_at n = item_again (message r (role_of s n)) (message_fits r h (role_of s n))

  value_first : (t : ℕ) (value : Value) → told_node (told_in r t) ≡ Some value → values l (first_record s t) ≡ value
  value_first t value node = value_at (first_record s t) ∙ ap (message r) (role_first s t (two r h)) ∙ ap (λ (o : Option Value). unwrap_or o []) node

  value_waiting : (n : ℕ) → (q : IsWaiting r n) → values l n ≡ item_in r q.at
  value_waiting n q = value_at n ∙ ap (message r) (role_waiting r h n q)

  -- the content: of the chain those nodes that are waiting
  unclaimed : filter (λ n. marks l n == 0) (chain_of s l) ≡ waiting r
  unclaimed =
      let p : ℕ → Bool = λ n. marks l n == 0 in
      ap (filter p) (chain_is r h) ∙ filter-append p (removed r) (waiting r)
      ∙ ap (λ (xs : List ℕ). xs ++ filter p (waiting r)) (none_kept p (removed r) (λ n i. claimed n (on_removed r h n i)))
      ∙ all_kept p (waiting r) (λ n i. eq-eqb (marks l n) 0 (mark_waiting r h n (on_waiting r h n i)))
    where
      claimed : (n : ℕ) → IsRemoved r n → (marks l n == 0) ≡ false
      claimed n q = ne_eqb (marks l n) 0 (λ z. omega (arith, mark_removed r h n q, z))

  items_are : map (values l) (waiting r) ≡ r.content
  items_are = ext_get_or [] (map (values l) (waiting r)) r.content (length-map (waiting r) (values l) ∙ count) each
    where
      count : length (waiting r) ≡ m
      count = length-map-range_with_len (item_record s) 0 m

      each : (at : ℕ) → at < length (map (values l) (waiting r)) → get_or (map (values l) (waiting r)) at [] ≡ get_or r.content at []
      each at below =
          let few : length (map (values l) (waiting r)) ≡ length (waiting r) = length-map (waiting r) (values l) in
          let within : at < m = omega (arith, below, few, count) in
          let node : get_or (waiting r) at 0 ≡ item_record s at = get_or-map-range_with_len (item_record s) 0 m at at 0 within (omega arith) in
          get_or-map (values l) (waiting r) at 0 [] (omega (arith, within, count))
          ∙ ap (values l) node ∙ value_waiting (item_record s at) (record { at = at; in_range = within; is = refl })

  pub renewed_holds : kept_content s l ≡ r.content
  renewed_holds = ap (map (values l)) unclaimed ∙ items_are

  -- claims of a second record, by the telling
  claims_first : (t : ℕ) → t < s.clients → has_node r t ≡ true → node_claimed_by l (second_record s t) (chain_of s l) ≡ Some (first_record s t)
  claims_first t client node =
      let q : IsRemoved r (first_record s t) = node_linked r h t client node in
      let on : IsOnChain s l (first_record s t) = removed_linked r h (first_record s t) q in
      claimed_one l (second_record s t) (first_record s t) (chain_of s l) (mark_first r h t node) (own q) on
    where
      own : IsRemoved r (first_record s t) → (x : ℕ) → IsOnChain s l x → marks l x ≡ second_record s t → x ≡ first_record s t
      own q x on mark =
          let p : IsRemoved r x = claimed_removed r h x (record { on_chain = on; marked = λ z. omega (arith, z, mark) }) in
          once r h x (first_record s t) p q (mark ∙ sym (mark_first r h t node))

  claims_none : (t : ℕ) → has_node r t ≡ false → node_claimed_by l (second_record s t) (chain_of s l) ≡ None
  claims_none t none = claimed_none l (second_record s t) (chain_of s l) (λ x on. no_claim r h t x none on)

  -- durable queues: what the cell tells
  row_told : (t : ℕ) → t < s.clients → (row : Row) → told_in r t ≡ told_row row → announced s t (told_row row) ≡ second_record s t
      → row_with l (second_record s t) (node_claimed_by l (second_record s t) (chain_of s l)) ≡ row
  row_told t client NoCall told at = absurd (omega (arith, at))
  row_told t client Open told at =
      let cell : cells l (second_record s t) ≡ 0 = cell_second r h t ∙ ap (cell_told s t) told in
      ap (row_with l (second_record s t)) (claims_none t (ap (λ (x : Told). is_some (told_node x)) told))
      ∙ rw (ne_eqb (cells l (second_record s t)) 1 (λ e. omega (arith, e, cell))) refl
  row_told t client row_empty told at =
      let cell : cells l (second_record s t) ≡ 1 = cell_second r h t ∙ ap (cell_told s t) told in
      ap (row_with l (second_record s t)) (claims_none t (ap (λ (x : Told). is_some (told_node x)) told))
      ∙ rw (eq-eqb (cells l (second_record s t)) 1 cell) refl
  row_told t client (row_got value) told at =
      ap (row_with l (second_record s t)) (claims_first t client (ap (λ (x : Told). is_some (told_node x)) told))
      ∙ ap row_got (value_first t value (ap told_node told))

  -- log queues: what the entry tells
  outcome_told : (t : ℕ) → t < s.clients → (verdict : Verdict) → told_in r t ≡ told_verdict verdict → (o : Outcome) → verdict.outcome ≡ o
      → outcome_by s l (outcome_record s t o) ≡ o
  outcome_told t client verdict told o is = of_outcome o (ap told_node told ∙ ap outcome_node is) (ap told_status told ∙ ap outcome_status is)
    where
      second : entry_kinds l (second_record s t) ≢ 1
      second one = omega (arith, one, second_kind r h t (ap has_verdict told))

      status_is : (x : ℕ) → told_status (told_in r t) ≡ x → statuses l (second_record s t) ≡ x
      status_is x e = ap (status r) (role_second s t (two r h)) ∙ e

      dequeued : (o : Outcome) → told_status (told_in r t) ≡ 0 → dequeue_outcome l (node_claimed_by l (second_record s t) (chain_of s l)) ≡ o
          → outcome_by s l (second_record s t) ≡ o
      dequeued o none is =
          rw (
            ne_eqb (entry_kinds l (second_record s t)) 1 second,
            ne_eqb (statuses l (second_record s t)) 2 (λ e. omega (arith, e, status_is 0 none)),
          ) is

      done : has_node r t ≡ true → outcome_by s l (first_record s t) ≡ Taken Done
      done node =
          let on : IsAmong (first_record s t) (chain_of s l) = removed_linked r h (first_record s t) (node_linked r h t client node) in
          rw (eq-eqb (entry_kinds l (first_record s t)) 1 (first_kind r h t node), among_any (first_record s t) (chain_of s l) on) refl

      of_outcome : (o : Outcome) → told_node (told_in r t) ≡ outcome_node o → told_status (told_in r t) ≡ outcome_status o
          → outcome_by s l (outcome_record s t o) ≡ o
      of_outcome NotTaken node none = dequeued NotTaken none (ap (dequeue_outcome l) (claims_none t (ap (λ (x : Option Value). is_some x) node)))
      of_outcome (Taken Done) node none = done (ap (λ (x : Option Value). is_some x) node)
      of_outcome (Taken (Got value)) node none =
          dequeued (Taken (Got value)) none
          (ap (dequeue_outcome l) (claims_first t client (ap (λ (x : Option Value). is_some x) node))
          ∙ ap (λ (v : Value). Taken (Got v)) (value_first t value node))
      of_outcome (Taken Empty) node empty = told_empty s l (second_record s t) second (status_is 2 empty)

  -- the number of the entry that is announced
  number_told_at : (t : ℕ) → (verdict : Verdict) → told_in r t ≡ told_verdict verdict → numbers l (outcome_record s t verdict.outcome) ≡ verdict.number
  number_told_at t verdict told = of_outcome verdict.outcome refl
    where
      second : outcome_record s t verdict.outcome ≡ second_record s t → numbers l (outcome_record s t verdict.outcome) ≡ verdict.number
      second at = ap (numbers l) at ∙ second_number r h t (ap (announced s t) told ∙ at) ∙ ap number_told told

      of_outcome : (o : Outcome) → verdict.outcome ≡ o → numbers l (outcome_record s t verdict.outcome) ≡ verdict.number
      of_outcome NotTaken e = second (ap (outcome_record s t) e)
      of_outcome (Taken Done) e =
          let at : outcome_record s t verdict.outcome ≡ first_record s t = ap (outcome_record s t) e in
          ap (numbers l) at ∙ first_number r h t (ap (announced s t) told ∙ at) ∙ ap number_told told
      of_outcome (Taken (Got value)) e = second (ap (outcome_record s t) e)
      of_outcome (Taken Empty) e = second (ap (outcome_record s t) e)

  verdict_told : (t : ℕ) → t < s.clients → (verdict : Verdict) → told_in r t ≡ told_verdict verdict
      → report_on Log s l (outcome_record s t verdict.outcome) ≡ told_verdict verdict
  verdict_told t client verdict told =
      ap (λ (n : ℕ). told_verdict (record { number = n; outcome = outcome_by s l (outcome_record s t verdict.outcome) })) (number_told_at t verdict told)
      ∙ ap (λ (o : Outcome). told_verdict (record { number = verdict.number; outcome = o })) (outcome_told t client verdict told verdict.outcome refl)

  some_record : (t : ℕ) (o : Outcome) → outcome_record s t o ≢ 0
  some_record t NotTaken z = omega (arith, z)
  some_record t (Taken Done) z = omega (arith, z)
  some_record t (Taken (Got value)) z = omega (arith, z)
  some_record t (Taken Empty) z = omega (arith, z)

  -- each client is told what it is to be told
  told_of_row : (t : ℕ) → t < s.clients → (row : Row) → told_in r t ≡ told_row row → s.kind ≡ Durable
      → announced s t (told_row row) ≡ second_record s t → told_by s l t ≡ told_row row
  told_of_row t client row told kind at =
      let names : announced s t (told_in r t) ≡ second_record s t = ap (announced s t) told ∙ at in
      told_of s l t client (λ z. omega (arith, z, names))
      ∙ ap (report_on s.kind s l) names ∙ ap (λ (k : Kind). report_on k s l (second_record s t)) kind
      ∙ ap told_row (row_told t client row told at)

  durable_told : (t : ℕ) → t < s.clients → s.kind ≡ Durable → (told : Told) → told_in r t ≡ told → MayBeTold Durable told
      → told_by s l t ≡ told_anew Durable told
  durable_told t client kind told_none e may = told_nothing s l t client (ap (announced s t) e) ∙ ap no_call kind
  durable_told t client kind (told_verdict verdict) e may = absurd may
  durable_told t client kind (told_row NoCall) e may = told_nothing s l t client (ap (announced s t) e) ∙ ap no_call kind
  durable_told t client kind (told_row Open) e may = told_of_row t client Open e kind refl
  durable_told t client kind (told_row row_empty) e may = told_of_row t client row_empty e kind refl
  durable_told t client kind (told_row (row_got value)) e may = told_of_row t client (row_got value) e kind refl

  log_told : (t : ℕ) → t < s.clients → s.kind ≡ Log → (told : Told) → told_in r t ≡ told → MayBeTold Log told
      → told_by s l t ≡ told_anew Log told
  log_told t client kind told_none e may = told_nothing s l t client (ap (announced s t) e) ∙ ap no_call kind
  log_told t client kind (told_verdict verdict) e may =
      let names : announced s t (told_in r t) ≡ outcome_record s t verdict.outcome = ap (announced s t) e in
      told_of s l t client (λ z. some_record t verdict.outcome (sym names ∙ z))
      ∙ ap (report_on s.kind s l) names ∙ ap (λ (k : Kind). report_on k s l (outcome_record s t verdict.outcome)) kind
      ∙ verdict_told t client verdict e
  log_told t client kind (told_row row) e may = absurd may

  told_by_kind : (kind : Kind) → s.kind ≡ kind → (t : ℕ) → t < s.clients → told_by s l t ≡ told_anew kind (told_in r t)
  told_by_kind Durable e t client = durable_told t client e (told_in r t) refl (subst (λ (k : Kind). MayBeTold k (told_in r t)) e (h.told t))
  told_by_kind Log e t client = log_told t client e (told_in r t) refl (subst (λ (k : Kind). MayBeTold k (told_in r t)) e (h.told t))

  pub renewed_tells : (t : ℕ) → t < s.clients → told_by s l t ≡ told_anew s.kind (told_in r t)
  renewed_tells = told_by_kind s.kind refl
