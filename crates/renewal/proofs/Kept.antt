-- What sound words hold and tell may be written anew.
use Rattle.std.proofs.Common.{◌≡◌, ◌≢◌, ℕ, ◌≤◌, ◌<◌, inl, inr, Bool, true, false, [], length, get_or, Option, Some, None, if◌then◌else◌, ◌==◌, refl, sym, ◌∙◌, ap, subst, arith}
use Rattle.std.specs.Prelude.{nat_eq}
use Rattle.std.specs.List.{list_any}
use Rattle.std.proofs.lemmas.Bool.{cases_eq, cases_lt}
use Rattle.std.proofs.lemmas.List.{get_or-map, get_or_past, length-map}
use Rattle.std.proofs.lemmas.List.FromFn.{get_or-map-range_with_len, length-map-range_with_len}
use Rattle.words.specs.PlainQueue.{FitsValue}
use Rattle.words.specs.declared.call.Kind.{Kind}
use Rattle.words.specs.declared.call.Kind.TheVariants.{Durable, Log}
use Rattle.words.specs.declared.call.Reply.TheVariants.{Empty}
use Rattle.words.specs.declared.told.Outcome.TheVariants.{Taken}
use Rattle.words.specs.declared.told.Row.TheVariants.{Open, Empty as row_empty}
use Rattle.words.specs.declared.told.Told.TheVariants.{None as told_none}
use Rattle.arena.specs.Content.{chain_of, kept_content, waiting_of}
use Rattle.arena.specs.Limits.{AreCounts}
use Rattle.arena.specs.Shape.{Shape}
use Rattle.arena.specs.Words.{announcements, cells, entry_kinds, statuses, values, values_fit}
use Rattle.arena.specs.declared.place.Place.{Place}
use Rattle.sound_words.specs.Sound.{AnswersAreSound, IsSound}
use Rattle.words.specs.Told.{no_call}
use Rattle.sound_words.specs.Told.{dequeue_outcome, enqueue_outcome, node_claimed_by, outcome_by, report_on, row_with}
use Rattle.sound_words.specs.Told.{tells_by, told_by}
use Rattle.sound_words.proofs.Facts.{told_nobody, told_nothing, told_of}
use Rattle.renewal.specs.Words.{FitFresh, FitsOutcome, FitsRow, MayBeRenewed, MayBeTold, renewal_of, told_anew}
use Rattle.renewal.proofs.Sound.{no_item}

module _ (s : Shape) (k : Place → ℕ) where
  -- the items
  item_fits : (at : ℕ) → FitsValue (get_or (kept_content s k) at [])
  item_fits at = elim (cases_lt at (length (kept_content s k))) [
    | inl below ↦
        let few : at < length (waiting_of s k) = omega (arith, below, length-map (waiting_of s k) (values k)) in
        subst FitsValue (sym (get_or-map (values k) (waiting_of s k) at 0 [] few)) (values_fit k (get_or (waiting_of s k) at 0))
    | inr past ↦ subst FitsValue (sym (get_or_past (kept_content s k) at [] past)) no_item
  ]

  -- what clients are told
  row_may : (c : ℕ) (o : Option ℕ) → FitsRow (row_with k c o)
  row_may c None = of_test (cells k c == 1)
    where
      of_test : (b : Bool) → FitsRow (if b then row_empty else Open)
      of_test true = tt
      of_test false = tt
  row_may c (Some node) = values_fit k node

  dequeue_may : (o : Option ℕ) → FitsOutcome (dequeue_outcome k o)
  dequeue_may None = tt
  dequeue_may (Some node) = values_fit k node

  outcome_may : (e : ℕ) → FitsOutcome (outcome_by s k e)
  outcome_may e = of_tests (entry_kinds k e == 1) (list_any (nat_eq e) (chain_of s k)) (statuses k e == 2)
    where
      removed : FitsOutcome (dequeue_outcome k (node_claimed_by k e (chain_of s k)))
      removed = dequeue_may (node_claimed_by k e (chain_of s k))

      of_tests : (a b c : Bool) → FitsOutcome (if a then enqueue_outcome b else (if c then Taken Empty else dequeue_outcome k (node_claimed_by k e (chain_of s k))))
      of_tests true true c = tt
      of_tests true false c = tt
      of_tests false b true = tt
      of_tests false b false = removed

  report_may : (kind : Kind) → AnswersAreSound kind s k → (t : ℕ) → t < s.clients → announcements k t ≢ 0
      → MayBeTold kind (report_on kind s k (announcements k t))
  report_may Durable a t client some = row_may (announcements k t) (node_claimed_by k (announcements k t) (chain_of s k))
  report_may Log a t client some = elim (a.logs t client) [
    | inl none ↦ absurd (some none)
    | inr q ↦ record { numbered = q.numbered; in_range = q.in_range; outcome = outcome_may (announcements k t) }
  ]

  nothing_may : (kind : Kind) → MayBeTold kind (no_call kind)
  nothing_may Durable = tt
  nothing_may Log = tt

  none_may : (kind : Kind) → MayBeTold kind told_none
  none_may Durable = tt
  none_may Log = tt

  told_may : IsSound s k → (t : ℕ) → MayBeTold s.kind (told_by s k t)
  told_may h t = elim (cases_lt t s.clients) [
    | inr past ↦ subst (MayBeTold s.kind) (sym (told_nobody s k t past)) (none_may s.kind)
    | inl client ↦ elim (cases_eq (announcements k t) 0) [
      | inl none ↦ subst (MayBeTold s.kind) (sym (told_nothing s k t client none)) (nothing_may s.kind)
      | inr some ↦ subst (MayBeTold s.kind) (sym (told_of s k t client some)) (report_may s.kind h.answers t client some)
    ]
  ]

  -- a client's telling is its own already
  report_same : (kind : Kind) (c : ℕ) → told_anew kind (report_on kind s k c) ≡ report_on kind s k c
  report_same Durable c = refl
  report_same Log c = refl

  nothing_same : (kind : Kind) → told_anew kind (no_call kind) ≡ no_call kind
  nothing_same Durable = refl
  nothing_same Log = refl

  pub told_same : (t : ℕ) → t < s.clients → told_anew s.kind (told_by s k t) ≡ told_by s k t
  told_same t client = elim (cases_eq (announcements k t) 0) [
    | inl none ↦
        let says : told_by s k t ≡ no_call s.kind = told_nothing s k t client none in
        ap (told_anew s.kind) says ∙ nothing_same s.kind ∙ sym says
    | inr some ↦
        let says : told_by s k t ≡ report_on s.kind s k (announcements k t) = told_of s k t client some in
        ap (told_anew s.kind) says ∙ report_same s.kind (announcements k t) ∙ sym says
  ]

  -- sixteen of them are listed
  pub told_listed : (t : ℕ) → t < 16 → get_or (tells_by s k) t told_none ≡ told_by s k t
  told_listed t below = get_or-map-range_with_len (told_by s k) 0 16 t t told_none below (omega arith)

  told_past : (t : ℕ) → 16 ≤ t → get_or (tells_by s k) t told_none ≡ told_none
  told_past t past = get_or_past (tells_by s k) t told_none (omega (arith, past, length-map-range_with_len (told_by s k) 0 16))

  pub told_none_past : (t : ℕ) → s.clients ≤ t → get_or (tells_by s k) t told_none ≡ told_none
  told_none_past t past = elim (cases_lt t 16) [
    | inl below ↦ told_listed t below ∙ told_nobody s k t past
    | inr over ↦ told_past t over
  ]

  listed_may : IsSound s k → (t : ℕ) → MayBeTold s.kind (get_or (tells_by s k) t told_none)
  listed_may h t = elim (cases_lt t 16) [
    | inl below ↦ subst (MayBeTold s.kind) (sym (told_listed t below)) (told_may h t)
    | inr past ↦ subst (MayBeTold s.kind) (sym (told_past t past)) (none_may s.kind)
  ]

  pub kept_may : (to : Shape) → IsSound s k → to.kind ≡ s.kind → AreCounts to.clients to.records → FitFresh to (length (kept_content s k))
      → MayBeRenewed (renewal_of to s k)
  kept_may to h kind counts room = record {
    counts = counts;
    listed = length-map-range_with_len (told_by s k) 0 16;
    room = room;
    items = item_fits;
    told = λ t. subst (λ (x : Kind). MayBeTold x (get_or (tells_by s k) t told_none)) (sym kind) (listed_may h t);
  }
