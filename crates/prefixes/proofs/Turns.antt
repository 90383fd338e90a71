-- What one step more adds.
use Rattle.std.proofs.Common.{ℕ, ◌≡◌, ◌<◌, ◌≤◌, ◌+◌, ◌++◌, List, [], ◌∷◌, Bool, true, false, Option, Some, None}
use Rattle.std.proofs.Common.{slice_get, get_or, set, length, take, refl, ap, arith, sym, ◌∙◌, ⊎_elim, ◌||◌}
use Rattle.std.specs.Prelude.{◌≢◌, map, ◌==◌, if◌then◌else◌}
use Rattle.std.specs.List.{flat_map}
use Rattle.std.specs.Option.{option_or}
use Rattle.std.proofs.lemmas.Bool.{cases_eq, eq-eqb, ne_eqb}
use Rattle.std.proofs.lemmas.Grind.{flat_map-append}
use Rattle.std.proofs.lemmas.List.{take_more, get_or-set_same, get_or-set_other, length-set, append-nil}
use Rattle.std.proofs.lemmas.List.Folds.{list_any_more}
use Rattle.std.proofs.lemmas.List.Sums.{fold_more}
use Rattle.std.proofs.lemmas.Option.{slice_get-get_or, get_or_from_slice_get, slice_get_past}
use Rattle.words.specs.declared.call.Reply.{Reply}
use Rattle.words.specs.declared.told.Outcome.{Outcome}
use Rattle.words.specs.declared.told.Outcome.TheVariants.{NotTaken, Taken}
use Rattle.events.specs.declared.event.Event.{Event}
use Rattle.recording.specs.declared.act.Said.{Said}
use Rattle.recording.specs.declared.act.Act.{Act}
use Rattle.recording.specs.declared.act.Act.TheVariants.{Begin, Refuse, LearnTaken, LearnNotTaken}
use Rattle.recording.specs.declared.act.Step.{Step}
use Rattle.recording.specs.declared.act.CallOf.{CallOf}
use Rattle.recording.specs.declared.act.Recording.{Recording}
use Rattle.recording.specs.Recording.{reply_of}
use Rattle.prefixes.specs.declared.facts.Fate.{Fate}
use Rattle.prefixes.specs.Fates.{AreFatesOf, fate_of}
use Rattle.prefixes.specs.Steps.{is_refusal, is_refused, outcome_said, outcome_of, call_events, events_by, events_up_to}
use Rattle.prefixes.specs.Steps.{learnt_by, learnt_up_to}

-- what a step makes of a call's fate
abbrev pub fate_after : Recording → ℕ → Act → Fate → Fate
fate_after recording call act fate = record {
  is_refused = fate.is_refused || is_refusal call act;
  outcome = option_or (outcome_said recording call act) fate.outcome;
}

fate_more : (recording : Recording) (steps : List Step) (i call : ℕ) (d : Step) (act : Act) → i < length steps
    → (get_or steps i d).act ≡ act
    → fate_of recording (take (i + 1) steps) call
    ≡ fate_after recording call act (fate_of recording (take i steps) call)
fate_more recording steps i call d act within is =
    let refused : is_refused (take (i + 1) steps) call ≡ (is_refused (take i steps) call || is_refusal call act) =
    list_any_more (λ s. is_refusal call s.act) steps i d within
    ∙ ap (λ (a : Act). is_refused (take i steps) call || is_refusal call a) is in
    let outcome : outcome_of recording (take (i + 1) steps) call
    ≡ option_or (outcome_said recording call act) (outcome_of recording (take i steps) call) =
    fold_more (λ earlier s. option_or (outcome_said recording call s.act) earlier) None steps i d within
    ∙ ap (λ (a : Act). option_or (outcome_said recording call a) (outcome_of recording (take i steps) call)) is in
    ap (λ (b : Bool). record { is_refused = b; outcome = outcome_of recording (take (i + 1) steps) call }) refused
    ∙ ap (λ (o : Option Outcome). record {
      is_refused = is_refused (take i steps) call || is_refusal call act;
      outcome = o;
    }) outcome

-- so it is of the events, and of what was learnt
pub events_more : (recording : Recording) (steps : List Step) (i : ℕ) (d : Step) (act : Act) → i < length steps
    → (get_or steps i d).act ≡ act
    → events_up_to recording steps (i + 1)
    ≡ events_up_to recording steps i ++ events_by recording steps (length (events_up_to recording steps i)) act
events_more recording steps i d act within is =
    fold_more (λ events s. events ++ events_by recording steps (length events) s.act) [] steps i d within
    ∙ ap
    (λ (a : Act). events_up_to recording steps i
    ++ events_by recording steps (length (events_up_to recording steps i)) a)
    is

pub learnt_more : (recording : Recording) (steps : List Step) (i : ℕ) (d : Step) (act : Act) → i < length steps
    → (get_or steps i d).act ≡ act
    → learnt_up_to recording steps (i + 1)
    ≡ learnt_up_to recording steps i
    ++ map (λ event. learnt_by recording steps act) (events_by recording steps 0 act)
learnt_more recording steps i d act within is =
    let of : Act → List (Option Outcome) =
    λ a. map (λ event. learnt_by recording steps a) (events_by recording steps 0 a) in
    ap (flat_map (λ s. of s.act)) (take_more steps i d within)
    ∙ flat_map-append (λ s. of s.act) (take i steps) (get_or steps i d ∷ [])
    ∙ ap (λ (more : List (Option Outcome)). learnt_up_to recording steps i ++ more)
    (append-nil (of (get_or steps i d).act))
    ∙ ap (λ (a : Act). learnt_up_to recording steps i ++ of a) is

-- a step that says nothing of a call leaves its fate
or_nothing : (b : Bool) → (b || false) ≡ b
or_nothing true = refl
or_nothing false = refl

or_true : (b : Bool) → (b || true) ≡ true
or_true true = refl
or_true false = refl

fate_kept : (recording : Recording) (call : ℕ) (act : Act) (fate : Fate) → is_refusal call act ≡ false
    → outcome_said recording call act ≡ None → fate_after recording call act fate ≡ fate
fate_kept recording call act fate refusal outcome =
    let refused : (fate.is_refused || is_refusal call act) ≡ fate.is_refused =
    ap (λ (b : Bool). fate.is_refused || b) refusal ∙ or_nothing fate.is_refused in
    let told : option_or (outcome_said recording call act) fate.outcome ≡ fate.outcome =
    ap (λ (o : Option Outcome). option_or o fate.outcome) outcome in
    ap (λ (b : Bool). record { is_refused = b; outcome = option_or (outcome_said recording call act) fate.outcome })
    refused
    ∙ ap (λ (o : Option Outcome). record { is_refused = fate.is_refused; outcome = o }) told

-- it says nothing of the call
abbrev IsNoNews : Recording → Act → ℕ → Type 0
IsNoNews recording act call =
    (is_refusal call act ≡ false) × (outcome_said recording call act ≡ None)

-- a table after a step that says nothing of any call
pub table_kept : (recording : Recording) (steps : List Step) (i : ℕ) (d : Step) (act : Act) (fates : List Fate)
    → i < length steps → (get_or steps i d).act ≡ act → ((call : ℕ) → IsNoNews recording act call)
    → AreFatesOf recording (take i steps) fates → AreFatesOf recording (take (i + 1) steps) fates
table_kept recording steps i d act fates within is nothing table = record {
  count = table.count;
  each = λ call lt.
      let more = fate_more recording steps i call d act within is in
      let kept = fate_kept recording call act (fate_of recording (take i steps) call) (nothing call).0
      (nothing call).1 in
      table.each call lt ∙ ap Some (sym (more ∙ kept));
}

-- and after one that says something of one call
table_set : (recording : Recording) (steps : List Step) (i : ℕ) (d : Step) (act : Act) (fates : List Fate)
    (call : ℕ) (fate e : Fate) → i < length steps → (get_or steps i d).act ≡ act → call < length fates
    → fate ≡ fate_after recording call act (get_or fates call e)
    → ((other : ℕ) → other ≢ call → IsNoNews recording act other)
    → AreFatesOf recording (take i steps) fates → AreFatesOf recording (take (i + 1) steps) (set fates call fate)
table_set recording steps i d act fates call fate e within is inside after nothing table = record {
  count = length-set fates call fate ∙ table.count;
  each = λ other lt. ⊎_elim
      (λ (same : other ≡ call).
      let old : get_or fates call e ≡ fate_of recording (take i steps) call =
      get_or_from_slice_get fates call _ e (table.each call inside) in
      let more = fate_more recording steps i call d act within is in
      slice_get-get_or (set fates call fate) other fate lt
      ∙ ap (λ (k : ℕ). Some (get_or (set fates call fate) k fate)) same
      ∙ ap Some (get_or-set_same fates call fate fate inside)
      ∙ ap Some (after ∙ ap (fate_after recording call act) old ∙ sym more)
      ∙ ap (λ (k : ℕ). Some (fate_of recording (take (i + 1) steps) k)) (sym same))
      (λ (differ : other ≢ call).
      let lower : other < length fates = omega (arith, lt, length-set fates call fate) in
      let more = fate_more recording steps i other d act within is in
      let kept = fate_kept recording other act (fate_of recording (take i steps) other) (nothing other differ).0
      (nothing other differ).1 in
      let old : get_or fates other fate ≡ fate_of recording (take i steps) other =
      get_or_from_slice_get fates other _ fate (table.each other lower) in
      slice_get-get_or (set fates call fate) other fate lt
      ∙ ap Some (get_or-set_other fates call other fate fate differ)
      ∙ ap Some (old ∙ sym (more ∙ kept)))
      (cases_eq other call);
}

-- a test of one call, at that call and at another
same_call : (call : ℕ) → (call == call) ≡ true
same_call call = eq-eqb call call refl

other_call : (call other : ℕ) → other ≢ call → (call == other) ≡ false
other_call call other differ = ne_eqb call other (λ same. differ (sym same))

-- the table after a refusal
pub table_refused : (recording : Recording) (steps : List Step) (i : ℕ) (d : Step) (fates : List Fate) (call : ℕ)
    (e : Fate) → i < length steps → (get_or steps i d).act ≡ Refuse call → call < length fates
    → AreFatesOf recording (take i steps) fates
    → AreFatesOf recording (take (i + 1) steps)
    (set fates call (record { is_refused = true; outcome = (get_or fates call e).outcome }))
table_refused recording steps i d fates call e within is inside table =
    let old : Fate = get_or fates call e in
    let yes : (old.is_refused || (call == call)) ≡ true =
    ap (λ (b : Bool). old.is_refused || b) (same_call call) ∙ or_true old.is_refused in
    table_set recording steps i d (Refuse call) fates call _ e within is inside
    (ap (λ (b : Bool). record { is_refused = b; outcome = old.outcome }) (sym yes))
    (λ other differ. (other_call call other differ, refl)) table

-- after an outcome
after_outcome : (old : Fate) (call : ℕ) (outcome : Outcome)
    → (let told : Fate = record { is_refused = old.is_refused; outcome = Some outcome } in
    let after : Fate = record {
      is_refused = old.is_refused || false;
      outcome = option_or (if call == call then Some outcome else None) old.outcome;
    } in told ≡ after)
after_outcome old call outcome =
    ap (λ (b : Bool). record { is_refused = b; outcome = Some outcome }) (sym (or_nothing old.is_refused))
    ∙ ap (λ (b : Bool). record {
      is_refused = old.is_refused || false;
      outcome = option_or (if b then Some outcome else None) old.outcome;
    }) (sym (same_call call))

pub table_taken : (recording : Recording) (steps : List Step) (i : ℕ) (d : Step) (fates : List Fate) (call : ℕ)
    (said : Said) (reply : Reply) (e : Fate) → i < length steps → (get_or steps i d).act ≡ LearnTaken call said
    → call < length fates → reply ≡ reply_of recording said → AreFatesOf recording (take i steps) fates
    → AreFatesOf recording (take (i + 1) steps)
    (set fates call (record { is_refused = (get_or fates call e).is_refused; outcome = Some (Taken reply) }))
table_taken recording steps i d fates call said reply e within is inside right table =
    let old : Fate = get_or fates call e in
    table_set recording steps i d (LearnTaken call said) fates call _ e within is inside
    (ap (λ (r : Reply). record { is_refused = old.is_refused; outcome = Some (Taken r) }) right
    ∙ after_outcome old call (Taken (reply_of recording said)))
    (λ other differ. (
      refl,
      ap (λ (b : Bool). if b then Some (Taken (reply_of recording said)) else None) (other_call call other differ),
    ))
    table

pub table_not_taken : (recording : Recording) (steps : List Step) (i : ℕ) (d : Step) (fates : List Fate) (call : ℕ)
    (e : Fate) → i < length steps → (get_or steps i d).act ≡ LearnNotTaken call → call < length fates
    → AreFatesOf recording (take i steps) fates
    → AreFatesOf recording (take (i + 1) steps)
    (set fates call (record { is_refused = (get_or fates call e).is_refused; outcome = Some NotTaken }))
table_not_taken recording steps i d fates call e within is inside table =
    table_set recording steps i d (LearnNotTaken call) fates call _ e within is inside
    (after_outcome (get_or fates call e) call NotTaken)
    (λ other differ. (
      refl,
      ap (λ (b : Bool). if b then Some NotTaken else None) (other_call call other differ),
    ))
    table

-- what a step adds to the facts: nothing
pub nothing_happens : (recording : Recording) (steps : List Step) (i : ℕ) (d : Step) (act : Act)
    (events : List Event) → i < length steps → (get_or steps i d).act ≡ act → events ≡ events_up_to recording steps i
    → events_by recording steps (length (events_up_to recording steps i)) act ≡ []
    → events ≡ events_up_to recording steps (i + 1)
nothing_happens recording steps i d act events within is up_to none =
    up_to
    ∙ sym (append-nil (events_up_to recording steps i))
    ∙ ap (λ (xs : List Event). events_up_to recording steps i ++ xs) (sym none)
    ∙ sym (events_more recording steps i d act within is)

pub nothing_learnt : (recording : Recording) (steps : List Step) (i : ℕ) (d : Step) (act : Act)
    (learnt : List (Option Outcome)) → i < length steps → (get_or steps i d).act ≡ act
    → learnt ≡ learnt_up_to recording steps i → events_by recording steps 0 act ≡ []
    → learnt ≡ learnt_up_to recording steps (i + 1)
nothing_learnt recording steps i d act learnt within is up_to none =
    up_to
    ∙ sym (append-nil (learnt_up_to recording steps i))
    ∙ ap
    (λ (xs : List Event). learnt_up_to recording steps i ++ map (λ event. learnt_by recording steps act) xs)
    (sym none)
    ∙ sym (learnt_more recording steps i d act within is)

-- or one event
pub happens : (recording : Recording) (steps : List Step) (i : ℕ) (d : Step) (act : Act)
    (old new more : List Event) → i < length steps → (get_or steps i d).act ≡ act
    → old ≡ events_up_to recording steps i → events_by recording steps (length old) act ≡ more
    → new ≡ old ++ more → new ≡ events_up_to recording steps (i + 1)
happens recording steps i d act old new more within is up_to by added =
    added
    ∙ ap (λ (xs : List Event). old ++ xs) (sym by)
    ∙ ap (λ (xs : List Event). xs ++ events_by recording steps (length xs) act) up_to
    ∙ sym (events_more recording steps i d act within is)

pub is_learnt : (recording : Recording) (steps : List Step) (i : ℕ) (d : Step) (act : Act)
    (old new : List (Option Outcome)) (event : Event) (learnt : Option Outcome) → i < length steps
    → (get_or steps i d).act ≡ act → old ≡ learnt_up_to recording steps i
    → events_by recording steps 0 act ≡ event ∷ [] → learnt ≡ learnt_by recording steps act
    → new ≡ old ++ learnt ∷ [] → new ≡ learnt_up_to recording steps (i + 1)
is_learnt recording steps i d act old new event learnt within is up_to by right added =
    added
    ∙ ap (λ (xs : List (Option Outcome)). xs ++ learnt ∷ []) up_to
    ∙ ap (λ (o : Option Outcome). learnt_up_to recording steps i ++ o ∷ []) right
    ∙ ap
    (λ (xs : List Event). learnt_up_to recording steps i ++ map (λ event. learnt_by recording steps act) xs)
    (sym by)
    ∙ sym (learnt_more recording steps i d act within is)

-- the call of a number
pub looked_up : (xs ys : List CallOf) (call : ℕ) (of : CallOf) → xs ≡ ys → call < length xs
    → of ≡ get_or xs call of → slice_get ys call ≡ Some of
looked_up xs ys call of same lt is =
    ap (λ (zs : List CallOf). slice_get zs call) (sym same) ∙ slice_get-get_or xs call of lt ∙ ap Some (sym is)

pub not_there : (xs ys : List CallOf) (call : ℕ) → xs ≡ ys → length xs ≤ call → slice_get ys call ≡ None
not_there xs ys call same past = ap (λ (zs : List CallOf). slice_get zs call) (sym same) ∙ slice_get_past xs call past

-- the events of its begin
pub begun_by : (recording : Recording) (steps : List Step) (place call : ℕ) (refused : Bool) (of : Option CallOf)
    → is_refused steps call ≡ refused → slice_get recording.calls.items call ≡ of
    → events_by recording steps place (Begin call) ≡ call_events recording refused place of
begun_by recording steps place call refused of is at =
    ap
    (λ (b : Bool). call_events recording b place (slice_get recording.calls.items call)) is
    ∙ ap (call_events recording refused place) at

-- a call that is not there does not begin
pub not_begun : (recording : Recording) (steps : List Step) (place call : ℕ)
    → slice_get recording.calls.items call ≡ None → events_by recording steps place (Begin call) ≡ []
not_begun recording steps place call none =
    begun_by recording steps place call _ None refl none ∙ go (is_refused steps call)
  where
    go : (b : Bool) → call_events recording b place None ≡ []
    go true = refl
    go false = refl

-- what the table says of a call
pub fate_at : (recording : Recording) (steps : List Step) (fates : List Fate) (call : ℕ) (e : Fate)
    → AreFatesOf recording steps fates → call < length recording.calls.items
    → get_or fates call e ≡ fate_of recording steps call
fate_at recording steps fates call e table lt =
    get_or_from_slice_get fates call _ e (table.each call (omega (arith, lt, table.count)))

-- so a call is refused where the table says so
pub refused_at : (recording : Recording) (steps : List Step) (fates : List Fate) (call : ℕ) (e : Fate) (b : Bool)
    → AreFatesOf recording steps fates → call < length recording.calls.items
    → (get_or fates call e).is_refused ≡ b → is_refused steps call ≡ b
refused_at recording steps fates call e b table lt is =
    sym (ap (λ (f : Fate). f.is_refused) (fate_at recording steps fates call e table lt)) ∙ is
