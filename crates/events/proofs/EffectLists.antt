-- What the ways in which effects grow make of the order, and of the entries of all effects.
use Rattle.std.proofs.Common.{ℕ, ◌≡◌, Bool, true, false, not, ◌&&◌, ◌==◌, if◌then◌else◌, List, [], ◌∷◌, ◌++◌, map, inl}
use Rattle.std.proofs.Common.{inr, refl, ap, subst, sym, ◌∙◌, ⊎_elim, append-nil}
use Rattle.std.specs.List.{filter, Contains}
use Rattle.std.proofs.lemmas.Bool.{eqb-true}
use Rattle.std.proofs.lemmas.List.{map-append}
use Rattle.std.proofs.lemmas.List.Elements.{filter-append}
use Rattle.words.specs.declared.call.Reply.{Reply}
use Rattle.words.specs.declared.call.Reply.TheVariants.{Empty}
use Rattle.events.specs.declared.event.Effect.{Effect}
use Rattle.events.specs.declared.event.Entry.{Entry}
use Rattle.events.specs.Effects.{entry_of, order_of, with_effect, with_pending, is_pending_at, without_pending}
use Rattle.events.specs.Effects.{with_settled, settled_effects}
use Rattle.events.specs.Trace.{entries_of}
use Rattle.events.specs.Parts.{IsPartOf, nothing, both, more}
use Rattle.events.proofs.Members.{IsIn, in_from_contains, contains_from_in}

-- an effect that counts comes last in the order
pub order_with_effect : (effects : List Effect) (place : ℕ) (reply : Reply) (moment : ℕ)
    → order_of (with_effect place reply moment effects)
    ≡ order_of effects ++ record { place = place; reply = reply } ∷ []
order_with_effect effects place reply moment =
    let x : Effect = record { place = place; reply = reply; moment = moment; settled = true } in
    ap (map entry_of) (filter-append (λ (e : Effect). e.settled) effects (x ∷ []))
    ∙ map-append entry_of (filter (λ (e : Effect). e.settled) effects) (x ∷ [])

-- one that does not count yet changes no order
pub order_with_pending : (effects : List Effect) (place moment : ℕ)
    → order_of (with_pending place moment effects) ≡ order_of effects
order_with_pending effects place moment =
    let x : Effect = record { place = place; reply = Empty; moment = moment; settled = false } in
    ap (map entry_of) (filter-append (λ (e : Effect). e.settled) effects (x ∷ [])
    ∙ append-nil (filter (λ (e : Effect). e.settled) effects))

-- nor does one that is left out and does not count
pub order_kept : (keep : Effect → Bool) (effects : List Effect)
    → ((x : Effect) → x.settled ≡ true → keep x ≡ true) → order_of (filter keep effects) ≡ order_of effects
order_kept keep [] counts = refl
order_kept keep (x ∷ xs) counts = go (order_kept keep xs counts) (keep x) refl x.settled refl
  where
    go : order_of (filter keep xs) ≡ order_of xs → (k : Bool) → keep x ≡ k → (s : Bool) → x.settled ≡ s
        → order_of (if k then x ∷ filter keep xs else filter keep xs)
        ≡ map entry_of (if s then x ∷ filter (λ e. e.settled) xs else filter (λ e. e.settled) xs)
    go rest true k true s = rw s (ap (λ (es : List Entry). entry_of x ∷ es) rest)
    go rest true k false s = rw s rest
    go rest false k true s = cc (counts x s, k)
    go rest false k false s = rest

pub keeps_settled : (place : ℕ) (x : Effect) → x.settled ≡ true → not (is_pending_at place x) ≡ true
keeps_settled place x s = rw s (go (x.place == place))
  where
    go : (t : Bool) → not (t && false) ≡ true
    go true = refl
    go false = refl

pub order_without_pending : (place : ℕ) (effects : List Effect)
    → order_of (without_pending place effects) ≡ order_of effects
order_without_pending place effects = order_kept (λ e. not (is_pending_at place e)) effects (keeps_settled place)

pub order_settled_effects : (effects : List Effect) → order_of (settled_effects effects) ≡ order_of effects
order_settled_effects effects = order_kept (λ e. e.settled) effects (λ x s. s)

-- settling changes no entry
pub entries_with_settled : (place : ℕ) (effects : List Effect)
    → entries_of (with_settled place effects) ≡ entries_of effects
entries_with_settled place [] = refl
entries_with_settled place (x ∷ xs) = go (entries_with_settled place xs) (x.place == place)
  where
    go : entries_of (with_settled place xs) ≡ entries_of xs → (t : Bool)
        → (let y : Effect = if t then record x { settled = true } else x in
        entry_of y ∷ entries_of (with_settled place xs)) ≡ entries_of (x ∷ xs)
    go rest true = ap (λ (es : List Entry). entry_of x ∷ es) rest
    go rest false = ap (λ (es : List Entry). entry_of x ∷ es) rest

-- the entry of an effect, where it counts
abbrev pub entry_if_settled : Bool → Effect → List Entry → List Entry
entry_if_settled true x es = entry_of x ∷ es
entry_if_settled false x es = es

-- the order from its first effect on
pub order_first : (x : Effect) (xs : List Effect) → order_of (x ∷ xs) ≡ entry_if_settled x.settled x (order_of xs)
order_first x xs = go x.settled
  where
    go : (s : Bool) → map entry_of (if s then x ∷ filter (λ e. e.settled) xs else filter (λ e. e.settled) xs)
        ≡ entry_if_settled s x (order_of xs)
    go true = refl
    go false = refl

-- settling puts an entry in, where the call found the queue empty
pub part_with_settled : (place : ℕ) (effects : List Effect)
    → IsPartOf (order_of effects) (order_of (with_settled place effects))
part_with_settled place [] = nothing
part_with_settled place (x ∷ xs) = rw (order_first x xs)
    (go (part_with_settled place xs) (x.place == place) x.settled refl)
  where
    go : IsPartOf (order_of xs) (order_of (with_settled place xs)) → (t s : Bool) → x.settled ≡ s
        → IsPartOf (entry_if_settled s x (order_of xs))
        (let y : Effect = if t then record x { settled = true } else x in order_of (y ∷ with_settled place xs))
    go rest true true s = both (entry_of x) rest
    go rest true false s = more (entry_of x) rest
    go rest false true s = rw (order_first x (with_settled place xs), s) (both (entry_of x) rest)
    go rest false false s = rw (order_first x (with_settled place xs), s) rest

-- and no other entry than that of the call
pub with_settled_only : (place : ℕ) (effects : List Effect) (entry : Entry) → (entry.place ≡ place → ⊥)
    → IsIn entry (order_of (with_settled place effects)) → IsIn entry (order_of effects)
with_settled_only place [] entry other is = is
with_settled_only place (x ∷ xs) entry other is =
    rw (order_first x xs) (go (with_settled_only place xs entry other) (x.place == place) refl x.settled refl is)
  where
    later : (s : Bool) → IsIn entry (order_of xs) → IsIn entry (entry_if_settled s x (order_of xs))
    later true is = inr is
    later false is = is

    go : (IsIn entry (order_of (with_settled place xs)) → IsIn entry (order_of xs)) → (t : Bool)
        → (x.place == place) ≡ t → (s : Bool) → x.settled ≡ s
        → (let y : Effect = if t then record x { settled = true } else x in
        IsIn entry (order_of (y ∷ with_settled place xs))) → IsIn entry (entry_if_settled s x (order_of xs))
    go rest true t s is_s is = ⊎_elim (λ first. absurd
        (other (sym (ap (λ (e : Entry). e.place) first) ∙ eqb-true x.place place t))) (λ more. later s (rest more)) is
    go rest false t true s is = ⊎_elim (λ first. inl first) (λ more. inr (rest more))
        (subst (IsIn entry) (order_first x (with_settled place xs)
        ∙ ap (λ (b : Bool). entry_if_settled b x (order_of (with_settled place xs))) s) is)
    go rest false t false s is = rest (subst (IsIn entry)
        (order_first x (with_settled place xs)
        ∙ ap (λ (b : Bool). entry_if_settled b x (order_of (with_settled place xs))) s) is)

-- each entry of the order is of a settled effect
pub record IsOfEffect (effects : List Effect) (entry : Entry) : Type 0 where
  pub effect : Effect
  pub contained : Contains effects effect
  pub settled : effect.settled ≡ true
  pub same : entry_of effect ≡ entry

pub effect_of_entry : (effects : List Effect) (entry : Entry) → IsIn entry (order_of effects)
    → IsOfEffect effects entry
effect_of_entry [] entry is = absurd is
effect_of_entry (x ∷ xs) entry is = go x.settled refl (subst (IsIn entry) (order_first x xs) is)
    (effect_of_entry xs entry)
  where
    later : IsOfEffect xs entry → IsOfEffect (x ∷ xs) entry
    later of = record {
      effect = of.effect;
      contained = contains_from_in (x ∷ xs) of.effect (inr (in_from_contains xs of.effect of.contained));
      settled = of.settled;
      same = of.same;
    }

    go : (s : Bool) → x.settled ≡ s → IsIn entry (entry_if_settled s x (order_of xs))
        → (IsIn entry (order_of xs) → IsOfEffect xs entry) → IsOfEffect (x ∷ xs) entry
    go true s is rest = ⊎_elim (λ first. record {
      effect = x;
      contained = contains_from_in (x ∷ xs) x (inl refl);
      settled = s;
      same = first;
    }) (λ more. later (rest more)) is
    go false s is rest = later (rest is)

-- the entry of a settled effect is in the order
pub entry_in_order : (effects : List Effect) (x : Effect) → x.settled ≡ true → IsIn x effects
    → IsIn (entry_of x) (order_of effects)
entry_in_order [] x s is = absurd is
entry_in_order (y ∷ ys) x s is = rw (order_first y ys) (go y.settled refl is (entry_in_order ys x s))
  where
    go : (t : Bool) → y.settled ≡ t → IsIn x (y ∷ ys) → (IsIn x ys → IsIn (entry_of x) (order_of ys))
        → IsIn (entry_of x) (entry_if_settled t y (order_of ys))
    go true t is rest = ⊎_elim (λ first. inl (ap entry_of first)) (λ later. inr (rest later)) is
    go false t is rest = ⊎_elim (λ first. cc (ap (λ (e : Effect). e.settled) first, s, t)) rest is
