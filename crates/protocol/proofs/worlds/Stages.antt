-- How far the log says that the call at a place has come.
use Rattle.std.proofs.Common.{◌≡◌, ◌≢◌, ℕ, inl, inr, List, [], ◌∷◌, ◌++◌, Bool, true, false, not, ◌&&◌, if◌then◌else◌, ◌==◌, refl, sym, ◌∙◌, ap, subst}
use Rattle.std.specs.Prelude.{All}
use Rattle.std.specs.List.{AllByRecursion}
use Rattle.std.proofs.lemmas.Bool.{eqb-true, eqb-false, eq-eqb, ne_eqb}
use Rattle.std.proofs.lemmas.List.Elements.{All-nil, All-cons, recursion_from_All}
use Rattle.words.specs.declared.call.Reply.{Reply}
use Rattle.words.specs.declared.call.Reply.TheVariants.{Empty}
use Rattle.events.specs.Effects.{entry_of, order_of, without_pending, with_settled}
use Rattle.events.specs.declared.event.Effect.{Effect}
use Rattle.events.specs.declared.event.Entry.{Entry}
use Rattle.events.specs.Orders.{IsTakenAs, InOrder}
use Rattle.events.proofs.Facts.{IsIn, contains_from_in, entry_if_settled, entry_in_order, in_from_contains}
use Rattle.events.proofs.Facts.{in_order_from_taken, order_first, taken_from_in_order}
use Rattle.protocol.specs.invariants.Ledger.{Stage, seen_or, stage_by, stage_at}
use Rattle.protocol.specs.invariants.Ledger.Stage.{Unmoved, Seen, Took}

seen_moved : (st : Stage) → seen_or st ≢ Unmoved
seen_moved Unmoved e = cc
seen_moved Seen e = cc
seen_moved (Took r) e = cc

by_moved : (e : Effect) (st : Stage) → stage_by e st ≢ Unmoved
by_moved e st = go e.settled
  where
    go : (t : Bool) → (if t then Took e.reply else seen_or st) ≢ Unmoved
    go true q = cc
    go false q = seen_moved st q

-- an unmoved call has no effect
pub none_of_unmoved : (p : ℕ) (es : List Effect) → stage_at p es ≡ Unmoved → All (λ x. x.place ≢ p) es
none_of_unmoved p [] h = All-nil (λ (x : Effect). x.place ≢ p)
none_of_unmoved p (e ∷ es) h = go (λ f. none_of_unmoved p es f) (e.place == p) refl h
  where
    go : (stage_at p es ≡ Unmoved → All (λ x. x.place ≢ p) es) → (t : Bool) → (e.place == p) ≡ t → (if t then stage_by e (stage_at p es) else stage_at p es) ≡ Unmoved → All (λ x. x.place ≢ p) (e ∷ es)
    go rest true q f = absurd (by_moved e (stage_at p es) f)
    go rest false q f = All-cons (λ (x : Effect). x.place ≢ p) e es (eqb-false e.place p q) (rest f)

unmoved_by : (p : ℕ) (xs : List Effect) → AllByRecursion (λ (x : Effect). x.place ≢ p) xs → stage_at p xs ≡ Unmoved
unmoved_by p [] h = refl
unmoved_by p (e ∷ xs) h = rw (ne_eqb e.place p h.0) (unmoved_by p xs h.1)

pub unmoved_of_none : (p : ℕ) (es : List Effect) → All (λ x. x.place ≢ p) es → stage_at p es ≡ Unmoved
unmoved_of_none p es h = unmoved_by p es (recursion_from_All (λ (x : Effect). x.place ≢ p) es h)

-- a later effect of another call
pub stage_push_other : (p : ℕ) (es : List Effect) (x : Effect) → x.place ≢ p → stage_at p (es ++ x ∷ []) ≡ stage_at p es
stage_push_other p [] x ne = rw (ne_eqb x.place p ne) refl
stage_push_other p (e ∷ es) x ne = ap (λ st. if e.place == p then stage_by e st else st) (stage_push_other p es x ne)

-- the first effect of a call
pub stage_push : (p : ℕ) (es : List Effect) (x : Effect) → x.place ≡ p → stage_at p es ≡ Unmoved → stage_at p (es ++ x ∷ []) ≡ stage_by x Unmoved
stage_push p [] x at h = rw (eq-eqb x.place p at) refl
stage_push p (e ∷ es) x at h = go (λ f. stage_push p es x at f) (e.place == p) refl h
  where
    go : (stage_at p es ≡ Unmoved → stage_at p (es ++ x ∷ []) ≡ stage_by x Unmoved) → (t : Bool) → (e.place == p) ≡ t → (if t then stage_by e (stage_at p es) else stage_at p es) ≡ Unmoved
        → (if t then stage_by e (stage_at p (es ++ x ∷ [])) else stage_at p (es ++ x ∷ [])) ≡ stage_by x Unmoved
    go rest true q f = absurd (by_moved e (stage_at p es) f)
    go rest false q f = rest f

-- what was found and does not count is forgotten
abbrev pub unseen : Stage → Stage
unseen Seen = Unmoved
unseen st = st

unseen_or : (st : Stage) → unseen (seen_or st) ≡ unseen st
unseen_or Unmoved = refl
unseen_or Seen = refl
unseen_or (Took r) = refl

pub stage_forgotten : (p : ℕ) (es : List Effect) → stage_at p (without_pending p es) ≡ unseen (stage_at p es)
stage_forgotten p [] = refl
stage_forgotten p (e ∷ es) = go (stage_forgotten p es) (e.place == p) refl e.settled refl
  where
    go : (stage_at p (without_pending p es) ≡ unseen (stage_at p es)) → (t : Bool) → (e.place == p) ≡ t → (s : Bool) → e.settled ≡ s
        → stage_at p (if not (t && not s) then e ∷ without_pending p es else without_pending p es) ≡ unseen (if t then (if s then Took e.reply else seen_or (stage_at p es)) else stage_at p es)
    go rest true q true f = rw (q, f) refl
    go rest true q false f = rest ∙ sym (unseen_or (stage_at p es))
    go rest false q true f = rw q rest
    go rest false q false f = rw q rest

pub stage_forgotten_other : (p q : ℕ) (es : List Effect) → q ≢ p → stage_at q (without_pending p es) ≡ stage_at q es
stage_forgotten_other p q [] ne = refl
stage_forgotten_other p q (e ∷ es) ne = go (stage_forgotten_other p q es ne) (e.place == p) refl e.settled
  where
    go : (stage_at q (without_pending p es) ≡ stage_at q es) → (t : Bool) → (e.place == p) ≡ t → (s : Bool)
        → stage_at q (if not (t && not s) then e ∷ without_pending p es else without_pending p es) ≡ (if e.place == q then stage_by e (stage_at q es) else stage_at q es)
    go rest true f true = ap (λ st. if e.place == q then stage_by e st else st) rest
    go rest true f false = rw (ne_eqb e.place q (λ g. ne (sym g ∙ eqb-true e.place p f))) rest
    go rest false f s = ap (λ st. if e.place == q then stage_by e st else st) rest

pub stage_settled_other : (p q : ℕ) (es : List Effect) → q ≢ p → stage_at q (with_settled p es) ≡ stage_at q es
stage_settled_other p q [] ne = refl
stage_settled_other p q (e ∷ es) ne = go (stage_settled_other p q es ne) (e.place == p) refl
  where
    go : (stage_at q (with_settled p es) ≡ stage_at q es) → (t : Bool) → (e.place == p) ≡ t → stage_at q ((if t then record e { settled = true } else e) ∷ with_settled p es) ≡ (if e.place == q then stage_by e (stage_at q es) else stage_at q es)
    go rest true f = let ne2 : e.place ≢ q = λ g. ne (sym g ∙ eqb-true e.place p f) in rw (ne_eqb e.place q ne2) rest
    go rest false f = ap (λ st. if e.place == q then stage_by e st else st) rest

settled_by : (p : ℕ) (xs : List Effect) → AllByRecursion (λ (x : Effect). x.settled ≡ false → x.reply ≡ Empty) xs → stage_at p xs ≡ Seen → stage_at p (with_settled p xs) ≡ Took Empty
settled_by p [] h seen = absurd (cc)
settled_by p (e ∷ xs) h seen = first (λ q. settled_by p xs h.1 q) (e.place == p) refl e.settled refl seen
  where
    first : (stage_at p xs ≡ Seen → stage_at p (with_settled p xs) ≡ Took Empty) → (t : Bool) → (e.place == p) ≡ t → (s : Bool) → e.settled ≡ s
        → (if t then (if s then Took e.reply else seen_or (stage_at p xs)) else stage_at p xs) ≡ Seen
        → stage_at p ((if t then record e { settled = true } else e) ∷ with_settled p xs) ≡ Took Empty
    first rest true f true g q = absurd (cc)
    first rest true f false g q = rw f (ap Took (h.0 g))
    first rest false f s g q = rw f (rest q)

-- what a dequeue found counts
pub stage_settled : (p : ℕ) (es : List Effect) → All (λ x. x.settled ≡ false → x.reply ≡ Empty) es → stage_at p es ≡ Seen → stage_at p (with_settled p es) ≡ Took Empty
stage_settled p es h seen = settled_by p es (recursion_from_All (λ (x : Effect). x.settled ≡ false → x.reply ≡ Empty) es h) seen

took_not_seen : (st : Stage) (reply : Reply) → seen_or st ≡ Took reply → st ≡ Took reply
took_not_seen Unmoved reply q = absurd (cc)
took_not_seen Seen reply q = absurd (cc)
took_not_seen (Took r) reply q = q

in_order : (p : ℕ) (reply : Reply) (xs : List Effect) → stage_at p xs ≡ Took reply → IsIn (record { place = p; reply = reply }) (order_of xs)
in_order p reply [] h = absurd (cc)
in_order p reply (e ∷ xs) h = first (λ q. in_order p reply xs q) (e.place == p) refl e.settled refl h
  where
    later : IsIn (record { place = p; reply = reply }) (order_of xs) → (s : Bool) → IsIn (record { place = p; reply = reply }) (entry_if_settled s e (order_of xs))
    later is true = inr is
    later is false = is

    first : (stage_at p xs ≡ Took reply → IsIn (record { place = p; reply = reply }) (order_of xs)) → (t : Bool) → (e.place == p) ≡ t → (s : Bool) → e.settled ≡ s
        → (if t then (if s then Took e.reply else seen_or (stage_at p xs)) else stage_at p xs) ≡ Took reply
        → IsIn (record { place = p; reply = reply }) (order_of (e ∷ xs))
    first rest true f true g q =
        let same : reply ≡ e.reply = cc in
        let is : entry_of e ≡ record { place = p; reply = reply } = ap (λ (x : ℕ). let en : Entry = record { place = x; reply = e.reply } in en) (eqb-true e.place p f)
        ∙ ap (λ (x : Reply). let en : Entry = record { place = p; reply = x } in en) (sym same) in
        subst (λ en. IsIn en (order_of (e ∷ xs))) is (entry_in_order (e ∷ xs) e g (inl refl))
    first rest true f false g q = rw (order_first e xs) (later (rest (took_not_seen (stage_at p xs) reply q)) e.settled)
    first rest false f s g q = rw (order_first e xs) (later (rest q) e.settled)

-- a call that took effect is in the order with its reply
pub taken_as_took : (p : ℕ) (reply : Reply) (es : List Effect) → stage_at p es ≡ Took reply → IsTakenAs (order_of es) p reply
taken_as_took p reply es h = contains_from_in (order_of es) (record { place = p; reply = reply }) (in_order p reply es h)

took_in : (entry : Entry) (es : List Effect) → IsIn entry (order_of es) → (reply : Reply) × (stage_at entry.place es ≡ Took reply)
took_in entry [] h = absurd h
took_in entry (e ∷ es) h = go (λ q. took_in entry es q) (e.place == entry.place) refl e.settled refl (subst (IsIn entry) (order_first e es) h)
  where
    kept : (st : Stage) (reply : Reply) → st ≡ Took reply → seen_or st ≡ Took reply
    kept Unmoved reply q = absurd (cc)
    kept Seen reply q = absurd (cc)
    kept (Took r) reply q = q

    go : (IsIn entry (order_of es) → (reply : Reply) × (stage_at entry.place es ≡ Took reply)) → (t : Bool) → (e.place == entry.place) ≡ t → (s : Bool) → e.settled ≡ s → IsIn entry (entry_if_settled e.settled e (order_of es))
        → (reply : Reply) × ((if t then (if s then Took e.reply else seen_or (stage_at entry.place es)) else stage_at entry.place es) ≡ Took reply)
    go rest true f true g q = (e.reply, refl)
    go rest true f false g q =
        let r : (reply : Reply) × (stage_at entry.place es ≡ Took reply) = rest (subst (λ x. IsIn entry (entry_if_settled x e (order_of es))) g q) in
        (r.0, kept (stage_at entry.place es) r.0 r.1)
    go rest false f true g q = elim (subst (λ x. IsIn entry (entry_if_settled x e (order_of es))) g q) [
      | inl first ↦ absurd (eqb-false e.place entry.place f (ap (λ x. x.place) first))
      | inr later ↦ rest later
    ]
    go rest false f false g q = rest (subst (λ x. IsIn entry (entry_if_settled x e (order_of es))) g q)

-- a call that is in the order took effect
pub stage_in_order : (p : ℕ) (es : List Effect) → InOrder (order_of es) p → (reply : Reply) × (stage_at p es ≡ Took reply)
stage_in_order p es h =
    let t : (reply : Reply) × IsTakenAs (order_of es) p reply = taken_from_in_order (order_of es) p h in
    took_in (record { place = p; reply = t.0 }) es (in_from_contains (order_of es) (record { place = p; reply = t.0 }) t.1)

pub in_order_stage : (p : ℕ) (reply : Reply) (es : List Effect) → stage_at p es ≡ Took reply → InOrder (order_of es) p
in_order_stage p reply es h = in_order_from_taken (order_of es) p reply (taken_as_took p reply es h)
