-- The calls of records, as more records are taken.
use Rattle.std.proofs.Common.{◌≡◌, ◌≢◌, ℕ, ◌+◌, inl, inr, List, [], ◌∷◌, ◌++◌, length, Some, refl, sym, ◌∙◌, ap, subst, arith}
use Rattle.std.specs.Prelude.{slice_get}
use Rattle.std.proofs.lemmas.Bool.{cases_lt}
use Rattle.std.proofs.lemmas.Option.{slice_get_within}
use Rattle.events.proofs.Facts.{get_last, get_longer, get_push_cases}
use Rattle.words.specs.declared.call.Client.{Client}
use Rattle.words.specs.declared.told.Told.{Told}
use Rattle.arena.specs.Shape.{Shape}
use Rattle.arena.specs.Words.{announcements}
use Rattle.arena.specs.declared.place.Place.{Place}
use Rattle.events.specs.Effects.{order_of}
use Rattle.events.specs.Telling.{IsToldSome, BeginsTold, HasNoneTaken, Says}
use Rattle.protocol.specs.Machine.{Trace}
use Rattle.protocol.specs.Announced.{IsCallOf, IsNobodys, IsToldOfCall, IsToldOfAnnounced}
use Rattle.protocol.specs.declared.Issued.{Issued}
use Rattle.protocol.specs.invariants.Told.{IsTold, Names, NamesNobody}

-- a call that takes another record leaves this record's call
pub call_stays : (issued : List Issued) (new : Issued) (token : ℕ) (call : Issued) → new.begun.token.0 ≢ token → IsCallOf issued token call → IsCallOf (issued ++ new ∷ []) token call
call_stays issued new token call other c = record {
  index = c.index;
  there = get_longer issued (new ∷ []) c.index call c.there;
  takes = c.takes;
  last = λ k later after at takes. elim (get_push_cases issued new k later at) [
    | inl old ↦ c.last k later after old takes
    | inr last ↦ other (ap (λ (x : Issued). x.begun.token.0) last.1 ∙ takes)
  ];
}

pub nobody_stays : (issued : List Issued) (new : Issued) (token : ℕ) → new.begun.token.0 ≢ token → IsNobodys issued token → IsNobodys (issued ++ new ∷ []) token
nobody_stays issued new token other h = record {
  none = λ k call at takes. elim (get_push_cases issued new k call at) [
    | inl old ↦ h.none k call old takes
    | inr last ↦ other (ap (λ (x : Issued). x.begun.token.0) last.1 ∙ takes)
  ];
}

-- the new one is its own record's
pub call_new : (issued : List Issued) (new : Issued) → IsCallOf (issued ++ new ∷ []) new.begun.token.0 new
call_new issued new = record {
  index = length issued;
  there = get_last issued new;
  takes = refl;
  last = λ k later after at takes. elim (get_push_cases issued new k later at) [
    | inl old ↦ omega (arith, after, slice_get_within issued k later old)
    | inr last ↦ omega (arith, after, last.0)
  ];
}

pub names_stay : (issued : List Issued) (new : Issued) (e t number p : ℕ) → (e ≢ 0 → new.begun.token.0 ≢ e) → Names issued e t number p → Names (issued ++ new ∷ []) e t number p
names_stay issued new e t number p other n = record { some = n.some; call = n.call; of = call_stays issued new e n.call (other n.some) n.of; own = n.own; number = n.number; place = n.place }

-- a record has one call
pub call_once : (issued : List Issued) (token : ℕ) (a b : Issued) → IsCallOf issued token a → IsCallOf issued token b → a ≡ b
call_once issued token a b x y = elim (cases_lt x.index y.index) [
  | inl lt ↦ absurd (x.last y.index b lt y.there y.takes)
  | inr ge ↦ elim (cases_lt y.index x.index) [
    | inl lt ↦ absurd (y.last x.index a lt x.there x.takes)
    | inr le ↦
        let same : x.index ≡ y.index = omega (arith, ge, le) in
        let here : Some a ≡ Some b = sym x.there ∙ ap (slice_get issued) same ∙ y.there in
        cc
  ]
]

pub names_nobody_still : (issued : List Issued) (new : Issued) (e : ℕ) → new.begun.token.0 ≢ e → NamesNobody issued e → NamesNobody (issued ++ new ∷ []) e
names_nobody_still issued new e other (inl z) = inl z
names_nobody_still issued new e other (inr h) = inr (nobody_stays issued new e other h)

-- it has a call or none
pub nobody_calls : (issued : List Issued) (token : ℕ) (call : Issued) → token ≢ 0 → IsCallOf issued token call → NamesNobody issued token → ⊥
nobody_calls issued token call some of (inl z) = some z
nobody_calls issued token call some of (inr n) = n.none of.index call of.there of.takes

-- a client that is told rightly of a record is told of that record's call
pub told_of_announced : (s : Shape) (kept : Place → ℕ) (base : List Told) (log : Trace) (client : Client) (told : Told)
    → IsTold s.kind base log.issued (announcements kept client.0) log.events (order_of log.effects) client told → IsToldOfAnnounced s kept base log client told
told_of_announced s kept base log client told tells = record {
  of_call = λ call some of. elim tells [
    | inl h ↦
        let same : h.1.call ≡ call = call_once log.issued (announcements kept client.0) h.1.call call h.1.of of in
        subst (λ (c : Issued). IsToldOfCall s.kind log.events (order_of log.effects) client c told) same (of_its_call s log client told h.1.call h.0 h.1.own h.1.number h.1.place)
    | inr h ↦ absurd (nobody_calls log.issued (announcements kept client.0) call some of h.1)
  ];
  of_base = λ nobody. elim tells [
    | inl h ↦ absurd (nobody_calls log.issued (announcements kept client.0) h.1.call h.1.some h.1.of nobody)
    | inr h ↦ h.0
  ];
}
  where
    of_its_call : (s : Shape) (log : Trace) (client : Client) (told : Told) (call : Issued) (x : IsToldSome s.kind log.events (order_of log.effects) client (length log.events) told)
        → call.begun.client.0 ≡ client.0 → call.begun.number ≡ x.tells.number → call.place ≡ x.place → IsToldOfCall s.kind log.events (order_of log.effects) client call told
    of_its_call s log client told call x own number place = record {
      own = ap (λ (t : ℕ). let c : Client = record { 0 = t } in c) own;
      tells = record { number = x.tells.number; begins = subst (λ p. BeginsTold s.kind log.events client p x.tells.number) (sym place) x.tells.begins; last = subst (λ p. HasNoneTaken s.kind log.events (order_of log.effects) client (p + 1) (length log.events)) (sym place) x.tells.last; says = subst (λ p. Says s.kind (order_of log.effects) p x.tells.number told) (sym place) x.tells.says };
      number = number;
    }
