-- What one changed word leaves of the others.
use Rattle.std.proofs.Common.{◌≡◌, ◌≢◌, ℕ, ◌+◌, ◌*◌, ◌≤◌, ◌<◌, ◌⊎◌, inl, inr, List, refl, sym, ◌∙◌, ap, subst, arith}
use Rattle.std.proofs.lemmas.Bool.{cases_Bool, cases_eq, false≢true}
use mathlib.Core.Path.{fun_ext}
use Rattle.arena.specs.declared.place.Part.TheVariants.{Length, First, Second, Third}
use Rattle.words.specs.Item.{AreParts}
use Rattle.words.proofs.Facts.{parts_blank, parts_cut}
use Rattle.words.specs.declared.call.NodeId.{NodeId}
use Rattle.arena.specs.declared.place.Part.{Part}
use Rattle.words.specs.declared.call.Kind.{Kind}
use Rattle.words.specs.declared.call.Kind.TheVariants.{Durable, Log}
use Rattle.words.specs.declared.call.Token.{Token}
use Rattle.arena.specs.Answers.{empty_answer_of}
use Rattle.arena.specs.Place.{is_same, is_same-true, is_same-from, number_of}
use Rattle.arena.specs.Ranges.{Fits, IsReadByCalls}
use Rattle.arena.specs.Shape.{Shape, owner}
use Rattle.arena.specs.Words.{links, marks, bumps, announcements, part_at, values, HoldsItem}
use Rattle.arena.specs.declared.place.Place.{Place}
use Rattle.arena.specs.declared.place.Place.TheVariants.{Announcement, Bump, Cell, Status, Item}
use Rattle.helping.specs.Table.{token_of}
use Rattle.protocol.specs.Machine.{Memory, put, with_fence}
use Rattle.sound_words.specs.Sound.{IsIssued, IsOwn}
use Rattle.protocol.specs.invariants.Ledger.{Ledger}
use Rattle.protocol.specs.invariants.Places.{IsOfRecord, IsOfKind, empties}
use Rattle.protocol.specs.invariants.Base.{Blank, Absent, AllFit, IsMessage, Base}

pub put_same : (f : Place → ℕ) (p : Place) (v : ℕ) → put f p v p ≡ v
put_same f p v = rw (is_same-from p p refl) refl

pub put_other : (f : Place → ℕ) (p : Place) (v : ℕ) (q : Place) → q ≢ p → put f p v q ≡ f q
put_other f p v q ne = elim (cases_Bool (is_same p q)) [
  | inl e ↦ absurd (ne (sym (is_same-true p q e)))
  | inr e ↦ rw e refl
]

pub put_cases : (f : Place → ℕ) (p : Place) (v : ℕ) (q : Place) → ((q ≡ p) × (put f p v q ≡ v)) ⊎ ((q ≢ p) × (put f p v q ≡ f q))
put_cases f p v q = elim (cases_Bool (is_same p q)) [
  | inl e ↦ inl (sym (is_same-true p q e), rw e refl)
  | inr e ↦ inr (λ s. false≢true (sym e ∙ is_same-from p q (sym s)), rw e refl)
]

-- the messages of nodes whose parts are the same
pub values_same : (f g : Place → ℕ) (x : ℕ) → ((part : Part) → part_at f x part ≡ part_at g x part) → values f x ≡ values g x
values_same f g x same = cc (same Length, same First, same Second, same Third)

-- a part of one node's message that is changed leaves the parts of the others
pub parts_elsewhere : (f : Place → ℕ) (n : NodeId) (part : Part) (v x : ℕ) → x ≢ n.0 → (other : Part) → part_at (put f (Item n part) v) x other ≡ part_at f x other
parts_elsewhere f n part v x ne other = put_other f (Item n part) v (Item (record { 0 = x }) other) (λ e. ne (ap number_of e))

pub values_elsewhere : (f : Place → ℕ) (n : NodeId) (part : Part) (v x : ℕ) → x ≢ n.0 → values (put f (Item n part) v) x ≡ values f x
values_elsewhere f n part v x ne = values_same (put f (Item n part) v) f x (parts_elsewhere f n part v x ne)

-- a word that is kept leaves the kept parts of a node whose cached ones are the same
pub parts_fenced : (m : Memory) (p : Place) (x : ℕ) → ((part : Part) → part_at m.cached x part ≡ part_at m.kept x part)
    → (part : Part) → part_at (with_fence m p).kept x part ≡ part_at m.kept x part
parts_fenced m p x same part = elim (put_cases m.kept p (m.cached p) (Item (record { 0 = x }) part)) [
  | inl t ↦ t.1 ∙ ap m.cached (sym t.0) ∙ same part
  | inr t ↦ t.1
]

pub values_fenced : (m : Memory) (p : Place) (x : ℕ) → ((part : Part) → part_at m.cached x part ≡ part_at m.kept x part)
    → values (with_fence m p).kept x ≡ values m.kept x
values_fenced m p x same = values_same (with_fence m p).kept m.kept x (parts_fenced m p x same)

-- what is said of a message is said of one with the same words
pub message_same : (m n : Memory) (x : ℕ) → ((part : Part) → part_at n.cached x part ≡ part_at m.cached x part)
    → ((part : Part) → part_at n.kept x part ≡ part_at m.kept x part) → IsMessage m x → IsMessage n x
message_same m n x cached kept h = record {
  item = rw (cached Length, cached First, cached Second, cached Third) h.item;
  stays = λ part. elim (h.stays part) [
    | inl same ↦ inl (kept part ∙ same ∙ sym (cached part))
    | inr none ↦ inr (kept part ∙ none)
  ];
  sized = λ part word some. kept Length ∙ h.sized part word (λ z. some (cached part ∙ z)) ∙ sym (cached Length);
}

-- a part of a message is stored, and what is said of that message holds still
pub messages_put : (m : Memory) (n : NodeId) (part : Part) (v : ℕ) → IsMessage (record { cached = put m.cached (Item n part) v; kept = m.kept }) n.0
    → ((x : ℕ) → IsMessage m x) → (x : ℕ) → IsMessage (record { cached = put m.cached (Item n part) v; kept = m.kept }) x
messages_put m n part v here all x = elim (cases_eq x n.0) [
  | inl e ↦ subst (IsMessage (record { cached = put m.cached (Item n part) v; kept = m.kept })) (sym e) here
  | inr ne ↦
      message_same m (record { cached = put m.cached (Item n part) v; kept = m.kept }) x (parts_elsewhere m.cached n part v x ne) (λ other. refl) (all x)
]

-- a word becomes kept
pub messages_fenced : (m : Memory) (p : Place) → ((x : ℕ) → IsMessage m x) → (x : ℕ) → IsMessage (with_fence m p) x
messages_fenced m p all x =
    let h : IsMessage m x = all x in
    record {
      item = h.item;
      stays = λ part. elim (put_cases m.kept p (m.cached p) (Item (record { 0 = x }) part)) [
        | inl t ↦ inl (t.1 ∙ ap m.cached (sym t.0))
        | inr t ↦ elim (h.stays part) [ inl same ↦ inl (t.1 ∙ same) | inr none ↦ inr (t.1 ∙ none) ]
      ];
      sized = λ part word some. elim (put_cases m.kept p (m.cached p) (Item (record { 0 = x }) Length)) [
        | inl t ↦ t.1 ∙ ap m.cached (sym t.0)
        | inr t ↦ t.1 ∙ h.sized part word some
      ];
    }

-- a message's kept words are an item's, too
pub kept_item : (m : Memory) (x : ℕ) → IsMessage m x → HoldsItem m.kept x
kept_item m x h = go (cases_eq (part_at m.cached x First) 0) (cases_eq (part_at m.cached x Second) 0) (cases_eq (part_at m.cached x Third) 0)
  where
    -- the length is kept, and each word is the cached one or 0
    whole : part_at m.kept x Length ≡ part_at m.cached x Length → HoldsItem m.kept x
    whole same =
        subst (λ len. AreParts len (part_at m.kept x First) (part_at m.kept x Second) (part_at m.kept x Third)) (sym same)
        (parts_cut (part_at m.cached x Length) (part_at m.cached x First) (part_at m.cached x Second) (part_at m.cached x Third)
        (part_at m.kept x First) (part_at m.kept x Second) (part_at m.kept x Third) h.item (h.stays First) (h.stays Second) (h.stays Third))

    -- no word is cached, and none is kept
    none : (part : Part) → part_at m.cached x part ≡ 0 → part_at m.kept x part ≡ 0
    none part z = elim (h.stays part) [ inl same ↦ same ∙ z | inr zero ↦ zero ]

    short : part_at m.kept x Length ≤ 24
    short = elim (h.stays Length) [
      | inl same ↦ (let few = h.item.short in omega (arith, same, few))
      | inr zero ↦ omega (arith, zero)
    ]

    go : (part_at m.cached x First ≡ 0) ⊎ (part_at m.cached x First ≢ 0) → (part_at m.cached x Second ≡ 0) ⊎ (part_at m.cached x Second ≢ 0)
        → (part_at m.cached x Third ≡ 0) ⊎ (part_at m.cached x Third ≢ 0) → HoldsItem m.kept x
    go (inr some) second third = whole (h.sized First (λ e. cc) some)
    go (inl a) (inr some) third = whole (h.sized Second (λ e. cc) some)
    go (inl a) (inl b) (inr some) = whole (h.sized Third (λ e. cc) some)
    go (inl a) (inl b) (inl c) = rw (none First a, none Second b, none Third c) (parts_blank (part_at m.kept x Length) short)

-- what holds of every word holds of every word still
pub put_all : (P : Place → ℕ → Type 0) (f : Place → ℕ) (p : Place) (v : ℕ) → ((q : Place) → P q (f q)) → P p v → (q : Place) → P q (put f p v q)
put_all P f p v all now q = elim (put_cases f p v q) [
  | inl s ↦ subst (P q) (sym s.1) (subst (λ x. P x v) (sym s.0) now)
  | inr s ↦ subst (P q) (sym s.1) (all q)
]

-- a word that is stored what it has
pub put_id : (f : Place → ℕ) (p : Place) (v : ℕ) → v ≡ f p → put f p v ≡ f
put_id f p v e = fun_ext (λ q. elim (put_cases f p v q) [ inl s ↦ s.1 ∙ e ∙ ap f (sym s.0) | inr s ↦ s.1 ])

pub put_blank : (s : Shape) (g f : Place → ℕ) (p : Place) (v : ℕ) → (IsOfRecord p → number_of p ≢ 0 → (IsIssued s g (number_of p) → ⊥) → v ≡ 0) → Blank s g f → Blank s g (put f p v)
put_blank s g f p v now b = put_all (λ q x. IsOfRecord q → number_of q ≢ 0 → (IsIssued s g (number_of q) → ⊥) → x ≡ 0) f p v b now

-- where no bump word falls, what is issued stays so
pub issued_more : (s : Shape) (k n : Place → ℕ) → ((t : ℕ) → bumps k t ≤ bumps n t) → (c : ℕ) → IsIssued s k c → IsIssued s n c
issued_more s k n more c i = record {
  is_record = i.is_record;
  used = go (owner s c * s.records) (bumps k (owner s c)) (bumps n (owner s c)) i.used (more (owner s c));
}
  where
    go : (x y z : ℕ) → c < 1 + x + y → y ≤ z → c < 1 + x + z
    go x y z h le = omega (arith, h, le)

pub own_more : (s : Shape) (k n : Place → ℕ) → ((t : ℕ) → bumps k t ≤ bumps n t) → (t c : ℕ) → IsOwn s k t c → IsOwn s n t c
own_more s k n more t c h = record { issued = issued_more s k n more c h.issued; owned = h.owned }

-- the more are issued, the fewer have to be blank
pub more_blank : (s : Shape) (g h f : Place → ℕ) → ((c : ℕ) → IsIssued s g c → IsIssued s h c) → Blank s g f → Blank s h f
more_blank s g h f more b p of some none = b p of some (λ i. none (more (number_of p) i))

pub put_absent : (s : Shape) (f : Place → ℕ) (p : Place) (v : ℕ) → ((IsOfKind s.kind p → ⊥) → v ≡ 0) → Absent s f → Absent s (put f p v)
put_absent s f p v now b = put_all (λ q x. (IsOfKind s.kind q → ⊥) → x ≡ 0) f p v b now

pub put_fits : (s : Shape) (f : Place → ℕ) (p : Place) (v : ℕ) → (IsReadByCalls p → Fits s p v) → AllFit s f → AllFit s (put f p v)
put_fits s f p v now b = put_all (λ q x. IsReadByCalls q → Fits s q x) f p v b now

-- a word that may say that a dequeue found nothing
abbrev pub IsEmptyWord : Place → Type 0
IsEmptyWord (Cell c) = Unit {0}
IsEmptyWord (Status e) = Unit {0}
IsEmptyWord _ = ⊥

pub empty_word : (kind : Kind) (t : Token) → IsEmptyWord (empty_answer_of kind t).place
empty_word Durable t = tt
empty_word Log t = tt

-- any other word leaves them
pub put_empties : (s : Shape) (f : Place → ℕ) (p : Place) (v : ℕ) → (IsEmptyWord p → ⊥) → empties s (put f p v) ≡ empties s f
put_empties s f p v none = fun_ext (λ c. put_other f p v (empty_answer_of s.kind (token_of c)).place (λ e. none (subst IsEmptyWord e (empty_word s.kind (token_of c)))))

-- what the base says of issued records, where the kept words are these
pub record Issues (s : Shape) (m : Memory) (n : Place → ℕ) : Type 0 where
  pub issued_link : (j : ℕ) → links m.cached j ≢ 0 → IsIssued s n (links m.cached j)
  pub issued_mark : (j : ℕ) → marks m.cached j ≢ 0 → IsIssued s n (marks m.cached j)
  pub announced : (t : ℕ) → announcements m.cached t ≢ 0 → IsOwn s n t (announcements m.cached t)
  pub announced_kept : (t : ℕ) → announcements n t ≢ 0 → IsOwn s n t (announcements n t)
  pub blank : Blank s n m.cached
  pub blank_kept : Blank s n n

-- it says so still when a word is kept
pub issues_fenced : (s : Shape) (m : Memory) (l : Ledger) (claimed waiting : List ℕ) → Base s m l claimed waiting → (p : Place) → Issues s m (with_fence m p).kept
issues_fenced s m l claimed waiting b p = record {
  issued_link = λ j some. issued_more s m.kept (with_fence m p).kept more (links m.cached j) (b.issued_link j some);
  issued_mark = λ j some. issued_more s m.kept (with_fence m p).kept more (marks m.cached j) (b.issued_mark j some);
  announced = λ t some. own_more s m.kept (with_fence m p).kept more t (announcements m.cached t) (b.announced t some);
  announced_kept = λ t. elim (put_cases m.kept p (m.cached p) (Announcement (record { 0 = t }))) [
    | inl q ↦ subst (λ e. e ≢ 0 → IsOwn s (with_fence m p).kept t e) (sym (q.1 ∙ ap m.cached (sym q.0)))
        (λ some. own_more s m.kept (with_fence m p).kept more t (announcements m.cached t) (b.announced t some))
    | inr q ↦ subst (λ e. e ≢ 0 → IsOwn s (with_fence m p).kept t e) (sym q.1)
        (λ some. own_more s m.kept (with_fence m p).kept more t (announcements m.kept t) (b.announced_kept t some))
  ];
  blank = more_blank s m.kept (with_fence m p).kept m.cached (issued_more s m.kept (with_fence m p).kept more) b.blank;
  blank_kept = put_blank s (with_fence m p).kept m.kept p (m.cached p)
      (λ of some none. b.blank p of some (λ i. none (issued_more s m.kept (with_fence m p).kept more (number_of p) i)))
      (more_blank s m.kept (with_fence m p).kept m.kept (issued_more s m.kept (with_fence m p).kept more) b.blank_kept);
}
  where
    more : (t : ℕ) → bumps m.kept t ≤ bumps (with_fence m p).kept t
    more t = elim (put_cases m.kept p (m.cached p) (Bump (record { 0 = t }))) [
      | inl q ↦ subst (λ x. bumps m.kept t ≤ x) (sym (q.1 ∙ ap m.cached (sym q.0))) (b.kept_bump t)
      | inr q ↦ subst (λ x. bumps m.kept t ≤ x) (sym q.1) (omega arith)
    ]
