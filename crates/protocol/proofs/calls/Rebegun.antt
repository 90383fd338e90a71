-- A client's call ends, or begins: what the ledger says of that client alone changes.
use Rattle.std.proofs.Common.{◌≡◌, ◌≢◌, ℕ, ◌+◌, ◌-◌, ◌*◌, ◌/◌, ◌≤◌, ◌<◌, ◌⊎◌, inl, inr, List, refl, sym, ◌∙◌, ap, subst, arith}
use Rattle.std.proofs.lemmas.Bool.{cases_eq}
use Rattle.std.proofs.lemmas.Nat.{div-mul-add}
use Rattle.words.specs.declared.call.Reply.{Reply}
use Rattle.words.specs.declared.call.Reply.TheVariants.{Done, Got, Empty}
use Rattle.words.specs.declared.call.Kind.{Kind}
use Rattle.words.specs.declared.call.Kind.TheVariants.{Durable, Log}
use Rattle.words.specs.declared.call.Token.{Token}
use Rattle.arena.specs.Answers.{empty_answer_of}
use Rattle.arena.specs.Place.{number_of}
use Rattle.arena.specs.Shape.{Shape, owner, record_of}
use Rattle.arena.specs.Words.{links, marks, values, bumps}
use Rattle.arena.specs.declared.place.Place.{Place}
use Rattle.stepper.specs.declared.prepare.Begun.{Begun}
use Rattle.helping.specs.Table.{token_of}
use Rattle.protocol.specs.Machine.{Memory}
use Rattle.sound_words.specs.Sound.{IsIssued}
use Rattle.protocol.proofs.chain.Chains.{upd, upd_at, upd_other}
use Rattle.protocol.specs.invariants.Ledger.{Stage, Ledger, held_token}
use Rattle.protocol.specs.invariants.Places.{IsOfRecord, SaysEmpty, empties}
use Rattle.protocol.specs.invariants.Base.{IsLinking, IsClaiming, IsAnswering, Empties, Base}
use Rattle.protocol.specs.invariants.Knows.{Loose}
use Rattle.protocol.specs.invariants.Grows.{Grows}
use Rattle.protocol.specs.invariants.Ledger.Stage.{Unmoved, Seen, Took}
use Rattle.protocol.proofs.calls.Stable.{empty_number}
use Rattle.protocol.proofs.changes.Stores.{none_grows}

-- client i has this record, and its call took no effect
abbrev pub rebegun : Ledger → ℕ → Begun → Ledger
rebegun l i b = record { begun = upd l.begun i b; stage = upd l.stage i Unmoved; queue = l.queue }

-- the record is none, or nothing that is kept names it
pub record IsNew (s : Shape) (m : Memory) (c : ℕ) : Type 0 where
  pub link : (n : ℕ) → links m.kept n ≢ 0 → links m.kept n ≢ c
  pub mark : (n : ℕ) → marks m.kept n ≢ 0 → marks m.kept n ≢ c
  pub silent : c ≢ 0 → SaysEmpty s m.kept c → ⊥

-- the client has no call, or its call took effect
abbrev pub IsThrough : Ledger → ℕ → Type 0
IsThrough l i = ((held_token l i ≡ 0) × (l.stage i ≡ Unmoved)) ⊎ record { reply : Reply; took : l.stage i ≡ Took reply }

through_moved : (l : Ledger) (i c : ℕ) → IsThrough l i → c ≢ 0 → held_token l i ≡ c → l.stage i ≡ Unmoved → ⊥
through_moved l i c (inl h) some holds un = some (sym holds ∙ h.0)
through_moved l i c (inr h) some holds un = let wrong : Unmoved ≡ Took h.reply = sym un ∙ h.took in cc

through_seen : (l : Ledger) (i : ℕ) → IsThrough l i → l.stage i ≡ Seen → ⊥
through_seen l i (inl h) seen = let wrong : Seen ≡ Unmoved = sym seen ∙ h.1 in cc
through_seen l i (inr h) seen = let wrong : Seen ≡ Took h.reply = sym seen ∙ h.took in cc

module _ (s : Shape) (m : Memory) (l : Ledger) (claimed waiting : List ℕ) (b : Base s m l claimed waiting) (i : ℕ) (bg : Begun) (fresh : IsNew s m bg.token.0) (through : IsThrough l i) where
  begun_else : (j : ℕ) → j ≢ i → upd l.begun i bg j ≡ l.begun j
  begun_else j ne = upd_other l.begun i bg j ne

  stage_else : (j : ℕ) → j ≢ i → upd l.stage i Unmoved j ≡ l.stage j
  stage_else j ne = upd_other l.stage i Unmoved j ne

  -- a record that is held now was held before, but for the new one
  held_before : (j c : ℕ) (st : Stage) → (c ≢ bg.token.0) → (held_token l j ≡ c → l.stage j ≡ st) → held_token (rebegun l i bg) j ≡ c → upd l.stage i Unmoved j ≡ st
  held_before j c st other h now = elim (cases_eq j i) [
    | inl e ↦ absurd (other (sym now ∙ ap (λ x. x.token.0) (upd_at l.begun i bg j e)))
    | inr ne ↦ stage_else j ne ∙ h (sym (ap (λ x. x.token.0) (begun_else j ne)) ∙ now)
  ]

  pub rebegun_base : Base s m (rebegun l i bg) claimed waiting
  rebegun_base =
      let linking : (c : ℕ) → c ≢ 0 → IsLinking s l (values m.cached) c → IsLinking s (rebegun l i bg) (values m.cached) c = λ c some f.
      let ne : owner s c ≢ i = λ e. through_moved l i c through some (ap (held_token l) (sym e) ∙ f.holds) (ap l.stage (sym e) ∙ f.unmoved) in
      record {
        holds = ap (λ x. x.token.0) (begun_else (owner s c) ne) ∙ f.holds;
        asks = ap (λ x. x.call) (begun_else (owner s c) ne) ∙ f.asks;
        unmoved = stage_else (owner s c) ne ∙ f.unmoved;
      } in
      let claiming : (c : ℕ) → c ≢ 0 → IsClaiming s l c → IsClaiming s (rebegun l i bg) c = λ c some f.
      let ne : owner s c ≢ i = λ e. through_moved l i c through some (ap (held_token l) (sym e) ∙ f.holds) (ap l.stage (sym e) ∙ f.unmoved) in
      record {
        holds = ap (λ x. x.token.0) (begun_else (owner s c) ne) ∙ f.holds;
        asks = ap (λ x. x.call) (begun_else (owner s c) ne) ∙ f.asks;
        unmoved = stage_else (owner s c) ne ∙ f.unmoved;
      } in
      let fl : (n : ℕ) → links m.cached n ≢ 0 → links m.kept n ≡ 0 → IsLinking s (rebegun l i bg) (values m.cached) (links m.cached n) = λ n h z. linking (links m.cached n) h (b.flying_link n h z) in
      let fm : (n : ℕ) → marks m.cached n ≢ 0 → marks m.kept n ≡ 0 → IsClaiming s (rebegun l i bg) (marks m.cached n) = λ n h z. claiming (marks m.cached n) h (b.flying_mark n h z) in
      let tl : (n : ℕ) → links m.kept n ≢ 0 → held_token (rebegun l i bg) (owner s (links m.kept n)) ≡ links m.kept n → upd l.stage i Unmoved (owner s (links m.kept n)) ≡ Took Done = λ n h hd.
      held_before (owner s (links m.kept n)) (links m.kept n) (Took Done) (fresh.link n h) (b.took_link n h) hd in
      let tm : (n : ℕ) → marks m.kept n ≢ 0 → held_token (rebegun l i bg) (owner s (marks m.kept n)) ≡ marks m.kept n → upd l.stage i Unmoved (owner s (marks m.kept n)) ≡ Took (Got (values m.kept n)) = λ n h hd.
      held_before (owner s (marks m.kept n)) (marks m.kept n) (Took (Got (values m.kept n))) (fresh.mark n h) (b.took_mark n h) hd in
      let em : Empties s (rebegun l i bg) (marks m.cached) (empties s m.cached) (empties s m.kept) = record {
        flying = λ c h z.
            let f : IsAnswering s l (marks m.cached) c = b.empty.flying c h z in
            let ne : owner s c ≢ i = λ e. through_seen l i through (ap l.stage (sym e) ∙ f.seen) in
            record {
              holds = ap (λ x. x.token.0) (begun_else (owner s c) ne) ∙ f.holds;
              asks = ap (λ x. x.call) (begun_else (owner s c) ne) ∙ f.asks;
              seen = stage_else (owner s c) ne ∙ f.seen;
              unmarked = f.unmarked;
            };
        took = λ c h some hd. held_before (owner s c) c (Took Empty) (λ e. fresh.silent (λ z. some (e ∙ z)) (subst (SaysEmpty s m.kept) e h)) (b.empty.took c h some) hd;
        unmarked = b.empty.unmarked;
        said = b.empty.said;
      } in
      assumption (b, fl, fm, tl, tm, em)

  pub rebegun_grows : Grows i s m l m (rebegun l i bg)
  rebegun_grows =
      let begun : (j : ℕ) → j ≢ i → upd l.begun i bg j ≡ l.begun j = begun_else in
      let stage : (j : ℕ) → j ≢ i → Loose m (held_token l j) → (SaysEmpty s m.cached (held_token l j) → ⊥) → upd l.stage i Unmoved j ≡ l.stage j = λ j ne loose silent. stage_else j ne in
      assumption (none_grows i s m l, begun, stage)

-- no record
pub none_new : (s : Shape) (m : Memory) → IsNew s m 0
none_new s m = record { link = λ n h. h; mark = λ n h. h; silent = λ some says. some refl }

-- a record belongs to its client
pub record_owner : (s : Shape) (client used : ℕ) → used < s.records → owner s (record_of s client used) ≡ client
record_owner s client used h = ap (λ x. x / s.records) (less (client * s.records)) ∙ div-mul-add client s.records used h
  where
    less : (x : ℕ) → (1 + x + used) - 1 ≡ x + used
    less x = omega arith

-- the record after those that are used is not issued, and its words are blank
pub next_unissued : (s : Shape) (m : Memory) (l : Ledger) (claimed waiting : List ℕ) → Base s m l claimed waiting → (i : ℕ) → bumps m.cached i < s.records → IsIssued s m.kept (record_of s i (bumps m.cached i)) → ⊥
next_unissued s m l claimed waiting b i room h =
    go (owner s (record_of s i (bumps m.cached i))) (record_owner s i (bumps m.cached i) room) h.used
  where
    more : (x k c : ℕ) → k ≤ c → 1 + x + c < 1 + x + k → ⊥
    more x k c le q = absurd (omega (arith, le, q))

    go : (o : ℕ) → o ≡ i → record_of s i (bumps m.cached i) < record_of s o (bumps m.kept o) → ⊥
    go o e q = more (i * s.records) (bumps m.kept i) (bumps m.cached i) (b.kept_bump i) (subst (λ x. record_of s i (bumps m.cached i) < record_of s x (bumps m.kept x)) e q)

empty_of_record : (kind : Kind) (t : Token) → IsOfRecord (empty_answer_of kind t).place
empty_of_record Durable t = tt
empty_of_record Log t = tt

pub empty_some : (kind : Kind) (t : Token) → (empty_answer_of kind t).value ≢ 0
empty_some Durable t e = cc
empty_some Log t e = cc

-- what is not issued is not named, and says nothing
pub unissued_silent : (s : Shape) (m : Memory) (f : Place → ℕ) (c : ℕ) → ((p : Place) → IsOfRecord p → number_of p ≢ 0 → (IsIssued s m.kept (number_of p) → ⊥) → f p ≡ 0) → c ≢ 0 → (IsIssued s m.kept c → ⊥) → SaysEmpty s f c → ⊥
unissued_silent s m f c blank some none says =
    let number : number_of (empty_answer_of s.kind (token_of c)).place ≡ c = empty_number s.kind (token_of c) in
    let zero_now : f (empty_answer_of s.kind (token_of c)).place ≡ 0 =
    blank (empty_answer_of s.kind (token_of c)).place (empty_of_record s.kind (token_of c)) (λ z. some (sym number ∙ z)) (λ h. none (subst (IsIssued s m.kept) number h)) in
    empty_some s.kind (token_of c) (sym says ∙ zero_now)

pub unissued_loose : (s : Shape) (m : Memory) (l : Ledger) (claimed waiting : List ℕ) → Base s m l claimed waiting → (c : ℕ) → c ≢ 0 → (IsIssued s m.kept c → ⊥) → Loose m c
unissued_loose s m l claimed waiting b c some none = record {
  link = λ n e. none (subst (IsIssued s m.kept) e (b.issued_link n (λ z. some (sym e ∙ z))));
  mark = λ n e. none (subst (IsIssued s m.kept) e (b.issued_mark n (λ z. some (sym e ∙ z))));
}

pub unissued_new : (s : Shape) (m : Memory) (l : Ledger) (claimed waiting : List ℕ) → Base s m l claimed waiting → (c : ℕ) → c ≢ 0 → (IsIssued s m.kept c → ⊥) → IsNew s m c
unissued_new s m l claimed waiting b c some none =
    let loose : Loose m c = unissued_loose s m l claimed waiting b c some none in
    record {
      link = λ n h e. loose.link n (b.chained.kept n h ∙ e);
      mark = λ n h e. loose.mark n (b.marked.kept n h ∙ e);
      silent = λ q. unissued_silent s m m.kept c b.blank_kept some none;
    }
