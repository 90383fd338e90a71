-- What the tests of a log queue's entries tell.
use Rattle.std.proofs.Common.{◌≡◌, ◌≢◌, ℕ, inl, inr, sym, ◌∙◌, ap, subst, arith}
use Rattle.std.proofs.lemmas.Bool.{cases_eq}
use Rattle.arena.specs.Shape.{Shape}
use Rattle.arena.specs.Place.{IsClient, IsRecord}
use Rattle.arena.specs.Words.{links, marks, inserts, entry_kinds, statuses, entry_nodes}
use Rattle.arena.specs.Chain.{LeadsTo}
use Rattle.arena.specs.declared.form.Form.{Form}
use Rattle.arena.specs.declared.place.Place.{Place}
use Rattle.arena.specs.declared.place.Place.TheVariants.{Head}
use Rattle.sound_words.specs.Sound.{IsOnChain, IsClaimOf, LogIsSound, StatusIsSound, RemovedIsSound, ChainIsSoundIn, EntriesAreSound}
use Rattle.sound_words.specs.Order.{IsOrder, IsClaimTable, IsInsertedIfOn, EntryTells, ClaimIsToldInEntry}
use Rattle.sound_words.proofs.Surveys.{record_on_chain, claimed_by_mark, claim_noted, claims_only}

-- a node's insert word and its entry's kind
pub inserted_if : (s : Shape) (kept : Place → ℕ) (n word kind : ℕ) → word ≡ inserts kept n → word ≡ n → kind ≡ entry_kinds kept n → kind ≡ 1 → IsInsertedIfOn s kept n
inserted_if s kept n word kind at own of_kind one = record { inserted = λ h. record { insert = sym at ∙ own; kind = sym of_kind ∙ one } }

pub inserted_only : (s : Shape) (kept : Place → ℕ) (place : ℕ → ℕ) → IsOrder s kept place → (n kind : ℕ) → place n ≢ 0 → kind ≡ entry_kinds kept n → IsInsertedIfOn s kept n → kind ≡ 1
inserted_only s kept place o n kind some of_kind t = of_kind ∙ (t.inserted (o.on_chain n some)).kind

-- a status that is 1 or 2, like its entry's kind
pub taken_if : (s : Shape) (kept : Place → ℕ) (e status kind : ℕ) → status ≡ statuses kept e → kind ≡ entry_kinds kept e → status ≡ kind → status ≡ 1 → IsOnChain s kept e → StatusIsSound s kept e
taken_if s kept e status kind at of_kind same one h =
    inr (inl (record { status = sym at ∙ one; kind = sym of_kind ∙ sym same ∙ one; on_chain = h }))

pub taken_only : (s : Shape) (kept : Place → ℕ) (e status : ℕ) → status ≡ statuses kept e → status ≡ 1 → StatusIsSound s kept e → IsOnChain s kept e
taken_only s kept e status at one (inl z) = absurd (omega (arith, at, one, z))
taken_only s kept e status at one (inr (inl t)) = t.on_chain
taken_only s kept e status at one (inr (inr t)) = absurd (omega (arith, at, one, t.status))

pub empty_if : {form : Form} (s : Shape) (kept : Place → ℕ) (claimed : ℕ → ℕ) → ChainIsSoundIn form s kept → IsClaimTable s kept claimed → (e status kind : ℕ) → IsRecord s e → status ≡ statuses kept e → kind ≡ entry_kinds kept e → status ≡ kind → status ≡ 2 → claimed e ≡ 0 → StatusIsSound s kept e
empty_if s kept claimed chain t e status kind r at of_kind same two none =
    inr (inr (record {
      status = sym at ∙ two;
      kind = sym of_kind ∙ sym same ∙ two;
      no_claim = λ n h. claims_only s kept claimed chain t e n (λ z. omega (arith, z, r.0)) h none;
    }))

pub empty_only : (s : Shape) (kept : Place → ℕ) (claimed : ℕ → ℕ) → IsClaimTable s kept claimed → (e status : ℕ) → status ≡ statuses kept e → status ≡ 2 → StatusIsSound s kept e → claimed e ≡ 0
empty_only s kept claimed t e status at two (inl z) = absurd (omega (arith, at, two, z))
empty_only s kept claimed t e status at two (inr (inl h)) = absurd (omega (arith, at, two, h.status))
empty_only s kept claimed t e status at two (inr (inr h)) =
    elim (cases_eq (claimed e) 0) [ inl z ↦ z | inr some ↦ absurd (h.no_claim (claimed e) (t.claim e some)) ]

-- a node word that is not 0
pub removed_if : (s : Shape) (kept : Place → ℕ) (claimed : ℕ → ℕ) → IsClaimTable s kept claimed → (e node : ℕ) → node ≡ entry_nodes kept e → node ≢ 0 → claimed e ≡ node → RemovedIsSound s kept e
removed_if s kept claimed t e node at some same = inr (subst (IsClaimOf s kept e) (same ∙ at) (t.claim e (λ z. some (sym same ∙ z))))

pub removed_only : (s : Shape) (kept : Place → ℕ) (claimed : ℕ → ℕ) → IsClaimTable s kept claimed → (e node : ℕ) → IsRecord s e → node ≡ entry_nodes kept e → node ≢ 0 → RemovedIsSound s kept e → claimed e ≡ node
removed_only s kept claimed t e node r at some (inl z) = absurd (some (at ∙ z))
removed_only s kept claimed t e node r at some (inr h) = claim_noted s kept claimed t e (entry_nodes kept e) (λ z. omega (arith, z, r.0)) h ∙ sym at

-- a claimed node's entry, which tells of no node
pub removal_kind : {form : Form} (s : Shape) (kept : Place → ℕ) → ChainIsSoundIn form s kept → (n m kind : ℕ) → IsRecord s n → m ≡ marks kept n → m ≢ 0 → kind ≡ entry_kinds kept m → ClaimIsToldInEntry s kept n → kind ≡ 2
removal_kind s kept c n m kind r at ne of_kind t = of_kind ∙ ap (entry_kinds kept) at ∙ t.kind (claimed_by_mark s kept c n r (λ z. ne (at ∙ z)))

pub untold_if : (s : Shape) (kept : Place → ℕ) (n m kind : ℕ) → m ≡ marks kept n → kind ≡ entry_kinds kept m → kind ≡ 2 → (LeadsTo (links kept) (kept Head) n → ⊥) → ClaimIsToldInEntry s kept n
untold_if s kept n m kind at of_kind two ahead = record { kind = λ h. ap (entry_kinds kept) (sym at) ∙ sym of_kind ∙ two; told = λ p z. ahead p.leads }

pub untold_only : {form : Form} (s : Shape) (kept : Place → ℕ) → ChainIsSoundIn form s kept → (n m node : ℕ) → IsRecord s n → m ≡ marks kept n → m ≢ 0 → node ≡ entry_nodes kept m → node ≡ 0 → ClaimIsToldInEntry s kept n → LeadsTo (links kept) (kept Head) n → ⊥
untold_only s kept c n m node r at ne word none t h =
    t.told (record { claimed = claimed_by_mark s kept c n r (λ z. ne (at ∙ z)); leads = h }) (ap (entry_nodes kept) (sym at) ∙ sym word ∙ none)

-- all logs and entries
pub entries_if : {form : Form} (s : Shape) (kept : Place → ℕ) → ChainIsSoundIn form s kept → ((n : ℕ) → IsRecord s n → IsInsertedIfOn s kept n) → ((t : ℕ) → IsClient s t → LogIsSound s kept t) → ((e : ℕ) → IsRecord s e → EntryTells s kept e) → ((n : ℕ) → IsRecord s n → ClaimIsToldInEntry s kept n) → EntriesAreSound s kept
entries_if s kept chain inserted logs right told = record {
  inserts = λ n h. (inserted n (record_on_chain s kept chain n h)).inserted h;
  logs = logs;
  kinds = λ e r. (right e r).kind;
  statuses = λ e r. (right e r).status;
  claims = λ n h. (told n (record_on_chain s kept chain n h.on_chain)).kind h;
  results = λ e r. (right e r).result;
  told = λ n p. (told n (record_on_chain s kept chain n p.claimed.on_chain)).told p;
}

pub entries_inserted : (s : Shape) (kept : Place → ℕ) → EntriesAreSound s kept → (n : ℕ) → IsRecord s n → IsInsertedIfOn s kept n
entries_inserted s kept h n r = record { inserted = h.inserts n }

pub entries_right : (s : Shape) (kept : Place → ℕ) → EntriesAreSound s kept → (e : ℕ) → IsRecord s e → EntryTells s kept e
entries_right s kept h e r = record { kind = h.kinds e r; status = h.statuses e r; result = h.results e r }

pub entries_told : (s : Shape) (kept : Place → ℕ) → EntriesAreSound s kept → (n : ℕ) → IsRecord s n → ClaimIsToldInEntry s kept n
entries_told s kept h n r = record { kind = h.claims n; told = h.told n }
