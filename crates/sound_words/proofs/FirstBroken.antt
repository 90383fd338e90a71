-- The first broken rule, where those before it hold.
use Rattle.std.proofs.Common.{◌<◌, ◌≤◌, ◌≡◌, ℕ, List, arith, subst, sym, ◌∙◌}
use Rattle.std.proofs.lemmas.Bool.{false≢true}
use Rattle.std.specs.Prelude.{Bool, false, IsTrue, ◌↔◌}
use Rattle.words.specs.Refusal.{number_of}
use Rattle.words.specs.declared.call.Kind.{Kind}
use Rattle.words.specs.declared.call.Kind.TheVariants.{Durable, Log}
use Rattle.words.specs.declared.refusal.Rule.{Rule}
use Rattle.words.specs.declared.refusal.Rule.TheVariants.{Size, Records, Chain, Claims, Ends, Rows, Entries, Image, Directory}
use Rattle.arena.specs.Shape.{Shape}
use Rattle.arena.specs.declared.form.Form.{Form}
use Rattle.arena.specs.declared.place.Place.{Place}
use Rattle.sound_words.specs.Kept.{kept_by}
use Rattle.sound_words.specs.Sound.{AnswersAreSoundIn, ChainIsSoundIn, ClaimsAreSoundIn, EndsAreSound, EntriesAreSound, IfKind, IsFirstBrokenIn, ObeysIn, RecordsAreSoundIn, RowsAreSoundIn, SizeIsSoundIn}

-- the rules with a lower number hold
abbrev Before : Form → Shape → List ℕ → ℕ → Type 0
Before form s ws n = (other : Rule) → number_of other < n → ObeysIn form s ws other

before : (form : Form) (s : Shape) (ws : List ℕ) (n : ℕ) → n ≤ 7
    → (1 < n → SizeIsSoundIn form s ws)
    → (2 < n → RecordsAreSoundIn form s (kept_by form s ws))
    → (3 < n → ChainIsSoundIn form s (kept_by form s ws))
    → (4 < n → ClaimsAreSoundIn form s (kept_by form s ws))
    → (5 < n → EndsAreSound s (kept_by form s ws))
    → (6 < n → ObeysIn form s ws Rows)
    → Before form s ws n
before form s ws n most size records chain claims ends rows Size lt = size lt
before form s ws n most size records chain claims ends rows Records lt = records lt
before form s ws n most size records chain claims ends rows Chain lt = chain lt
before form s ws n most size records chain claims ends rows Claims lt = claims lt
before form s ws n most size records chain claims ends rows Ends lt = ends lt
before form s ws n most size records chain claims ends rows Rows lt = rows lt
before form s ws n most size records chain claims ends rows Entries lt = absurd (omega arith)
before form s ws n most size records chain claims ends rows Image lt = tt
before form s ws n most size records chain claims ends rows Directory lt = tt

pub size_first : (form : Form) (s : Shape) (ws : List ℕ) → (SizeIsSoundIn form s ws → ⊥) → IsFirstBrokenIn form s ws Size
size_first form s ws broken = record {
  broken = broken;
  before = before form s ws 1 (omega arith) (λ lt. absurd (omega arith)) (λ lt. absurd (omega arith)) (λ lt. absurd (omega arith))
      (λ lt. absurd (omega arith)) (λ lt. absurd (omega arith)) (λ lt. absurd (omega arith));
}

pub records_first : (form : Form) (s : Shape) (ws : List ℕ) → SizeIsSoundIn form s ws
    → (RecordsAreSoundIn form s (kept_by form s ws) → ⊥) → IsFirstBrokenIn form s ws Records
records_first form s ws size broken = record {
  broken = broken;
  before = before form s ws 2 (omega arith) (λ _. size) (λ lt. absurd (omega arith)) (λ lt. absurd (omega arith))
      (λ lt. absurd (omega arith)) (λ lt. absurd (omega arith)) (λ lt. absurd (omega arith));
}

pub chain_first : (form : Form) (s : Shape) (ws : List ℕ) → SizeIsSoundIn form s ws
    → RecordsAreSoundIn form s (kept_by form s ws)
    → (ChainIsSoundIn form s (kept_by form s ws) → ⊥) → IsFirstBrokenIn form s ws Chain
chain_first form s ws size records broken = record {
  broken = broken;
  before = before form s ws 3 (omega arith) (λ _. size) (λ _. records) (λ lt. absurd (omega arith))
      (λ lt. absurd (omega arith)) (λ lt. absurd (omega arith)) (λ lt. absurd (omega arith));
}

pub claims_first : (form : Form) (s : Shape) (ws : List ℕ) → SizeIsSoundIn form s ws
    → RecordsAreSoundIn form s (kept_by form s ws) → ChainIsSoundIn form s (kept_by form s ws)
    → (ClaimsAreSoundIn form s (kept_by form s ws) → ⊥) → IsFirstBrokenIn form s ws Claims
claims_first form s ws size records chain broken = record {
  broken = broken;
  before = before form s ws 4 (omega arith) (λ _. size) (λ _. records) (λ _. chain)
      (λ lt. absurd (omega arith)) (λ lt. absurd (omega arith)) (λ lt. absurd (omega arith));
}

pub ends_first : (form : Form) (s : Shape) (ws : List ℕ) → SizeIsSoundIn form s ws
    → RecordsAreSoundIn form s (kept_by form s ws) → ChainIsSoundIn form s (kept_by form s ws)
    → ClaimsAreSoundIn form s (kept_by form s ws)
    → (EndsAreSound s (kept_by form s ws) → ⊥) → IsFirstBrokenIn form s ws Ends
ends_first form s ws size records chain claims broken = record {
  broken = broken;
  before = before form s ws 5 (omega arith) (λ _. size) (λ _. records) (λ _. chain) (λ _. claims)
      (λ lt. absurd (omega arith)) (λ lt. absurd (omega arith));
}

-- of the answers the rule of the queue's own kind
pub rows_first : (form : Form) (s : Shape) (ws : List ℕ) → SizeIsSoundIn form s ws
    → RecordsAreSoundIn form s (kept_by form s ws) → ChainIsSoundIn form s (kept_by form s ws)
    → ClaimsAreSoundIn form s (kept_by form s ws) → EndsAreSound s (kept_by form s ws)
    → s.kind ≡ Durable → (RowsAreSoundIn form s (kept_by form s ws) → ⊥) → IsFirstBrokenIn form s ws Rows
rows_first form s ws size records chain claims ends durable broken = record {
  broken = subst (λ (kind : Kind). IfKind Durable kind (RowsAreSoundIn form s (kept_by form s ws)) → ⊥) (sym durable) broken;
  before = before form s ws 6 (omega arith) (λ _. size) (λ _. records) (λ _. chain) (λ _. claims) (λ _. ends)
      (λ lt. absurd (omega arith));
}

pub entries_first : (form : Form) (s : Shape) (ws : List ℕ) → SizeIsSoundIn form s ws
    → RecordsAreSoundIn form s (kept_by form s ws) → ChainIsSoundIn form s (kept_by form s ws)
    → ClaimsAreSoundIn form s (kept_by form s ws) → EndsAreSound s (kept_by form s ws)
    → s.kind ≡ Log → (EntriesAreSound s (kept_by form s ws) → ⊥) → IsFirstBrokenIn form s ws Entries
entries_first form s ws size records chain claims ends log broken = record {
  broken = subst (λ (kind : Kind). IfKind Log kind (EntriesAreSound s (kept_by form s ws)) → ⊥) (sym log) broken;
  before = before form s ws 7 (omega arith) (λ _. size) (λ _. records) (λ _. chain) (λ _. claims) (λ _. ends)
      (λ _. subst (λ (kind : Kind). IfKind Durable kind (RowsAreSoundIn form s (kept_by form s ws))) (sym log) tt);
}

-- the answers, by the kind of the queue
pub answers_of_rows : (form : Form) (s : Shape) (kept : Place → ℕ) → s.kind ≡ Durable → RowsAreSoundIn form s kept
    → AnswersAreSoundIn form s.kind s kept
answers_of_rows form s kept durable rows = subst (λ (kind : Kind). AnswersAreSoundIn form kind s kept) (sym durable) rows

pub answers_of_entries : (form : Form) (s : Shape) (kept : Place → ℕ) → s.kind ≡ Log → EntriesAreSound s kept
    → AnswersAreSoundIn form s.kind s kept
answers_of_entries form s kept log entries = subst (λ (kind : Kind). AnswersAreSoundIn form kind s kept) (sym log) entries

-- what was found not to be so is not so
pub unsound : {P : Type 0} {found : Bool} → (IsTrue found ↔ P) → found ≡ false → P → ⊥
unsound says not_so holds = false≢true (sym not_so ∙ says.1 holds)
