-- The lines in four groups, and how some begin.
use Rattle.std.specs.Prelude.{◌≡◌, ◌≢◌, ℕ, List, [], ◌∷◌, Option, MatchOption, decimal}
use Rattle.words.specs.declared.call.Kind.{Kind}
use Rattle.grammar.specs.Grammar.{kind_word}
use Rattle.grammar.specs.Limits.{IsWithin}
use Rattle.grammar.specs.Lines.{words_of, BeginsWith}
use Rattle.grammar.specs.Reading.{SaysNone, SaysNone₂, SaysNone₃}
use Rattle.grammar.specs.declared.limits.TheConstants.{STEPS}
use Rattle.broker_lines.specs.Grammar.{SaysStatement}
use Rattle.broker_lines.specs.declared.statements.Statement.TheVariants.{Create, BeginCreation, CreateStep, CreateSteps, Find, List as list_queues, Rotate, Renew, Image, SetWord, Boot, Whole, On, Told, Asks}
use denote.Ref.{Bor}

-- where words begin with the spelling of one that is wanted, nothing follows it
abbrev pub StandsAlone : {A : Type 0} → (A → List ℕ) → (A → Type 0) → List (List ℕ) → Type 0
StandsAlone {A = A} spelling wanted words =
    (a : A) (rest : List (List ℕ)) → wanted a → words ≡ spelling a ∷ rest → rest ≡ []

-- a text begins with the spelling of a value that was read, which is one of those that are wanted, and the rest follows
-- it; or none was read, and nothing follows the spelling of one
abbrev pub ReadsFirstWord : {A : Type 0} → (A → List ℕ) → (A → Type 0) → List ℕ → Option (A × Bor (List ℕ)) → Type 0
ReadsFirstWord spelling wanted text result =
    MatchOption result (StandsAlone spelling wanted (words_of text))
    (λ r. BeginsWith text (spelling r.0) r.1.now × wanted r.0)

-- a kind and a number of steps were read, of which the words are; or they are those of none
abbrev pub ReadsKindAndSteps : List (List ℕ) → Option (Kind × ℕ) → Type 0
ReadsKindAndSteps words result =
    MatchOption result ((kind : Kind) (n : ℕ) → IsWithin STEPS n → words ≢ kind_word kind ∷ decimal n ∷ [])
    (λ r. (words ≡ kind_word r.0 ∷ decimal r.1 ∷ []) × IsWithin STEPS r.1)

-- a line begins no creation, and goes on with none
pub record IsNoCreation (line : List ℕ) : Type 0 where
  pub create : SaysNone₂ (SaysStatement line) Create
  pub begin : SaysNone₃ (SaysStatement line) BeginCreation
  pub step : SaysStatement line CreateStep → ⊥
  pub steps : SaysNone (SaysStatement line) CreateSteps

-- a line is not about one queue
pub record IsOfNoQueue (line : List ℕ) : Type 0 where
  pub find : SaysNone (SaysStatement line) Find
  pub renew : SaysNone (SaysStatement line) Renew
  pub on : SaysNone₂ (SaysStatement line) On
  pub told : SaysNone₂ (SaysStatement line) Told
  pub asks : SaysNone₂ (SaysStatement line) Asks

-- a line is not about all of them
pub record IsOfNoBroker (line : List ℕ) : Type 0 where
  pub list : SaysStatement line list_queues → ⊥
  pub rotate : SaysStatement line Rotate → ⊥
  pub whole : SaysNone (SaysStatement line) Whole

-- a line is not about an image
pub record IsOfNoImage (line : List ℕ) : Type 0 where
  pub image : SaysStatement line Image → ⊥
  pub set : SaysNone₂ (SaysStatement line) SetWord
  pub boot : SaysStatement line Boot → ⊥
