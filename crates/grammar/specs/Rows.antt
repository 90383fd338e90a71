-- The lines in three groups.
use Rattle.std.specs.Prelude.{ℕ, List}
use Rattle.words.specs.declared.call.Kind.{Kind}
use Rattle.grammar.specs.Grammar.{SaysCommand, kind_word}
use Rattle.grammar.specs.Lines.{NothingFollows}
use Rattle.grammar.specs.Reading.{SaysNone, SaysNone₂, SaysNone₃}
use Rattle.grammar.specs.declared.commands.Command.TheVariants.{Enq, NumberedEnq, Deq, NumberedDeq, Step, End, Evict, Crash, Recover, RecoverBy, Content, Order, Again}

-- where a text begins with the word of a kind, nothing follows it
abbrev pub NothingFollowsKind : List ℕ → Type 0
NothingFollowsKind text = (kind : Kind) → NothingFollows text (kind_word kind)

-- a line starts no call, and goes on with none
pub record IsNoCall (line : List ℕ) : Type 0 where
  pub enq : SaysNone₂ (SaysCommand line) Enq
  pub numbered_enq : SaysNone₃ (SaysCommand line) NumberedEnq
  pub deq : SaysNone (SaysCommand line) Deq
  pub numbered_deq : SaysNone₂ (SaysCommand line) NumberedDeq
  pub step : SaysNone₂ (SaysCommand line) Step
  pub end : SaysNone (SaysCommand line) End

-- a line says nothing about the memory, shows nothing, and makes no act again
pub record IsNoMemoryLine (line : List ℕ) : Type 0 where
  pub evict : SaysNone (SaysCommand line) Evict
  pub content : SaysCommand line Content → ⊥
  pub order : SaysCommand line Order → ⊥
  pub again : SaysCommand line Again → ⊥

-- a line says nothing about crashes
pub record IsNoCrashLine (line : List ℕ) : Type 0 where
  pub crash : SaysCommand line Crash → ⊥
  pub recover : SaysCommand line Recover → ⊥
  pub recover_by : SaysNone (SaysCommand line) RecoverBy
