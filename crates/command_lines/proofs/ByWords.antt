-- What a parse of the words gives, by the words.
use Rattle.std.proofs.Common.{◌≡◌, ◌∙◌, true, List, [], Option, Result, Ok, Err, refl, sym, ap, subst, inl, inr}
use Rattle.std.specs.Prelude.{IfErr, IsErrAnd}
use Rattle.clap.specs.Words.{App, HasKind, HasMatchesOf, Text, fault_of, is_simple, is_simple_and_free, subcommand_of, subcommand_rows_of}
use Rattle.clap.specs.declared.error.Error.{Error}
use Rattle.clap.specs.declared.parser.matches.ArgMatches.{ArgMatches}
use Rattle.options.specs.Asked.{IsKnown, name_in, values_in}
use Rattle.command_lines.specs.Commands.{pqd_app}
use Rattle.command_lines.specs.Lines.{Refuses}
use Rattle.command_lines.specs.PqxCommands.{pqx_app}
use Rattle.command_lines.specs.PqxLines.{RefusesPqx}
use Rattle.command_lines.proofs.Faultless.{known}

-- of a command whose arguments are simple and may stand in any order
module _ (own : App) (simple : is_simple own ≡ true) (free : is_simple_and_free own ≡ true) where
  -- clap finds no fault with the words
  pub faultless : (a : App) (words : List Text) → a ≡ own → (is_simple_and_free a ≡ true → fault_of a words ≡ []) → fault_of own words ≡ []
  faultless a words e h = ap (λ (x : App). fault_of x words) (sym e) ∙ h (ap is_simple_and_free e ∙ free)

  pub met_by_words : (a : App) (words : List Text) (m : ArgMatches) → a ≡ own → HasMatchesOf a words m → subcommand_rows_of m ≡ subcommand_of own words
  met_by_words a words m e h = (h (ap is_simple e ∙ simple)).1 ∙ ap (λ (x : App). subcommand_of x words) e

  -- what holds of the command that was met holds of the one that the words name
  pub held_by_words : (P : Option Text → (Text → Option Text) → Type 0) (a : App) (words : List Text) (m : ArgMatches) → a ≡ own → HasMatchesOf a words m
      → P (name_in (subcommand_rows_of m)) (values_in (subcommand_rows_of m)) → P (name_in (subcommand_of own words)) (values_in (subcommand_of own words))
  held_by_words P a words m e h p = subst (λ met. P (name_in met) (values_in met)) (met_by_words a words m e h) p

  -- an error of clap's is one that it finds with the words
  pub found_with : (a : App) (words : List Text) (e : Error) → a ≡ own → (is_simple_and_free a ≡ true → HasKind (fault_of a words) e) → HasKind (fault_of own words) e
  found_with a words e is h = subst (λ (x : App). HasKind (fault_of x words) e) is (h (ap is_simple_and_free is ∙ free))

-- those of `pqd`
pub known_met : (a : App) (words : List Text) (m : ArgMatches) → a ≡ pqd_app → HasMatchesOf a words m
    → (is_simple_and_free a ≡ true → fault_of a words ≡ []) → IsKnown (name_in (subcommand_rows_of m))
known_met a words m e h k =
    subst (λ met. IsKnown (name_in met)) (sym (met_by_words pqd_app refl refl a words m e h)) (known words (faultless pqd_app refl refl a words e k))

pub refused : (a : App) (words : List Text) (e : Error) → a ≡ pqd_app → (is_simple_and_free a ≡ true → HasKind (fault_of a words) e) → Refuses words e
refused a words e is h = elim (found_with pqd_app refl refl a words e is h) [
  | inl memory ↦ inl memory
  | inr kind ↦ inr (inl kind)
]

-- those of `pqx`
pub pqx_refused : (a : App) (words : List Text) (e : Error) → a ≡ pqx_app → (is_simple_and_free a ≡ true → HasKind (fault_of a words) e) → RefusesPqx words e
pqx_refused a words e is h = elim (found_with pqx_app refl refl a words e is h) [
  | inl memory ↦ inl memory
  | inr kind ↦ inr (inl kind)
]

-- an error that is passed on
pub passed_on : {T : Type 0} (r : Result T Error) (e : Error) (P : Error → Type 0) → IsErrAnd r (λ y. y ≡ e) → P e → IfErr r P
passed_on (Ok x) e P h p = tt
passed_on (Err y) e P h p = subst P (sym h) p
