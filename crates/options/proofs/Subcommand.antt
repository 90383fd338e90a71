-- What a parse met, by the command that it gives.
use Rattle.std.proofs.Common.{◌≡◌, List, Option, Some, None, refl, sym, ap₂, subst}
use Rattle.std.specs.Prelude.{option_map}
use Rattle.std.specs.Box.{box_value}
use Rattle.std.proofs.lemmas.Option.{none-some, same_Some}
use Rattle.clap.specs.Words.{Row, Text, first_value, found_of, rows_of, subcommand_name_of, subcommand_rows_of}
use Rattle.clap.specs.declared.parser.matches.ArgMatches.{ArgMatches}
use Rattle.clap.specs.declared.parser.matches.ArgMatches.TheViews.{out-ArgMatches, out-SubCommand}
use Rattle.clap.specs.declared.parser.matches.Found.{Found}
use Rattle.clap.proofs.WalkLemmas.{first_value-rows}
use Rattle.options.specs.Asked.{name_in, values_in}

abbrev both : Text → List Row → Text × List Row
both name rows = (name, rows)

abbrev some_pair : Text → List Row → Option (Text × List Row)
some_pair name rows = Some (name, rows)

-- what has a name and rows is the pair of them
pair_of : {B : Type 0} (name : B → Text) (rows : B → List Row) (o : Option B) (n : Text) (rs : List Row)
    → Some n ≡ option_map name o → Some rs ≡ option_map (λ (p : Text × List Row). p.1) (option_map (λ b. both (name b) (rows b)) o)
    → option_map (λ b. both (name b) (rows b)) o ≡ Some (n, rs)
pair_of name rows None n rs e h = absurd (none-some n (sym e))
pair_of name rows (Some b) n rs e h = ap₂ some_pair (same_Some (name b) n (sym e)) (same_Some (rows b) rs (sym h))

met_is : (m : ArgMatches) (n : Text) (rs : List Row) → Some n ≡ subcommand_name_of m
    → Some rs ≡ option_map (λ (p : Text × List Row). p.1) (subcommand_rows_of m) → subcommand_rows_of m ≡ Some (n, rs)
met_is m n rs e h = pair_of (λ b. (out-SubCommand (box_value b)).name.now)
    (λ b. rows_of (found_of (out-SubCommand (box_value b)).matches)) (out-ArgMatches m).subcommand n rs e h

-- what holds of the command and its values holds of what was met
pub held_of_met : (P : Option Text → (Text → Option Text) → Type 0) (m : ArgMatches) (name : Text) (f : Found)
    → Some name ≡ subcommand_name_of m → Some (rows_of f) ≡ option_map (λ (p : Text × List Row). p.1) (subcommand_rows_of m)
    → P (Some name) (first_value f) → P (name_in (subcommand_rows_of m)) (values_in (subcommand_rows_of m))
held_of_met P m name f n rs p =
    let values : first_value f ≡ values_in (Some (name, rows_of f)) = λ i id. first_value-rows f id i in
    subst (λ met. P (name_in met) (values_in met)) (sym (met_is m name (rows_of f) n rs)) (subst (P (Some name)) values p)

-- where no command was met
no_rows : (o : Option (Text × List Row)) → None ≡ option_map (λ (p : Text × List Row). p.1) o → o ≡ None
no_rows None e = refl
no_rows (Some p) e = absurd (none-some p.1 e)

pub held_of_none : (P : Option Text → (Text → Option Text) → Type 0) (m : ArgMatches)
    → None ≡ option_map (λ (p : Text × List Row). p.1) (subcommand_rows_of m) → P None (λ option. None)
    → P (name_in (subcommand_rows_of m)) (values_in (subcommand_rows_of m))
held_of_none P m rows p = subst (λ met. P (name_in met) (values_in met)) (sym (no_rows (subcommand_rows_of m) rows)) p
