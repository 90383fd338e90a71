-- What a client is told, and the loop over the clients that tells each of them.
use Rattle.std.proofs.Common.{◌≡◌, ◌≢◌, ℕ, zero, suc, ◌+◌, ◌≤◌, ◌<◌, inl, inr, List, length, get_or, set, replicate, refl, sym, ◌∙◌, ap, subst, arith, length-set}
use Rattle.std.proofs.lemmas.Bool.{cases_lt}
use Rattle.std.proofs.lemmas.List.{ext_get_or}
use Rattle.std.proofs.lemmas.List.FromFn.{length-map-range_with_len, get_or-map-range_with_len}
use Rattle.words.specs.declared.told.Told.{Told}
use Rattle.words.specs.declared.told.Told.TheVariants.{None as told_none, Verdict as told_verdict, Row as told_row}
use Rattle.words.specs.declared.told.Outcome.{Outcome}
use Rattle.words.specs.declared.told.Row.{Row}
use Rattle.words.specs.declared.call.Kind.TheVariants.{Durable, Log}
use Rattle.arena.specs.Place.{IsClient}
use Rattle.arena.specs.Words.{numbers, announcements}
use Rattle.arena.specs.Content.{chain_of}
use Rattle.arena.specs.Shape.{Shape}
use Rattle.arena.specs.declared.place.Place.{Place}
use Rattle.sound_words.specs.Told.{node_claimed_by, row_with, outcome_by, report_on, told_by, tells_by}
use Rattle.sound_words.proofs.Tables.{set_cases}
use Rattle.sound_words.proofs.ToldBy.{told_of, told_nobody}

-- a client that announced an entry, or a cell
pub told_verdict_of : (s : Shape) (kept : Place → ℕ) (t token number : ℕ) (outcome : Outcome) → IsClient s t → token ≡ announcements kept t → token ≢ 0 → s.kind ≡ Log → number ≡ numbers kept token → outcome ≡ outcome_by s kept token → told_verdict (record { number = number; outcome = outcome }) ≡ told_by s kept t
told_verdict_of s kept t token number outcome client at some kind numbered became =
    let verdict : told_verdict (record { number = number; outcome = outcome }) ≡ report_on Log s kept token = rw (numbered, became) refl in
    verdict ∙ ap (λ k. report_on k s kept token) (sym kind) ∙ ap (report_on s.kind s kept) at ∙ sym (told_of s kept t client (λ z. some (at ∙ z)))

pub told_row_of : (s : Shape) (kept : Place → ℕ) (t token : ℕ) (row : Row) → IsClient s t → token ≡ announcements kept t → token ≢ 0 → s.kind ≡ Durable → row ≡ row_with kept token (node_claimed_by kept token (chain_of s kept)) → told_row row ≡ told_by s kept t
told_row_of s kept t token row client at some kind became =
    let tells : told_row row ≡ report_on Durable s kept token = ap (λ r. told_row r) became in
    tells ∙ ap (λ k. report_on k s kept token) (sym kind) ∙ ap (report_on s.kind s kept) at ∙ sym (told_of s kept t client (λ z. some (at ∙ z)))

-- of sixteen the clients before t are told, and nobody else
pub record AreToldBefore (s : Shape) (kept : Place → ℕ) (tells : List Told) (t : ℕ) : Type 0 where
  pub long : length tells ≡ 16
  pub told : (k : ℕ) → k < t → get_or tells k told_none ≡ told_by s kept k
  pub rest : (k : ℕ) → t ≤ k → get_or tells k told_none ≡ told_none

nobody : (n k : ℕ) → get_or (replicate n told_none) k told_none ≡ told_none
nobody zero k = refl
nobody (suc n) zero = refl
nobody (suc n) (suc k) = nobody n k

pub told_before_first : (s : Shape) (kept : Place → ℕ) → AreToldBefore s kept (replicate 16 told_none) 0
told_before_first s kept = record { long = refl; told = λ k few. absurd (omega arith); rest = λ k past. nobody 16 k }

pub told_before_next : (s : Shape) (kept : Place → ℕ) (tells : List Told) (t : ℕ) (told : Told) → t < 16 → told ≡ told_by s kept t → AreToldBefore s kept tells t → AreToldBefore s kept (set tells t told) (t + 1)
told_before_next s kept tells t told few at f =
    let within : t < length tells = omega (arith, few, f.long) in
    record {
      long = length-set tells t told ∙ f.long;
      told = λ k few. elim (set_cases tells t told told_none within k) [
        | inl p ↦ subst (λ x. get_or (set tells t told) k told_none ≡ told_by s kept x) (sym p.0) (p.1 ∙ at)
        | inr p ↦ p.1 ∙ f.told k (omega (arith, few, p.0))
      ];
      rest = λ k past. elim (set_cases tells t told told_none within k) [
        | inl p ↦ absurd (omega (arith, p.0, past))
        | inr p ↦ p.1 ∙ f.rest k (omega (arith, past))
      ];
    }

pub all_told : (s : Shape) (kept : Place → ℕ) (tells : List Told) (t : ℕ) → s.clients ≤ t → AreToldBefore s kept tells t → tells ≡ tells_by s kept
all_told s kept tells t past f =
    ext_get_or told_none tells (tells_by s kept) (f.long ∙ sym (length-map-range_with_len (told_by s kept) 0 16))
    (λ k few.
    let at : get_or (tells_by s kept) k told_none ≡ told_by s kept k = get_or-map-range_with_len (told_by s kept) 0 16 k k told_none (omega (arith, few, f.long)) (omega arith) in
    elim (cases_lt k t) [
      | inl before ↦ f.told k before ∙ sym at
      | inr after ↦ f.rest k after ∙ sym (told_nobody s kept k (omega (arith, after, past))) ∙ sym at
    ])
