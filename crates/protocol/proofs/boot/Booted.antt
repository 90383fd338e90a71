-- A queue that begins on sound words keeps all that holds of the machine.
use Rattle.std.proofs.Common.{◌≡◌, ℕ, ◌≤◌, ◌<◌, inr, List, length, None, Some, refl, ◌∙◌, ap, arith}
use Rattle.std.specs.Prelude.{slice_get}
use Rattle.std.proofs.lemmas.List.FromFn.{length-map-range_with_len, get_or-map-range_with_len}
use Rattle.std.proofs.lemmas.Option.{slice_get-get_or}
use Rattle.words.specs.declared.told.Told.{Told}
use Rattle.words.specs.declared.told.Told.TheVariants.{None as told_none}
use Rattle.arena.specs.Content.{kept_content}
use Rattle.arena.specs.Place.{IsPlace}
use Rattle.arena.specs.Shape.{Shape}
use Rattle.arena.specs.declared.place.Place.{Place}
use Rattle.events.proofs.Facts.{begun}
use Rattle.sound_words.specs.Sound.{IsSound}
use Rattle.sound_words.specs.Told.{told_by, tells_by}
use Rattle.recover.specs.Table.{boot_recovery}
use Rattle.sound_words.proofs.Facts.{sound_like}
use Rattle.protocol.specs.Booted.{world_at_boot, MayBoot}
use Rattle.protocol.specs.Kept.{TellsOf}
use Rattle.protocol.proofs.boot.BootedWords.{p, boot_sound}
use Rattle.protocol.specs.invariants.Worlds.{Inv, Recovering}
use Rattle.protocol.proofs.told.ToldOnce.{tells_once, tells_right}

-- each of the sixteen is told what `told_by` says
pub told_at : (s : Shape) (k : Place → ℕ) (t : ℕ) → t < 16 → slice_get (tells_by s k) t ≡ Some (told_by s k t)
told_at s k t few =
    let long : length (tells_by s k) ≡ 16 = length-map-range_with_len (told_by s k) 0 16 in
    slice_get-get_or (tells_by s k) t told_none (omega (arith, few, long))
    ∙ ap (λ x. Some x) (get_or-map-range_with_len (told_by s k) 0 16 t t told_none few (omega arith))

-- sound words tell what `tells_by` says
pub tells_are : (s : Shape) (k : Place → ℕ) → IsSound s k → ((q : Place) → (IsPlace s q → ⊥) → k q ≡ 0) → (t : ℕ) → TellsOf s k t (told_by s k t)
tells_are s k h nowhere t = tells_right s k (p s k h nowhere).claimed (p s k h nowhere).waiting (kept_content s k) (boot_sound s k h nowhere) t

-- where recovery begins
recovering_booted : (s : Shape) (k : Place → ℕ) (told : List Told) → 1 ≤ s.clients → s.clients ≤ 16 → IsSound s k
    → ((q : Place) → (IsPlace s q → ⊥) → k q ≡ 0) → told ≡ tells_by s k → Recovering (world_at_boot s k told) boot_recovery
recovering_booted s k told some few h nowhere tells = record {
  recovers = refl;
  sixteen = few;
  clients = some;
  claimed = (p s k h nowhere).claimed;
  waiting = (p s k h nowhere).waiting;
  sound = boot_sound s k h nowhere;
  at = record { untold = refl; point = λ q. refl };
  none = λ i. refl;
  idle = λ client place o. absurd (nothing_at o.begins.1.1);
  log = begun s.kind (kept_content s k) told;
  tells = λ client x lt t. inr (
    record {
      none = record { none = λ place low high taken. absurd (omega (arith, high)) };
      same =
          ap (λ xs. slice_get xs client.0) tells ∙ told_at s k client.0 lt
          ∙ ap (λ y. Some y) (tells_once s k (p s k h nowhere).claimed (p s k h nowhere).waiting (kept_content s k) (boot_sound s k h nowhere) client.0 x t);
    },
    inr (record { none = λ i call at takes. nothing_at at }),
  );
}
  where
    nothing_at : {X : Type 0} {x : X} → None ≡ Some x → ⊥
    nothing_at e = cc

-- words may boot that are those of sound ones at the places of the layout, and 0 elsewhere
pub may_boot : (s : Shape) (k l : Place → ℕ) → 1 ≤ s.clients → s.clients ≤ 16 → IsSound s k → ((q : Place) → IsPlace s q → l q ≡ k q)
    → ((q : Place) → (IsPlace s q → ⊥) → l q ≡ 0) → MayBoot s l
may_boot s k l some few h same nowhere = record { some = some; few = few; sound = sound_like s k l same h; nowhere = nowhere }

-- what holds of the machine at every moment holds where recovery begins on sound words
pub inv_booted : (s : Shape) (k : Place → ℕ) (told : List Told) → 1 ≤ s.clients → s.clients ≤ 16 → IsSound s k
    → ((q : Place) → (IsPlace s q → ⊥) → k q ≡ 0) → told ≡ tells_by s k → Inv (world_at_boot s k told)
inv_booted s k told some few h nowhere tells = recovering_booted s k told some few h nowhere tells

pub boots : (s : Shape) (k : Place → ℕ) → MayBoot s k → Inv (world_at_boot s k (tells_by s k))
boots s k may = inv_booted s k (tells_by s k) may.some may.few may.sound may.nowhere refl
