-- A rotation of a ready world in which nobody calls keeps what holds of the machine.
use Rattle.words.specs.PlainQueue.{Value}
use Rattle.std.proofs.Common.{◌≡◌, ℕ, inr, List, [], Option, Some, None, sym, ◌∙◌, ap, subst, arith}
use mathlib.Core.Path.{fun_ext}
use Rattle.arena.specs.Content.{kept_content}
use Rattle.sound_words.specs.Told.{told_by, tells_by}
use Rattle.events.proofs.Facts.{begun}
use Rattle.protocol.specs.Kept.{TellsOf}
use Rattle.protocol.specs.Machine.{World}
use Rattle.protocol.specs.Rotated.{with_rotation}
use Rattle.protocol.specs.declared.UnderWay.{UnderWay}
use Rattle.protocol.specs.invariants.Base.{Base}
use Rattle.protocol.specs.invariants.Ledger.{Ledger, Stage}
use Rattle.protocol.specs.invariants.Records.{Records}
use Rattle.protocol.specs.invariants.Told.{RightlyTold}
use Rattle.protocol.specs.invariants.Worlds.{Inv, InvAt, IsReady, KnowsCall, Working, ledger_of, stage_of}
use Rattle.protocol.proofs.boot.Booted.{told_at, tells_are}
use Rattle.protocol.proofs.recovery.Sound.{crash_sound}
use Rattle.protocol.proofs.told.ToldOnce.{tells_once}
use Rattle.protocol.proofs.worlds.Facts.{agrees, is_ready, words_nowhere, words_sound}

-- the kept words of a world tell each client what `tells_by` says
pub tells_now : (w : World) → Inv w → (t : ℕ) → TellsOf w.shape w.memory.kept t (told_by w.shape w.memory.kept t)
tells_now w inv = tells_are w.shape w.memory.kept (words_sound w inv) (words_nowhere w inv)

module _ (w : World) (inv : Inv w) (ready : w.recovery ≡ None) (none : (i : ℕ) → w.calls i ≡ None) where
  v : Working w
  v = (is_ready w inv ready).working

  -- where nobody calls, the ledger says no more than what the queue holds
  same_stage : (i : ℕ) → (ledger_of (with_rotation w)).stage i ≡ (ledger_of w).stage i
  same_stage i =
      ap (λ (c : Option UnderWay). stage_of c []) (none i)
      ∙ sym (ap (λ (c : Option UnderWay). stage_of c w.log.effects) (none i))

  same_ledger : ledger_of w ≡ ledger_of (with_rotation w)
  same_ledger =
      ap (λ (f : ℕ → Stage). let l : Ledger = record (ledger_of w) { stage = f } in l) (sym (fun_ext same_stage))
      ∙ ap (λ (q : List Value). let l : Ledger = record (ledger_of (with_rotation w)) { queue = q } in l)
      (sym (agrees w inv))

  nothing_at : {X : Type 0} {x : X} → None ≡ Some x → ⊥
  nothing_at e = cc

  works_rotated : Working (with_rotation w)
  works_rotated = record {
    ready = v.ready;
    sixteen = v.sixteen;
    clients = v.clients;
    claimed = v.claimed;
    waiting = v.waiting;
    base = subst (λ (l : Ledger). Base w.shape w.memory l v.claimed v.waiting) same_ledger v.base;
    records = subst (λ (l : Ledger). Records w.shape w.memory l) same_ledger v.records;
    calls = λ i. subst (KnowsCall w.shape w.memory (ledger_of (with_rotation w)) [] i) (sym (none i)) tt;
    idle = λ client e way. nothing_at way.open_from.begins.1.1;
    up = λ down. nothing_at down.crash;
    log = begun w.shape.kind (kept_content w.shape w.memory.kept) (tells_by w.shape w.memory.kept);
  }

  tells_rotated : RightlyTold (with_rotation w)
  tells_rotated client x few tells = inr (
    record {
      none = record { none = λ place low high taken. absurd (omega (arith, high)) };
      same =
          told_at w.shape w.memory.kept client.0 few
          ∙ ap (λ y. Some y) (tells_once w.shape w.memory.kept v.claimed v.waiting (ledger_of w).queue
          (crash_sound w.shape w.memory (ledger_of w) v.claimed v.waiting v.base v.records) client.0 x tells);
    },
    inr (record { none = λ i call at takes. nothing_at at }),
  )

  -- so it is ready, and whoever calls is told by the new history
  pub inv_rotated : Inv (with_rotation w)
  inv_rotated = subst (InvAt (with_rotation w)) (sym ready) (let x : IsReady (with_rotation w) = record {
    working = works_rotated;
    tells = tells_rotated;
    issued = λ j u at. absurd (nothing_at (sym (none j) ∙ at));
  } in x)
