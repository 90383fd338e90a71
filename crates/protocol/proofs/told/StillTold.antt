-- While recovery is under way the kept words tell each client the same, and hold the same queue.
use Rattle.std.proofs.Common.{◌≡◌, ℕ, inl, inr, List, ◌++◌, length, Some, refl, sym, ◌∙◌, subst}
use Rattle.std.specs.Prelude.{slice_get}
use Rattle.std.proofs.lemmas.Bool.{cases_eq}
use Rattle.words.specs.declared.told.Told.{Told}
use Rattle.arena.specs.Content.{chain_of, kept_content}
use Rattle.arena.specs.Shape.{Shape}
use Rattle.arena.specs.declared.place.Place.{Place}
use Rattle.events.specs.Trace.{queue_of}
use Rattle.recover.specs.Table.{access_of}
use Rattle.sound_words.specs.Told.{tells_by}
use Rattle.stepper.specs.declared.resume.After.TheVariants.{Done as Ready}
use Rattle.recover.specs.declared.recovery.Recovery.{Recovery}
use Rattle.protocol.specs.Machine.{World, put, with_access, with_recovery_step, next_recovery}
use Rattle.protocol.specs.Kept.{TellsOf}
use Rattle.protocol.proofs.changes.Puts.{put_id}
use Rattle.protocol.proofs.told.Rightly.{KeptBy}
use Rattle.protocol.proofs.worlds.ReadyWorlds.{access_kept}
use Rattle.protocol.proofs.recovery.Recovering.{MayKeep}
use Rattle.protocol.proofs.recovery.RecoveryEnds.{hand_may}
use Rattle.protocol.specs.invariants.Worlds.{Recovering}
use Rattle.protocol.proofs.worlds.RecoveringWorlds.{access_tells, told_woken}
use Rattle.protocol.proofs.told.ToldByWords.{told_all, put_tells_still, put_content_still}

-- these words tell the same and hold the same
pub record TellsAlike (s : Shape) (k n : Place → ℕ) : Type 0 where
  pub tells : tells_by s n ≡ tells_by s k
  pub holds : kept_content s n ≡ kept_content s k

pub alike : (s : Shape) (k : Place → ℕ) → TellsAlike s k k
alike s k = record { tells = refl; holds = refl }

pub alike_more : (s : Shape) (k n o : Place → ℕ) → TellsAlike s k n → TellsAlike s n o → TellsAlike s k o
alike_more s k n o a b = record { tells = b.tells ∙ a.tells; holds = b.holds ∙ a.holds }

module _ (w : World) (r : Recovery) (v : Recovering w r) where
  -- any word that is kept now
  pub put_alike : (p : Place) → TellsAlike w.shape w.memory.kept (put w.memory.kept p (w.memory.cached p))
  put_alike p = elim (cases_eq (w.memory.kept p) (w.memory.cached p)) [
    | inl e ↦ subst (TellsAlike w.shape w.memory.kept) (sym (put_id w.memory.kept p (w.memory.cached p) (sym e))) (alike w.shape w.memory.kept)
    | inr ne ↦
        let may : MayKeep w.shape w.memory.kept p (w.memory.cached p) =
        hand_may w.shape w.memory v.claimed v.waiting (queue_of w.log.events w.base w.log.effects) v.sound p ne r v.at in
        record {
          tells = put_tells_still w.shape w.memory.kept p (w.memory.cached p) may;
          holds = put_content_still w.shape w.memory.kept p (w.memory.cached p) may;
        }
  ]

  -- a step of recovery
  pub recovered_alike : TellsAlike w.shape w.memory.kept (with_recovery_step w r).memory.kept
  recovered_alike = go (access_kept w.memory (access_of w.shape.kind r.at))
    where
      go : KeptBy w.memory (with_access w.memory (access_of w.shape.kind r.at)) → TellsAlike w.shape w.memory.kept (with_access w.memory (access_of w.shape.kind r.at)).kept
      go (inl e) = subst (TellsAlike w.shape w.memory.kept) (sym e) (alike w.shape w.memory.kept)
      go (inr q) = subst (TellsAlike w.shape w.memory.kept) (sym q.same) (put_alike q.p)

  -- what is told when recovery ends is told by the words as they are now
  pub told_now : chain_of w.shape w.memory.kept ≡ v.claimed ++ v.waiting → (told : List Told) → next_recovery w r ≡ Ready told
      → told ≡ tells_by w.shape w.memory.kept
  told_now chain told e =
      let t : (length told ≡ 16) × ((t : ℕ) (x : Told) → slice_get told t ≡ Some x → TellsOf w.shape (with_recovery_step w r).memory.kept t x) = told_woken w r v told e in
      told_all w.shape w.memory.kept v.claimed v.waiting (queue_of w.log.events w.base w.log.effects) v.sound chain told t.0
      (λ j x q. access_tells w r v (with_access w.memory (access_of w.shape.kind r.at)) (access_kept w.memory (access_of w.shape.kind r.at)) j x (t.1 j x q))
