-- Which rule the kept words of a broker break, if any.
use Rattle.std.proofs.Common.{◌≡◌, ℕ, ◌<◌, ◌≤◌, ◌⊎◌, ◌↔◌, inl, inr, Bool, true, false, List, Option, Some, None, length, slice_index, refl, subst, sym, ◌∙◌, ⊎_elim, arith}
use Rattle.std.specs.Prelude.{IsTrue, IsSome}
use Rattle.std.specs.Option.{is_some}
use Rattle.arena.specs.Broker.{broker_size_in}
use Rattle.arena.specs.Shape.{Counts}
use Rattle.arena.specs.declared.form.Form.{Form}
use Rattle.directory.specs.Directory.{IsDirectory}
use Rattle.directory.specs.Queue.{directory_of, gate_at, queue_in}
use Rattle.directory.specs.declared.queue.Queue.{Queue}
use Rattle.directory.specs.Sound.{counts_in, AreBrokerWordsIn, HasDirectoryBrokenIn, HeadIsSoundIn, IsBlockZeroIn, SlotIsSoundIn}

module _ (form : Form) (ws : List ℕ) where
  pub head_broken : ¬ (HeadIsSoundIn form ws) → (false ≡ true) ↔ AreBrokerWordsIn form ws
  head_broken wrong = (λ holds. absurd cc, λ are. absurd (wrong are.head))

  pub directory_broken : HasDirectoryBrokenIn form ws → (false ≡ true) ↔ AreBrokerWordsIn form ws
  directory_broken wrong = (λ holds. absurd cc, λ are. absurd (wrong.broken are.directory))

  module _ (head : HeadIsSoundIn form ws) where
    pub names_broken : ¬ (IsDirectory (directory_of ws)) → HasDirectoryBrokenIn form ws
    names_broken wrong = record { head = head; broken = λ directory. wrong directory.names }

    module _ (layout : Counts) (is : layout ≡ counts_in ws) where
      pub slots_broken : (sound : Bool) → IsTrue sound ↔ ((slot : ℕ) → slot < 8 → SlotIsSoundIn form layout ws slot) → sound ≡ false
          → HasDirectoryBrokenIn form ws
      slots_broken sound says fails = record {
        head = head;
        broken = λ directory.
            let holds : sound ≡ true = says.1 (subst (λ (counts : Counts). (slot : ℕ) → slot < 8 → SlotIsSoundIn form counts ws slot) (sym is) directory.slots) in
            cc;
      }

      pub none_broken : ((slot : ℕ) → slot < 8 → SlotIsSoundIn form layout ws slot) → IsDirectory (directory_of ws)
          → (true ≡ true) ↔ AreBrokerWordsIn form ws
      none_broken slots names = (
        λ _. record {
          head = head;
          directory = record {
            slots = subst (λ (counts : Counts). (slot : ℕ) → slot < 8 → SlotIsSoundIn form counts ws slot) is slots;
            names = names;
          };
        },
        λ _. refl,
      )

      pub all_there : broker_size_in form layout ≤ length ws
      all_there = subst (λ (counts : Counts). broker_size_in form counts ≤ length ws) (sym is) (omega (arith, head.size))

module _ (form : Form) (counts : Counts) (ws : List ℕ) (slot gate : ℕ) (is : gate ≡ slice_index ws (gate_at slot)) where
  pub shut : gate ≡ 0 → (zero : Bool) → IsTrue zero ↔ IsBlockZeroIn form counts ws slot → IsTrue zero ↔ SlotIsSoundIn form counts ws slot
  shut closed zero says = (
    λ holds. inl (record { gate = sym is ∙ closed; block = says.0 holds }),
    λ sound. ⊎_elim (λ shut. says.1 shut.block) (λ opened. let both : 0 ≡ 1 = sym closed ∙ is ∙ opened.gate in absurd (omega (arith, both))) sound,
  )

  pub unlocked : gate ≡ 1 → (found : Option Queue) → found ≡ queue_in ws slot → (answer : Bool) → answer ≡ is_some found
      → IsTrue answer ↔ SlotIsSoundIn form counts ws slot
  unlocked opens (Some queue) told answer some = (
    λ _. inr (record { gate = sym is ∙ opens; queue = subst IsSome told refl }),
    λ _. some,
  )
  unlocked opens None told answer none = (
    λ holds. absurd cc,
    λ sound. ⊎_elim (λ shut. let both : 1 ≡ 0 = sym opens ∙ is ∙ shut.gate in absurd (omega (arith, both)))
        (λ opened. let no : false ≡ true = subst IsSome (sym told) opened.queue in absurd cc) sound,
  )
