-- Calls in the queues of their names, which stay there as the broker goes on.
use Rattle.std.proofs.Common.{ℕ, List, [], ◌∷◌, ◌++◌, inl, inr, sym, subst}
use Rattle.directory.specs.Directory.{Directory, IsNamed}
use Rattle.named.specs.Brokers.{Brokered}
use Rattle.named.specs.GoingOn.{BrokerGoesOn}
use Rattle.events.proofs.Facts.{get_push_cases}
use Rattle.workers.specs.Lists.{AreNamed, with_end}
use Rattle.workers.specs.declared.entry.End.{End}
use Rattle.workers.specs.declared.entry.Entry.{Entry}
use Rattle.workers.proofs.lists.LastCalls.{with_end_at}

-- a queue keeps its name
pub name_on : (old new : Brokered) → BrokerGoesOn old new → (slot : ℕ) (name : List ℕ)
    → IsNamed old.directory slot name → IsNamed new.directory slot name
name_on old new on slot name is = record {
  queue = is.queue;
  has = on.directory slot is.queue is.has;
  named = is.named;
}

pub named_on : (old new : Brokered) → BrokerGoesOn old new → (list : List Entry) → AreNamed old.directory list
    → AreNamed new.directory list
named_on old new on list named k e at = name_on old new on e.queue.0 e.name (named k e at)

-- a call comes to the list
pub named_push : (places : Directory) (list : List Entry) (added : Entry) → IsNamed places added.queue.0 added.name
    → AreNamed places list → AreNamed places (list ++ added ∷ [])
named_push places list added its named k e at = elim (get_push_cases list added k e at) [
  | inl was ↦ named k e was
  | inr it ↦ subst (λ (z : Entry). IsNamed places z.queue.0 z.name) it.1 its
]

-- another end leaves the names
pub named_with_end : (places : Directory) (end : End) (list : List Entry) → AreNamed places list
    → AreNamed places (with_end end list)
named_with_end places end list named k e at = elim (with_end_at end list k e at) [
  | inl same ↦ named k e same.0
  | inr last ↦
      subst (λ (z : Entry). IsNamed places z.queue.0 z.name) (sym last.is) (named k last.was last.at)
]
