use Rattle.std.proofs.Common.{rules, Result, Err, inl, inr, ◌↔◌, ◌⊎◌, length, IfErr, arith, ◌≤◌, ◌≡◌, ◌<◌, ◌-◌, ◌+◌, ℕ, Ok, ap, sym, subst, ◌∙◌}
use Rattle.words.specs.declared.refusal.Refusal.{Refusal}
use Rattle.words.specs.declared.refusal.Refusal.TheVariants.{NoClient, NoWord}
use Rattle.persist.specs.declared.memory.TheConstants.{PORTS}
use Rattle.persist.specs.Changes.{change_at, change_of}
use Rattle.persist.specs.Memory.{IsNoPart, Lent, MemoryState, Words, words_in}
use Rattle.persist.specs.Lent.{window_lent, window_words}
use Rattle.interleave.specs.Core.{state_of}
use Rattle.interleave.specs.Holds.{Holds}
use Rattle.interleave.specs.State.{State, after_evict, evict_result}
use Rattle.named.specs.BlockView.{block_view}
use Rattle.named.specs.Blocks.{BlockState, IsAskedIn, IsWellIn, IsWithinBlock, state_in}
use Rattle.named.proofs.acts.Evictions.{change_there, result_evicted, whole_evicted, within_block, words_evicted}
use Rattle.named.proofs.acts.Refused.{not_ok, same_ok}
use Rattle.named.proofs.acts.Shapes.{evict_alike}
use Rattle.named.proofs.acts.Windows.{ActedIn, evicted_in, left_within, through_first, with_core}
use Rattle.named.proofs.block.Block.evict.Goals as goal

-- a part of the memory, through a port that there is, is lent
not_outside : {T : Type 0} (r : Result T Refusal) (e : Refusal) (port from len : ℕ) (ws : Words) → r ≡ Err e
    → IfErr r (λ (x : Refusal). (x ≡ NoClient) ⊎ (x ≡ NoWord)) → r ≡ Err NoClient ↔ PORTS ≤ port
    → r ≡ Err NoWord ↔ (port < PORTS) × IsNoPart from len ws → port < PORTS → 1 ≤ len → from + len ≤ length ws.cached → ⊥
not_outside (Ok x) e port from len ws is why no_port no_word below some inside = cc (is)
not_outside (Err y) e port from len ws is (inl client) no_port no_word below some inside = omega (arith, below, no_port.0 (ap Err client))
not_outside (Err y) e port from len ws is (inr word) no_port no_word below some inside = elim (no_word.0 (ap Err word)).1 [
  | inl none ↦ omega (arith, none, some)
  | inr past ↦ omega (arith, past, inside)
]

pub evict-requires : goal.evict-requires
evict-requires c =
    let old : MemoryState = c.args.memory.now in
    let was : BlockState = block_view c.self.inside in
    record {
      holds = subst (λ (ws : Words). Holds (state_of was.core ws)) (sym c.in-Ok.ensures.words)
          (subst (λ (s : BlockState). Holds (state_in old.words s)) (sym c.self.view_is) c.requires.well.holds);
    }

-- what the queue's eviction in the window is of the block
acted : (c : goal.After-renumbered) → ActedIn c.args.memory.now c.evict.new.memory.memory.now (block_view c.self.inside) c.evict.new.self
    (after_evict (state_in c.args.memory.now.words (block_view c.self.inside)) (c.args.word - c.self.inside.from))
acted c =
    let w = c.in-Ok.window in
    let v = c.evict.new.memory in
    let old : MemoryState = c.args.memory.now in
    let was : BlockState = block_view c.self.inside in
    let first : Lent = window_lent w in
    let ws : Words = window_words w in
    evicted_in old v.memory.now was c.evict.new.self _ 0 v.memory.ghost_name v.port v.from v.len first ws (record {
      well = subst (λ (s : BlockState). IsWellIn old.words s) (sym c.self.view_is) c.requires.well;
      asked = subst (λ (s : BlockState). IsAskedIn old s) (sym c.self.view_is) c.requires.asked;
      own = omega arith;
      lent = through_first first _ was old c.in-Ok.ensures.lent;
      words = c.in-Ok.ensures.words;
      inside = v.inside;
      holds = c.evict.ensures.holds;
    }) (c.args.word - c.self.inside.from) c.evict.ensures.by_rule.leaves c.evict.ensures.lent

-- the word is one of the block's
from : (c : goal.After-renumbered) → c.self.inside.from ≤ c.args.word
from c = subst (λ (s : BlockState). s.from ≤ c.args.word) (sym c.self.view_is) c.requires.from

len : (c : goal.After-renumbered) → c.args.word < c.self.inside.from + c.self.inside.len
len c = subst (λ (s : BlockState). c.args.word < s.from + s.len) (sym c.self.view_is) c.requires.len

well : (c : goal.After-renumbered) → IsWellIn c.args.memory.now.words (block_view c.self.inside)
well c = subst (λ (s : BlockState). IsWellIn c.args.memory.now.words s) (sym c.self.view_is) c.requires.well

pub returns-clause-state : goal.returns-clause-state
returns-clause-state c =
    let name : c.evict.new.memory.memory.ghost_name ≡ c.in-Ok.window.memory.ghost_name = ap (λ (l : Lent). l.around.lender) c.evict.ensures.lent in
    let fact : state_in c.evict.new.memory.memory.now.words (let x : BlockState = record (block_view c.self.inside) { core = c.evict.new.self } in x) ≡ after_evict (state_in c.args.memory.now.words (block_view c.self.inside)) (c.args.word - c.self.inside.from) = (acted c).state in
    search rules

pub returns-clause-within : goal.returns-clause-within
returns-clause-within c =
    let name : c.evict.new.memory.memory.ghost_name ≡ c.in-Ok.window.memory.ghost_name = ap (λ (l : Lent). l.around.lender) c.evict.ensures.lent in
    let old : MemoryState = c.args.memory.now in
    let was : BlockState = block_view c.self.inside in
    let at : ℕ = c.args.word - c.self.inside.from in
    let fact : IsWithinBlock old was c.evict.new.memory.memory.now (with_core was c.evict.new.self) =
    left_within old c.evict.new.memory.memory.now was c.evict.new.self (after_evict (state_in old.words was) at) (acted c) (evict_alike (state_in old.words was) at).0 in
    search rules

pub returns-clause-words : goal.returns-clause-words
returns-clause-words c =
    let name : c.evict.new.memory.memory.ghost_name ≡ c.in-Ok.window.memory.ghost_name = ap (λ (l : Lent). l.around.lender) c.evict.ensures.lent in
    let old : MemoryState = c.args.memory.now in
    let was : BlockState = block_view c.self.inside in
    let whole = whole_evicted was.from was.len c.args.word old.words c.evict.new.memory.memory.now.words (from c) (len c) (acted c).outside
    (ap (λ (x : State). x.words) (acted c).state ∙ words_evicted was.core (words_in was.from was.len old.words) (c.args.word - was.from) (well c).holds
    (within_block was.from was.len c.args.word old.words (from c) (len c) (well c).inside)) in
    search rules

pub returns-clause-room : goal.returns-clause-room
returns-clause-room c = c.evict.ensures.room ∙ ap (λ (s : BlockState). s.core.trace.room) c.self.view_is

pub returns-clause-recovery : goal.returns-clause-recovery
returns-clause-recovery c = ap (λ (w : State). w.recovery) (returns-clause-state c) ∙ (evict_alike (state_in c.args.memory.now.words c.args.self.now) (c.args.word - c.args.self.now.from)).1

pub unreachable-requires : goal.unreachable-requires
unreachable-requires c =
    let well : IsWellIn c.args.memory.now.words (block_view c.self.inside) = subst (λ (s : BlockState). IsWellIn c.args.memory.now.words s) (sym c.self.view_is) c.requires.well in
    not_outside c.window.result c.in_default.field-0 c.self.inside.port c.self.inside.from c.self.inside.len c.args.memory.now.words c.in_default.is c.window.ensures.errors c.window.ensures.no_port c.window.ensures.no_word (omega (arith, well.ports)) well.some well.inside

pub unreachable-requires-in_default-evict : goal.unreachable-requires-in_default-evict
unreachable-requires-in_default-evict c =
    let old : Words = c.args.memory.now.words in
    let was : BlockState = block_view c.self.inside in
    let shown : Words = words_in was.from was.len old in
    let well : IsWellIn old was = subst (λ (s : BlockState). IsWellIn old s) (sym c.self.view_is) c.requires.well in
    let from : was.from ≤ c.args.word = subst (λ (s : BlockState). s.from ≤ c.args.word) (sym c.self.view_is) c.requires.from in
    let len : c.args.word < was.from + was.len = subst (λ (s : BlockState). c.args.word < s.from + s.len) (sym c.self.view_is) c.requires.len in
    let answer : c.evict.result ≡ Ok (change_of shown (c.args.word - was.from)) =
    c.evict.ensures.by_rule.answers ∙ ap (λ (ws : Words). evict_result (state_of was.core ws) (c.args.word - was.from)) c.in-Ok.ensures.words
    ∙ result_evicted was.core shown (c.args.word - was.from) well.holds (within_block was.from was.len c.args.word old from len well.inside) in
    absurd (not_ok _ _ _ c.in_default-evict.is answer)

pub returns-clause-result : goal.returns-clause-result
returns-clause-result c =
    let old : Words = c.args.memory.now.words in
    let was : BlockState = block_view c.self.inside in
    let shown : Words = words_in was.from was.len old in
    let at : ℕ = c.args.word - c.self.inside.from in
    let answer : c.evict.result ≡ Ok (change_of shown at) =
    c.evict.ensures.by_rule.answers ∙ ap (λ (ws : Words). evict_result (state_of was.core ws) at) c.in-Ok.ensures.words
    ∙ result_evicted was.core shown at (well c).holds (within_block was.from was.len c.args.word old (from c) (len c) (well c).inside) in
    let ok : Ok c.in-Ok-evict.change ≡ Ok (change_of shown at) = sym c.in-Ok-evict.is ∙ answer in
    let is : c.in-Ok-evict.change ≡ change_of shown at = same_ok _ _ ok in
    ap Ok (c.renumbered.ensures ∙ ap (change_at c.args.word) is ∙ change_there c.self.inside.from c.self.inside.len c.args.word old (from c) (len c))
