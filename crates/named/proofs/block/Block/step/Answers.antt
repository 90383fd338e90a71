use Rattle.std.proofs.Common.{◌≡◌, Option, Result, drop, refl, ap, sym, subst, ◌∙◌, rules, arith}
use Rattle.persist.specs.Memory.{Around, Lent, MemoryState, Words}
use Rattle.persist.specs.Lent.{window_lent, window_words}
use Rattle.persist.specs.Noted.{IsNoted, answer_in, change_behind, change_in}
use Rattle.persist.specs.declared.access.Change.{Change}
use Rattle.std.proofs.lemmas.List.{length-take}
use Rattle.words.specs.declared.refusal.Refusal.{Refusal}
use Rattle.words.specs.declared.call.Reply.{Reply}
use Rattle.interleave.specs.Asked.{IfCallAsked}
use Rattle.interleave.specs.Calls.{is_no_memory}
use Rattle.interleave.specs.Core.{state_of}
use Rattle.interleave.specs.Holds.{Holds}
use Rattle.interleave.specs.Rules.{stepping}
use Rattle.interleave.specs.State.{State}
use Rattle.interleave.proofs.Facts.{around_stepped}
use Rattle.named.specs.BlockView.{block_view}
use Rattle.named.specs.Blocks.{BlockState, IsActIn, IsAskedIn, IsWellIn, state_in}
use Rattle.named.proofs.acts.Shapes.{step_alike}
use Rattle.named.proofs.acts.Windows.{Window, act_in, noted_in, number_fits, stepped_in, with_core}
use Rattle.named.proofs.block.Block.step.Goals as goal

pub step_noted-stepped-requires-clause-holds : goal.step_noted-stepped-requires-clause-holds
step_noted-stepped-requires-clause-holds c =
    let old : MemoryState = c.args.memory.now in
    let was : BlockState = block_view c.self.inside in
    subst (λ (ws : Words). Holds (state_of was.core ws)) (sym c.in_ok-window.ensures.words)
    (subst (λ (s : BlockState). Holds (state_in old.words s)) (sym c.self.view_is) c.requires.well.holds)

pub step_noted-stepped-requires-clause-asked : goal.step_noted-stepped-requires-clause-asked
step_noted-stepped-requires-clause-asked c =
    let old : MemoryState = c.args.memory.now in
    let was : BlockState = block_view c.self.inside in
    let asked : IsAskedIn old was = subst (λ (s : BlockState). IsAskedIn old s) (sym c.self.view_is) c.requires.asked in
    subst (IfCallAsked was.core.shape _) (sym (ap (λ (l : Lent). l.request) c.in_ok-window.ensures.lent)) (asked.of_calls c.args.client.0)

pub returns-clause-act : goal.returns-clause-act
returns-clause-act c =
    let w = c.in_ok-window.window in
    let v = c.step_noted-stepped.new.memory in
    let old : MemoryState = c.args.memory.now in
    let new : MemoryState = v.memory.now in
    let was : BlockState = block_view c.self.inside in
    let first : Lent = window_lent w in
    let ws : Words = window_words w in
    let window : Window old new was c.step_noted-stepped.new.self _ c.args.client.0 v.memory.ghost_name v.port v.from v.len first ws = record {
      well = subst (λ (s : BlockState). IsWellIn old.words s) (sym c.self.view_is) c.requires.well;
      asked = subst (λ (s : BlockState). IsAskedIn old s) (sym c.self.view_is) c.requires.asked;
      own = c.requires.client;
      lent = c.in_ok-window.ensures.lent;
      words = c.in_ok-window.ensures.words;
      inside = v.inside;
      holds = c.step_noted-stepped.ensures.holds;
    } in
    let full = is_no_memory (answer_in c.step_noted-stepped.result) in
    let at = stepped_in old new was c.step_noted-stepped.new.self _ c.args.client.0 v.memory.ghost_name v.port v.from v.len first ws window in
    let acted = at full c.args.client refl c.step_noted-stepped.ensures.by_rule.leaves c.step_noted-stepped.ensures.lent in
    let fact : IsActIn (stepping c.args.client) old was (answer_in c.step_noted-stepped.result) new (with_core was c.step_noted-stepped.new.self) =
    act_in old new was c.step_noted-stepped.new.self _ c.args.client.0 v.memory.ghost_name v.port v.from v.len first ws window (stepping c.args.client) (answer_in c.step_noted-stepped.result)
    c.step_noted-stepped.ensures.by_rule acted (step_alike full (state_in old.words was) c.args.client).0 in
    let numbered : IsActIn (stepping c.args.client) old was (answer_in c.number_from.new.acted) new (with_core was c.step_noted-stepped.new.self) =
    subst (λ (r : Result (Option Reply) Refusal). IsActIn (stepping c.args.client) old was r new (with_core was c.step_noted-stepped.new.self)) (sym c.number_from.ensures.answer) fact in
    let name : v.memory.ghost_name ≡ w.memory.ghost_name =
    ap (λ (l : Lent). l.around.lender) c.step_noted-stepped.ensures.lent ∙ ap (λ (a : Around). a.lender) (around_stepped full (state_of c.self.inside.core ws) c.args.client first) in
    search rules

pub returns-clause-recovery : goal.returns-clause-recovery
returns-clause-recovery c =
    let alike = step_alike (is_no_memory (answer_in c.step_noted-stepped.result)) (state_of c.self.inside.core (window_words c.in_ok-window.window)) c.args.client in
    ap (λ (x : State). x.recovery) c.step_noted-stepped.ensures.by_rule.leaves ∙ alike.1 ∙ ap (λ (s : BlockState). s.core.trace.recovery) c.self.view_is

pub number_from-requires : goal.number_from-requires
number_from-requires c =
    let w = c.in_ok-window.window in
    let from : w.from ≡ c.self.inside.from = ap (λ (l : Lent). l.around.from) c.in_ok-window.ensures.lent in
    number_fits c.self.inside.from w.len _ _ _ c.step_noted-stepped.ensures.noted
    (omega (arith, length-take w.len (drop w.from w.memory.now.words.kept))) (omega (arith, from, w.fits))

pub returns-clause-noted : goal.returns-clause-noted
returns-clause-noted c =
    let w = c.in_ok-window.window in
    let v = c.step_noted-stepped.new.memory in
    let old : MemoryState = c.args.memory.now in
    let new : MemoryState = v.memory.now in
    let was : BlockState = block_view c.self.inside in
    let first : Lent = window_lent w in
    let ws : Words = window_words w in
    let window : Window old new was c.step_noted-stepped.new.self _ c.args.client.0 v.memory.ghost_name v.port v.from v.len first ws = record {
      well = subst (λ (s : BlockState). IsWellIn old.words s) (sym c.self.view_is) c.requires.well;
      asked = subst (λ (s : BlockState). IsAskedIn old s) (sym c.self.view_is) c.requires.asked;
      own = c.requires.client;
      lent = c.in_ok-window.ensures.lent;
      words = c.in_ok-window.ensures.words;
      inside = v.inside;
      holds = c.step_noted-stepped.ensures.holds;
    } in
    let full = is_no_memory (answer_in c.step_noted-stepped.result) in
    let around = (around_stepped full (state_of c.self.inside.core ws) c.args.client first) in
    let fact : IsNoted (change_behind was.from (change_in c.step_noted-stepped.result)) old.words.kept new.words.kept =
    noted_in old new was c.step_noted-stepped.new.self _ c.args.client.0 v.memory.ghost_name v.port v.from v.len first ws window (change_in c.step_noted-stepped.result) _ c.step_noted-stepped.ensures.lent around c.step_noted-stepped.ensures.noted in
    let numbered : IsNoted (change_in c.number_from.new.acted) old.words.kept new.words.kept =
    subst (λ (n : Option Change). IsNoted n old.words.kept new.words.kept) (sym c.number_from.ensures.change) fact in
    let name : v.memory.ghost_name ≡ w.memory.ghost_name =
    ap (λ (l : Lent). l.around.lender) c.step_noted-stepped.ensures.lent ∙ ap (λ (a : Around). a.lender) around in
    search rules
