use Rattle.std.proofs.Common.{◌≡◌, refl, ap, sym, subst, ◌∙◌, rules}
use Rattle.persist.specs.Memory.{Lent, MemoryState, Words}
use Rattle.persist.specs.Lent.{window_lent, window_words}
use Rattle.interleave.specs.Asked.{IfCallAsked}
use Rattle.interleave.specs.Core.{state_of}
use Rattle.interleave.specs.Holds.{Holds}
use Rattle.named.specs.BlockView.{block_view}
use Rattle.named.specs.Blocks.{BlockState, IsAloneIn, IsAskedIn, IsWellIn, state_in}
use Rattle.named.proofs.acts.Shapes.{alone_alike_by}
use Rattle.named.proofs.acts.Windows.{Window, alone_act, alone_in, alone_lender, with_core}
use Rattle.named.proofs.block.Block.run_alone.Goals as goal

pub run_alone-requires-clause-holds : goal.run_alone-requires-clause-holds
run_alone-requires-clause-holds c =
    let old : MemoryState = c.args.memory.now in
    let was : BlockState = block_view c.self.inside in
    subst (λ (ws : Words). Holds (state_of was.core ws)) (sym c.in_ok-window.ensures.words)
    (subst (λ (s : BlockState). Holds (state_in old.words s)) (sym c.self.view_is) c.requires.well.holds)

pub run_alone-requires-clause-asked : goal.run_alone-requires-clause-asked
run_alone-requires-clause-asked c =
    let old : MemoryState = c.args.memory.now in
    let was : BlockState = block_view c.self.inside in
    let asked : IsAskedIn old was = subst (λ (s : BlockState). IsAskedIn old s) (sym c.self.view_is) c.requires.asked in
    subst (IfCallAsked was.core.shape _) (sym (ap (λ (l : Lent). l.request) c.in_ok-window.ensures.lent)) (asked.of_calls c.args.client.0)

pub returns-clause-alone : goal.returns-clause-alone
returns-clause-alone c =
    let w = c.in_ok-window.window in
    let v = c.run_alone.new.memory in
    let old : MemoryState = c.args.memory.now in
    let new : MemoryState = v.memory.now in
    let was : BlockState = block_view c.self.inside in
    let first : Lent = window_lent w in
    let ws : Words = window_words w in
    let window : Window old new was c.run_alone.new.self _ c.args.client.0 v.memory.ghost_name v.port v.from v.len first ws = record {
      well = subst (λ (s : BlockState). IsWellIn old.words s) (sym c.self.view_is) c.requires.well;
      asked = subst (λ (s : BlockState). IsAskedIn old s) (sym c.self.view_is) c.requires.asked;
      own = c.requires.client;
      lent = c.in_ok-window.ensures.lent;
      words = c.in_ok-window.ensures.words;
      inside = v.inside;
      holds = c.run_alone.ensures.holds;
    } in
    let made = c.run_alone.ensures.alone in
    let acted = alone_in old new was c.run_alone.new.self _ c.args.client.0 v.memory.ghost_name v.port v.from v.len first ws window c.args.client c.run_alone.result refl
    made.same c.run_alone.ensures.left made.world c.run_alone.ensures.lent in
    let fact : IsAloneIn c.args.client old was c.run_alone.result new (with_core was c.run_alone.new.self) =
    alone_act old new was c.run_alone.new.self _ c.args.client.0 v.memory.ghost_name v.port v.from v.len first ws window c.args.client c.run_alone.result made acted in
    let name : v.memory.ghost_name ≡ w.memory.ghost_name =
    alone_lender (state_of c.self.inside.core ws) c.args.client first (window_lent v) c.run_alone.result c.run_alone.ensures.left c.run_alone.ensures.lent in
    search rules

pub returns-clause-recovery : goal.returns-clause-recovery
returns-clause-recovery c =
    let made = c.run_alone.ensures.alone in
    let alike = alone_alike_by (state_of c.self.inside.core (window_words c.in_ok-window.window)) _ c.args.client c.run_alone.result made.same made.world in
    alike.1 ∙ ap (λ (s : BlockState). s.core.trace.recovery) c.self.view_is
