use Rattle.std.proofs.Common.{◌≡◌, None, refl, ap, sym, subst, ◌∙◌, rules, arith}
use Rattle.persist.specs.Memory.{Lent, MemoryState, Words}
use Rattle.persist.specs.Lent.{window_lent, window_words}
use Rattle.interleave.specs.Calls.{is_no_memory}
use Rattle.interleave.specs.Core.{state_of}
use Rattle.interleave.specs.Holds.{Holds}
use Rattle.interleave.specs.Rules.{starting}
use Rattle.interleave.specs.State.{State}
use Rattle.named.specs.BlockView.{block_view}
use Rattle.named.specs.Blocks.{BlockState, IsActIn, IsAskedIn, IsWellIn, state_in}
use Rattle.persist.specs.Noted.{IsNoted}
use Rattle.named.proofs.acts.Shapes.{start_alike, start_kept}
use Rattle.named.proofs.acts.Windows.{Window, act_in, noted_in, started_in, through_first, with_core}
use Rattle.named.proofs.block.Block.start.Goals as goal

pub start-requires : goal.start-requires
start-requires c =
    let old : MemoryState = c.args.memory.now in
    let was : BlockState = block_view c.self.inside in
    record {
      holds = subst (λ (ws : Words). Holds (state_of was.core ws)) (sym c.in_ok-window.ensures.words)
          (subst (λ (s : BlockState). Holds (state_in old.words s)) (sym c.self.view_is) c.requires.well.holds);
    }

pub returns-clause-act : goal.returns-clause-act
returns-clause-act c =
    let w = c.in_ok-window.window in
    let v = c.start.new.memory in
    let old : MemoryState = c.args.memory.now in
    let new : MemoryState = v.memory.now in
    let was : BlockState = block_view c.self.inside in
    let first : Lent = window_lent w in
    let ws : Words = window_words w in
    let window : Window old new was c.start.new.self _ 0 v.memory.ghost_name v.port v.from v.len first ws = record {
      well = subst (λ (s : BlockState). IsWellIn old.words s) (sym c.self.view_is) c.requires.well;
      asked = subst (λ (s : BlockState). IsAskedIn old s) (sym c.self.view_is) c.requires.asked;
      own = omega arith;
      lent = through_first first _ was old c.in_ok-window.ensures.lent;
      words = c.in_ok-window.ensures.words;
      inside = v.inside;
      holds = c.start.ensures.holds;
    } in
    let full = is_no_memory c.start.result in
    let at = started_in old new was c.start.new.self _ 0 v.memory.ghost_name v.port v.from v.len first ws window in
    let acted = at full c.args.client c.args.number c.args.call c.start.ensures.by_rule.leaves c.start.ensures.lent in
    let fact : IsActIn (starting c.args.client c.args.number c.args.call) old was c.start.result new (with_core was c.start.new.self) =
    act_in old new was c.start.new.self _ 0 v.memory.ghost_name v.port v.from v.len first ws window (starting c.args.client c.args.number c.args.call) c.start.result
    c.start.ensures.by_rule acted (start_alike full (state_in old.words was) c.args.client c.args.number c.args.call).0 in
    let name : v.memory.ghost_name ≡ w.memory.ghost_name = ap (λ (l : Lent). l.around.lender) c.start.ensures.lent in
    search rules

pub returns-clause-recovery : goal.returns-clause-recovery
returns-clause-recovery c =
    let alike = start_alike (is_no_memory c.start.result) (state_of c.self.inside.core (window_words c.in_ok-window.window)) c.args.client c.args.number c.args.call in
    ap (λ (x : State). x.recovery) c.start.ensures.by_rule.leaves ∙ alike.1 ∙ ap (λ (s : BlockState). s.core.trace.recovery) c.self.view_is

pub returns-clause-kept : goal.returns-clause-kept
returns-clause-kept c =
    let w = c.in_ok-window.window in
    let v = c.start.new.memory in
    let old : MemoryState = c.args.memory.now in
    let new : MemoryState = v.memory.now in
    let was : BlockState = block_view c.self.inside in
    let first : Lent = window_lent w in
    let ws : Words = window_words w in
    let window : Window old new was c.start.new.self _ 0 v.memory.ghost_name v.port v.from v.len first ws = record {
      well = subst (λ (s : BlockState). IsWellIn old.words s) (sym c.self.view_is) c.requires.well;
      asked = subst (λ (s : BlockState). IsAskedIn old s) (sym c.self.view_is) c.requires.asked;
      own = omega arith;
      lent = through_first first _ was old c.in_ok-window.ensures.lent;
      words = c.in_ok-window.ensures.words;
      inside = v.inside;
      holds = c.start.ensures.holds;
    } in
    let same : IsNoted None ws.kept (window_words v).kept = record {
      real = tt;
      applied = ap (λ (x : State). x.words.kept) c.start.ensures.by_rule.leaves ∙ start_kept (is_no_memory c.start.result) (state_of c.self.inside.core ws) c.args.client c.args.number c.args.call;
    } in
    let fact : new.words.kept ≡ old.words.kept =
    (noted_in old new was c.start.new.self _ 0 v.memory.ghost_name v.port v.from v.len first ws window None first c.start.ensures.lent refl same).applied in
    let name : v.memory.ghost_name ≡ w.memory.ghost_name = ap (λ (l : Lent). l.around.lender) c.start.ensures.lent in
    search rules
