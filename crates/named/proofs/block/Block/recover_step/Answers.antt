use Rattle.std.proofs.Common.{◌≡◌, Bool, Option, Result, drop, refl, ap, sym, subst, ◌∙◌, rules, arith}
use Rattle.words.specs.declared.limits.TheConstants.{RECOVERY_PORT}
use Rattle.persist.specs.Memory.{Around, Lent, MemoryState, Words}
use Rattle.persist.specs.Lent.{window_lent, window_words}
use Rattle.persist.specs.Noted.{IsNoted, answer_in, change_behind, change_in}
use Rattle.persist.specs.declared.access.Change.{Change}
use Rattle.std.proofs.lemmas.List.{length-take}
use Rattle.words.specs.declared.refusal.Refusal.{Refusal}
use Rattle.interleave.specs.Asked.{IfRecoveryAsked}
use Rattle.interleave.specs.Calls.{is_no_memory}
use Rattle.interleave.specs.Core.{state_of}
use Rattle.interleave.specs.Holds.{Holds}
use Rattle.interleave.specs.Rules.{recovering}
use Rattle.interleave.proofs.Facts.{around_recovered}
use Rattle.named.specs.BlockView.{block_view}
use Rattle.named.specs.Blocks.{BlockState, IsActIn, IsAskedIn, IsWellIn, state_in}
use Rattle.named.proofs.acts.Shapes.{recovered_shape}
use Rattle.named.proofs.acts.Windows.{Window, act_in, noted_in, number_fits, recovered_in, with_core}
use Rattle.named.proofs.block.Block.recover_step.Goals as goal

pub recover_step_noted-recovered-requires-clause-holds : goal.recover_step_noted-recovered-requires-clause-holds
recover_step_noted-recovered-requires-clause-holds c =
    let old : MemoryState = c.args.memory.now in
    let was : BlockState = block_view c.self.inside in
    subst (λ (ws : Words). Holds (state_of was.core ws)) (sym c.in_ok-window.ensures.words)
    (subst (λ (s : BlockState). Holds (state_in old.words s)) (sym c.self.view_is) c.requires.well.holds)

pub recover_step_noted-recovered-requires-clause-asked : goal.recover_step_noted-recovered-requires-clause-asked
recover_step_noted-recovered-requires-clause-asked c =
    let old : MemoryState = c.args.memory.now in
    let was : BlockState = block_view c.self.inside in
    let asked : IsAskedIn old was = subst (λ (s : BlockState). IsAskedIn old s) (sym c.self.view_is) c.requires.asked in
    subst (IfRecoveryAsked was.core.shape was.core.trace.recovery) (sym (ap (λ (l : Lent). l.request) c.in_ok-window.ensures.lent)) asked.of_recovery

pub returns-clause-act : goal.returns-clause-act
returns-clause-act c =
    let w = c.in_ok-window.window in
    let v = c.recover_step_noted-recovered.new.memory in
    let old : MemoryState = c.args.memory.now in
    let new : MemoryState = v.memory.now in
    let was : BlockState = block_view c.self.inside in
    let first : Lent = window_lent w in
    let ws : Words = window_words w in
    let window : Window old new was c.recover_step_noted-recovered.new.self _ RECOVERY_PORT v.memory.ghost_name v.port v.from v.len first ws = record {
      well = subst (λ (s : BlockState). IsWellIn old.words s) (sym c.self.view_is) c.requires.well;
      asked = subst (λ (s : BlockState). IsAskedIn old s) (sym c.self.view_is) c.requires.asked;
      own = omega arith;
      lent = c.in_ok-window.ensures.lent;
      words = c.in_ok-window.ensures.words;
      inside = v.inside;
      holds = c.recover_step_noted-recovered.ensures.holds;
    } in
    let full = is_no_memory (answer_in c.recover_step_noted-recovered.result) in
    let at = recovered_in old new was c.recover_step_noted-recovered.new.self _ RECOVERY_PORT v.memory.ghost_name v.port v.from v.len first ws window in
    let acted = at full refl c.recover_step_noted-recovered.ensures.by_rule.leaves c.recover_step_noted-recovered.ensures.lent in
    let fact : IsActIn recovering old was (answer_in c.recover_step_noted-recovered.result) new (with_core was c.recover_step_noted-recovered.new.self) =
    act_in old new was c.recover_step_noted-recovered.new.self _ RECOVERY_PORT v.memory.ghost_name v.port v.from v.len first ws window recovering (answer_in c.recover_step_noted-recovered.result)
    c.recover_step_noted-recovered.ensures.by_rule acted (recovered_shape full (state_in old.words was)) in
    let numbered : IsActIn (recovering) old was (answer_in c.number_from.new.acted) new (with_core was c.recover_step_noted-recovered.new.self) =
    subst (λ (r : Result Bool Refusal). IsActIn (recovering) old was r new (with_core was c.recover_step_noted-recovered.new.self)) (sym c.number_from.ensures.answer) fact in
    let name : v.memory.ghost_name ≡ w.memory.ghost_name =
    ap (λ (l : Lent). l.around.lender) c.recover_step_noted-recovered.ensures.lent ∙ ap (λ (a : Around). a.lender) (around_recovered full (state_of c.self.inside.core ws) first) in
    search rules

pub number_from-requires : goal.number_from-requires
number_from-requires c =
    let w = c.in_ok-window.window in
    let from : w.from ≡ c.self.inside.from = ap (λ (l : Lent). l.around.from) c.in_ok-window.ensures.lent in
    number_fits c.self.inside.from w.len _ _ _ c.recover_step_noted-recovered.ensures.noted
    (omega (arith, length-take w.len (drop w.from w.memory.now.words.kept))) (omega (arith, from, w.fits))

pub returns-clause-noted : goal.returns-clause-noted
returns-clause-noted c =
    let w = c.in_ok-window.window in
    let v = c.recover_step_noted-recovered.new.memory in
    let old : MemoryState = c.args.memory.now in
    let new : MemoryState = v.memory.now in
    let was : BlockState = block_view c.self.inside in
    let first : Lent = window_lent w in
    let ws : Words = window_words w in
    let window : Window old new was c.recover_step_noted-recovered.new.self _ RECOVERY_PORT v.memory.ghost_name v.port v.from v.len first ws = record {
      well = subst (λ (s : BlockState). IsWellIn old.words s) (sym c.self.view_is) c.requires.well;
      asked = subst (λ (s : BlockState). IsAskedIn old s) (sym c.self.view_is) c.requires.asked;
      own = omega arith;
      lent = c.in_ok-window.ensures.lent;
      words = c.in_ok-window.ensures.words;
      inside = v.inside;
      holds = c.recover_step_noted-recovered.ensures.holds;
    } in
    let full = is_no_memory (answer_in c.recover_step_noted-recovered.result) in
    let around = (around_recovered full (state_of c.self.inside.core ws) first) in
    let fact : IsNoted (change_behind was.from (change_in c.recover_step_noted-recovered.result)) old.words.kept new.words.kept =
    noted_in old new was c.recover_step_noted-recovered.new.self _ RECOVERY_PORT v.memory.ghost_name v.port v.from v.len first ws window (change_in c.recover_step_noted-recovered.result) _ c.recover_step_noted-recovered.ensures.lent around c.recover_step_noted-recovered.ensures.noted in
    let numbered : IsNoted (change_in c.number_from.new.acted) old.words.kept new.words.kept =
    subst (λ (n : Option Change). IsNoted n old.words.kept new.words.kept) (sym c.number_from.ensures.change) fact in
    let name : v.memory.ghost_name ≡ w.memory.ghost_name =
    ap (λ (l : Lent). l.around.lender) c.recover_step_noted-recovered.ensures.lent ∙ ap (λ (a : Around). a.lender) around in
    search rules
