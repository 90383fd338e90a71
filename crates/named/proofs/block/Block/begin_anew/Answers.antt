use Rattle.std.proofs.Common.{◌≡◌, false, Ok, ap, subst, sym, ◌∙◌}
use Rattle.persist.specs.Memory.{words_in}
use Rattle.sound_words.specs.Sound.{AreSoundWords}
use Rattle.interleave.specs.Core.{state_of}
use Rattle.interleave.specs.Rotation.{after_rotation, rotate_result}
use Rattle.interleave.specs.State.{State}
use Rattle.interleave.proofs.Facts.{kept_sound}
use Rattle.named.specs.BlockView.{block_view}
use Rattle.named.specs.Blocks.{BlockState, IsWellIn, state_in}
use Rattle.named.proofs.block.Block.begin_anew.Goals as goal

pub begin_anew-requires-clause-sound : goal.begin_anew-requires-clause-sound
begin_anew-requires-clause-sound c =
    let was : BlockState = block_view c.self.inside in
    let well : IsWellIn c.args.memory.now.words was = subst (IsWellIn c.args.memory.now.words) (sym c.self.view_is) c.requires.well in
    subst (AreSoundWords was.core.shape) (sym c.in-Ok.ensures.words) (kept_sound (state_in c.args.memory.now.words was) well.holds)

-- what it asks of the words of a block, it asks of any
pub begin_anew-requires-clause-quiet : goal.begin_anew-requires-clause-quiet
begin_anew-requires-clause-quiet c = λ ws.
    let was : BlockState = block_view c.self.inside in
    subst (λ (b : BlockState). rotate_result false (state_of b.core ws) ≡ Ok tt) (sym c.self.view_is) (c.requires.quiet ws)

pub returns-clause-state : goal.returns-clause-state
returns-clause-state c =
    c.begin_anew.ensures.world (words_in c.self.inside.from c.self.inside.len c.args.memory.now.words) (sym c.in-Ok.ensures.words)
    ∙ ap (λ (b : BlockState). after_rotation (state_in c.args.memory.now.words b)) c.self.view_is

pub returns-clause-well : goal.returns-clause-well
returns-clause-well c =
    let was : BlockState = block_view c.self.inside in
    let well : IsWellIn c.args.memory.now.words was = subst (IsWellIn c.args.memory.now.words) (sym c.self.view_is) c.requires.well in
    record {
      some = well.some;
      inside = well.inside;
      ports = well.ports;
      holds = c.begin_anew.ensures.holds (words_in was.from was.len c.args.memory.now.words) (sym c.in-Ok.ensures.words) well.holds;
    }

pub returns-clause-recovery : goal.returns-clause-recovery
returns-clause-recovery c = ap (λ (w : State). w.recovery) (returns-clause-state c)

pub returns-clause-place : goal.returns-clause-place
returns-clause-place c = (
  ap (λ (b : BlockState). b.from) c.self.view_is,
  ap (λ (b : BlockState). b.len) c.self.view_is,
  ap (λ (b : BlockState). b.port) c.self.view_is,
  ap (λ (w : State). w.shape) (returns-clause-state c),
)
