use Rattle.std.proofs.Common.{◌≡◌, [], refl, sym, ap, subst}
use Rattle.persist.specs.Memory.{Words, words_after_crash, words_in}
use Rattle.interleave.specs.State.{State, after_stop}
use Rattle.named.specs.BlockView.{block_view}
use Rattle.named.specs.Blocks.{BlockState, IsWellIn, state_in, LieInOnePlace}
use Rattle.named.specs.Slots.{}
use Rattle.named.proofs.downtime.CrashedParts.{inside_kept}
use Rattle.named.proofs.block.Block.stop.Goals as goal

pub returns-clause-state : goal.returns-clause-state
returns-clause-state c = λ ws.
    let old : BlockState = block_view c.self.inside in
    let new : BlockState = record { core = c.stop.new.self; from = c.self.inside.from; len = c.self.inside.len; port = c.self.inside.port } in
    subst (λ (s : BlockState). state_in (words_after_crash ws) new ≡ after_stop (state_in ws s)) c.self.view_is
    (c.stop.ensures.stopped (words_in old.from old.len ws))

pub returns-clause-well : goal.returns-clause-well
returns-clause-well c = λ ws well.
    let old : BlockState = block_view c.self.inside in
    let was : IsWellIn ws old = subst (IsWellIn ws) (sym c.self.view_is) well in
    record {
      some = was.some;
      inside = inside_kept ws old was;
      ports = was.ports;
      holds = c.stop.ensures.holds (words_in old.from old.len ws) was.holds;
    }

pub returns-clause-place : goal.returns-clause-place
returns-clause-place c =
    let old : BlockState = block_view c.self.inside in
    let new : BlockState = record { core = c.stop.new.self; from = c.self.inside.from; len = c.self.inside.len; port = c.self.inside.port } in
    let ws : Words = record { cached = []; kept = []; accesses = 0 } in
    let shape : new.core.shape ≡ old.core.shape = ap (λ (w : State). w.shape) (c.stop.ensures.stopped ws) in
    subst (λ (s : BlockState). LieInOnePlace s new) c.self.view_is (refl, refl, refl, shape)
