use Rattle.std.proofs.Common.{◌≡◌, suc, ◌+◌, ◌-◌, arith}
use Rattle.arena.specs.Shape.{greatest}
use Rattle.sound_words.proofs.Looked.{looked_more, looked_end, looked_out, linked_on_chain}
use Rattle.sound_words.proofs.Surveys.{record_on_chain}
use Rattle.sound_words.proofs.kept.KeptQueue.look.Goals as goal

pub returns-then-next-eq0 : goal.returns-then-next-eq0
returns-then-next-eq0 g c = looked_end _ _ c.requires.sound c.loop.on_chain c.loop.claimed _ c.loop.node _ c.kept_at-next.ensures.value c.if-next-eq0.true c.loop.invariant.looked

pub overflow_cast-node : goal.overflow_cast-node
overflow_cast-node g c =
    let r = record_on_chain _ _ c.requires.sound.chain _
    (linked_on_chain _ _ c.requires.sound.chain c.loop.node _ c.loop.invariant.looked.at_node c.kept_at-next.ensures.value c.if-next-eq0.false) in
    omega (arith, r.1, c.kept_at-next.ensures.few)

pub note_node-requires-clause-node : goal.note_node-requires-clause-node
note_node-requires-clause-node g c =
    record_on_chain _ _ c.requires.sound.chain _
    (linked_on_chain _ _ c.requires.sound.chain c.loop.node _ c.loop.invariant.looked.at_node c.kept_at-next.ensures.value c.if-next-eq0.false)

pub note_claim-requires-clause-node : goal.note_claim-requires-clause-node
note_claim-requires-clause-node g c =
    record_on_chain _ _ c.requires.sound.chain _
    (linked_on_chain _ _ c.requires.sound.chain c.loop.node _ c.loop.invariant.looked.at_node c.kept_at-next.ensures.value c.if-next-eq0.false)

pub loop-preserved : goal.loop-preserved
loop-preserved g c =
    let one_less : greatest c.args.self.now.shape - c.loop.counter ≡ suc (greatest c.args.self.now.shape - (c.loop.counter + 1)) =
    omega (arith, c.loop-test.true, c.loop.invariant.all) in
    record {
      all = c.loop.invariant.all;
      looked = looked_more _ _ c.requires.sound _ _ _ _ _ _ c.loop.node c.kept_at-next.result one_less c.kept_at-next.ensures.value c.if-next-eq0.false c.loop.invariant.looked
          c.note_node.ensures.each c.note_claim.ensures.each;
    }

pub returns : goal.returns
returns g c =
    let none : greatest c.args.self.now.shape - c.loop.counter ≡ 0 = omega (arith, c.loop-test.false, c.loop.invariant.all) in
    looked_out _ _ c.requires.sound c.loop.on_chain c.loop.claimed _ c.loop.node none c.loop.invariant.looked
