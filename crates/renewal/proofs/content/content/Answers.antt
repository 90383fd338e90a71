use Rattle.std.proofs.Common.{◌≡◌, ℕ, List, [], ◌∷◌, ◌++◌, map, sym, ap, ◌∙◌, arith}
use Rattle.arena.specs.Place.{IsNode}
use Rattle.arena.specs.Words.{links, values}
use Rattle.arena.specs.declared.place.Place.{Place}
use Rattle.sound_words.specs.Kept.{Kept, kept_of}
use Rattle.renewal.proofs.Waiting.{found_all, found_claimed, found_end, found_next, link_within, one_more}
use Rattle.renewal.proofs.content.content.Goals as goal
use Rattle.renewal.proofs.content.content.Goals.{then-kept_at-eq0+in_ok-push, else-kept_at-eq0}

pub overflow_cast-next : goal.overflow_cast-next
overflow_cast-next g c =
    let at : c.kept_at.result ≡ links (kept_of c.args.queue.now) c.loop.node.0 = c.kept_at.ensures.value in
    omega (arith, at, link_within c.args.queue.now.shape (kept_of c.args.queue.now) c.requires.sound c.loop.node.0 c.loop.invariant.2.within, c.kept_at.ensures.few)

pub kept_at-requires-in-loop : goal.kept_at-requires-in-loop
kept_at-requires-in-loop g c =
    let at : c.kept_at.result ≡ links (kept_of c.args.queue.now) c.loop.node.0 = c.kept_at.ensures.value in
    omega (arith, at, link_within c.args.queue.now.shape (kept_of c.args.queue.now) c.requires.sound c.loop.node.0 c.loop.invariant.2.within)

pub message-requires-clause-node : goal.message-requires-clause-node
message-requires-clause-node g c =
    let at : c.kept_at.result ≡ links (kept_of c.args.queue.now) c.loop.node.0 = c.kept_at.ensures.value in
    omega (arith, at, link_within c.args.queue.now.shape (kept_of c.args.queue.now) c.requires.sound c.loop.node.0 c.loop.invariant.2.within)

pub returns-then-next-eq0 : goal.returns-then-next-eq0
returns-then-next-eq0 g c =
    let queue : Kept = c.args.queue.now in
    let k : Place → ℕ = kept_of queue in
    let end : links k c.loop.node.0 ≡ 0 = sym c.kept_at.ensures.value ∙ c.if-next-eq0.true in
    c.loop.invariant.1 ∙ ap (map (values k)) (found_end queue.shape k _ _ c.loop.node.0 c.loop.invariant.0 c.loop.invariant.2 end)

pub loop-preserved : goal.loop-preserved
loop-preserved g c =
    let queue : Kept = c.args.queue.now in
    let k : Place → ℕ = kept_of queue in
    let found : List ℕ = c.loop.invariant.0 in
    let at : links k c.loop.node.0 ≡ c.kept_at.result = sym c.kept_at.ensures.value in
    let within : IsNode queue.shape c.kept_at.result = omega (arith, at, link_within queue.shape k c.requires.sound c.loop.node.0 c.loop.invariant.2.within) in
    elim c.if-kept_at-eq0.branch [
      | then-kept_at-eq0+in_ok-push w ↦ (
        found ++ c.kept_at.result ∷ [],
        one_more k found c.kept_at.result _ _ w.message.result c.loop.invariant.1 w.message.ensures (ap (λ v. v.items) w.items-is ∙ w.in_ok-push.ensures.items),
        found_next queue.shape k _ c.loop.counter c.loop.node.0 found c.loop.invariant.2 c.kept_at.result c.loop-test.true at c.if-next-eq0.false within
            (sym c.kept_at-in-loop.ensures.value ∙ w.if-kept_at-eq0.true),
      )
      | else-kept_at-eq0 w ↦ (
        found,
        ap (λ v. v.items) w.items-is ∙ c.loop.invariant.1,
        found_claimed queue.shape k _ c.loop.counter c.loop.node.0 found c.loop.invariant.2 c.kept_at.result c.loop-test.true at c.if-next-eq0.false within
            (λ z. w.if-kept_at-eq0.false (c.kept_at-in-loop.ensures.value ∙ z)),
      )
    ]

pub returns : goal.returns
returns g c =
    let queue : Kept = c.args.queue.now in
    let k : Place → ℕ = kept_of queue in
    c.loop.invariant.1 ∙ ap (map (values k)) (found_all queue.shape k _ c.loop.counter c.loop.node.0 c.loop.invariant.0 c.loop.invariant.2 c.loop-test.false)
