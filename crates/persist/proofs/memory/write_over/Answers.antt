use Rattle.std.proofs.Common.{◌<◌, ◌+◌, ℕ, List, length, slice_index, slice_set, sym, ap, ◌∙◌, arith}
use Rattle.persist.proofs.Overwrites.{partly_all, partly_more, partly_none}
use Rattle.persist.proofs.memory.write_over.Goals as goal

pub loop-word-init : goal.loop-word-init
loop-word-init g c = sym (partly_none c.args.from (g.W.KeptWords.kept_words c.args.words.now) c.args.kept.now)

pub loop-word-preserved : goal.loop-word-preserved
loop-word-preserved g c =
    let words : List ℕ = g.W.KeptWords.kept_words c.args.words.now in
    let from : ℕ = c.args.from in
    let word : ℕ = c.loop-word.word in
    let below : word < length words = omega (arith, c.loop-word-test.true, c.size-word-end.ensures) in
    let inside : from + word < length c.args.kept.now = omega (arith, below, c.requires) in
    ap (λ (x : ℕ). slice_set c.loop-word.kept (from + word) x) c.kept.ensures
    ∙ ap (λ (l : List ℕ). slice_set l (from + word) (slice_index words word)) c.loop-word.invariant
    ∙ partly_more from word words c.args.kept.now below inside

pub returns : goal.returns
returns g c =
    c.loop-word.invariant
    ∙ partly_all c.args.from c.loop-word.word (g.W.KeptWords.kept_words c.args.words.now) c.args.kept.now
    (omega (arith, c.loop-word-test.false, c.loop-word.auto.word-end, c.size-word-end.ensures))
