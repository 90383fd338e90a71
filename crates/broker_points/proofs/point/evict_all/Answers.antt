use Rattle.std.proofs.Common.{◌≡◌, ◌+◌, ◌∷◌, ℕ, suc, List, get_or, drop, map, ap, subst, ◌∙◌, arith}
use Rattle.std.proofs.Math.Seq.{drop-cons}
use Rattle.std.proofs.lemmas.List.{drop_all}
use Rattle.broker_points.specs.Points.{eviction}
use Rattle.broker_points.proofs.Leading.{lines_end, lines_more, LinesLead}
use Rattle.broker_points.proofs.point.evict_all.Goals as goal

pub loop-word-preserved : goal.loop-word-preserved
loop-word-preserved c =
    let i = c.loop-word.word-index in
    let words : List ℕ = c.args.words.now in
    let all = map eviction words in
    let word : ℕ = get_or words i 0 in
    let next : suc i ≡ i + 1 = omega arith in
    let split : drop i words ≡ word ∷ drop (i + 1) words =
    drop-cons words i 0 c.loop-word-test.true ∙ ap (λ (n : ℕ). get_or words i 0 ∷ drop n words) next in
    let leads : LinesLead c.args.player.now all c.loop-word.player (eviction word ∷ map eviction (drop (i + 1) words)) =
    subst (λ (l : List ℕ). LinesLead c.args.player.now all c.loop-word.player (map eviction l)) split c.loop-word.invariant.leads in
    record {
      leads = lines_more c.args.player.now c.loop-word.player c.follow.new.player all (map eviction (drop (i + 1) words)) (eviction word) c.in_ok-follow.ensures.leads leads;
      known = c.in_ok-follow.ensures.known;
    }

pub returns-clause-leads : goal.returns-clause-leads
returns-clause-leads c =
    let i = c.loop-word.word-index in
    let words : List ℕ = c.args.words.now in
    lines_end c.args.player.now c.loop-word.player (map eviction words)
    (subst (λ (l : List ℕ). LinesLead c.args.player.now (map eviction words) c.loop-word.player (map eviction l))
    (drop_all i words c.loop-word-test.false) c.loop-word.invariant.leads)
