use Rattle.std.proofs.Common.{◌≡◌, ℕ, ◌+◌, ◌-◌, ◌*◌, ◌≤◌, List, ◌++◌, sym, ap, subst, ◌∙◌, append_assoc, arith}
use Rattle.std.proofs.lemmas.List.{append-nil}
use Rattle.words.specs.PlainQueue.{Value}
use Rattle.arena.specs.Shape.{greatest}
use Rattle.interleave.specs.Content.{unclaimed_from}
use Rattle.arena.specs.declared.place.Place.{Place}
use Rattle.arena.specs.declared.place.Place.TheVariants.{Next}
use Rattle.interleave.specs.Values.{value_of_place}
use Rattle.interleave.proofs.words.Values.{shown_at}
use Rattle.interleave.proofs.words.Contents.{content_from, content_end, content_next}
use Rattle.interleave.proofs.content.content.Goals as goal

pub returns-then-next-eq0-clause-content : goal.returns-then-next-eq0-clause-content
returns-then-next-eq0-clause-content g c =
    let word : Place → ℕ = value_of_place c.args.layout.now (g.K.KeptWords.kept_words c.args.kept.now) in
    sym (append-nil c.loop.values.items)
    ∙ ap (λ xs. c.loop.values.items ++ xs) (sym (content_end word _ c.loop.node.0 (sym c.kept_at.ensures ∙ c.if-next-eq0.true)))
    ∙ c.loop.invariant.content

pub loop-preserved : goal.loop-preserved
loop-preserved g c =
    let word : Place → ℕ = value_of_place c.args.layout.now (g.K.KeptWords.kept_words c.args.kept.now) in
    let links : ℕ = c.clients.result * c.records.result in
    let rest : List Value = content_from word (links - (c.loop.counter + 1)) c.kept_at.result in
    let fits : word (Next c.loop.node) ≤ greatest c.args.layout.now = subst (λ n. n ≤ greatest c.args.layout.now) (sym (shown_at c.args.layout.now (g.K.KeptWords.kept_words c.args.kept.now) (Next c.loop.node) c.loop.invariant.node)) (c.requires.fits (Next c.loop.node) c.loop.invariant.node tt) in
    let read : c.kept_at.result ≡ word (Next c.loop.node) = c.kept_at.ensures in
    record {
      links = c.loop.invariant.links;
      node = omega (arith, fits, read);
      content =
          ap (λ xs. xs ++ rest) c.in_ok-add_unclaimed.ensures.added
          ∙ append_assoc c.loop.values.items (unclaimed_from word c.kept_at.result) rest
          ∙ ap (λ xs. c.loop.values.items ++ xs) (sym (content_next word links c.loop.counter c.loop.node.0 c.kept_at.result c.loop-test.true (sym read) c.if-next-eq0.false))
          ∙ c.loop.invariant.content;
    }
