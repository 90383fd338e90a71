use Rattle.std.proofs.Common.{rules, ◌+◌, ◌≤◌, ◌<◌, sym, ◌∙◌}
use Rattle.std.proofs.lemmas.Bool.{false≢true}
use Rattle.arena.specs.Shape.{greatest}
use Rattle.arena.specs.Place.{IsRecord}
use Rattle.sound_words.proofs.Noted.{noted_claims, noted_table, not_by_used, claimed_twice}
use Rattle.sound_words.proofs.kept.KeptQueue.note_claims.Goals as goal

pub returns-then-not-is_issued-clause-claims : goal.returns-then-not-is_issued-clause-claims
returns-then-not-is_issued-clause-claims g c =
    let node : IsRecord c.args.self.now.shape c.loop-node.node = search rules in (
      search rules,
      λ claims.
          let issued = not_by_used _ _ _ _ c.requires.chain node c.kept_at-mark.ensures.value c.if-mark-eq0.false claims in
          absurd (false≢true (sym c.if-not-is_issued.true ∙ c.is_issued.ensures.1 issued)),
    )

pub returns-then-claimed-mark-ne0-clause-claims : goal.returns-then-claimed-mark-ne0-clause-claims
returns-then-claimed-mark-ne0-clause-claims g c =
    let node : IsRecord c.args.self.now.shape c.loop-node.node = search rules in (
      search rules,
      λ claims. absurd (claimed_twice _ _ _ _ _ c.requires.chain c.loop-node.invariant.noted node c.kept_at-mark.ensures.value c.if-mark-eq0.false c.if-claimed-mark-ne0.true claims),
    )

pub returns-clause-claims : goal.returns-clause-claims
returns-clause-claims g c =
    let past : greatest c.args.self.now.shape < c.loop-node.node = search rules in
    (λ told. noted_claims _ _ _ _ c.requires.chain c.loop-node.invariant.noted past, λ claims. search rules)

pub returns-clause-noted : goal.returns-clause-noted
returns-clause-noted g c =
    let past : greatest c.args.self.now.shape < c.loop-node.node = search rules in
    let most : c.loop-node.node ≤ greatest c.args.self.now.shape + 1 = search rules in
    λ told. noted_table _ _ _ _ c.requires.chain c.loop-node.invariant.noted past most
