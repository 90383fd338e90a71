use Rattle.std.proofs.Common.{rules, ◌≤◌, ◌<◌, sym, ◌∙◌, arith, length}
use Rattle.std.proofs.lemmas.Bool.{eq-eqb, eqb-true, false≢true}
use Rattle.std.proofs.lemmas.Grind.{common_steps}
use Rattle.arena.specs.Shape.{greatest}
use Rattle.sound_words.proofs.Followed.{followed_none, followed_more, followed_run, followed_order, followed_all, next_on_chain, next_again}
use Rattle.sound_words.proofs.Tables.{placed}
use Rattle.sound_words.proofs.kept.KeptQueue.follow.Goals as goal

pub loop-i-init : goal.loop-i-init
loop-i-init g c = record {
  all = search rules;
  table = c.requires.table;
  node = omega arith;
  walked = followed_none _ _ _ c.requires.blank;
}

pub returns-then-next-eq0-clause-run : goal.returns-then-next-eq0-clause-run
returns-then-next-eq0-clause-run g c = (
  λ told. followed_run _ _ _ _ _ c.loop-i.invariant.walked (sym c.kept_at-next.ensures.value ∙ c.if-next-eq0.true),
  λ run. search rules,
)

pub returns-then-next-eq0-clause-order : goal.returns-then-next-eq0-clause-order
returns-then-next-eq0-clause-order g c = λ told. followed_order _ _ _ _ _ c.loop-i.invariant.walked (sym c.kept_at-next.ensures.value ∙ c.if-next-eq0.true)

pub returns-then-not-is_issued-clause-run : goal.returns-then-not-is_issued-clause-run
returns-then-not-is_issued-clause-run g c =
    let few : c.loop-i.i < greatest c.args.self.now.shape = omega (arith, c.loop-i-test.true, c.loop-i.invariant.all) in (
      search rules,
      λ run.
          let issued = run.issued _ (next_on_chain _ _ _ _ _ _ c.loop-i.invariant.walked few (sym c.kept_at-next.ensures.value) c.if-next-eq0.false) in
          absurd (false≢true (sym c.if-not-is_issued.true ∙ c.is_issued.ensures.1 issued)),
    )

pub returns-then-place-next-ne0-clause-run : goal.returns-then-place-next-ne0-clause-run
returns-then-place-next-ne0-clause-run g c =
    let few : c.loop-i.i < greatest c.args.self.now.shape = omega (arith, c.loop-i-test.true, c.loop-i.invariant.all) in (
      search rules,
      λ run. absurd (next_again _ _ _ _ _ _ c.loop-i.invariant.walked few (sym c.kept_at-next.ensures.value) c.if-next-eq0.false c.if-place-next-ne0.true run.ends),
    )

pub loop-i-preserved : goal.loop-i-preserved
loop-i-preserved g c =
    let few : c.loop-i.i < greatest c.args.self.now.shape = omega (arith, c.loop-i-test.true, c.loop-i.invariant.all) in
    let issued = c.is_issued.ensures.0 c.if-not-is_issued.false in
    let within : c.kept_at-next.result ≤ greatest c.args.self.now.shape = issued.is_record.1 in
    let here : c.kept_at-next.result < length c.loop-i.place = omega (arith, within, c.loop-i.invariant.table) in
    record {
      all = c.loop-i.invariant.all;
      table = grind (arith, common_steps, c.loop-i.invariant.table);
      node = within;
      walked = followed_more _ _ _ _ _ _ _ c.loop-i.invariant.walked few (sym c.kept_at-next.ensures.value) c.if-next-eq0.false issued c.if-place-next-ne0.false (placed c.loop-i.place _ _ here);
    }

pub returns-clause-run : goal.returns-clause-run
returns-clause-run g c =
    let most : greatest c.args.self.now.shape ≤ c.loop-i.i = omega (arith, c.loop-i-test.false, c.loop-i.invariant.all) in (
      λ told. followed_run _ _ _ _ _ c.loop-i.invariant.walked (sym c.kept_at.ensures.value ∙ eqb-true _ _ told),
      λ run. eq-eqb _ _ (c.kept_at.ensures.value ∙ followed_all _ _ _ _ _ c.loop-i.invariant.walked most run.ends),
    )
