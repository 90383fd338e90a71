use Rattle.std.proofs.Common.{rules, arith, ◌≡◌, ⊎_elim, subst}
use Rattle.std.proofs.lemmas.Bool.{cases_lt}
use Rattle.events.specs.History.{BeginsAt}
use Rattle.history.proofs.arising.open_after.Goals as goal

pub returns-else-busy : goal.returns-else-busy
returns-else-busy c = (
  λ same.
      let begins : BeginsAt c.args.events.now.items c.args.client c.args.p = search rules in
      record {
        place = c.args.p;
        before = omega arith;
        open_from = record { begins = begins; no_end = λ k low high ends. absurd (omega arith) };
      },
  λ way. ⊎_elim
      (λ lt. absurd (cc (
        c.if-busy.false,
        c.requires.busy.1 (record {
          place = way.place;
          before = lt;
          open_from = record {
            begins = way.open_from.begins;
            no_end = λ k low high ends. way.open_from.no_end k low (omega arith) ends;
          };
        }),
      )))
      (λ le.
      let here : way.place ≡ c.args.p = omega (arith, way.before) in
      let begins : BeginsAt c.args.events.now.items c.args.client c.args.p =
      subst (BeginsAt c.args.events.now.items c.args.client) here way.open_from.begins in
      search rules)
      (cases_lt way.place c.args.p),
)
