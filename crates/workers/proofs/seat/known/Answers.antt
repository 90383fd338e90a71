use Rattle.std.proofs.Common.{ap, ◌∙◌, [], Some}
use Rattle.roll.specs.Rule.{keeper}
use Rattle.workers.proofs.seats.Turns.{set_as_was}
use Rattle.workers.proofs.seat.known.Goals as goal

pub returns-clause-keeper : goal.returns-clause-keeper
returns-clause-keeper g c =
    let written = c.write-token.ensures in
    let rows = c.args.keeper.now.me.0.rows in
    let seat = c.args.seat in
    let at = written.before ∙ ap Some (ap (λ me. me.0.row) seat.holds.1) in (
      written.keeper.0 ∙ c.requires.roll,
      written.keeper.1 ∙ ap (λ rows. (keeper rows, [])) (set_as_was rows seat.token.me.0.place seat.list.items at),
    )
