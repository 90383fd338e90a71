use Rattle.std.proofs.Common.{rules}
use Rattle.history.proofs.Turns.{may_from_turns, clients_from_may, up_from_may, turn_from_may}
use Rattle.history.proofs.arising.arises.Goals as goal

pub returns-then-not-has_clients : goal.returns-then-not-has_clients
returns-then-not-has_clients c = (
  search rules,
  λ history. cc
      (c.has_clients.ensures.1 (clients_from_may _ history.places), c.if-not-has_clients.true),
)

pub returns-then-not-all_stand_up : goal.returns-then-not-all_stand_up
returns-then-not-all_stand_up c = (
  search rules,
  λ history. cc
      (c.all_stand_up.ensures.1 (up_from_may _ history.places), c.if-not-all_stand_up.true),
)

pub returns-then-not-all_in_turn : goal.returns-then-not-all_in_turn
returns-then-not-all_in_turn c = (
  search rules,
  λ history. cc
      (c.all_in_turn.ensures.1 (λ client small. turn_from_may _ history.places client), c.if-not-all_in_turn.true),
)

pub returns : goal.returns
returns c = (
  λ one. record {
    places = may_from_turns _ (c.has_clients.ensures.0 c.if-not-has_clients.false)
        (c.all_stand_up.ensures.0 c.if-not-all_stand_up.false) (c.all_in_turn.ensures.0 c.if-not-all_in_turn.false);
    numbers = c.has_one_kind.ensures.0 one;
  },
  λ history. c.has_one_kind.ensures.1 history.numbers,
)
