use Rattle.history.proofs.checking.explains.Goals as goal

pub returns : goal.returns
returns c = (
  λ told.
      let tells = c.tells.ensures.0 told in
      record {
        is_order = record {
          calls = c.names_calls.ensures.0 c.if-not-names_calls.false;
          once = c.names_once.ensures.0 c.if-not-names_once.false;
        };
        answers = c.all_answered.ensures.0 c.if-not-all_answered.false;
        replays = c.replay_is_right.ensures.0 c.if-not-replay_is_right.false;
        precedence = c.precedence_is_kept.ensures.0 c.if-not-precedence_is_kept.false;
        verdicts = tells.verdicts;
        interrupted = tells.interrupted;
        rows = tells.rows;
      },
  λ explains. c.tells.ensures.1 (record {
    verdicts = explains.verdicts;
    interrupted = explains.interrupted;
    rows = explains.rows;
  }),
)

pub names_once-requires-clause-precedence : goal.names_once-requires-clause-precedence
names_once-requires-clause-precedence c = c.precedence_is_kept.ensures.0 c.if-not-precedence_is_kept.false

pub all_answered-requires-clause-precedence : goal.all_answered-requires-clause-precedence
all_answered-requires-clause-precedence c = c.precedence_is_kept.ensures.0 c.if-not-precedence_is_kept.false

pub tells-requires-clause-precedence : goal.tells-requires-clause-precedence
tells-requires-clause-precedence c = c.precedence_is_kept.ensures.0 c.if-not-precedence_is_kept.false
