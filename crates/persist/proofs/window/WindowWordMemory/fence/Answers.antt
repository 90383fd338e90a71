use Rattle.std.proofs.Common.{Option, Result, Ok, Err, IfOk, IfSome, ◌≡◌, ◌≤◌, sym, ap, ◌∙◌, subst, rules}
use Rattle.words.specs.declared.refusal.Refusal.{Refusal}
use Rattle.persist.specs.Memory.{asked_through, words_in}
use Rattle.persist.specs.declared.access.Change.{Change}
use Rattle.persist.proofs.Completing.{answer_from, completed_lent, told_from, told_in}
use Rattle.persist.proofs.Requests.{completed_in}
use Rattle.persist.proofs.window.WindowWordMemory.fence.Goals as goal

pub numbered_from-requires : goal.numbered_from-requires
numbered_from-requires c =
    let w = c.args.self.now in
    subst (λ (answer : Result (Option Change) Refusal). IfOk answer (λ change. IfSome change (λ c. w.from ≤ c.word)))
    (sym c.complete.ensures.change ∙ c.in_ok-change.was) (told_from w.from w.len (asked_through w.memory.now w.port) w.memory.now.words)

pub returns-clause-change : goal.returns-clause-change
returns-clause-change c =
    let w = c.args.self.now in
    ap Ok c.numbered_from.ensures
    ∙ ap (answer_from w.from) (sym c.in_ok-change.was ∙ c.complete.ensures.change)
    ∙ told_in w.from w.len (asked_through w.memory.now w.port) w.memory.now.words

pub returns-clause-done : goal.returns-clause-done
returns-clause-done c =
    let w = c.args.self.now in
    ap (words_in w.from w.len) c.complete.ensures.words ∙ completed_in w.from w.len (asked_through w.memory.now w.port) w.memory.now.words

pub returns-clause-lent : goal.returns-clause-lent
returns-clause-lent c =
    let w = c.args.self.now in
    completed_lent w.from w.len w.memory.ghost_name w.port w.memory.now c.complete.new.self c.complete.ensures.words c.complete.ensures.asked c.complete.ensures.others

pub returns-in_err-change-clause-change : goal.returns-in_err-change-clause-change
returns-in_err-change-clause-change c =
    let w = c.args.self.now in
    let refused : c.from_residual.result ≡ Err c.in_err-change.field-0.0 = search rules in
    refused
    ∙ ap (answer_from w.from) (sym c.in_err-change.was ∙ c.complete.ensures.change)
    ∙ told_in w.from w.len (asked_through w.memory.now w.port) w.memory.now.words

pub returns-in_err-change-clause-done : goal.returns-in_err-change-clause-done
returns-in_err-change-clause-done c =
    let w = c.args.self.now in
    ap (words_in w.from w.len) c.complete.ensures.words ∙ completed_in w.from w.len (asked_through w.memory.now w.port) w.memory.now.words

pub returns-in_err-change-clause-lent : goal.returns-in_err-change-clause-lent
returns-in_err-change-clause-lent c =
    let w = c.args.self.now in
    completed_lent w.from w.len w.memory.ghost_name w.port w.memory.now c.complete.new.self c.complete.ensures.words c.complete.ensures.asked c.complete.ensures.others
