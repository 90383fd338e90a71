use Rattle.std.proofs.Common.{[], ◌∷◌, ◌++◌, ap, subst, sym, ◌∙◌}
use Rattle.chronicle.specs.Chronicled.{entries}
use Rattle.wire.specs.declared.request.Request.{Request}
use Rattle.owning.specs.Serving.{Owned}
use Rattle.arena.specs.Shape.{Counts}
use Rattle.desk.specs.Requests.{NamesNoClient}
use Rattle.desk.proofs.Facts.{answered_more}
use Rattle.owning.proofs.Fitting.{answer_fits, none_is_told}
use Rattle.owning.proofs.Going.{goes_further}
use Rattle.owning.proofs.Leading.{leads_more}
use Rattle.owning.proofs.owned.OwningDeskDesk.answer.Goals as goal

pub invariant_of-self : goal.invariant_of-self
invariant_of-self g c =
    let first = g.J.Beginning.first in
    let was = c.self.invariant in
    let now = c.self.inside.session in
    let new = c.answer_to.new.session in
    let made = c.answer_to.ensures.answered in
    let request = c.args.request in
    let answer = c.answer_to.result in
    record {
      leads = leads_more first now new _ _ request _ answer was.leads c.copied.ensures c.note.ensures.entries made;
      answered =
          answered_more first.broker.counts.clients _ _ request _ answer was.answered c.copied.ensures c.note.ensures.entries
          (answer_fits now new request answer made) (λ none.
          none_is_told now new request answer made
          (subst (λ (counts : Counts). NamesNoClient counts.clients request) (sym was.goes_on.queues.counts) none));
      goes_on = goes_further first now new was.goes_on c.answer_to.ensures.goes_on;
    }

pub returns-clause-served : goal.returns-clause-served
returns-clause-served g c =
    let answer = c.answer_to.result in
    c.note.ensures.entries
    ∙ (ap (λ (r : Request). entries c.self.inside.served ++ (r, answer) ∷ []) c.copied.ensures
    ∙ ap (λ (o : Owned). entries o.served ++ (c.args.request, answer) ∷ []) c.self.view_is)
