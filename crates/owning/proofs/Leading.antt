-- One request more leads on.
use Rattle.std.proofs.Common.{◌≡◌, List, [], ◌∷◌, ◌++◌, refl, sym, ap, subst, ◌∙◌}
use Rattle.chronicle.specs.Chronicled.{Chronicled, entries}
use Rattle.wire.specs.declared.answer.Answer.{Answer}
use Rattle.wire.specs.declared.request.Request.{Request}
use Rattle.session.specs.Sessions.{Sessioned}
use Rattle.desk.specs.Serving.{AreAnswered}
use Rattle.owning.specs.Answers.{IsAnswered}
use Rattle.session.specs.Promises.{KeepsNumbers}
use Rattle.owning.specs.Serving.{GoesOnRight, IsOwned, Leads}
use Rattle.owning.proofs.Going.{stays_right}

pub leads_on : (first now new : Sessioned) (served : List (Request × Answer)) (request : Request) (answer : Answer)
    → Leads first served now → IsAnswered now new request answer → Leads first (served ++ (request, answer) ∷ []) new
leads_on first now new [] request answer is made =
    (new, subst (λ (s : Sessioned). IsAnswered s new request answer) is made, refl)
leads_on first now new ((q, a) ∷ more) request answer (next, was, leads) made =
    (next, was, leads_on next now new more request answer leads made)

-- the same, where it is said what was noted
pub leads_more : (first now new : Sessioned) (old served : List (Request × Answer)) (request noted : Request)
    (answer : Answer) → Leads first old now → noted ≡ request → served ≡ old ++ (noted, answer) ∷ []
    → IsAnswered now new request answer → Leads first served new
leads_more first now new old served request noted answer leads same is made =
    subst (λ (l : List (Request × Answer)). Leads first l new)
    (sym (is ∙ ap (λ (r : Request). old ++ (r, answer) ∷ []) same))
    (leads_on first now new old request answer leads made)

-- a desk that has served nothing
pub owned_first : (first session : Sessioned) (served : Chronicled (Request × Answer)) → session ≡ first
    → entries served ≡ [] → KeepsNumbers session → IsOwned first (record { session = session; served = served })
owned_first first session served is none keeps = record {
  leads = subst (λ (l : List (Request × Answer)). Leads first l session) (sym none) is;
  answered = subst (AreAnswered first.broker.counts.clients) (sym none) (record {
    fits = λ k request answer at. absurd (cc (at));
    clients_are = λ k request answer at. absurd (cc (at));
  });
  goes_on = subst (λ (s : Sessioned). GoesOnRight s session) is (stays_right session keeps);
}
