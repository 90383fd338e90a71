-- What a desk has served goes on.
use Rattle.std.proofs.Common.{◌≡◌, true, List, [], ◌∷◌, ◌++◌, ◌-◌, length, slice_get, subst, sym, ap, ◌∙◌, ⊎_elim, ℕ, arith}
use Rattle.std.proofs.lemmas.List.{length-append}
use Rattle.words.specs.declared.refusal.Refusal.TheVariants.{NoClient}
use Rattle.wire.specs.declared.answer.Answer.{Answer}
use Rattle.wire.specs.declared.answer.Answer.TheVariants.{Refused}
use Rattle.wire.specs.declared.request.Request.{Request}
use Rattle.events.proofs.Facts.{get_last, get_push_cases}
use Rattle.desk.specs.Requests.{is_answer_to, is_stop_answer, NamesNoClient}
use Rattle.desk.specs.Serving.{AreAnswered, has_stopped, is_stopping}

pub answered_push : (clients : ℕ) (served : List (Request × Answer)) (request : Request) (answer : Answer)
    → AreAnswered clients served → is_answer_to request answer ≡ true
    → (NamesNoClient clients request → answer ≡ Refused NoClient)
    → AreAnswered clients (served ++ (request, answer) ∷ [])
answered_push clients served request answer was fit none = record {
  fits = λ k r a at. ⊎_elim
      (λ old. was.fits k r a old)
      (λ new. subst (λ (x : Request × Answer). is_answer_to x.0 x.1 ≡ true) new.1 fit)
      (get_push_cases served (request, answer) k (r, a) at);
  clients_are = λ k r a at. ⊎_elim
      (λ old. was.clients_are k r a old)
      (λ new. subst (λ (x : Request × Answer). NamesNoClient clients x.0 → x.1 ≡ Refused NoClient) new.1 none)
      (get_push_cases served (request, answer) k (r, a) at);
}

-- and where it is said what was noted
pub answered_more : (clients : ℕ) (old new : List (Request × Answer)) (request made : Request) (answer : Answer)
    → AreAnswered clients old → made ≡ request → new ≡ old ++ (made, answer) ∷ []
    → is_answer_to request answer ≡ true → (NamesNoClient clients request → answer ≡ Refused NoClient)
    → AreAnswered clients new
answered_more clients old new request made answer was same noted fit none =
    subst (λ (l : List (Request × Answer)). AreAnswered clients l)
    (sym (noted ∙ ap (λ (r : Request). old ++ (r, answer) ∷ []) same))
    (answered_push clients old request answer was fit none)

-- the last answer of a list is what was noted last
pub stopped_last : (old new : List (Request × Answer)) (made : Request) (answer : Answer)
    → new ≡ old ++ (made, answer) ∷ [] → has_stopped new ≡ is_stop_answer answer
stopped_last old new made answer noted =
    let entry : Request × Answer = (made, answer) in
    let count : length (old ++ entry ∷ []) - 1 ≡ length old = omega (arith, length-append old (entry ∷ [])) in
    ap has_stopped noted
    ∙ (ap (λ (k : ℕ). is_stopping (slice_get (old ++ entry ∷ []) k)) count ∙ ap is_stopping (get_last old entry))
