-- Answers in turn go on.
use Rattle.std.proofs.Common.{◌≡◌, List, [], ◌∷◌, ◌++◌, ℕ, Option, Some, None, refl, subst, sym, ap, ◌∙◌}
use Rattle.std.specs.Prelude.{IfSome, IsSome}
use Rattle.session.specs.Sessions.{Sessioned}
use Rattle.wire.specs.declared.answer.Answer.{Answer}
use Rattle.wire.specs.declared.request.Request.{Request}
use Rattle.workers.specs.Moments.{GoesOnLater}
use Rattle.chronicle.specs.Chronicled.{Chronicled, entries}
use Rattle.desk.specs.Answering.{IsAnsweredAtMark, IsServedAtMark, IsServedInTurn}
use Rattle.desk.specs.Answering.AreAnsweredInTurn.{answered, marked as marked_later, nothing}
use Rattle.desk.specs.Serving.{Desked, IsDesked}

-- a session is marked
pub is_marked : (clients : ℕ) (first : Sessioned) (served : List (Request × Answer)) (marked : Option Sessioned)
    → IsServedAtMark clients first served marked → IsSome marked
is_marked clients first served (Some now) turn = refl
is_marked clients first served None turn = absurd turn

-- nothing is answered yet
pub turn_begun : (clients : ℕ) (first now : Sessioned) (served : List (Request × Answer)) (marked : Option Sessioned)
    → GoesOnLater first now → served ≡ [] → marked ≡ Some now → IsServedAtMark clients first served marked
turn_begun clients first now served marked came none is =
    subst (λ (m : Option Sessioned). IsServedAtMark clients first served m) (sym is)
    (subst (λ (l : List (Request × Answer)). IsServedInTurn clients first l now) (sym none)
    (record { start = now; came = came; turn = nothing }))

-- one answer more
pub turn_more : (clients : ℕ) (first : Sessioned) (marked now : Option Sessioned) (old new : List (Request × Answer))
    (request made : Request) (answer : Answer) → IsServedAtMark clients first old marked
    → IsAnsweredAtMark clients first marked now request answer → made ≡ request → new ≡ old ++ (made, answer) ∷ []
    → IsServedAtMark clients first new now
turn_more clients first None now old new request made answer turn is same noted = absurd turn
turn_more clients first (Some before) None old new request made answer turn is same noted = absurd is
turn_more clients first (Some before) (Some now) old new request made answer turn is same noted =
    subst (λ (l : List (Request × Answer)). IsServedInTurn clients first l now)
    (sym (noted ∙ ap (λ (r : Request). old ++ (r, answer) ∷ []) same))
    (record { start = turn.start; came = turn.came; turn = answered request answer turn.turn is })

-- another mark
pub turn_marked : (clients : ℕ) (first : Sessioned) (marked : Option Sessioned) (now : Sessioned)
    (served : List (Request × Answer)) → IsServedAtMark clients first served marked
    → IfSome marked (λ before. GoesOnLater before now) → IsServedInTurn clients first served now
turn_marked clients first None now served turn on = absurd turn
turn_marked clients first (Some before) now served turn on =
    record { start = turn.start; came = turn.came; turn = marked_later turn.turn on }

-- what is not there yet
settled_none : {A : Type 0} → (settled unsettled : List A) → settled ++ unsettled ≡ [] → settled ≡ []
settled_none [] unsettled is = refl
settled_none (x ∷ settled) unsettled is = absurd (cc is)

-- a desk that begins
pub desked_new : (clients : ℕ) (first : Sessioned) (served : Chronicled (Request × Answer)) (marked : Option Sessioned)
    (now : Sessioned) → GoesOnLater first now → entries served ≡ [] → marked ≡ Some now
    → IsDesked clients first (record { served = served; marked = marked; assured = None })
desked_new clients first served marked now came none is = record {
  turn = turn_begun clients first now (entries served) marked came none is;
  lasting = tt;
  known = λ _. settled_none served.settled served.unsettled none;
}

-- one that has another mark
pub desked_marked : (clients : ℕ) (first : Sessioned) (d : Desked) (marked : Option Sessioned) (now : Sessioned)
    → IsDesked clients first d → IfSome d.marked (λ before. GoesOnLater before now) → marked ≡ Some now
    → IsDesked clients first (record d { marked = marked })
desked_marked clients first d marked now is on some = record {
  turn = subst (λ (m : Option Sessioned). IsServedAtMark clients first (entries d.served) m) (sym some)
      (turn_marked clients first d.marked now (entries d.served) is.turn on);
  lasting = is.lasting;
  known = is.known;
}

-- and one that has answered once more
pub desked_answered : (clients : ℕ) (first : Sessioned) (d : Desked) (served : Chronicled (Request × Answer))
    (marked : Option Sessioned) (request made : Request) (answer : Answer) → IsDesked clients first d
    → entries served ≡ entries d.served ++ (made, answer) ∷ [] → served.settled ≡ d.served.settled → made ≡ request
    → IsAnsweredAtMark clients first d.marked marked request answer
    → IsDesked clients first (record d { served = served; marked = marked })
desked_answered clients first d served marked request made answer is noted kept same answers = record {
  turn = turn_more clients first d.marked marked (entries d.served) (entries served) request made answer is.turn answers
      same noted;
  lasting = subst (λ (l : List (Request × Answer)). IfSome d.assured (IsServedInTurn clients first l)) (sym kept) is.lasting;
  known = λ unknown. kept ∙ is.known unknown;
}
