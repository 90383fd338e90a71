-- What owners keep to.
use Rattle.std.specs.Prelude.{◌≡◌, ◌≢◌, ℕ, ◌<◌, List, Option, Some}
use Rattle.fenced.specs.Engine.{Tail}
use Rattle.fenced.specs.Requests.{Answer, Done, Drop, Fresh, Place, Put, Request, Take, asker, compared, shown}
use Rattle.fenced.specs.Run.{Answers, At, Moment, Sends}

-- a request is sent at the place i, whichever number it has
pub record IsSent (run : List Moment) (i : ℕ) (request : Request) : Type 0 where
  pub number : ℕ
  pub at : At run i (Sends number request)

-- before the place i an answer showed this tail
pub record IsShown (run : List Moment) (i : ℕ) (tail : Tail) : Type 0 where
  pub place : ℕ
  pub before : place < i
  pub number : ℕ
  pub request : Request
  pub answer : Answer
  pub at : At run place (Answers number request answer)
  pub shows : shown request answer ≡ Some tail

-- before the place i an answer to a request of its owner's did
pub record IsKnown (run : List Moment) (i : ℕ) (tail : Tail) : Type 0 where
  pub is_shown : IsShown run i tail
  pub to_owner : asker is_shown.request ≡ Some tail.owner

-- before the place i the owner's piece of a generation was answered to be done, with these bytes
pub record IsPut (run : List Moment) (i : ℕ) (owner : List ℕ) (generation number : ℕ) (bytes : List ℕ) : Type 0 where
  pub place : ℕ
  pub before : place < i
  pub tail : Tail
  pub owned : tail.owner ≡ owner
  pub sending : ℕ
  pub at : At run place (Answers sending (Fresh tail generation number bytes) Done)

pub record KeepsRules (run : List Moment) : Type 0 where
  -- A name is drawn for one taking of the log, which is sent again as it is. Nobody takes it from himself, and each
  -- names a tail that an answer showed.
  pub one_take : (p q : ℕ) (seen other : Option Tail) (owner : List ℕ)
      → IsSent run p (Take seen owner) → IsSent run q (Take other owner) → seen ≡ other
  pub from_other : (p : ℕ) (tail : Tail) (owner : List ℕ) → IsSent run p (Take (Some tail) owner) → tail.owner ≢ owner
  pub seen : (p : ℕ) (tail : Tail) (owner : List ℕ) → IsSent run p (Take (Some tail) owner) → IsShown run p tail
  -- Else a request names the tail that its owner was shown.
  pub put_known : (p : ℕ) (tail : Tail) (bytes : List ℕ) → IsSent run p (Put tail bytes) → IsKnown run p tail
  pub place_known : (p : ℕ) (tail : Tail) (generation count : ℕ)
      → IsSent run p (Place tail generation count) → IsKnown run p tail
  -- Behind one tail comes one piece.
  pub one_piece : (p q : ℕ) (tail : Tail) (bytes other : List ℕ)
      → IsSent run p (Put tail bytes) → IsSent run q (Put tail other) → bytes ≡ other
  -- A fresh generation is later than the one in use. Of one owner's each piece has one content, whichever tail it names.
  pub fresh_later : (p : ℕ) (tail : Tail) (generation number : ℕ) (bytes : List ℕ)
      → IsSent run p (Fresh tail generation number bytes) → tail.generation < generation
  pub one_fresh : (p q : ℕ) (tail other : Tail) (generation number : ℕ) (bytes others : List ℕ)
      → IsSent run p (Fresh tail generation number bytes) → IsSent run q (Fresh other generation number others)
      → tail.owner ≡ other.owner → bytes ≡ others
  -- It is put in use once, when all its pieces were answered.
  pub place_later : (p : ℕ) (tail : Tail) (generation count : ℕ)
      → IsSent run p (Place tail generation count) → tail.generation < generation
  pub one_place : (p q : ℕ) (tail other : Tail) (generation count others : ℕ)
      → IsSent run p (Place tail generation count) → IsSent run q (Place other generation others)
      → tail.owner ≡ other.owner → (tail ≡ other) × (count ≡ others)
  pub place_whole : (p : ℕ) (tail : Tail) (generation count number : ℕ)
      → IsSent run p (Place tail generation count) → number < count
      → (bytes : List ℕ) × IsPut run p tail.owner generation number bytes
