-- What happens: requests are sent, the engine does them, and answers come. Some are lost, some come late or twice.
use Rattle.std.specs.Prelude.{◌≡◌, ℕ, zero, suc, ◌<◌, List, [], ◌∷◌, Option, Some, None, slice_get}
use Rattle.fenced.specs.Engine.{Engine, Tail, nothing, text_of}
use Rattle.fenced.specs.Requests.{Answer, Request, after, answer_of}

-- each sending has a number
pub data Moment : Type 0 where
  -- a request is sent
  Sends : ℕ → Request → Moment
  -- the engine does what was sent
  Does : ℕ → Request → Moment
  -- an answer to it comes
  Answers : ℕ → Request → Answer → Moment

-- so it is at the place i
abbrev pub At : List Moment → ℕ → Moment → Type 0
At run i moment = slice_get run i ≡ Some moment

abbrev pub done_by : Engine → Option Moment → Engine
done_by engine None = engine
done_by engine (Some (Sends number request)) = engine
done_by engine (Some (Does number request)) = after engine request
done_by engine (Some (Answers number request answer)) = engine

-- the engine before the place i
abbrev pub engine_at : List Moment → ℕ → Engine
engine_at run zero = nothing
engine_at run (suc i) = done_by (engine_at run i) (slice_get run i)

-- its tail, the text of the log, and a piece
abbrev pub tail_at : List Moment → ℕ → Option Tail
tail_at run i = (engine_at run i).tail

abbrev pub text_at : List Moment → ℕ → List ℕ
text_at run i = text_of (engine_at run i)

abbrev pub piece_at : List Moment → ℕ → ℕ → ℕ → Option (List ℕ)
piece_at run i = (engine_at run i).piece

-- a request was sent before the place i
pub record IsSentBefore (run : List Moment) (i number : ℕ) (request : Request) : Type 0 where
  pub place : ℕ
  pub before : place < i
  pub at : At run place (Sends number request)

-- an answer that comes at the place i is of a time at which the engine did what was sent
pub record IsAnsweredAt (run : List Moment) (i number : ℕ) (request : Request) (answer : Answer) : Type 0 where
  pub place : ℕ
  pub before : place < i
  pub at : At run place (Does number request)
  pub answer_is : answer ≡ answer_of (engine_at run place) request

-- The engine does one thing after another, and each only once it was sent, but maybe late, more than once, or never; and
-- what it answers is what it did between the sending and the answer. This is assumed of it, and nothing else.
pub record IsRun (run : List Moment) : Type 0 where
  pub one_sending : (p q number : ℕ) (request other : Request)
      → At run p (Sends number request) → At run q (Sends number other) → p ≡ q
  pub sent : (i number : ℕ) (request : Request) → At run i (Does number request) → IsSentBefore run i number request
  pub answered : (i number : ℕ) (request : Request) (answer : Answer)
      → At run i (Answers number request answer) → IsAnsweredAt run i number request answer

-- what owners see of it: what they sent, and what they were answered
abbrev pub seen_of : List Moment → List Moment
seen_of [] = []
seen_of (Sends number request ∷ run) = Sends number request ∷ seen_of run
seen_of (Does number request ∷ run) = seen_of run
seen_of (Answers number request answer ∷ run) = Answers number request answer ∷ seen_of run

-- what they saw is explained by a run: the engine's answers are those of one order of what it did
pub record IsExplainedBy (history run : List Moment) : Type 0 where
  pub is_run : IsRun run
  pub seen : history ≡ seen_of run
