-- What holds of the log, whatever is lost, late or done twice, as long as owners keep to the rules.
use Rattle.std.specs.Prelude.{◌≡◌, ◌⊎◌, ℕ, suc, ◌<◌, ◌≤◌, Bool, true, false, List, ◌++◌, Option, Some, None}
use Rattle.fenced.specs.Engine.{Tail, joined}
use Rattle.fenced.specs.Requests.{Answer, Ask, Drop, Fresh, Place, PieceIs, Put, Read, Request, SaysDone, Take, TailIs, asker, is_met, longer, placed, taken}
use Rattle.fenced.specs.Run.{Answers, At, Does, IsRun, Moment, Sends, engine_at, piece_at, tail_at, text_at}
use Rattle.fenced.specs.Rules.{IsKnown, IsPut, IsSent, KeepsRules}

-- so it is of each run whose owners keep to the rules
abbrev pub InEachRun : (List Moment → Type 0) → Type 0
InEachRun IsSo = (run : List Moment) → IsRun run → KeepsRules run → IsSo run

abbrev pub owner_of : Option Tail → Option (List ℕ)
owner_of None = None
owner_of (Some tail) = Some tail.owner

abbrev pub owner_at : List Moment → ℕ → Option (List ℕ)
owner_at run i = owner_of (tail_at run i)

-- ---- tails never return

-- once a tail was replaced it never comes back, and no owner does
abbrev pub TailsNeverReturn : List Moment → Type 0
TailsNeverReturn run =
    (i j k : ℕ) → i ≤ j → j ≤ k → tail_at run i ≡ tail_at run k → tail_at run j ≡ tail_at run k

abbrev pub OwnersNeverReturn : List Moment → Type 0
OwnersNeverReturn run =
    (i j k : ℕ) (owner : List ℕ) → i ≤ j → j ≤ k → owner_at run i ≡ Some owner → owner_at run k ≡ Some owner
    → owner_at run j ≡ Some owner

-- the request replaces the tail
abbrev pub moves : Request → Bool
moves (Take seen owner) = true
moves (Put tail bytes) = true
moves (Place tail generation count) = true
moves (Fresh tail generation number bytes) = false
moves (Drop tail) = false
moves Ask = false
moves (Read generation number) = false

-- the engine does the request at the place i, and the tail is the one that it names
pub record TakesEffect (run : List Moment) (i : ℕ) (request : Request) : Type 0 where
  pub number : ℕ
  pub at : At run i (Does number request)
  pub met : is_met (engine_at run i) request ≡ true

-- however often it is sent, it takes effect once at most
abbrev pub TakesEffectOnce : List Moment → Type 0
TakesEffectOnce run =
    (i j : ℕ) (request : Request) → moves request ≡ true → TakesEffect run i request → TakesEffect run j request → i ≡ j

-- ---- what was answered is there

-- before the place i these bytes were put behind the text, by the tail's one more piece
pub record IsAppended (run : List Moment) (i : ℕ) (tail : Tail) (bytes : List ℕ) : Type 0 where
  pub place : ℕ
  pub before : place < i
  pub was : tail_at run place ≡ Some tail
  pub now : tail_at run (suc place) ≡ Some (longer tail)
  pub text : text_at run (suc place) ≡ text_at run place ++ bytes

abbrev pub AnsweredIsAppended : List Moment → Type 0
AnsweredIsAppended run =
    (i number : ℕ) (tail : Tail) (bytes : List ℕ) (answer : Answer)
    → At run i (Answers number (Put tail bytes) answer) → SaysDone (Put tail bytes) answer → IsAppended run i tail bytes

-- a tail has one text
abbrev pub HasOneText : List Moment → Type 0
HasOneText run = (i j : ℕ) → tail_at run i ≡ tail_at run j → text_at run i ≡ text_at run j

-- the text goes on from what it was, as long as its generation is in use
abbrev pub TextGoesOn : List Moment → Type 0
TextGoesOn run =
    (i j : ℕ) (tail later : Tail) → i ≤ j → tail_at run i ≡ Some tail → tail_at run j ≡ Some later
    → later.generation ≡ tail.generation → (more : List ℕ) × (text_at run j ≡ text_at run i ++ more)

-- before the place i a generation came in use whose text is what was answered of its pieces
pub record IsPlaced (run : List Moment) (i : ℕ) (tail : Tail) (generation count : ℕ) : Type 0 where
  pub place : ℕ
  pub before : place < i
  pub was : tail_at run place ≡ Some tail
  pub now : tail_at run (suc place) ≡ Some (placed tail generation count)
  pub text : (content : ℕ → List ℕ)
      → ((n : ℕ) → n < count → IsPut run i tail.owner generation n (content n))
      → text_at run (suc place) ≡ joined content count

abbrev pub AnsweredIsPlaced : List Moment → Type 0
AnsweredIsPlaced run =
    (i number : ℕ) (tail : Tail) (generation count : ℕ) (answer : Answer)
    → At run i (Answers number (Place tail generation count) answer) → SaysDone (Place tail generation count) answer
    → IsPlaced run i tail generation count

-- ---- doubles are nothing

-- what is done once more leaves the tail and the text as they are
abbrev pub DoublesAreNothing : List Moment → Type 0
DoublesAreNothing run =
    (i j number other : ℕ) (request : Request) → i < j → At run i (Does number request) → At run j (Does other request)
    → (tail_at run (suc j) ≡ tail_at run j) × (text_at run (suc j) ≡ text_at run j)

-- ---- what was taken is final

-- before the place i the log became this owner's, with the text that it had; and from then on no request of those who
-- had it before does anything
pub record IsTaken (run : List Moment) (i : ℕ) (seen : Option Tail) (owner : List ℕ) : Type 0 where
  pub place : ℕ
  pub before : place < i
  pub was : tail_at run place ≡ seen
  pub now : tail_at run (suc place) ≡ Some (taken seen owner)
  pub text : text_at run (suc place) ≡ text_at run place
  pub final : (k j number : ℕ) (former : List ℕ) (request : Request) → k ≤ place → place < j
      → owner_at run k ≡ Some former → asker request ≡ Some former → At run j (Does number request)
      → engine_at run (suc j) ≡ engine_at run j

abbrev pub TakenIsFinal : List Moment → Type 0
TakenIsFinal run =
    (i number : ℕ) (seen : Option Tail) (owner : List ℕ) (answer : Answer)
    → At run i (Answers number (Take seen owner) answer) → SaysDone (Take seen owner) answer → IsTaken run i seen owner

-- ---- what a taker reads

-- a piece was asked for behind the place i, and it was there
pub record IsReadBehind (run : List Moment) (i generation number : ℕ) (bytes : List ℕ) : Type 0 where
  pub sending : ℕ
  pub sent : ℕ
  pub behind : i ≤ sent
  pub asked : At run sent (Sends sending (Read generation number))
  pub came : ℕ
  pub at : At run came (Answers sending (Read generation number) (PieceIs (Some bytes)))

-- who asks for all pieces of the tail behind the place i, and gets them, has the text of that place
abbrev pub ReadsText : List Moment → Type 0
ReadsText run =
    (i : ℕ) (tail : Tail) (content : ℕ → List ℕ) → tail_at run i ≡ Some tail
    → ((n : ℕ) → n < tail.count → IsReadBehind run i tail.generation n (content n))
    → joined content tail.count ≡ text_at run i

-- each piece of the text is there
abbrev pub AllPiecesAreThere : List Moment → Type 0
AllPiecesAreThere run =
    (i : ℕ) (tail : Tail) (n : ℕ) → tail_at run i ≡ Some tail → n < tail.count
    → (bytes : List ℕ) × (piece_at run i tail.generation n ≡ Some bytes)

-- one tail is not later than another
abbrev pub IsNoLater : Tail → Tail → Type 0
IsNoLater a b = (a.generation < b.generation) ⊎ (a.generation ≡ b.generation) × (a.count ≤ b.count)

-- it is the last one that its owner knows before the place i
pub record IsLastKnown (run : List Moment) (i : ℕ) (tail : Tail) : Type 0 where
  pub known : IsKnown run i tail
  pub last : (other : Tail) → other.owner ≡ tail.owner → IsKnown run i other → IsNoLater other tail

-- a request was sent before the place i
abbrev pub WasSent : List Moment → ℕ → Request → Type 0
WasSent run i request = (p : ℕ) × (p < i) × IsSent run p request

-- the tail at the place i is the last known one; or it has the one piece more that was under way; or the generation is
-- in use which was to come in use
abbrev pub HasPieceMore : List Moment → ℕ → Tail → Type 0
HasPieceMore run i last =
    (bytes : List ℕ) × WasSent run i (Put last bytes) × (tail_at run i ≡ Some (longer last))
    × ((j : ℕ) → tail_at run j ≡ Some last → text_at run i ≡ text_at run j ++ bytes)

abbrev pub HasFresh : List Moment → ℕ → Tail → Type 0
HasFresh run i last =
    (generation count : ℕ) × WasSent run i (Place last generation count)
    × (tail_at run i ≡ Some (placed last generation count))

abbrev pub FindsLast : List Moment → Type 0
FindsLast run =
    (i : ℕ) (last : Tail) → owner_at run i ≡ Some last.owner → IsLastKnown run i last
    → (tail_at run i ≡ Some last) ⊎ HasPieceMore run i last ⊎ HasFresh run i last

-- ---- what was confirmed is current

-- whoever is named by the tail that was asked for had the log until the question was sent, from when it was his
abbrev pub ConfirmedIsCurrent : List Moment → Type 0
ConfirmedIsCurrent run =
    (asked came number : ℕ) (tail : Tail) → At run asked (Sends number Ask)
    → At run came (Answers number Ask (TailIs (Some tail)))
    → (j k : ℕ) → j ≤ k → k ≤ asked → owner_at run j ≡ Some tail.owner → owner_at run k ≡ Some tail.owner
