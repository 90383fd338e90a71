-- What becomes of the tail and of the text at one place of a run.
use Rattle.std.proofs.Common.{◌≡◌, ◌≢◌, ◌≤◌, ◌<◌, ◌⊎◌, inl, inr, ℕ, zero, suc, ◌∷◌, [], ◌++◌, Bool, true, false, List, Option, Some, None, refl, sym, ap, ◌∙◌, subst, arith, slice_get}
use Rattle.std.specs.Prelude.{if◌then◌else◌}
use Rattle.fenced.specs.Engine.{Engine, Tail, bytes_of, joined, text_by, text_of, with_piece}
use Rattle.fenced.specs.Requests.{Answer, Ask, Drop, Fresh, Place, Put, Read, Request, Take, after, compared, effect, from_generation, is_met, longer, placed, taken}
use Rattle.fenced.specs.Run.{Answers, At, Does, IsRun, IsSentBefore, Moment, Sends, done_by, engine_at, tail_at, text_at}
use Rattle.fenced.specs.Rules.{IsSent, KeepsRules}
use Rattle.fenced.proofs.Steps.{as_named, from_it, joined_same, with_it, with_other}

-- ---- the text

pub taken_text : (piece : ℕ → ℕ → Option (List ℕ)) (seen : Option Tail) (owner : List ℕ) → text_by piece (Some (taken seen owner)) ≡ text_by piece seen
taken_text piece None owner = refl
taken_text piece (Some tail) owner = refl

pub put_text : (piece : ℕ → ℕ → Option (List ℕ)) (tail : Tail) (bytes : List ℕ) → text_by (with_piece tail.generation tail.count bytes piece) (Some (longer tail)) ≡ text_by piece (Some tail) ++ bytes
put_text piece tail bytes =
    let now : ℕ → ℕ → Option (List ℕ) = with_piece tail.generation tail.count bytes piece in
    let front : joined (λ n. bytes_of (now tail.generation n)) tail.count ≡ joined (λ n. bytes_of (piece tail.generation n)) tail.count =
    joined_same (λ n. bytes_of (now tail.generation n)) (λ n. bytes_of (piece tail.generation n)) tail.count
    (λ n few. ap bytes_of (with_other tail.generation tail.count bytes piece tail.generation n (inr (λ same. absurd (omega (arith, few, same)))))) in
    ap (λ (xs : List ℕ). xs ++ bytes_of (now tail.generation tail.count)) front
    ∙ ap (λ (p : Option (List ℕ)). joined (λ n. bytes_of (piece tail.generation n)) tail.count ++ bytes_of p) (with_it tail.generation tail.count bytes piece)

pub fresh_text : (piece : ℕ → ℕ → Option (List ℕ)) (tail : Tail) (generation number : ℕ) (bytes : List ℕ) → tail.generation < generation → text_by (with_piece generation number bytes piece) (Some tail) ≡ text_by piece (Some tail)
fresh_text piece tail generation number bytes later =
    joined_same (λ n. bytes_of (with_piece generation number bytes piece tail.generation n)) (λ n. bytes_of (piece tail.generation n)) tail.count
    (λ n few. ap bytes_of (with_other generation number bytes piece tail.generation n (inl (λ same. absurd (omega (arith, later, same))))))

pub drop_text : (piece : ℕ → ℕ → Option (List ℕ)) (tail : Tail) → text_by (from_generation tail.generation piece) (Some tail) ≡ text_by piece (Some tail)
drop_text piece tail =
    joined_same (λ n. bytes_of (from_generation tail.generation piece tail.generation n)) (λ n. bytes_of (piece tail.generation n)) tail.count
    (λ n few. ap bytes_of (from_it tail.generation piece tail.generation n (omega arith)))

-- ---- a place of a run

pub data Turn (run : List Moment) (i : ℕ) : Type 0 where
  Same : tail_at run (suc i) ≡ tail_at run i → text_at run (suc i) ≡ text_at run i → Turn run i
  Puts : (number : ℕ) (tail : Tail) (bytes : List ℕ) → At run i (Does number (Put tail bytes))
      → tail_at run i ≡ Some tail → tail_at run (suc i) ≡ Some (longer tail)
      → text_at run (suc i) ≡ text_at run i ++ bytes → Turn run i
  Places : (number : ℕ) (tail : Tail) (generation count : ℕ) → At run i (Does number (Place tail generation count))
      → tail_at run i ≡ Some tail → tail_at run (suc i) ≡ Some (placed tail generation count)
      → tail.generation < generation → Turn run i
  Takes : (number : ℕ) (seen : Option Tail) (owner : List ℕ) → At run i (Does number (Take seen owner))
      → tail_at run i ≡ seen → tail_at run (suc i) ≡ Some (taken seen owner)
      → text_at run (suc i) ≡ text_at run i → Turn run i

-- where nothing is done, all stays
pub stays : (run : List Moment) (i : ℕ) (o : Option Moment) → slice_get run i ≡ o → done_by (engine_at run i) o ≡ engine_at run i → engine_at run (suc i) ≡ engine_at run i
stays run i o at same = ap (λ (m : Option Moment). done_by (engine_at run i) m) at ∙ same

pub same_turn : (run : List Moment) (i : ℕ) → engine_at run (suc i) ≡ engine_at run i → Turn run i
same_turn run i same = Same (ap (λ (e : Engine). e.tail) same) (ap text_of same)

-- the engine after what is done there
pub does : (run : List Moment) (i number : ℕ) (request : Request) → At run i (Does number request) → engine_at run (suc i) ≡ after (engine_at run i) request
does run i number request at = ap (λ (m : Option Moment). done_by (engine_at run i) m) at

pub unmet : (run : List Moment) (i number : ℕ) (request : Request) → At run i (Does number request) → is_met (engine_at run i) request ≡ false → engine_at run (suc i) ≡ engine_at run i
unmet run i number request at not =
    does run i number request at ∙ ap (λ (b : Bool). if b then effect request (engine_at run i) else engine_at run i) not

pub met : (run : List Moment) (i number : ℕ) (request : Request) → At run i (Does number request) → is_met (engine_at run i) request ≡ true → engine_at run (suc i) ≡ effect request (engine_at run i)
met run i number request at is =
    does run i number request at ∙ ap (λ (b : Bool). if b then effect request (engine_at run i) else engine_at run i) is

inner : (a b : Option Tail) → Some a ≡ Some b → b ≡ a
inner a b same = cc

module _ (run : List Moment) (is : IsRun run) (rules : KeepsRules run) where
  pub was_sent : (i number : ℕ) (request : Request) → At run i (Does number request) → (p : ℕ) × (p < i) × IsSent run p request
  was_sent i number request at =
      let sent : IsSentBefore run i number request = is.sent i number request at in
      (sent.place, sent.before, record { number = number; at = sent.at })

  met_turn : (i number : ℕ) (request : Request) → At run i (Does number request) → engine_at run (suc i) ≡ effect request (engine_at run i)
      → compared request ≡ Some (tail_at run i) → Turn run i
  met_turn i number (Take seen owner) at step named =
      let was : tail_at run i ≡ seen = inner seen (tail_at run i) named in
      Takes number seen owner at was (ap (λ (e : Engine). e.tail) step)
      (ap text_of step ∙ taken_text (engine_at run i).piece seen owner ∙ ap (text_by (engine_at run i).piece) (sym was))
  met_turn i number (Put tail bytes) at step named =
      let was : tail_at run i ≡ Some tail = inner (Some tail) (tail_at run i) named in
      Puts number tail bytes at was (ap (λ (e : Engine). e.tail) step)
      (ap text_of step ∙ put_text (engine_at run i).piece tail bytes ∙ ap (λ (t : Option Tail). text_by (engine_at run i).piece t ++ bytes) (sym was))
  met_turn i number (Fresh tail generation n bytes) at step named =
      let was : tail_at run i ≡ Some tail = inner (Some tail) (tail_at run i) named in
      let sent = was_sent i number (Fresh tail generation n bytes) at in
      let later : tail.generation < generation = rules.fresh_later sent.0 tail generation n bytes sent.2 in
      Same (ap (λ (e : Engine). e.tail) step)
      (ap text_of step ∙ ap (text_by (with_piece generation n bytes (engine_at run i).piece)) was
      ∙ fresh_text (engine_at run i).piece tail generation n bytes later ∙ ap (text_by (engine_at run i).piece) (sym was))
  met_turn i number (Place tail generation count) at step named =
      let sent = was_sent i number (Place tail generation count) at in
      Places number tail generation count at (inner (Some tail) (tail_at run i) named) (ap (λ (e : Engine). e.tail) step)
      (rules.place_later sent.0 tail generation count sent.2)
  met_turn i number (Drop tail) at step named =
      let was : tail_at run i ≡ Some tail = inner (Some tail) (tail_at run i) named in
      Same (ap (λ (e : Engine). e.tail) step)
      (ap text_of step ∙ ap (text_by (from_generation tail.generation (engine_at run i).piece)) was
      ∙ drop_text (engine_at run i).piece tail ∙ ap (text_by (engine_at run i).piece) (sym was))
  met_turn i number Ask at step named = same_turn run i step
  met_turn i number (Read generation n) at step named = same_turn run i step

  does_turn : (i number : ℕ) (request : Request) → At run i (Does number request) → (b : Bool) → is_met (engine_at run i) request ≡ b → Turn run i
  does_turn i number request at true it_is =
      met_turn i number request at (met run i number request at it_is) (as_named (tail_at run i) (compared request) it_is)
  does_turn i number request at false it_is = same_turn run i (unmet run i number request at it_is)

  turn_of : (i : ℕ) (o : Option Moment) → slice_get run i ≡ o → Turn run i
  turn_of i None at = same_turn run i (stays run i None at refl)
  turn_of i (Some (Sends number request)) at = same_turn run i (stays run i (Some (Sends number request)) at refl)
  turn_of i (Some (Does number request)) at = does_turn i number request at (is_met (engine_at run i) request) refl
  turn_of i (Some (Answers number request answer)) at = same_turn run i (stays run i (Some (Answers number request answer)) at refl)

  pub turn_at : (i : ℕ) → Turn run i
  turn_at i = turn_of i (slice_get run i) refl
