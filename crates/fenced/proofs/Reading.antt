-- What becomes of one piece: what was answered of a fresh generation is in it, and a taker reads what was there.
use Rattle.std.proofs.Common.{◌≡◌, ◌≢◌, ◌≤◌, ◌<◌, ◌⊎◌, inl, inr, ℕ, zero, suc, ◌∷◌, [], ◌++◌, Bool, true, false, List, Option, Some, None, refl, sym, ap, ◌∙◌, subst, arith, slice_get}
use Rattle.std.specs.Prelude.{if◌then◌else◌}
use Rattle.std.proofs.lemmas.Bool.{cases_lt, cases_eq}
use Rattle.fenced.specs.Engine.{Engine, Tail, bytes_of, joined, text_by, text_of, with_piece}
use Rattle.fenced.specs.Requests.{Answer, Ask, Done, Drop, Fresh, PieceIs, Place, Put, Read, Request, SaysDone, Take, TailIs, answer_of, asker, compared, effect, from_generation, is_met, longer, placed, taken}
use Rattle.fenced.specs.Run.{Answers, At, Does, IsAnsweredAt, IsRun, IsSentBefore, Moment, Sends, done_by, engine_at, piece_at, tail_at, text_at}
use Rattle.fenced.specs.Rules.{IsKnown, IsPut, IsSent, KeepsRules}
use Rattle.fenced.specs.Laws.{HasFresh, HasPieceMore, IsLastKnown, IsNoLater, IsPlaced, IsReadBehind, TakesEffect, WasSent, owner_at, owner_of}
use Rattle.fenced.proofs.Steps.{as_named, from_any, from_it, joined_same, with_it, with_other}
use Rattle.fenced.proofs.Turns.{Places, Puts, Same, Takes, Turn, met, stays, turn_at, unmet, was_sent}
use Rattle.fenced.proofs.Returns.{NoLater, effect_at, not_taken_again, owners_unreturned, rises, some_same, taken_owner}
use Rattle.fenced.proofs.Answered.{Left, Move, PutsBehind, PutsInPlace, TakenBy, WasTail, effective, generation_rises, left_or_not, not_taken_over, one_text, place_first, put_here, says_done, was_tail}

-- what becomes of the piece n of generation g at the place j
pub data PieceTurn (run : List Moment) (j g n : ℕ) : Type 0 where
  Kept : piece_at run (suc j) g n ≡ piece_at run j g n → PieceTurn run j g n
  PutHere : (number : ℕ) (tail : Tail) (bytes : List ℕ) → At run j (Does number (Put tail bytes)) → tail_at run j ≡ Some tail
      → tail.generation ≡ g → tail.count ≡ n → PieceTurn run j g n
  FreshHere : (number : ℕ) (tail : Tail) (bytes : List ℕ) → At run j (Does number (Fresh tail g n bytes)) → tail_at run j ≡ Some tail
      → piece_at run (suc j) g n ≡ Some bytes → PieceTurn run j g n
  Dropped : (number : ℕ) (tail : Tail) → At run j (Does number (Drop tail)) → tail_at run j ≡ Some tail
      → (tail.generation ≤ g → piece_at run (suc j) g n ≡ piece_at run j g n) → piece_at run (suc j) g n ≡ None → PieceTurn run j g n

piece_same : (run : List Moment) (j g n : ℕ) → engine_at run (suc j) ≡ engine_at run j → PieceTurn run j g n
piece_same run j g n same = Kept (ap (λ (e : Engine). e.piece g n) same)

tail_named : (named : Option Tail) (here : Option Tail) → Some named ≡ Some here → here ≡ named
tail_named named here same = cc

fresh_turn : (run : List Moment) (j g n number : ℕ) (tail : Tail) (generation m : ℕ) (bytes : List ℕ) → At run j (Does number (Fresh tail generation m bytes)) → tail_at run j ≡ Some tail
    → piece_at run (suc j) g n ≡ with_piece generation m bytes (piece_at run j) g n → (g ≡ generation) ⊎ (g ≢ generation) → (n ≡ m) ⊎ (n ≢ m) → PieceTurn run j g n
fresh_turn run j g n number tail generation m bytes at has now (inl one) (inl other) =
    let there : At run j (Does number (Fresh tail g n bytes)) =
    subst (λ (h : ℕ). At run j (Does number (Fresh tail h n bytes))) (sym one) (subst (λ (k : ℕ). At run j (Does number (Fresh tail generation k bytes))) (sym other) at) in
    FreshHere number tail bytes there has
    (now ∙ ap (λ (h : ℕ). with_piece generation m bytes (piece_at run j) h n) one ∙ ap (λ (k : ℕ). with_piece generation m bytes (piece_at run j) generation k) other
    ∙ with_it generation m bytes (piece_at run j))
fresh_turn run j g n number tail generation m bytes at has now (inr apart) other = Kept (now ∙ with_other generation m bytes (piece_at run j) g n (inl apart))
fresh_turn run j g n number tail generation m bytes at has now (inl one) (inr apart) = Kept (now ∙ with_other generation m bytes (piece_at run j) g n (inr apart))

put_turn : (run : List Moment) (j g n number : ℕ) (tail : Tail) (bytes : List ℕ) → At run j (Does number (Put tail bytes)) → tail_at run j ≡ Some tail
    → piece_at run (suc j) g n ≡ with_piece tail.generation tail.count bytes (piece_at run j) g n → (g ≡ tail.generation) ⊎ (g ≢ tail.generation) → (n ≡ tail.count) ⊎ (n ≢ tail.count) → PieceTurn run j g n
put_turn run j g n number tail bytes at has now (inl one) (inl other) = PutHere number tail bytes at has (sym one) (sym other)
put_turn run j g n number tail bytes at has now (inr apart) other = Kept (now ∙ with_other tail.generation tail.count bytes (piece_at run j) g n (inl apart))
put_turn run j g n number tail bytes at has now (inl one) (inr apart) = Kept (now ∙ with_other tail.generation tail.count bytes (piece_at run j) g n (inr apart))

drop_turn : (run : List Moment) (j g n number : ℕ) (tail : Tail) → At run j (Does number (Drop tail)) → tail_at run j ≡ Some tail → piece_at run (suc j) g n ≡ from_generation tail.generation (piece_at run j) g n
    → (from_generation tail.generation (piece_at run j) g n ≡ piece_at run j g n) ⊎ (from_generation tail.generation (piece_at run j) g n ≡ None) → PieceTurn run j g n
drop_turn run j g n number tail at has now (inl same) = Kept (now ∙ same)
drop_turn run j g n number tail at has now (inr gone) = Dropped number tail at has (λ above. now ∙ from_it tail.generation (piece_at run j) g n above) (now ∙ gone)

met_piece : (run : List Moment) (j g n number : ℕ) (request : Request) → At run j (Does number request) → engine_at run (suc j) ≡ effect request (engine_at run j)
    → compared request ≡ Some (tail_at run j) → PieceTurn run j g n
met_piece run j g n number (Take seen owner) at step named = Kept (ap (λ (e : Engine). e.piece g n) step)
met_piece run j g n number (Put tail bytes) at step named =
    put_turn run j g n number tail bytes at (tail_named (Some tail) (tail_at run j) named) (ap (λ (e : Engine). e.piece g n) step) (cases_eq g tail.generation) (cases_eq n tail.count)
met_piece run j g n number (Fresh tail generation m bytes) at step named =
    fresh_turn run j g n number tail generation m bytes at (tail_named (Some tail) (tail_at run j) named) (ap (λ (e : Engine). e.piece g n) step) (cases_eq g generation) (cases_eq n m)
met_piece run j g n number (Place tail generation count) at step named = Kept (ap (λ (e : Engine). e.piece g n) step)
met_piece run j g n number (Drop tail) at step named =
    drop_turn run j g n number tail at (tail_named (Some tail) (tail_at run j) named) (ap (λ (e : Engine). e.piece g n) step) (from_any tail.generation (piece_at run j) g n)
met_piece run j g n number Ask at step named = piece_same run j g n step
met_piece run j g n number (Read generation m) at step named = piece_same run j g n step

does_piece : (run : List Moment) (j g n number : ℕ) (request : Request) → At run j (Does number request) → (b : Bool) → is_met (engine_at run j) request ≡ b → PieceTurn run j g n
does_piece run j g n number request at true it_is = met_piece run j g n number request at (met run j number request at it_is) (as_named (tail_at run j) (compared request) it_is)
does_piece run j g n number request at false it_is = piece_same run j g n (unmet run j number request at it_is)

piece_of : (run : List Moment) (j g n : ℕ) (o : Option Moment) → slice_get run j ≡ o → PieceTurn run j g n
piece_of run j g n None at = piece_same run j g n (stays run j None at refl)
piece_of run j g n (Some (Sends number request)) at = piece_same run j g n (stays run j (Some (Sends number request)) at refl)
piece_of run j g n (Some (Does number request)) at = does_piece run j g n number request at (is_met (engine_at run j) request) refl
piece_of run j g n (Some (Answers number request answer)) at = piece_same run j g n (stays run j (Some (Answers number request answer)) at refl)

pub piece_turn : (run : List Moment) (j g n : ℕ) → PieceTurn run j g n
piece_turn run j g n = piece_of run j g n (slice_get run j) refl

module _ (run : List Moment) (is : IsRun run) (rules : KeepsRules run) where
  -- ---- a piece that is read

  -- from the place i on a piece of the text stays, or goes
  abbrev StaysOrGoes : ℕ → ℕ → ℕ → ℕ → Type 0
  StaysOrGoes i j g n = (piece_at run j g n ≡ piece_at run i g n) ⊎ (piece_at run j g n ≡ None)

  no_later_there : (i j : ℕ) (a b : Tail) → i ≤ j → tail_at run i ≡ Some a → tail_at run j ≡ Some b → IsNoLater a b
  no_later_there i j a b before one other =
      subst (λ (t : Option Tail). NoLater t (Some b)) one (subst (λ (t : Option Tail). NoLater (tail_at run i) t) other (rises run is rules i j before))

  not_written : (tail here : Tail) (n : ℕ) → n < tail.count → here.generation ≡ tail.generation → here.count ≡ n → IsNoLater tail here → ⊥
  not_written tail here n few one two (inl less) = absurd (omega (arith, less, one))
  not_written tail here n few one two (inr same) = absurd (omega (arith, same.1, two, few))

  stays_on : (i j n : ℕ) (tail : Tail) → i ≤ j → tail_at run i ≡ Some tail → n < tail.count → StaysOrGoes i j tail.generation n → PieceTurn run j tail.generation n → StaysOrGoes i (suc j) tail.generation n
  stays_on i j n tail before has few so (Kept same) = elim so [
    | inl stays ↦ inl (same ∙ stays)
    | inr gone ↦ inr (same ∙ gone)
  ]
  stays_on i j n tail before has few so (PutHere number here bytes at was one two) =
      absurd (not_written tail here n few one two (no_later_there i j tail here before has was))
  stays_on i j n tail before has few so (FreshHere number here bytes at was now) =
      let sent = was_sent run is rules j number (Fresh here tail.generation n bytes) at in
      let later : here.generation < tail.generation = rules.fresh_later sent.0 here tail.generation n bytes sent.2 in
      let low : tail.generation ≤ here.generation = generation_rises run is rules i j tail here before has was in
      absurd (omega (arith, later, low))
  stays_on i j n tail before has few so (Dropped number here at was above now) = inr now

  stays_or_goes : (j i n : ℕ) (tail : Tail) → i ≤ j → tail_at run i ≡ Some tail → n < tail.count → StaysOrGoes i j tail.generation n
  stays_or_goes zero i n tail before has few =
      let same : zero ≡ i = omega (arith, before) in
      inl (ap (λ (k : ℕ). piece_at run k tail.generation n) same)
  stays_or_goes (suc j) i n tail before has few = elim (cases_lt j i) [
    | inl past ↦
        let same : suc j ≡ i = omega (arith, past, before) in
        inl (ap (λ (k : ℕ). piece_at run k tail.generation n) same)
    | inr within ↦ stays_on i j n tail within has few (stays_or_goes j i n tail within has few) (piece_turn run j tail.generation n)
  ]

  read_or : (i d g n : ℕ) (bytes : List ℕ) → StaysOrGoes i d g n → piece_at run d g n ≡ Some bytes → piece_at run i g n ≡ Some bytes
  read_or i d g n bytes (inl stays) there = sym stays ∙ there
  read_or i d g n bytes (inr gone) there = absurd cc

  read_is : (i n : ℕ) (tail : Tail) (bytes : List ℕ) → tail_at run i ≡ Some tail → n < tail.count → IsReadBehind run i tail.generation n bytes → piece_at run i tail.generation n ≡ Some bytes
  read_is i n tail bytes has few read =
      let answered : IsAnsweredAt run read.came read.sending (Read tail.generation n) (PieceIs (Some bytes)) =
      is.answered read.came read.sending (Read tail.generation n) (PieceIs (Some bytes)) read.at in
      let was : IsSentBefore run answered.place read.sending (Read tail.generation n) = is.sent answered.place read.sending (Read tail.generation n) answered.at in
      let same : was.place ≡ read.sent = is.one_sending was.place read.sent read.sending (Read tail.generation n) (Read tail.generation n) was.at read.asked in
      let less : was.place < answered.place = was.before in
      let behind : i ≤ read.sent = read.behind in
      let answer_is : PieceIs (Some bytes) ≡ PieceIs (piece_at run answered.place tail.generation n) = answered.answer_is in
      let there : piece_at run answered.place tail.generation n ≡ Some bytes = cc in
      read_or i answered.place tail.generation n bytes (stays_or_goes answered.place i n tail (omega (arith, same, less, behind)) has few) there

  pub reads_text : (i : ℕ) (tail : Tail) (content : ℕ → List ℕ) → tail_at run i ≡ Some tail → ((n : ℕ) → n < tail.count → IsReadBehind run i tail.generation n (content n))
      → joined content tail.count ≡ text_at run i
  reads_text i tail content has read =
      joined_same content (λ n. bytes_of (piece_at run i tail.generation n)) tail.count (λ n few. ap bytes_of (sym (read_is i n tail (content n) has few (read n few))))
      ∙ ap (text_by (piece_at run i)) (sym has)

  -- ---- a fresh generation

  -- the place where the generation came in use
  record CameInUse (k d : ℕ) (owner : List ℕ) (generation : ℕ) : Type 0 where
    place : ℕ
    from : k ≤ place
    before : place < d
    number : ℕ
    tail : Tail
    count : ℕ
    at : At run place (Does number (Place tail generation count))
    was : tail_at run place ≡ Some tail
    owned : tail.owner ≡ owner

  abbrev Came : ℕ → ℕ → List ℕ → ℕ → Type 0
  Came k d owner generation = (last : Tail) → tail_at run d ≡ Some last → last.generation ≡ generation → last.owner ≡ owner → CameInUse k d owner generation

  came_later : (k d : ℕ) (owner : List ℕ) (generation : ℕ) → CameInUse k d owner generation → CameInUse k (suc d) owner generation
  came_later k d owner generation came = record {
    place = came.place;
    from = came.from;
    before = let b = came.before in omega (arith, b);
    number = came.number;
    tail = came.tail;
    count = came.count;
    at = came.at;
    was = came.was;
    owned = came.owned;
  }

  came_on : (k d : ℕ) (owner : List ℕ) (generation : ℕ) → k ≤ d → owner_at run k ≡ Some owner → Came k d owner generation → Turn run d → Came k (suc d) owner generation
  came_on k d owner generation before first came (Same same text) last is_last used owned = came_later k d owner generation (came last (sym same ∙ is_last) used owned)
  came_on k d owner generation before first came (Puts number tail bytes at was now text) last is_last used owned =
      let same : longer tail ≡ last = some_same (longer tail) last (sym now ∙ is_last) in
      came_later k d owner generation (came tail was (ap (λ (t : Tail). t.generation) same ∙ used) (ap (λ (t : Tail). t.owner) same ∙ owned))
  came_on k d owner generation before first came (Places number tail g count at was now later) last is_last used owned =
      let same : placed tail g count ≡ last = some_same (placed tail g count) last (sym now ∙ is_last) in
      let generations : g ≡ generation = ap (λ (t : Tail). t.generation) same ∙ used in
      record {
        place = d;
        from = before;
        before = omega arith;
        number = number;
        tail = tail;
        count = count;
        at = subst (λ (h : ℕ). At run d (Does number (Place tail h count))) generations at;
        was = was;
        owned = ap (λ (t : Tail). t.owner) same ∙ owned;
      }
  came_on k d owner generation before first came (Takes number seen other at was now text) last is_last used owned =
      let same : taken seen other ≡ last = some_same (taken seen other) last (sym now ∙ is_last) in
      let names : other ≡ owner = sym (taken_owner seen other) ∙ ap (λ (t : Tail). t.owner) same ∙ owned in
      absurd (not_taken_again run is rules d number seen other at was k before (first ∙ ap (λ (o : List ℕ). Some o) (sym names)))

  not_yet : (k d : ℕ) (owner : List ℕ) (generation : ℕ) (tail : Tail) → k ≡ d → tail_at run k ≡ Some tail → tail.generation < generation → Came k d owner generation
  not_yet k d owner generation tail same has low last is_last used owned =
      let one : tail ≡ last = some_same tail last (sym has ∙ ap (tail_at run) same ∙ is_last) in
      let generations : tail.generation ≡ last.generation = ap (λ (t : Tail). t.generation) one in
      absurd (omega (arith, generations, used, low))

  came_in_use : (d k : ℕ) (owner : List ℕ) (generation : ℕ) (tail : Tail) → k ≤ d → tail_at run k ≡ Some tail → tail.owner ≡ owner → tail.generation < generation → Came k d owner generation
  came_in_use zero k owner generation tail before has owned low = not_yet k zero owner generation tail (omega (arith, before)) has low
  came_in_use (suc d) k owner generation tail before has owned low = elim (cases_lt d k) [
    | inl past ↦ not_yet k (suc d) owner generation tail (omega (arith, past, before)) has low
    | inr within ↦
        came_on k d owner generation within (ap owner_of has ∙ ap (λ (o : List ℕ). Some o) owned) (came_in_use d k owner generation tail within has owned low) (turn_at run is rules d)
  ]

  -- a piece that its owner put stays until the generation is in use
  fresh_on : (j g n : ℕ) (owner bytes : List ℕ) (m : ℕ) (tail : Tail) (p : ℕ) (other : Tail) → j < m → tail_at run m ≡ Some tail → tail.generation < g → owner_at run j ≡ Some owner
      → IsSent run p (Fresh other g n bytes) → other.owner ≡ owner → piece_at run j g n ≡ Some bytes → PieceTurn run j g n → piece_at run (suc j) g n ≡ Some bytes
  fresh_on j g n owner bytes m tail p other less last low owned sent named there (Kept same) = same ∙ there
  fresh_on j g n owner bytes m tail p other less last low owned sent named there (PutHere number here others at was one two) =
      let high : here.generation ≤ tail.generation = generation_rises run is rules j m here tail (omega (arith, less)) was last in
      absurd (omega (arith, high, one, low))
  fresh_on j g n owner bytes m tail p other less last low owned sent named there (FreshHere number here others at was now) =
      let again = was_sent run is rules j number (Fresh here g n others) at in
      let names : Some here.owner ≡ Some owner = sym (ap owner_of was) ∙ owned in
      let both : here.owner ≡ other.owner = let mine : here.owner ≡ owner = cc in mine ∙ sym named in
      let same : others ≡ bytes = rules.one_fresh again.0 p here other g n others bytes again.2 sent both in
      now ∙ ap (λ (b : List ℕ). Some b) same
  fresh_on j g n owner bytes m tail p other less last low owned sent named there (Dropped number here at was above now) =
      let high : here.generation ≤ tail.generation = generation_rises run is rules j m here tail (omega (arith, less)) was last in
      above (omega (arith, high, low)) ∙ there

  fresh_stays : (j s g n : ℕ) (owner bytes : List ℕ) (m : ℕ) (tail : Tail) (p : ℕ) (other : Tail) → s ≤ j → j ≤ m → tail_at run m ≡ Some tail → tail.generation < g → owner_at run s ≡ Some owner → tail.owner ≡ owner
      → IsSent run p (Fresh other g n bytes) → other.owner ≡ owner → piece_at run s g n ≡ Some bytes → piece_at run j g n ≡ Some bytes
  fresh_stays zero s g n owner bytes m tail p other one two last low owned mine sent named there =
      let same : zero ≡ s = omega (arith, one) in
      ap (λ (k : ℕ). piece_at run k g n) same ∙ there
  fresh_stays (suc j) s g n owner bytes m tail p other one two last low owned mine sent named there = elim (cases_lt j s) [
    | inl past ↦
        let same : suc j ≡ s = omega (arith, past, one) in
        ap (λ (k : ℕ). piece_at run k g n) same ∙ there
    | inr within ↦
        let last_owned : owner_at run m ≡ Some owner = ap owner_of last ∙ ap (λ (o : List ℕ). Some o) mine in
        let here : owner_at run j ≡ Some owner = owners_unreturned run is rules m s j owner within (omega (arith, two)) owned last_owned in
        fresh_on j g n owner bytes m tail p other (omega (arith, two)) last low here sent named
        (fresh_stays j s g n owner bytes m tail p other within (omega (arith, two)) last low owned mine sent named there) (piece_turn run j g n)
  ]

  -- what was answered of a piece is in it when its generation comes in use
  put_done : (d m placing number g n : ℕ) (count : ℕ) (tail other : Tail) (bytes : List ℕ) → At run d (Does number (Fresh other g n bytes)) → is_met (engine_at run d) (Fresh other g n bytes) ≡ true → other.owner ≡ tail.owner
      → At run m (Does placing (Place tail g count)) → tail_at run m ≡ Some tail → tail_at run (suc m) ≡ Some (placed tail g count) → tail.generation < g → piece_at run m g n ≡ Some bytes
  put_done d m placing number g n count tail other bytes at is_so owned there last next low =
      let step : engine_at run (suc d) ≡ effect (Fresh other g n bytes) (engine_at run d) = met run d number (Fresh other g n bytes) at is_so in
      let was : tail_at run d ≡ Some other = tail_named (Some other) (tail_at run d) (as_named (tail_at run d) (compared (Fresh other g n bytes)) is_so) in
      let now : tail_at run (suc d) ≡ Some other = ap (λ (e : Engine). e.tail) step ∙ was in
      let sent = was_sent run is rules d number (Fresh other g n bytes) at in
      let later : other.generation < g = rules.fresh_later sent.0 other g n bytes sent.2 in
      let piece : piece_at run (suc d) g n ≡ Some bytes = ap (λ (e : Engine). e.piece g n) step ∙ with_it g n bytes (piece_at run d) in
      elim (cases_lt d m) [
        | inl less ↦
            fresh_stays m (suc d) g n tail.owner bytes m tail sent.0 other (omega (arith, less)) (omega arith) last low
            (ap owner_of now ∙ ap (λ (o : List ℕ). Some o) owned) refl sent.2 owned piece
        | inr past ↦ elim (cases_lt m d) [
          | inl less ↦
              let high : g ≤ other.generation = generation_rises run is rules (suc m) d (placed tail g count) other (omega (arith, less)) next was in
              absurd (omega (arith, high, later))
          | inr same ↦
              let here : m ≡ d = omega (arith, past, same) in
              let both : Some (Does placing (Place tail g count)) ≡ Some (Does number (Fresh other g n bytes)) = sym there ∙ ap (slice_get run) here ∙ at in
              absurd cc
        ]
      ]

  put_answered : (e : Engine) (other : Tail) (g n : ℕ) (bytes : List ℕ) → Done ≡ answer_of e (Fresh other g n bytes) → is_met e (Fresh other g n bytes) ≡ true
  put_answered e other g n bytes =
      elim (is_met e (Fresh other g n bytes)) as (λ (b : Bool). Done ≡ (if b then Done else TailIs e.tail) → b ≡ true) [ true ↦ λ same. refl | false ↦ λ same. absurd cc ]

  put_is_there : (i m placing g n : ℕ) (count : ℕ) (tail : Tail) (bytes : List ℕ) → At run m (Does placing (Place tail g count)) → tail_at run m ≡ Some tail → tail_at run (suc m) ≡ Some (placed tail g count) → tail.generation < g
      → IsPut run i tail.owner g n bytes → piece_at run m g n ≡ Some bytes
  put_is_there i m placing g n count tail bytes there last next low put =
      let answered : IsAnsweredAt run put.place put.sending (Fresh put.tail g n bytes) Done = is.answered put.place put.sending (Fresh put.tail g n bytes) Done put.at in
      put_done answered.place m placing put.sending g n count tail put.tail bytes answered.at
      (put_answered (engine_at run answered.place) put.tail g n bytes answered.answer_is) put.owned there last next low

  placed_here : (i m number g count : ℕ) (tail : Tail) → m < i → At run m (Does number (Place tail g count)) → tail_at run m ≡ Some tail → IsPlaced run i tail g count
  placed_here i m number g count tail before at was =
      let step : engine_at run (suc m) ≡ effect (Place tail g count) (engine_at run m) =
      effect_at run is rules m (Place tail g count) (effective run is rules m number (Place tail g count) at (ap (λ (t : Option Tail). Some t) (sym was))) in
      let now : tail_at run (suc m) ≡ Some (placed tail g count) = ap (λ (e : Engine). e.tail) step in
      let sent = was_sent run is rules m number (Place tail g count) at in
      let low : tail.generation < g = rules.place_later sent.0 tail g count sent.2 in
      record {
        place = m;
        before = before;
        was = was;
        now = now;
        text = λ content put.
            ap text_of step
            ∙ joined_same (λ n. bytes_of (piece_at run m g n)) content count (λ n few. ap bytes_of (put_is_there i m number g n count tail (content n) at was now low (put n few)));
      }

  placed_or : (i d number g count : ℕ) (tail : Tail) → d < i → At run d (Does number (Place tail g count)) → (is_met (engine_at run d) (Place tail g count) ≡ true) ⊎ (tail_at run d ≡ Some (placed tail g count)) → IsPlaced run i tail g count
  placed_or i d number g count tail before at (inl is_so) =
      placed_here i d number g count tail before at (tail_named (Some tail) (tail_at run d) (as_named (tail_at run d) (compared (Place tail g count)) is_so))
  placed_or i d number g count tail before at (inr last) =
      let had = place_first run is rules d number tail g count at in
      let sent = was_sent run is rules d number (Place tail g count) at in
      let low : tail.generation < g = rules.place_later sent.0 tail g count sent.2 in
      let came = came_in_use d had.0 tail.owner g tail had.1 had.2 refl low (placed tail g count) last refl refl in
      let first = was_sent run is rules came.place came.number (Place came.tail g came.count) came.at in
      let same = rules.one_place first.0 sent.0 came.tail tail g came.count count first.2 sent.2 came.owned in
      let b : came.place < d = came.before in
      placed_here i came.place came.number g count tail (omega (arith, b, before))
      (subst (λ (t : Tail). At run came.place (Does came.number (Place t g count))) same.0 (subst (λ (n : ℕ). At run came.place (Does came.number (Place came.tail g n))) same.1 came.at))
      (came.was ∙ ap (λ (t : Tail). Some t) same.0)

  pub is_placed : (i number : ℕ) (tail : Tail) (g count : ℕ) (answer : Answer) → At run i (Answers number (Place tail g count) answer) → SaysDone (Place tail g count) answer → IsPlaced run i tail g count
  is_placed i number tail g count answer at says =
      let answered : IsAnsweredAt run i number (Place tail g count) answer = is.answered i number (Place tail g count) answer at in
      placed_or i answered.place number g count tail answered.before answered.at
      (says_done (engine_at run answered.place) (Place tail g count) answer (sym answered.answer_is) says)

  -- ---- what the owner before left

  known_later : (p i : ℕ) (tail : Tail) → p ≤ i → IsKnown run p tail → IsKnown run i tail
  known_later p i tail less known = record {
    is_shown = record {
      place = known.is_shown.place;
      before = let b = known.is_shown.before in omega (arith, b, less);
      number = known.is_shown.number;
      request = known.is_shown.request;
      answer = known.is_shown.answer;
      at = known.is_shown.at;
      shows = known.is_shown.shows;
    };
    to_owner = known.to_owner;
  }

  -- nothing moves on from a tail that its owner was not shown
  not_moved : (i k m : ℕ) (last tail : Tail) → IsLastKnown run i last → tail.owner ≡ last.owner → (IsNoLater tail last → ⊥) → k ≤ m → m < i → owner_at run k ≡ Some tail.owner → owner_at run i ≡ Some tail.owner → Move run is rules m tail → ⊥
  not_moved i k m last tail is_last named later one two first final (PutsBehind number bytes at now text) =
      let sent = was_sent run is rules m number (Put tail bytes) at in
      let less : sent.0 < m = sent.1 in
      later (is_last.last tail named (known_later sent.0 i tail (omega (arith, less, two)) (rules.put_known sent.0 tail bytes sent.2)))
  not_moved i k m last tail is_last named later one two first final (PutsInPlace number generation count at now high) =
      let sent = was_sent run is rules m number (Place tail generation count) at in
      let less : sent.0 < m = sent.1 in
      later (is_last.last tail named (known_later sent.0 i tail (omega (arith, less, two)) (rules.place_known sent.0 tail generation count sent.2)))
  not_moved i k m last tail is_last named later one two first final (TakenBy number owner at now) =
      not_taken_over run is rules k i m number tail owner one two first final at now

  still_there : (i k : ℕ) (last tail : Tail) → IsLastKnown run i last → tail.owner ≡ last.owner → (IsNoLater tail last → ⊥) → k ≤ i → tail_at run k ≡ Some tail → owner_at run i ≡ Some last.owner → tail_at run i ≡ Some tail
  still_there i k last tail is_last named later before has owned = elim (left_or_not run is rules i k tail before has) [
    | inl still ↦ still
    | inr left ↦ absurd (not_moved i k left.place last tail is_last named later left.from left.before (ap owner_of has) (owned ∙ ap (λ (o : List ℕ). Some o) (sym named)) left.move)
  ]

  not_longer : (last : Tail) → IsNoLater (longer last) last → ⊥
  not_longer last (inl less) = absurd (omega (arith, less))
  not_longer last (inr same) = absurd (omega (arith, same.1))

  not_placed : (last : Tail) (g count : ℕ) → last.generation < g → IsNoLater (placed last g count) last → ⊥
  not_placed last g count later (inl less) = absurd (omega (arith, less, later))
  not_placed last g count later (inr same) = absurd (omega (arith, same.0, later))

  abbrev Finds : ℕ → Tail → Type 0
  Finds i last = (tail_at run i ≡ Some last) ⊎ (HasPieceMore run i last ⊎ HasFresh run i last)

  finds_moved : (i k m : ℕ) (last : Tail) → owner_at run i ≡ Some last.owner → IsLastKnown run i last → k ≤ m → m < i → tail_at run k ≡ Some last → tail_at run m ≡ Some last → Move run is rules m last → Finds i last
  finds_moved i k m last owned is_last one two has was (PutsBehind number bytes at now text) =
      let sent = was_sent run is rules m number (Put last bytes) at in
      let less : sent.0 < m = sent.1 in
      let there : tail_at run i ≡ Some (longer last) = still_there i (suc m) last (longer last) is_last refl (not_longer last) (omega (arith, two)) now owned in
      inr (inl (
        bytes,
        (sent.0, omega (arith, less, two), sent.2),
        there,
        λ j here. one_text run is rules i (suc m) (there ∙ sym now) ∙ text ∙ ap (λ (xs : List ℕ). xs ++ bytes) (one_text run is rules m j (was ∙ sym here)),
      ))
  finds_moved i k m last owned is_last one two has was (PutsInPlace number g count at now high) =
      let sent = was_sent run is rules m number (Place last g count) at in
      let less : sent.0 < m = sent.1 in
      let there : tail_at run i ≡ Some (placed last g count) = still_there i (suc m) last (placed last g count) is_last refl (not_placed last g count high) (omega (arith, two)) now owned in
      inr (inr (g, count, (sent.0, omega (arith, less, two), sent.2), there))
  finds_moved i k m last owned is_last one two has was (TakenBy number owner at now) =
      absurd (not_taken_over run is rules k i m number last owner one two (ap owner_of has) owned at now)

  pub finds_last : (i : ℕ) (last : Tail) → owner_at run i ≡ Some last.owner → IsLastKnown run i last → Finds i last
  finds_last i last owned is_last =
      let had = was_tail run is rules i last is_last.known.is_shown in
      elim (left_or_not run is rules i had.0 last had.1 had.2) [
        | inl still ↦ inl still
        | inr left ↦ finds_moved i had.0 left.place last owned is_last left.from left.before had.2 left.was left.move
      ]

  -- ---- all pieces are there

  abbrev HasPiece : ℕ → ℕ → ℕ → Type 0
  HasPiece i g n = (bytes : List ℕ) × (piece_at run i g n ≡ Some bytes)

  there_on : (i n : ℕ) (tail : Tail) → tail_at run i ≡ Some tail → n < tail.count → HasPiece i tail.generation n → PieceTurn run i tail.generation n → HasPiece (suc i) tail.generation n
  there_on i n tail has few there (Kept same) = (there.0, same ∙ there.1)
  there_on i n tail has few there (PutHere number here bytes at was one two) =
      absurd (not_written tail here n few one two (no_later_there i i tail here (omega arith) has was))
  there_on i n tail has few there (FreshHere number here bytes at was now) = (bytes, now)
  there_on i n tail has few there (Dropped number here at was above now) =
      let same : here.generation ≡ tail.generation = ap (λ (t : Tail). t.generation) (some_same here tail (sym was ∙ has)) in
      (there.0, above (omega (arith, same)) ∙ there.1)

  abbrev AllThere : ℕ → Type 0
  AllThere i = (tail : Tail) (n : ℕ) → tail_at run i ≡ Some tail → n < tail.count → HasPiece i tail.generation n

  put_piece : (i number n : ℕ) (tail : Tail) (bytes : List ℕ) → At run i (Does number (Put tail bytes)) → tail_at run i ≡ Some tail → AllThere i → (n < tail.count) ⊎ (tail.count ≤ n) → n < suc tail.count → HasPiece (suc i) tail.generation n
  put_piece i number n tail bytes at was all (inl few) less = there_on i n tail was few (all tail n was few) (piece_turn run i tail.generation n)
  put_piece i number n tail bytes at was all (inr past) less =
      let step : engine_at run (suc i) ≡ effect (Put tail bytes) (engine_at run i) =
      effect_at run is rules i (Put tail bytes) (effective run is rules i number (Put tail bytes) at (ap (λ (t : Option Tail). Some t) (sym was))) in
      let last : n ≡ tail.count = omega (arith, past, less) in (
        bytes,
        ap (λ (e : Engine). e.piece tail.generation n) step ∙ ap (λ (k : ℕ). with_piece tail.generation tail.count bytes (piece_at run i) tail.generation k) last
            ∙ with_it tail.generation tail.count bytes (piece_at run i),
      )

  all_on : (i : ℕ) → AllThere i → Turn run i → AllThere (suc i)
  all_on i all (Same same text) tail n has few =
      let was : tail_at run i ≡ Some tail = sym same ∙ has in
      there_on i n tail was few (all tail n was few) (piece_turn run i tail.generation n)
  all_on i all (Puts number other bytes at was now text) tail n has few =
      let same : longer other ≡ tail = some_same (longer other) tail (sym now ∙ has) in
      let less : n < suc other.count = subst (λ (t : Tail). n < t.count) (sym same) few in
      let P : Tail → Type 0 = λ t. HasPiece (suc i) t.generation n in
      subst P same (put_piece i number n other bytes at was all (cases_lt n other.count) less)
  all_on i all (Places number other g count at was now later) tail n has few =
      let same : placed other g count ≡ tail = some_same (placed other g count) tail (sym now ∙ has) in
      let less : n < count = subst (λ (t : Tail). n < t.count) (sym same) few in
      let sent = was_sent run is rules i number (Place other g count) at in
      let whole = rules.place_whole sent.0 other g count n sent.2 less in
      let step : engine_at run (suc i) ≡ effect (Place other g count) (engine_at run i) =
      effect_at run is rules i (Place other g count) (effective run is rules i number (Place other g count) at (ap (λ (t : Option Tail). Some t) (sym was))) in
      let there : piece_at run i g n ≡ Some whole.0 = put_is_there sent.0 i number g n count other whole.0 at was now later whole.1 in
      let P : Tail → Type 0 = λ t. HasPiece (suc i) t.generation n in
      subst P same (whole.0, ap (λ (e : Engine). e.piece g n) step ∙ there)
  all_on i all (Takes number None owner at was now text) tail n has few =
      let same : taken None owner ≡ tail = some_same (taken None owner) tail (sym now ∙ has) in
      let less : n < 0 = subst (λ (t : Tail). n < t.count) (sym same) few in
      absurd (omega (arith, less))
  all_on i all (Takes number (Some other) owner at was now text) tail n has few =
      let same : taken (Some other) owner ≡ tail = some_same (taken (Some other) owner) tail (sym now ∙ has) in
      let less : n < other.count = subst (λ (t : Tail). n < t.count) (sym same) few in
      let P : Tail → Type 0 = λ t. HasPiece (suc i) t.generation n in
      subst P same (there_on i n other was less (all other n was less) (piece_turn run i other.generation n))

  pub all_there : (i : ℕ) → AllThere i
  all_there zero tail n has few = absurd cc
  all_there (suc i) tail n has few = all_on i (all_there i) (turn_at run is rules i) tail n has few
