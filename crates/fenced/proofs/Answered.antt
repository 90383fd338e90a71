-- What was answered was done.
use Rattle.std.proofs.Common.{◌≡◌, ◌≢◌, ◌≤◌, ◌<◌, ◌⊎◌, inl, inr, ℕ, zero, suc, ◌∷◌, [], ◌++◌, Bool, true, false, List, Option, Some, None, refl, sym, ap, ◌∙◌, subst, arith, append_assoc, append-nil}
use Rattle.std.specs.Prelude.{⊤, if◌then◌else◌}
use Rattle.std.proofs.lemmas.Bool.{cases_lt, cases_eq}
use Rattle.fenced.specs.Engine.{Engine, Tail, text_by, text_of}
use Rattle.fenced.specs.Requests.{Answer, Ask, Done, Drop, Fresh, PieceIs, Place, Put, Read, Request, SaysDone, Take, TailIs, answer_of, asker, compared, effect, is_met, left_tail, longer, placed, shown, taken}
use Rattle.fenced.specs.Run.{Answers, At, Does, IsAnsweredAt, IsRun, IsSentBefore, Moment, Sends, engine_at, tail_at, text_at}
use Rattle.fenced.specs.Rules.{IsKnown, IsSent, IsShown, KeepsRules}
use Rattle.fenced.specs.Laws.{IsAppended, IsNoLater, IsTaken, TakesEffect, moves, owner_at, owner_of}
use Rattle.fenced.proofs.Steps.{as_named, is_named}
use Rattle.fenced.proofs.Turns.{Places, Puts, Same, Takes, Turn, met, put_text, taken_text, turn_at, unmet, was_sent}
use Rattle.fenced.proofs.Returns.{NoLater, Took, count_apart, effect_at, generation_apart, not_himself, not_later_again, not_taken_again, owners_unreturned, rises, some_same, taken_owner, took, unreturned}

-- ---- answers

-- an answer of a request that compares
pub says_done : (e : Engine) (request : Request) (answer : Answer) → (if is_met e request then Done else TailIs e.tail) ≡ answer → SaysDone request answer → (is_met e request ≡ true) ⊎ (e.tail ≡ left_tail request)
says_done e request answer same says =
    elim (is_met e request) as (λ (b : Bool). (if b then Done else TailIs e.tail) ≡ answer → (b ≡ true) ⊎ (e.tail ≡ left_tail request)) [
      | true ↦ λ is. inl refl
      | false ↦ λ is. inr (subst (λ (a : Answer). SaysDone request a) (sym is) says)
    ] same

shows : (e : Engine) (request : Request) (answer : Answer) (tail : Tail) → (if is_met e request then Done else TailIs e.tail) ≡ answer → shown request answer ≡ Some tail
    → (is_met e request ≡ true) × (left_tail request ≡ Some tail) ⊎ (e.tail ≡ Some tail)
shows e request answer tail same shown_tail =
    elim (is_met e request) as (λ (b : Bool). (if b then Done else TailIs e.tail) ≡ answer → (b ≡ true) × (left_tail request ≡ Some tail) ⊎ (e.tail ≡ Some tail)) [
      | true ↦ λ is. inl (refl, ap (shown request) is ∙ shown_tail)
      | false ↦ λ is. inr (ap (shown request) is ∙ shown_tail)
    ] same

left_by : (request : Request) (e : Engine) → compared request ≡ Some e.tail → (effect request e).tail ≡ left_tail request
left_by (Take seen owner) e named = refl
left_by (Put tail bytes) e named = refl
left_by (Fresh tail generation number bytes) e named = cc
left_by (Place tail generation count) e named = refl
left_by (Drop tail) e named = cc
left_by Ask e named = absurd cc
left_by (Read generation number) e named = absurd cc

module _ (run : List Moment) (is : IsRun run) (rules : KeepsRules run) where
  pub effective : (i number : ℕ) (request : Request) → At run i (Does number request) → compared request ≡ Some (tail_at run i) → TakesEffect run i request
  effective i number request at named = record { number = number; at = at; met = is_named (tail_at run i) (compared request) named }

  -- what was shown was the tail
  left_there : (i number : ℕ) (request : Request) → At run i (Does number request) → is_met (engine_at run i) request ≡ true → tail_at run (suc i) ≡ left_tail request
  left_there i number request at is_so =
      ap (λ (e : Engine). e.tail) (met run i number request at is_so) ∙ left_by request (engine_at run i) (as_named (tail_at run i) (compared request) is_so)

  abbrev pub WasTail : ℕ → Tail → Type 0
  WasTail i tail = (k : ℕ) × (k ≤ i) × (tail_at run k ≡ Some tail)

  shown_met : (i number : ℕ) (request : Request) (tail : Tail) → At run i (Does number request)
      → (is_met (engine_at run i) request ≡ true) × (left_tail request ≡ Some tail) ⊎ (tail_at run i ≡ Some tail) → WasTail (suc i) tail
  shown_met i number request tail at (inl by) = (suc i, omega arith, left_there i number request at by.0 ∙ by.1)
  shown_met i number request tail at (inr was) = (i, omega arith, was)

  shown_by : (i number : ℕ) (request : Request) (answer : Answer) (tail : Tail) → At run i (Does number request) → answer ≡ answer_of (engine_at run i) request → shown request answer ≡ Some tail → WasTail (suc i) tail
  shown_by i number (Take seen owner) answer tail at answer_is shown_tail = shown_met i number (Take seen owner) tail at (shows (engine_at run i) (Take seen owner) answer tail (sym answer_is) shown_tail)
  shown_by i number (Put other bytes) answer tail at answer_is shown_tail = shown_met i number (Put other bytes) tail at (shows (engine_at run i) (Put other bytes) answer tail (sym answer_is) shown_tail)
  shown_by i number (Fresh other g n bytes) answer tail at answer_is shown_tail = shown_met i number (Fresh other g n bytes) tail at (shows (engine_at run i) (Fresh other g n bytes) answer tail (sym answer_is) shown_tail)
  shown_by i number (Place other g n) answer tail at answer_is shown_tail = shown_met i number (Place other g n) tail at (shows (engine_at run i) (Place other g n) answer tail (sym answer_is) shown_tail)
  shown_by i number (Drop other) answer tail at answer_is shown_tail = shown_met i number (Drop other) tail at (shows (engine_at run i) (Drop other) answer tail (sym answer_is) shown_tail)
  shown_by i number Ask answer tail at answer_is shown_tail = (i, omega arith, ap (shown Ask) (sym answer_is) ∙ shown_tail)
  shown_by i number (Read g n) answer tail at answer_is shown_tail =
      let none : None ≡ Some tail = ap (shown (Read g n)) (sym answer_is) ∙ shown_tail in
      absurd cc

  pub was_tail : (i : ℕ) (tail : Tail) → IsShown run i tail → WasTail i tail
  was_tail i tail shown_tail =
      let answered : IsAnsweredAt run shown_tail.place shown_tail.number shown_tail.request shown_tail.answer = is.answered shown_tail.place shown_tail.number shown_tail.request shown_tail.answer shown_tail.at in
      let was = shown_by answered.place shown_tail.number shown_tail.request shown_tail.answer tail answered.at answered.answer_is shown_tail.shows in
      let one : was.0 ≤ suc answered.place = was.1 in
      let two : answered.place < shown_tail.place = answered.before in
      let three : shown_tail.place < i = shown_tail.before in
      (was.0, omega (arith, one, two, three), was.2)

  -- ---- where a tail was left

  pub data Move (m : ℕ) (tail : Tail) : Type 0 where
    PutsBehind : (number : ℕ) (bytes : List ℕ) → At run m (Does number (Put tail bytes)) → tail_at run (suc m) ≡ Some (longer tail)
        → text_at run (suc m) ≡ text_at run m ++ bytes → Move m tail
    PutsInPlace : (number generation count : ℕ) → At run m (Does number (Place tail generation count)) → tail_at run (suc m) ≡ Some (placed tail generation count)
        → tail.generation < generation → Move m tail
    TakenBy : (number : ℕ) (owner : List ℕ) → At run m (Does number (Take (Some tail) owner)) → tail_at run (suc m) ≡ Some (taken (Some tail) owner) → Move m tail

  pub record Left (k d : ℕ) (tail : Tail) : Type 0 where
    pub place : ℕ
    pub from : k ≤ place
    pub before : place < d
    pub was : tail_at run place ≡ Some tail
    pub move : Move place tail

  left_later : (k d : ℕ) (tail : Tail) → Left k d tail → Left k (suc d) tail
  left_later k d tail left = record { place = left.place; from = left.from; before = let b = left.before in omega (arith, b); was = left.was; move = left.move }

  left_now : (k d : ℕ) (tail : Tail) → k ≤ d → tail_at run d ≡ Some tail → Turn run d → (tail_at run (suc d) ≡ Some tail) ⊎ Left k (suc d) tail
  left_now k d tail before has (Same same text) = inl (same ∙ has)
  left_now k d tail before has (Puts number other bytes at was now text) =
      let same : other ≡ tail = some_same other tail (sym was ∙ has) in
      let P : Tail → Type 0 = λ t. Move d t in
      inr (record { place = d; from = before; before = omega arith; was = has; move = subst P same (PutsBehind number bytes at now text) })
  left_now k d tail before has (Places number other generation count at was now later) =
      let same : other ≡ tail = some_same other tail (sym was ∙ has) in
      let P : Tail → Type 0 = λ t. Move d t in
      inr (record { place = d; from = before; before = omega arith; was = has; move = subst P same (PutsInPlace number generation count at now later) })
  left_now k d tail before has (Takes number seen owner at was now text) =
      let same : seen ≡ Some tail = sym was ∙ has in
      inr (record {
        place = d;
        from = before;
        before = omega arith;
        was = has;
        move = TakenBy number owner (subst (λ (s : Option Tail). At run d (Does number (Take s owner))) same at)
            (subst (λ (s : Option Tail). tail_at run (suc d) ≡ Some (taken s owner)) same now);
      })

  pub left_or_not : (d k : ℕ) (tail : Tail) → k ≤ d → tail_at run k ≡ Some tail → (tail_at run d ≡ Some tail) ⊎ Left k d tail
  left_or_not zero k tail before has =
      let same : k ≡ zero = omega (arith, before) in
      inl (ap (tail_at run) (sym same) ∙ has)
  left_or_not (suc d) k tail before has = elim (cases_lt d k) [
    | inl past ↦
        let same : k ≡ suc d = omega (arith, past, before) in
        inl (ap (tail_at run) (sym same) ∙ has)
    | inr within ↦ elim (left_or_not d k tail within has) [
      | inl still ↦ left_now k d tail within still (turn_at run is rules d)
      | inr left ↦ inr (left_later k d tail left)
    ]
  ]

  -- who has the log on both sides was not taken over
  pub not_taken_over : (k d m number : ℕ) (tail : Tail) (owner : List ℕ) → k ≤ m → m < d → owner_at run k ≡ Some tail.owner → owner_at run d ≡ Some tail.owner
      → At run m (Does number (Take (Some tail) owner)) → tail_at run (suc m) ≡ Some (taken (Some tail) owner) → ⊥
  not_taken_over k d m number tail owner one two first last at now =
      let owned : owner_at run (suc m) ≡ Some tail.owner = owners_unreturned run is rules d k (suc m) tail.owner (omega (arith, one)) (omega (arith, two)) first last in
      let other : Some owner ≡ Some tail.owner = sym (ap owner_of now) ∙ owned in
      let same : tail.owner ≡ owner = cc in
      let sent = was_sent run is rules m number (Take (Some tail) owner) at in
      not_himself run is rules sent.0 (Some tail) owner tail sent.2 refl same

  no_later_generation : (a b : Tail) → IsNoLater a b → a.generation ≤ b.generation
  no_later_generation a b (inl less) = omega (arith, less)
  no_later_generation a b (inr same) = omega (arith, same.0)

  pub generation_rises : (i j : ℕ) (a b : Tail) → i ≤ j → tail_at run i ≡ Some a → tail_at run j ≡ Some b → a.generation ≤ b.generation
  generation_rises i j a b before one other =
      no_later_generation a b (subst (λ (t : Option Tail). NoLater t (Some b)) one (subst (λ (t : Option Tail). NoLater (tail_at run i) t) other (rises run is rules i j before)))

  -- ---- appends

  pub known_there : (d number : ℕ) (tail : Tail) (bytes : List ℕ) → At run d (Does number (Put tail bytes)) → WasTail d tail
  known_there d number tail bytes at =
      let sent = was_sent run is rules d number (Put tail bytes) at in
      let known : IsKnown run sent.0 tail = rules.put_known sent.0 tail bytes sent.2 in
      let was = was_tail sent.0 tail known.is_shown in
      let one : was.0 ≤ sent.0 = was.1 in
      let two : sent.0 < d = sent.1 in
      (was.0, omega (arith, one, two), was.2)

  appended_by : (i d k number : ℕ) (tail : Tail) (bytes : List ℕ) → d < i → At run d (Does number (Put tail bytes)) → k ≤ d → tail_at run k ≡ Some tail → tail_at run d ≡ Some (longer tail)
      → (m : ℕ) → k ≤ m → m < d → tail_at run m ≡ Some tail → Move m tail → IsAppended run i tail bytes
  appended_by i d k number tail bytes before at some had last m from past was (PutsBehind other others here now text) =
      let one = was_sent run is rules m other (Put tail others) here in
      let two = was_sent run is rules d number (Put tail bytes) at in
      let same : others ≡ bytes = rules.one_piece one.0 two.0 tail others bytes one.2 two.2 in
      record { place = m; before = omega (arith, past, before); was = was; now = now; text = text ∙ ap (λ (b : List ℕ). text_at run m ++ b) same }
  appended_by i d k number tail bytes before at some had last m from past was (PutsInPlace other generation count here now later) =
      let high : generation ≤ tail.generation = generation_rises (suc m) d (placed tail generation count) (longer tail) (omega (arith, past)) now last in
      absurd (omega (arith, high, later))
  appended_by i d k number tail bytes before at some had last m from past was (TakenBy other owner here now) =
      absurd (not_taken_over k d m other tail owner from past (ap owner_of had) (ap owner_of last) here now)

  appended_before : (i d number : ℕ) (tail : Tail) (bytes : List ℕ) → d < i → At run d (Does number (Put tail bytes)) → tail_at run d ≡ Some (longer tail)
      → (k : ℕ) → k ≤ d → tail_at run k ≡ Some tail → (tail_at run d ≡ Some tail) ⊎ Left k d tail → IsAppended run i tail bytes
  appended_before i d number tail bytes before at last k some had (inl still) = absurd (count_apart run is rules tail (sym last ∙ still))
  appended_before i d number tail bytes before at last k some had (inr left) =
      appended_by i d k number tail bytes before at some had last left.place left.from left.before left.was left.move

  pub put_here : (i m number : ℕ) (tail : Tail) (bytes : List ℕ) → m < i → At run m (Does number (Put tail bytes)) → tail_at run m ≡ Some tail → IsAppended run i tail bytes
  put_here i m number tail bytes before at was =
      let step : engine_at run (suc m) ≡ effect (Put tail bytes) (engine_at run m) =
      effect_at run is rules m (Put tail bytes) (effective m number (Put tail bytes) at (ap (λ (t : Option Tail). Some t) (sym was))) in
      record {
        place = m;
        before = before;
        was = was;
        now = ap (λ (e : Engine). e.tail) step;
        text = ap text_of step ∙ put_text (engine_at run m).piece tail bytes ∙ ap (λ (t : Option Tail). text_by (engine_at run m).piece t ++ bytes) (sym was);
      }

  appended_or : (i d number : ℕ) (tail : Tail) (bytes : List ℕ) → d < i → At run d (Does number (Put tail bytes)) → (is_met (engine_at run d) (Put tail bytes) ≡ true) ⊎ (tail_at run d ≡ Some (longer tail)) → IsAppended run i tail bytes
  appended_or i d number tail bytes before at (inl is_so) =
      let was : Some (Some tail) ≡ Some (tail_at run d) = as_named (tail_at run d) (compared (Put tail bytes)) is_so in
      put_here i d number tail bytes before at cc
  appended_or i d number tail bytes before at (inr last) =
      let had = known_there d number tail bytes at in
      appended_before i d number tail bytes before at last had.0 had.1 had.2 (left_or_not d had.0 tail had.1 had.2)

  pub appended : (i number : ℕ) (tail : Tail) (bytes : List ℕ) (answer : Answer) → At run i (Answers number (Put tail bytes) answer) → SaysDone (Put tail bytes) answer → IsAppended run i tail bytes
  appended i number tail bytes answer at says =
      let answered : IsAnsweredAt run i number (Put tail bytes) answer = is.answered i number (Put tail bytes) answer at in
      appended_or i answered.place number tail bytes answered.before answered.at
      (says_done (engine_at run answered.place) (Put tail bytes) answer (sym answered.answer_is) says)

  -- ---- one text

  text_stays : (j : ℕ) → Turn run j → tail_at run (suc j) ≡ tail_at run j → text_at run (suc j) ≡ text_at run j
  text_stays j (Same same text) still = text
  text_stays j (Puts number tail bytes at was now text) still = absurd (count_apart run is rules tail (sym now ∙ still ∙ was))
  text_stays j (Places number tail generation count at was now later) still = absurd (generation_apart run is rules tail generation count later (sym now ∙ still ∙ was))
  text_stays j (Takes number seen owner at was now text) still = text

  text_from : (j i : ℕ) → i ≤ j → tail_at run i ≡ tail_at run j → text_at run i ≡ text_at run j
  text_from zero i before same =
      let here : i ≡ zero = omega (arith, before) in
      ap (text_at run) here
  text_from (suc j) i before same = elim (cases_lt j i) [
    | inl past ↦
        let here : i ≡ suc j = omega (arith, past, before) in
        ap (text_at run) here
    | inr within ↦
        let still : tail_at run j ≡ tail_at run (suc j) = unreturned run is rules (suc j) i j within (omega arith) same in
        text_from j i within (same ∙ sym still) ∙ sym (text_stays j (turn_at run is rules j) (sym still))
  ]

  pub one_text : (i j : ℕ) → tail_at run i ≡ tail_at run j → text_at run i ≡ text_at run j
  one_text i j same = elim (cases_lt i j) [
    | inl less ↦ text_from j i (omega (arith, less)) same
    | inr past ↦ sym (text_from i j past (sym same))
  ]

  -- ---- the text goes on

  abbrev More : ℕ → ℕ → Type 0
  More i j = (more : List ℕ) × (text_at run j ≡ text_at run i ++ more)

  abbrev Goes : ℕ → ℕ → Tail → Type 0
  Goes i j tail = (later : Tail) → tail_at run j ≡ Some later → later.generation ≡ tail.generation → More i j

  more_same : (i j : ℕ) → text_at run (suc j) ≡ text_at run j → More i j → More i (suc j)
  more_same i j same more = (more.0, same ∙ more.1)

  on_one : (i j : ℕ) (tail : Tail) → i ≤ j → tail_at run i ≡ Some tail → Goes i j tail → Turn run j → Goes i (suc j) tail
  on_one i j tail before has goes (Same same text) later is_later used = more_same i j text (goes later (sym same ∙ is_later) used)
  on_one i j tail before has goes (Puts number other bytes at was now text) later is_later used =
      let same : longer other ≡ later = some_same (longer other) later (sym now ∙ is_later) in
      let generation : other.generation ≡ later.generation = ap (λ (t : Tail). t.generation) same in
      let more = goes other was (generation ∙ used) in
      (more.0 ++ bytes, text ∙ ap (λ (xs : List ℕ). xs ++ bytes) more.1 ∙ append_assoc (text_at run i) more.0 bytes)
  on_one i j tail before has goes (Places number other generation count at was now high) later is_later used =
      let same : placed other generation count ≡ later = some_same (placed other generation count) later (sym now ∙ is_later) in
      let generations : generation ≡ later.generation = ap (λ (t : Tail). t.generation) same in
      let low : tail.generation ≤ other.generation = generation_rises i j tail other before has was in
      absurd (omega (arith, generations, low, high, used))
  on_one i j tail before has goes (Takes number None owner at was now text) later is_later used =
      let rise : NoLater (Some tail) None = subst (λ (t : Option Tail). NoLater t None) has (subst (λ (t : Option Tail). NoLater (tail_at run i) t) was (rises run is rules i j before)) in
      absurd rise
  on_one i j tail before has goes (Takes number (Some other) owner at was now text) later is_later used =
      let same : taken (Some other) owner ≡ later = some_same (taken (Some other) owner) later (sym now ∙ is_later) in
      let generation : other.generation ≡ later.generation = ap (λ (t : Tail). t.generation) same in
      more_same i j text (goes other was (generation ∙ used))

  no_more : (i j : ℕ) → i ≡ j → More i j
  no_more i j same = ([], ap (text_at run) (sym same) ∙ sym (append-nil (text_at run i)))

  pub goes_on : (j i : ℕ) (tail : Tail) → i ≤ j → tail_at run i ≡ Some tail → Goes i j tail
  goes_on zero i tail before has = λ later is_later used. no_more i zero (omega (arith, before))
  goes_on (suc j) i tail before has = elim (cases_lt j i) [
    | inl past ↦ λ later is_later used. no_more i (suc j) (omega (arith, past, before))
    | inr within ↦ on_one i j tail within has (goes_on j i tail within has) (turn_at run is rules j)
  ]

  -- ---- doubles

  same_done : (i number other : ℕ) (request done : Request) → At run i (Does number request) → At run i (Does other done) → request ≡ done
  same_done i number other request done one two =
      let same : Some (Does number request) ≡ Some (Does other done) = sym one ∙ two in
      cc

  not_twice : (i j number other : ℕ) (request : Request) → i < j → moves request ≡ true → At run i (Does number request) → At run j (Does other request)
      → compared request ≡ Some (tail_at run j) → (k : ℕ) → k ≤ i → compared request ≡ Some (tail_at run k) → ⊥
  not_twice i j number other request less yes_moves one two named k before seen =
      let both : Some (tail_at run k) ≡ Some (tail_at run j) = sym seen ∙ named in
      let back : tail_at run k ≡ tail_at run j = cc in
      let still : tail_at run i ≡ tail_at run j = unreturned run is rules j k i before (omega (arith, less)) back in
      let named_first : compared request ≡ Some (tail_at run i) = named ∙ ap (λ (t : Option Tail). Some t) (sym still) in
      not_later_again run is rules i j request yes_moves (effective i number request one named_first) (effective j other request two named) less

  abbrev Still : ℕ → Type 0
  Still j = (tail_at run (suc j) ≡ tail_at run j) × (text_at run (suc j) ≡ text_at run j)

  seen_first : (i number : ℕ) (seen : Option Tail) (owner : List ℕ) → At run i (Does number (Take seen owner)) → (k : ℕ) × (k ≤ i) × (tail_at run k ≡ seen)
  seen_first i number None owner at = (zero, omega arith, refl)
  seen_first i number (Some tail) owner at =
      let sent = was_sent run is rules i number (Take (Some tail) owner) at in
      let was = was_tail sent.0 tail (rules.seen sent.0 tail owner sent.2) in
      let one : was.0 ≤ sent.0 = was.1 in
      let two : sent.0 < i = sent.1 in
      (was.0, omega (arith, one, two), was.2)

  pub place_first : (i number : ℕ) (tail : Tail) (generation count : ℕ) → At run i (Does number (Place tail generation count)) → WasTail i tail
  place_first i number tail generation count at =
      let sent = was_sent run is rules i number (Place tail generation count) at in
      let was = was_tail sent.0 tail (rules.place_known sent.0 tail generation count sent.2).is_shown in
      let one : was.0 ≤ sent.0 = was.1 in
      let two : sent.0 < i = sent.1 in
      (was.0, omega (arith, one, two), was.2)

  named_as : (k : ℕ) (seen : Option Tail) → tail_at run k ≡ seen → Some seen ≡ Some (tail_at run k)
  named_as k seen was = ap (λ (t : Option Tail). Some t) (sym was)

  double_of : (i j number other : ℕ) (request : Request) → i < j → At run i (Does number request) → At run j (Does other request) → Turn run j → Still j
  double_of i j number other request less one two (Same same text) = (same, text)
  double_of i j number other request less one two (Puts third tail bytes at was now text) =
      let same : request ≡ Put tail bytes = same_done j other third request (Put tail bytes) two at in
      let first : At run i (Does number (Put tail bytes)) = subst (λ (r : Request). At run i (Does number r)) same one in
      let had = known_there i number tail bytes first in
      absurd (not_twice i j number third (Put tail bytes) less refl first at (named_as j (Some tail) was) had.0 had.1 (named_as had.0 (Some tail) had.2))
  double_of i j number other request less one two (Places third tail generation count at was now later) =
      let same : request ≡ Place tail generation count = same_done j other third request (Place tail generation count) two at in
      let first : At run i (Does number (Place tail generation count)) = subst (λ (r : Request). At run i (Does number r)) same one in
      let had = place_first i number tail generation count first in
      absurd (not_twice i j number third (Place tail generation count) less refl first at (named_as j (Some tail) was) had.0 had.1 (named_as had.0 (Some tail) had.2))
  double_of i j number other request less one two (Takes third seen owner at was now text) =
      let same : request ≡ Take seen owner = same_done j other third request (Take seen owner) two at in
      let first : At run i (Does number (Take seen owner)) = subst (λ (r : Request). At run i (Does number r)) same one in
      let had = seen_first i number seen owner first in
      absurd (not_twice i j number third (Take seen owner) less refl first at (named_as j seen was) had.0 had.1 (named_as had.0 seen had.2))

  pub doubles : (i j number other : ℕ) (request : Request) → i < j → At run i (Does number request) → At run j (Does other request) → Still j
  doubles i j number other request less one two = double_of i j number other request less one two (turn_at run is rules j)

  -- ---- a taking

  not_former : (k m j : ℕ) (former : List ℕ) (number : ℕ) (seen : Option Tail) (owner : List ℕ) (tail : Tail) → k ≤ m → m < j → At run m (Does number (Take seen owner)) → tail_at run m ≡ seen
      → tail_at run (suc m) ≡ Some (taken seen owner) → owner_at run k ≡ Some former → tail.owner ≡ former → tail_at run j ≡ Some tail → ⊥
  not_former k m j former number seen owner tail some less at was now had owned has =
      let last : owner_at run j ≡ Some former = ap owner_of has ∙ ap (λ (o : List ℕ). Some o) owned in
      let mid : owner_at run (suc m) ≡ Some former = owners_unreturned run is rules j k (suc m) former (omega (arith, some)) less had last in
      let names : Some (taken seen owner).owner ≡ Some former = sym (ap owner_of now) ∙ mid in
      let same : owner ≡ former = sym (taken_owner seen owner) ∙ cc in
      not_taken_again run is rules m number seen owner at was k some (had ∙ ap (λ (o : List ℕ). Some o) (sym same))

  met_final : (k m j : ℕ) (former : List ℕ) (taking number : ℕ) (seen : Option Tail) (owner : List ℕ) (request : Request) → k ≤ m → m < j → At run m (Does taking (Take seen owner)) → tail_at run m ≡ seen
      → tail_at run (suc m) ≡ Some (taken seen owner) → owner_at run k ≡ Some former → asker request ≡ Some former → At run j (Does number request) → compared request ≡ Some (tail_at run j) → ⊥
  met_final k m j former taking number seen owner (Take other one) some less at was now had asked here named =
      let same : one ≡ former = cc in
      let is_tail : tail_at run j ≡ other = cc in
      not_taken_again run is rules j number other one here is_tail k (omega (arith, some, less)) (had ∙ ap (λ (o : List ℕ). Some o) (sym same))
  met_final k m j former taking number seen owner (Put tail bytes) some less at was now had asked here named =
      let same : tail.owner ≡ former = cc in
      let has : tail_at run j ≡ Some tail = cc in
      not_former k m j former taking seen owner tail some less at was now had same has
  met_final k m j former taking number seen owner (Fresh tail generation n bytes) some less at was now had asked here named =
      let same : tail.owner ≡ former = cc in
      let has : tail_at run j ≡ Some tail = cc in
      not_former k m j former taking seen owner tail some less at was now had same has
  met_final k m j former taking number seen owner (Place tail generation count) some less at was now had asked here named =
      let same : tail.owner ≡ former = cc in
      let has : tail_at run j ≡ Some tail = cc in
      not_former k m j former taking seen owner tail some less at was now had same has
  met_final k m j former taking number seen owner (Drop tail) some less at was now had asked here named =
      let same : tail.owner ≡ former = cc in
      let has : tail_at run j ≡ Some tail = cc in
      not_former k m j former taking seen owner tail some less at was now had same has
  met_final k m j former taking number seen owner Ask some less at was now had asked here named = absurd cc
  met_final k m j former taking number seen owner (Read generation n) some less at was now had asked here named = absurd cc

  final : (k m j : ℕ) (former : List ℕ) (taking number : ℕ) (seen : Option Tail) (owner : List ℕ) (request : Request) → k ≤ m → m < j → At run m (Does taking (Take seen owner)) → tail_at run m ≡ seen
      → tail_at run (suc m) ≡ Some (taken seen owner) → owner_at run k ≡ Some former → asker request ≡ Some former → At run j (Does number request)
      → (b : Bool) → is_met (engine_at run j) request ≡ b → engine_at run (suc j) ≡ engine_at run j
  final k m j former taking number seen owner request some less at was now had asked here true it_is =
      absurd (met_final k m j former taking number seen owner request some less at was now had asked here (as_named (tail_at run j) (compared request) it_is))
  final k m j former taking number seen owner request some less at was now had asked here false it_is = unmet run j number request here it_is

  taken_here : (i m number : ℕ) (seen : Option Tail) (owner : List ℕ) → m < i → At run m (Does number (Take seen owner)) → tail_at run m ≡ seen → IsTaken run i seen owner
  taken_here i m number seen owner before at was =
      let step : engine_at run (suc m) ≡ effect (Take seen owner) (engine_at run m) =
      effect_at run is rules m (Take seen owner) (effective m number (Take seen owner) at (named_as m seen was)) in
      record {
        place = m;
        before = before;
        was = was;
        now = ap (λ (e : Engine). e.tail) step;
        text = ap text_of step ∙ taken_text (engine_at run m).piece seen owner ∙ ap (text_by (engine_at run m).piece) (sym was);
        final = λ k j other former request some less had asked here.
            final k m j former number other seen owner request some less at was (ap (λ (e : Engine). e.tail) step) had asked here (is_met (engine_at run j) request) refl;
      }

  taken_or : (i d number : ℕ) (seen : Option Tail) (owner : List ℕ) → d < i → At run d (Does number (Take seen owner)) → (is_met (engine_at run d) (Take seen owner) ≡ true) ⊎ (tail_at run d ≡ Some (taken seen owner)) → IsTaken run i seen owner
  taken_or i d number seen owner before at (inl is_so) =
      let named : Some seen ≡ Some (tail_at run d) = as_named (tail_at run d) (compared (Take seen owner)) is_so in
      taken_here i d number seen owner before at cc
  taken_or i d number seen owner before at (inr has) =
      let first : Took run is rules d owner = subst (λ (o : List ℕ). Took run is rules d o) (taken_owner seen owner) (took run is rules d (taken seen owner) has) in
      let one = was_sent run is rules first.place first.number (Take first.seen owner) first.at in
      let two = was_sent run is rules d number (Take seen owner) at in
      let same : first.seen ≡ seen = rules.one_take one.0 two.0 first.seen seen owner one.2 two.2 in
      let b : first.place < d = first.before in
      taken_here i first.place first.number seen owner (omega (arith, b, before))
      (subst (λ (s : Option Tail). At run first.place (Does first.number (Take s owner))) same first.at) (first.was ∙ same)

  pub is_taken : (i number : ℕ) (seen : Option Tail) (owner : List ℕ) (answer : Answer) → At run i (Answers number (Take seen owner) answer) → SaysDone (Take seen owner) answer → IsTaken run i seen owner
  is_taken i number seen owner answer at says =
      let answered : IsAnsweredAt run i number (Take seen owner) answer = is.answered i number (Take seen owner) answer at in
      taken_or i answered.place number seen owner answered.before answered.at
      (says_done (engine_at run answered.place) (Take seen owner) answer (sym answered.answer_is) says)

  -- ---- a question

  pub confirmed : (asked came number : ℕ) (tail : Tail) → At run asked (Sends number Ask) → At run came (Answers number Ask (TailIs (Some tail)))
      → (j k : ℕ) → j ≤ k → k ≤ asked → owner_at run j ≡ Some tail.owner → owner_at run k ≡ Some tail.owner
  confirmed asked came number tail sent at j k some before had =
      let answered : IsAnsweredAt run came number Ask (TailIs (Some tail)) = is.answered came number Ask (TailIs (Some tail)) at in
      let was : IsSentBefore run answered.place number Ask = is.sent answered.place number Ask answered.at in
      let same : was.place ≡ asked = is.one_sending was.place asked number Ask Ask was.at sent in
      let less : was.place < answered.place = was.before in
      let answer_is : TailIs (Some tail) ≡ TailIs (tail_at run answered.place) = answered.answer_is in
      let there : tail_at run answered.place ≡ Some tail = cc in
      owners_unreturned run is rules answered.place j k tail.owner some (omega (arith, before, same, less)) had (ap owner_of there)
