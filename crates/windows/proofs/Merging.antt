-- Values in a line, each with a point of its put and one of its take, go through the queue by these points.
use Rattle.std.proofs.Common.{ℕ, zero, suc, ◌≡◌, ◌<◌, ◌≤◌, ◌+◌, ◌*◌, ◌⊎◌, Bool, true, false, List, [], ◌∷◌, ◌++◌, length, inl}
use Rattle.std.proofs.Common.{inr, refl, arith, sym, subst, ap, ◌∙◌, append_assoc}
use Rattle.std.specs.Prelude.{⊤}
use Rattle.std.proofs.lemmas.Bool.{cases_lt, cases_Bool}
use Rattle.windows.specs.Lists.{IsAmong, AreDifferent}
use Rattle.windows.specs.Runs.{Step, put, got, nothing, Runs}

-- a value with the points of its put and of its take
pub record Item : Type 0 where
  pub value : ℕ
  pub put_at : ℕ
  pub take_at : ℕ

pub record Move : Type 0 where
  pub step : Step
  pub point : ℕ

abbrev pub values_of : List Item → List ℕ
values_of [] = []
values_of (x ∷ rest) = x.value ∷ values_of rest

abbrev pub steps_of : List Move → List Step
steps_of [] = []
steps_of (m ∷ rest) = m.step ∷ steps_of rest

abbrev pub IsSameStep : Step → Step → Type 0
IsSameStep (put v) (put w) = v ≡ w
IsSameStep (put v) (got t w) = ⊥
IsSameStep (put v) (nothing t) = ⊥
IsSameStep (got s v) (put w) = ⊥
IsSameStep (got s v) (got t w) = v ≡ w
IsSameStep (got s v) (nothing t) = ⊥
IsSameStep (nothing s) (put w) = ⊥
IsSameStep (nothing s) (got t w) = ⊥
IsSameStep (nothing s) (nothing t) = s ≡ t

-- no two moves are the same step
abbrev pub AreApart : List Move → Type 0
AreApart [] = ⊤
AreApart (m ∷ rest) = ((n : Move) → IsAmong n rest → IsSameStep m.step n.step → ⊥) × AreApart rest

-- their points ascend
abbrev pub Ascend : ℕ → List Move → Type 0
Ascend low [] = ⊤
Ascend low (m ∷ rest) = (low ≤ m.point) × Ascend m.point rest

module _ (is_empty : ℕ → Bool) (taker : ℕ → ℕ) (never : ℕ) where
  abbrev pub put_of : Item → Move
  put_of x = record { step = put x.value; point = x.put_at }

  abbrev pub got_of : Item → Move
  got_of x = record { step = got (taker x.value) x.value; point = x.take_at }

  abbrev pub nothing_of : Item → Move
  nothing_of x = record { step = nothing x.value; point = x.put_at }

  -- the points of a value, behind those of another one; one that stands for a take that found nothing has one point
  pub record IsPointed (a b : ℕ) (x : Item) : Type 0 where
    pub puts : a ≤ x.put_at
    pub takes : b ≤ x.take_at
    pub goes : x.put_at ≤ x.take_at
    pub early : x.put_at < never
    pub at_once : is_empty x.value ≡ true → x.take_at ≤ x.put_at

  abbrev pub ArePointed : ℕ → ℕ → List Item → Type 0
  ArePointed a b [] = ⊤
  ArePointed a b (x ∷ rest) = IsPointed a b x × ArePointed x.put_at x.take_at rest

  -- values that are in the queue
  abbrev pub AreIn : ℕ → List Item → Type 0
  AreIn low [] = ⊤
  AreIn low (f ∷ queue) = (low ≤ f.take_at) × ((is_empty f.value ≡ false) × AreIn f.take_at queue)

  abbrev pub last_take : ℕ → List Item → ℕ
  last_take low [] = low
  last_take low (f ∷ queue) = last_take f.take_at queue

  -- what each move is
  pub data IsMoveOf (queue rest : List Item) (m : Move) : Type 0 where
    is_put : (x : Item) → IsAmong x rest → is_empty x.value ≡ false → put_of x ≡ m → IsMoveOf queue rest m
    is_got : (x : Item) → IsAmong x queue ⊎ IsAmong x rest → is_empty x.value ≡ false → x.take_at < never
        → got_of x ≡ m → IsMoveOf queue rest m
    is_nothing : (x : Item) → IsAmong x rest → is_empty x.value ≡ true → nothing_of x ≡ m → IsMoveOf queue rest m

  -- the moves of values that are in the queue, and of those that come
  pub record Merged (low : ℕ) (queue rest : List Item) : Type 0 where
    pub moves : List Move
    pub runs : Runs (values_of queue) (steps_of moves)
    pub ascend : Ascend low moves
    pub members : (m : Move) → IsAmong m moves → IsMoveOf queue rest m
    pub puts : (x : Item) → IsAmong x rest → is_empty x.value ≡ false → IsAmong (put_of x) moves
    pub gots : (x : Item) → IsAmong x queue ⊎ IsAmong x rest → is_empty x.value ≡ false → x.take_at < never
        → IsAmong (got_of x) moves
    pub nothings : (x : Item) → IsAmong x rest → is_empty x.value ≡ true → IsAmong (nothing_of x) moves
    pub apart : AreApart moves

  no_empty : (x : Item) → is_empty x.value ≡ true → is_empty x.value ≡ false → ⊥
  no_empty x one other = cc (one, other)

  value_among : (x : Item) (items : List Item) → IsAmong x items → IsAmong x.value (values_of items)
  value_among x [] among = among
  value_among x (y ∷ items) (inl same) = inl (ap (λ (z : Item). z.value) same)
  value_among x (y ∷ items) (inr later) = inr (value_among x items later)

  among_left : (v : ℕ) (xs ys : List ℕ) → IsAmong v xs → IsAmong v (xs ++ ys)
  among_left v [] ys among = absurd among
  among_left v (x ∷ xs) ys (inl same) = inl same
  among_left v (x ∷ xs) ys (inr later) = inr (among_left v xs ys later)

  among_right : (v : ℕ) (xs ys : List ℕ) → IsAmong v ys → IsAmong v (xs ++ ys)
  among_right v [] ys among = among
  among_right v (x ∷ xs) ys among = inr (among_right v xs ys among)

  different_right : (xs ys : List ℕ) → AreDifferent (xs ++ ys) → AreDifferent ys
  different_right [] ys differ = differ
  different_right (x ∷ xs) ys differ = different_right xs ys differ.1

  values_last : (queue : List Item) (x : Item) → values_of (queue ++ x ∷ []) ≡ values_of queue ++ x.value ∷ []
  values_last [] x = refl
  values_last (f ∷ queue) x = ap (λ (vs : List ℕ). f.value ∷ vs) (values_last queue x)

  among_last : (y : Item) (queue : List Item) (x : Item) → IsAmong y (queue ++ x ∷ [])
      → IsAmong y queue ⊎ (x ≡ y)
  among_last y [] x (inl same) = inr same
  among_last y [] x (inr later) = absurd later
  among_last y (f ∷ queue) x (inl same) = inl (inl same)
  among_last y (f ∷ queue) x (inr later) = go (among_last y queue x later)
    where
      go : IsAmong y queue ⊎ (x ≡ y) → IsAmong y (f ∷ queue) ⊎ (x ≡ y)
      go (inl among) = inl (inr among)
      go (inr same) = inr same

  last_among : (queue : List Item) (x : Item) → IsAmong x (queue ++ x ∷ [])
  last_among [] x = inl refl
  last_among (f ∷ queue) x = inr (last_among queue x)

  longer_among : (y : Item) (queue : List Item) (x : Item) → IsAmong y queue → IsAmong y (queue ++ x ∷ [])
  longer_among y [] x among = absurd among
  longer_among y (f ∷ queue) x (inl same) = inl same
  longer_among y (f ∷ queue) x (inr later) = inr (longer_among y queue x later)

  -- nothing moves
  merged_none : (low : ℕ) → Merged low [] []
  merged_none low = record {
    moves = [];
    runs = tt;
    ascend = tt;
    members = λ m among. absurd among;
    puts = λ x among full. absurd among;
    gots = λ x among full early. none x among;
    nothings = λ x among empty. absurd among;
    apart = tt;
  }
    where
      none : (x : Item) → IsAmong x [] ⊎ IsAmong x [] → IsAmong (got_of x) []
      none x (inl among) = absurd among
      none x (inr among) = absurd among

  -- what is in the queue stays there
  late_all : (low : ℕ) (queue : List Item) (x : Item) → never ≤ low → AreIn low queue → IsAmong x queue
      → never ≤ x.take_at
  late_all low [] x late are_in among = absurd among
  late_all low (f ∷ queue) x late are_in (inl same) =
      let le : low ≤ f.take_at = are_in.0 in
      let takes : f.take_at ≡ x.take_at = ap (λ (z : Item). z.take_at) same in omega (arith, late, le, takes)
  late_all low (f ∷ queue) x late are_in (inr later) =
      let le : low ≤ f.take_at = are_in.0 in
      late_all f.take_at queue x (omega (arith, late, le)) are_in.1.1 later

  merged_stay : (low : ℕ) (f : Item) (queue : List Item) → never ≤ f.take_at → AreIn low (f ∷ queue)
      → Merged low (f ∷ queue) []
  merged_stay low f queue late are_in = record {
    moves = [];
    runs = tt;
    ascend = tt;
    members = λ m among. absurd among;
    puts = λ x among full. absurd among;
    gots = λ x among full early. none x among early;
    nothings = λ x among empty. absurd among;
    apart = tt;
  }
    where
      none : (x : Item) → IsAmong x (f ∷ queue) ⊎ IsAmong x [] → x.take_at < never → IsAmong (got_of x) []
      none x (inl (inl same)) early =
          absurd (let takes : f.take_at ≡ x.take_at = ap (λ (z : Item). z.take_at) same in omega (arith, late, early, takes))
      none x (inl (inr later)) early =
          absurd (let le : never ≤ x.take_at = late_all f.take_at queue x late are_in.1.1 later in omega (arith, le, early))
      none x (inr among) early = absurd among

  -- a take that finds nothing
  merged_nothing : (low : ℕ) (x : Item) (rest : List Item) → low ≤ x.put_at → is_empty x.value ≡ true
      → AreDifferent (values_of (x ∷ rest)) → Merged x.put_at [] rest → Merged low [] (x ∷ rest)
  merged_nothing low x rest le empty differ is = record {
    moves = nothing_of x ∷ is.moves;
    runs = (refl, is.runs);
    ascend = (le, is.ascend);
    members = members;
    puts = puts;
    gots = gots;
    nothings = nothings;
    apart = ((λ n among same. apart n (is.members n among) same), is.apart);
  }
    where
      older : (m : Move) → IsMoveOf [] rest m → IsMoveOf [] (x ∷ rest) m
      older m (is_put y among full same) = is_put y (inr among) full same
      older m (is_got y (inl among) full early same) = absurd among
      older m (is_got y (inr among) full early same) = is_got y (inr (inr among)) full early same
      older m (is_nothing y among nil same) = is_nothing y (inr among) nil same

      members : (m : Move) → IsAmong m (nothing_of x ∷ is.moves) → IsMoveOf [] (x ∷ rest) m
      members m (inl same) = is_nothing x (inl refl) empty same
      members m (inr later) = older m (is.members m later)

      puts : (y : Item) → IsAmong y (x ∷ rest) → is_empty y.value ≡ false → IsAmong (put_of y) (nothing_of x ∷ is.moves)
      puts y (inl same) full = absurd (no_empty x empty (ap (λ (z : Item). is_empty z.value) same ∙ full))
      puts y (inr later) full = inr (is.puts y later full)

      gots : (y : Item) → IsAmong y [] ⊎ IsAmong y (x ∷ rest) → is_empty y.value ≡ false → y.take_at < never
          → IsAmong (got_of y) (nothing_of x ∷ is.moves)
      gots y (inl among) full early = absurd among
      gots y (inr (inl same)) full early = absurd (no_empty x empty (ap (λ (z : Item). is_empty z.value) same ∙ full))
      gots y (inr (inr later)) full early = inr (is.gots y (inr later) full early)

      nothings : (y : Item) → IsAmong y (x ∷ rest) → is_empty y.value ≡ true
          → IsAmong (nothing_of y) (nothing_of x ∷ is.moves)
      nothings y (inl same) nil = inl (ap nothing_of same)
      nothings y (inr later) nil = inr (is.nothings y later nil)

      apart : (n : Move) → IsMoveOf [] rest n → IsSameStep (nothing x.value) n.step → ⊥
      apart n (is_put y among full same) equal =
          subst (λ (m : Move). IsSameStep (nothing x.value) m.step) (sym same) equal
      apart n (is_got y among full early same) equal =
          subst (λ (m : Move). IsSameStep (nothing x.value) m.step) (sym same) equal
      apart n (is_nothing y among nil same) equal =
          let values : x.value ≡ y.value = subst (λ (m : Move). IsSameStep (nothing x.value) m.step) (sym same) equal in
          differ.0 (subst (λ (v : ℕ). IsAmong v (values_of rest)) (sym values) (value_among y rest among))

  -- a put
  merged_put : (low : ℕ) (queue : List Item) (x : Item) (rest : List Item) → low ≤ x.put_at → is_empty x.value ≡ false
      → AreDifferent (values_of (x ∷ rest)) → Merged x.put_at (queue ++ x ∷ []) rest → Merged low queue (x ∷ rest)
  merged_put low queue x rest le full differ is = record {
    moves = put_of x ∷ is.moves;
    runs = subst (λ (vs : List ℕ). Runs vs (steps_of is.moves)) (values_last queue x) is.runs;
    ascend = (le, is.ascend);
    members = members;
    puts = puts;
    gots = gots;
    nothings = nothings;
    apart = ((λ n among same. apart n (is.members n among) same), is.apart);
  }
    where
      older_got : (y : Item) → IsAmong y queue ⊎ (x ≡ y) → IsAmong y queue ⊎ IsAmong y (x ∷ rest)
      older_got y (inl among) = inl among
      older_got y (inr same) = inr (inl same)

      older : (m : Move) → IsMoveOf (queue ++ x ∷ []) rest m → IsMoveOf queue (x ∷ rest) m
      older m (is_put y among filled same) = is_put y (inr among) filled same
      older m (is_got y (inl among) filled early same) =
          is_got y (older_got y (among_last y queue x among)) filled early same
      older m (is_got y (inr among) filled early same) = is_got y (inr (inr among)) filled early same
      older m (is_nothing y among nil same) = is_nothing y (inr among) nil same

      members : (m : Move) → IsAmong m (put_of x ∷ is.moves) → IsMoveOf queue (x ∷ rest) m
      members m (inl same) = is_put x (inl refl) full same
      members m (inr later) = older m (is.members m later)

      puts : (y : Item) → IsAmong y (x ∷ rest) → is_empty y.value ≡ false → IsAmong (put_of y) (put_of x ∷ is.moves)
      puts y (inl same) filled = inl (ap put_of same)
      puts y (inr later) filled = inr (is.puts y later filled)

      gots : (y : Item) → IsAmong y queue ⊎ IsAmong y (x ∷ rest) → is_empty y.value ≡ false → y.take_at < never
          → IsAmong (got_of y) (put_of x ∷ is.moves)
      gots y (inl among) filled early = inr (is.gots y (inl (longer_among y queue x among)) filled early)
      gots y (inr (inl same)) filled early = inr (is.gots y
          (inl (subst (λ (z : Item). IsAmong z (queue ++ x ∷ [])) same (last_among queue x))) filled early)
      gots y (inr (inr later)) filled early = inr (is.gots y (inr later) filled early)

      nothings : (y : Item) → IsAmong y (x ∷ rest) → is_empty y.value ≡ true
          → IsAmong (nothing_of y) (put_of x ∷ is.moves)
      nothings y (inl same) nil = absurd (no_empty y nil (ap (λ (z : Item). is_empty z.value) (sym same) ∙ full))
      nothings y (inr later) nil = inr (is.nothings y later nil)

      apart : (n : Move) → IsMoveOf (queue ++ x ∷ []) rest n → IsSameStep (put x.value) n.step → ⊥
      apart n (is_put y among filled same) equal =
          let values : x.value ≡ y.value = subst (λ (m : Move). IsSameStep (put x.value) m.step) (sym same) equal in
          differ.0 (subst (λ (v : ℕ). IsAmong v (values_of rest)) (sym values) (value_among y rest among))
      apart n (is_got y among filled early same) equal =
          subst (λ (m : Move). IsSameStep (put x.value) m.step) (sym same) equal
      apart n (is_nothing y among nil same) equal =
          subst (λ (m : Move). IsSameStep (put x.value) m.step) (sym same) equal

  -- a take of the first value in the queue
  merged_got : (low : ℕ) (f : Item) (queue rest : List Item) → low ≤ f.take_at → is_empty f.value ≡ false
      → f.take_at < never → AreDifferent (values_of (f ∷ queue) ++ values_of rest) → Merged f.take_at queue rest
      → Merged low (f ∷ queue) rest
  merged_got low f queue rest le full early differ is = record {
    moves = got_of f ∷ is.moves;
    runs = (refl, is.runs);
    ascend = (le, is.ascend);
    members = members;
    puts = λ y among filled. inr (is.puts y among filled);
    gots = gots;
    nothings = λ y among nil. inr (is.nothings y among nil);
    apart = ((λ n among same. apart n (is.members n among) same), is.apart);
  }
    where
      older_among : (y : Item) → IsAmong y queue ⊎ IsAmong y rest → IsAmong y (f ∷ queue) ⊎ IsAmong y rest
      older_among y (inl among) = inl (inr among)
      older_among y (inr among) = inr among

      older : (m : Move) → IsMoveOf queue rest m → IsMoveOf (f ∷ queue) rest m
      older m (is_put y among filled same) = is_put y among filled same
      older m (is_got y among filled soon same) = is_got y (older_among y among) filled soon same
      older m (is_nothing y among nil same) = is_nothing y among nil same

      members : (m : Move) → IsAmong m (got_of f ∷ is.moves) → IsMoveOf (f ∷ queue) rest m
      members m (inl same) = is_got f (inl (inl refl)) full early same
      members m (inr later) = older m (is.members m later)

      gots : (y : Item) → IsAmong y (f ∷ queue) ⊎ IsAmong y rest → is_empty y.value ≡ false → y.take_at < never
          → IsAmong (got_of y) (got_of f ∷ is.moves)
      gots y (inl (inl same)) filled soon = inl (ap got_of same)
      gots y (inl (inr later)) filled soon = inr (is.gots y (inl later) filled soon)
      gots y (inr among) filled soon = inr (is.gots y (inr among) filled soon)

      all_among : (y : Item) → IsAmong y queue ⊎ IsAmong y rest → IsAmong y.value (values_of queue ++ values_of rest)
      all_among y (inl among) = among_left y.value (values_of queue) (values_of rest) (value_among y queue among)
      all_among y (inr among) = among_right y.value (values_of queue) (values_of rest) (value_among y rest among)

      apart : (n : Move) → IsMoveOf queue rest n → IsSameStep (got (taker f.value) f.value) n.step → ⊥
      apart n (is_put y among filled same) equal =
          subst (λ (m : Move). IsSameStep (got (taker f.value) f.value) m.step) (sym same) equal
      apart n (is_got y among filled soon same) equal =
          let values : f.value ≡ y.value =
          subst (λ (m : Move). IsSameStep (got (taker f.value) f.value) m.step) (sym same) equal in
          differ.0 (subst (λ (v : ℕ). IsAmong v (values_of queue ++ values_of rest)) (sym values) (all_among y among))
      apart n (is_nothing y among nil same) equal =
          subst (λ (m : Move). IsSameStep (got (taker f.value) f.value) m.step) (sym same) equal

  weaker : (a b c d : ℕ) (rest : List Item) → ArePointed a b rest → c ≤ a → d ≤ b → ArePointed c d rest
  weaker a b c d [] are le_a le_b = tt
  weaker a b c d (x ∷ rest) are le_a le_b =
      let low : a ≤ x.put_at = are.0.puts in
      let high : b ≤ x.take_at = are.0.takes in (
        record {
          puts = omega (arith, le_a, low);
          takes = omega (arith, le_b, high);
          goes = are.0.goes;
          early = are.0.early;
          at_once = are.0.at_once;
        },
        are.1,
      )

  last_last : (low : ℕ) (queue : List Item) (x : Item) → last_take low (queue ++ x ∷ []) ≡ x.take_at
  last_last low [] x = refl
  last_last low (f ∷ queue) x = last_last f.take_at queue x

  below_last : (low : ℕ) (queue : List Item) → AreIn low queue → low ≤ last_take low queue
  below_last low [] are_in = omega arith
  below_last low (f ∷ queue) are_in =
      let le : low ≤ f.take_at = are_in.0 in
      let more : f.take_at ≤ last_take f.take_at queue = below_last f.take_at queue are_in.1.1 in omega (arith, le, more)

  in_last : (low : ℕ) (queue : List Item) (x : Item) → AreIn low queue → last_take low queue ≤ x.take_at
      → is_empty x.value ≡ false → AreIn low (queue ++ x ∷ [])
  in_last low [] x are_in le full = (le, (full, tt))
  in_last low (f ∷ queue) x are_in le full = (are_in.0, (are_in.1.0, in_last f.take_at queue x are_in.1.1 le full))

  raised : (a c b : ℕ) (x : Item) (rest : List Item) → ArePointed a b (x ∷ rest) → c ≤ x.put_at
      → ArePointed c b (x ∷ rest)
  raised a c b x rest are le = (
    record {
      puts = le;
      takes = are.0.takes;
      goes = are.0.goes;
      early = are.0.early;
      at_once = are.0.at_once;
    },
    are.1,
  )

  longer_different : (queue : List Item) (x : Item) (rest : List Item)
      → AreDifferent (values_of queue ++ values_of (x ∷ rest)) → AreDifferent (values_of (queue ++ x ∷ []) ++ values_of rest)
  longer_different queue x rest differ =
      subst (λ (vs : List ℕ). AreDifferent vs)
      (sym (append_assoc (values_of queue) (x.value ∷ []) (values_of rest))
      ∙ ap (λ (vs : List ℕ). vs ++ values_of rest) (sym (values_last queue x)))
      differ

  length_last : (queue : List Item) (x : Item) → length (queue ++ x ∷ []) ≡ suc (length queue)
  length_last [] x = refl
  length_last (f ∷ queue) x = ap suc (length_last queue x)

  pub merged : (k low : ℕ) (queue rest : List Item) → length queue + 2 * length rest ≤ k → AreIn low queue
      → ArePointed low (last_take low queue) rest → AreDifferent (values_of queue ++ values_of rest)
      → Merged low queue rest
  merged zero low [] [] le are_in pointed differ = merged_none low
  merged zero low [] (x ∷ rest) le are_in pointed differ = absurd (omega (arith, le))
  merged zero low (f ∷ queue) rest le are_in pointed differ = absurd (omega (arith, le))
  merged (suc k) low [] [] le are_in pointed differ = merged_none low
  merged (suc k) low [] (x ∷ rest) le are_in pointed differ = go (cases_Bool (is_empty x.value))
      (merged k x.put_at [] rest (omega (arith, le)) tt
      (weaker x.put_at x.take_at x.put_at x.put_at rest pointed.1 (omega arith)
      (let goes : x.put_at ≤ x.take_at = pointed.0.goes in omega (arith, goes))) differ.1)
      (λ full. merged k x.put_at (x ∷ []) rest (omega (arith, le)) (pointed.0.goes, (full, tt)) pointed.1 differ)
    where
      go : (is_empty x.value ≡ true) ⊎ (is_empty x.value ≡ false) → Merged x.put_at [] rest
          → (is_empty x.value ≡ false → Merged x.put_at (x ∷ []) rest) → Merged low [] (x ∷ rest)
      go (inl empty) is other = merged_nothing low x rest pointed.0.puts empty differ is
      go (inr full) is other = merged_put low [] x rest pointed.0.puts full differ (other full)
  merged (suc k) low (f ∷ queue) [] le are_in pointed differ = go (cases_lt f.take_at never)
      (merged k f.take_at queue [] (omega (arith, le)) are_in.1.1 tt differ.1)
    where
      go : (f.take_at < never) ⊎ (never ≤ f.take_at) → Merged f.take_at queue [] → Merged low (f ∷ queue) []
      go (inl early) is = merged_got low f queue [] are_in.0 are_in.1.0 early differ is
      go (inr late) is = merged_stay low f queue late are_in
  merged (suc k) low (f ∷ queue) (x ∷ rest) le are_in pointed differ = go (cases_lt x.put_at f.take_at)
      (λ soon. merged k f.take_at queue (x ∷ rest) (omega (arith, le)) are_in.1.1
      (raised low f.take_at (last_take f.take_at queue) x rest pointed soon) differ.1)
      (λ soon full. merged k x.put_at (f ∷ queue ++ x ∷ []) rest
      (let more : length (queue ++ x ∷ []) ≡ suc (length queue) = length_last queue x in omega (arith, le, more))
      (in_last x.put_at (f ∷ queue) x (omega (arith, soon), are_in.1) pointed.0.takes full)
      (subst (λ (b : ℕ). ArePointed x.put_at b rest) (sym (last_last x.put_at (f ∷ queue) x)) pointed.1)
      (longer_different (f ∷ queue) x rest differ))
    where
      full_of : x.put_at < f.take_at → (is_empty x.value ≡ true) ⊎ (is_empty x.value ≡ false)
          → is_empty x.value ≡ false
      full_of soon (inl empty) =
          absurd (let once : x.take_at ≤ x.put_at = pointed.0.at_once empty in
          let takes : last_take f.take_at queue ≤ x.take_at = pointed.0.takes in
          let more : f.take_at ≤ last_take f.take_at queue = below_last f.take_at queue are_in.1.1 in
          omega (arith, once, takes, more, soon))
      full_of soon (inr full) = full

      go : (x.put_at < f.take_at) ⊎ (f.take_at ≤ x.put_at) → (f.take_at ≤ x.put_at → Merged f.take_at queue (x ∷ rest))
          → (x.put_at < f.take_at → is_empty x.value ≡ false → Merged x.put_at (f ∷ queue ++ x ∷ []) rest)
          → Merged low (f ∷ queue) (x ∷ rest)
      go (inl soon) takes puts =
          let full : is_empty x.value ≡ false = full_of soon (cases_Bool (is_empty x.value)) in
          merged_put low (f ∷ queue) x rest pointed.0.puts full
          (different_right (values_of (f ∷ queue)) (values_of (x ∷ rest)) differ) (puts soon full)
      go (inr soon) takes puts =
          let early : x.put_at < never = pointed.0.early in
          merged_got low f queue (x ∷ rest) are_in.0 are_in.1.0 (omega (arith, soon, early)) differ (takes soon)
