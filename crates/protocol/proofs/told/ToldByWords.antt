-- What the kept words tell of each client's last call is one thing, and no step of recovery changes it.
use Rattle.std.proofs.Common.{◌≡◌, ◌≢◌, ℕ, zero, suc, ◌+◌, ◌<◌, inl, inr, List, [], ◌∷◌, ◌++◌, length, map, filter, Bool, if◌then◌else◌, ◌==◌, Option, Some, None, refl, sym, ◌∙◌, ap, subst, arith}
use Rattle.std.specs.Prelude.{slice_get, nat_eq, nat_lt}
use Rattle.std.specs.List.{list_any, range_with_len}
use Rattle.std.proofs.lemmas.Bool.{cases_eq, cases_lt, eq-eqb, ne_eqb}
use mathlib.Core.Path.{fun_ext}
use Rattle.words.specs.PlainQueue.{Value}
use Rattle.words.specs.declared.call.Kind.{Kind}
use Rattle.words.specs.declared.call.Kind.TheVariants.{Durable, Log}
use Rattle.words.specs.declared.call.Reply.TheVariants.{Done, Got, Empty}
use Rattle.words.specs.declared.told.Outcome.{Outcome}
use Rattle.words.specs.declared.told.Outcome.TheVariants.{NotTaken, Taken}
use Rattle.words.specs.declared.told.Row.{Row}
use Rattle.words.specs.declared.told.Row.TheVariants.{NoCall, Open, Empty as row_empty, Got as row_got}
use Rattle.words.specs.declared.told.Told.{Told}
use Rattle.words.specs.declared.told.Told.TheVariants.{None as told_none, Verdict as told_verdict, Row as told_row}
use Rattle.arena.specs.Chain.{IsAmong, walk}
use Rattle.arena.specs.Content.{chain_of, kept_content}
use Rattle.arena.specs.Shape.{Shape, greatest}
use Rattle.arena.specs.Words.{links, marks, values, cells, numbers, entry_kinds, statuses, announcements}
use Rattle.arena.specs.declared.place.Place.{Place}
use Rattle.helping.specs.Table.{token_of}
use Rattle.words.specs.Told.{no_call}
use Rattle.sound_words.specs.Told.{node_claimed_by, row_with, enqueue_outcome, dequeue_outcome, outcome_by, report_on}
use Rattle.sound_words.specs.Told.{told_by, tells_by}
use Rattle.sound_words.proofs.Facts.{IsTellable, row_is_empty, row_is_got, row_is_open, told_done, told_empty, told_got}
use Rattle.sound_words.proofs.Facts.{told_nobody, told_not_dequeued, told_not_enqueued, told_nothing, told_of}
use Rattle.protocol.specs.Machine.{put}
use Rattle.protocol.specs.Kept.{OutcomeBy, RowBy, TellsBy, TellsOf}
use Rattle.arena.proofs.Facts.{in_left}
use Rattle.protocol.proofs.chain.Chains.{in_chain, linked_by}
use Rattle.protocol.specs.invariants.Places.{SaysEmpty}
use Rattle.protocol.proofs.changes.Fences.{cell_says, status_says}
use Rattle.protocol.specs.invariants.Sound.{Sound}
use Rattle.protocol.proofs.recovery.Recovering.{MayKeep, may_value}

-- a list with the value of each index at it
list_is : {X : Type 0} (f : ℕ → X) (from : ℕ) (xs : List X) → ((t : ℕ) (x : X) → slice_get xs t ≡ Some x → x ≡ f (from + t))
    → xs ≡ map f (range_with_len from (length xs))
list_is f from [] h = refl
list_is f from (y ∷ ys) h =
    let here : from + 0 ≡ from = omega arith in
    let first : y ≡ f from = h zero y refl ∙ ap f here in
    let on : (t : ℕ) → from + suc t ≡ (from + 1) + t = λ t. omega arith in
    let rest : ys ≡ map f (range_with_len (from + 1) (length ys)) = list_is f (from + 1) ys (λ t x e. h (suc t) x e ∙ ap f (on t)) in
    cc

module _ (s : Shape) (k : Place → ℕ) (claimed waiting : List ℕ) (queue : List Value) (b : Sound s k claimed waiting queue) (chain : chain_of s k ≡ claimed ++ waiting) where
  pub tellable : IsTellable s k
  tellable = record {
    linked = λ at some. subst (IsAmong (links k at)) (sym chain) (in_chain (links k) 0 (claimed ++ waiting) at b.chain (b.on_chain at some) some);
    link = λ n on. let q : (p : ℕ) × (links k p ≡ n) × (n ≢ 0) = linked_by (links k) 0 (claimed ++ waiting) b.chain n (subst (IsAmong n) chain on) in (q.0, q.1);
    claimed = λ at some. subst (IsAmong at) (sym chain) (in_left at claimed waiting (b.back at some));
    once = b.one_mark;
  }

  -- a dequeue that claims a node did not find the queue empty
  claims_not_empty : (e at : ℕ) → e ≢ 0 → marks k at ≡ e → SaysEmpty s k e → ⊥
  claims_not_empty e at some mark says = b.silent at (λ z. some (sym mark ∙ z)) (subst (SaysEmpty s k) (sym mark) says)

  outcome_is : s.kind ≡ Log → (e : ℕ) → e ≢ 0 → (o : Outcome) → OutcomeBy k e o → o ≡ outcome_by s k e
  outcome_is log e some (Taken Done) q = sym (told_done s k tellable e q.1.at some q.0 q.1.linked)
  outcome_is log e some (Taken Empty) q = sym (told_empty s k e q.0 q.1)
  outcome_is log e some (Taken (Got v)) q =
      let two : statuses k e ≢ 2 = λ two. claims_not_empty e q.1.at some q.1.marked ((status_says s k (token_of e) log).1 two) in
      ap (λ x. Taken (Got x)) (sym q.1.value) ∙ sym (told_got s k tellable e q.1.at some q.0 two q.1.marked)
  outcome_is log e some NotTaken q = elim (cases_eq (entry_kinds k e) 1) [
    | inl one ↦ sym (told_not_enqueued s k tellable e one (q.0 one))
    | inr ne ↦ sym (told_not_dequeued s k e ne (q.1 ne).0 (q.1 ne).1)
  ]

  row_is : s.kind ≡ Durable → (e : ℕ) → e ≢ 0 → (o : Row) → RowBy k e o → o ≡ row_with k e (node_claimed_by k e (chain_of s k))
  row_is d e some (row_got v) q = ap row_got (sym q.value) ∙ sym (row_is_got s k tellable e q.at some q.marked)
  row_is d e some row_empty q = sym (row_is_empty s k e q (λ at mark. claims_not_empty e at some mark ((cell_says s k (token_of e) d).1 q)))
  row_is d e some Open q = sym (row_is_open s k e q.0 q.1)
  row_is d e some NoCall q = absurd q

  told_row_is : s.kind ≡ Durable → (t : ℕ) → t < s.clients → (o : Row) → TellsBy Durable k t (told_row o) → told_row o ≡ told_by s k t
  told_row_is d t lt o q = go o q
    where
      announced : announcements k t ≢ 0 → told_by s k t ≡ told_row (row_with k (announcements k t) (node_claimed_by k (announcements k t) (chain_of s k)))
      announced some = told_of s k t lt some ∙ ap (λ x. report_on x s k (announcements k t)) d

      some_row : (o : Row) → announcements k t ≢ 0 → RowBy k (announcements k t) o → told_row o ≡ told_by s k t
      some_row o some r = ap told_row (row_is d (announcements k t) some o r) ∙ sym (announced some)

      go : (o : Row) → TellsBy Durable k t (told_row o) → told_row o ≡ told_by s k t
      go NoCall q = sym (told_nothing s k t lt q ∙ ap no_call d)
      go Open q = some_row Open q.0 q.1
      go row_empty q = some_row row_empty q.0 q.1
      go (row_got x) q = some_row (row_got x) q.0 q.1

  pub told_is_by : (kind : Kind) → s.kind ≡ kind → (t : ℕ) → t < s.clients → (x : Told) → TellsBy kind k t x → x ≡ told_by s k t
  told_is_by Log l t lt told_none q = sym (told_nothing s k t lt q ∙ ap no_call l)
  told_is_by Log l t lt (told_verdict v) q =
      let number : v.number ≡ numbers k (announcements k t) = q.1 in
      let outcome : v.outcome ≡ outcome_by s k (announcements k t) = outcome_is l (announcements k t) q.0 v.outcome q.2 in
      let at : told_by s k t ≡ report_on Log s k (announcements k t) = told_of s k t lt q.0 ∙ ap (λ x. report_on x s k (announcements k t)) l in
      ap (λ n. told_verdict (record { number = n; outcome = v.outcome })) number
      ∙ ap (λ o. told_verdict (record { number = numbers k (announcements k t); outcome = o })) outcome
      ∙ sym at
  told_is_by Log l t lt (told_row o) q = absurd q
  told_is_by Durable d t lt (told_row o) q = told_row_is d t lt o q
  told_is_by Durable d t lt told_none q = absurd q
  told_is_by Durable d t lt (told_verdict v) q = absurd q

  -- a client is told one thing by the words
  pub told_one : (t : ℕ) (x : Told) → TellsOf s k t x → x ≡ told_by s k t
  told_one t x q = elim (cases_lt t s.clients) [
    | inl lt ↦ told_is_by s.kind refl t lt x (q.0 lt)
    | inr ge ↦ q.1 ge ∙ sym (told_nobody s k t ge)
  ]

  -- and so are the sixteen
  pub told_all : (told : List Told) → length told ≡ 16 → ((t : ℕ) (x : Told) → slice_get told t ≡ Some x → TellsOf s k t x) → told ≡ tells_by s k
  told_all told sixteen each =
      let at : (t : ℕ) → t ≡ 0 + t = λ t. omega arith in
      list_is (told_by s k) 0 told (λ t x e. told_one t x (each t x e) ∙ ap (told_by s k) (at t))
      ∙ ap (λ n. map (told_by s k) (range_with_len 0 n)) sixteen

-- one kept word leaves what the words tell, and what the queue holds
module _ (s : Shape) (k : Place → ℕ) (p : Place) (v : ℕ) (h : MayKeep s k p v) where
  chain_still : chain_of s (put k p v) ≡ chain_of s k
  chain_still = ap (λ (f : ℕ → ℕ). walk (greatest s) f 0) (fun_ext h.link)

  claimed_still : (e : ℕ) (ns : List ℕ) → node_claimed_by (put k p v) e ns ≡ node_claimed_by k e ns
  claimed_still e [] = refl
  claimed_still e (n ∷ ns) =
      ap (λ m. if m == e then Some n else node_claimed_by (put k p v) e ns) (h.mark n)
      ∙ ap (λ o. if marks k n == e then Some n else o) (claimed_still e ns)

  claim_still : (e : ℕ) → node_claimed_by (put k p v) e (chain_of s (put k p v)) ≡ node_claimed_by k e (chain_of s k)
  claim_still e = claimed_still e (chain_of s (put k p v)) ∙ ap (node_claimed_by k e) chain_still

  -- what a cell is, and a status, only where they tell of an empty queue
  test_still : (x y c : ℕ) → (x ≡ c → y ≡ c) → (y ≡ c → x ≡ c) → (x == c) ≡ (y == c)
  test_still x y c f g = elim (cases_eq x c) [
    | inl e ↦ eq-eqb x c e ∙ sym (eq-eqb y c (f e))
    | inr ne ↦ ne_eqb x c ne ∙ sym (ne_eqb y c (λ e. ne (g e)))
  ]

  cell_still : s.kind ≡ Durable → (e : ℕ) → (cells (put k p v) e == 1) ≡ (cells k e == 1)
  cell_still d e = test_still (cells (put k p v) e) (cells k e) 1
      (λ one. (cell_says s k (token_of e) d).0 (h.silent e ((cell_says s (put k p v) (token_of e) d).1 one)))
      (λ one. (cell_says s (put k p v) (token_of e) d).0 (h.says e ((cell_says s k (token_of e) d).1 one)))

  status_still : s.kind ≡ Log → (e : ℕ) → (statuses (put k p v) e == 2) ≡ (statuses k e == 2)
  status_still l e = test_still (statuses (put k p v) e) (statuses k e) 2
      (λ two. (status_says s k (token_of e) l).0 (h.silent e ((status_says s (put k p v) (token_of e) l).1 two)))
      (λ two. (status_says s (put k p v) (token_of e) l).0 (h.says e ((status_says s k (token_of e) l).1 two)))

  row_still : s.kind ≡ Durable → (e : ℕ) (o : Option ℕ) → row_with (put k p v) e o ≡ row_with k e o
  row_still d e (Some n) = ap row_got (may_value s k p v h n)
  row_still d e None = ap (λ (t : Bool). if t then row_empty else Open) (cell_still d e)

  dequeued_still : (o : Option ℕ) → dequeue_outcome (put k p v) o ≡ dequeue_outcome k o
  dequeued_still (Some n) = ap (λ x. Taken (Got x)) (may_value s k p v h n)
  dequeued_still None = refl

  outcome_still : s.kind ≡ Log → (e : ℕ) → outcome_by s (put k p v) e ≡ outcome_by s k e
  outcome_still l e =
      let took : enqueue_outcome (list_any (nat_eq e) (chain_of s (put k p v))) ≡ enqueue_outcome (list_any (nat_eq e) (chain_of s k)) =
      ap (λ (ns : List ℕ). enqueue_outcome (list_any (nat_eq e) ns)) chain_still in
      let got : dequeue_outcome (put k p v) (node_claimed_by (put k p v) e (chain_of s (put k p v))) ≡ dequeue_outcome k (node_claimed_by k e (chain_of s k)) =
      dequeued_still (node_claimed_by (put k p v) e (chain_of s (put k p v))) ∙ ap (dequeue_outcome k) (claim_still e) in
      choice (entry_kinds (put k p v) e == 1) (entry_kinds k e == 1) (statuses (put k p v) e == 2) (statuses k e == 2)
      (enqueue_outcome (list_any (nat_eq e) (chain_of s (put k p v)))) (enqueue_outcome (list_any (nat_eq e) (chain_of s k)))
      (dequeue_outcome (put k p v) (node_claimed_by (put k p v) e (chain_of s (put k p v)))) (dequeue_outcome k (node_claimed_by k e (chain_of s k)))
      (ap (λ x. x == 1) (h.kind e)) (status_still l e) took got
    where
      choice : (a b c d : Bool) (x y z u : Outcome) → a ≡ b → c ≡ d → x ≡ y → z ≡ u
          → (if a then x else (if c then Taken Empty else z)) ≡ (if b then y else (if d then Taken Empty else u))
      choice a b c d x y z u e f g i = cc

  announced_still : (kind : Kind) → s.kind ≡ kind → (e : ℕ) → report_on kind s (put k p v) e ≡ report_on kind s k e
  announced_still Durable d e =
      ap told_row (row_still d e (node_claimed_by (put k p v) e (chain_of s (put k p v))) ∙ ap (row_with k e) (claim_still e))
  announced_still Log l e =
      ap (λ n. told_verdict (record { number = n; outcome = outcome_by s (put k p v) e })) (h.number e)
      ∙ ap (λ o. told_verdict (record { number = numbers k e; outcome = o })) (outcome_still l e)

  told_still : (t : ℕ) → told_by s (put k p v) t ≡ told_by s k t
  told_still t =
      let same : report_on s.kind s (put k p v) (announcements (put k p v) t) ≡ report_on s.kind s k (announcements k t) =
      announced_still s.kind refl (announcements (put k p v) t) ∙ ap (report_on s.kind s k) (h.announcement t) in
      let now : Told = report_on s.kind s (put k p v) (announcements (put k p v) t) in
      ap (λ a. if nat_lt t s.clients then (if a == 0 then no_call s.kind else now) else told_none) (h.announcement t)
      ∙ ap (λ x. if nat_lt t s.clients then (if announcements k t == 0 then no_call s.kind else x) else told_none) same

  pub put_tells_still : tells_by s (put k p v) ≡ tells_by s k
  put_tells_still = ap (λ (f : ℕ → Told). map f (range_with_len 0 16)) (fun_ext told_still)

  pub put_content_still : kept_content s (put k p v) ≡ kept_content s k
  put_content_still =
      ap (λ (f : ℕ → Value). map f (filter (λ n. marks (put k p v) n == 0) (chain_of s (put k p v)))) (fun_ext (may_value s k p v h))
      ∙ ap (λ (f : ℕ → ℕ). map (values k) (filter (λ n. f n == 0) (chain_of s (put k p v)))) (fun_ext h.mark)
      ∙ ap (λ (ns : List ℕ). map (values k) (filter (λ n. marks k n == 0) ns)) chain_still
