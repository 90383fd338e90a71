-- The steps of recovery that tell each client what the kept words tell.
use Rattle.std.proofs.Common.{◌≡◌, ◌≢◌, ℕ, zero, suc, ◌+◌, ◌-◌, ◌≤◌, ◌<◌, inl, inr, List, [], ◌∷◌, ◌++◌, length, Bool, true, false, not, ◌&&◌, if◌then◌else◌, ◌==◌, Some, refl, sym, ◌∙◌, ap, subst, arith}
use Rattle.std.specs.Prelude.{slice_get, slice_set, nat_lt}
use Rattle.std.proofs.lemmas.Bool.{cases_eq, cases_lt, eqb-true, eqb-false, ltb-true, ltb-false}
use Rattle.words.specs.PlainQueue.{Value}
use Rattle.words.specs.declared.call.Client.{Client}
use Rattle.words.specs.declared.call.Kind.{Kind}
use Rattle.words.specs.declared.call.Kind.TheVariants.{Durable, Log}
use Rattle.words.specs.declared.call.Reply.TheVariants.{Done, Got, Empty}
use Rattle.words.specs.declared.call.NodeId.{NodeId}
use Rattle.words.specs.declared.call.Token.{Token}
use Rattle.words.specs.declared.told.Outcome.{Outcome}
use Rattle.words.specs.declared.told.Outcome.TheVariants.{NotTaken, Taken}
use Rattle.words.specs.declared.told.Row.{Row}
use Rattle.words.specs.declared.told.Row.TheVariants.{NoCall, Open, Empty as row_empty, Got as row_got}
use Rattle.words.specs.declared.told.Told.{Told}
use Rattle.words.specs.declared.told.Told.TheVariants.{None as told_none, Verdict as told_verdict, Row as told_row}
use Rattle.arena.specs.Answers.{result_of}
use Rattle.arena.specs.Chain.{IsChain, IsAmong}
use Rattle.arena.specs.Shape.{Shape}
use Rattle.arena.specs.Words.{links, marks, part_at, value_of, values, announcements, cells, numbers, statuses}
use Rattle.arena.specs.Words.{entry_kinds, entry_nodes}
use Rattle.arena.specs.declared.place.Part.TheVariants.{Length, First, Second, Third}
use Rattle.arena.specs.declared.place.Place.TheVariants.{Announcement, Item, Mark, Cell, Status, EntryNode}
use Rattle.stepper.specs.Loading.{part_next, loaded_with, IsLoaded}
use Rattle.stepper.specs.declared.loading.Loading.{Loading}
use Rattle.stepper.specs.declared.loading.Loading.TheVariants.{Length as at_length, First as at_first}
use Rattle.stepper.specs.declared.loading.Loading.TheVariants.{Second as at_second, Third as at_third}
use Rattle.helping.specs.Table.{token_of, node_of}
use Rattle.recover.specs.Table.{successor, node_at, token_at, to_row, got_with, removed_with, taken_as, not_taken_as}
use Rattle.recover.specs.Table.{report_of, to_answer, to_outcome}
use Rattle.words.specs.Told.{no_call}
use Rattle.stepper.specs.declared.resume.After.TheVariants.{More, Done as Ready}
use Rattle.recover.specs.declared.point.RecoveryPoint.{RecoveryPoint}
use Rattle.recover.specs.declared.point.RecoveryPoint.TheVariants.{RecoveryLoadAnnouncement, RecoveryLoadStatus}
use Rattle.recover.specs.declared.point.RecoveryPoint.TheVariants.{RecoveryLoadRemove, RecoveryLoadEntryNode}
use Rattle.recover.specs.declared.point.RecoveryPoint.TheVariants.{RecoveryLoadRemovedItem, RecoveryLoadGot}
use Rattle.protocol.specs.Machine.{Memory}
use Rattle.protocol.specs.Kept.{OutcomeBy, RowBy, TellsBy, TellsOf}
use Rattle.protocol.specs.Recovered.{end_of}
use Rattle.arena.proofs.Facts.{in_left, not_again}
use Rattle.protocol.proofs.chain.Chains.{in_chain, in_parts, linked_by, in_end_of}
use Rattle.protocol.specs.invariants.Records.{IsPath, IsAnswered, AnsweredTo, IsEntry}
use Rattle.protocol.specs.invariants.Sound.{memory_at_rest, Sound}
use Rattle.protocol.specs.invariants.Recovery.{Same, Telling, Announced, AtPoint}
use Rattle.protocol.proofs.recovery.RecoveryEnds.{RecoversAt, RecoversNext, RecoversOn}

-- one item of a list is another
get_set_same : {X : Type 0} (xs : List X) (i : ℕ) (v x : X) → slice_get (slice_set xs i v) i ≡ Some x → x ≡ v
get_set_same [] i v x e = absurd (cc)
get_set_same (y ∷ ys) zero v x e = cc
get_set_same (y ∷ ys) (suc i) v x e = get_set_same ys i v x e

get_set_other : {X : Type 0} (xs : List X) (i : ℕ) (v : X) (t : ℕ) → t ≢ i → slice_get (slice_set xs i v) t ≡ slice_get xs t
get_set_other [] i v t ne = refl
get_set_other (y ∷ ys) zero v zero ne = absurd (ne refl)
get_set_other (y ∷ ys) zero v (suc t) ne = refl
get_set_other (y ∷ ys) (suc i) v zero ne = refl
get_set_other (y ∷ ys) (suc i) v (suc t) ne = get_set_other ys i v t (λ e. ne (ap suc e))

length_set : {X : Type 0} (xs : List X) (i : ℕ) (v : X) → length (slice_set xs i v) ≡ length xs
length_set [] i v = refl
length_set (y ∷ ys) zero v = refl
length_set (y ∷ ys) (suc i) v = ap suc (length_set ys i v)

-- a path along a chain is a part of it: up to the last node of the chain's first part it is that part
path_covers : (k : ℕ → ℕ) (from : ℕ) (ns xs ys : List ℕ) → IsPath k from ns → IsChain k from (xs ++ ys) → end_of from ns ≡ end_of from xs → (n : ℕ) → IsAmong n xs → IsAmong n ns
path_covers k from ns [] ys p c e n i = absurd i
path_covers k from [] (x ∷ xs) ys p c e n i = absurd (again from x xs ys c e)
  where
    again : (from x : ℕ) (xs ys : List ℕ) → IsChain k from (x ∷ xs ++ ys) → from ≡ end_of x xs → ⊥
    again from x xs ys c e = not_again k from (x ∷ xs ++ ys) c (in_left from (x ∷ xs) ys (subst (λ y. IsAmong y (x ∷ xs)) (sym e) (in_end_of x xs)))
path_covers k from (m ∷ ns) (x ∷ xs) ys p c e n i =
    let same : m ≡ x = sym p.0 ∙ c.0 in
    elim i [
      | inl q ↦ inl (q ∙ sym same)
      | inr q ↦ inr (path_covers k m ns xs ys p.2 (subst (λ y. IsChain k y (xs ++ ys)) (sym same) c.2) (e ∙ ap (λ y. end_of y xs) (sym same)) n q)
    ]

module _ (s : Shape) (m : Memory) (claimed waiting : List ℕ) (queue : List Value) (b : Sound s m.kept claimed waiting queue) where
  -- every claimed node is answered
  pub all_answered : AnsweredTo s (memory_at_rest m.kept) (end_of 0 claimed) → (n : ℕ) → IsAmong n claimed → IsAnswered s (memory_at_rest m.kept) n
  all_answered a n i = a.answered n (path_covers (links m.kept) 0 a.passed claimed waiting a.path b.chain (sym a.at) n i)

  -- the client is told, and the next one comes
  pub tell : (client : Client) (told : List Told) (x : Told) → Same m → Telling s m.kept claimed waiting client.0 told → TellsBy s.kind m.kept client.0 x → RecoversOn s m claimed waiting queue told (report_of client x)
  tell client told x same t right = go (nat_lt (client.0 + 1) s.clients) refl
    where
      here : TellsOf s m.kept client.0 x
      here = (λ lt. right, λ ge. absurd (omega (arith, ge, t.below)))

      before : (i : ℕ) (y : Told) → i < client.0 + 1 → slice_get (slice_set told client.0 x) i ≡ Some y → TellsOf s m.kept i y
      before i y lt e = elim (cases_eq i client.0) [
        | inl q ↦
            let at : slice_get (slice_set told client.0 x) client.0 ≡ Some y = subst (λ j. slice_get (slice_set told client.0 x) j ≡ Some y) q e in
            subst (λ z. TellsOf s m.kept i z) (sym (get_set_same told client.0 x y at)) (subst (λ j. TellsOf s m.kept j x) (sym q) here)
        | inr ne ↦ t.so_far i y (omega (arith, lt, ne)) (sym (get_set_other told client.0 x i ne) ∙ e)
      ]

      after : (i : ℕ) (y : Told) → client.0 + 1 ≤ i → slice_get (slice_set told client.0 x) i ≡ Some y → y ≡ told_none
      after i y le e = let ne : i ≢ client.0 = λ q. absurd (omega (arith, le, q)) in t.rest i y (omega (arith, le)) (sym (get_set_other told client.0 x i ne) ∙ e)

      go : (c : Bool) → nat_lt (client.0 + 1) s.clients ≡ c
          → RecoversNext s m claimed waiting queue
          (if c then More (record { told = slice_set told client.0 x; at = RecoveryLoadAnnouncement (record { client = record { 0 = client.0 + 1 } }) })
          else Ready (slice_set told client.0 x))
      go true e = record {
        sound = b;
        at = record {
          untold = tt;
          point = (
            same,
            record {
              head = t.head;
              tail = t.tail;
              all = t.all;
              taken = t.taken;
              below = ltb-true (client.0 + 1) s.clients e;
              sixteen = length_set told client.0 x ∙ t.sixteen;
              so_far = before;
              rest = after;
            },
          );
        };
      }
      go false e = record {
        sound = b;
        same = same;
        head = t.head;
        tail = t.tail;
        all = t.all;
        taken = t.taken;
        sixteen = length_set told client.0 x ∙ t.sixteen;
        tells = λ i y f. elim (cases_lt i (client.0 + 1)) [
          | inl lt ↦ before i y lt f
          | inr ge ↦
              let few : s.clients ≤ client.0 + 1 = ltb-false (client.0 + 1) s.clients e in
              (λ lt. absurd (omega (arith, lt, ge, few)), λ more. after i y ge f)
        ];
      }

  more : (told : List Told) (at : RecoveryPoint) → AtPoint s m claimed waiting told at → RecoversAt s m claimed waiting queue told at
  more told at a = record { sound = b; at = a }

  pub row_LoadAnnouncement : (client : Client) (told : List Told) → Same m → Telling s m.kept claimed waiting client.0 told
      → RecoversOn s m claimed waiting queue told (successor s (RecoveryLoadAnnouncement (record { client = client })) (m.cached (Announcement client)))
  row_LoadAnnouncement client told same t = go (m.cached (Announcement client) == 0) refl
    where
      is : announcements m.kept client.0 ≡ m.cached (Announcement client)
      is = sym (same (Announcement client))

      none : (kind : Kind) → announcements m.kept client.0 ≡ 0 → TellsBy kind m.kept client.0 (no_call kind)
      none Durable z = z
      none Log z = z

      onward : (token : Token) → announcements m.kept client.0 ≡ token.0 → token.0 ≢ 0 → (kind : Kind) → s.kind ≡ kind → RecoversAt s m claimed waiting queue told (to_answer kind client token)
      onward token at some Durable e = more told (to_answer Durable client token) (same, t, record { names = at; some = some }, e)
      onward token at some Log e = more told (to_answer Log client token) (same, t, record { names = at; some = some }, e)

      go : (c : Bool) → (m.cached (Announcement client) == 0) ≡ c
          → RecoversOn s m claimed waiting queue told (if c then report_of client (no_call s.kind) else More (to_answer s.kind client (token_at (m.cached (Announcement client)))))
      go true e = tell client told (no_call s.kind) same t (none s.kind (is ∙ eqb-true (m.cached (Announcement client)) 0 e))
      go false e = onward (token_at (m.cached (Announcement client))) is (eqb-false (m.cached (Announcement client)) 0 e) s.kind refl

  -- what a row says is what its client is told
  row_right : (client : Client) (token : ℕ) (row : Row) → Announced m.kept client.0 token → s.kind ≡ Durable → (row ≢ NoCall) → RowBy m.kept token row → TellsBy s.kind m.kept client.0 (told_row row)
  row_right client token row a k some h =
      subst (λ q. TellsBy q m.kept client.0 (told_row row)) (sym k) (go row some (subst (λ e. RowBy m.kept e row) (sym a.names) h))
    where
      go : (row : Row) → (row ≢ NoCall) → RowBy m.kept (announcements m.kept client.0) row → TellsBy Durable m.kept client.0 (told_row row)
      go NoCall some h = absurd (some refl)
      go Open some h = (λ z. a.some (sym a.names ∙ z), h)
      go row_empty some h = (λ z. a.some (sym a.names ∙ z), h)
      go (row_got v) some h = (λ z. a.some (sym a.names ∙ z), h)

  -- what a cell says
  pub row_LoadCell : (client : Client) (token : Token) (told : List Told) → Same m → Telling s m.kept claimed waiting client.0 told → Announced m.kept client.0 token.0 → s.kind ≡ Durable
      → RecoversOn s m claimed waiting queue told (to_row client (m.cached (Cell token)))
  row_LoadCell client token told same t a k = go (m.cached (Cell token) == 0) refl (m.cached (Cell token) == 1) refl
    where
      is : cells m.kept token.0 ≡ m.cached (Cell token)
      is = sym (same (Cell token))

      -- a claimed node is named in its cell
      result : (at : ℕ) → marks m.kept at ≡ token.0 → cells m.kept token.0 ≡ at + 2
      result at q =
          let claimed_now : IsAmong at claimed = b.back at (λ z. a.some (sym q ∙ z)) in
          let ans : IsAnswered s (memory_at_rest m.kept) at = all_answered t.all at claimed_now in
          subst (λ x. m.kept (Cell (token_of x)) ≡ at + 2) q (subst (λ x. m.kept (result_of x (token_of (marks m.kept at)) (node_of at)).place ≡ (result_of x (token_of (marks m.kept at)) (node_of at)).value) k ans.0)

      go : (z : Bool) → (m.cached (Cell token) == 0) ≡ z → (o : Bool) → (m.cached (Cell token) == 1) ≡ o
          → RecoversOn s m claimed waiting queue told (if z then report_of client (told_row Open) else (if o then report_of client (told_row row_empty)
          else More (RecoveryLoadGot (record { client = client; node = node_at (m.cached (Cell token) - 2); loading = at_length }))))
      go true e o f =
          let zero_now : cells m.kept token.0 ≡ 0 = is ∙ eqb-true (m.cached (Cell token)) 0 e in
          tell client told (told_row Open) same t
          (row_right client token.0 Open a k (λ q. cc) (λ one. absurd (omega (arith, zero_now, one)), λ at q. absurd (omega (arith, zero_now, result at q))))
      go false e true f = tell client told (told_row row_empty) same t (row_right client token.0 row_empty a k (λ q. cc) (is ∙ eqb-true (m.cached (Cell token)) 1 f))
      go false e false f =
          let some : cells m.kept token.0 ≢ 0 = λ z. eqb-false (m.cached (Cell token)) 0 e (sym is ∙ z) in
          let other : cells m.kept token.0 ≢ 1 = λ z. eqb-false (m.cached (Cell token)) 1 f (sym is ∙ z) in
          let q : record { at : ℕ; named : marks m.kept at ≡ token.0; some : token.0 ≢ 0; value : cells m.kept token.0 ≡ at + 2 } = (b.records queue).cell token.0 some other in
          let node : m.cached (Cell token) - 2 ≡ q.at = omega (arith, q.value, is) in
          more told (RecoveryLoadGot (record { client = client; node = node_at (m.cached (Cell token) - 2); loading = at_length }))
          (same, t, k, tt, record { token = token.0; announced = a; marked = ap (marks m.kept) node ∙ q.named })

  -- a message whose parts were loaded
  loaded_value : (node : NodeId) (len one two : ℕ) → Same m → IsLoaded m.kept node.0 (at_third len one two) → values m.kept node.0 ≡ value_of len one two (part_at m.cached node.0 Third)
  loaded_value node len one two same h = rw (h.0, h.1, h.2, sym (same (Item node Third))) refl

  pub row_LoadGot : (client : Client) (node : NodeId) (loading : Loading) (told : List Told) → AtPoint s m claimed waiting told (RecoveryLoadGot (record { client = client; node = node; loading = loading }))
      → RecoversOn s m claimed waiting queue told (got_with (record { client = client; node = node; loading = loading }) (loaded_with loading (m.cached (Item node (part_next loading)))))
  row_LoadGot client node at_length told h =
      more told (RecoveryLoadGot (record { client = client; node = node; loading = at_first (part_at m.cached node.0 Length) }))
      (h.0, h.1, h.2, sym (h.0 (Item node Length)), h.4)
  row_LoadGot client node (at_first len) told h =
      more told (RecoveryLoadGot (record { client = client; node = node; loading = at_second len (part_at m.cached node.0 First) }))
      (h.0, h.1, h.2, (h.3, sym (h.0 (Item node First))), h.4)
  row_LoadGot client node (at_second len one) told h =
      more told (RecoveryLoadGot (record { client = client; node = node; loading = at_third len one (part_at m.cached node.0 Second) }))
      (h.0, h.1, h.2, (h.3.0, h.3.1, sym (h.0 (Item node Second))), h.4)
  row_LoadGot client node (at_third len one two) told h =
      let value : Value = value_of len one two (part_at m.cached node.0 Third) in
      tell client told (told_row (row_got (value_of len one two (part_at m.cached node.0 Third)))) h.0 h.1
      (row_right client h.4.token (row_got (value_of len one two (part_at m.cached node.0 Third))) h.4.announced h.2 (λ q. cc)
      (record { at = node.0; marked = h.4.marked; value = loaded_value node len one two h.0 h.3 }))

  -- an outcome by the entry's words is what its client is told
  pub verdict_right : (client : Client) (token : ℕ) (number : ℕ) (o : Outcome) → Announced m.kept client.0 token → s.kind ≡ Log → number ≡ numbers m.kept token → OutcomeBy m.kept token o
      → TellsBy s.kind m.kept client.0 (told_verdict (record { number = number; outcome = o }))
  verdict_right client token number o a k n h =
      let right : TellsBy Log m.kept client.0 (told_verdict (record { number = number; outcome = o })) =
      (λ z. a.some (sym a.names ∙ z), n ∙ ap (numbers m.kept) (sym a.names), subst (λ e. OutcomeBy m.kept e o) (sym a.names) h) in
      subst (λ q. TellsBy q m.kept client.0 (told_verdict (record { number = number; outcome = o }))) (sym k) right

  pub row_LoadStatus : (client : Client) (token : Token) (told : List Told) (number : ℕ) (is_enqueue : Bool) → Same m → Telling s m.kept claimed waiting client.0 told → Announced m.kept client.0 token.0 → s.kind ≡ Log → number ≡ numbers m.kept token.0
      → is_enqueue ≡ (entry_kinds m.kept token.0 == 1)
      → RecoversOn s m claimed waiting queue told (successor s (RecoveryLoadStatus (record { client = client; token = token; number = number; is_enqueue = is_enqueue })) (m.cached (Status token)))
  row_LoadStatus client token told number is_enqueue same t a k n q = go is_enqueue q (m.cached (Status token) == 1) refl (m.cached (Status token) == 2) refl
    where
      is : statuses m.kept token.0 ≡ m.cached (Status token)
      is = sym (same (Status token))

      go : (e : Bool) → e ≡ (entry_kinds m.kept token.0 == 1) → (o : Bool) → (m.cached (Status token) == 1) ≡ o → (w : Bool) → (m.cached (Status token) == 2) ≡ w
          → RecoversOn s m claimed waiting queue told (if e && o then report_of client (taken_as number Done)
          else (if (not e) && w then report_of client (taken_as number Empty)
          else More (to_outcome e client token number)))
      go true e true o w f =
          let one : statuses m.kept token.0 ≡ 1 = is ∙ eqb-true (m.cached (Status token)) 1 o in
          let q : record { at : ℕ; linked : links m.kept at ≡ token.0; some : token.0 ≢ 0 } = ((b.records queue).status token.0).taken one in
          tell client told (taken_as number Done) same t (verdict_right client token.0 number (Taken Done) a k n (eqb-true (entry_kinds m.kept token.0) 1 (sym e), record { at = q.at; linked = q.linked }))
      go true e false o w f = more told (to_outcome true client token number) (same, t, a, k, n, eqb-true (entry_kinds m.kept token.0) 1 (sym e), λ z. eqb-false (m.cached (Status token)) 1 o (sym is ∙ z))
      go false e o g true f =
          tell client told (taken_as number Empty) same t (verdict_right client token.0 number (Taken Empty) a k n (eqb-false (entry_kinds m.kept token.0) 1 (sym e), is ∙ eqb-true (m.cached (Status token)) 2 f))
      go false e o g false f = more told (to_outcome false client token number) (same, t, a, k, n, eqb-false (entry_kinds m.kept token.0) 1 (sym e), λ z. eqb-false (m.cached (Status token)) 2 f (sym is ∙ z))

  pub row_LoadRemove : (client : Client) (token : Token) (told : List Told) (number : ℕ) → AtPoint s m claimed waiting told (RecoveryLoadRemove (record { client = client; token = token; number = number }))
      → RecoversOn s m claimed waiting queue told (report_of client (if m.cached (Mark (node_at token.0)) == 0 then not_taken_as number else taken_as number Done))
  row_LoadRemove client token told number h = go (m.cached (Mark (node_at token.0)) == 0) refl
    where
      is : marks m.kept token.0 ≡ m.cached (Mark (node_at token.0))
      is = sym (h.0 (Mark (node_at token.0)))

      go : (c : Bool) → (m.cached (Mark (node_at token.0)) == 0) ≡ c → RecoversOn s m claimed waiting queue told (report_of client (if c then not_taken_as number else taken_as number Done))
      go true e = tell client told (not_taken_as number) h.0 h.1 (verdict_right client token.0 number NotTaken h.2 h.3 h.4 (
        λ one at q.
            let on : IsAmong (links m.kept at) (claimed ++ waiting) =
            in_chain (links m.kept) 0 (claimed ++ waiting) at b.chain (b.on_chain at (λ z. h.2.some (sym q ∙ z))) (λ z. h.2.some (sym q ∙ z)) in
            elim (in_parts token.0 claimed waiting (subst (λ x. IsAmong x (claimed ++ waiting)) q on)) [
              | inl i ↦ b.on token.0 i (is ∙ eqb-true (m.cached (Mark (node_at token.0))) 0 e)
              | inr i ↦ h.6 (h.1.taken h.3 token.0 i)
            ],
        λ ne. absurd (ne h.5),
      ))
      go false e =
          let marked : marks m.kept token.0 ≢ 0 = λ z. eqb-false (m.cached (Mark (node_at token.0))) 0 e (sym is ∙ z) in
          let p : (p : ℕ) × (links m.kept p ≡ token.0) × (token.0 ≢ 0) = linked_by (links m.kept) 0 (claimed ++ waiting) b.chain token.0 (in_left token.0 claimed waiting (b.back token.0 marked)) in
          tell client told (taken_as number Done) h.0 h.1 (verdict_right client token.0 number (Taken Done) h.2 h.3 h.4 (h.5, record { at = p.0; linked = p.1 }))

  -- an announced entry that is not an enqueue's is a dequeue's
  pub dequeue_entry : (client : Client) (token : Token) → Announced m.kept client.0 token.0 → s.kind ≡ Log → entry_kinds m.kept token.0 ≢ 1 → entry_kinds m.kept token.0 ≡ 2
  dequeue_entry client token a log other =
      let entry : IsEntry (memory_at_rest m.kept) (announcements m.kept client.0) = (b.records queue).entry log client.0 (λ z. a.some (sym a.names ∙ z)) in
      elim entry.kind [
        | inl q ↦ absurd (other (ap (entry_kinds m.kept) (sym a.names) ∙ q.0.0))
        | inr q ↦ ap (entry_kinds m.kept) (sym a.names) ∙ q.0
      ]

  pub row_LoadEntryNode : (client : Client) (token : Token) (told : List Told) (number : ℕ) → AtPoint s m claimed waiting told (RecoveryLoadEntryNode (record { client = client; token = token; number = number }))
      → RecoversOn s m claimed waiting queue told (successor s (RecoveryLoadEntryNode (record { client = client; token = token; number = number })) (m.cached (EntryNode token)))
  row_LoadEntryNode client token told number h = go (m.cached (EntryNode token) == 0) refl
    where
      is : entry_nodes m.kept token.0 ≡ m.cached (EntryNode token)
      is = sym (h.0 (EntryNode token))

      kind : entry_kinds m.kept token.0 ≡ 2
      kind = dequeue_entry client token h.2 h.3 h.5

      result : (at : ℕ) → marks m.kept at ≡ token.0 → entry_nodes m.kept token.0 ≡ at
      result at q =
          let claimed_now : IsAmong at claimed = b.back at (λ z. h.2.some (sym q ∙ z)) in
          let ans : IsAnswered s (memory_at_rest m.kept) at = all_answered h.1.all at claimed_now in
          subst (λ x. m.kept (EntryNode (token_of x)) ≡ at) q (subst (λ x. m.kept (result_of x (token_of (marks m.kept at)) (node_of at)).place ≡ (result_of x (token_of (marks m.kept at)) (node_of at)).value) h.3 ans.0)

      go : (c : Bool) → (m.cached (EntryNode token) == 0) ≡ c → RecoversOn s m claimed waiting queue told (if c then report_of client (not_taken_as number)
          else More (RecoveryLoadRemovedItem (record { client = client; number = number; node = node_at (m.cached (EntryNode token)); loading = at_length })))
      go true e = tell client told (not_taken_as number) h.0 h.1 (verdict_right client token.0 number NotTaken h.2 h.3 h.4 (
        λ one. absurd (h.5 one),
        λ ne. (
          h.6,
          λ at q.
              let zero_now : at ≡ 0 = sym (result at q) ∙ is ∙ eqb-true (m.cached (EntryNode token)) 0 e in
              let claimed_now : IsAmong at claimed = b.back at (λ z. h.2.some (sym q ∙ z)) in
              (linked_by (links m.kept) 0 (claimed ++ waiting) b.chain at (in_left at claimed waiting claimed_now)).2 zero_now,
        ),
      ))
      go false e =
          let some : entry_nodes m.kept token.0 ≢ 0 = λ z. eqb-false (m.cached (EntryNode token)) 0 e (sym is ∙ z) in
          let marked : (marks m.kept (entry_nodes m.kept token.0) ≡ token.0) × (token.0 ≢ 0) = (b.records queue).node token.0 (inl kind) some in
          more told (RecoveryLoadRemovedItem (record { client = client; number = number; node = node_at (m.cached (EntryNode token)); loading = at_length })) (
            h.0,
            h.1,
            h.3,
            tt,
            record { token = token.0; announced = h.2; number = h.4; kind = h.5; marked = ap (marks m.kept) (sym is) ∙ marked.0 },
          )

  pub row_LoadRemovedItem : (client : Client) (number : ℕ) (node : NodeId) (loading : Loading) (told : List Told)
      → AtPoint s m claimed waiting told (RecoveryLoadRemovedItem (record { client = client; number = number; node = node; loading = loading }))
      → RecoversOn s m claimed waiting queue told (removed_with (record { client = client; number = number; node = node; loading = loading }) (loaded_with loading (m.cached (Item node (part_next loading)))))
  row_LoadRemovedItem client number node at_length told h =
      more told (RecoveryLoadRemovedItem (record { client = client; number = number; node = node; loading = at_first (part_at m.cached node.0 Length) }))
      (h.0, h.1, h.2, sym (h.0 (Item node Length)), h.4)
  row_LoadRemovedItem client number node (at_first len) told h =
      more told (RecoveryLoadRemovedItem (record { client = client; number = number; node = node; loading = at_second len (part_at m.cached node.0 First) }))
      (h.0, h.1, h.2, (h.3, sym (h.0 (Item node First))), h.4)
  row_LoadRemovedItem client number node (at_second len one) told h =
      more told (RecoveryLoadRemovedItem (record { client = client; number = number; node = node; loading = at_third len one (part_at m.cached node.0 Second) }))
      (h.0, h.1, h.2, (h.3.0, h.3.1, sym (h.0 (Item node Second))), h.4)
  row_LoadRemovedItem client number node (at_third len one two) told h =
      tell client told (taken_as number (Got (value_of len one two (part_at m.cached node.0 Third)))) h.0 h.1
      (verdict_right client h.4.token number (Taken (Got (value_of len one two (part_at m.cached node.0 Third)))) h.4.announced h.2 h.4.number
      (h.4.kind, record { at = node.0; marked = h.4.marked; value = loaded_value node len one two h.0 h.3 }))
