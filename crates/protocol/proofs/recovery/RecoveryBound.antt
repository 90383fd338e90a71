-- How many steps recovery takes at most.
use Rattle.std.proofs.Common.{◌≡◌, ◌≢◌, ℕ, zero, suc, ◌+◌, ◌-◌, ◌*◌, ◌≤◌, ◌<◌, inl, inr, List, [], ◌∷◌, ◌++◌, length, Bool, true, false, not, ◌&&◌, if◌then◌else◌, ◌==◌, Option, Some, None, nat_lt, refl, sym, ◌∙◌, ap, subst, arith}
use Rattle.std.specs.Prelude.{slice_set}
use Rattle.std.proofs.lemmas.Bool.{eqb-false}
use Rattle.words.specs.PlainQueue.{Value}
use Rattle.words.specs.declared.call.Kind.{Kind}
use Rattle.words.specs.declared.call.Kind.TheVariants.{Durable, Log}
use Rattle.words.specs.declared.call.Client.{Client}
use Rattle.words.specs.declared.call.NodeId.{NodeId}
use Rattle.words.specs.declared.call.Token.{Token}
use Rattle.words.specs.declared.call.Reply.TheVariants.{Done, Got, Empty}
use Rattle.words.specs.declared.told.Told.{Told}
use Rattle.words.specs.declared.told.Row.TheVariants.{Open, Empty as row_empty, Got as row_got}
use Rattle.words.specs.declared.told.Told.TheVariants.{Row as told_row}
use Rattle.arena.specs.Chain.{IsChain, IsAmong, walk}
use Rattle.arena.specs.Shape.{Shape, greatest}
use Rattle.arena.specs.Words.{links, value_of}
use Rattle.stepper.specs.Loading.{part_next, loaded_with, parts_left}
use Rattle.stepper.specs.declared.loading.Loading.{Loading}
use Rattle.stepper.specs.declared.loading.Loading.TheVariants.{Length as at_length, First as at_first}
use Rattle.stepper.specs.declared.loading.Loading.TheVariants.{Second as at_second, Third as at_third}
use Rattle.protocol.proofs.calls.Bound.{loading_most}
use Rattle.arena.specs.declared.place.Place.{Place}
use Rattle.arena.specs.declared.place.Place.TheVariants.{Head, Announcement, Item, Next, Mark, Cell, Status, EntryNode}
use Rattle.helping.specs.Table.{node_of}
use Rattle.stepper.specs.Step.{place_of}
use Rattle.recover.specs.Table.{access_of, successor, boot_recovery, to_answer, to_outcome, to_row, got_with}
use Rattle.recover.specs.Table.{removed_with, taken_as, not_taken_as, report_of, after_report, recovery_at}
use Rattle.words.specs.Told.{no_call}
use Rattle.recover.specs.Table.{recovery_after, node_at, token_at, point_at_the_end, point_past_status, to_node}
use Rattle.recover.specs.Table.{past_head}
use Rattle.stepper.specs.declared.resume.After.TheVariants.{More, Done as Ready}
use Rattle.recover.specs.declared.recovery.Recovery.{Recovery}
use Rattle.recover.specs.declared.point.RecoveryPoint.{RecoveryPoint}
use Rattle.recover.specs.declared.point.Report.{Report}
use Rattle.recover.specs.declared.point.RecoveryPoint.TheVariants.{RecoveryLoadHead, RecoveryLoadNext}
use Rattle.recover.specs.declared.point.RecoveryPoint.TheVariants.{RecoveryLoadInsert, RecoveryStoreStatus}
use Rattle.recover.specs.declared.point.RecoveryPoint.TheVariants.{RecoveryLoadMark, RecoveryStoreResult}
use Rattle.recover.specs.declared.point.RecoveryPoint.TheVariants.{RecoveryStoreHead, RecoveryStoreTail}
use Rattle.recover.specs.declared.point.RecoveryPoint.TheVariants.{RecoveryLoadAnnouncement, RecoveryLoadCell}
use Rattle.recover.specs.declared.point.RecoveryPoint.TheVariants.{RecoveryLoadGot, RecoveryLoadNumber}
use Rattle.recover.specs.declared.point.RecoveryPoint.TheVariants.{RecoveryLoadKind, RecoveryLoadStatus}
use Rattle.recover.specs.declared.point.RecoveryPoint.TheVariants.{RecoveryLoadRemove, RecoveryLoadEntryNode}
use Rattle.recover.specs.declared.point.RecoveryPoint.TheVariants.{RecoveryLoadRemovedItem, Flush as FlushPoint}
use Rattle.recover.specs.declared.point.RecoveryPoint.TheVariants.{Fence as FencePoint}
use Rattle.words.specs.declared.limits.TheConstants.{STEPS_PER_RECORD}
use Rattle.stepper.specs.Steps.{keep_steps, load_steps}
use Rattle.recover.specs.declared.keeping.RecoveryKeeping.{RecoveryKeeping}
use Rattle.recover.specs.declared.keeping.RecoveryKeeping.TheVariants.{Status as KeepStatus, Result as KeepResult}
use Rattle.recover.specs.declared.keeping.RecoveryKeeping.TheVariants.{Head as KeepHead, Tail as KeepTail}
use Rattle.stepper.specs.declared.resume.After.{After}
use Rattle.protocol.specs.Machine.{Memory, with_access}
use Rattle.protocol.specs.Measure.{most_steps, rest, steps_beyond, steps_on_arrival, steps_onward, steps_to_tell}
use Rattle.protocol.specs.Measure.{steps_to_tell_all, weight}
use Rattle.arena.proofs.Facts.{distinct, rest_of}
use Rattle.protocol.proofs.chain.Chains.{chain_like, few, linked_by, walked}
use Rattle.protocol.specs.invariants.Sound.{Sound}
use Rattle.protocol.specs.invariants.Recovery.{Same, SameBut, Ahead, At, AtKeeping, AtPoint}

-- recovery has ended, or the number is less
abbrev pub IsLess : Shape → (Place → ℕ) → After Recovery (List Told) → ℕ → Type 0
IsLess s c (More r) n = weight s c r.at < n
IsLess s c (Ready told) n = Unit {0}

-- the same of a point's step, where this was told
abbrev pub IsLessOn : Shape → (Place → ℕ) → List Told → After RecoveryPoint Report → ℕ → Type 0
IsLessOn s c told (More at) n = weight s c at < n
IsLessOn s c told (Ready report) n = IsLess s c (after_report s told report) n

less_at : (s : Shape) (c : Place → ℕ) (told : List Told) (n : ℕ) (next : After RecoveryPoint Report) → IsLessOn s c told next n → IsLess s c (recovery_at s told next) n
less_at s c told n (More at) h = h
less_at s c told n (Ready report) h = h

walk_most : (fuel : ℕ) (link : ℕ → ℕ) (n : ℕ) → length (walk fuel link n) ≤ fuel
walk_most zero link n = omega arith
walk_most (suc fuel) link n = go (link n == 0) (walk_most fuel link (link n))
  where
    go : (c : Bool) → length (walk fuel link (link n)) ≤ fuel → length (if c then [] else link n ∷ walk fuel link (link n)) ≤ suc fuel
    go true h = omega arith
    go false h = omega (arith, h)

-- the part of a chain behind a node, or behind its beginning
tail_chain : (link : ℕ → ℕ) (from : ℕ) (ns : List ℕ) → IsChain link from ns → (n : ℕ) → IsAmong n (from ∷ ns) → record { ms : List ℕ; chain : IsChain link n ms; short : length ms ≤ length ns }
tail_chain link from ns c n (inl e) = record { ms = ns; chain = subst (λ x. IsChain link x ns) (sym e) c; short = omega arith }
tail_chain link from ns c n (inr h) =
    let r : (ms : List ℕ) × (IsChain link n ms) × (length ms < length ns) = rest_of link from ns c n h in
    record { ms = r.0; chain = r.1; short = omega (arith, r.2) }

module _ (s : Shape) (m : Memory) (claimed waiting : List ℕ) (queue : List Value) (b : Sound s m.kept claimed waiting queue) where
  chain_short : length (claimed ++ waiting) ≤ greatest s
  chain_short =
      few (claimed ++ waiting) (greatest s) (distinct (links m.kept) 0 (claimed ++ waiting) b.chain)
      (λ h. (linked_by (links m.kept) 0 (claimed ++ waiting) b.chain 0 h).2 refl)
      (λ q h.
      let p : (p : ℕ) × (links m.kept p ≡ q) × (q ≢ 0) = linked_by (links m.kept) 0 (claimed ++ waiting) b.chain q h in
      subst (λ x. x ≤ greatest s) p.1 (b.fits (Next (node_of p.0)) tt))

  -- a node that has a next has one more behind it
  rest_next : ((x : ℕ) → links m.cached x ≡ links m.kept x) → (n : ℕ) → links m.cached n ≢ 0 → rest s (links m.cached) n ≡ suc (rest s (links m.cached) (links m.cached n))
  rest_next same n some = go t.ms t.chain t.short
    where
      t : record { ms : List ℕ; chain : IsChain (links m.kept) n ms; short : length ms ≤ length (claimed ++ waiting) }
      t = tail_chain (links m.kept) 0 (claimed ++ waiting) b.chain n (b.on_chain n (λ z. some (same n ∙ z)))

      go : (ms : List ℕ) → IsChain (links m.kept) n ms → length ms ≤ length (claimed ++ waiting) → rest s (links m.cached) n ≡ suc (rest s (links m.cached) (links m.cached n))
      go [] c l = absurd (some (same n ∙ c))
      go (x ∷ xs) c l =
          let d : IsChain (links m.cached) n (x ∷ xs) = chain_like (links m.kept) (links m.cached) n (x ∷ xs) same c in
          let all : walk (greatest s) (links m.cached) n ≡ x ∷ xs = walked (links m.cached) (greatest s) n (x ∷ xs) d (omega (arith, l, chain_short)) in
          let later : walk (greatest s) (links m.cached) x ≡ xs = walked (links m.cached) (greatest s) x xs d.2 (omega (arith, l, chain_short)) in
          ap length all ∙ ap suc (ap length (sym later) ∙ ap (rest s (links m.cached)) (sym d.0))

  -- the next client is told
  told_less : (client : Client) (told : List Told) (x : Told) (n : ℕ) → client.0 < s.clients → steps_to_tell s client.0 ≤ n + 8 → IsLessOn s m.cached told (report_of client x) n
  told_less client told x n lt le = go (nat_lt (client.0 + 1) s.clients)
    where
      go : (c : Bool) → IsLess s m.cached
          (if c then More (record { told = slice_set told client.0 x; at = RecoveryLoadAnnouncement (record { client = record { 0 = client.0 + 1 } }) })
          else Ready (slice_set told client.0 x)) n
      go true = omega (arith, lt, le)
      go false = tt

  -- the table's steps
  next_less : Same m → (told : List Told) (cur : NodeId) (moved : Bool) → IsLessOn s m.cached told (successor s (RecoveryLoadNext (record { cur = cur; moved = moved })) (m.cached (Next cur))) (weight s m.cached (RecoveryLoadNext (record { cur = cur; moved = moved })))
  next_less same told cur moved = go (m.cached (Next cur) == 0) refl
    where
      ended : (moved : Bool) → weight s m.cached (point_at_the_end cur moved) < weight s m.cached (RecoveryLoadNext (record { cur = cur; moved = moved }))
      ended true = omega arith
      ended false = omega arith

      on : (n : NodeId) → rest s (links m.cached) cur.0 ≡ suc (rest s (links m.cached) n.0) → (kind : Kind) (moved : Bool) → weight s m.cached (to_node kind cur n moved) < weight s m.cached (RecoveryLoadNext (record { cur = cur; moved = moved }))
      on n e Durable true = omega (arith, e)
      on n e Durable false = omega (arith, e)
      on n e Log true = omega (arith, e)
      on n e Log false = omega (arith, e)

      go : (c : Bool) → (m.cached (Next cur) == 0) ≡ c → weight s m.cached (if c then point_at_the_end cur moved else to_node s.kind cur (node_at (m.cached (Next cur))) moved) < weight s m.cached (RecoveryLoadNext (record { cur = cur; moved = moved }))
      go true e = ended moved
      go false e = on (node_at (m.cached (Next cur))) (rest_next (λ x. same (Next (node_of x))) cur.0 (eqb-false (m.cached (Next cur)) 0 e)) s.kind moved

  past_less : (cur node : NodeId) (moved : Bool) → weight s m.cached (point_past_status cur node moved) < STEPS_PER_RECORD * rest s (links m.cached) node.0 + steps_on_arrival moved + 1 + steps_to_tell_all s
  past_less cur node true = omega arith
  past_less cur node false = omega arith

  mark_less : (told : List Told) (cur node : NodeId) (found : ℕ) → IsLessOn s m.cached told (successor s (RecoveryLoadMark (record { cur = cur; node = node })) found) (weight s m.cached (RecoveryLoadMark (record { cur = cur; node = node })))
  mark_less told cur node found = go (found == 0)
    where
      go : (c : Bool) → weight s m.cached (if c then RecoveryStoreHead (record { cur = cur; unclaimed = Some node }) else RecoveryStoreResult (record { node = node; mark = token_at found })) < weight s m.cached (RecoveryLoadMark (record { cur = cur; node = node }))
      go true = omega arith
      go false = omega arith

  head_less : (cur : NodeId) (unclaimed : Option NodeId) → weight s m.cached (past_head cur unclaimed) < steps_onward s (links m.cached) unclaimed + 2 + keep_steps + steps_to_tell_all s
  head_less cur None = omega arith
  head_less cur (Some n) = omega arith

  announcement_less : (client : Client) (told : List Told) (found : ℕ) → client.0 < s.clients → IsLessOn s m.cached told (successor s (RecoveryLoadAnnouncement (record { client = client })) found) (steps_to_tell s client.0)
  announcement_less client told found lt = go (found == 0)
    where
      to : (kind : Kind) → weight s m.cached (to_answer kind client (token_at found)) < steps_to_tell s client.0
      to Durable = omega (arith, lt)
      to Log = omega (arith, lt)

      go : (c : Bool) → IsLessOn s m.cached told (if c then report_of client (no_call s.kind) else More (to_answer s.kind client (token_at found))) (steps_to_tell s client.0)
      go true = told_less client told (no_call s.kind) (steps_to_tell s client.0) lt (omega arith)
      go false = to s.kind

  outcome_less : (client : Client) (token : Token) (number : ℕ) (is_enqueue : Bool) → client.0 < s.clients → weight s m.cached (to_outcome is_enqueue client token number) < steps_to_tell s client.0 - 3
  outcome_less client token number true lt = omega (arith, lt)
  outcome_less client token number false lt = omega (arith, lt)

  status_less : (client : Client) (token : Token) (told : List Told) (number : ℕ) (is_enqueue : Bool) (found : ℕ) → client.0 < s.clients
      → IsLessOn s m.cached told (successor s (RecoveryLoadStatus (record { client = client; token = token; number = number; is_enqueue = is_enqueue })) found) (steps_to_tell s client.0 - 3)
  status_less client token told number is_enqueue found lt = go (is_enqueue && (found == 1)) ((not is_enqueue) && (found == 2))
    where
      go : (c d : Bool)
          → IsLessOn s m.cached told (if c then report_of client (taken_as number Done) else (if d then report_of client (taken_as number Empty) else More (to_outcome is_enqueue client token number))) (steps_to_tell s client.0 - 3)
      go true d = told_less client told (taken_as number Done) (steps_to_tell s client.0 - 3) lt (omega (arith, lt))
      go false true = told_less client told (taken_as number Empty) (steps_to_tell s client.0 - 3) lt (omega (arith, lt))
      go false false = outcome_less client token number is_enqueue lt

  node_less : (client : Client) (token : Token) (told : List Told) (number found : ℕ) → client.0 < s.clients
      → IsLessOn s m.cached told (successor s (RecoveryLoadEntryNode (record { client = client; token = token; number = number })) found) (steps_to_tell s client.0 - 4)
  node_less client token told number found lt = go (found == 0)
    where
      go : (c : Bool)
          → IsLessOn s m.cached told (if c then report_of client (not_taken_as number) else More (RecoveryLoadRemovedItem (record { client = client; number = number; node = node_at found; loading = at_length }))) (steps_to_tell s client.0 - 4)
      go true = told_less client told (not_taken_as number) (steps_to_tell s client.0 - 4) lt (omega (arith, lt))
      go false = omega (arith, lt)

  cell_less : (client : Client) (told : List Told) (found : ℕ) → client.0 < s.clients → IsLessOn s m.cached told (to_row client found) (steps_to_tell s client.0 - 1)
  cell_less client told found lt = go (found == 0) (found == 1)
    where
      go : (c d : Bool)
          → IsLessOn s m.cached told (if c then report_of client (told_row Open) else (if d then report_of client (told_row row_empty) else More (RecoveryLoadGot (record { client = client; node = node_at (found - 2); loading = at_length })))) (steps_to_tell s client.0 - 1)
      go true d = told_less client told (told_row Open) (steps_to_tell s client.0 - 1) lt (omega (arith, lt))
      go false true = told_less client told (told_row row_empty) (steps_to_tell s client.0 - 1) lt (omega (arith, lt))
      go false false = omega (arith, lt)

  got_less : (client : Client) (node : NodeId) (loading : Loading) (told : List Told) (found : ℕ) → client.0 < s.clients
      → IsLessOn s m.cached told (got_with (record { client = client; node = node; loading = loading }) (loaded_with loading found)) (steps_to_tell s client.0 - 2 - load_steps + parts_left loading)
  got_less client node at_length told found lt = omega (arith, lt)
  got_less client node (at_first len) told found lt = omega (arith, lt)
  got_less client node (at_second len one) told found lt = omega (arith, lt)
  got_less client node (at_third len one two) told found lt = told_less client told (told_row (row_got (value_of len one two found))) (steps_to_tell s client.0 - 2 - load_steps + 1) lt (omega (arith, lt))

  removed_less : (client : Client) (number : ℕ) (node : NodeId) (loading : Loading) (told : List Told) (found : ℕ) → client.0 < s.clients
      → IsLessOn s m.cached told (removed_with (record { client = client; number = number; node = node; loading = loading }) (loaded_with loading found)) (steps_to_tell s client.0 - 5 - load_steps + parts_left loading)
  removed_less client number node at_length told found lt = omega (arith, lt)
  removed_less client number node (at_first len) told found lt = omega (arith, lt)
  removed_less client number node (at_second len one) told found lt = omega (arith, lt)
  removed_less client number node (at_third len one two) told found lt = told_less client told (taken_as number (Got (value_of len one two found))) (steps_to_tell s client.0 - 5 - load_steps + 1) lt (omega (arith, lt))

  store_less : (node : NodeId) (mark : Token) (kind : Kind) → s.kind ≡ kind
      → weight s (with_access m (access_of kind (RecoveryStoreResult (record { node = node; mark = mark })))).cached (FlushPoint (KeepResult (record { node = node; mark = mark }))) < weight s m.cached (RecoveryStoreResult (record { node = node; mark = mark }))
  store_less node mark Durable e = omega arith
  store_less node mark Log e = omega arith

  -- each step of recovery
  falls_at : (told : List Told) (at : RecoveryPoint) → AtPoint s m claimed waiting told at
      → IsLessOn s (with_access m (access_of s.kind at)).cached told (successor s at (m.cached (place_of (access_of s.kind at)))) (weight s m.cached at)
  falls_at told (RecoveryLoadHead p) at = omega arith
  falls_at told (RecoveryLoadNext p) at = next_less at.0 told p.cur p.moved
  falls_at told (RecoveryLoadInsert p) at = omega arith
  falls_at told (RecoveryStoreStatus p) at = omega arith
  falls_at told (FlushPoint k) at = omega arith
  falls_at told (FencePoint (KeepStatus p)) at = omega (arith, past_less p.cur p.node p.moved)
  falls_at told (RecoveryLoadMark p) at = mark_less told p.cur p.node (m.cached (Mark p.node))
  falls_at told (RecoveryStoreResult p) at = store_less p.node p.mark s.kind refl
  falls_at told (FencePoint (KeepResult p)) at = omega arith
  falls_at told (RecoveryStoreHead p) at = omega arith
  falls_at told (FencePoint (KeepHead p)) at = omega (arith, head_less p.cur p.unclaimed)
  falls_at told (RecoveryStoreTail p) at = omega arith
  falls_at told (FencePoint (KeepTail p)) at = omega arith
  falls_at told (RecoveryLoadAnnouncement p) at = announcement_less p.client told (m.cached (Announcement p.client)) at.1.below
  falls_at told (RecoveryLoadCell p) at = cell_less p.client told (m.cached (Cell p.token)) at.1.below
  falls_at told (RecoveryLoadGot p) at = got_less p.client p.node p.loading told (m.cached (Item p.node (part_next p.loading))) at.1.below
  falls_at told (RecoveryLoadNumber p) at = let lt : p.client.0 < s.clients = at.1.below in omega (arith, lt)
  falls_at told (RecoveryLoadKind p) at = let lt : p.client.0 < s.clients = at.1.below in omega (arith, lt)
  falls_at told (RecoveryLoadStatus p) at = status_less p.client p.token told p.number p.is_enqueue (m.cached (Status p.token)) at.1.below
  falls_at told (RecoveryLoadRemove p) at = told_less p.client told (if m.cached (Mark (node_at p.token.0)) == 0 then not_taken_as p.number else taken_as p.number Done) (steps_to_tell s p.client.0 - 4) at.1.below (omega (arith, at.1.below))
  falls_at told (RecoveryLoadEntryNode p) at = node_less p.client p.token told p.number (m.cached (EntryNode p.token)) at.1.below
  falls_at told (RecoveryLoadRemovedItem p) at = removed_less p.client p.number p.node p.loading told (m.cached (Item p.node (part_next p.loading))) at.1.below

  pub falls : (r : Recovery) → At s m claimed waiting r
      → IsLess s (with_access m (access_of s.kind r.at)).cached (recovery_after s r (m.cached (place_of (access_of s.kind r.at)))) (weight s m.cached r.at)
  falls r a = less_at s (with_access m (access_of s.kind r.at)).cached r.told (weight s m.cached r.at) (successor s r.at (m.cached (place_of (access_of s.kind r.at)))) (falls_at r.told r.at a.point)

-- where a node follows another, fewer are behind it than the greatest number
module _ (s : Shape) (m : Memory) (claimed waiting : List ℕ) (queue : List Value) (b : Sound s m.kept claimed waiting queue) where
  ahead_less : ((x : ℕ) → links m.cached x ≡ links m.kept x) → (moved : Bool) (cur node : ℕ) → Ahead s m.kept claimed moved cur node
      → suc (rest s (links m.cached) node) ≤ greatest s
  ahead_less same moved cur node a =
      let link : links m.cached cur ≡ node = same cur ∙ a.link in
      let next : rest s (links m.cached) cur ≡ suc (rest s (links m.cached) (links m.cached cur)) =
      rest_next s m claimed waiting queue b same cur (λ z. a.some (sym link ∙ z)) in
      let one : rest s (links m.cached) cur ≡ suc (rest s (links m.cached) node) = next ∙ ap (λ x. suc (rest s (links m.cached) x)) link in
      omega (arith, one, walk_most (greatest s) (links m.cached) cur)

  -- the status of a node is not a link
  but_links : (t : Token) → SameBut m (Status t) → (x : ℕ) → links m.cached x ≡ links m.kept x
  but_links t same x = same (Next (node_of x)) (λ e. cc)

  arriving_most : (moved : Bool) → steps_on_arrival moved ≤ steps_on_arrival false
  arriving_most true = omega arith
  arriving_most false = omega arith

  beyond_most : (moved : Bool) → steps_beyond moved ≤ steps_beyond false
  beyond_most true = omega arith
  beyond_most false = omega arith

  onward_most : (n : Option NodeId) → steps_onward s (links m.cached) n ≤ STEPS_PER_RECORD * greatest s + 1
  onward_most None = omega arith
  onward_most (Some n) = omega (arith, walk_most (greatest s) (links m.cached) n.0)

  few_in_hand : (k : RecoveryKeeping) → AtKeeping s m claimed k → weight s m.cached (FlushPoint k) + 1 ≤ most_steps s
  few_in_hand (KeepStatus p) a =
      let less : suc (rest s (links m.cached) p.node.0) ≤ greatest s = ahead_less (but_links p.entry a.0) p.moved p.cur.0 p.node.0 a.2 in
      omega (arith, less, arriving_most p.moved)
  few_in_hand (KeepResult p) a = omega (arith, walk_most (greatest s) (links m.cached) p.node.0)
  few_in_hand (KeepHead p) a = omega (arith, onward_most p.unclaimed)
  few_in_hand (KeepTail p) a = omega arith

  -- wherever recovery is, it has no more steps left than at its beginning
  few_at_point : (told : List Told) (at : RecoveryPoint) → AtPoint s m claimed waiting told at → weight s m.cached at + 1 ≤ most_steps s
  few_at_point told (RecoveryLoadHead p) a = omega (arith, walk_most (greatest s) (links m.cached) (m.cached Head))
  few_at_point told (RecoveryLoadNext p) a = omega (arith, walk_most (greatest s) (links m.cached) p.cur.0, beyond_most p.moved)
  few_at_point told (RecoveryLoadInsert p) a =
      let less : suc (rest s (links m.cached) p.node.0) ≤ greatest s = ahead_less (λ x. a.0 (Next (node_of x))) p.moved p.cur.0 p.node.0 a.1 in
      omega (arith, less, arriving_most p.moved)
  few_at_point told (RecoveryStoreStatus p) a =
      let less : suc (rest s (links m.cached) p.node.0) ≤ greatest s = ahead_less (λ x. a.0 (Next (node_of x))) p.moved p.cur.0 p.node.0 a.1 in
      omega (arith, less, arriving_most p.moved)
  few_at_point told (RecoveryLoadMark p) a =
      let less : suc (rest s (links m.cached) p.node.0) ≤ greatest s = ahead_less (λ x. a.0 (Next (node_of x))) false p.cur.0 p.node.0 a.1 in
      omega (arith, less)
  few_at_point told (RecoveryStoreResult p) a =
      let less : suc (rest s (links m.cached) p.node.0) ≤ greatest s = ahead_less (λ x. a.0 (Next (node_of x))) false a.1.cur p.node.0 a.1.ahead in
      omega (arith, less)
  few_at_point told (RecoveryStoreHead p) a = omega (arith, onward_most p.unclaimed)
  few_at_point told (RecoveryStoreTail p) a = omega arith
  few_at_point told (FlushPoint k) a = few_in_hand k a
  few_at_point told (FencePoint k) a = omega (arith, few_in_hand k a)
  few_at_point told (RecoveryLoadAnnouncement p) a = omega arith
  few_at_point told (RecoveryLoadCell p) a = omega arith
  few_at_point told (RecoveryLoadGot p) a = omega (arith, loading_most p.loading)
  few_at_point told (RecoveryLoadNumber p) a = omega arith
  few_at_point told (RecoveryLoadKind p) a = omega arith
  few_at_point told (RecoveryLoadStatus p) a = omega arith
  few_at_point told (RecoveryLoadRemove p) a = omega arith
  few_at_point told (RecoveryLoadEntryNode p) a = omega arith
  few_at_point told (RecoveryLoadRemovedItem p) a = omega (arith, loading_most p.loading)

  pub few_at : (r : Recovery) → At s m claimed waiting r → weight s m.cached r.at + 1 ≤ most_steps s
  few_at r a = few_at_point r.told r.at a.point

-- recovery takes so many steps from its beginning
pub weight_most : (s : Shape) (c : Place → ℕ) → weight s c boot_recovery.at + 2 ≤ most_steps s
weight_most s c = omega (arith, walk_most (greatest s) (links c) (c Head))
