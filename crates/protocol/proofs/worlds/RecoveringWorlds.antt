-- A world that recovers: crashes, evictions and recovery's steps.
use Rattle.std.proofs.Common.{◌≡◌, ◌≢◌, ℕ, ◌+◌, ◌-◌, ◌≤◌, ◌<◌, ◌⊎◌, inl, inr, List, [], ◌∷◌, ◌++◌, length, Bool, true, false, if◌then◌else◌, ◌==◌, ◌&&◌, not, Option, Some, None, refl, sym, ◌∙◌, ap, subst, arith}
use Rattle.std.specs.Prelude.{slice_get, IfSome}
use Rattle.std.proofs.lemmas.Bool.{cases_eq}
use Rattle.std.proofs.lemmas.List.{length_push}
use Rattle.std.proofs.lemmas.Option.{slice_get_within}
use mathlib.Core.Path.{fun_ext}
use Rattle.stepper.specs.Loading.{loaded_with}
use Rattle.stepper.specs.declared.loading.Loading.{Loading}
use Rattle.stepper.specs.declared.loading.Loading.TheVariants.{Length as at_length, First as at_first}
use Rattle.stepper.specs.declared.loading.Loading.TheVariants.{Second as at_second, Third as at_third}
use Rattle.words.specs.declared.call.NodeId.{NodeId}
use Rattle.words.specs.declared.told.Row.TheVariants.{Open, Empty as row_empty}
use Rattle.words.specs.declared.told.Told.TheVariants.{Row as told_row}
use Rattle.words.specs.PlainQueue.{Value}
use Rattle.words.specs.declared.call.Call.{Call}
use Rattle.words.specs.declared.call.Client.{Client}
use Rattle.words.specs.declared.told.Told.{Told}
use Rattle.arena.specs.Place.{IsNode, IsRecord}
use Rattle.arena.specs.Chain.{IsAmong}
use Rattle.arena.specs.Ranges.{Fits, IsReadByCalls}
use Rattle.arena.specs.Shape.{Shape, owner, greatest}
use Rattle.arena.specs.Words.{links, marks, values, numbers, inserts, announcements, entry_kinds, entry_nodes}
use Rattle.arena.specs.declared.place.Place.{Place}
use Rattle.arena.specs.declared.place.Place.TheVariants.{Head, Tail, Announcement, Bump, Item, Next, Mark, Cell, Insert}
use Rattle.arena.specs.declared.place.Place.TheVariants.{Number, EntryKind, Status, EntryNode}
use Rattle.stepper.specs.Step.{place_of, kept_by}
use Rattle.stepper.specs.declared.prepare.Begun.{Begun}
use Rattle.helping.specs.Table.{node_of}
use Rattle.arena.specs.Answers.{result_of}
use Rattle.words.specs.declared.call.NodeId.{NodeId}
use Rattle.words.specs.declared.call.Kind.{Kind}
use Rattle.words.specs.declared.call.Kind.TheVariants.{Durable, Log}
use Rattle.words.specs.declared.call.Token.{Token}
use Rattle.arena.specs.declared.codes.TheConstants.{EMPTY_STATUS, TAKEN_STATUS}
use Rattle.recover.specs.Table.{access_of, successor, boot_recovery, taken_as, not_taken_as, report_of}
use Rattle.words.specs.Told.{no_call}
use Rattle.recover.specs.Table.{recovery_at, recovery_after, point_at_the_end, point_past_status, to_node, to_row}
use Rattle.recover.specs.Table.{got_with, removed_with, to_answer, to_outcome, past_head, node_at, token_at, IsPoint}
use Rattle.recover.specs.Table.{kept_place, IsKeeping}
use Rattle.words.specs.declared.call.Reply.TheVariants.{Done, Got, Empty}
use Rattle.stepper.specs.declared.resume.After.TheVariants.{More, Done as Ready}
use Rattle.recover.specs.declared.recovery.Recovery.{Recovery}
use Rattle.recover.specs.declared.point.RecoveryPoint.{RecoveryPoint}
use Rattle.recover.specs.declared.point.Report.{Report}
use Rattle.recover.specs.declared.point.RecoveryPoint.TheVariants.{RecoveryLoadHead, RecoveryLoadNext}
use Rattle.recover.specs.declared.point.RecoveryPoint.TheVariants.{RecoveryLoadInsert, RecoveryStoreStatus}
use Rattle.recover.specs.declared.point.RecoveryPoint.TheVariants.{RecoveryLoadMark, RecoveryStoreResult}
use Rattle.recover.specs.declared.point.RecoveryPoint.TheVariants.{RecoveryStoreHead, RecoveryStoreTail}
use Rattle.recover.specs.declared.point.RecoveryPoint.TheVariants.{RecoveryLoadAnnouncement, RecoveryLoadCell}
use Rattle.recover.specs.declared.point.RecoveryPoint.TheVariants.{RecoveryLoadGot, RecoveryLoadNumber}
use Rattle.recover.specs.declared.point.RecoveryPoint.TheVariants.{RecoveryLoadKind, RecoveryLoadStatus}
use Rattle.recover.specs.declared.point.RecoveryPoint.TheVariants.{RecoveryLoadRemove, RecoveryLoadEntryNode}
use Rattle.recover.specs.declared.point.RecoveryPoint.TheVariants.{RecoveryLoadRemovedItem, Flush as FlushPoint}
use Rattle.recover.specs.declared.point.RecoveryPoint.TheVariants.{Fence as FencePoint}
use Rattle.recover.specs.declared.keeping.RecoveryKeeping.{RecoveryKeeping}
use Rattle.recover.specs.declared.keeping.RecoveryKeeping.TheVariants.{Status as KeepStatus, Result as KeepResult}
use Rattle.recover.specs.declared.keeping.RecoveryKeeping.TheVariants.{Head as KeepHead, Tail as KeepTail}
use Rattle.events.specs.Effects.{order_of, settled_effects}
use Rattle.events.specs.History.{BeginsAt, IsOpenFrom, IsDown}
use Rattle.events.specs.Trace.{IsTrace, queue_of}
use Rattle.events.specs.Parts.{IsPartOf}
use Rattle.events.specs.declared.event.Event.{Event}
use Rattle.events.specs.declared.event.Event.TheVariants.{Call as call_event, Crash as crash_event}
use Rattle.events.specs.declared.event.Event.TheVariants.{Ready as ready_event}
use Rattle.events.proofs.Facts.{all_settled, begins_within, crashed as log_crashed, get_last, get_push_cases}
use Rattle.events.proofs.Facts.{open_before, open_less, order_settled_effects, part_same, part_settled_effects}
use Rattle.events.proofs.Facts.{queue_settled_effects, queue_with_events, ready as log_ready, settled_effects_alone}
use Rattle.stepper.specs.declared.resume.After.{After}
use Rattle.protocol.specs.Machine.{Memory, World, with_fence, with_access, effects_on_take, effects_on_count}
use Rattle.protocol.specs.Machine.{effects_on_keep, after_keeping, after_fence, with_eviction, with_crash}
use Rattle.protocol.specs.Machine.{with_recovery_step, next_recovery, recovery_left, recovery_events}
use Rattle.protocol.specs.Kept.{TellsOf}
use Rattle.protocol.specs.Recovered.{end_of}
use Rattle.arena.proofs.Facts.{in_left}
use Rattle.protocol.proofs.chain.Chains.{in_end_of}
use Rattle.protocol.specs.invariants.Ledger.{Stage, Ledger, nobody}
use Rattle.protocol.specs.invariants.Base.{AllFit, Base}
use Rattle.protocol.specs.invariants.Ledger.Stage.{Unmoved}
use Rattle.protocol.proofs.changes.Puts.{put_same, put_cases}
use Rattle.protocol.specs.invariants.Records.{AnsweredTo, IsEntry, Records}
use Rattle.protocol.proofs.records.Records.{path_linked}
use Rattle.protocol.specs.invariants.Worlds.{record_of_call, stage_of, ledger_of, KnowsCall, Working, IsReady}
use Rattle.protocol.specs.invariants.Worlds.{Recovering}
use Rattle.events.specs.Telling.{IsToldSome, IsToldBase}
use Rattle.protocol.specs.invariants.Told.{IsTold, RightlyTold}
use Rattle.protocol.proofs.told.Tells.{IsTold-push, told_rightly}
use Rattle.protocol.proofs.told.Rightly.{KeptBy}
use Rattle.protocol.proofs.worlds.ReadyWorlds.{access_kept, none_at_end}
use Rattle.protocol.specs.invariants.Sound.{memory_at_rest, idle_ledger, Sound}
use Rattle.protocol.proofs.recovery.Sound.{crash_sound, wake_base}
use Rattle.protocol.specs.invariants.Recovery.{Same, SameBut, TakenTo, Position, Claim, Unclaimed, Announced, At}
use Rattle.protocol.specs.invariants.Recovery.{AtKeeping, AtPoint, IsUntold, nothing_told}
use Rattle.protocol.proofs.recovery.Recovering.{node_fits}
use Rattle.protocol.proofs.recovery.RecoveryEnds.{answered_among, result_fits, Recovers, RecoversOn, Woken}
use Rattle.protocol.proofs.recovery.RecoveryEnds.{RecoversNext, but_stored, keep_at, hand_may, tells_kept, row_LoadNext}
use Rattle.protocol.proofs.recovery.RecoveryEnds.{row_LoadMark, row_KeepStatus, row_KeepResult, row_KeepHead}
use Rattle.protocol.proofs.recovery.RecoveryEnds.{row_KeepTail}
use Rattle.protocol.proofs.recovery.RecoveryTelling.{dequeue_entry, row_LoadAnnouncement, row_LoadCell, row_LoadGot}
use Rattle.protocol.proofs.recovery.RecoveryTelling.{row_LoadStatus, row_LoadRemove, row_LoadEntryNode}
use Rattle.protocol.proofs.recovery.RecoveryTelling.{row_LoadRemovedItem}

-- each step of recovery leads to what it knows next
point_row : (s : Shape) (m : Memory) (claimed waiting : List ℕ) (queue : List Value) → Sound s m.kept claimed waiting queue → 0 < s.clients
    → (told : List Told) (at : RecoveryPoint) → IsUntold told at → AtPoint s m claimed waiting told at
    → RecoversOn s (with_access m (access_of s.kind at)) claimed waiting queue told (successor s at (m.cached (place_of (access_of s.kind at))))
point_row s m claimed waiting queue b some told (RecoveryLoadHead p) u a =
    record { sound = b; at = (a, subst (AnsweredTo s (memory_at_rest m.kept)) (sym (a Head)) (b.records queue).to_head) }
point_row s m claimed waiting queue b some told (RecoveryLoadNext p) u a = row_LoadNext s m claimed waiting queue b told p.cur p.moved a.0 a.1
point_row s m claimed waiting queue b some told (RecoveryLoadInsert p) u a =
    let linked : links m.kept p.cur.0 ≢ 0 = λ z. a.1.some (sym a.1.link ∙ z) in
    let insert : inserts m.kept p.node.0 ≡ p.node.0 = subst (λ x. inserts m.kept x ≡ x) a.1.link ((b.records queue).enqueued a.2 p.cur.0 linked).insert.0 in
    record { sound = b; at = (a.0, a.1, a.2, a.0 (Insert p.node) ∙ insert) }
point_row s m claimed waiting queue b some told (RecoveryStoreStatus p) u a =
    record { sound = b; at = (but_stored m (Status p.entry) 1 a.0, put_same m.cached (Status p.entry) 1, a.1, a.2, a.3) }
point_row s m claimed waiting queue b some told (FlushPoint k) u a = record { sound = b; at = a }
point_row s m claimed waiting queue b some told (FencePoint (KeepStatus p)) u a = row_KeepStatus s m claimed waiting queue b told p.cur p.node p.entry p.moved a
point_row s m claimed waiting queue b some told (RecoveryLoadMark p) u a = row_LoadMark s m claimed waiting queue b told p.cur p.node a.0 a.1 a.2
point_row s m claimed waiting queue b some told (RecoveryStoreResult p) u a =
    let place : Place = (result_of s.kind p.mark p.node).place in
    record {
      sound = b;
      at = (
        but_stored m (result_of s.kind p.mark p.node).place (result_of s.kind p.mark p.node).value a.0,
        put_same m.cached (result_of s.kind p.mark p.node).place (result_of s.kind p.mark p.node).value,
        a.1,
      );
    }
point_row s m claimed waiting queue b some told (FencePoint (KeepResult p)) u a = row_KeepResult s m claimed waiting queue b told p.node p.mark a
point_row s m claimed waiting queue b some told (RecoveryStoreHead p) u a = record { sound = b; at = (but_stored m Head p.cur.0 a.0, refl, a.1) }
point_row s m claimed waiting queue b some told (FencePoint (KeepHead p)) u a = row_KeepHead s m claimed waiting queue b told p.cur p.unclaimed a
point_row s m claimed waiting queue b some told (RecoveryStoreTail p) u a =
    record { sound = b; at = (but_stored m Tail p.cur.0 a.0, record { cur = p.cur.0; last = a.1; cached = refl }) }
point_row s m claimed waiting queue b some told (FencePoint (KeepTail p)) u a = row_KeepTail s m claimed waiting queue b told some u a
point_row s m claimed waiting queue b some told (RecoveryLoadAnnouncement p) u a = row_LoadAnnouncement s m claimed waiting queue b p.client told a.0 a.1
point_row s m claimed waiting queue b some told (RecoveryLoadCell p) u a = row_LoadCell s m claimed waiting queue b p.client p.token told a.0 a.1 a.2 a.3
point_row s m claimed waiting queue b some told (RecoveryLoadNumber p) u a = record { sound = b; at = (a.0, a.1, a.2, a.3, a.0 (Number p.token)) }
point_row s m claimed waiting queue b some told (RecoveryLoadKind p) u a = record { sound = b; at = (a.0, a.1, a.2, a.3, a.4, ap (λ x. x == 1) (a.0 (EntryKind p.token))) }
point_row s m claimed waiting queue b some told (RecoveryLoadStatus p) u a = row_LoadStatus s m claimed waiting queue b p.client p.token told p.number p.is_enqueue a.0 a.1 a.2 a.3 a.4 a.5
point_row s m claimed waiting queue b some told (RecoveryLoadRemove p) u a = row_LoadRemove s m claimed waiting queue b p.client p.token told p.number a
point_row s m claimed waiting queue b some told (RecoveryLoadEntryNode p) u a = row_LoadEntryNode s m claimed waiting queue b p.client p.token told p.number a
point_row s m claimed waiting queue b some told (RecoveryLoadRemovedItem p) u a = row_LoadRemovedItem s m claimed waiting queue b p.client p.number p.node p.loading told a
point_row s m claimed waiting queue b some told (RecoveryLoadGot p) u a = row_LoadGot s m claimed waiting queue b p.client p.node p.loading told a

-- what comes after a point where nobody is told anything is such a point, or the first that tells
abbrev IsUntoldOn : List Told → After RecoveryPoint Report → Type 0
IsUntoldOn told (More at) = IsUntold told at
IsUntoldOn told (Ready report) = Unit {0}

untold_at_the_end : (told : List Told) → told ≡ nothing_told → (cur : NodeId) (moved : Bool) → IsUntold told (point_at_the_end cur moved)
untold_at_the_end told u cur true = u
untold_at_the_end told u cur false = u

untold_past_status : (told : List Told) → told ≡ nothing_told → (cur node : NodeId) (moved : Bool) → IsUntold told (point_past_status cur node moved)
untold_past_status told u cur node true = u
untold_past_status told u cur node false = u

untold_to_node : (told : List Told) → told ≡ nothing_told → (kind : Kind) (cur node : NodeId) (moved : Bool) → IsUntold told (to_node kind cur node moved)
untold_to_node told u Durable cur node moved = untold_past_status told u cur node moved
untold_to_node told u Log cur node moved = u

untold_to_row : (told : List Told) (client : Client) (found : ℕ) → IsUntoldOn told (to_row client found)
untold_to_row told client found = go (found == 0) (found == 1)
  where
    go : (c d : Bool) → IsUntoldOn told (if c then report_of client (told_row Open) else (if d then report_of client (told_row row_empty) else More (RecoveryLoadGot (record { client = client; node = node_at (found - 2); loading = at_length }))))
    go true d = tt
    go false true = tt
    go false false = tt

untold_got : (told : List Told) (client : Client) (node : NodeId) (loading : Loading) (found : ℕ) → IsUntoldOn told (got_with (record { client = client; node = node; loading = loading }) (loaded_with loading found))
untold_got told client node at_length found = tt
untold_got told client node (at_first len) found = tt
untold_got told client node (at_second len one) found = tt
untold_got told client node (at_third len one two) found = tt

untold_removed : (told : List Told) (client : Client) (number : ℕ) (node : NodeId) (loading : Loading) (found : ℕ) → IsUntoldOn told (removed_with (record { client = client; number = number; node = node; loading = loading }) (loaded_with loading found))
untold_removed told client number node at_length found = tt
untold_removed told client number node (at_first len) found = tt
untold_removed told client number node (at_second len one) found = tt
untold_removed told client number node (at_third len one two) found = tt

untold_past_head : (told : List Told) → told ≡ nothing_told → (cur : NodeId) (unclaimed : Option NodeId) → IsUntold told (past_head cur unclaimed)
untold_past_head told u cur None = u
untold_past_head told u cur (Some node) = u

untold_to_answer : (told : List Told) (kind : Kind) (client : Client) (token : Token) → IsUntold told (to_answer kind client token)
untold_to_answer told Durable client token = tt
untold_to_answer told Log client token = tt

untold_to_outcome : (told : List Told) (enqueue : Bool) (client : Client) (token : Token) (number : ℕ) → IsUntold told (to_outcome enqueue client token number)
untold_to_outcome told true client token number = tt
untold_to_outcome told false client token number = tt

untold_next : (s : Shape) (told : List Told) (at : RecoveryPoint) (found : ℕ) → IsUntold told at → IsUntoldOn told (successor s at found)
untold_next s told (RecoveryLoadHead p) found u = u
untold_next s told (RecoveryLoadNext p) found u = go (found == 0)
  where
    go : (c : Bool) → IsUntold told (if c then point_at_the_end p.cur p.moved else to_node s.kind p.cur (node_at found) p.moved)
    go true = untold_at_the_end told u p.cur p.moved
    go false = untold_to_node told u s.kind p.cur (node_at found) p.moved
untold_next s told (RecoveryLoadInsert p) found u = u
untold_next s told (RecoveryStoreStatus p) found u = u
untold_next s told (FlushPoint k) found u = u
untold_next s told (FencePoint (KeepStatus p)) found u = untold_past_status told u p.cur p.node p.moved
untold_next s told (RecoveryLoadMark p) found u = go (found == 0)
  where
    go : (c : Bool) → IsUntold told (if c then RecoveryStoreHead (record { cur = p.cur; unclaimed = Some p.node }) else RecoveryStoreResult (record { node = p.node; mark = token_at found }))
    go true = u
    go false = u
untold_next s told (RecoveryStoreResult p) found u = u
untold_next s told (FencePoint (KeepResult p)) found u = u
untold_next s told (RecoveryStoreHead p) found u = u
untold_next s told (FencePoint (KeepHead p)) found u = untold_past_head told u p.cur p.unclaimed
untold_next s told (RecoveryStoreTail p) found u = u
untold_next s told (FencePoint (KeepTail p)) found u = tt
untold_next s told (RecoveryLoadAnnouncement p) found u = go (found == 0)
  where
    go : (c : Bool) → IsUntoldOn told (if c then report_of p.client (no_call s.kind) else More (to_answer s.kind p.client (token_at found)))
    go true = tt
    go false = untold_to_answer told s.kind p.client (token_at found)
untold_next s told (RecoveryLoadCell p) found u = untold_to_row told p.client found
untold_next s told (RecoveryLoadGot p) found u = untold_got told p.client p.node p.loading found
untold_next s told (RecoveryLoadNumber p) found u = tt
untold_next s told (RecoveryLoadKind p) found u = tt
untold_next s told (RecoveryLoadStatus p) found u = go (p.is_enqueue && (found == TAKEN_STATUS)) ((not p.is_enqueue) && (found == EMPTY_STATUS))
  where
    go : (c d : Bool) → IsUntoldOn told (if c then report_of p.client (taken_as p.number Done)
        else (if d then report_of p.client (taken_as p.number Empty) else More (to_outcome p.is_enqueue p.client p.token p.number)))
    go true d = tt
    go false true = tt
    go false false = untold_to_outcome told p.is_enqueue p.client p.token p.number
untold_next s told (RecoveryLoadRemove p) found u = tt
untold_next s told (RecoveryLoadEntryNode p) found u = go (found == 0)
  where
    go : (c : Bool) → IsUntoldOn told (if c then report_of p.client (not_taken_as p.number)
        else More (RecoveryLoadRemovedItem (record { client = p.client; number = p.number; node = node_at found; loading = at_length })))
    go true = tt
    go false = tt
untold_next s told (RecoveryLoadRemovedItem p) found u = untold_removed told p.client p.number p.node p.loading found

recovers_on : (s : Shape) (m : Memory) (claimed waiting : List ℕ) (queue : List Value) (told : List Told) (next : After RecoveryPoint Report)
    → IsUntoldOn told next → RecoversOn s m claimed waiting queue told next → RecoversNext s m claimed waiting queue (recovery_at s told next)
recovers_on s m claimed waiting queue told (More at) u h = record { sound = h.sound; at = record { untold = u; point = h.at } }
recovers_on s m claimed waiting queue told (Ready report) u h = h

pub recovery_row : (s : Shape) (m : Memory) (claimed waiting : List ℕ) (queue : List Value) → Sound s m.kept claimed waiting queue → 0 < s.clients
    → (r : Recovery) → At s m claimed waiting r
    → RecoversNext s (with_access m (access_of s.kind r.at)) claimed waiting queue (recovery_after s r (m.cached (place_of (access_of s.kind r.at))))
recovery_row s m claimed waiting queue b some r a =
    let found : ℕ = m.cached (place_of (access_of s.kind r.at)) in
    recovers_on s (with_access m (access_of s.kind r.at)) claimed waiting queue r.told (successor s r.at found)
    (untold_next s r.told r.at found a.untold) (point_row s m claimed waiting queue b some r.told r.at a.untold a.point)

-- where nobody calls, no word that is kept is anybody's effect
nobody_took : (w : World) → ((i : ℕ) → w.calls i ≡ None) → (p : Place) (new : ℕ) → effects_on_keep w p new ≡ w.log.effects
nobody_took w none p new = go p
  where
    counted_none : (o : ℕ) (t : Bool) → (if t then effects_on_count (w.calls o) w.log.effects else w.log.effects) ≡ w.log.effects
    counted_none o true = ap (λ c. effects_on_count c w.log.effects) (none o)
    counted_none o false = refl

    go : (p : Place) → effects_on_keep w p new ≡ w.log.effects
    go Head = refl
    go Tail = refl
    go (Announcement t) = refl
    go (Bump t) = refl
    go (Item n part) = refl
    go (Next n) = ap (λ c. effects_on_take Done (length w.log.events) c w.log.effects) (none (owner w.shape new))
    go (Mark n) = ap (λ c. effects_on_take (Got (values w.memory.kept n.0)) (length w.log.events) c w.log.effects) (none (owner w.shape new))
    go (Cell c) = counted_none (owner w.shape c.0) (new == 1)
    go (Insert n) = refl
    go (Number e) = refl
    go (EntryKind e) = refl
    go (Status e) = counted_none (owner w.shape e.0) (new == 2)
    go (EntryNode e) = refl

pub nobody_kept : (w : World) → ((i : ℕ) → w.calls i ≡ None) → (p : Place) → after_keeping w p ≡ w.log.effects
nobody_kept w none p = go (w.memory.kept p == w.memory.cached p)
  where
    go : (t : Bool) → (if t then w.log.effects else effects_on_keep w p (w.memory.cached p)) ≡ w.log.effects
    go true = refl
    go false = nobody_took w none p (w.memory.cached p)

pub nobody_fenced : (w : World) → ((i : ℕ) → w.calls i ≡ None) → (o : Option Place) → after_fence w o ≡ w.log.effects
nobody_fenced w none (Some p) = nobody_kept w none p
nobody_fenced w none None = refl

-- recovery changes no announcement
announcement_stays : (w : World) (r : Recovery) → Recovering w r → (p : Place) (t : ℕ) → announcements (with_fence w.memory p).kept t ≡ announcements w.memory.kept t
announcement_stays w r v p t = elim (cases_eq (w.memory.kept p) (w.memory.cached p)) [
  | inl e ↦ elim (put_cases w.memory.kept p (w.memory.cached p) (Announcement (record { 0 = t }))) [
    | inl q ↦ q.1 ∙ sym e ∙ ap w.memory.kept (sym q.0)
    | inr q ↦ q.1
  ]
  | inr ne ↦ (hand_may w.shape w.memory v.claimed v.waiting (queue_of w.log.events w.base w.log.effects) v.sound p ne r v.at).announcement t
]

-- the environment keeps a word during recovery
pub evicted_recovering : (w : World) (r : Recovery) → Recovering w r → (p : Place) → Recovering (with_eviction w p) r
evicted_recovering w r v p =
    let same : w.log.effects ≡ after_keeping w p = sym (nobody_kept w v.none p) in
    let kept : Recovers w.shape (with_fence w.memory p) v.claimed v.waiting (queue_of w.log.events w.base w.log.effects) r = keep_at w.shape w.memory v.claimed v.waiting (queue_of w.log.events w.base w.log.effects) v.sound p r v.at in
    record {
      recovers = v.recovers;
      sixteen = v.sixteen;
      clients = v.clients;
      claimed = v.claimed;
      waiting = v.waiting;
      sound = subst (λ e. Sound w.shape (with_fence w.memory p).kept v.claimed v.waiting (queue_of w.log.events w.base e)) same kept.sound;
      at = kept.at;
      none = v.none;
      idle = v.idle;
      log = subst (λ e. IsTrace w.shape.kind w.base w.told w.log.events e) same v.log;
      tells = λ client told few h. subst (λ e. IsTold w.shape.kind w.told w.log.issued (announcements (with_fence w.memory p).kept client.0) w.log.events (order_of e) client told) same
          (subst (λ a. IsTold w.shape.kind w.told w.log.issued a w.log.events (order_of w.log.effects) client told) (sym (announcement_stays w r v p client.0))
          (v.tells client told few (tells_kept w.shape w.memory v.claimed v.waiting (queue_of w.log.events w.base w.log.effects) v.sound p r v.at client.0 told h)));
    }

pub evicted_recovering_part : (w : World) (r : Recovery) → Recovering w r → (p : Place) → IsPartOf (order_of w.log.effects) (order_of (with_eviction w p).log.effects)
evicted_recovering_part w r v p = subst (λ e. IsPartOf (order_of w.log.effects) (order_of e)) (sym (nobody_kept w v.none p)) (part_same (order_of w.log.effects))

-- no call is open after a crash, or after another event where none was
none_open : (events : List Event) (event : Event) → ((client : Client) (number : ℕ) (call : Call) → event ≢ call_event client number call)
    → (event ≡ crash_event) ⊎ ((client : Client) (p : ℕ) → IsOpenFrom events client (length events) p → ⊥) → (client : Client) (p : ℕ) → IsOpenFrom (events ++ event ∷ []) client (length (events ++ event ∷ [])) p → ⊥
none_open events event not_call why client p h =
    let longer : length (events ++ event ∷ []) ≡ length events + 1 = length_push events event in
    let begins : BeginsAt (events ++ event ∷ []) client p = h.begins in
    elim (get_push_cases events event p (call_event client begins.0 begins.1.0) begins.1.1) [
      | inl old ↦
          let low : p < length events = begins_within events client p (begins.0, (begins.1.0, old)) in
          elim why [
            | inl crash ↦ h.no_end (length events) low (omega (arith, longer)) (inr (get_last events event ∙ ap (λ (x : Event). Some x) crash))
            | inr idle ↦ idle client p (open_before events (event ∷ []) client (length events) p low (open_less (events ++ event ∷ []) client (length (events ++ event ∷ [])) (length events) p (omega (arith, longer)) h))
          ]
      | inr last ↦ not_call client begins.0 begins.1.0 last.1
    ]

-- the system stops
crashed_recovering : (w : World) (claimed waiting : List ℕ) → w.shape.clients ≤ 16 → 1 ≤ w.shape.clients → Sound w.shape w.memory.kept claimed waiting (queue_of w.log.events w.base w.log.effects)
    → IsTrace w.shape.kind w.base w.told w.log.events w.log.effects → RightlyTold w → Recovering (with_crash w) boot_recovery
crashed_recovering w claimed waiting sixteen clients sound log tells =
    let settled : IsTrace w.shape.kind w.base w.told w.log.events (settled_effects w.log.effects) = settled_effects_alone w.shape.kind w.base w.told w.log.events w.log.effects log in
    let queue : queue_of (w.log.events ++ crash_event ∷ []) w.base (settled_effects w.log.effects) ≡ queue_of w.log.events w.base w.log.effects =
    queue_with_events w.shape.kind w.base w.told w.log.events (settled_effects w.log.effects) (crash_event ∷ []) settled ∙ queue_settled_effects w.shape.kind w.base w.told w.log.events w.log.effects log in
    record {
      recovers = refl;
      sixteen = sixteen;
      clients = clients;
      claimed = claimed;
      waiting = waiting;
      sound = subst (Sound w.shape w.memory.kept claimed waiting) (sym queue) sound;
      at = record { untold = refl; point = λ q. refl };
      none = λ i. refl;
      idle = none_open w.log.events crash_event (λ client number call e. cc) (inl refl);
      log = log_crashed w.shape.kind w.base w.told w.log.events (settled_effects w.log.effects) settled (all_settled w.log.effects);
      tells = λ client told few h.
          subst (λ order. IsTold w.shape.kind w.told w.log.issued (announcements w.memory.kept client.0) (w.log.events ++ crash_event ∷ []) order client told) (sym (order_settled_effects w.log.effects))
          (IsTold-push w.shape.kind w.told w.log.issued (announcements w.memory.kept client.0) w.log.events crash_event (order_of w.log.effects) client told (none_at_end w.shape.kind w.base w.told w.log.events w.log.effects log) (tells client told few h));
    }

pub ready_crashed : (w : World) → IsReady w → Recovering (with_crash w) boot_recovery
ready_crashed w v =
    let x : Working w = v.working in
    crashed_recovering w x.claimed x.waiting x.sixteen x.clients (crash_sound w.shape w.memory (ledger_of w) x.claimed x.waiting x.base x.records) x.log v.tells

pub recovering_crashed : (w : World) (r : Recovery) → Recovering w r → Recovering (with_crash w) boot_recovery
recovering_crashed w r v = crashed_recovering w v.claimed v.waiting v.sixteen v.clients v.sound v.log v.tells

pub crashed_part : (w : World) → IsPartOf (order_of w.log.effects) (order_of (with_crash w).log.effects)
crashed_part w = part_settled_effects w.log.effects

-- the words after an access, of which one is kept at most
-- and no client's announcement is another one
access_announces : (w : World) (r : Recovery) → Recovering w r → (n : Memory) → KeptBy w.memory n → (t : ℕ) → announcements n.kept t ≡ announcements w.memory.kept t
access_announces w r v n (inl e) t = ap (λ (f : Place → ℕ). announcements f t) e
access_announces w r v n (inr k) t = ap (λ (f : Place → ℕ). announcements f t) k.same ∙ announcement_stays w r v k.p t

pub access_tells : (w : World) (r : Recovery) → Recovering w r → (n : Memory) → KeptBy w.memory n → (t : ℕ) (x : Told) → TellsOf w.shape n.kept t x → TellsOf w.shape w.memory.kept t x
access_tells w r v n (inl e) t x h = subst (λ (f : Place → ℕ). TellsOf w.shape f t x) e h
access_tells w r v n (inr k) t x h =
    tells_kept w.shape w.memory v.claimed v.waiting (queue_of w.log.events w.base w.log.effects) v.sound k.p r v.at t x (subst (λ (f : Place → ℕ). TellsOf w.shape f t x) k.same h)

-- what an act of recovery leads to
abbrev pub RecoveredTo : World → After Recovery (List Told) → Type 0
RecoveredTo w (More r) = Recovering w r
RecoveredTo w (Ready told) = IsReady w

-- the world once a step of recovery leads on so
abbrev pub recovered_to : World → Recovery → After Recovery (List Told) → World
recovered_to w r next = record w {
  memory = with_access w.memory (access_of w.shape.kind r.at);
  recovery = recovery_left next;
  log = record { events = recovery_events w.log.events next; issued = w.log.issued; effects = after_fence w (kept_by (access_of w.shape.kind r.at)) };
}

module _ (w : World) (r : Recovery) (v : Recovering w r) where
  queue : List Value
  queue = queue_of w.log.events w.base w.log.effects

  same_effects : w.log.effects ≡ after_fence w (kept_by (access_of w.shape.kind r.at))
  same_effects = sym (nobody_fenced w v.none (kept_by (access_of w.shape.kind r.at)))

  after_tells : (client : Client) (told : Told) → client.0 < 16 → TellsOf w.shape (with_access w.memory (access_of w.shape.kind r.at)).kept client.0 told
      → IsTold w.shape.kind w.told w.log.issued (announcements (with_access w.memory (access_of w.shape.kind r.at)).kept client.0) w.log.events (order_of w.log.effects) client told
  after_tells client told few h =
      subst (λ a. IsTold w.shape.kind w.told w.log.issued a w.log.events (order_of w.log.effects) client told) (sym (access_announces w r v (with_access w.memory (access_of w.shape.kind r.at)) (access_kept w.memory (access_of w.shape.kind r.at)) client.0))
      (v.tells client told few (access_tells w r v (with_access w.memory (access_of w.shape.kind r.at)) (access_kept w.memory (access_of w.shape.kind r.at)) client.0 told h))

  goes_on : (next : Recovery) → Recovers w.shape (with_access w.memory (access_of w.shape.kind r.at)) v.claimed v.waiting (queue_of w.log.events w.base w.log.effects) next → Recovering (recovered_to w r (More next)) next
  goes_on next h = record {
    recovers = refl;
    sixteen = v.sixteen;
    clients = v.clients;
    claimed = v.claimed;
    waiting = v.waiting;
    sound = subst (λ e. Sound w.shape (with_access w.memory (access_of w.shape.kind r.at)).kept v.claimed v.waiting (queue_of w.log.events w.base e)) same_effects h.sound;
    at = h.at;
    none = v.none;
    idle = v.idle;
    log = subst (λ e. IsTrace w.shape.kind w.base w.told w.log.events e) same_effects v.log;
    tells = λ client told few x. subst (λ e. IsTold w.shape.kind w.told w.log.issued (announcements (with_access w.memory (access_of w.shape.kind r.at)).kept client.0) w.log.events (order_of e) client told) same_effects (after_tells client told few x);
  }

  -- the queue is ready, and each client is told what the kept words tell
  wakes : (told : List Told) → Woken w.shape (with_access w.memory (access_of w.shape.kind r.at)) v.claimed v.waiting (queue_of w.log.events w.base w.log.effects) told → IsReady (recovered_to w r (Ready told))
  wakes told h =
      let n : Memory = with_access w.memory (access_of w.shape.kind r.at) in
      let is_still : memory_at_rest (with_access w.memory (access_of w.shape.kind r.at)).kept ≡ with_access w.memory (access_of w.shape.kind r.at) =
      ap (λ (f : Place → ℕ). let k : Memory = record { cached = f; kept = (with_access w.memory (access_of w.shape.kind r.at)).kept } in k) (sym (fun_ext h.same)) in
      let log_before : IsTrace w.shape.kind w.base w.told w.log.events (after_fence w (kept_by (access_of w.shape.kind r.at))) = subst (λ e. IsTrace w.shape.kind w.base w.told w.log.events e) same_effects v.log in
      let rightly : (client : Client) (x : Told) → slice_get told client.0 ≡ Some x
      → IsToldSome w.shape.kind w.log.events (order_of (after_fence w (kept_by (access_of w.shape.kind r.at)))) client (length w.log.events) x ⊎ IsToldBase w.shape.kind w.told w.log.events (order_of (after_fence w (kept_by (access_of w.shape.kind r.at)))) client (length w.log.events) x = λ client x e.
      told_rightly w.shape.kind w.told w.log.issued (announcements n.kept client.0) w.log.events (order_of (after_fence w (kept_by (access_of w.shape.kind r.at)))) client x
      (subst (λ es. IsTold w.shape.kind w.told w.log.issued (announcements n.kept client.0) w.log.events (order_of es) client x) same_effects
      (after_tells client x (subst (λ q. client.0 < q) h.sixteen (slice_get_within told client.0 x e)) (h.tells client.0 x e))) in
      let log_now : IsTrace w.shape.kind w.base w.told (w.log.events ++ ready_event told ∷ []) (after_fence w (kept_by (access_of w.shape.kind r.at))) =
      log_ready w.shape.kind w.base w.told w.log.events (after_fence w (kept_by (access_of w.shape.kind r.at))) told log_before
      (record { sixteen = h.sixteen; rightly = record { each = rightly }; idle = v.idle }) in
      let same_queue : queue_of (w.log.events ++ ready_event told ∷ []) w.base (after_fence w (kept_by (access_of w.shape.kind r.at))) ≡ queue_of w.log.events w.base w.log.effects =
      queue_with_events w.shape.kind w.base w.told w.log.events (after_fence w (kept_by (access_of w.shape.kind r.at))) (ready_event told ∷ []) log_before
      ∙ ap (queue_of w.log.events w.base) (sym same_effects) in
      let ledger_is : idle_ledger (queue_of w.log.events w.base w.log.effects) ≡ ledger_of (recovered_to w r (Ready told)) = sym (idle_is same_queue) in
      let base : Base w.shape (with_access w.memory (access_of w.shape.kind r.at)) (ledger_of (recovered_to w r (Ready told))) v.claimed v.waiting =
      subst (λ l. Base w.shape (with_access w.memory (access_of w.shape.kind r.at)) l v.claimed v.waiting) ledger_is
      (subst (λ m. Base w.shape m (idle_ledger (queue_of w.log.events w.base w.log.effects)) v.claimed v.waiting) is_still
      (wake_base w.shape (with_access w.memory (access_of w.shape.kind r.at)).kept v.claimed v.waiting (queue_of w.log.events w.base w.log.effects) h.sound h.head h.tail)) in
      let records : Records w.shape (with_access w.memory (access_of w.shape.kind r.at)) (ledger_of (recovered_to w r (Ready told))) =
      subst (λ l. Records w.shape (with_access w.memory (access_of w.shape.kind r.at)) l) ledger_is
      (subst (λ m. Records w.shape m (idle_ledger (queue_of w.log.events w.base w.log.effects))) is_still (h.sound.records (queue_of w.log.events w.base w.log.effects))) in
      record {
        working = record {
          ready = refl;
          sixteen = v.sixteen;
          clients = v.clients;
          claimed = v.claimed;
          waiting = v.waiting;
          base = base;
          records = records;
          calls = λ i. subst (KnowsCall w.shape (with_access w.memory (access_of w.shape.kind r.at)) (ledger_of (recovered_to w r (Ready told))) (w.log.events ++ ready_event told ∷ []) i) (sym (v.none i)) tt;
          idle = λ client e way. none_open w.log.events (ready_event told) (λ c number call f. cc) (inr v.idle) client way.place way.open_from;
          up = λ down. not_down down;
          log = log_now;
        };
        tells = λ client x few q.
            IsTold-push w.shape.kind w.told w.log.issued (announcements n.kept client.0) w.log.events (ready_event told) (order_of (after_fence w (kept_by (access_of w.shape.kind r.at)))) client x
            (none_at_end w.shape.kind w.base w.told w.log.events (after_fence w (kept_by (access_of w.shape.kind r.at))) log_before)
            (subst (λ es. IsTold w.shape.kind w.told w.log.issued (announcements n.kept client.0) w.log.events (order_of es) client x) same_effects (after_tells client x few q));
        issued = λ j x at. let wrong : None ≡ Some x = sym (v.none j) ∙ at in absurd (cc);
      }
    where
      not_down : IsDown (w.log.events ++ ready_event told ∷ []) (length (w.log.events ++ ready_event told ∷ [])) → ⊥
      not_down down =
          let longer : length (w.log.events ++ ready_event told ∷ []) ≡ length w.log.events + 1 = length_push w.log.events (ready_event told) in
          elim (get_push_cases w.log.events (ready_event told) down.place crash_event down.crash) [
            | inl old ↦ down.no_ready (length w.log.events) told (slice_get_within w.log.events down.place crash_event old) (omega (arith, longer)) (get_last w.log.events (ready_event told))
            | inr last ↦ let wrong : ready_event told ≡ crash_event = last.1 in cc
          ]

      nobody_is : (i : ℕ) → record_of_call (w.calls i) ≡ nobody
      nobody_is i = ap record_of_call (v.none i)

      unmoved_is : (i : ℕ) → stage_of (w.calls i) (after_fence w (kept_by (access_of w.shape.kind r.at))) ≡ Unmoved
      unmoved_is i = ap (λ c. stage_of c (after_fence w (kept_by (access_of w.shape.kind r.at)))) (v.none i)

      idle_is : queue_of (w.log.events ++ ready_event told ∷ []) w.base (after_fence w (kept_by (access_of w.shape.kind r.at))) ≡ queue_of w.log.events w.base w.log.effects
          → ledger_of (recovered_to w r (Ready told)) ≡ idle_ledger (queue_of w.log.events w.base w.log.effects)
      idle_is e =
          ap (λ (f : ℕ → Begun). let k : Ledger = record {
            begun = f;
            stage = λ i. stage_of (w.calls i) (after_fence w (kept_by (access_of w.shape.kind r.at)));
            queue = queue_of (w.log.events ++ ready_event told ∷ []) w.base (after_fence w (kept_by (access_of w.shape.kind r.at)));
          } in k) (fun_ext nobody_is)
          ∙ ap (λ (f : ℕ → Stage). let k : Ledger = record {
            begun = λ i. nobody;
            stage = f;
            queue = queue_of (w.log.events ++ ready_event told ∷ []) w.base (after_fence w (kept_by (access_of w.shape.kind r.at)));
          } in k) (fun_ext unmoved_is)
          ∙ ap (λ (q : List Value). let k : Ledger = record { begun = λ i. nobody; stage = λ i. Unmoved; queue = q } in k) e

  -- a step of recovery
  pub recovered_works : RecoveredTo (with_recovery_step w r) (next_recovery w r)
  recovered_works = go (next_recovery w r) (recovery_row w.shape w.memory v.claimed v.waiting (queue_of w.log.events w.base w.log.effects) v.sound (omega (arith, v.clients)) r v.at)
    where
      go : (next : After Recovery (List Told)) → RecoversNext w.shape (with_access w.memory (access_of w.shape.kind r.at)) v.claimed v.waiting (queue_of w.log.events w.base w.log.effects) next → RecoveredTo (recovered_to w r next) next
      go (More next) h = goes_on next h
      go (Ready told) h = wakes told h

  pub recovered_part : IsPartOf (order_of w.log.effects) (order_of (with_recovery_step w r).log.effects)
  recovered_part = subst (λ e. IsPartOf (order_of w.log.effects) (order_of e)) same_effects (part_same (order_of w.log.effects))

-- where recovery waits, what it learnt is in range
module _ (s : Shape) (m : Memory) (claimed waiting : List ℕ) (queue : List Value) (b : Sound s m.kept claimed waiting queue) where
  link_fits : (cur node : ℕ) → links m.kept cur ≡ node → node ≤ greatest s
  link_fits cur node e = subst (λ x. x ≤ greatest s) e (b.fits (Next (node_of cur)) tt)

  answered_fits : (cur : ℕ) → AnsweredTo s (memory_at_rest m.kept) cur → cur ≤ greatest s
  answered_fits cur a = node_fits s m.kept claimed waiting queue b cur (in_left cur (0 ∷ claimed) waiting (answered_among s m.kept claimed waiting queue b cur a))

  taken_fits : (cur : ℕ) → TakenTo s m.kept claimed cur → cur ≤ greatest s
  taken_fits cur t = elim (in_end_of (end_of 0 claimed) t.passed) [
    | inl e ↦ subst (λ x. x ≤ greatest s) (sym (t.at ∙ e)) (node_fits s m.kept claimed waiting queue b (end_of 0 claimed) (in_left (end_of 0 claimed) (0 ∷ claimed) waiting (in_end_of 0 claimed)))
    | inr i ↦
        let p : (p : ℕ) × (links m.kept p ≡ end_of (end_of 0 claimed) t.passed) × (end_of (end_of 0 claimed) t.passed ≢ 0) = path_linked (links m.kept) (end_of 0 claimed) t.passed t.path (end_of (end_of 0 claimed) t.passed) i in
        subst (λ x. x ≤ greatest s) (sym t.at) (link_fits p.0 (end_of (end_of 0 claimed) t.passed) p.1)
  ]

  position_fits : (moved : Bool) (cur : ℕ) → Position s m.kept claimed moved cur → cur ≤ greatest s
  position_fits false cur p = answered_fits cur p
  position_fits true cur p = taken_fits cur p

  mark_fits : (node mark : ℕ) → Claim s m.kept claimed node mark → IsRecord s mark
  mark_fits node mark c = (omega (arith, c.some), subst (λ x. x ≤ greatest s) c.marked (b.fits (Mark (node_of node)) tt))

  token_fits : (client : Client) (token : ℕ) → Announced m.kept client.0 token → IsRecord s token
  token_fits client token a = (omega (arith, a.some), subst (λ x. x ≤ greatest s) a.names (b.fits (Announcement client) tt))

  number_fits : s.kind ≡ Log → (client token number : ℕ) → Announced m.kept client token → number ≡ numbers m.kept token → number ≤ 1099511627776
  number_fits log client token number a e =
      let entry : IsEntry (memory_at_rest m.kept) (announcements m.kept client) = (b.records queue).entry log client (λ z. a.some (sym a.names ∙ z)) in
      let same : numbers m.kept token ≡ entry.number = subst (λ x. numbers m.kept x ≡ entry.number) a.names entry.numbered.0 in
      subst (λ x. x ≤ 1099511627776) (sym (e ∙ same)) entry.in_range

  unclaimed_fits : (cur : ℕ) (n : Option NodeId) → Unclaimed s m.kept cur n → IfSome n (λ x. IsNode s x.0)
  unclaimed_fits cur None u = tt
  unclaimed_fits cur (Some n) u = link_fits cur n.0 u.0

  keeping_fits : (k : RecoveryKeeping) → AtKeeping s m claimed k → IsKeeping s k
  keeping_fits (KeepStatus p) a =
      (a.3, position_fits p.moved p.cur.0 a.2.position, link_fits p.cur.0 p.node.0 a.2.link, subst (IsRecord s) (sym a.4) (omega (arith, a.2.some), link_fits p.cur.0 p.node.0 a.2.link))
  keeping_fits (KeepResult p) a = (link_fits a.2.cur p.node.0 a.2.ahead.link, mark_fits p.node.0 p.mark.0 a.2)
  keeping_fits (KeepHead p) a = (answered_fits p.cur.0 a.2.answered, unclaimed_fits p.cur.0 p.unclaimed a.2.next)
  keeping_fits (KeepTail p) a = tt

  point_fits_at : (told : List Told) (at : RecoveryPoint) → AtPoint s m claimed waiting told at → IsPoint s at
  point_fits_at told (RecoveryLoadHead p) a = tt
  point_fits_at told (RecoveryLoadNext p) a = position_fits p.moved p.cur.0 a.1
  point_fits_at told (RecoveryLoadInsert p) a = (a.2, position_fits p.moved p.cur.0 a.1.position, link_fits p.cur.0 p.node.0 a.1.link)
  point_fits_at told (RecoveryStoreStatus p) a =
      (a.2, position_fits p.moved p.cur.0 a.1.position, link_fits p.cur.0 p.node.0 a.1.link, subst (IsRecord s) (sym a.3) (omega (arith, a.1.some), link_fits p.cur.0 p.node.0 a.1.link))
  point_fits_at told (RecoveryLoadMark p) a = (answered_fits p.cur.0 a.1.position, link_fits p.cur.0 p.node.0 a.1.link)
  point_fits_at told (RecoveryStoreResult p) a = (link_fits a.1.cur p.node.0 a.1.ahead.link, mark_fits p.node.0 p.mark.0 a.1)
  point_fits_at told (RecoveryStoreHead p) a = (answered_fits p.cur.0 a.1.answered, unclaimed_fits p.cur.0 p.unclaimed a.1.next)
  point_fits_at told (RecoveryStoreTail p) a = taken_fits p.cur.0 a.1.taken
  point_fits_at told (FlushPoint k) a = keeping_fits k a
  point_fits_at told (FencePoint k) a = keeping_fits k a
  point_fits_at told (RecoveryLoadAnnouncement p) a = a.1.below
  point_fits_at told (RecoveryLoadCell p) a = (a.3, a.1.below, token_fits p.client p.token.0 a.2)
  point_fits_at told (RecoveryLoadGot p) a =
      let claimed_now : IsAmong p.node.0 claimed = b.back p.node.0 (λ z. a.4.announced.some (sym a.4.marked ∙ z)) in
      (a.1.below, node_fits s m.kept claimed waiting queue b p.node.0 (inr (in_left p.node.0 claimed waiting claimed_now)))
  point_fits_at told (RecoveryLoadNumber p) a = (a.3, a.1.below, token_fits p.client p.token.0 a.2)
  point_fits_at told (RecoveryLoadKind p) a = (a.3, a.1.below, token_fits p.client p.token.0 a.2, number_fits a.3 p.client.0 p.token.0 p.number a.2 a.4)
  point_fits_at told (RecoveryLoadStatus p) a = (a.3, a.1.below, token_fits p.client p.token.0 a.2, number_fits a.3 p.client.0 p.token.0 p.number a.2 a.4)
  point_fits_at told (RecoveryLoadRemove p) a = (a.3, a.1.below, token_fits p.client p.token.0 a.2, number_fits a.3 p.client.0 p.token.0 p.number a.2 a.4)
  point_fits_at told (RecoveryLoadEntryNode p) a = (a.3, a.1.below, token_fits p.client p.token.0 a.2, number_fits a.3 p.client.0 p.token.0 p.number a.2 a.4)
  point_fits_at told (RecoveryLoadRemovedItem p) a =
      let claimed_now : IsAmong p.node.0 claimed = b.back p.node.0 (λ z. a.4.announced.some (sym a.4.marked ∙ z)) in
      (a.1.below, node_fits s m.kept claimed waiting queue b p.node.0 (inr (in_left p.node.0 claimed waiting claimed_now)), number_fits a.2 p.client.0 a.4.token p.number a.4.announced a.4.number)

  pub point_fits : (r : Recovery) → At s m claimed waiting r → IsPoint s r.at
  point_fits r a = point_fits_at r.told r.at a.point

  -- the node word of a dequeue's entry
  removed_fits : (token : ℕ) → entry_kinds m.kept token ≡ 2 → entry_nodes m.kept token ≤ greatest s
  removed_fits token kind = elim (cases_eq (entry_nodes m.kept token) 0) [
    | inl z ↦ omega (arith, z)
    | inr some ↦
        let n : (marks m.kept (entry_nodes m.kept token) ≡ token) × (token ≢ 0) = (b.records queue).node token (inl kind) some in
        let claimed_now : IsAmong (entry_nodes m.kept token) claimed = b.back (entry_nodes m.kept token) (λ z. n.1 (sym n.0 ∙ z)) in
        node_fits s m.kept claimed waiting queue b (entry_nodes m.kept token) (inr (in_left (entry_nodes m.kept token) claimed waiting claimed_now))
  ]

  -- where the result of a claimed node belongs
  result_word_fits : (node : NodeId) (mark : Token) → Claim s m.kept claimed node.0 mark.0 → (kind : Kind) → s.kind ≡ kind
      → Fits s (result_of kind mark node).place (m.kept (result_of kind mark node).place)
  result_word_fits node mark c Durable e = b.fits (Cell mark) tt
  result_word_fits node mark c Log e =
      let two : entry_kinds m.kept mark.0 ≡ 2 = subst (λ x. entry_kinds m.kept x ≡ 2) c.marked ((b.records queue).dequeued e node.0 (λ z. c.some (sym c.marked ∙ z))).0 in
      removed_fits mark.0 two

  -- a word that is cached as it is kept
  same_fits : Same m → (p : Place) → IsReadByCalls p → Fits s p (m.cached p)
  same_fits same p read = subst (Fits s p) (sym (same p)) (b.fits p read)

  -- each word that recovery reads is in range
  kept_fits : (k : RecoveryKeeping) → AtKeeping s m claimed k → Fits s (kept_place s.kind k) (m.cached (kept_place s.kind k))
  kept_fits (KeepStatus p) a = subst (λ x. x ≤ 2) (sym a.1) (omega arith)
  kept_fits (KeepResult p) a =
      subst (Fits s (result_of s.kind p.mark p.node).place) (sym a.1) (result_fits s s.kind p.mark p.node (link_fits a.2.cur p.node.0 a.2.ahead.link))
  kept_fits (KeepHead p) a = subst (λ x. x ≤ greatest s) (sym a.1) (answered_fits p.cur.0 a.2.answered)
  kept_fits (KeepTail p) a = subst (λ x. x ≤ greatest s) (sym a.1.cached) (taken_fits a.1.cur a.1.last.taken)

  reads_fit_at : (told : List Told) (at : RecoveryPoint) → AtPoint s m claimed waiting told at → Fits s (place_of (access_of s.kind at)) (m.cached (place_of (access_of s.kind at)))
  reads_fit_at told (RecoveryLoadHead p) a = same_fits a Head tt
  reads_fit_at told (RecoveryLoadNext p) a = same_fits a.0 (Next p.cur) tt
  reads_fit_at told (RecoveryLoadInsert p) a =
      let linked : links m.kept p.cur.0 ≢ 0 = λ z. a.1.some (sym a.1.link ∙ z) in
      let insert : inserts m.kept p.node.0 ≡ p.node.0 = subst (λ x. inserts m.kept x ≡ x) a.1.link ((b.records queue).enqueued a.2 p.cur.0 linked).insert.0 in
      subst (λ x. x ≤ greatest s) (sym (a.0 (Insert p.node) ∙ insert)) (link_fits p.cur.0 p.node.0 a.1.link)
  reads_fit_at told (RecoveryStoreStatus p) a = same_fits a.0 (Status p.entry) tt
  reads_fit_at told (RecoveryLoadMark p) a = same_fits a.0 (Mark p.node) tt
  reads_fit_at told (RecoveryStoreResult p) a =
      subst (Fits s (result_of s.kind p.mark p.node).place) (sym (a.0 (result_of s.kind p.mark p.node).place)) (result_word_fits p.node p.mark a.1 s.kind refl)
  reads_fit_at told (RecoveryStoreHead p) a = same_fits a.0 Head tt
  reads_fit_at told (RecoveryStoreTail p) a = same_fits a.0 Tail tt
  reads_fit_at told (FlushPoint k) a = kept_fits k a
  reads_fit_at told (FencePoint k) a = kept_fits k a
  reads_fit_at told (RecoveryLoadAnnouncement p) a = same_fits a.0 (Announcement p.client) tt
  reads_fit_at told (RecoveryLoadCell p) a = same_fits a.0 (Cell p.token) tt
  reads_fit_at told (RecoveryLoadNumber p) a = number_fits a.3 p.client.0 p.token.0 (m.cached (Number p.token)) a.2 (a.0 (Number p.token))
  reads_fit_at told (RecoveryLoadKind p) a = same_fits a.0 (EntryKind p.token) tt
  reads_fit_at told (RecoveryLoadStatus p) a = same_fits a.0 (Status p.token) tt
  reads_fit_at told (RecoveryLoadRemove p) a = same_fits a.0 (Mark (node_of p.token.0)) tt
  reads_fit_at told (RecoveryLoadEntryNode p) a =
      subst (λ x. x ≤ greatest s) (sym (a.0 (EntryNode p.token))) (removed_fits p.token.0 (dequeue_entry s m claimed waiting queue b p.client p.token a.2 a.3 a.5))
  reads_fit_at told (RecoveryLoadGot p) a = tt
  reads_fit_at told (RecoveryLoadRemovedItem p) a = tt

  pub reads_fit : (r : Recovery) → At s m claimed waiting r → Fits s (place_of (access_of s.kind r.at)) (m.cached (place_of (access_of s.kind r.at)))
  reads_fit r a = reads_fit_at r.told r.at a.point

  -- every word but the one that recovery stored is cached as it is kept
  but_fits : (q : Place) → SameBut m q → Fits s q (m.cached q) → (p : Place) → IsReadByCalls p → Fits s p (m.cached p)
  but_fits q same fit p read = elim (put_cases m.kept q 0 p) [
    | inl t ↦ subst (λ x. Fits s x (m.cached x)) (sym t.0) fit
    | inr t ↦ subst (Fits s p) (sym (same p t.0)) (b.fits p read)
  ]

  -- each word that calls will read is in range
  all_fit_but : (k : RecoveryKeeping) → AtKeeping s m claimed k → AllFit s m.cached
  all_fit_but (KeepStatus p) a = but_fits (Status p.entry) a.0 (kept_fits (KeepStatus p) a)
  all_fit_but (KeepResult p) a = but_fits (result_of s.kind p.mark p.node).place a.0 (kept_fits (KeepResult p) a)
  all_fit_but (KeepHead p) a = but_fits Head a.0 (kept_fits (KeepHead p) a)
  all_fit_but (KeepTail p) a = but_fits Tail a.0 (kept_fits (KeepTail p) a)

  all_fit_at : (told : List Told) (at : RecoveryPoint) → AtPoint s m claimed waiting told at → AllFit s m.cached
  all_fit_at told (RecoveryLoadHead p) a = same_fits a
  all_fit_at told (RecoveryLoadNext p) a = same_fits a.0
  all_fit_at told (RecoveryLoadInsert p) a = same_fits a.0
  all_fit_at told (RecoveryStoreStatus p) a = same_fits a.0
  all_fit_at told (RecoveryLoadMark p) a = same_fits a.0
  all_fit_at told (RecoveryStoreResult p) a = same_fits a.0
  all_fit_at told (RecoveryStoreHead p) a = same_fits a.0
  all_fit_at told (RecoveryStoreTail p) a = same_fits a.0
  all_fit_at told (FlushPoint k) a = all_fit_but k a
  all_fit_at told (FencePoint k) a = all_fit_but k a
  all_fit_at told (RecoveryLoadAnnouncement p) a = same_fits a.0
  all_fit_at told (RecoveryLoadCell p) a = same_fits a.0
  all_fit_at told (RecoveryLoadNumber p) a = same_fits a.0
  all_fit_at told (RecoveryLoadKind p) a = same_fits a.0
  all_fit_at told (RecoveryLoadStatus p) a = same_fits a.0
  all_fit_at told (RecoveryLoadRemove p) a = same_fits a.0
  all_fit_at told (RecoveryLoadEntryNode p) a = same_fits a.0
  all_fit_at told (RecoveryLoadGot p) a = same_fits a.0
  all_fit_at told (RecoveryLoadRemovedItem p) a = same_fits a.0

  pub all_fit : (r : Recovery) → At s m claimed waiting r → AllFit s m.cached
  all_fit r a = all_fit_at r.told r.at a.point

-- what holds when recovery is done
pub woken : (w : World) (r : Recovery) (v : Recovering w r) (told : List Told) → next_recovery w r ≡ Ready told
    → Woken w.shape (with_recovery_step w r).memory v.claimed v.waiting (queue_of w.log.events w.base w.log.effects) told
woken w r v told e =
    subst (RecoversNext w.shape (with_access w.memory (access_of w.shape.kind r.at)) v.claimed v.waiting (queue_of w.log.events w.base w.log.effects)) e
    (recovery_row w.shape w.memory v.claimed v.waiting (queue_of w.log.events w.base w.log.effects) v.sound (omega (arith, v.clients)) r v.at)

-- what recovery answers then: sixteen clients are told what the kept words tell
pub told_woken : (w : World) (r : Recovery) → Recovering w r → (told : List Told) → next_recovery w r ≡ Ready told → (length told ≡ 16) × ((t : ℕ) (x : Told) → slice_get told t ≡ Some x → TellsOf w.shape (with_recovery_step w r).memory.kept t x)
told_woken w r v told e =
    let h : Woken w.shape (with_recovery_step w r).memory v.claimed v.waiting (queue_of w.log.events w.base w.log.effects) told = woken w r v told e in
    (h.sixteen, h.tells)
