-- The table of recovery: the access of each waiting point, and what comes then.
use Rattle.std.specs.Prelude.{◌≡◌, ℕ, ◌+◌, ◌-◌, ◌≤◌, Bool, true, false, ◌&&◌, not, List, replicate, slice_set, Option, Some, None, if◌then◌else◌, ◌==◌, nat_lt, IfSome}
use Rattle.words.specs.PlainQueue.{Value}
use Rattle.words.specs.declared.call.Kind.{Kind}
use Rattle.words.specs.declared.call.Kind.TheVariants.{Durable, Log}
use Rattle.words.specs.declared.call.Client.{Client}
use Rattle.words.specs.declared.call.NodeId.{NodeId}
use Rattle.words.specs.declared.call.Token.{Token}
use Rattle.words.specs.declared.call.Reply.{Reply}
use Rattle.words.specs.declared.call.Reply.TheVariants.{Done, Got, Empty}
use Rattle.words.specs.declared.told.Outcome.TheVariants.{NotTaken, Taken}
use Rattle.words.specs.declared.told.Row.TheVariants.{Open, Empty as row_empty, Got as row_got}
use Rattle.words.specs.declared.told.Told.{Told}
use Rattle.words.specs.declared.told.Told.TheVariants.{None as told_none, Verdict as told_verdict, Row as told_row}
use Rattle.words.specs.declared.limits.TheConstants.{MAX_CALL_NUMBER, MAX_CLIENTS}
use Rattle.arena.specs.declared.codes.TheConstants.{EMPTY_CELL, EMPTY_STATUS, ENQUEUE_KIND, GOT_CELL, TAKEN_STATUS}
use Rattle.persist.specs.Memory.{Words, Access, Load, Store, Flush, Fence}
use Rattle.arena.specs.Shape.{Shape}
use Rattle.arena.specs.Place.{IsClient, IsNode, IsRecord}
use Rattle.arena.specs.Answers.{result_of}
use Rattle.arena.specs.declared.place.Write.{Write}
use Rattle.arena.specs.declared.place.Place.{Place}
use Rattle.arena.specs.declared.place.Place.TheVariants.{Head, Tail, Announcement, Item, Next, Mark, Cell, Insert, Number, EntryKind, Status, EntryNode}
use Rattle.words.specs.Told.{no_call}
use Rattle.stepper.specs.Loading.{part_next, loaded_with}
use Rattle.stepper.specs.Step.{value_found}
use Rattle.stepper.specs.declared.loading.Loading.{Loading}
use Rattle.stepper.specs.declared.loading.Loading.TheVariants.{Length as at_length}
use Rattle.stepper.specs.declared.resume.After.{After}
use Rattle.stepper.specs.declared.resume.After.TheVariants.{More, Done as Ended}
use Rattle.recover.specs.declared.recovery.Recovery.{Recovery}
use Rattle.recover.specs.declared.point.Report.{Report}
use Rattle.recover.specs.declared.point.RecoveryPoint.{RecoveryPoint}
use Rattle.recover.specs.declared.point.RecoveryPoint.TheVariants.{RecoveryLoadHead, RecoveryLoadNext, RecoveryLoadInsert, RecoveryStoreStatus, RecoveryLoadMark, RecoveryStoreResult, RecoveryStoreHead, RecoveryStoreTail, RecoveryLoadAnnouncement, RecoveryLoadCell, RecoveryLoadGot, RecoveryLoadNumber, RecoveryLoadKind, RecoveryLoadStatus, RecoveryLoadRemove, RecoveryLoadEntryNode, RecoveryLoadRemovedItem, Flush as FlushPoint, Fence as FencePoint}
use Rattle.recover.specs.declared.telling.RecoveryLoadGot.{RecoveryLoadGot as GotPoint}
use Rattle.recover.specs.declared.telling.RecoveryLoadRemovedItem.{RecoveryLoadRemovedItem as RemovedPoint}
use Rattle.recover.specs.declared.keeping.RecoveryKeeping.{RecoveryKeeping}
use Rattle.recover.specs.declared.keeping.RecoveryKeeping.TheVariants.{Status as KeepStatus, Result as KeepResult, Head as KeepHead, Tail as KeepTail}

abbrev pub node_at : ℕ → NodeId
node_at n = record { 0 = n }

abbrev pub token_at : ℕ → Token
token_at n = record { 0 = n }

abbrev pub store : Write → Access Place
store w = Store w.place w.value

-- the place whose word is kept
abbrev pub kept_place : Kind → RecoveryKeeping → Place
kept_place kind (KeepStatus p) = Status p.entry
kept_place kind (KeepResult p) = (result_of kind p.mark p.node).place
kept_place kind (KeepHead p) = Head
kept_place kind (KeepTail p) = Tail

-- the two accesses that keep a word: it is asked for, and then waited for
abbrev pub flush_of : Shape → RecoveryKeeping → Access Place
flush_of s k = Flush (kept_place s.kind k)

abbrev pub fence_of : Shape → RecoveryKeeping → Access Place
fence_of s k = Fence (kept_place s.kind k)

-- the one access of each waiting point
abbrev pub access_of : Kind → RecoveryPoint → Access Place
access_of kind (RecoveryLoadHead p) = Load Head
access_of kind (RecoveryLoadNext p) = Load (Next p.cur)
access_of kind (RecoveryLoadInsert p) = Load (Insert p.node)
access_of kind (RecoveryStoreStatus p) = Store (Status p.entry) TAKEN_STATUS
access_of kind (RecoveryLoadMark p) = Load (Mark p.node)
access_of kind (RecoveryStoreResult p) = store (result_of kind p.mark p.node)
access_of kind (RecoveryStoreHead p) = Store Head p.cur.0
access_of kind (RecoveryStoreTail p) = Store Tail p.cur.0
access_of kind (RecoveryLoadAnnouncement p) = Load (Announcement p.client)
access_of kind (RecoveryLoadCell p) = Load (Cell p.token)
access_of kind (RecoveryLoadGot p) = Load (Item p.node (part_next p.loading))
access_of kind (RecoveryLoadNumber p) = Load (Number p.token)
access_of kind (RecoveryLoadKind p) = Load (EntryKind p.token)
access_of kind (RecoveryLoadStatus p) = Load (Status p.token)
access_of kind (RecoveryLoadRemove p) = Load (Mark (node_at p.token.0))
access_of kind (RecoveryLoadEntryNode p) = Load (EntryNode p.token)
access_of kind (RecoveryLoadRemovedItem p) = Load (Item p.node (part_next p.loading))
access_of kind (FlushPoint k) = Flush (kept_place kind k)
access_of kind (FencePoint k) = Fence (kept_place kind k)

-- past the last node: the head, if it is not right yet, else the tail
abbrev pub point_at_the_end : NodeId → Bool → RecoveryPoint
point_at_the_end cur true = RecoveryStoreTail (record { cur = cur })
point_at_the_end cur false = RecoveryStoreHead (record { cur = cur; unclaimed = None })

-- past a node's status: past the last claimed node no mark is looked at
abbrev pub point_past_status : NodeId → NodeId → Bool → RecoveryPoint
point_past_status cur node true = RecoveryLoadNext (record { cur = node; moved = true })
point_past_status cur node false = RecoveryLoadMark (record { cur = cur; node = node })

abbrev pub to_node : Kind → NodeId → NodeId → Bool → RecoveryPoint
to_node Durable cur node moved = point_past_status cur node moved
to_node Log cur node moved = RecoveryLoadInsert (record { cur = cur; node = node; moved = moved })

abbrev pub past_head : NodeId → Option NodeId → RecoveryPoint
past_head cur (Some node) = RecoveryLoadNext (record { cur = node; moved = true })
past_head cur None = RecoveryStoreTail (record { cur = cur })

abbrev pub taken_as : ℕ → Reply → Told
taken_as number reply = told_verdict (record { number = number; outcome = Taken reply })

abbrev pub not_taken_as : ℕ → Told
not_taken_as number = told_verdict (record { number = number; outcome = NotTaken })

-- a client is told this
abbrev pub report_of : Client → Told → After RecoveryPoint Report
report_of client told = Ended (record { client = client; told = told })

-- what a cell says: of a node that it names the message comes
abbrev pub to_row : Client → ℕ → After RecoveryPoint Report
to_row client answer =
    if answer == 0 then report_of client (told_row Open)
    else (if answer == EMPTY_CELL then report_of client (told_row row_empty)
    else More (RecoveryLoadGot (record { client = client; node = node_at (answer - GOT_CELL); loading = at_length })))

-- the next part of the message is loaded, and after the last the client is told
abbrev pub got_with : GotPoint → After Loading Value → After RecoveryPoint Report
got_with p (More loading) = More (RecoveryLoadGot (record { client = p.client; node = p.node; loading = loading }))
got_with p (Ended value) = report_of p.client (told_row (row_got value))

abbrev pub removed_with : RemovedPoint → After Loading Value → After RecoveryPoint Report
removed_with p (More loading) = More
    (RecoveryLoadRemovedItem (record { client = p.client; number = p.number; node = p.node; loading = loading }))
removed_with p (Ended value) = report_of p.client (taken_as p.number (Got value))

abbrev pub to_answer : Kind → Client → Token → RecoveryPoint
to_answer Durable client token = RecoveryLoadCell (record { client = client; token = token })
to_answer Log client token = RecoveryLoadNumber (record { client = client; token = token })

abbrev pub to_outcome : Bool → Client → Token → ℕ → RecoveryPoint
to_outcome true client token number = RecoveryLoadRemove (record { client = client; token = token; number = number })
to_outcome false client token number =
    RecoveryLoadEntryNode (record { client = client; token = token; number = number })

-- what comes once the word is kept
abbrev pub point_after_keeping : RecoveryKeeping → RecoveryPoint
point_after_keeping (KeepStatus p) = point_past_status p.cur p.node p.moved
point_after_keeping (KeepResult p) = RecoveryLoadNext (record { cur = p.node; moved = false })
point_after_keeping (KeepHead p) = past_head p.cur p.unclaimed
point_after_keeping (KeepTail p) = RecoveryLoadAnnouncement (record { client = record { 0 = 0 } })

-- what comes after the access found this value
abbrev pub successor : Shape → RecoveryPoint → ℕ → After RecoveryPoint Report
successor s (RecoveryLoadHead p) found = More (RecoveryLoadNext (record { cur = node_at found; moved = false }))
successor s (RecoveryLoadNext p) found =
    More (if found == 0 then point_at_the_end p.cur p.moved else to_node s.kind p.cur (node_at found) p.moved)
successor s (RecoveryLoadInsert p) found =
    More (RecoveryStoreStatus (record { cur = p.cur; node = p.node; entry = token_at found; moved = p.moved }))
successor s (RecoveryStoreStatus p) found =
    More (FlushPoint (KeepStatus (record { cur = p.cur; node = p.node; entry = p.entry; moved = p.moved })))
successor s (RecoveryLoadMark p) found =
    More (if found == 0 then RecoveryStoreHead (record { cur = p.cur; unclaimed = Some p.node })
    else RecoveryStoreResult (record { node = p.node; mark = token_at found }))
successor s (RecoveryStoreResult p) found =
    More (FlushPoint (KeepResult (record { node = p.node; mark = p.mark })))
successor s (RecoveryStoreHead p) found = More (FlushPoint (KeepHead (record { cur = p.cur; unclaimed = p.unclaimed })))
successor s (RecoveryStoreTail p) found = More (FlushPoint (KeepTail (record {})))
successor s (RecoveryLoadAnnouncement p) found =
    if found == 0 then report_of p.client (no_call s.kind) else More (to_answer s.kind p.client (token_at found))
successor s (RecoveryLoadCell p) found = to_row p.client found
successor s (RecoveryLoadGot p) found = got_with p (loaded_with p.loading found)
successor s (RecoveryLoadNumber p) found =
    More (RecoveryLoadKind (record { client = p.client; token = p.token; number = found }))
successor s (RecoveryLoadKind p) found =
    More (RecoveryLoadStatus
    (record { client = p.client; token = p.token; number = p.number; is_enqueue = found == ENQUEUE_KIND }))
successor s (RecoveryLoadStatus p) found =
    if p.is_enqueue && (found == TAKEN_STATUS) then report_of p.client (taken_as p.number Done)
    else (if (not p.is_enqueue) && (found == EMPTY_STATUS) then report_of p.client (taken_as p.number Empty)
    else More (to_outcome p.is_enqueue p.client p.token p.number))
successor s (RecoveryLoadRemove p) found =
    report_of p.client (if found == 0 then not_taken_as p.number else taken_as p.number Done)
successor s (RecoveryLoadEntryNode p) found =
    if found == 0 then report_of p.client (not_taken_as p.number)
    else More (RecoveryLoadRemovedItem
    (record { client = p.client; number = p.number; node = node_at found; loading = at_length }))
successor s (RecoveryLoadRemovedItem p) found = removed_with p (loaded_with p.loading found)
successor s (FlushPoint k) found = More (FencePoint k)
successor s (FencePoint k) found = More (point_after_keeping k)

-- a client's report is noted, and the next client comes; after the last the queue is ready, and each is told what was
-- noted
abbrev pub after_report : Shape → List Told → Report → After Recovery (List Told)
after_report s told report =
    if nat_lt (report.client.0 + 1) s.clients
    then More (record {
      told = slice_set told report.client.0 report.told;
      at = RecoveryLoadAnnouncement (record { client = record { 0 = report.client.0 + 1 } });
    })
    else Ended (slice_set told report.client.0 report.told)

abbrev pub recovery_at : Shape → List Told → After RecoveryPoint Report → After Recovery (List Told)
recovery_at s told (More at) = More (record { told = told; at = at })
recovery_at s told (Ended report) = after_report s told report

-- what comes after a step of recovery whose access found this value
abbrev pub recovery_after : Shape → Recovery → ℕ → After Recovery (List Told)
recovery_after s r found = recovery_at s r.told (successor s r.at found)

-- and after its next step on these words
abbrev pub recovery_next : Shape → Recovery → Words → After Recovery (List Told)
recovery_next s r ws = recovery_after s r (value_found s (access_of s.kind r.at) ws)

-- the same, as a recovery and whether it is at its end
abbrev pub recovery_reached : Bool → Recovery → After Recovery (List Told)
recovery_reached true r = Ended r.told
recovery_reached false r = More r

-- where it begins
abbrev pub boot_recovery : Recovery
boot_recovery = record { told = replicate MAX_CLIENTS told_none; at = RecoveryLoadHead (record {}) }

-- what it learnt of what it keeps is in range
abbrev pub IsKeeping : Shape → RecoveryKeeping → Type 0
IsKeeping s (KeepStatus p) = (s.kind ≡ Log) × IsNode s p.cur.0 × IsNode s p.node.0 × IsRecord s p.entry.0
IsKeeping s (KeepResult p) = IsNode s p.node.0 × IsRecord s p.mark.0
IsKeeping s (KeepHead p) = IsNode s p.cur.0 × IfSome p.unclaimed (λ n. IsNode s n.0)
IsKeeping s (KeepTail p) = Unit {0}

-- what it learnt is in range
abbrev pub IsPoint : Shape → RecoveryPoint → Type 0
IsPoint s (RecoveryLoadHead p) = Unit {0}
IsPoint s (RecoveryLoadNext p) = IsNode s p.cur.0
IsPoint s (RecoveryLoadInsert p) = (s.kind ≡ Log) × IsNode s p.cur.0 × IsNode s p.node.0
IsPoint s (RecoveryStoreStatus p) = (s.kind ≡ Log) × IsNode s p.cur.0 × IsNode s p.node.0 × IsRecord s p.entry.0
IsPoint s (RecoveryLoadMark p) = IsNode s p.cur.0 × IsNode s p.node.0
IsPoint s (RecoveryStoreResult p) = IsNode s p.node.0 × IsRecord s p.mark.0
IsPoint s (RecoveryStoreHead p) = IsNode s p.cur.0 × IfSome p.unclaimed (λ n. IsNode s n.0)
IsPoint s (RecoveryStoreTail p) = IsNode s p.cur.0
IsPoint s (RecoveryLoadAnnouncement p) = IsClient s p.client.0
IsPoint s (RecoveryLoadCell p) = (s.kind ≡ Durable) × IsClient s p.client.0 × IsRecord s p.token.0
IsPoint s (RecoveryLoadGot p) = IsClient s p.client.0 × IsNode s p.node.0
IsPoint s (RecoveryLoadNumber p) = (s.kind ≡ Log) × IsClient s p.client.0 × IsRecord s p.token.0
IsPoint s (RecoveryLoadKind p) =
    (s.kind ≡ Log) × IsClient s p.client.0 × IsRecord s p.token.0 × (p.number ≤ MAX_CALL_NUMBER)
IsPoint s (RecoveryLoadStatus p) =
    (s.kind ≡ Log) × IsClient s p.client.0 × IsRecord s p.token.0 × (p.number ≤ MAX_CALL_NUMBER)
IsPoint s (RecoveryLoadRemove p) =
    (s.kind ≡ Log) × IsClient s p.client.0 × IsRecord s p.token.0 × (p.number ≤ MAX_CALL_NUMBER)
IsPoint s (RecoveryLoadEntryNode p) =
    (s.kind ≡ Log) × IsClient s p.client.0 × IsRecord s p.token.0 × (p.number ≤ MAX_CALL_NUMBER)
IsPoint s (RecoveryLoadRemovedItem p) = IsClient s p.client.0 × IsNode s p.node.0 × (p.number ≤ MAX_CALL_NUMBER)
IsPoint s (FlushPoint k) = IsKeeping s k
IsPoint s (FencePoint k) = IsKeeping s k
