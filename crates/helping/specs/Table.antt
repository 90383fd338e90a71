-- The table of the steps: the access of each waiting point, and what comes then.
use Rattle.std.specs.Prelude.{ℕ, if◌then◌else◌, ◌==◌}
use Rattle.words.specs.PlainQueue.{Value}
use Rattle.words.specs.declared.call.Kind.{Kind}
use Rattle.words.specs.declared.call.NodeId.{NodeId}
use Rattle.words.specs.declared.call.Token.{Token}
use Rattle.words.specs.declared.call.Call.{Call}
use Rattle.words.specs.declared.call.Call.TheVariants.{Enq, Deq}
use Rattle.words.specs.declared.call.Reply.{Reply}
use Rattle.words.specs.declared.call.Reply.TheVariants.{Done as Answered, Got, Empty}
use Rattle.persist.specs.Memory.{Access, Load, Store, Cas, Flush, Fence}
use Rattle.arena.specs.Shape.{Shape}
use Rattle.arena.specs.Place.{IsNode, IsRecord}
use Rattle.arena.specs.Answers.{empty_answer_of, result_of}
use Rattle.arena.specs.declared.place.Write.{Write}
use Rattle.arena.specs.declared.place.Place.{Place}
use Rattle.arena.specs.declared.place.Place.TheVariants.{Head, Tail, Item, Next, Mark}
use Rattle.stepper.specs.Preparation.{prepared_to, access_of as prepare_access, successor as prepare_successor, IsPoint as IsPreparePoint}
use Rattle.stepper.specs.Loading.{part_next, loaded_with}
use Rattle.stepper.specs.declared.loading.Loading.{Loading}
use Rattle.stepper.specs.declared.loading.Loading.TheVariants.{Length as at_length}
use Rattle.stepper.specs.declared.resume.After.{After}
use Rattle.stepper.specs.declared.resume.After.TheVariants.{More, Done}
use Rattle.stepper.specs.declared.prepare.Begun.{Begun}
use Rattle.stepper.specs.declared.prepare.Prepare.{Prepare}
use Rattle.stepper.specs.declared.prepare.Prepare.TheVariants.{Store as prepare_store, Flush as prepare_flush, Fence as prepare_fence}
use Rattle.helping.specs.Claims.{winner}
use Rattle.helping.specs.declared.dequeue.Claim.{Claim}
use Rattle.helping.specs.declared.dequeue.Claimed.{Claimed}
use Rattle.helping.specs.declared.dequeue.DequeueClaim.{DequeueClaim as ClaimPoint}
use Rattle.helping.specs.declared.dequeue.DequeueLoadItem.{DequeueLoadItem as LoadPoint}
use Rattle.helping.specs.declared.dequeue.Claim.TheVariants.{Won, LostTo}
use Rattle.helping.specs.declared.op.Op.{Op}
use Rattle.helping.specs.declared.op.Op.TheVariants.{PrepareStore, PrepareFlush, PrepareFence, EnqueueLoadTail, EnqueueLoadNext, EnqueueCheckTail, EnqueueLink, EnqueueMoveTail, EnqueueHelpTail, DequeueLoadHead, DequeueLoadTail, DequeueLoadNext, DequeueCheckHead, DequeueStoreEmpty, DequeueHelpTail, DequeueLoadItem, DequeueClaim, DequeueStoreResult, DequeueMoveHead, Flush as FlushPoint, Fence as FencePoint}
use Rattle.helping.specs.declared.keeping.Keeping.{Keeping}
use Rattle.helping.specs.declared.keeping.Keeping.TheVariants.{Link as KeepLink, PassedLink as KeepPassedLink, Empty as KeepEmpty, DequeuePassedLink as KeepDequeuePassedLink, Claim as KeepClaim, Result as KeepResult}

abbrev pub node_of : ℕ → NodeId
node_of n = record { 0 = n }

abbrev pub token_of : ℕ → Token
token_of n = record { 0 = n }

-- the store of a write
abbrev pub store : Write → Access Place
store w = Store w.place w.value

-- the place whose word is kept
abbrev pub kept_place : Kind → Keeping → Place
kept_place kind (KeepLink p) = Next p.last
kept_place kind (KeepPassedLink p) = Next p.last
kept_place kind (KeepEmpty p) = (empty_answer_of kind p.token).place
kept_place kind (KeepDequeuePassedLink p) = Next p.last
kept_place kind (KeepClaim p) = Mark p.claimed.next
kept_place kind (KeepResult p) =
    (result_of kind (winner p.claimed.claim p.claimed.token) p.claimed.next).place

-- the two accesses that keep a word: it is asked for, and then waited for
abbrev pub flush_of : Shape → Keeping → Access Place
flush_of s k = Flush (kept_place s.kind k)

abbrev pub fence_of : Shape → Keeping → Access Place
fence_of s k = Fence (kept_place s.kind k)

-- the one access of each waiting point
abbrev pub access_of : Kind → Op → Access Place
access_of kind (PrepareStore p) = prepare_access (prepare_store p)
access_of kind (PrepareFlush p) = prepare_access (prepare_flush p)
access_of kind (PrepareFence p) = prepare_access (prepare_fence p)
access_of kind (EnqueueLoadTail p) = Load Tail
access_of kind (EnqueueLoadNext p) = Load (Next p.last)
access_of kind (EnqueueCheckTail p) = Load Tail
access_of kind (EnqueueLink p) = Cas (Next p.last) 0 p.node.0
access_of kind (EnqueueMoveTail p) = Cas Tail p.last.0 p.node.0
access_of kind (EnqueueHelpTail p) = Cas Tail p.last.0 p.next.0
access_of kind (DequeueLoadHead p) = Load Head
access_of kind (DequeueLoadTail p) = Load Tail
access_of kind (DequeueLoadNext p) = Load (Next p.first)
access_of kind (DequeueCheckHead p) = Load Head
access_of kind (DequeueStoreEmpty p) = store (empty_answer_of kind p.token)
access_of kind (DequeueHelpTail p) = Cas Tail p.last.0 p.next.0
access_of kind (DequeueLoadItem p) = Load (Item p.next (part_next p.loading))
access_of kind (DequeueClaim p) = Cas (Mark p.next) 0 p.token.0
access_of kind (DequeueStoreResult p) =
    store (result_of kind (winner p.claimed.claim p.claimed.token) p.claimed.next)
access_of kind (DequeueMoveHead p) = Cas Head p.claimed.first.0 p.claimed.next.0
access_of kind (FlushPoint k) = Flush (kept_place kind k)
access_of kind (FencePoint k) = Fence (kept_place kind k)

-- where a call acts, once its record is prepared
abbrev pub first_from : Call → Begun → Op
first_from (Enq value) b = EnqueueLoadTail (record { node = node_of b.token.0 })
first_from Deq b = DequeueLoadHead (record { token = b.token })

abbrev pub first_of : Begun → Op
first_of b = first_from b.call b

-- where the call of a preparation waits: in it, or, at its end, where it acts
abbrev pub prepared_op : After Prepare Begun → Op
prepared_op (More (prepare_store p)) = PrepareStore p
prepared_op (More (prepare_flush p)) = PrepareFlush p
prepared_op (More (prepare_fence p)) = PrepareFence p
prepared_op (Done b) = first_of b

-- where a call begins that took its record
abbrev pub begun_at : Kind → Begun → Op
begun_at kind b = prepared_op (prepared_to kind b 0)

-- a winner is answered, a loser begins anew
abbrev pub answer_or_again : Claim → Token → Value → After Op Reply
answer_or_again Won token value = Done (Got value)
answer_or_again (LostTo other) token value = More (DequeueLoadHead (record { token = token }))

-- how a claim went, by what its swap found; and what is known then
abbrev pub claim_by : ℕ → Claim
claim_by found = if found == 0 then Won else LostTo (token_of found)

abbrev pub claimed_at : ClaimPoint → Claim → Claimed
claimed_at p claim = record { token = p.token; first = p.first; next = p.next; value = p.value; claim = claim }

-- the next part is loaded, and after the last the node is claimed
abbrev pub with_loaded : LoadPoint → After Loading Value → Op
with_loaded p (More loading) =
    DequeueLoadItem (record { token = p.token; first = p.first; next = p.next; loading = loading })
with_loaded p (Done value) =
    DequeueClaim (record { token = p.token; first = p.first; next = p.next; value = value })

-- what comes once the word is kept
abbrev pub after_keeping : Keeping → After Op Reply
after_keeping (KeepLink p) = More (EnqueueMoveTail (record { node = p.node; last = p.last }))
after_keeping (KeepPassedLink p) = More (EnqueueHelpTail (record { node = p.node; last = p.last; next = p.next }))
after_keeping (KeepEmpty p) = Done Empty
after_keeping (KeepDequeuePassedLink p) =
    More (DequeueHelpTail (record { token = p.token; last = p.last; next = p.next }))
after_keeping (KeepClaim p) = More (DequeueStoreResult (record { claimed = p.claimed }))
after_keeping (KeepResult p) = More (DequeueMoveHead (record { claimed = p.claimed }))

-- what comes after the access found this value
abbrev pub successor : Kind → Op → ℕ → After Op Reply
successor kind (PrepareStore p) found = More (prepared_op (prepare_successor kind (prepare_store p)))
successor kind (PrepareFlush p) found = More (prepared_op (prepare_successor kind (prepare_flush p)))
successor kind (PrepareFence p) found = More (prepared_op (prepare_successor kind (prepare_fence p)))
successor kind (EnqueueLoadTail p) found = More (EnqueueLoadNext (record { node = p.node; last = node_of found }))
successor kind (EnqueueLoadNext p) found =
    More (EnqueueCheckTail (record { node = p.node; last = p.last; next = node_of found }))
successor kind (EnqueueCheckTail p) found =
    if found == p.last.0
    then (if p.next.0 == 0
    then More (EnqueueLink (record { node = p.node; last = p.last }))
    else More (FlushPoint (KeepPassedLink (record { node = p.node; last = p.last; next = p.next }))))
    else More (EnqueueLoadTail (record { node = p.node }))
successor kind (EnqueueLink p) found =
    if found == 0
    then More (FlushPoint (KeepLink (record { node = p.node; last = p.last })))
    else More (EnqueueLoadTail (record { node = p.node }))
successor kind (EnqueueMoveTail p) found = Done Answered
successor kind (EnqueueHelpTail p) found = More (EnqueueLoadTail (record { node = p.node }))
successor kind (DequeueLoadHead p) found = More (DequeueLoadTail (record { token = p.token; first = node_of found }))
successor kind (DequeueLoadTail p) found =
    More (DequeueLoadNext (record { token = p.token; first = p.first; last = node_of found }))
successor kind (DequeueLoadNext p) found =
    More (DequeueCheckHead (record { token = p.token; first = p.first; last = p.last; next = node_of found }))
successor kind (DequeueCheckHead p) found =
    if found == p.first.0
    then (if p.first.0 == p.last.0
    then (if p.next.0 == 0
    then More (DequeueStoreEmpty (record { token = p.token }))
    else More (FlushPoint (KeepDequeuePassedLink (record { token = p.token; last = p.last; next = p.next }))))
    else More (DequeueLoadItem (record { token = p.token; first = p.first; next = p.next; loading = at_length })))
    else More (DequeueLoadHead (record { token = p.token }))
successor kind (DequeueStoreEmpty p) found = More (FlushPoint (KeepEmpty (record { token = p.token })))
successor kind (DequeueHelpTail p) found = More (DequeueLoadHead (record { token = p.token }))
successor kind (DequeueLoadItem p) found = More (with_loaded p (loaded_with p.loading found))
successor kind (DequeueClaim p) found = More (FlushPoint (KeepClaim (record { claimed = claimed_at p (claim_by found) })))
successor kind (DequeueStoreResult p) found = More (FlushPoint (KeepResult (record { claimed = p.claimed })))
successor kind (DequeueMoveHead p) found = answer_or_again p.claimed.claim p.claimed.token p.claimed.value
successor kind (FlushPoint k) found = More (FencePoint k)
successor kind (FencePoint k) found = after_keeping k

-- the numbers of a claim, and of what follows it
abbrev pub IsClaiming : Shape → ℕ → ℕ → ℕ → Type 0
IsClaiming s token first next = IsRecord s token × IsNode s first × IsNode s next

abbrev pub IsClaimedAt : Shape → Claimed → Type 0
IsClaimedAt s c = IsClaiming s c.token.0 c.first.0 c.next.0 × IsRecord s (winner c.claim c.token).0

-- what it learnt of what it keeps is in range
abbrev pub IsKeeping : Shape → Keeping → Type 0
IsKeeping s (KeepLink p) = IsRecord s p.node.0 × IsNode s p.last.0
IsKeeping s (KeepPassedLink p) = IsRecord s p.node.0 × IsNode s p.last.0 × IsNode s p.next.0
IsKeeping s (KeepEmpty p) = IsRecord s p.token.0
IsKeeping s (KeepDequeuePassedLink p) = IsRecord s p.token.0 × IsNode s p.last.0 × IsNode s p.next.0
IsKeeping s (KeepClaim p) = IsClaimedAt s p.claimed
IsKeeping s (KeepResult p) = IsClaimedAt s p.claimed

-- what the call learnt is in range
abbrev pub IsPoint : Shape → Op → Type 0
IsPoint s (PrepareStore p) = IsPreparePoint s (prepare_store p)
IsPoint s (PrepareFlush p) = IsPreparePoint s (prepare_flush p)
IsPoint s (PrepareFence p) = IsPreparePoint s (prepare_fence p)
IsPoint s (EnqueueLoadTail p) = IsRecord s p.node.0
IsPoint s (EnqueueLoadNext p) = IsRecord s p.node.0 × IsNode s p.last.0
IsPoint s (EnqueueCheckTail p) = IsRecord s p.node.0 × IsNode s p.last.0 × IsNode s p.next.0
IsPoint s (EnqueueLink p) = IsRecord s p.node.0 × IsNode s p.last.0
IsPoint s (EnqueueMoveTail p) = IsRecord s p.node.0 × IsNode s p.last.0
IsPoint s (EnqueueHelpTail p) = IsRecord s p.node.0 × IsNode s p.last.0 × IsNode s p.next.0
IsPoint s (DequeueLoadHead p) = IsRecord s p.token.0
IsPoint s (DequeueLoadTail p) = IsRecord s p.token.0 × IsNode s p.first.0
IsPoint s (DequeueLoadNext p) = IsRecord s p.token.0 × IsNode s p.first.0 × IsNode s p.last.0
IsPoint s (DequeueCheckHead p) = IsRecord s p.token.0 × IsNode s p.first.0 × IsNode s p.last.0 × IsNode s p.next.0
IsPoint s (DequeueStoreEmpty p) = IsRecord s p.token.0
IsPoint s (DequeueHelpTail p) = IsRecord s p.token.0 × IsNode s p.last.0 × IsNode s p.next.0
IsPoint s (DequeueLoadItem p) = IsClaiming s p.token.0 p.first.0 p.next.0
IsPoint s (DequeueClaim p) = IsClaiming s p.token.0 p.first.0 p.next.0
IsPoint s (DequeueStoreResult p) = IsClaimedAt s p.claimed
IsPoint s (DequeueMoveHead p) = IsClaimedAt s p.claimed
IsPoint s (FlushPoint k) = IsKeeping s k
IsPoint s (FencePoint k) = IsKeeping s k
