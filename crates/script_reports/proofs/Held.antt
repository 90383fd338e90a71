-- A world over a memory holds after each act, and what waits to complete a flush has asked for it.
use Rattle.std.proofs.Common.{◌≡◌, ℕ, Bool, false, length, refl, sym, subst}
use Rattle.words.specs.declared.call.Call.{Call}
use Rattle.words.specs.declared.call.Client.{Client}
use Rattle.words.specs.declared.limits.TheConstants.{RECOVERY_PORT}
use Rattle.persist.specs.Memory.{Lent, MemoryState, lent_whole}
use Rattle.interleave.specs.Asked.{AreAsked, HoldsOver, lent_after_recover, lent_after_step, requests_of}
use Rattle.interleave.specs.Core.{CoreState, state_of}
use Rattle.interleave.specs.Holds.{Holds}
use Rattle.interleave.specs.State.{State, after_evict, after_recover, after_start, after_step, after_stop}
use Rattle.interleave.proofs.Facts.{around_recovered, around_stepped, asked_at_boot, asked_evicted, asked_recovered}
use Rattle.interleave.proofs.Facts.{asked_started, asked_stepped, holds_after_crash, returned, unasked_for}

-- the world is this one, of which what is asked for is right
held : (core : CoreState) (m : MemoryState) (w : State) → state_of core m.words ≡ w → Holds (state_of core m.words)
    → AreAsked w.shape w.calls w.recovery (requests_of m) → HoldsOver core m
held core m w left holds asked = record {
  world = holds;
  asked = subst (λ (v : State). AreAsked v.shape v.calls v.recovery (requests_of m)) (sym left) asked;
}

pub held_after_start : (full : Bool) (core left : CoreState) (m n : MemoryState) (client : Client) (number : ℕ) (call : Call)
    → HoldsOver core m → lent_whole 0 0 n ≡ lent_whole 0 0 m → Holds (state_of left n.words)
    → state_of left n.words ≡ after_start full (state_of core m.words) client number call → HoldsOver left n
held_after_start full core left m n client number call over lent holds leaves =
    held left n (after_start full (state_of core m.words) client number call) leaves holds
    (asked_started full (state_of core m.words) client number call (requests_of m) (requests_of n) over.world
    (unasked_for 0 0 m n lent) over.asked)

pub held_after_evict : (core left : CoreState) (m n : MemoryState) (word : ℕ)
    → HoldsOver core m → lent_whole 0 0 n ≡ lent_whole 0 0 m → Holds (state_of left n.words)
    → state_of left n.words ≡ after_evict (state_of core m.words) word → HoldsOver left n
held_after_evict core left m n word over lent holds leaves =
    held left n (after_evict (state_of core m.words) word) leaves holds
    (asked_evicted (state_of core m.words) word (requests_of m) (requests_of n) (unasked_for 0 0 m n lent) over.asked)

pub held_after_crash : (core left : CoreState) (m n : MemoryState) → HoldsOver core m
    → state_of left n.words ≡ after_stop (state_of core m.words) → HoldsOver left n
held_after_crash core left m n over leaves =
    let old : State = state_of core m.words in
    held left n (after_stop old) leaves (subst Holds (sym leaves) (holds_after_crash false old over.world))
    (asked_at_boot old.shape (length old.calls) (requests_of n))

-- the memory was lent through the client's port of the name
pub held_after_step : (full : Bool) (core left : CoreState) (m n : MemoryState) (client : Client) (name name2 port2 : ℕ)
    → HoldsOver core m
    → lent_whole name2 port2 n ≡ lent_after_step full (state_of core m.words) client (lent_whole name client.0 m)
    → Holds (state_of left n.words) → state_of left n.words ≡ after_step full (state_of core m.words) client → HoldsOver left n
held_after_step full core left m n client name name2 port2 over lent holds leaves =
    let was : State = state_of core m.words in
    let at : Lent = lent_whole name client.0 m in
    let back = returned name name2 client.0 port2 m n (lent_after_step full was client at) lent (around_stepped full was client at) in
    held left n (after_step full was client) leaves holds
    (asked_stepped full was client at (requests_of m) (requests_of n) over.world refl back.here back.there over.asked)

-- and through recovery's
pub held_after_recover : (full : Bool) (core left : CoreState) (m n : MemoryState) (name name2 port2 : ℕ)
    → HoldsOver core m
    → lent_whole name2 port2 n ≡ lent_after_recover full (state_of core m.words) (lent_whole name RECOVERY_PORT m)
    → Holds (state_of left n.words) → state_of left n.words ≡ after_recover full (state_of core m.words) → HoldsOver left n
held_after_recover full core left m n name name2 port2 over lent holds leaves =
    let was : State = state_of core m.words in
    let at : Lent = lent_whole name RECOVERY_PORT m in
    let back = returned name name2 RECOVERY_PORT port2 m n (lent_after_recover full was at) lent (around_recovered full was at) in
    held left n (after_recover full was) leaves holds
    (asked_recovered full was at (requests_of m) (requests_of n) over.world refl back.here back.there over.asked)
