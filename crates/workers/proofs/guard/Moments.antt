-- What lies under the lock is at a moment of its session.
use Rattle.std.proofs.Common.{◌≡◌, List, Some, ℕ, slice_get, refl, subst}
use Rattle.words.specs.declared.call.Client.{Client}
use Rattle.persist.specs.declared.access.Change.{Change}
use Rattle.persist.specs.Noted.{applied}
use Rattle.notes.specs.Noting.{IsMadeBy}
use Rattle.session.specs.Sessions.{Sessioned}
use Rattle.session.specs.Telling.{IsSettledTold}
use Rattle.workers.specs.Following.{Guarded, IsGuardedWell}
use Rattle.workers.specs.Marks.{IsMarkedBy}
use Rattle.workers.specs.Moments.{IsMomentOf}
use Rattle.workers.specs.declared.entry.Entry.{Entry}

-- at its own kept words
pub session_moment : (all : ℕ) (first : Sessioned) (g : Guarded) → IsGuardedWell all first g → IsSettledTold g.session
    → IsMomentOf first g.session g.session.broker.words.kept
session_moment all first g well told = record {
  words = refl;
  goes_on = record { numbers = well.goes_on; ended = g.rotated; came = well.came };
  promises = well.promises;
  boots = well.promises.broker.boots;
  told = told;
}

-- at words that changes make
pub moment_of : (all : ℕ) (first : Sessioned) (g : Guarded) (changes : List Change) → IsGuardedWell all first g
    → IsSettledTold g.session → IsMadeBy changes first.broker.words.kept g.session.broker.words.kept
    → IsMomentOf first g.session (applied changes first.broker.words.kept)
moment_of all first g changes well told made =
    subst (IsMomentOf first g.session) made.words (session_moment all first g well told)

-- and its histories have the list of each client, as its row is
pub marked_of : (all : ℕ) (first : Sessioned) (g : Guarded) (client : Client) (list : List Entry)
    → IsGuardedWell all first g → IsSettledTold g.session → slice_get g.rows client.0 ≡ Some list
    → IsMarkedBy first client list g.session
unfolding session_moment
marked_of all first g client list well told known = record {
  moment = session_moment all first g well told;
  recorded = (well.followed.each client.0 list known).recorded;
  named = well.named client.0 list known;
}
