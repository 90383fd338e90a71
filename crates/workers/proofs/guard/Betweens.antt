-- What is so of a session between two is so of one between others about them.
use Rattle.session.specs.Sessions.{Sessioned}
use Rattle.workers.specs.Moments.{GoesOnLater, IsBetween}
use Rattle.workers.proofs.guard.Laters.{later_itself, later_still}

-- the later one
pub between_at : {P : Sessioned → Type 0} (before now : Sessioned) → GoesOnLater before now → P now → IsBetween before now P
between_at before now later is = record { session = now; earlier = later; later = later_itself now; is = is }

pub between_further : {P : Sessioned → Type 0} (before now then : Sessioned) → IsBetween before now P
    → GoesOnLater now then → IsBetween before then P
between_further before now then between on = record {
  session = between.session;
  earlier = between.earlier;
  later = later_still between.session now then between.later on;
  is = between.is;
}

pub between_since : {P : Sessioned → Type 0} (earlier before now : Sessioned) → GoesOnLater earlier before
    → IsBetween before now P → IsBetween earlier now P
between_since earlier before now on between = record {
  session = between.session;
  earlier = later_still earlier before between.session on between.earlier;
  later = between.later;
  is = between.is;
}

pub between_weaker : {P Q : Sessioned → Type 0} (before now : Sessioned) → ((s : Sessioned) → P s → Q s)
    → IsBetween before now P → IsBetween before now Q
between_weaker before now weaker between = record {
  session = between.session;
  earlier = between.earlier;
  later = between.later;
  is = weaker between.session between.is;
}
