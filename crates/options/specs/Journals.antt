-- Which journal is asked for.
use Rattle.std.specs.Prelude.{◌≡◌, ◌⊎◌, ◌++◌, List, Option, Some, None, ℕ, ⊤, codes}
use Rattle.clap.specs.Words.{Text}
use Rattle.options.specs.declared.limits.TheConstants.{DEFAULT_PATIENCE, MAX_PATIENCE}
use Rattle.std.specs.Borrow.{Bor}
use Rattle.options.specs.Numbers.{Fits, given_text, number_of}
use Rattle.options.specs.declared.asked.Journaling.{Journaling}
use Rattle.options.specs.declared.asked.Journaling.TheVariants.{InFile, InLog}
use Rattle.options.specs.declared.asked.Syncing.{Syncing}
use Rattle.options.specs.declared.asked.Syncing.TheVariants.{Always, EachSecond, Never}
use Rattle.options.specs.declared.asked.Taking.{Taking}
use Rattle.options.specs.declared.asked.Taking.TheVariants.{AtOnce, IfFree, OnceFree}

-- the syncing is the one that is given, and each second where none is
abbrev pub SyncsBy : Option Text → Syncing → Type 0
SyncsBy given Always = given ≡ Some (codes "always")
SyncsBy given EachSecond = (given ≡ None) ⊎ (given ≡ Some (codes "second"))
SyncsBy given Never = given ≡ Some (codes "never")

-- no syncing is given, or one of the three
abbrev pub IsSyncing : Option Text → Type 0
IsSyncing None = ⊤
IsSyncing (Some text) = (text ≡ codes "always") ⊎ (text ≡ codes "second") ⊎ (text ≡ codes "never")

-- the place of a journal is a log's
abbrev pub IsLogs : Text → Type 0
IsLogs place = (address : Text) × (place ≡ codes "etcd://" ++ address)

-- no place is given, or none of a log
abbrev pub NamesNoLog : Option Text → Type 0
NamesNoLog None = ⊤
NamesNoLog (Some place) = ¬ (IsLogs place)

-- a log is kept always: nothing else is asked for
abbrev pub KeepsAlways : Option Text → Type 0
KeepsAlways given = (given ≡ None) ⊎ (given ≡ Some (codes "always"))

-- of what the options of a command were given
module _ (given : Text → Option Text) where
  -- a flag is given
  abbrev pub IsSet : Text → Type 0
  IsSet flag = given flag ≡ Some (codes "true")

  -- no option of a log is
  pub record HasNoLogWords : Type 0 where
    pub standby : ¬ (IsSet (codes "standby"))
    pub take_over : ¬ (IsSet (codes "take-over"))
    pub patience : given (codes "patience") ≡ None
    pub announce : given (codes "announce") ≡ None

  -- when a log is taken from another server
  abbrev pub TakesBy : Taking → Type 0
  TakesBy AtOnce = IsSet (codes "take-over")
  TakesBy OnceFree = ¬ (IsSet (codes "take-over")) × IsSet (codes "standby")
  TakesBy IfFree = ¬ (IsSet (codes "take-over")) × ¬ (IsSet (codes "standby"))

  -- how long it is patient
  abbrev pub HasPatience : ℕ → Type 0
  HasPatience patience = patience ≡ number_of DEFAULT_PATIENCE (given (codes "patience"))

  -- where others are told to find the server, if they are
  abbrev pub IsAnnouncedAs : Option (Bor (List ℕ)) → Type 0
  IsAnnouncedAs announce = given_text announce ≡ given (codes "announce")

  -- the options of a log fit
  pub record LogFits : Type 0 where
    pub always : KeepsAlways (given (codes "sync"))
    pub patience : Fits 1 MAX_PATIENCE (given (codes "patience"))

  -- The syncing of a journal in a file is one of the three, and is given with a journal alone. The options of a log are
  -- given with one alone, and fit.
  pub record JournalFits : Type 0 where
    pub syncing : IsSyncing (given (codes "sync"))
    pub along : given (codes "journal") ≡ None → given (codes "sync") ≡ None
    pub log : (address : Text) → given (codes "journal") ≡ Some (codes "etcd://" ++ address) → LogFits
    pub none : NamesNoLog (given (codes "journal")) → HasNoLogWords

  -- the journal is that of its option: in the file of that path, kept by the syncing that is given; or in the log
  abbrev pub JournalsBy : Option Journaling → Type 0
  JournalsBy None = (given (codes "journal") ≡ None) × (given (codes "sync") ≡ None) × HasNoLogWords
  JournalsBy (Some (InFile j)) = (given (codes "journal") ≡ Some j.file.now) × ¬ (IsLogs j.file.now)
      × SyncsBy (given (codes "sync")) j.syncing × HasNoLogWords
  JournalsBy (Some (InLog j)) = (given (codes "journal") ≡ Some (codes "etcd://" ++ j.address.now))
      × LogFits × TakesBy j.taking × HasPatience j.patience × IsAnnouncedAs j.announce
