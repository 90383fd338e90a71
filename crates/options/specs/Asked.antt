-- What a command of `pqd` asks, by what its options were given.
use Rattle.std.specs.Prelude.{◌≡◌, ◌⊎◌, ◌↔◌, ◌∷◌, [], ℕ, IsTrue, List, Option, Some, None, ⊤, codes, option_map, option_and_then}
use Rattle.std.specs.Net.Grammar.{IsIpText}
use Rattle.std.specs.declared.net.ip_addr.IpAddr.{IpAddr}
use Rattle.std.specs.declared.net.ip_addr.IpAddr.TheVariants.{V4, V6}
use Rattle.std.specs.Net.Addr.{ipv4_octets}
use Rattle.words.specs.declared.limits.TheConstants.{MAX_CLIENTS, MAX_RECORDS}
use Rattle.clap.specs.Words.{Row, Text, first_of}
use Rattle.options.specs.declared.limits.TheConstants.{DEFAULT_CLIENTS, DEFAULT_RECORDS, DEFAULT_PORT, DEFAULT_STATS_PORT, MAX_PORT, MAX_WORKERS}
use Rattle.options.specs.declared.limits.TheConstants.{DEFAULT_WAITING_WORKERS, DEFAULT_WORKERS}
use Rattle.options.specs.declared.limits.TheConstants.{DEFAULT_CONNECTIONS, MAX_CONNECTIONS, MAX_IDLE}
use Rattle.options.specs.Numbers.{Fits, decimal_value, given_text, number_of}
use Rattle.options.specs.declared.asked.Asked.{Asked}
use Rattle.options.specs.declared.asked.Asked.TheVariants.{Printing as printing_asked, Serving}
use Rattle.options.specs.declared.asked.Journaling.{Journaling}
use Rattle.options.specs.declared.asked.Journaling.TheVariants.{InFile, InLog}
use Rattle.options.specs.declared.asked.Options.{Options}
use Rattle.options.specs.declared.asked.Printing.{Printing}
use Rattle.options.specs.declared.asked.Listening.{Listening}
use Rattle.options.specs.declared.asked.Mode.{Mode}
use Rattle.options.specs.declared.asked.Mode.TheVariants.{Pipe, Serve}
use Rattle.options.specs.declared.asked.Syncing.{Syncing}
use Rattle.options.specs.declared.asked.Syncing.TheVariants.{Always, EachSecond, Never}
use Rattle.options.specs.Journals.{JournalFits, JournalsBy}

-- the name of the command that a parse met, with what its options were given
abbrev pub name_in : Option (Text × List Row) → Option Text
name_in = option_map (λ met. met.0)

-- the value of an option of that command
abbrev pub values_in : Option (Text × List Row) → Text → Option Text
values_in met option = option_and_then (λ m. first_of option m.1) met

-- the command is one of the two that serve
abbrev pub Serves : Option Text → Type 0
Serves command = (command ≡ Some (codes "pipe")) ⊎ (command ≡ Some (codes "serve"))

-- or the one that prints numbers
abbrev pub IsKnown : Option Text → Type 0
IsKnown command = (command ≡ Some (codes "stats")) ⊎ Serves command

-- no address is given, or one that the text writes
abbrev pub AddressFits : Option Text → Type 0
AddressFits None = ⊤
AddressFits (Some text) = (address : IpAddr) × IsIpText text address

-- this machine's own, 127.0.0.1
abbrev pub IsLoopback : IpAddr → Type 0
IsLoopback (V4 a) = ipv4_octets a ≡ 127 ∷ 0 ∷ 0 ∷ 1 ∷ []
IsLoopback (V6 a) = ⊥

-- it is the one that is given, and the loopback where none is
abbrev pub IsAddressGiven : Option Text → IpAddr → Type 0
IsAddressGiven None address = IsLoopback address
IsAddressGiven (Some text) address = IsIpText text address

-- the seconds are those that are given, if any are
abbrev pub IdleFits : Option Text → Type 0
IdleFits given = Fits 1 MAX_IDLE given

abbrev pub IsIdleGiven : Option Text → Option ℕ → Type 0
IsIdleGiven given seconds = IdleFits given × (seconds ≡ option_map decimal_value given)

-- it is the port that is given, and none where none is
abbrev pub IsPortGiven : Option Text → Option ℕ → Type 0
IsPortGiven None port = port ≡ None
IsPortGiven (Some text) port = port ≡ Some (decimal_value text)

-- a server was given an address, and each number is a whole number in the range of its option
pub record ListeningFits (given : Text → Option Text) : Type 0 where
  pub address : AddressFits (given (codes "listen"))
  pub port : Fits 0 MAX_PORT (given (codes "port"))
  pub metrics : Fits 0 MAX_PORT (given (codes "metrics"))
  pub workers : Fits 1 MAX_WORKERS (given (codes "workers"))
  pub connections : Fits 1 MAX_CONNECTIONS (given (codes "connections"))
  pub idle : IdleFits (given (codes "idle"))

-- what any command was given fits: each number, and the syncing
pub record AllFit (command : Option Text) (given : Text → Option Text) : Type 0 where
  pub clients : Fits 1 MAX_CLIENTS (given (codes "clients"))
  pub records : Fits 1 MAX_RECORDS (given (codes "records"))
  pub journal : JournalFits given
  pub listening : command ≡ Some (codes "serve") → ListeningFits given

-- how many workers a server has where no number is given: several where each reply waits until its journal is kept
abbrev pub workers_for : Syncing → ℕ
workers_for Always = DEFAULT_WAITING_WORKERS
workers_for EachSecond = DEFAULT_WORKERS
workers_for Never = DEFAULT_WORKERS

abbrev pub workers_with : Option Journaling → ℕ
workers_with None = DEFAULT_WORKERS
workers_with (Some (InFile j)) = workers_for j.syncing
workers_with (Some (InLog j)) = DEFAULT_WAITING_WORKERS

-- a server listens where its options say, tells numbers at the port that they say, and has as many workers; it serves as
-- many connections, closes those over which no line comes for so long, and has the secret of the file
pub record ListensBy (journal : Option Journaling) (given : Text → Option Text) (listening : Listening) : Type 0 where
  pub fit : ListeningFits given
  pub address : IsAddressGiven (given (codes "listen")) listening.address
  pub port : listening.port ≡ number_of DEFAULT_PORT (given (codes "port"))
  pub metrics : IsPortGiven (given (codes "metrics")) listening.metrics
  pub workers : listening.workers ≡ number_of (workers_with journal) (given (codes "workers"))
  pub connections : listening.connections ≡ number_of DEFAULT_CONNECTIONS (given (codes "connections"))
  pub idle : IsIdleGiven (given (codes "idle")) listening.idle
  pub secret : given_text listening.secret ≡ given (codes "secret")

-- the mode is that of the command, with what its options say
abbrev pub IsModeOf : Option Text → Option Journaling → (Text → Option Text) → Mode → Type 0
IsModeOf command journal given Pipe = command ≡ Some (codes "pipe")
IsModeOf command journal given (Serve listening) =
    (command ≡ Some (codes "serve")) × ListensBy journal given listening

-- the command and the values of its options ask this
pub record Asks (command : Option Text) (given : Text → Option Text) (o : Options) : Type 0 where
  pub fit : AllFit command given
  pub clients : o.clients ≡ number_of DEFAULT_CLIENTS (given (codes "clients"))
  pub records : o.records ≡ number_of DEFAULT_RECORDS (given (codes "records"))
  pub image : given_text o.image ≡ given (codes "image")
  pub journal : JournalsBy given o.journal
  pub renew : IsTrue o.renew ↔ (given (codes "renew") ≡ Some (codes "true"))
  pub mode : IsModeOf command o.journal given o.mode

-- what the command that prints numbers was given fits
abbrev pub PrintingFits : (Text → Option Text) → Type 0
PrintingFits given = Fits 1 MAX_PORT (given (codes "port"))

-- the values of its options ask this
pub record PrintsBy (given : Text → Option Text) (p : Printing) : Type 0 where
  pub fit : PrintingFits given
  pub port : p.port ≡ number_of DEFAULT_STATS_PORT (given (codes "port"))
  pub watch : IsTrue p.watch ↔ (given (codes "watch") ≡ Some (codes "true"))

-- a command and the values of its options ask this
abbrev pub AsksFor : Option Text → (Text → Option Text) → Asked → Type 0
AsksFor command given (Serving o) = Serves command × Asks command given o
AsksFor command given (printing_asked p) = (command ≡ Some (codes "stats")) × PrintsBy given p

-- what a command was given fits
abbrev pub FitsAll : Option Text → (Text → Option Text) → Type 0
FitsAll command given =
    ((command ≡ Some (codes "stats")) × PrintingFits given) ⊎ (Serves command × AllFit command given)

-- the command that a parse met asks this, with what its options were given
abbrev pub CommandAsks : Option (Text × List Row) → Asked → Type 0
CommandAsks met asked = AsksFor (name_in met) (values_in met) asked

-- what its options were given fits
abbrev pub CommandFits : Option (Text × List Row) → Type 0
CommandFits met = FitsAll (name_in met) (values_in met)
