-- Journals of shared sessions that are kept by a policy.
use Rattle.std.specs.Prelude.{◌≡◌, ◌≤◌, Bool, false, [], ⊤, List, ℕ, IfSome, length}
use Rattle.persist.specs.Noted.{applied}
use Rattle.journal.specs.Reading.{ReadsAs}
use Rattle.journal_file.specs.OnDevice.{OnDevice}
use Rattle.session.specs.Sessions.{Sessioned}
use Rattle.lasting.specs.Lasting.{IsKeptBy, Kept}
use Rattle.lasting.specs.declared.policy.Policy.{Policy}
use Rattle.lasting.specs.declared.policy.Policy.TheVariants.{Always, EachSecond, Never}

-- a journal with its policy, and whether it has failed for good
pub record Settled : Type 0 where
  pub kept : Kept
  pub policy : Policy
  pub failed : Bool

-- every change that was handed on is appended, in a storage that has not failed, and kept as the policy says
pub record HasSettled (first : Sessioned) (s : Settled) : Type 0 where
  pub all : s.kept.pending ≡ []
  pub words : s.kept.journal.words ≡ applied s.kept.handed first.broker.words.kept
  pub going : s.kept.journal.failed ≡ false
  pub by_policy : IsKeptBy s.policy s.kept.journal

-- what stands at the place is read as these words, and nothing is cut off
abbrev pub StandsAs : List ℕ → OnDevice → Type 0
StandsAs words j = IfSome j.appended (λ bytes. (key : List ℕ) × ReadsAs key words 0 bytes)

-- no stop takes away any of it, where it is to be kept always
abbrev pub LastsBy : Policy → OnDevice → Type 0
LastsBy Always j = IfSome j.appended (λ bytes. length bytes ≤ j.lasting)
LastsBy EachSecond j = ⊤
LastsBy Never j = ⊤
