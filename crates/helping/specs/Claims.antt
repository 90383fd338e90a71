-- How a claim went.
use Rattle.words.specs.declared.call.Token.{Token}
use Rattle.helping.specs.declared.dequeue.Claim.{Claim}
use Rattle.helping.specs.declared.dequeue.Claim.TheVariants.{Won, LostTo}

-- whose node it is
abbrev pub winner : Claim → Token → Token
winner Won token = token
winner (LostTo other) token = other
