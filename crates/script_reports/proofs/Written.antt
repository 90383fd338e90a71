-- Text that is written part by part has all of its parts.
use Rattle.std.proofs.Common.{◌≡◌, ap, ◌∙◌, ℕ, List, ◌++◌, append_assoc}

-- some parts, and then the next
pub then_next : (old parts next mid new : List ℕ) → mid ≡ old ++ parts → new ≡ mid ++ next → new ≡ old ++ (parts ++ next)
then_next old parts next mid new before after =
    after ∙ ap (λ l. l ++ next) before ∙ append_assoc old parts next
