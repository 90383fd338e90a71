-- Acts that are attempted one after another: what is left of them adds what all of them add.
use Rattle.std.proofs.Common.{◌≡◌, refl, sym, ap, ◌∙◌, subst, List, [], ◌∷◌, ◌++◌, append_assoc, false, true}
use Rattle.std.proofs.lemmas.List.{append-nil}
use Rattle.broker_lines.specs.declared.statements.Statement.{Statement}
use Rattle.broker_script.specs.Play.{Played}
use Rattle.broker_points.specs.Acts.{attempts_of, AreActsOf, Attempts, IsAttempted, all_made, ends_at, goes_on, no_line, line}
use Rattle.broker_points.specs.Made.{Adds}

pub record AttemptsLead (old : Played) (all before : List Statement) (now : Played) (left so_far : List Statement)
    : Type 0 where
  pub on : (more : List Statement) (new : Played) → Attempts now left more new → Adds old all before (so_far ++ more) new

pub attempts_start : (old : Played) (all before : List Statement) → AttemptsLead old all before old all before
attempts_start old all before = record { on = λ more new made. record { more = more; made = made; is = refl } }

pub attempts_more : (old : Played) (all before : List Statement) (now next : Played) (act : Statement)
    (left so_far acts : List Statement) → acts ≡ so_far ++ act ∷ [] → IsAttempted now act true next
    → AttemptsLead old all before now (act ∷ left) so_far → AttemptsLead old all before next left acts
attempts_more old all before now next act left so_far acts grown attempt leads = record {
  on = λ more new made.
      subst (λ (l : List Statement). Adds old all before l new)
      (sym (append_assoc so_far (act ∷ []) more) ∙ ap (λ l. l ++ more) (sym grown))
      (leads.on (act ∷ more) new (goes_on attempt made));
}

pub attempts_refused : (old : Played) (all before : List Statement) (now new : Played) (act : Statement)
    (left so_far : List Statement) → IsAttempted now act false new
    → AttemptsLead old all before now (act ∷ left) so_far → Adds old all before so_far new
attempts_refused old all before now new act left so_far attempt leads =
    subst (λ (l : List Statement). Adds old all before l new) (append-nil so_far) (leads.on [] new (ends_at attempt))

pub attempts_end : (old : Played) (all before : List Statement) (now : Played) (so_far : List Statement)
    → AttemptsLead old all before now [] so_far → Adds old all before so_far now
attempts_end old all before now so_far leads =
    subst (λ (l : List Statement). Adds old all before l now) (append-nil so_far) (leads.on [] now all_made)

-- a first act, and then others
pub first_refused : (old new : Played) (act : Statement) (left before : List Statement) → IsAttempted old act false new
    → Adds old (act ∷ left) before before new
first_refused old new act left before attempt =
    attempts_refused old (act ∷ left) before old new act left before attempt (attempts_start old (act ∷ left) before)

pub first_then : (old next new : Played) (act : Statement) (left before so_far after : List Statement)
    → so_far ≡ before ++ act ∷ [] → IsAttempted old act true next → Adds next left so_far after new
    → Adds old (act ∷ left) before after new
first_then old next new act left before so_far after grown attempt rest = record {
  more = act ∷ rest.more;
  made = goes_on attempt rest.made;
  is =
      rest.is ∙ ap (λ l. l ++ rest.more) grown ∙ append_assoc before (act ∷ []) rest.more;
}

-- the lines of a script, one after the other
pub record ActsLead (start : Played) (all : List Statement) (now : Played) (left so_far : List Statement) : Type 0 where
  pub on : (rest : List Statement) → AreActsOf now left rest → AreActsOf start all (so_far ++ rest)

pub acts_more : (start now next : Played) (all left : List Statement) (statement : Statement) (so_far acts : List Statement)
    → Adds now (attempts_of statement) so_far acts next → ActsLead start all now (statement ∷ left) so_far
    → ActsLead start all next left acts
acts_more start now next all left statement so_far acts adds leads = record {
  on = λ rest are.
      subst (AreActsOf start all) (sym (append_assoc so_far adds.more rest) ∙ ap (λ l. l ++ rest) (sym adds.is))
      (leads.on (adds.more ++ rest) (line adds.made are));
}

pub acts_end : (start now : Played) (all so_far : List Statement) → ActsLead start all now [] so_far
    → AreActsOf start all so_far
acts_end start now all so_far leads = subst (AreActsOf start all) (append-nil so_far) (leads.on [] no_line)
