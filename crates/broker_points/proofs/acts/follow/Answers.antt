use Rattle.std.proofs.Common.{◌≡◌, ◌⊎◌, inl, inr, [], ℕ, List, ap, sym, subst}
use Rattle.std.proofs.lemmas.List.{append-nil}
use Rattle.words.specs.declared.call.Client.{Client}
use Rattle.broker_lines.specs.declared.statements.Statement.{Statement}
use Rattle.broker_lines.specs.declared.statements.Statement.TheVariants.{Find, List as list_queues, Told}
use Rattle.broker_script.specs.Play.{Played}
use Rattle.broker_points.specs.Acts.{attempts_of, all_made}
use Rattle.broker_points.specs.Made.{Adds}
use Rattle.broker_points.proofs.acts.follow.Goals as goal

-- a line that only shows something attempts nothing
shows : (s : Statement)
    → ((name : List ℕ) × (s ≡ Find name)) ⊎ (s ≡ list_queues) ⊎ ((name : List ℕ) × (client : Client) × (s ≡ Told name client))
    → attempts_of s ≡ []
shows s (inl by) = ap attempts_of by.1
shows s (inr (inl by)) = ap attempts_of by
shows s (inr (inr by)) = ap attempts_of by.2

nothing : (now : Played) (acts attempts : List Statement) → attempts ≡ [] → Adds now attempts acts acts now
nothing now acts attempts none = subst (λ (l : List Statement). Adds now l acts acts now) (sym none)
    (record { more = []; made = all_made; is = sym (append-nil acts) })

pub returns-in-Find-clause-acts : goal.returns-in-Find-clause-acts
returns-in-Find-clause-acts c =
    nothing c.args.player.now c.args.acts.now.items (attempts_of c.args.statement.now) (shows c.args.statement.now c.in-Find.is)

pub returns-in-Find-2-clause-acts : goal.returns-in-Find-2-clause-acts
returns-in-Find-2-clause-acts c =
    nothing c.args.player.now c.args.acts.now.items (attempts_of c.args.statement.now) (shows c.args.statement.now c.in-Find.is)

pub returns-in-Find-3-clause-acts : goal.returns-in-Find-3-clause-acts
returns-in-Find-3-clause-acts c =
    nothing c.args.player.now c.args.acts.now.items (attempts_of c.args.statement.now) (shows c.args.statement.now c.in-Find.is)
