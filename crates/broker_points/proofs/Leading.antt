-- Lines that lead a broker on.
use Rattle.std.proofs.Common.{List, [], ◌∷◌, ◌++◌}
use Rattle.broker_lines.specs.declared.statements.Statement.{Statement}
use Rattle.broker_script.specs.Play.{Played}
use Rattle.broker_points.specs.Points.{Leads, nowhere, further}

pub leads_on : {old now new : Played} {first rest : List Statement} → Leads old first now → Leads now rest new
    → Leads old (first ++ rest) new
leads_on nowhere more = more
leads_on (further lines line rest) more = further lines line (leads_on rest more)

-- what is left of some lines leads where all of them do
pub record LinesLead (start : Played) (all : List Statement) (now : Played) (left : List Statement) : Type 0 where
  pub on : (new : Played) → Leads now left new → Leads start all new

pub lines_more : (start now next : Played) (all left : List Statement) (statement : Statement)
    → Leads now (statement ∷ []) next → LinesLead start all now (statement ∷ left) → LinesLead start all next left
lines_more start now next all left statement one leads = record {
  on = λ new rest. leads.on new (leads_on one rest);
}

pub lines_end : (start now : Played) (all : List Statement) → LinesLead start all now [] → Leads start all now
lines_end start now all leads = leads.on now nowhere
