-- Loops of a broker that follows a script: what comes of the first step, and then of the rest.
use Rattle.std.proofs.Common.{◌≡◌, ◌≢◌, sym, subst, ℕ, ◌<◌, ◌+◌, ◌-◌, List, [], ◌∷◌, ◌++◌, append_assoc, arith, true, false}
use Rattle.std.proofs.lemmas.List.{append-nil}
use Rattle.std.specs.Prelude.{Some, None, Ok, Err}
use Rattle.words.specs.declared.refusal.Refusal.{Refusal}
use Rattle.words.specs.declared.refusal.Refusal.TheVariants.{NoMemory}
use Rattle.arena.specs.declared.broker.SlotId.{SlotId}
use Rattle.directory.specs.Directory.{HasQueue}
use Rattle.directory.specs.declared.queue.Queue.{Queue}
use Rattle.playing.specs.declared.lines.Line.TheVariants.{Refused, Recovering}
use Rattle.broker_lines.specs.Lines.{no_memory}
use Rattle.broker_lines.specs.declared.statements.Statement.{Statement}
use Rattle.broker_lines.specs.declared.statements.Statement.TheVariants.{Whole as whole}
use Rattle.broker_lines.specs.declared.printed.Printed.{Printed}
use Rattle.broker_lines.specs.declared.printed.Printed.TheVariants.{Whole, Created, Creating}
use Rattle.broker_script.specs.Creating.{Creates, IsCreatedOn, opens, ends, goes_on, stays}
use Rattle.broker_script.specs.Play.{Played}
use Rattle.broker_script.specs.PutOff.{IsPutOff}
use Rattle.broker_script.specs.Recovering.{ready_lines, Recovers, RecoversBy, IsRecoveredOn, ready, ends_ready, goes_on_ready, stays_by, ready_by, ends_by, goes_on_by}
use Rattle.broker_script.specs.Transcript.{FollowsAll, FollowsLine, none, more, made_again}
use Rattle.grammar.specs.declared.commands.Command.TheVariants.{Again}

-- what is left of a creation's steps comes to what all of them do
pub record Leads (most left : ℕ) (start now : Played) : Type 0 where
  pub on : (lines : List Printed) (new : Played) → Creates left now lines new → Creates most start lines new

pub leads_none : (most : ℕ) (start : Played) → Leads most (most - 0) start start
leads_none most start = record {
  on = λ lines new rest. subst (λ (n : ℕ). Creates n start lines new) (let e : most - 0 ≡ most = omega arith in e) rest;
}

pub leads_more : (most done : ℕ) (start now next : Played) → done < most → IsCreatedOn now (Ok None) next
    → Leads most (most - done) start now → Leads most (most - (done + 1)) start next
leads_more most done start now next few step leads = record {
  on = λ lines new rest.
      let left : most - (done + 1) ≡ most - done - 1 = omega arith in
      leads.on lines new
      (goes_on (omega arith) step (subst (λ (n : ℕ). Creates n next lines new) left rest));
}

pub leads_opened : (most done : ℕ) (start now new : Played) (slot : SlotId) (queue : Queue) (lines : List Printed)
    → done < most → IsCreatedOn now (Ok (Some slot)) new → HasQueue new.broker.directory slot.0 queue
    → lines ≡ Created queue.name slot new.creation ∷ [] → Leads most (most - done) start now → Creates most start lines new
leads_opened most done start now new slot queue lines few step has is leads =
    subst (λ (ls : List Printed). Creates most start ls new) (sym is)
    (leads.on (Created queue.name slot new.creation ∷ []) new (opens (omega arith) step has))

pub leads_refused : (most done : ℕ) (start now new : Played) (refusal : Refusal) (lines : List Printed)
    → done < most → IsCreatedOn now (Err refusal) new → lines ≡ Whole (Refused refusal) ∷ []
    → Leads most (most - done) start now → Creates most start lines new
leads_refused most done start now new refusal lines few step is leads =
    subst (λ (ls : List Printed). Creates most start ls new) (sym is)
    (leads.on (Whole (Refused refusal) ∷ []) new (ends (omega arith) step))

pub leads_out : (most done : ℕ) (start now : Played) (lines : List Printed) → most - done ≡ 0 → lines ≡ Creating ∷ []
    → Leads most (most - done) start now → Creates most start lines now
leads_out most done start now lines out is leads =
    subst (λ (ls : List Printed). Creates most start ls now) (sym is)
    (leads.on (Creating ∷ []) now (subst (λ (n : ℕ). Creates n now (Creating ∷ []) now) (sym out) stays))

-- what is left of a recovery comes to what all of it does
pub record RecoveryLeads (start now : Played) : Type 0 where
  pub on : (lines : List Printed) (new : Played) → Recovers now lines new → Recovers start lines new

pub recovery_starts : (start : Played) → RecoveryLeads start start
recovery_starts start = record { on = λ lines new rest. rest }

pub recovery_more : (start now next : Played) → IsRecoveredOn now (Ok false) next → RecoveryLeads start now
    → RecoveryLeads start next
recovery_more start now next step leads = record { on = λ lines new rest. leads.on lines new (goes_on_ready step rest) }

pub recovery_ready : (start now new : Played) (lines : List Printed) → IsRecoveredOn now (Ok true) new
    → lines ≡ ready_lines new → RecoveryLeads start now → Recovers start lines new
recovery_ready start now new lines step is leads =
    subst (λ (ls : List Printed). Recovers start ls new) (sym is) (leads.on (ready_lines new) new (ready step))

pub recovery_refused : (start now new : Played) (refusal : Refusal) (lines : List Printed)
    → IsRecoveredOn now (Err refusal) new → lines ≡ Whole (Refused refusal) ∷ [] → RecoveryLeads start now
    → Recovers start lines new
recovery_refused start now new refusal lines step is leads =
    subst (λ (ls : List Printed). Recovers start ls new) (sym is)
    (leads.on (Whole (Refused refusal) ∷ []) new (ends_ready step))

-- and so of so many steps of it
pub record StepsLead (most left : ℕ) (start now : Played) : Type 0 where
  pub on : (lines : List Printed) (new : Played) → RecoversBy left now lines new → RecoversBy most start lines new

pub steps_start : (most : ℕ) (start : Played) → StepsLead most (most - 0) start start
steps_start most start = record {
  on = λ lines new rest. subst (λ (n : ℕ). RecoversBy n start lines new) (let e : most - 0 ≡ most = omega arith in e) rest;
}

pub steps_more : (most done : ℕ) (start now next : Played) → done < most → IsRecoveredOn now (Ok false) next
    → StepsLead most (most - done) start now → StepsLead most (most - (done + 1)) start next
steps_more most done start now next few step leads = record {
  on = λ lines new rest.
      let left : most - (done + 1) ≡ most - done - 1 = omega arith in
      leads.on lines new
      (goes_on_by (omega arith) step (subst (λ (n : ℕ). RecoversBy n next lines new) left rest));
}

pub steps_ready : (most done : ℕ) (start now new : Played) (lines : List Printed) → done < most
    → IsRecoveredOn now (Ok true) new → lines ≡ ready_lines new → StepsLead most (most - done) start now
    → RecoversBy most start lines new
steps_ready most done start now new lines few step is leads =
    subst (λ (ls : List Printed). RecoversBy most start ls new) (sym is)
    (leads.on (ready_lines new) new (ready_by (omega arith) step))

pub steps_refused : (most done : ℕ) (start now new : Played) (refusal : Refusal) (lines : List Printed)
    → done < most → IsRecoveredOn now (Err refusal) new → lines ≡ Whole (Refused refusal) ∷ []
    → StepsLead most (most - done) start now → RecoversBy most start lines new
steps_refused most done start now new refusal lines few step is leads =
    subst (λ (ls : List Printed). RecoversBy most start ls new) (sym is)
    (leads.on (Whole (Refused refusal) ∷ []) new (ends_by (omega arith) step))

pub steps_out : (most done : ℕ) (start now : Played) (lines : List Printed) → most - done ≡ 0
    → lines ≡ Whole Recovering ∷ [] → StepsLead most (most - done) start now → RecoversBy most start lines now
steps_out most done start now lines out is leads =
    subst (λ (ls : List Printed). RecoversBy most start ls now) (sym is)
    (leads.on (Whole Recovering ∷ []) now
    (subst (λ (n : ℕ). RecoversBy n now (Whole Recovering ∷ []) now) (sym out) stays_by))

-- the lines so far, and those of the lines of the script that are left, are all
pub record AllLead (start : Played) (all : List Statement) (now : Played) (left : List Statement) (lines : List Printed)
    : Type 0 where
  pub on : (rest : List Printed) → FollowsAll now left rest → FollowsAll start all (lines ++ rest)

pub all_more : (start now next : Played) (all left : List Statement) (statement : Statement) (lines given : List Printed)
    → FollowsLine now statement given next → AllLead start all now (statement ∷ left) lines
    → AllLead start all next left (lines ++ given)
all_more start now next all left statement lines given follows leads = record {
  on = λ rest after.
      subst (FollowsAll start all) (sym (append_assoc lines given rest))
      (leads.on (given ++ rest) (more next given rest follows after));
}

pub all_again : (start now next : Played) (all left : List Statement) (statement : Statement) (lines : List Printed)
    → IsPutOff now next → AllLead start all now (statement ∷ whole Again ∷ left) lines
    → AllLead start all next (statement ∷ left) (lines ++ no_memory ∷ [])
all_again start now next all left statement lines put_off leads = record {
  on = λ rest after.
      subst (FollowsAll start all) (sym (append_assoc lines (no_memory ∷ []) rest))
      (leads.on (no_memory ∷ rest) (made_again next rest put_off after));
}

pub all_end : (start now : Played) (all : List Statement) (lines : List Printed) → AllLead start all now [] lines
    → FollowsAll start all lines
all_end start now all lines leads = subst (FollowsAll start all) (append-nil lines) (leads.on [] none)

-- a result that is not for want of memory
pub made : {A : Type 0} (a : A) → Ok a ≢ Err NoMemory
made a same = cc
