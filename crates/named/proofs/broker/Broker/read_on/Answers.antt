use Rattle.std.proofs.Common.{◌≡◌, ◌∙◌, Option, ◌≤◌, arith, false, sym, subst}
use Rattle.stepper.specs.declared.resume.After.{After}
use Rattle.directory.specs.Directory.{Directory}
use Rattle.directory.specs.UnderWay.{IsAtRest}
use Rattle.directory.specs.declared.creation.Creation.{Creation}
use Rattle.directory.specs.declared.recovery.DirectoryRecovery.{DirectoryRecovery}
use Rattle.named.specs.BrokerView.{broker_view}
use Rattle.named.specs.Brokers.{Brokered, IsReading, IsWell, is_ready_at}
use Rattle.named.specs.Stopping.{IsNext, IsReadingDirectory, MayReadOn}
use Rattle.named.specs.Lasting.{left_after_read, left_at, most_kept}
use Rattle.named.specs.declared.recovery.BrokerRecovery.{BrokerRecovery}
use Rattle.named.proofs.downtime.StepsLeft.{few_next, most_is_kept}
use Rattle.named.proofs.downtime.DirectorySteps.{tells_read, well_read, well_read_on}
use Rattle.named.proofs.downtime.DirectorySteps.{well_read, well_read_on}
use Rattle.named.proofs.acts.Requests.{left_asked}
use Rattle.named.proofs.promises.Promises.{promises_well}
use Rattle.named.proofs.broker.Broker.read_on.Goals as goal

pub invariant_of-self : goal.invariant_of-self
invariant_of-self c =
    let b : Brokered = broker_view c.self.inside in
    let down : IsReadingDirectory b.recovery = subst (λ (x : Brokered). IsReadingDirectory x.recovery) (sym c.self.view_is) c.requires.reading in
    let may : MayReadOn b c.args.after = subst (λ (x : Brokered). MayReadOn x c.args.after) (sym c.self.view_is) c.requires.may in
    let next : IsReading b.words c.in-More.next b.creation b.directory = subst (MayReadOn b) c.in-More.is may in
    record {
      well = well_read_on b c.self.invariant.well down c.in-More.next next;
      slots = c.self.invariant.slots;
      creation = tt;
    }

pub invariant_of-self-in-Done : goal.invariant_of-self-in-Done
invariant_of-self-in-Done c =
    let b : Brokered = broker_view c.self.inside in
    let down : IsReadingDirectory b.recovery = subst (λ (x : Brokered). IsReadingDirectory x.recovery) (sym c.self.view_is) c.requires.reading in
    let may : MayReadOn b c.args.after = subst (λ (x : Brokered). MayReadOn x c.args.after) (sym c.self.view_is) c.requires.may in
    let done : (c.in-Done.places ≡ b.directory) × IsAtRest b.words b.directory = subst (MayReadOn b) c.in-Done.is may in
    let known : c.of-self-inside.result ≡ b.directory = c.of-self-inside.ensures ∙ done.0 in
    let next : IsNext b.directory 0 c.recovery_from-self-inside.result = subst (λ (d : Directory). IsNext d 0 c.recovery_from-self-inside.result) known c.recovery_from-self-inside.ensures in
    record {
      well = subst (λ (d : Directory). let x : Brokered = record { counts = b.counts; words = b.words; slots = b.slots; directory = d; creation = c.creation_left-self-inside.result; recovery = c.recovery_from-self-inside.result } in IsWell x) (sym known)
          (subst (λ (k : Option Creation). let x : Brokered = record { counts = b.counts; words = b.words; slots = b.slots; directory = b.directory; creation = k; recovery = c.recovery_from-self-inside.result } in IsWell x) (sym c.creation_left-self-inside.ensures)
          (well_read b c.self.invariant.well down c.recovery_from-self-inside.result done.1 next));
      slots = c.self.invariant.slots;
      creation = left_asked b.counts c.recovery_from-self-inside.result b.creation c.creation_left-self-inside.result _ c.creation_left-self-inside.ensures;
    }

pub returns-in-Done-clause-told : goal.returns-in-Done-clause-told
returns-in-Done-clause-told c = λ at before now.
    let b : Brokered = broker_view c.self.inside in
    let down : IsReadingDirectory b.recovery = subst (λ (x : Brokered). IsReadingDirectory x.recovery) (sym c.self.view_is) c.requires.reading in
    let may : MayReadOn b c.args.after = subst (λ (x : Brokered). MayReadOn x c.args.after) (sym c.self.view_is) c.requires.may in
    let done : (c.in-Done.places ≡ b.directory) × IsAtRest b.words b.directory = subst (MayReadOn b) c.in-Done.is may in
    let known : c.of-self-inside.result ≡ b.directory = c.of-self-inside.ensures ∙ done.0 in
    let next : IsNext b.directory 0 c.recovery_from-self-inside.result = subst (λ (d : Directory). IsNext d 0 c.recovery_from-self-inside.result) known c.recovery_from-self-inside.ensures in
    let was : is_ready_at b.recovery at ≡ false = subst (λ (x : Brokered). is_ready_at x.recovery at ≡ false) (sym c.self.view_is) before in
    tells_read b c.self.invariant.well down c.recovery_from-self-inside.result next at was now

pub returns-in-Done-clause-left : goal.returns-in-Done-clause-left
returns-in-Done-clause-left c =
    let b : Brokered = broker_view c.self.inside in
    let down : IsReadingDirectory b.recovery = subst (λ (x : Brokered). IsReadingDirectory x.recovery) (sym c.self.view_is) c.requires.reading in
    let may : MayReadOn b c.args.after = subst (λ (x : Brokered). MayReadOn x c.args.after) (sym c.self.view_is) c.requires.may in
    let done : (c.in-Done.places ≡ b.directory) × IsAtRest b.words b.directory = subst (MayReadOn b) c.in-Done.is may in
    let known : c.of-self-inside.result ≡ b.directory = c.of-self-inside.ensures ∙ done.0 in
    let next : IsNext b.directory 0 c.recovery_from-self-inside.result = subst (λ (d : Directory). IsNext d 0 c.recovery_from-self-inside.result) known c.recovery_from-self-inside.ensures in
    let recovery : Option BrokerRecovery = c.recovery_from-self-inside.result in
    let few : left_at b recovery ≤ most_kept b = omega (arith, few_next b c.self.invariant.well 0 recovery next, most_is_kept b c.self.invariant.well done.1) in
    let left : left_at (record b { directory = c.of-self-inside.result }) recovery ≤ most_kept b =
    subst (λ (d : Directory). let x : Brokered = record b { directory = d } in left_at x recovery ≤ most_kept b) (sym known) few in
    subst (λ (x : Brokered). left_at (record b { directory = c.of-self-inside.result }) recovery ≤ left_after_read x c.args.after) c.self.view_is
    (subst (λ (a : After DirectoryRecovery Directory). left_at (record b { directory = c.of-self-inside.result }) recovery ≤ left_after_read b a) (sym c.in-Done.is) left)

pub returns-in-More-clause-promises : goal.returns-in-More-clause-promises
returns-in-More-clause-promises c = promises_well _ (invariant_of-self c).well

pub returns-in-Done-clause-promises : goal.returns-in-Done-clause-promises
returns-in-Done-clause-promises c = promises_well _ (invariant_of-self-in-Done c).well
