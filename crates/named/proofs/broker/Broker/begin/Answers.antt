use Rattle.std.proofs.Common.{ℕ, List, Some, None, refl, ap, sym, subst}
use Rattle.persist.specs.Memory.{Words}
use Rattle.directory.specs.declared.recovery.DirectoryRecovery.{DirectoryRecovery}
use Rattle.named.specs.Brokers.{Brokered, IsWell}
use Rattle.named.specs.declared.recovery.BrokerRecovery.TheVariants.{ReadDirectory}
use Rattle.named.proofs.beginnings.Boots.{booted_well, booted_worlds, read_kept}
use Rattle.named.proofs.acts.Requests.{booted_asked}
use Rattle.named.proofs.promises.Promises.{promises_well}
use Rattle.named.proofs.broker.Broker.begin.Goals as goal

pub boot_each-requires-clause-kept : goal.boot_each-requires-clause-kept
boot_each-requires-clause-kept c = read_kept _ _ _ c.requires.read

pub invariant_of-result : goal.invariant_of-result
invariant_of-result c =
    let layout = c.args.kept.now.layout in
    let directory = c.args.kept.now.directory in
    let slots = c.in_ok-slots.slots.items in
    let words : Words = c.args.memory.words in
    let b : Brokered = record { counts = layout; words = words; slots = slots; directory = directory; creation = None; recovery = Some (ReadDirectory c.boot.result) } in
    let well : IsWell b =
    subst (λ (r : DirectoryRecovery). IsWell (record { counts = layout; words = words; slots = slots; directory = directory; creation = None; recovery = Some (ReadDirectory r) }))
    (sym c.boot.ensures) (booted_well words layout directory slots c.requires.read c.in_ok-slots.ensures.booted) in
    record {
      well = well;
      slots = booted_asked b c.args.memory words well (λ at below. booted_worlds words layout directory slots c.requires.read c.in_ok-slots.ensures.booted at below);
      creation = tt;
    }

pub returns-clause-booted : goal.returns-clause-booted
returns-clause-booted c =
    let ws : Words = c.args.memory.words in
    let layout = c.args.kept.now.layout in
    let directory = c.args.kept.now.directory in
    record {
      counts = c.requires.read.counts_are;
      words = ap (λ (cached : List ℕ). let v : Words = record ws { cached = cached } in v) c.requires.read.crashed;
      directory = c.requires.read.directory_is;
      worlds = λ at below. booted_worlds ws layout directory c.in_ok-slots.slots.items c.requires.read c.in_ok-slots.ensures.booted at below;
      creation = refl;
      recovery = ap (λ (r : DirectoryRecovery). Some (ReadDirectory r)) c.boot.ensures;
    }

pub returns-clause-promises : goal.returns-clause-promises
returns-clause-promises c = promises_well _ (invariant_of-result c).well
