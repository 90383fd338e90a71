use Rattle.std.proofs.Common.{◌≡◌, true, false, rules, subst, sym}
use Rattle.journal_file.specs.OnDevice.{IsOf, OnDevice}
use Rattle.journal_file.proofs.Steps.{confirmed, keep_failed}
use Rattle.journal_file.proofs.on_device.Journal.confirm.Goals as goal

pub invariant_of-self : goal.invariant_of-self
invariant_of-self g c =
    let i = c.self.inside in
    let a = g.S.Storage in
    let inv = c.self.invariant in
    let was : g.S.Storage.failed c.self.inside.storage ≡ false = search rules in
    let is : g.S.Storage.failed c.confirm.new.self ≡ true = search rules in
    let lasts : g.S.Storage.kept c.confirm.new.self ≡ g.S.Storage.kept c.self.inside.storage = search rules in (
      inv.0,
      inv.1,
      inv.2,
      inv.3,
      keep_failed i.words.items i.writer i.size i.kept (a.appended i.storage) (a.appended c.confirm.new.self) (a.kept i.storage) (a.kept c.confirm.new.self) (a.failed i.storage) (a.failed c.confirm.new.self) was is c.confirm.ensures.bytes lasts inv.0 inv.1 inv.2 inv.3 inv.4,
    )

pub returns-then-is_err-clause-no_more : goal.returns-then-is_err-clause-no_more
returns-then-is_err-clause-no_more g c =
    let i = c.self.inside in
    let a = g.S.Storage in
    let was : g.S.Storage.failed c.self.inside.storage ≡ false = search rules in
    let is : g.S.Storage.failed c.confirm.new.self ≡ true = search rules in
    let lasts : g.S.Storage.kept c.confirm.new.self ≡ g.S.Storage.kept c.self.inside.storage = search rules in
    λ key base batches count is_of.
    keep_failed i.words.items i.writer i.size i.kept (a.appended i.storage) (a.appended c.confirm.new.self) (a.kept i.storage) (a.kept c.confirm.new.self) (a.failed i.storage) (a.failed c.confirm.new.self) was is c.confirm.ensures.bytes lasts key base batches count
    (subst (λ (j : OnDevice). IsOf key base batches count j) (sym c.self.view_is) is_of)

pub invariant_of-self-2 : goal.invariant_of-self-2
invariant_of-self-2 g c =
    let i = c.self.inside in
    let a = g.S.Storage in
    let inv = c.self.invariant in
    let was : g.S.Storage.failed c.self.inside.storage ≡ false = search rules in
    let is : g.S.Storage.failed c.confirm.new.self ≡ false = search rules in
    let lasts : g.S.Storage.kept c.confirm.new.self ≡ g.S.Storage.kept c.self.inside.storage = search rules in (
      inv.0,
      inv.1,
      inv.2,
      inv.3,
      confirmed i.words.items i.writer i.size i.kept (a.appended i.storage) (a.appended c.confirm.new.self) (a.kept i.storage) (a.kept c.confirm.new.self) (a.failed i.storage) (a.failed c.confirm.new.self) was is c.confirm.ensures.bytes lasts inv.0 inv.1 inv.2 inv.3 inv.4,
    )
