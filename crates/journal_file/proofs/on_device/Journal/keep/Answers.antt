use Rattle.std.proofs.Common.{◌≡◌, true, false, rules, subst, sym}
use Rattle.journal_file.specs.Appended.{IsAllKept}
use Rattle.journal_file.specs.OnDevice.{IsOf, OnDevice}
use Rattle.journal_file.proofs.Steps.{keep_done, keep_failed}
use Rattle.journal_file.proofs.on_device.Journal.keep.Goals as goal

pub invariant_of-self : goal.invariant_of-self
invariant_of-self g c =
    let i = c.self.inside in
    let a = g.S.Storage in
    let inv = c.self.invariant in
    let was : g.S.Storage.failed c.self.inside.storage ≡ false = search rules in
    let is : g.S.Storage.failed c.keep.new.self ≡ true = search rules in
    let lasts : g.S.Storage.kept c.keep.new.self ≡ g.S.Storage.kept c.self.inside.storage = search rules in (
      inv.0,
      inv.1,
      inv.2,
      inv.3,
      keep_failed i.words.items i.writer i.size i.kept (a.appended i.storage) (a.appended c.keep.new.self) (a.kept i.storage) (a.kept c.keep.new.self) (a.failed i.storage) (a.failed c.keep.new.self) was is c.keep.ensures.bytes lasts inv.0 inv.1 inv.2 inv.3 inv.4,
    )

pub returns-then-is_err-clause-no_more : goal.returns-then-is_err-clause-no_more
returns-then-is_err-clause-no_more g c =
    let i = c.self.inside in
    let a = g.S.Storage in
    let was : g.S.Storage.failed c.self.inside.storage ≡ false = search rules in
    let is : g.S.Storage.failed c.keep.new.self ≡ true = search rules in
    let lasts : g.S.Storage.kept c.keep.new.self ≡ g.S.Storage.kept c.self.inside.storage = search rules in
    λ key base batches count is_of.
    keep_failed i.words.items i.writer i.size i.kept (a.appended i.storage) (a.appended c.keep.new.self) (a.kept i.storage) (a.kept c.keep.new.self) (a.failed i.storage) (a.failed c.keep.new.self) was is c.keep.ensures.bytes lasts key base batches count
    (subst (λ (j : OnDevice). IsOf key base batches count j) (sym c.self.view_is) is_of)

pub invariant_of-self-2 : goal.invariant_of-self-2
invariant_of-self-2 g c =
    let i = c.self.inside in
    let a = g.S.Storage in
    let inv = c.self.invariant in
    let was : g.S.Storage.failed c.self.inside.storage ≡ false = search rules in
    let is : g.S.Storage.failed c.keep.new.self ≡ false = search rules in
    let lasts : IsAllKept (g.S.Storage.appended c.keep.new.self) (g.S.Storage.kept c.keep.new.self) = search rules in (
      inv.0,
      inv.1,
      inv.2,
      _,
      keep_done i.words.items i.writer i.size i.kept (a.appended i.storage) (a.appended c.keep.new.self) (a.kept i.storage) (a.kept c.keep.new.self) (a.failed i.storage) (a.failed c.keep.new.self) was is c.keep.ensures.bytes lasts inv.0 inv.1 inv.2 inv.3 inv.4,
    )
