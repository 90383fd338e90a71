use Rattle.std.proofs.Common.{◌≡◌, [], false, length, rules}
use Rattle.journal_file.specs.Appended.{HasJust}
use Rattle.journal_file.proofs.Steps.{head_done}
use Rattle.journal_file.proofs.on_device.Journal.begin.Goals as goal

pub invariant_of-result : goal.invariant_of-result
invariant_of-result g c =
    let a = g.S.Storage in
    let going : g.S.Storage.failed c.replace.new.self ≡ false = search rules in
    let has : HasJust (g.S.Storage.appended c.replace.new.self) (g.S.Storage.kept c.replace.new.self) c.deref-2.result.now = search rules in
    let size : c.len-size.result ≡ length c.deref-2.result.now = search rules in (
      c.args.key.now,
      c.args.words.items,
      [],
      0,
      head_done c.args.key.now c.args.words.items c.deref-2.result.now c.in_ok-head.writer c.len-size.result (a.appended c.replace.new.self) (a.kept c.replace.new.self) (a.failed c.replace.new.self)
          (search rules) (search rules) (search rules) (search rules) size going has,
    )

pub returns-clause-journal : goal.returns-clause-journal
returns-clause-journal g c =
    let a = g.S.Storage in
    let going : g.S.Storage.failed c.replace.new.self ≡ false = search rules in
    let has : HasJust (g.S.Storage.appended c.replace.new.self) (g.S.Storage.kept c.replace.new.self) c.deref-2.result.now = search rules in
    let size : c.len-size.result ≡ length c.deref-2.result.now = search rules in
    head_done c.args.key.now c.args.words.items c.deref-2.result.now c.in_ok-head.writer c.len-size.result (a.appended c.replace.new.self) (a.kept c.replace.new.self) (a.failed c.replace.new.self)
    (search rules) (search rules) (search rules) (search rules) size going has
