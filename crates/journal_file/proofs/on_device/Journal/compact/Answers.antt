use Rattle.std.proofs.Common.{◌≡◌, List, ℕ, [], length, true, false, refl, rules, ap, subst}
use Rattle.journal.specs.Journal.{head_of}
use Rattle.journal_file.specs.Appended.{HasEither, HasJust}
use Rattle.journal_file.specs.OnDevice.{HasNoMore, IsOf, OnDevice}
use Rattle.journal_file.proofs.Steps.{head_done, no_more_anew, on, words_may_begin}
use Rattle.journal_file.proofs.on_device.Journal.compact.Goals as goal

pub invariant_of-self-in-Err-Unknown : goal.invariant_of-self-in-Err-Unknown
invariant_of-self-in-Err-Unknown g c =
    let i = c.self.inside in
    let a = g.S.Storage in
    let inv = c.self.invariant in
    let is : g.S.Storage.failed c.replace.new.self ≡ true = search rules in
    let either : HasEither (g.S.Storage.appended c.self.inside.storage) (g.S.Storage.kept c.self.inside.storage) (g.S.Storage.appended c.replace.new.self) (g.S.Storage.kept c.replace.new.self) c.deref-2.result.now = search rules in
    let head : c.deref-2.result.now ≡ head_of c.args.key.now c.self.inside.words.items = search rules in (
      inv.0,
      inv.1,
      inv.2,
      inv.3,
      no_more_anew c.args.key.now c.deref-2.result.now
          (on i.words.items i.writer i.size i.kept (a.appended i.storage) (a.kept i.storage) (a.failed i.storage))
          (on i.words.items i.writer i.size i.kept (a.appended c.replace.new.self) (a.kept c.replace.new.self) (a.failed c.replace.new.self))
          (record {
            is = is;
            words = refl;
            size = refl;
            kept = refl;
            key_long = search rules;
            are = words_may_begin inv.0 inv.1 inv.2 inv.3 _ inv.4;
            head_is = head;
            either = either;
          }) inv.0 inv.1 inv.2 inv.3 inv.4,
    )

pub returns-in-Err-Unknown-clause-no_more : goal.returns-in-Err-Unknown-clause-no_more
returns-in-Err-Unknown-clause-no_more g c =
    let i = c.self.inside in
    let a = g.S.Storage in
    let inv = c.self.invariant in
    let is : g.S.Storage.failed c.replace.new.self ≡ true = search rules in
    let either : HasEither (g.S.Storage.appended c.self.inside.storage) (g.S.Storage.kept c.self.inside.storage) (g.S.Storage.appended c.replace.new.self) (g.S.Storage.kept c.replace.new.self) c.deref-2.result.now = search rules in
    let head : c.deref-2.result.now ≡ head_of c.args.key.now c.self.inside.words.items = search rules in
    subst (λ (j : OnDevice). HasNoMore j (on i.words.items i.writer i.size i.kept (a.appended c.replace.new.self) (a.kept c.replace.new.self) (a.failed c.replace.new.self))) c.self.view_is
    (no_more_anew c.args.key.now c.deref-2.result.now
    (on i.words.items i.writer i.size i.kept (a.appended i.storage) (a.kept i.storage) (a.failed i.storage))
    (on i.words.items i.writer i.size i.kept (a.appended c.replace.new.self) (a.kept c.replace.new.self) (a.failed c.replace.new.self))
    (record {
      is = is;
      words = refl;
      size = refl;
      kept = refl;
      key_long = search rules;
      are = words_may_begin inv.0 inv.1 inv.2 inv.3 _ inv.4;
      head_is = head;
      either = either;
    }))

pub invariant_of-self-2 : goal.invariant_of-self-2
invariant_of-self-2 g c =
    let i = c.self.inside in
    let a = g.S.Storage in
    let going : g.S.Storage.failed c.replace.new.self ≡ false = search rules in
    let has : HasJust (g.S.Storage.appended c.replace.new.self) (g.S.Storage.kept c.replace.new.self) c.deref-2.result.now = search rules in
    let size : c.len.result ≡ length c.deref-2.result.now = search rules in
    let head : c.deref-2.result.now ≡ head_of c.args.key.now c.self.inside.words.items = search rules in (
      c.args.key.now,
      i.words.items,
      [],
      0,
      head_done c.args.key.now i.words.items c.deref-2.result.now c.in-Ok.writer c.len.result (a.appended c.replace.new.self) (a.kept c.replace.new.self) (a.failed c.replace.new.self)
          (search rules) (search rules) head (search rules) size going has,
    )

pub returns-clause-journal : goal.returns-clause-journal
returns-clause-journal g c =
    let i = c.self.inside in
    let a = g.S.Storage in
    let going : g.S.Storage.failed c.replace.new.self ≡ false = search rules in
    let has : HasJust (g.S.Storage.appended c.replace.new.self) (g.S.Storage.kept c.replace.new.self) c.deref-2.result.now = search rules in
    let size : c.len.result ≡ length c.deref-2.result.now = search rules in
    let head : c.deref-2.result.now ≡ head_of c.args.key.now c.self.inside.words.items = search rules in
    subst (λ (words : List ℕ). IsOf c.args.key.now words [] 0 (on i.words.items c.in-Ok.writer c.len.result c.len.result (a.appended c.replace.new.self) (a.kept c.replace.new.self) (a.failed c.replace.new.self)))
    (ap (λ (j : OnDevice). j.words) c.self.view_is)
    (head_done c.args.key.now i.words.items c.deref-2.result.now c.in-Ok.writer c.len.result (a.appended c.replace.new.self) (a.kept c.replace.new.self) (a.failed c.replace.new.self)
    (search rules) (search rules) head (search rules) size going has)
