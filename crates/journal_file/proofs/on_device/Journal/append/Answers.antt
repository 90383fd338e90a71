use Rattle.std.proofs.Common.{◌≡◌, ◌<◌, ◌+◌, ◌++◌, ℕ, Bool, true, false, length, take, drop, inl, inr, arith, rules, refl, sym, ap, ◌∙◌, subst}
use Rattle.std.proofs.lemmas.Bool.{false≢true}
use Rattle.std.specs.Io.KnownBytes.{append_known}
use Rattle.persist.specs.Noted.{applied}
use Rattle.journal.specs.Journal.{End}
use Rattle.journal.proofs.Facts.{length-applied}
use Rattle.journal_file.specs.Appended.{AppendsPart}
use Rattle.journal_file.specs.OnDevice.{HasMore, HasNoMore, IsOf, OnDevice}
use Rattle.journal_file.proofs.Steps.{append_done, append_failed, on, refused, size_of_words, written}
use Rattle.journal_file.proofs.on_device.Journal.append.Goals as goal

pub invariant_of-self-then-is_err : goal.invariant_of-self-then-is_err
invariant_of-self-then-is_err g c =
    let i = c.self.inside in
    let a = g.S.Storage in
    let inv = c.self.invariant in
    let was : g.S.Storage.failed c.self.inside.storage ≡ false = search rules in
    let is : g.S.Storage.failed c.append.new.self ≡ true = c.append.ensures.failed ∙ sym c.is_err.ensures.value ∙ c.if-is_err.true in
    let part : AppendsPart (g.S.Storage.appended c.self.inside.storage) (g.S.Storage.appended c.append.new.self) c.deref.result.now = search rules in (
      inv.0,
      inv.1,
      inv.2,
      inv.3,
      append_failed (record { kept = i.kept; changes = c.args.changes.now }) i.words.items i.writer c.frame.new.self i.size i.kept (a.appended i.storage) (a.appended c.append.new.self)
          (a.kept i.storage) (a.kept c.append.new.self) (a.failed i.storage) (a.failed c.append.new.self) c.deref.result.now c.frame.new.out.items c.new-frame.result.items
          was is c.append.ensures.kept c.in_default.ensures.batch c.deref.ensures.value c.in_default.ensures.ok c.new-frame.ensures.items part inv.0 inv.1 inv.2 inv.3 inv.4,
    )

pub apply-requires : goal.apply-requires
apply-requires g c = λ k d inside.
    let inv = c.self.invariant in
    let was : g.S.Storage.failed c.self.inside.storage ≡ false = search rules in
    let there : length c.deref_mut.result.now ≡ length c.self.inside.words.items = search rules in
    let one = c.in_default.ensures.batch in
    omega (arith, there, (one.within k d inside).word, size_of_words inv.0 inv.1 inv.2 inv.3 _ inv.4 was)

pub invariant_of-self-2 : goal.invariant_of-self-2
invariant_of-self-2 g c =
    let i = c.self.inside in
    let a = g.S.Storage in
    let inv = c.self.invariant in
    let was : g.S.Storage.failed c.self.inside.storage ≡ false = search rules in
    let is : g.S.Storage.failed c.append.new.self ≡ false = c.append.ensures.failed ∙ sym c.is_err.ensures.value ∙ c.if-is_err.false in
    let all : g.S.Storage.appended c.append.new.self ≡ append_known (g.S.Storage.appended c.self.inside.storage) c.deref.result.now = search rules in
    let items : c.deref_mut.result.now ≡ c.self.inside.words.items = c.deref_mut.ensures.value in
    let long : c.self.inside.words.len ≡ length c.self.inside.words.items = search rules in
    let longer : c.self.inside.size + c.len.result ≡ c.self.inside.size + length c.deref.result.now = search rules in (
      inv.0,
      inv.1,
      _,
      inv.3,
      append_done (record { kept = i.kept; changes = c.args.changes.now }) i.words.items (take i.words.len (c.apply.new.words ++ drop (length c.apply.new.words) i.words.items)) i.writer c.frame.new.self i.size (i.size + c.len.result) i.kept
          (a.appended i.storage) (a.appended c.append.new.self) (a.kept i.storage) (a.kept c.append.new.self) (a.failed i.storage) (a.failed c.append.new.self) c.deref.result.now c.frame.new.out.items c.new-frame.result.items
          was is c.append.ensures.kept c.in_default.ensures.batch c.deref.ensures.value c.in_default.ensures.ok c.new-frame.ensures.items all
          (written i.words.len i.words.items c.apply.new.words (applied c.args.changes.now i.words.items) long (length-applied c.args.changes.now i.words.items) (c.apply.ensures ∙ ap (applied c.args.changes.now) items))
          c.in_default.ensures.goes_on longer inv.0 inv.1 inv.2 inv.3 inv.4,
    )

-- where the device had not failed, nothing is said of one that had
going_on : {P : Type 0} (failed was : Bool) → was ≡ false → was ≡ failed → failed ≡ true → P
going_on failed was going same over = absurd (false≢true (sym going ∙ same ∙ over))

pub returns-then-self-gt-MAX_SIZE : goal.returns-then-self-gt-MAX_SIZE
returns-then-self-gt-MAX_SIZE g c =
    let was : g.S.Storage.failed c.self.inside.storage ≡ false = search rules in
    record {
      journal = tt;
      words = tt;
      going = tt;
      same = refl;
      no_more = λ key base batches count is. is;
      kept = refl;
      over = going_on _ _ was (ap (λ (j : OnDevice). j.failed) c.self.view_is);
      errors = inr (inl (refl, subst (λ (n : ℕ). 9223372036854775808 < n) (ap (λ (j : OnDevice). j.size) c.self.view_is) c.if-self-gt-MAX_SIZE.true, refl));
    }

pub returns-in-Err : goal.returns-in-Err
returns-in-Err g c =
    let i = c.self.inside in
    let a = g.S.Storage in
    let inv = c.self.invariant in
    let was : g.S.Storage.failed c.self.inside.storage ≡ false = search rules in
    let unchanged : on i.words.items c.frame.new.self i.size i.kept (a.appended i.storage) (a.kept i.storage) (a.failed i.storage) ≡ c.args.self.now =
    ap (λ (end : End). on i.words.items end i.size i.kept (a.appended i.storage) (a.kept i.storage) (a.failed i.storage)) c.in-Err.ensures.stays ∙ c.self.view_is in
    record {
      journal = tt;
      words = tt;
      going = tt;
      same = ap (λ (j : OnDevice). j.words) unchanged;
      no_more = λ key base batches count is. subst (IsOf key base batches count) (sym unchanged) is;
      kept = ap (λ (j : OnDevice). j.kept) unchanged;
      over = going_on _ _ was (ap (λ (j : OnDevice). j.failed) c.self.view_is);
      errors =
          refused c.in-Err.refusal c.args.changes.now i.writer.size c.args.self.now.words _ _ _
          (size_of_words inv.0 inv.1 inv.2 inv.3 _ inv.4 was ∙ ap (λ (j : OnDevice). length j.words) c.self.view_is)
          unchanged c.in-Err.ensures.errors;
    }

pub returns-then-is_err : goal.returns-then-is_err
returns-then-is_err g c =
    let i = c.self.inside in
    let a = g.S.Storage in
    let was : g.S.Storage.failed c.self.inside.storage ≡ false = search rules in
    let is : g.S.Storage.failed c.append.new.self ≡ true = c.append.ensures.failed ∙ sym c.is_err.ensures.value ∙ c.if-is_err.true in
    let part : AppendsPart (g.S.Storage.appended c.self.inside.storage) (g.S.Storage.appended c.append.new.self) c.deref.result.now = search rules in
    record {
      journal = tt;
      words = tt;
      going = tt;
      same = ap (λ (j : OnDevice). j.words) c.self.view_is;
      no_more = subst (λ (j : OnDevice). HasNoMore j (on i.words.items c.frame.new.self i.size i.kept (a.appended c.append.new.self) (a.kept c.append.new.self) (a.failed c.append.new.self))) c.self.view_is
          (append_failed (record { kept = i.kept; changes = c.args.changes.now }) i.words.items i.writer c.frame.new.self i.size i.kept (a.appended i.storage) (a.appended c.append.new.self)
          (a.kept i.storage) (a.kept c.append.new.self) (a.failed i.storage) (a.failed c.append.new.self) c.deref.result.now c.frame.new.out.items c.new-frame.result.items
          was is c.append.ensures.kept c.in_default.ensures.batch c.deref.ensures.value c.in_default.ensures.ok c.new-frame.ensures.items part);
      kept = ap (λ (j : OnDevice). j.kept) c.self.view_is;
      over = going_on _ _ was (ap (λ (j : OnDevice). j.failed) c.self.view_is);
      errors = inl (refl, is);
    }

pub returns : goal.returns
returns g c =
    let i = c.self.inside in
    let a = g.S.Storage in
    let was : g.S.Storage.failed c.self.inside.storage ≡ false = search rules in
    let is : g.S.Storage.failed c.append.new.self ≡ false = c.append.ensures.failed ∙ sym c.is_err.ensures.value ∙ c.if-is_err.false in
    let all : g.S.Storage.appended c.append.new.self ≡ append_known (g.S.Storage.appended c.self.inside.storage) c.deref.result.now = search rules in
    let items : c.deref_mut.result.now ≡ c.self.inside.words.items = c.deref_mut.ensures.value in
    let long : c.self.inside.words.len ≡ length c.self.inside.words.items = search rules in
    let longer : c.self.inside.size + c.len.result ≡ c.self.inside.size + length c.deref.result.now = search rules in
    record {
      journal = subst (λ (j : OnDevice). HasMore (record { kept = j.kept; changes = c.args.changes.now }) j
          (on (take i.words.len (c.apply.new.words ++ drop (length c.apply.new.words) i.words.items)) c.frame.new.self (i.size + c.len.result) i.kept (a.appended c.append.new.self) (a.kept c.append.new.self) (a.failed c.append.new.self))) c.self.view_is
          (append_done (record { kept = i.kept; changes = c.args.changes.now }) i.words.items (take i.words.len (c.apply.new.words ++ drop (length c.apply.new.words) i.words.items)) i.writer c.frame.new.self i.size (i.size + c.len.result) i.kept
          (a.appended i.storage) (a.appended c.append.new.self) (a.kept i.storage) (a.kept c.append.new.self) (a.failed i.storage) (a.failed c.append.new.self) c.deref.result.now c.frame.new.out.items c.new-frame.result.items
          was is c.append.ensures.kept c.in_default.ensures.batch c.deref.ensures.value c.in_default.ensures.ok c.new-frame.ensures.items all
          (written i.words.len i.words.items c.apply.new.words (applied c.args.changes.now i.words.items) long (length-applied c.args.changes.now i.words.items) (c.apply.ensures ∙ ap (applied c.args.changes.now) items))
          c.in_default.ensures.goes_on longer);
      words =
          written i.words.len i.words.items c.apply.new.words (applied c.args.changes.now i.words.items) long (length-applied c.args.changes.now i.words.items) (c.apply.ensures ∙ ap (applied c.args.changes.now) items)
          ∙ ap (λ (j : OnDevice). applied c.args.changes.now j.words) c.self.view_is;
      going = is;
      same = tt;
      no_more = tt;
      kept = ap (λ (j : OnDevice). j.kept) c.self.view_is;
      over = going_on _ _ was (ap (λ (j : OnDevice). j.failed) c.self.view_is);
      errors = tt;
    }
