use Rattle.std.proofs.Common.{◌≡◌, ◌∙◌, ◌+◌, ◌≤◌, arith, ℕ, List, Option, Some, Ok, Result, Bool, slice_get, refl, sym, ap, subst}
use Rattle.std.specs.Prelude.{IfSome}
use Rattle.persist.specs.Memory.{Words}
use Rattle.directory.specs.Queue.{IsOpenSlot, slot_in}
use Rattle.directory.specs.declared.recovery.Recovered.{Recovered}
use Rattle.words.specs.declared.refusal.Refusal.{Refusal}
use Rattle.named.specs.BrokerView.{broker_view}
use Rattle.named.specs.Brokers.{Brokered, IsWell, is_ready_at, quiet, room_of, world_at, world_of}
use Rattle.named.specs.Stopping.{IsDirectoryRead, IsFound, IsReadOn, MayReadOn, found_by, words_read}
use Rattle.named.specs.declared.recovery.BrokerRecovery.{BrokerRecovery}
use Rattle.named.specs.declared.recovery.BrokerRecovery.TheVariants.{ReadDirectory}
use Rattle.named.specs.declared.slot.Slot.{Slot}
use Rattle.directory.specs.Recovering.{most_left}
use Rattle.directory.specs.Recovery.{access_of}
use Rattle.directory.specs.Step.{value_found}
use Rattle.named.specs.Lasting.{left_after_read, left_at, most_kept, steps_left}
use Rattle.persist.proofs.Facts.{lent_alike}
use Rattle.named.proofs.acts.Requests.{all_quiet_asked, recovery_asked}
use Rattle.named.proofs.downtime.StepsLeft.{read_falls}
use Rattle.named.proofs.downtime.Readings.{found_opens, found_over, may_read_on, read_over, well_loaded, worlds_loaded}
use Rattle.named.proofs.broker.Broker.read_directory.Goals as goal

pub invariant_of-self : goal.invariant_of-self
invariant_of-self c =
    let b : Brokered = broker_view c.self.inside in
    let is : b.recovery ≡ Some (ReadDirectory c.args.at) = ap (λ (x : Brokered). x.recovery) c.self.view_is ∙ c.requires in
    record {
      well = subst (λ (ws : Words). let x : Brokered = record b { words = ws } in IsWell x) (sym c.step-recovered.ensures.one_access) (well_loaded b c.self.invariant.well c.args.at is);
      slots = all_quiet_asked b (record b { words = c.step-recovered.new.memory.words }) c.self.inside.memory c.step-recovered.new.memory c.self.invariant refl
          (lent_alike 0 0 c.self.inside.memory c.step-recovered.new.memory c.step-recovered.ensures.lent)
          (λ slot. subst (λ (ws : Words). quiet (world_of ws (slice_get b.slots slot)) ≡ quiet (world_at b slot)) (sym c.step-recovered.ensures.one_access) (worlds_loaded b c.self.invariant.well c.args.at is slot));
      creation = recovery_asked b.counts b.recovery (ReadDirectory c.args.at) b.creation _ is;
    }

pub open_found-requires-clause-well : goal.open_found-requires-clause-well
open_found-requires-clause-well c =
    let b : Brokered = broker_view c.self.inside in
    let is : b.recovery ≡ Some (ReadDirectory c.args.at) = ap (λ (x : Brokered). x.recovery) c.self.view_is ∙ c.requires in
    subst (λ (ws : Words). let x : Brokered = record b { words = ws } in IsWell x) (sym c.step-recovered.ensures.one_access) (well_loaded b c.self.invariant.well c.args.at is)

pub open_found-requires-clause-open : goal.open_found-requires-clause-open
open_found-requires-clause-open c =
    let b : Brokered = broker_view c.self.inside in
    let is : b.recovery ≡ Some (ReadDirectory c.args.at) = ap (λ (x : Brokered). x.recovery) c.self.view_is ∙ c.requires in
    let opens = found_opens b c.self.invariant.well c.args.at is in
    subst (λ (ws : Words). IfSome c.step-recovered.result.opened (λ slot. IsOpenSlot ws.kept slot.0)) (sym c.step-recovered.ensures.one_access)
    (subst (λ (r : Recovered). IfSome r.opened (λ slot. IsOpenSlot b.words.kept slot.0)) (sym c.step-recovered.ensures.next) opens)

pub read_on-requires-clause-may : goal.read_on-requires-clause-may
read_on-requires-clause-may c =
    let b : Brokered = broker_view c.self.inside in
    let is : b.recovery ≡ Some (ReadDirectory c.args.at) = ap (λ (x : Brokered). x.recovery) c.self.view_is ∙ c.requires in
    let now : Brokered = c.open_found.new.self in
    let words : now.words ≡ words_read b c.args.at = ap (λ (x : Brokered). x.words) c.open_found.ensures.same ∙ c.step-recovered.ensures.one_access in
    let it : c.step-recovered.result ≡ found_by b c.args.at = c.step-recovered.ensures.next in
    let is2 : now.recovery ≡ Some (ReadDirectory c.args.at) = ap (λ (x : Brokered). x.recovery) c.open_found.ensures.same ∙ is in
    let kept : c.step-recovered.new.memory.words ≡ now.words = sym (ap (λ (x : Brokered). x.words) c.open_found.ensures.same) in
    let known : IfSome (found_by b c.args.at).opened (λ slot. slice_get now.directory slot.0 ≡ Some (slot_in now.words.kept slot.0)) =
    subst (λ (ws : Words). IfSome (found_by b c.args.at).opened (λ slot. slice_get now.directory slot.0 ≡ Some (slot_in ws.kept slot.0))) kept
    (subst (λ (r : Recovered). IfSome r.opened (λ slot. slice_get now.directory slot.0 ≡ Some (slot_in c.step-recovered.new.memory.words.kept slot.0))) it c.open_found.ensures.known) in
    subst (λ (r : Recovered). MayReadOn now r.after) (sym it) (may_read_on b.counts b.words c.args.at now c.open_found.ensures.well is2 words known)

pub returns-clause-read : goal.returns-clause-read
returns-clause-read c =
    let b : Brokered = broker_view c.self.inside in
    let is : b.recovery ≡ Some (ReadDirectory c.args.at) = ap (λ (x : Brokered). x.recovery) c.self.view_is ∙ c.requires in
    let now : Brokered = c.open_found.new.self in
    let words : now.words ≡ words_read b c.args.at = ap (λ (x : Brokered). x.words) c.open_found.ensures.same ∙ c.step-recovered.ensures.one_access in
    let it : c.step-recovered.result ≡ found_by b c.args.at = c.step-recovered.ensures.next in
    let new : Brokered = c.read_on.new.self in
    let slots : new.slots ≡ now.slots = ap (λ (x : Brokered). x.slots) c.read_on.ensures.same in
    let counts : new.counts ≡ now.counts = ap (λ (x : Brokered). x.counts) c.read_on.ensures.same in
    let same_words : new.words ≡ now.words = ap (λ (x : Brokered). x.words) c.read_on.ensures.same in
    let directory : new.directory ≡ now.directory = ap (λ (x : Brokered). x.directory) c.read_on.ensures.same in
    let found1 : IsFound (record b { words = words_read b c.args.at }) now (found_by b c.args.at).opened =
    subst (λ (ws : Words). let x : Brokered = record b { words = ws } in IsFound x now (found_by b c.args.at).opened) c.step-recovered.ensures.one_access
    (subst (λ (r : Recovered). let x : Brokered = record b { words = c.step-recovered.new.memory.words } in IsFound x now r.opened) it c.open_found.ensures.found) in
    let found : IsFound b new (found_by b c.args.at).opened =
    found_over b now new (words_read b c.args.at) (worlds_loaded b c.self.invariant.well c.args.at is) counts same_words slots directory (found_by b c.args.at).opened found1 in
    let on : IsReadOn now new (found_by b c.args.at).after = subst (λ (r : Recovered). IsReadOn now new r.after) it c.read_on.ensures.next in
    let result : Result Bool Refusal = Ok c.read_on.result in
    let read : IsDirectoryRead b new c.args.at result = record {
      counts = counts ∙ ap (λ (x : Brokered). x.counts) c.open_found.ensures.same;
      words = same_words ∙ words;
      found = found;
      rooms = λ at. omega (arith, c.open_found.ensures.rooms at, ap (λ (l : List Slot). room_of (slice_get l at)) slots);
      next = read_over b now new (found_by b c.args.at).after (ap (λ (x : Brokered). x.creation) c.open_found.ensures.same) on;
      answer = ap (λ (x : Bool). let r : Result Bool Refusal = Ok x in r) c.read_on.ensures.answer;
    } in
    subst (λ (x : Brokered). IsDirectoryRead x new c.args.at result) c.self.view_is read

pub returns-clause-told : goal.returns-clause-told
returns-clause-told c = λ at before now.
    let b : Brokered = broker_view c.self.inside in
    let is : b.recovery ≡ Some (ReadDirectory c.args.at) = ap (λ (x : Brokered). x.recovery) c.self.view_is ∙ c.requires in
    let same : c.open_found.new.self.recovery ≡ c.args.self.now.recovery = ap (λ (x : Brokered). x.recovery) c.open_found.ensures.same ∙ ap (λ (x : Brokered). x.recovery) c.self.view_is in
    c.read_on.ensures.told at (ap (λ (r : Option BrokerRecovery). is_ready_at r at) same ∙ before) now

pub returns-clause-falls : goal.returns-clause-falls
returns-clause-falls c =
    let b : Brokered = broker_view c.self.inside in
    let is : b.recovery ≡ Some (ReadDirectory c.args.at) = ap (λ (x : Brokered). x.recovery) c.self.view_is ∙ c.requires in
    let now : Brokered = c.open_found.new.self in
    let words : now.words ≡ words_read b c.args.at = ap (λ (x : Brokered). x.words) c.open_found.ensures.same ∙ c.step-recovered.ensures.one_access in
    let it : c.step-recovered.result ≡ found_by b c.args.at = c.step-recovered.ensures.next in
    let found : ℕ = value_found b.counts (access_of c.args.at) b.words in
    let counts : now.counts ≡ b.counts = ap (λ (x : Brokered). x.counts) c.open_found.ensures.same in
    let kept : now.words.kept ≡ b.words.kept = ap (λ (ws : Words). ws.kept) words in
    let left : steps_left c.read_on.new.self ≤ left_after_read now (found_by b c.args.at).after = subst (λ (r : Recovered). steps_left c.read_on.new.self ≤ left_after_read now r.after) it c.read_on.ensures.left in
    let less = read_falls b now c.args.at found counts kept in
    let before : steps_left b ≡ most_left c.args.at + most_kept b = ap (left_at b) is in
    omega (arith, left, less, before, ap (λ (x : Brokered). steps_left x) c.self.view_is)

pub returns-clause-promises : goal.returns-clause-promises
returns-clause-promises c = c.read_on.ensures.promises
