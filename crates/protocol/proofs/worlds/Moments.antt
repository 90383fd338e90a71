-- How the log of a ready world grows with a kept word, and with a look.
use Rattle.std.proofs.Common.{◌⊎◌, ◌≡◌, ◌≢◌, ℕ, inl, inr, List, [], ◌∷◌, ◌++◌, length, map, drop, Bool, true, false, Option, Some, None, if◌then◌else◌, ◌==◌, refl, sym, ◌∙◌, ap, subst}
use Rattle.std.specs.Prelude.{slice_get, All}
use Rattle.std.proofs.lemmas.Bool.{cases_eq, eqb-true, eqb-false}
use Rattle.std.proofs.lemmas.List.Elements.{All-weaker}
use mathlib.Core.Path.{fun_ext}
use Rattle.words.specs.PlainQueue.{reply_of, served, Value}
use Rattle.words.specs.declared.call.Call.TheVariants.{Enq, Deq}
use Rattle.words.specs.declared.call.Kind.{Kind}
use Rattle.words.specs.declared.call.Kind.TheVariants.{Durable, Log}
use Rattle.words.specs.declared.call.Reply.{Reply}
use Rattle.words.specs.declared.call.Reply.TheVariants.{Done, Got, Empty}
use Rattle.words.specs.declared.call.Token.{Token}
use Rattle.arena.specs.Chain.{IsFirst, IsAmong}
use Rattle.arena.specs.Shape.{owner}
use Rattle.arena.specs.Words.{links, marks, values}
use Rattle.protocol.proofs.changes.Puts.{values_same}
use Rattle.arena.specs.declared.place.Place.{Place}
use Rattle.arena.specs.declared.place.Place.TheVariants.{Head, Tail, Announcement, Bump, Item, Next, Mark, Cell, Insert}
use Rattle.arena.specs.declared.place.Place.TheVariants.{Number, EntryKind, Status, EntryNode}
use Rattle.events.specs.Effects.{order_of, with_effect, with_pending, without_pending, with_settled}
use Rattle.events.specs.Trace.{IsTrace, IsPending, queue_of}
use Rattle.events.specs.Parts.{IsPartOf}
use Rattle.events.specs.Replay.{IsServed, call_at, call_of, queue_after_call}
use Rattle.events.specs.declared.event.Effect.{Effect}
use Rattle.events.specs.declared.event.Event.TheVariants.{Call as call_event}
use Rattle.events.proofs.Facts.{forgot, found, part_of_part, part_same, part_with_effect, part_with_pending}
use Rattle.events.proofs.Facts.{part_with_settled, part_without_pending, queue_with_effect, queue_with_pending}
use Rattle.events.proofs.Facts.{queue_with_settled, queue_without_pending, settled, took}
use Rattle.protocol.specs.Machine.{World, effects_on_keep, after_keeping, effects_on_look, effects_on_take as took_by}
use Rattle.protocol.specs.Machine.{effects_on_count}
use Rattle.protocol.specs.declared.UnderWay.{UnderWay}
use Rattle.protocol.proofs.chain.Chains.{upd, upd_at, upd_other}
use Rattle.protocol.proofs.chain.Links.{kept_apart, kept_none, none_waiting}
use Rattle.protocol.specs.invariants.Ledger.{Stage, Ledger, held_token, stage_at}
use Rattle.protocol.specs.invariants.Places.{SaysEmpty}
use Rattle.protocol.specs.invariants.Base.{IsLinking, IsClaiming, IsAnswering, Base}
use Rattle.protocol.specs.invariants.Knows.{IsPassed, Loose, Before, Acting, Knows}
use Rattle.protocol.specs.invariants.Ledger.Stage.{Unmoved, Seen, Took}
use Rattle.protocol.proofs.changes.Keeps.{restaged, counted, noticed_ledger, kept_ledger}
use Rattle.protocol.proofs.changes.Fences.{cell_says, status_says}
use Rattle.protocol.proofs.calls.Rows.{looked_stage}
use Rattle.protocol.specs.invariants.Records.{Both}
use Rattle.protocol.proofs.records.RecordStores.{acting_announced, acting_of}
use Rattle.events.specs.Telling.{IsToldOf}
use Rattle.protocol.proofs.worlds.Stages.{none_of_unmoved, stage_push_other, stage_push, unseen, stage_forgotten}
use Rattle.protocol.proofs.worlds.Stages.{stage_forgotten_other, stage_settled_other, stage_settled}
use Rattle.protocol.specs.invariants.Worlds.{record_of_call, stage_of, ledger_from, ledger_of, IsCalling, KnowsCall}
use Rattle.protocol.specs.invariants.Worlds.{Working}

-- one call's stage is another at most; if that call may be told of, its record is announced
abbrev pub Moved : World → List Effect → Type 0
Moved w effects = ((q : ℕ) → stage_at q effects ≡ stage_at q w.log.effects) ⊎ record {
  o : ℕ;
  u : UnderWay;
  at : w.calls o ≡ Some u;
  others : (q : ℕ) → q ≢ u.place → stage_at q effects ≡ stage_at q w.log.effects;
  announced : IsToldOf w.shape.kind u.begun.call → Both w.memory (Announcement (record { 0 = o })) u.begun.token.0;
}

-- the log with other effects
pub record Noted (w : World) (effects : List Effect) (k : Ledger) : Type 0 where
  pub log : IsTrace w.shape.kind w.base w.told w.log.events effects
  pub same : ledger_from w.calls w.log.events w.base effects ≡ k
  pub part : IsPartOf (order_of w.log.effects) (order_of effects)
  pub moved : Moved w effects

served_deq : (queue : List Value) → served queue Deq ≡ drop 1 queue
served_deq [] = refl
served_deq (x ∷ xs) = refl

reply_deq : (queue : List Value) (values : ℕ → Value) (waiting : List ℕ) (n : ℕ) → map values waiting ≡ queue → IsFirst n waiting → Got (values n) ≡ reply_of queue Deq
reply_deq queue values [] n e h = absurd h
reply_deq queue values (x ∷ xs) n e h = subst (λ q. Got (values n) ≡ reply_of q Deq) e (ap (λ y. Got (values y)) h)

module _ (w : World) (v : Working w) where
  -- what a call under way knows, and where it stands
  pub calling : (i : ℕ) (u : UnderWay) → w.calls i ≡ Some u → Knows w.shape w.memory (ledger_of w) i u.op × IsCalling w.log.events i u
  calling i u e = subst (KnowsCall w.shape w.memory (ledger_of w) w.log.events i) e (v.calls i)

  -- calls of two clients stand at two places
  pub places_apart : (i j : ℕ) (u x : UnderWay) → w.calls i ≡ Some u → w.calls j ≡ Some x → i ≢ j → u.place ≢ x.place
  places_apart i j u x e f ne at =
      let c : IsCalling w.log.events i u = (calling i u e).1 in
      let d : IsCalling w.log.events j x = (calling j x f).1 in
      let same : Some (call_event u.begun.client u.begun.number u.begun.call) ≡ Some (call_event x.begun.client x.begun.number x.begun.call) =
      sym c.stands ∙ ap (slice_get w.log.events) at ∙ d.stands in
      let who : u.begun.client ≡ x.begun.client = cc in
      ne (sym c.who ∙ ap (λ y. y.0) who ∙ d.who)

  call_stands : (i : ℕ) (u : UnderWay) → w.calls i ≡ Some u → call_at w.log.events u.place ≡ Some u.begun.call
  call_stands i u e = ap call_of (calling i u e).1.stands

  -- effects that differ in one client's call alone
  restaged_by : (o : ℕ) (u : UnderWay) (effects : List Effect) (st : Stage) (queue : List Value) → w.calls o ≡ Some u → stage_at u.place effects ≡ st
      → ((q : ℕ) → q ≢ u.place → stage_at q effects ≡ stage_at q w.log.effects) → queue_of w.log.events w.base effects ≡ queue
      → ledger_from w.calls w.log.events w.base effects ≡ restaged (ledger_of w) o st queue
  restaged_by o u effects st queue at now others same =
      let stages : (λ j. stage_of (w.calls j) effects) ≡ upd (λ j. stage_of (w.calls j) w.log.effects) o st = fun_ext (λ j. elim (cases_eq j o) [
        | inl e ↦ ap (λ c. stage_of c effects) (ap w.calls e ∙ at) ∙ now ∙ sym (upd_at (λ i. stage_of (w.calls i) w.log.effects) o st j e)
        | inr ne ↦ go j ne (w.calls j) refl ∙ sym (upd_other (λ i. stage_of (w.calls i) w.log.effects) o st j ne)
      ]) in
      ap (λ (f : ℕ → Stage). let k : Ledger = record { begun = λ i. record_of_call (w.calls i); stage = f; queue = queue_of w.log.events w.base effects } in k) stages
      ∙ ap (λ (q : List Value). let k : Ledger = record { begun = λ i. record_of_call (w.calls i); stage = upd (λ j. stage_of (w.calls j) w.log.effects) o st; queue = q } in k) same
    where
      go : (j : ℕ) → j ≢ o → (c : Option UnderWay) → w.calls j ≡ c → stage_of c effects ≡ stage_of c w.log.effects
      go j ne None e = refl
      go j ne (Some x) e = others x.place (places_apart j o x u e at ne)

  -- whose token the ledger has, that call is under way
  pub holder : (i c : ℕ) → c ≢ 0 → held_token (ledger_of w) i ≡ c → (u : UnderWay) × (w.calls i ≡ Some u)
  holder i c some h = go (w.calls i) refl h
    where
      go : (x : Option UnderWay) → w.calls i ≡ x → (record_of_call x).token.0 ≡ c → (u : UnderWay) × (w.calls i ≡ Some u)
      go None e q = absurd (some (sym q))
      go (Some u) e q = (u, e)

  -- the stage of a call that is not that of an idle client
  stager : (i : ℕ) → (ledger_of w).stage i ≡ Seen → (u : UnderWay) × (w.calls i ≡ Some u)
  stager i h = go (w.calls i) refl h
    where
      go : (x : Option UnderWay) → w.calls i ≡ x → stage_of x w.log.effects ≡ Seen → (u : UnderWay) × (w.calls i ≡ Some u)
      go None e q = absurd (cc)
      go (Some u) e q = (u, e)

  -- a call that acts has announced its record, if it may be told of
  caller_announced : (o : ℕ) (u : UnderWay) → w.calls o ≡ Some u → Acting w.shape w.memory (ledger_of w) o (held_token (ledger_of w) o) → IsToldOf w.shape.kind u.begun.call
      → Both w.memory (Announcement (record { 0 = o })) u.begun.token.0
  caller_announced o u at h told =
      subst (λ b. Both w.memory (Announcement (record { 0 = o })) b.token.0) (ap record_of_call at)
      (acting_announced w.shape w.memory (ledger_of w) o (held_token (ledger_of w) o) h (subst (λ b. IsToldOf w.shape.kind b.call) (sym (ap record_of_call at)) told))

  moved_acting : (o : ℕ) (u : UnderWay) → w.calls o ≡ Some u → (Loose w.memory (held_token (ledger_of w) o) → (SaysEmpty w.shape w.memory.cached (held_token (ledger_of w) o) → ⊥) → ⊥)
      → IsToldOf w.shape.kind u.begun.call → Both w.memory (Announcement (record { 0 = o })) u.begun.token.0
  moved_acting o u at moved told = caller_announced o u at (acting_of w.shape w.memory (ledger_of w) o u.op (calling o u at).0 moved) told

  pub nothing_noted : Noted w w.log.effects (ledger_of w)
  nothing_noted = record { log = v.log; same = refl; part = part_same (order_of w.log.effects); moved = inl (λ q. refl) }

  -- a call takes effect
  took_noted : (o : ℕ) (u : UnderWay) (reply : Reply) (queue : List Value) → w.calls o ≡ Some u → (ledger_of w).stage o ≡ Unmoved → reply ≡ reply_of (ledger_of w).queue u.begun.call
      → served (ledger_of w).queue u.begun.call ≡ queue
      → (IsToldOf w.shape.kind u.begun.call → Both w.memory (Announcement (record { 0 = o })) u.begun.token.0)
      → Noted w (took_by reply (length w.log.events) (w.calls o) w.log.effects) (restaged (ledger_of w) o (Took reply) queue)
  took_noted o u reply queue at unmoved right left announced =
      let es : List Effect = with_effect u.place reply (length w.log.events) w.log.effects in
      let c : IsCalling w.log.events o u = (calling o u at).1 in
      let none : stage_at u.place w.log.effects ≡ Unmoved = sym (ap (λ x. stage_of x w.log.effects) at) ∙ unmoved in
      let x : Effect = record { place = u.place; reply = reply; moment = length w.log.events; settled = true } in
      let log : IsTrace w.shape.kind w.base w.told w.log.events (with_effect u.place reply (length w.log.events) w.log.effects) =
      took w.shape.kind w.base w.told w.log.events w.log.effects u.begun.client u.place reply v.log c.open_from (none_of_unmoved u.place w.log.effects none)
      (record { call = u.begun.call; names = call_stands o u at; reply = right }) in
      let queue_is : queue_of w.log.events w.base (with_effect u.place reply (length w.log.events) w.log.effects) ≡ queue =
      queue_with_effect w.log.events w.base w.log.effects u.place reply (length w.log.events) ∙ ap (queue_after_call (ledger_of w).queue) (call_stands o u at) ∙ left in
      let same : ledger_from w.calls w.log.events w.base (with_effect u.place reply (length w.log.events) w.log.effects) ≡ restaged (ledger_of w) o (Took reply) queue =
      restaged_by o u (with_effect u.place reply (length w.log.events) w.log.effects) (Took reply) queue at
      (stage_push u.place w.log.effects (record { place = u.place; reply = reply; moment = length w.log.events; settled = true }) refl none)
      (λ q ne. stage_push_other q w.log.effects (record { place = u.place; reply = reply; moment = length w.log.events; settled = true }) (λ e. ne (sym e))) queue_is in
      subst (λ y. Noted w (took_by reply (length w.log.events) y w.log.effects) (restaged (ledger_of w) o (Took reply) queue)) (sym at)
      (record {
        log = log;
        same = same;
        part = part_with_effect w.log.effects u.place reply (length w.log.events);
        moved = inr (record {
          o = o;
          u = u;
          at = at;
          others = λ q ne. stage_push_other q w.log.effects (record { place = u.place; reply = reply; moment = length w.log.events; settled = true }) (λ e. ne (sym e));
          announced = announced;
        });
      })

  -- what a dequeue found counts
  counts_noted : (o : ℕ) (u : UnderWay) → w.calls o ≡ Some u → (ledger_of w).stage o ≡ Seen
      → (IsToldOf w.shape.kind u.begun.call → Both w.memory (Announcement (record { 0 = o })) u.begun.token.0)
      → Noted w (effects_on_count (w.calls o) w.log.effects) (restaged (ledger_of w) o (counted ((ledger_of w).stage o)) (ledger_of w).queue)
  counts_noted o u at seen announced =
      let c : IsCalling w.log.events o u = (calling o u at).1 in
      let here : stage_at u.place w.log.effects ≡ Seen = sym (ap (λ x. stage_of x w.log.effects) at) ∙ seen in
      let empties : All (λ x. x.settled ≡ false → x.reply ≡ Empty) w.log.effects =
      All-weaker (λ (x : Effect). x.settled ≡ false → IsPending w.log.events x) (λ (x : Effect). x.settled ≡ false → x.reply ≡ Empty) (λ x h q. (h q).empty) w.log.effects v.log.pending in
      let now : stage_at u.place (with_settled u.place w.log.effects) ≡ counted ((ledger_of w).stage o) = stage_settled u.place w.log.effects empties here ∙ ap counted (sym seen) in
      subst (λ y. Noted w (effects_on_count y w.log.effects) (restaged (ledger_of w) o (counted ((ledger_of w).stage o)) (ledger_of w).queue)) (sym at)
      (record {
        log = settled w.shape.kind w.base w.told w.log.events w.log.effects u.begun.client u.place v.log c.open_from;
        same = restaged_by o u (with_settled u.place w.log.effects) (counted ((ledger_of w).stage o)) (ledger_of w).queue at now
            (λ q ne. stage_settled_other u.place q w.log.effects ne) (queue_with_settled w.log.events w.base w.log.effects u.place);
        part = part_with_settled u.place w.log.effects;
        moved = inr (record { o = o; u = u; at = at; others = λ q ne. stage_settled_other u.place q w.log.effects ne; announced = announced });
      })

  link_noted : (n : ℕ) → links w.memory.kept n ≢ links w.memory.cached n
      → Noted w (effects_on_keep w (Next (record { 0 = n })) (links w.memory.cached n)) (noticed_ledger w.shape w.memory (ledger_of w) (Next (record { 0 = n })) (links w.memory.cached n))
  link_noted n apart =
      let b : Base w.shape w.memory (ledger_of w) v.claimed v.waiting = v.base in
      let none : links w.memory.kept n ≡ 0 = kept_apart (links w.memory.cached) (links w.memory.kept) n (b.chained.kept n) apart in
      let some : links w.memory.cached n ≢ 0 = λ z. apart (none ∙ sym z) in
      let f : IsLinking w.shape (ledger_of w) (values w.memory.cached) (links w.memory.cached n) = b.flying_link n some none in
      let o : ℕ = owner w.shape (links w.memory.cached n) in
      let u : (u : UnderWay) × (w.calls (owner w.shape (links w.memory.cached n)) ≡ Some u) = holder (owner w.shape (links w.memory.cached n)) (links w.memory.cached n) some f.holds in
      let call : u.0.begun.call ≡ Enq (values w.memory.kept (links w.memory.cached n)) = sym (ap (λ x. (record_of_call x).call) u.1) ∙ f.asks ∙ ap Enq (values_same w.memory.cached w.memory.kept (links w.memory.cached n) (λ part. b.linked_part n part some)) in
      took_noted (owner w.shape (links w.memory.cached n)) u.0 Done ((ledger_of w).queue ++ values w.memory.kept (links w.memory.cached n) ∷ []) u.1 f.unmoved
      (sym (ap (reply_of (ledger_of w).queue) call)) (ap (served (ledger_of w).queue) call)
      (moved_acting (owner w.shape (links w.memory.cached n)) u.0 u.1 (λ loose silent. loose.link n (sym f.holds)))

  mark_noted : (n : ℕ) → marks w.memory.kept n ≢ marks w.memory.cached n
      → Noted w (effects_on_keep w (Mark (record { 0 = n })) (marks w.memory.cached n)) (noticed_ledger w.shape w.memory (ledger_of w) (Mark (record { 0 = n })) (marks w.memory.cached n))
  mark_noted n apart =
      let b : Base w.shape w.memory (ledger_of w) v.claimed v.waiting = v.base in
      let none : marks w.memory.kept n ≡ 0 = kept_apart (marks w.memory.cached) (marks w.memory.kept) n (b.marked.kept n) apart in
      let some : marks w.memory.cached n ≢ 0 = λ z. apart (none ∙ sym z) in
      let f : IsClaiming w.shape (ledger_of w) (marks w.memory.cached n) = b.flying_mark n some none in
      let u : (u : UnderWay) × (w.calls (owner w.shape (marks w.memory.cached n)) ≡ Some u) = holder (owner w.shape (marks w.memory.cached n)) (marks w.memory.cached n) some f.holds in
      let call : u.0.begun.call ≡ Deq = sym (ap (λ x. (record_of_call x).call) u.1) ∙ f.asks in
      took_noted (owner w.shape (marks w.memory.cached n)) u.0 (Got (values w.memory.kept n)) (drop 1 (ledger_of w).queue) u.1 f.unmoved
      (reply_deq (ledger_of w).queue (values w.memory.kept) v.waiting n b.content (b.marked.ahead n some none) ∙ sym (ap (reply_of (ledger_of w).queue) call))
      (ap (served (ledger_of w).queue) call ∙ served_deq (ledger_of w).queue)
      (moved_acting (owner w.shape (marks w.memory.cached n)) u.0 u.1 (λ loose silent. loose.mark n (sym f.holds)))

  says_noted : (c : ℕ) → SaysEmpty w.shape w.memory.cached c → (SaysEmpty w.shape w.memory.kept c → ⊥)
      → Noted w (effects_on_count (w.calls (owner w.shape c)) w.log.effects) (restaged (ledger_of w) (owner w.shape c) (counted ((ledger_of w).stage (owner w.shape c))) (ledger_of w).queue)
  says_noted c says fresh =
      let b : Base w.shape w.memory (ledger_of w) v.claimed v.waiting = v.base in
      let f : IsAnswering w.shape (ledger_of w) (marks w.memory.cached) c = b.empty.flying c says fresh in
      let u : (u : UnderWay) × (w.calls (owner w.shape c) ≡ Some u) = stager (owner w.shape c) f.seen in
      counts_noted (owner w.shape c) u.0 u.1 f.seen (moved_acting (owner w.shape c) u.0 u.1 (λ loose silent. silent (subst (SaysEmpty w.shape w.memory.cached) (sym f.holds) says)))

  cell_noted : (c : Token) → w.memory.kept (Cell c) ≢ w.memory.cached (Cell c) → Noted w (effects_on_keep w (Cell c) (w.memory.cached (Cell c))) (noticed_ledger w.shape w.memory (ledger_of w) (Cell c) (w.memory.cached (Cell c)))
  cell_noted c apart = go w.shape.kind refl (w.memory.cached (Cell c) == 1) refl
    where
      go : (kind : Kind) → w.shape.kind ≡ kind → (t : Bool) → (w.memory.cached (Cell c) == 1) ≡ t
          → Noted w (if t then effects_on_count (w.calls (owner w.shape c.0)) w.log.effects else w.log.effects) (if t then restaged (ledger_of w) (owner w.shape c.0) (counted ((ledger_of w).stage (owner w.shape c.0))) (ledger_of w).queue else ledger_of w)
      go Durable e true t =
          let says : w.memory.cached (Cell c) ≡ 1 = eqb-true (w.memory.cached (Cell c)) 1 t in
          says_noted c.0 ((cell_says w.shape w.memory.cached c e).1 says) (λ h. apart ((cell_says w.shape w.memory.kept c e).0 h ∙ sym says))
      go Durable e false t = nothing_noted
      go Log e t q =
          let b : Base w.shape w.memory (ledger_of w) v.claimed v.waiting = v.base in
          let wrong : w.shape.kind ≡ Durable → ⊥ = λ r. cc in
          absurd (apart (b.absent_kept (Cell c) (λ h. wrong h.0) ∙ sym (b.absent (Cell c) (λ h. wrong h.0))))

  status_noted : (c : Token) → w.memory.kept (Status c) ≢ w.memory.cached (Status c) → Noted w (effects_on_keep w (Status c) (w.memory.cached (Status c))) (noticed_ledger w.shape w.memory (ledger_of w) (Status c) (w.memory.cached (Status c)))
  status_noted c apart = go w.shape.kind refl (w.memory.cached (Status c) == 2) refl
    where
      go : (kind : Kind) → w.shape.kind ≡ kind → (t : Bool) → (w.memory.cached (Status c) == 2) ≡ t
          → Noted w (if t then effects_on_count (w.calls (owner w.shape c.0)) w.log.effects else w.log.effects) (if t then restaged (ledger_of w) (owner w.shape c.0) (counted ((ledger_of w).stage (owner w.shape c.0))) (ledger_of w).queue else ledger_of w)
      go Log e true t =
          let says : w.memory.cached (Status c) ≡ 2 = eqb-true (w.memory.cached (Status c)) 2 t in
          says_noted c.0 ((status_says w.shape w.memory.cached c e).1 says) (λ h. apart ((status_says w.shape w.memory.kept c e).0 h ∙ sym says))
      go Log e false t = nothing_noted
      go Durable e t q =
          let b : Base w.shape w.memory (ledger_of w) v.claimed v.waiting = v.base in
          let wrong : w.shape.kind ≡ Log → ⊥ = λ r. cc in
          absurd (apart (b.absent_kept (Status c) (λ h. wrong h.0) ∙ sym (b.absent (Status c) (λ h. wrong h.0))))

  new_noted : (p : Place) → w.memory.kept p ≢ w.memory.cached p → Noted w (effects_on_keep w p (w.memory.cached p)) (noticed_ledger w.shape w.memory (ledger_of w) p (w.memory.cached p))
  new_noted (Next n) apart = link_noted n.0 apart
  new_noted (Mark n) apart = mark_noted n.0 apart
  new_noted (Cell c) apart = cell_noted c apart
  new_noted (Status c) apart = status_noted c apart
  new_noted Head apart = nothing_noted
  new_noted Tail apart = nothing_noted
  new_noted (Announcement t) apart = nothing_noted
  new_noted (Bump t) apart = nothing_noted
  new_noted (Item n part) apart = nothing_noted
  new_noted (Insert n) apart = nothing_noted
  new_noted (Number e) apart = nothing_noted
  new_noted (EntryKind e) apart = nothing_noted
  new_noted (EntryNode e) apart = nothing_noted

  -- any word is kept
  pub keep_noted : (p : Place) → Noted w (after_keeping w p) (kept_ledger w.shape w.memory (ledger_of w) p)
  keep_noted p = go (w.memory.kept p == w.memory.cached p) refl
    where
      go : (t : Bool) → (w.memory.kept p == w.memory.cached p) ≡ t
          → Noted w (if t then w.log.effects else effects_on_keep w p (w.memory.cached p)) (if t then ledger_of w else noticed_ledger w.shape w.memory (ledger_of w) p (w.memory.cached p))
      go true e = nothing_noted
      go false e = new_noted p (eqb-false (w.memory.kept p) (w.memory.cached p) e)

  unseen_untaken : (st : Stage) → ((r : Reply) → st ≢ Took r) → unseen st ≡ Unmoved
  unseen_untaken Unmoved h = refl
  unseen_untaken Seen h = refl
  unseen_untaken (Took r) h = absurd (h r refl)

  -- a dequeue looks behind its first node: if nothing is there the queue is empty
  pub looked_noted : (i : ℕ) (u : UnderWay) (first c : ℕ) → w.calls i ≡ Some u → u.begun.call ≡ Deq → Before w.shape w.memory (ledger_of w) i c → Acting w.shape w.memory (ledger_of w) i c → IsPassed w.memory first
      → Noted w (effects_on_look u.place (length w.log.events) (links w.memory.cached first) w.log.effects) (restaged (ledger_of w) i (looked_stage (links w.memory.cached first)) (ledger_of w).queue)
  looked_noted i u first c at asks h acting passed = go (links w.memory.cached first == 0) refl
    where
      b : Base w.shape w.memory (ledger_of w) v.claimed v.waiting
      b = v.base

      calls_at : IsCalling w.log.events i u
      calls_at = (calling i u at).1

      announced : IsToldOf w.shape.kind u.begun.call → Both w.memory (Announcement (record { 0 = i })) u.begun.token.0
      announced = caller_announced i u at (subst (Acting w.shape w.memory (ledger_of w) i) (sym acting.mine.holds) acting)

      gone : stage_at u.place (without_pending u.place w.log.effects) ≡ Unmoved
      gone = stage_forgotten u.place w.log.effects ∙ unseen_untaken (stage_at u.place w.log.effects) (λ r e. h.untaken r (ap (λ x. stage_of x w.log.effects) at ∙ e))

      log : IsTrace w.shape.kind w.base w.told w.log.events (without_pending u.place w.log.effects)
      log = forgot w.shape.kind w.base w.told w.log.events w.log.effects u.place v.log

      same_queue : queue_of w.log.events w.base (without_pending u.place w.log.effects) ≡ (ledger_of w).queue
      same_queue = queue_without_pending w.shape.kind w.base w.told w.log.events w.log.effects u.place v.log

      empty : links w.memory.cached first ≡ 0 → (ledger_of w).queue ≡ []
      empty z =
          let none : links w.memory.kept first ≡ 0 = kept_none (links w.memory.cached) (links w.memory.kept) first (b.chained.kept first) z in
          let among : IsAmong first (0 ∷ v.claimed) = elim passed [ inl q ↦ inl q | inr q ↦ inr (b.marked.back first q) ] in
          sym b.content ∙ ap (map (values w.memory.kept)) (none_waiting (links w.memory.kept) v.claimed v.waiting first b.chained.chain among none)

      go : (t : Bool) → (links w.memory.cached first == 0) ≡ t
          → Noted w (if t then with_pending u.place (length w.log.events) (without_pending u.place w.log.effects) else without_pending u.place w.log.effects)
          (restaged (ledger_of w) i (if t then Seen else Unmoved) (ledger_of w).queue)
      go false e = record {
        log = log;
        same = restaged_by i u (without_pending u.place w.log.effects) Unmoved (ledger_of w).queue at gone (λ q ne. stage_forgotten_other u.place q w.log.effects ne) same_queue;
        part = part_without_pending w.log.effects u.place;
        moved = inr (record { o = i; u = u; at = at; others = λ q ne. stage_forgotten_other u.place q w.log.effects ne; announced = announced });
      }
      go true e =
          let es : List Effect = without_pending u.place w.log.effects in
          let x : Effect = record { place = u.place; reply = Empty; moment = length w.log.events; settled = false } in
          let void : queue_of w.log.events w.base (without_pending u.place w.log.effects) ≡ [] = same_queue ∙ empty (eqb-true (links w.memory.cached first) 0 e) in
          let served_now : IsServed w.log.events (queue_of w.log.events w.base (without_pending u.place w.log.effects)) (record { place = u.place; reply = Empty }) = record {
            call = Deq;
            names = call_stands i u at ∙ ap Some asks;
            reply = sym (ap (λ q. reply_of q Deq) void);
          } in
          record {
            log = found w.shape.kind w.base w.told w.log.events (without_pending u.place w.log.effects) u.begun.client u.place log calls_at.open_from
                (none_of_unmoved u.place (without_pending u.place w.log.effects) gone) served_now;
            same = restaged_by i u (with_pending u.place (length w.log.events) (without_pending u.place w.log.effects)) Seen (ledger_of w).queue at
                (stage_push u.place (without_pending u.place w.log.effects) (record { place = u.place; reply = Empty; moment = length w.log.events; settled = false }) refl gone)
                (λ q ne. stage_push_other q (without_pending u.place w.log.effects) (record { place = u.place; reply = Empty; moment = length w.log.events; settled = false }) (λ f. ne (sym f))
                ∙ stage_forgotten_other u.place q w.log.effects ne)
                (queue_with_pending w.log.events w.base (without_pending u.place w.log.effects) u.place (length w.log.events) served_now ∙ same_queue);
            part = part_of_part (part_with_pending (without_pending u.place w.log.effects) u.place (length w.log.events)) (part_without_pending w.log.effects u.place);
            moved = inr (record {
              o = i;
              u = u;
              at = at;
              others = λ q ne. stage_push_other q (without_pending u.place w.log.effects) (record { place = u.place; reply = Empty; moment = length w.log.events; settled = false }) (λ f. ne (sym f))
                  ∙ stage_forgotten_other u.place q w.log.effects ne;
              announced = announced;
            });
          }
