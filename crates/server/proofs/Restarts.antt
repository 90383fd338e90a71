-- A broker that is opened on the kept words of a moment goes on from there, and so does a session over it.
use Rattle.std.proofs.Common.{◌≡◌, ◌<◌, ◌≤◌, ℕ, true, false, List, Option, Some, Result, Ok, is_some, nat_lt, take, sym, ap, subst, ◌∙◌, arith}
use Rattle.std.proofs.lemmas.Bool.{lt-ltb}
use Rattle.words.specs.declared.call.Client.{Client}
use Rattle.words.specs.declared.call.Reply.{Reply}
use Rattle.words.specs.declared.limits.TheConstants.{MAX_CLIENTS}
use Rattle.words.specs.declared.refusal.Refusal.{Refusal}
use Rattle.words.specs.declared.told.Told.{Told}
use Rattle.words.specs.declared.told.Verdict.{Verdict}
use Rattle.persist.specs.Memory.{words_at_rest}
use Rattle.journal.specs.Frame.{Batch}
use Rattle.journal.specs.Journal.{words_after}
use Rattle.arena.specs.Shape.{Counts, Shape, shape_of}
use Rattle.directory.specs.Sound.{counts_in}
use Rattle.interleave.specs.Queue.{told_in, told_to}
use Rattle.interleave.specs.State.{State}
use Rattle.interleave.specs.Verdicts.{kept_told}
use Rattle.named.specs.Brokers.{Brokered, admission, answer_if, world_at}
use Rattle.named.specs.Slots.{answered}
use Rattle.named.specs.declared.recovery.BrokerRecovery.{BrokerRecovery}
use Rattle.session.specs.Keeping.{IsSettled, SessionGoesOn, told_when_asked, verdict_heard}
use Rattle.session.specs.Promises.{KeepsNumbers}
use Rattle.session.specs.Sessions.{IsLogClient, Sessioned, kept_at}
use Rattle.session.proofs.Facts.{holds_there}
use Rattle.named.proofs.Facts.{kept_queue, open_below}
use Rattle.workers.specs.Moments.{IsMomentOf}
use Rattle.named.specs.KeptQueues.{IsKeptQueue}
use Rattle.workers.proofs.Facts.{session_further}
use Rattle.journal_file.specs.OnDevice.{OnDevice}
use Rattle.lasting.specs.Lasting.{HasMoments, ReadsLater, ReadsMoment}
use Rattle.workers.specs.Marks.{RanNumbered}
use Rattle.desk.specs.Telling.{IsReplied}
use Rattle.desk.specs.declared.calls.Asked.{Asked}
use Rattle.serving.specs.Image.{IsOpenedOver}
use Rattle.opening.specs.Opening.{IsOpened, IsQueueOpened}
use Rattle.server.specs.Restarting.{words_read, AreSettledBy, GoesOnFrom, IsReopenedFrom, IsRestartedFrom, LivesOn}
use Rattle.server.specs.Restarting.LivesOn.{restarted, within}

module _ (first session : Sessioned) (kept : List ℕ) (b : Brokered) (m : IsMomentOf first session kept) (o : IsOpened (words_at_rest kept) b) where
  stands : (slot : ℕ) (w : State) → world_at session.broker slot ≡ Some w → IsKeptQueue kept slot w
  stands slot w here =
      subst (λ (ws : List ℕ). IsKeptQueue ws slot w) (sym m.words) (kept_queue session.broker m.promises.broker.well slot w here)

  opened : (slot : ℕ) (w : State) → world_at session.broker slot ≡ Some w → IsQueueOpened w.shape w.words.kept (world_at b slot)
  opened slot w here =
      let is : IsKeptQueue kept slot w = stands slot w here in
      subst (λ (s : Shape). IsQueueOpened s w.words.kept (world_at b slot)) (sym is.shape)
      (subst (λ (ws : List ℕ). IsQueueOpened (shape_of is.queue.kind (counts_in kept)) ws (world_at b slot)) (sym is.block)
      (o.queues slot is.queue is.has))

  -- each client may ask, and is told what the words told
  admitted : (slot : ℕ) (w : State) (client : Client) → world_at session.broker slot ≡ Some w → client.0 < w.shape.clients → admission b client ≡ Ok tt
  admitted slot w client here below =
      let is : IsKeptQueue kept slot w = stands slot w here in
      let clients : w.shape.clients ≡ b.counts.clients =
      ap (λ (s : Shape). s.clients) is.shape ∙ ap (λ (c : Counts). c.clients) (sym o.counts) in
      let has : nat_lt client.0 b.counts.clients ≡ true = lt-ltb client.0 b.counts.clients (subst (λ (n : ℕ). client.0 < n) clients below) in
      let up : is_some b.recovery ≡ false = ap (λ (r : Option BrokerRecovery). is_some r) o.ready in
      cc (has, up)

  asked : (slot : ℕ) (w : State) (client : Client) → world_at session.broker slot ≡ Some w → client.0 < w.shape.clients
      → told_when_asked b slot client.0 ≡ verdict_heard (Ok (kept_told w client))
  asked slot w client here below =
      let q = opened slot w here in
      let answer : State → Result Told Refusal = λ v. Ok (told_to (told_in v.queue) client) in
      ap (λ (a : Result Unit Refusal). verdict_heard (answer_if a (answered answer (world_at b slot)))) (admitted slot w client here below)
      ∙ ap (λ (v : Option State). verdict_heard (answer_if (Ok tt) (answered answer v))) q.is
      ∙ ap (λ (told : List Told). verdict_heard (Ok (told_to told client))) q.told

  pub goes_on_from : GoesOnFrom session b
  goes_on_from = record {
    queues = opened;
    settled = λ slot w client number reply here log below settled.
        subst (λ (v : Option Verdict). IsSettled v number reply) (sym (asked slot w client here below))
        (m.told slot w client number reply here log below settled);
  }

-- so does a session over the broker
session_goes_on : (s next : Sessioned) (b : Brokered) → KeepsNumbers s → GoesOnFrom s b → IsOpenedOver b next
    → SessionGoesOn s next
session_goes_on s next b keeps from over = record {
  clients = λ slot client is.
      let q = from.queues slot is.world is.here in
      let there : world_at next.broker slot ≡ Some q.world =
      ap (λ (c : Brokered). world_at c slot) over.same ∙ q.is in
      record {
        world = q.world;
        here = there;
        log = ap (λ (x : Shape). x.kind) q.shape ∙ is.log;
        few = subst (λ (x : Shape). client.0 < x.clients) (sym q.shape) is.few;
      };
  answers = λ slot client number reply is settled.
      let well = keeps.broker.well in
      let below = open_below s.broker well slot is.world is.here in
      let many : is.world.shape.clients ≤ MAX_CLIENTS = (holds_there s.broker well slot is.world is.here).safe.few in
      let few : client.0 < MAX_CLIENTS = omega (arith, many, is.few) in
      subst (λ (v : Option Verdict). IsSettled v number reply) (sym (over.kept.each slot client.0 below few))
      (from.settled slot is.world client number reply is.here is.log is.few settled);
}

-- what is read of a journal
module _ (first : Sessioned) (key base : List ℕ) (batches : List Batch) (count : ℕ) (session : ℕ → Sessioned)
    (left : List ℕ) (reads : ReadsMoment first key base batches count session left) (b : Brokered)
    (o : IsOpened (words_at_rest (words_after (take reads.whole batches) base)) b) (few : ℕ) (among : few ≤ reads.whole) where
  last_goes_on : GoesOnFrom (session reads.whole) b
  last_goes_on = goes_on_from first (session reads.whole) (words_after (take reads.whole batches) base) b reads.moment o

  -- what was settled at the end of a batch before
  still_settled : AreSettledBy (session few) b
  still_settled slot w client number reply here log below settled =
      let on : SessionGoesOn (session few) (session reads.whole) = (reads.later few among).numbers in
      let was : IsLogClient (session few).broker slot client = record { world = w; here = here; log = log; few = below } in
      let is : IsLogClient (session reads.whole).broker slot client = on.clients slot client was in
      last_goes_on.settled slot is.world client number reply is.here is.log is.few
      (on.answers slot client number reply was settled)

  restarted_on : (next : Sessioned) → IsOpenedOver b next → SessionGoesOn (session few) next
  restarted_on next over =
      session_further (session few) (session reads.whole) next (reads.later few among).numbers
      (session_goes_on (session reads.whole) next b reads.moment.promises last_goes_on over)

pub settled_still : (earlier : Sessioned) (b : Brokered) → IsReopenedFrom earlier b → AreSettledBy earlier b
settled_still earlier b r =
    subst (λ (s : Sessioned). AreSettledBy s b) r.earlier_is
    (still_settled r.first r.key r.base r.batches r.count r.session r.left r.reads b r.opened r.few r.among)

pub restart_goes_on : (earlier next : Sessioned) → IsRestartedFrom earlier next → SessionGoesOn earlier next
restart_goes_on earlier next is =
    let r : IsReopenedFrom earlier is.broker = is.reopened in
    subst (λ (s : Sessioned). SessionGoesOn s next) r.earlier_is
    (restarted_on r.first r.key r.base r.batches r.count r.session r.left r.reads is.broker r.opened r.few r.among next
    is.over)

-- over several lives
pub lives_go_on : (earlier now : Sessioned) → LivesOn earlier now → SessionGoesOn earlier now
lives_go_on earlier now (within on) = on.numbers
lives_go_on earlier now (restarted {last = last} {next = next} before restart on) =
    session_further earlier last now (lives_go_on earlier last before)
    (session_further last next now (restart_goes_on last next restart) on.numbers)

-- a reply that was told, and whose number was settled then, is told still
pub told_still : (first now : Sessioned) (client : Client) (asked : Asked) (reply : Reply) (number : ℕ)
    (replied : IsReplied first now client asked reply)
    (is : RanNumbered replied.session client replied.has.entry number) (j : OnDevice) (has : HasMoments first j)
    (bytes : List ℕ) (left : ReadsLater first now j has bytes) (b : Brokered) → IsOpened (words_read left) b
    → IsSettled (kept_at replied.session replied.has.entry.queue.0 client) number reply
    → IsSettled (told_when_asked b replied.has.entry.queue.0 client.0) number reply
told_still first now client asked reply number replied is j has bytes left b opened settled =
    let slot : ℕ = replied.has.entry.queue.0 in
    let last : Sessioned = has.session left.reads.whole in
    let one : IsLogClient replied.session.broker slot client =
    record { world = is.world; here = is.here; log = is.log; few = is.few } in
    let on : SessionGoesOn replied.session last =
    session_further replied.session now last replied.later.numbers left.later.numbers in
    let there : IsLogClient last.broker slot client = on.clients slot client one in
    (goes_on_from first last (words_after (take left.reads.whole has.batches) has.base) b left.reads.moment opened).settled
    slot there.world client number reply there.here there.log there.few
    (on.answers slot client number reply one settled)
