use Rattle.std.proofs.Common.{rules, ◌≡◌, ℕ, Result, Ok, Err, sym, subst}
use Rattle.words.specs.declared.call.Reply.{Reply}
use Rattle.words.specs.declared.refusal.Refusal.{Refusal}
use Rattle.named.specs.Acting.{IsAloneAt}
use Rattle.session.specs.Requests.{IsRun}
use Rattle.session.proofs.calls.Runs.{IsRoomMade, IsStartTried, never_refused, open_now, open_with_room, served, start_was_refused}
use Rattle.named.proofs.Facts.{broker_goes_further}
use Rattle.session.proofs.running.run.Goals as goal

pub start_open-requires : goal.start_open-requires
start_open-requires c =
    let made : IsRoomMade c.args.broker.now c.reserve.new.self c.args.queue.0 = record { worlds = c.reserve.ensures.worlds; room = c.in_ok-reserve.ensures.room; more = c.reserve.ensures.kept c.args.queue.0; rooms = c.reserve.ensures.other_rooms; directory = c.reserve.ensures.directory; creation = c.reserve.ensures.creation; recovery = c.reserve.ensures.recovery; counts = c.reserve.ensures.goes_on.counts; words = c.reserve.ensures.words; was_well = c.requires.well; well = c.reserve.ensures.promises.well } in
    open_with_room c.args.broker.now c.reserve.new.self c.args.queue.0 c.args.client c.requires.open c.requires.well made

pub run_open-requires : goal.run_open-requires
run_open-requires c =
    let made : IsRoomMade c.args.broker.now c.reserve.new.self c.args.queue.0 = record { worlds = c.reserve.ensures.worlds; room = c.in_ok-reserve.ensures.room; more = c.reserve.ensures.kept c.args.queue.0; rooms = c.reserve.ensures.other_rooms; directory = c.reserve.ensures.directory; creation = c.reserve.ensures.creation; recovery = c.reserve.ensures.recovery; counts = c.reserve.ensures.goes_on.counts; words = c.reserve.ensures.words; was_well = c.requires.well; well = c.reserve.ensures.promises.well } in
    let tried : IsStartTried c.reserve.new.self c.start_open.new.self c.args.queue.0 c.args.client c.args.number c.args.call c.start_open.result = record { act = c.start_open.ensures.act; beside = c.start_open.ensures.beside; well = c.start_open.ensures.promises.well } in
    open_now c.args.broker.now c.reserve.new.self c.start_open.new.self c.args.queue.0 c.args.client c.args.number c.args.call c.requires.open c.requires.well made c.start_open.result tried

pub returns-in_err-start_open-clause-run : goal.returns-in_err-start_open-clause-run
returns-in_err-start_open-clause-run c =
    let made : IsRoomMade c.args.broker.now c.reserve.new.self c.args.queue.0 = record { worlds = c.reserve.ensures.worlds; room = c.in_ok-reserve.ensures.room; more = c.reserve.ensures.kept c.args.queue.0; rooms = c.reserve.ensures.other_rooms; directory = c.reserve.ensures.directory; creation = c.reserve.ensures.creation; recovery = c.reserve.ensures.recovery; counts = c.reserve.ensures.goes_on.counts; words = c.reserve.ensures.words; was_well = c.requires.well; well = c.reserve.ensures.promises.well } in
    let tried : IsStartTried c.reserve.new.self c.start_open.new.self c.args.queue.0 c.args.client c.args.number c.args.call c.start_open.result = record { act = c.start_open.ensures.act; beside = c.start_open.ensures.beside; well = c.start_open.ensures.promises.well } in
    let answer : c.from_residual-in_err-start_open.result ≡ Err c.in_err-start_open.field-0.0 = search rules in
    subst (IsRun c.args.broker.now c.start_open.new.self c.args.queue.0 c.args.client c.args.number c.args.call) (sym answer)
    (start_was_refused c.args.broker.now c.reserve.new.self c.start_open.new.self c.args.queue.0 c.args.client c.args.number c.args.call c.requires.open c.requires.well made c.start_open.result tried c.in_err-start_open.field-0.0 c.in_err-start_open.was)

pub returns-in_err-reply-clause-run : goal.returns-in_err-reply-clause-run
returns-in_err-reply-clause-run c =
    let made : IsRoomMade c.args.broker.now c.reserve.new.self c.args.queue.0 = record { worlds = c.reserve.ensures.worlds; room = c.in_ok-reserve.ensures.room; more = c.reserve.ensures.kept c.args.queue.0; rooms = c.reserve.ensures.other_rooms; directory = c.reserve.ensures.directory; creation = c.reserve.ensures.creation; recovery = c.reserve.ensures.recovery; counts = c.reserve.ensures.goes_on.counts; words = c.reserve.ensures.words; was_well = c.requires.well; well = c.reserve.ensures.promises.well } in
    let tried : IsStartTried c.reserve.new.self c.start_open.new.self c.args.queue.0 c.args.client c.args.number c.args.call c.start_open.result = record { act = c.start_open.ensures.act; beside = c.start_open.ensures.beside; well = c.start_open.ensures.promises.well } in
    let alone : IsAloneAt c.args.queue.0 c.args.client c.start_open.new.self (Err c.in_err-reply.field-0.0) c.run_open.new.self =
    subst (λ (r : Result (Reply × ℕ) Refusal). IsAloneAt c.args.queue.0 c.args.client c.start_open.new.self r c.run_open.new.self)
    c.in_err-reply.was c.run_open.ensures.alone in
    absurd (never_refused c.args.broker.now c.reserve.new.self c.start_open.new.self c.args.queue.0 c.args.client c.args.number c.args.call c.requires.open c.requires.well made c.start_open.result tried c.run_open.result c.in_err-reply.field-0.0 c.in_ok-start_open.was c.in_err-reply.was alone.errors c.run_open.ensures.alone.full)

pub returns-clause-run : goal.returns-clause-run
returns-clause-run c =
    let made : IsRoomMade c.args.broker.now c.reserve.new.self c.args.queue.0 = record { worlds = c.reserve.ensures.worlds; room = c.in_ok-reserve.ensures.room; more = c.reserve.ensures.kept c.args.queue.0; rooms = c.reserve.ensures.other_rooms; directory = c.reserve.ensures.directory; creation = c.reserve.ensures.creation; recovery = c.reserve.ensures.recovery; counts = c.reserve.ensures.goes_on.counts; words = c.reserve.ensures.words; was_well = c.requires.well; well = c.reserve.ensures.promises.well } in
    let tried : IsStartTried c.reserve.new.self c.start_open.new.self c.args.queue.0 c.args.client c.args.number c.args.call c.start_open.result = record { act = c.start_open.ensures.act; beside = c.start_open.ensures.beside; well = c.start_open.ensures.promises.well } in
    let alone : IsAloneAt c.args.queue.0 c.args.client c.start_open.new.self (Ok (c.in_ok-reply.reply, c.in_ok-reply._steps)) c.run_open.new.self =
    subst (λ (r : Result (Reply × ℕ) Refusal). IsAloneAt c.args.queue.0 c.args.client c.start_open.new.self r c.run_open.new.self)
    c.in_ok-reply.was c.run_open.ensures.alone in
    served c.args.broker.now c.reserve.new.self c.start_open.new.self c.args.queue.0 c.args.client c.args.number c.args.call c.requires.open c.requires.well made c.start_open.result tried c.run_open.new.self c.in_ok-reply.reply c.in_ok-reply._steps c.in_ok-start_open.was alone.steps alone.answer alone.world alone.room
    c.run_open.ensures.beside

pub returns-in_err-start_open-clause-goes_on : goal.returns-in_err-start_open-clause-goes_on
returns-in_err-start_open-clause-goes_on c = broker_goes_further _ _ _ c.reserve.ensures.goes_on c.start_open.ensures.goes_on

pub returns-in_err-reply-clause-goes_on : goal.returns-in_err-reply-clause-goes_on
returns-in_err-reply-clause-goes_on c =
    broker_goes_further _ _ _ c.reserve.ensures.goes_on (broker_goes_further _ _ _ c.start_open.ensures.goes_on c.run_open.ensures.goes_on)

pub returns-clause-goes_on : goal.returns-clause-goes_on
returns-clause-goes_on c =
    broker_goes_further _ _ _ c.reserve.ensures.goes_on (broker_goes_further _ _ _ c.start_open.ensures.goes_on c.run_open.ensures.goes_on)
