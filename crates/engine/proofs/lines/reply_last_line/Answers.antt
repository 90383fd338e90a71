use Rattle.std.proofs.Common.{◌≡◌, ◌≢◌, [], ◌∷◌, length, sym, ap, ◌∙◌, refl, rules}
use Rattle.std.proofs.lemmas.Bool.{eqb-false}
use Rattle.std.proofs.lemmas.List.{nil_from_length}
use Rattle.engine.proofs.Replying.{on_err, on_err_map, on_ok_both, last_replied, no_line_replied}
use Rattle.engine.proofs.Telling.{held_more, none_held, none_told, told_all, told_more, told_still}
use Rattle.engine.proofs.lines.reply_last_line.Goals as goal

pub returns-then-is_empty-clause-fault : goal.returns-then-is_empty-clause-fault
returns-then-is_empty-clause-fault g c =
    let none : c.args.bytes.now ≡ [] = nil_from_length c.args.bytes.now (search rules) in
    on_err_map c.send_settled.result
    (λ unsent.
    no_line_replied g.P.Reading.meaning _ c.args.bytes.now _ _ _ none c.send_settled.ensures.served
    (none_told _ _ _ _ _ _ _ _ _ c.requires.empty (none_held _ _ _) unsent refl)) c.send_settled.ensures.unsent

pub returns-in_err-put-clause-fault : goal.returns-in_err-put-clause-fault
returns-in_err-put-clause-fault g c =
    let reply = c.reply_to-reply.result in
    let some : c.args.bytes.now ≢ [] =
    λ e. eqb-false (length c.args.bytes.now) 0 (sym c.is_empty.ensures ∙ c.if-is_empty.false) (ap length e) in
    let sends = rw (c.reply_to-reply.ensures.settled, c.requires.empty) at c.put.ensures.settled in
    on_err c.from_residual.result (rw c.put.ensures.served
    (last_replied g.P.Reading.meaning _ c.args.bytes.now reply _ _ _ some c.reply_to-reply.ensures.fits
    c.reply_to-reply.ensures.served
    (told_more _ _ _ _ _ _ _ _ _ [] (reply ∷ []) (none_held _ _ _) sends c.reply_to-reply.ensures.served)))

pub returns-clause-told : goal.returns-clause-told
returns-clause-told g c =
    let reply = c.reply_to-reply.result in
    let some : c.args.bytes.now ≢ [] =
    λ e. eqb-false (length c.args.bytes.now) 0 (sym c.is_empty.ensures ∙ c.if-is_empty.false) (ap length e) in
    let made = c.put.ensures.served ∙ c.reply_to-reply.ensures.served in
    let sends = rw (c.reply_to-reply.ensures.settled, c.requires.empty) at c.in_ok-put.ensures.settled in
    let moves = rw c.requires.empty at c.in_ok-put.ensures.put in
    let held =
    held_more _ _ _ _ _ _ _ _ _ _ [] reply (none_held _ _ _) moves c.in_ok-put.ensures.some sends
    c.reply_to-reply.ensures.served in
    on_ok_both c.send_settled-2.result
    (λ sent settles. rw c.send_settled-2.ensures.served (last_replied g.P.Reading.meaning _ c.args.bytes.now reply _ _ _
    some c.reply_to-reply.ensures.fits made (told_all _ _ _ _ _ _ _ _ _ (reply ∷ []) held sent settles made)))
    c.send_settled-2.ensures.sent c.send_settled-2.ensures.settled

pub returns-clause-fault : goal.returns-clause-fault
returns-clause-fault g c =
    let reply = c.reply_to-reply.result in
    let some : c.args.bytes.now ≢ [] =
    λ e. eqb-false (length c.args.bytes.now) 0 (sym c.is_empty.ensures ∙ c.if-is_empty.false) (ap length e) in
    let made = c.put.ensures.served ∙ c.reply_to-reply.ensures.served in
    let sends = rw (c.reply_to-reply.ensures.settled, c.requires.empty) at c.in_ok-put.ensures.settled in
    let moves = rw c.requires.empty at c.in_ok-put.ensures.put in
    let held =
    held_more _ _ _ _ _ _ _ _ _ _ [] reply (none_held _ _ _) moves c.in_ok-put.ensures.some sends
    c.reply_to-reply.ensures.served in
    on_err_map c.send_settled-2.result
    (λ unsent. rw c.send_settled-2.ensures.served (last_replied g.P.Reading.meaning _ c.args.bytes.now reply _ _ _ some
    c.reply_to-reply.ensures.fits made (told_still _ _ _ _ _ _ _ _ _ (reply ∷ []) held unsent made)))
    c.send_settled-2.ensures.unsent
