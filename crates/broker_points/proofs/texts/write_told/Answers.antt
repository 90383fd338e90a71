use Rattle.std.proofs.Common.{◌≡◌, ◌++◌, ◌+◌, ℕ, suc, ap, ◌∙◌, append_assoc, string_bytes, arith}
use Rattle.words.specs.Text.{told_text}
use Rattle.playing.specs.Transcript.{told_at}
use Rattle.broker_script.specs.Play.{the_world}
use Rattle.broker_points.specs.Reports.{told_lead, told_texts}
use Rattle.broker_points.proofs.texts.write_told.Goals as goal

pub overflow_cast-number : goal.overflow_cast-number
overflow_cast-number c =
    omega (arith, c.requires.well.counts.few_clients, c.clients-number-end.ensures, c.loop-number-test.true)

pub loop-number-preserved : goal.loop-number-preserved
loop-number-preserved c =
    let n : ℕ = c.loop-number.number in
    let w = the_world c.args.broker.now c.args.slot.0 in
    let next : suc n ≡ n + 1 = omega arith in
    c.in_ok-write_client.ensures.text
    ∙ ap (λ t. string_bytes c.loop-number.text ++ (told_lead n ++ told_text t)) c.told.ensures
    ∙ ap (λ l. l ++ (told_lead n ++ told_text (told_at w n))) c.loop-number.invariant
    ∙ append_assoc (string_bytes c.args.text.now) (told_texts w n) ((told_lead n ++ told_text (told_at w n)))
    ∙ ap (λ m. string_bytes c.args.text.now ++ told_texts w m) next
