use Rattle.std.proofs.Common.{◌≡◌, ◌<◌, Ok, sym, ap, ◌∙◌, arith}
use Rattle.std.proofs.lemmas.List.Elements.{All-from_get_or}
use Rattle.std.proofs.lemmas.Result.{IfOk-weaker}
use Rattle.persist.specs.Memory.{Words, words_at_rest}
use Rattle.persist.specs.Image.{AreBytes, image_by}
use Rattle.persist.proofs.Images.{read_is_image}
use Rattle.persist.proofs.memory.Memory.read.Goals as goal

pub returns-clause-image : goal.returns-clause-image
returns-clause-image c =
    let bytes : AreBytes c.args.bytes.now = All-from_get_or (λ byte. byte < 256) c.args.bytes.now 0 (λ i inside. omega (arith, c.type_inv.bytes i)) in
    IfOk-weaker c.of.result (λ m. m.words ≡ words_at_rest c.in-Ok.kept.items) (λ m. image_by c.args.first.now m.words.kept ≡ c.args.bytes.now)
    (λ m made. read_is_image c.args.first.now c.requires c.args.bytes.now m.words.kept bytes
    (c.in_ok-words.ensures.ok ∙ ap Ok (sym c.in-Ok.ensures ∙ sym (ap (λ (ws : Words). ws.kept) made))))
    c.of.ensures.made
