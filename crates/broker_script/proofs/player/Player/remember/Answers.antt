use Rattle.std.proofs.Common.{◌≡◌, length, ap, sym, ◌∙◌}
use Rattle.std.specs.Prelude.{Ok}
use Rattle.persist.specs.Image.{image_of, reading}
use Rattle.named.specs.Brokers.{Brokered}
use Rattle.broker_script.specs.Imaging.{digest_of}
use Rattle.broker_script.specs.Play.{Played}
use Rattle.broker_script.proofs.Imaged.{imaged}
use Rattle.broker_script.proofs.player.Player.remember.Goals as goal

pub returns-clause-images : goal.returns-clause-images
returns-clause-images c =
    let bytes = c.in-Ok.image.items in
    let kept = ap (λ (b : Brokered). b.words.kept) c.broker.ensures.broker ∙ ap (λ (p : Played). p.broker.words.kept) c.self.view_is in
    let counted = c.len.ensures in
    let lent = c.deref.ensures.len in
    let value = ap length c.deref.ensures.value in
    let size : c.len.result ≡ length bytes = cc in
    let digest : c.digest.result ≡ digest_of bytes = c.digest.ensures ∙ ap digest_of c.deref.ensures.value in
    let again : reading bytes ≡ Ok c.in-Ok-words_of.words.items =
    ap reading (sym c.deref-2.ensures.value) ∙ c.in-Ok-words_of.ensures.words in
    imaged c.args.self.now c.keep_words.new.self bytes c.in-Ok-words_of.words.items c.digest.result c.len.result c.fill.result.items
    (c.in-Ok.ensures.image ∙ ap image_of kept) (c.in-Ok.ensures.read ∙ ap Ok kept) again size digest
    c.keep_words.ensures c.fill.ensures
