use Rattle.std.proofs.Common.{◌≡◌, ℕ, List, ap, ◌∙◌, sym}
use Rattle.arena.specs.Shape.{Shape}
use Rattle.sound_words.specs.Kept.{kept_in}
use Rattle.sound_words.specs.Told.{tells_by}
use Rattle.sound_words.proofs.Facts.{tells_like}
use Rattle.interleave.specs.Core.{CoreState}
use Rattle.interleave.specs.Values.{value_of_place}
use Rattle.interleave.proofs.words.Values.{shown_at}
use Rattle.interleave.proofs.lent.Core.tells.Goals as goal

pub returns : goal.returns
returns g c =
    let s : Shape = c.args.self.now.shape in
    let kept : List ℕ = g.K.KeptWords.kept_words c.args.kept.now in
    let shape : c.self.inside.layout ≡ s = ap (λ (k : CoreState). k.shape) c.self.view_is in
    c.tells.ensures ∙ ap (λ (x : Shape). tells_by x (kept_in x kept)) shape
    ∙ sym (tells_like s (kept_in s kept) (value_of_place s kept) (λ p at. shown_at s kept p at) c.requires.sound)
