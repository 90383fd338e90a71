use Rattle.std.proofs.Common.{refl, ap, ◌∙◌}
use Rattle.std.specs.Prelude.{map, string_bytes}
use Rattle.recording.proofs.Texts.{number_of_text, texts_with, same_read}
use Rattle.recording.proofs.reader.Reader.value.Goals as goal

pub returns-clause-number : goal.returns-clause-number
returns-clause-number c = c.in_ok-value.ensures.index ∙ number_of_text c.args.self.now.values.keys c.args.text

pub returns-clause-read : goal.returns-clause-read
returns-clause-read c =
    let keys = c.args.self.now.values.keys in
    let texts = ap (map string_bytes) c.in_ok-value.ensures.keys ∙ texts_with keys c.args.text in
    same_read _ _ refl refl texts refl refl refl refl
