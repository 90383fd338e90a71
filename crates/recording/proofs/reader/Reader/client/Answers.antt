use Rattle.std.proofs.Common.{refl, ap, ◌∙◌}
use Rattle.std.specs.Prelude.{map, string_bytes}
use Rattle.recording.specs.Reader.{read_of}
use Rattle.recording.proofs.Texts.{number_of_text, texts_with, new_with, old_with, same_read}
use Rattle.recording.proofs.reader.Reader.client.Goals as goal
use Rattle.recording.proofs.reader.Reader.client.Goals.{then-is_new+in_ok-push, else-is_new}

pub returns-clause-number : goal.returns-clause-number
returns-clause-number c = c.in_ok-client.ensures.index ∙ number_of_text c.args.self.now.clients.keys c.args.text

pub returns-clause-read : goal.returns-clause-read
returns-clause-read c =
    let keys = c.args.self.now.clients.keys in
    let text = c.args.text in
    let told = c.in_ok-client.ensures in
    let texts = ap (map string_bytes) told.keys ∙ texts_with keys text in
    let was = c.args.self.now.states.items in
    let is_new = c.in_ok-client.is_new in
    elim c.if-is_new.branch [
      | then-is_new+in_ok-push w ↦
          let with = w.in_ok-push.ensures.items ∙ new_with keys text was _ is_new told.added w.if-is_new.true in
          ap read_of w.self-is ∙ same_read _ _ texts with refl refl refl refl refl
      | else-is_new w ↦
          let with = old_with keys text was _ is_new told.added w.if-is_new.false in
          ap read_of w.self-is ∙ same_read _ _ texts with refl refl refl refl refl
    ]
