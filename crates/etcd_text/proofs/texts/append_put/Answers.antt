use Rattle.std.proofs.Common.{◌∙◌}
use Rattle.std.specs.Prelude.{codes, string_bytes}
use Rattle.etcd_text.specs.Texts.{put_text, quoted}
use Rattle.etcd_text.proofs.Pieces.{two_fields}
use Rattle.etcd_text.proofs.texts.append_put.Goals as goal

pub returns : goal.returns
unfolding put_text
returns c =
    c.in_ok-push_str.ensures.bytes
    ∙ two_fields (string_bytes c.args.text.now) (codes "{\"request_put\":{\"key\":") (quoted c.args.key.now) (codes ",\"value\":") (quoted c.args.bytes.now) (codes "}}")
    (string_bytes c.append_field.new.text) (string_bytes c.append_field-2.new.text) c.in_ok-append_field.ensures c.in_ok-append_field-2.ensures
