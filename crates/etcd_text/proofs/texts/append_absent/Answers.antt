use Rattle.std.specs.Prelude.{codes, string_bytes}
use Rattle.etcd_text.specs.Texts.{absent_text, quoted}
use Rattle.etcd_text.specs.Tails.{said_by, spelled}
use Rattle.fenced.specs.Requests.{longer}
use Rattle.etcd_text.proofs.Pieces.{one_between}
use Rattle.etcd_text.proofs.texts.append_absent.Goals as goal

pub returns : goal.returns
unfolding absent_text
returns c =
    one_between (string_bytes c.args.text.now) (codes "{\"key\":") (quoted c.args.key.now) (codes ",\"target\":\"CREATE\",\"result\":\"EQUAL\",\"create_revision\":\"0\"}") (string_bytes c.append_field.new.text) (string_bytes c.push_str.new.self) c.in_ok-append_field.ensures c.in_ok-push_str.ensures.bytes
