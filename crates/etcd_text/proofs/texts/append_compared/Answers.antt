use Rattle.std.specs.Prelude.{codes, option_map, string_bytes}
use Rattle.etcd_text.specs.Texts.{compare_text, compared_text}
use Rattle.etcd_text.specs.Tails.{said_by, spelled}
use Rattle.fenced.specs.Requests.{longer}
use Rattle.etcd_text.proofs.Pieces.{three}
use Rattle.etcd_text.proofs.texts.append_compared.Goals as goal

pub returns : goal.returns
unfolding compared_text
returns c =
    three (string_bytes c.args.text.now) (codes "{\"compare\":[") (compare_text c.args.name.now (option_map said_by c.args.seen.now)) (codes "],\"success\":[") (string_bytes c.push_str.new.self) (string_bytes c.append_compare.new.text) (string_bytes c.push_str-2.new.self) c.in_ok-push_str.ensures.bytes c.in_ok-append_compare.ensures c.in_ok-push_str-2.ensures.bytes
