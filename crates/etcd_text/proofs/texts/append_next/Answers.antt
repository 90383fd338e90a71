use Rattle.std.proofs.Common.{List}
use Rattle.std.specs.Prelude.{Some, string_bytes}
use Rattle.fenced.specs.Requests.{longer}
use Rattle.etcd_text.specs.Tails.{said_by, spelled}
use Rattle.etcd_text.specs.Texts.{both_text, compared_text, failure_text, next_text}
use Rattle.etcd_text.proofs.Pieces.{three}
use Rattle.etcd_text.proofs.texts.append_next.Goals as goal

pub returns : goal.returns
unfolding next_text
returns c =
    three (string_bytes c.args.text.now) (compared_text c.args.name.now (Some (said_by c.args.tail.now))) (both_text c.args.name.now (said_by c.args.tail.now) c.args.bytes.now) (failure_text c.args.name.now)
    (string_bytes c.append_compared.new.text) (string_bytes c.append_both.new.text) (string_bytes c.append_failure.new.text)
    c.in_ok-append_compared.ensures c.in_ok-append_both.ensures c.in_ok-append_failure.ensures
