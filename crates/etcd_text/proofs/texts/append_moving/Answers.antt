use Rattle.std.proofs.Common.{List}
use Rattle.std.specs.Prelude.{option_map, string_bytes}
use Rattle.fenced.specs.Requests.{longer}
use Rattle.etcd_text.specs.Tails.{said_by, spelled}
use Rattle.etcd_text.specs.Texts.{compared_text, failure_text, moving_text, put_text, tail_key}
use Rattle.etcd_text.proofs.Pieces.{three}
use Rattle.etcd_text.proofs.texts.append_moving.Goals as goal

pub returns : goal.returns
unfolding moving_text
returns c =
    three (string_bytes c.args.text.now) (compared_text c.args.name.now (option_map said_by c.args.seen.now)) (put_text (tail_key c.args.name.now) (spelled (said_by c.args.next.now))) (failure_text c.args.name.now)
    (string_bytes c.append_compared.new.text) (string_bytes c.append_new_tail.new.text) (string_bytes c.append_failure.new.text)
    c.in_ok-append_compared.ensures c.in_ok-append_new_tail.ensures c.in_ok-append_failure.ensures
