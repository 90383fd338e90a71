use Rattle.std.proofs.Common.{List}
use Rattle.std.specs.Prelude.{Some, string_bytes}
use Rattle.fenced.specs.Requests.{longer}
use Rattle.etcd_text.specs.Tails.{said_by, spelled}
use Rattle.etcd_text.specs.Texts.{compared_text, failure_text, fresh_text, piece_key, put_text}
use Rattle.etcd_text.proofs.Pieces.{three}
use Rattle.etcd_text.proofs.texts.append_fresh.Goals as goal

pub returns : goal.returns
unfolding fresh_text
returns c =
    three (string_bytes c.args.text.now) (compared_text c.args.name.now (Some (said_by c.args.tail.now))) (put_text (piece_key c.args.name.now c.args.piece.now.generation c.args.piece.now.number) c.args.piece.now.bytes.now) (failure_text c.args.name.now)
    (string_bytes c.append_compared.new.text) (string_bytes c.append_piece.new.text) (string_bytes c.append_failure.new.text)
    c.in_ok-append_compared.ensures c.in_ok-append_piece.ensures c.in_ok-append_failure.ensures
