use Rattle.std.proofs.Common.{add-one, ℕ, ap, ◌++◌, ◌∙◌}
use Rattle.std.specs.Prelude.{codes, string_bytes}
use Rattle.fenced.specs.Requests.{longer}
use Rattle.etcd_text.specs.Tails.{said_by, spelled}
use Rattle.etcd_text.specs.Texts.{both_text, piece_key, put_text, tail_key}
use Rattle.etcd_text.proofs.Pieces.{three}
use Rattle.etcd_text.proofs.texts.append_both.Goals as goal

pub returns : goal.returns
unfolding both_text
returns c =
    three (string_bytes c.args.text.now) (put_text (piece_key c.args.name.now c.args.tail.now.generation c.args.tail.now.count) c.args.bytes.now) (codes ",")
    (put_text (tail_key c.args.name.now) (spelled (longer (said_by c.args.tail.now))))
    (string_bytes c.append_piece.new.text) (string_bytes c.push_str.new.self) (string_bytes c.append_new_tail.new.text)
    c.in_ok-append_piece.ensures c.in_ok-push_str.ensures.bytes (c.in_ok-append_new_tail.ensures
    ∙ ap (λ (n : ℕ). string_bytes c.push_str.new.self ++ put_text (tail_key c.args.name.now) (spelled (record { generation = c.args.tail.now.generation; count = n; owner = c.args.tail.now.owner.now })))
    (add-one c.args.tail.now.count))
