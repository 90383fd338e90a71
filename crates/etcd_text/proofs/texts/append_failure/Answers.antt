use Rattle.std.proofs.Common.{List, ℕ, ap, ◌++◌, ◌∙◌}
use Rattle.std.specs.Prelude.{codes, string_bytes}
use Rattle.fenced.specs.Requests.{longer}
use Rattle.etcd_text.specs.Tails.{said_by, spelled}
use Rattle.etcd_text.specs.Texts.{failure_text, range_text, tail_key}
use Rattle.etcd_text.proofs.Pieces.{three}
use Rattle.etcd_text.proofs.texts.append_failure.Goals as goal

pub returns : goal.returns
unfolding failure_text
returns c =
    let key = c.deref.ensures.value ∙ c.in_ok-key.ensures in
    three (string_bytes c.args.text.now) (codes "],\"failure\":[{\"request_range\":") (range_text (tail_key c.args.name.now)) (codes "}]}")
    (string_bytes c.push_str.new.self) (string_bytes c.append_range.new.text) (string_bytes c.push_str-2.new.self)
    c.in_ok-push_str.ensures.bytes (c.in_ok-append_range.ensures ∙ ap (λ (k : List ℕ). string_bytes c.push_str.new.self ++ range_text k) key) c.in_ok-push_str-2.ensures.bytes
