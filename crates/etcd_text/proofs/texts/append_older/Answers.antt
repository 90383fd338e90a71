use Rattle.std.proofs.Common.{List, ℕ, ap, ◌++◌, ◌∙◌}
use Rattle.std.specs.Prelude.{Some, string_bytes}
use Rattle.fenced.specs.Requests.{longer}
use Rattle.etcd_text.specs.Tails.{said_by, spelled}
use Rattle.etcd_text.specs.Texts.{compared_text, delete_text, failure_text, first_key, generation_key, older_text}
use Rattle.etcd_text.proofs.Pieces.{three}
use Rattle.etcd_text.proofs.texts.append_older.Goals as goal

pub returns : goal.returns
unfolding older_text
returns c =
    let from = c.deref.ensures.value ∙ c.in_ok-from.ensures in
    let to = c.deref-2.ensures.value ∙ c.in_ok-to.ensures in
    three (string_bytes c.args.text.now) (compared_text c.args.name.now (Some (said_by c.args.tail.now))) (delete_text (first_key c.args.name.now) (generation_key c.args.name.now c.args.tail.now.generation)) (failure_text c.args.name.now)
    (string_bytes c.append_compared.new.text) (string_bytes c.append_delete.new.text) (string_bytes c.append_failure.new.text)
    c.in_ok-append_compared.ensures
    (c.in_ok-append_delete.ensures ∙ ap (λ (k : List ℕ). string_bytes c.append_compared.new.text ++ delete_text k c.deref-2.result.now) from
    ∙ ap (λ (k : List ℕ). string_bytes c.append_compared.new.text ++ delete_text (first_key c.args.name.now) k) to)
    c.in_ok-append_failure.ensures
