use Rattle.std.proofs.Common.{◌≡◌, ℕ, Bool, true, false, List, Ok, decimal, sym, ap, ◌∙◌}
use Rattle.std.specs.Prelude.{bytes_eq}
use Rattle.std.proofs.lemmas.Fmt.{parse-decimal}
use Rattle.std.proofs.lemmas.Slice.Eq.{bytes_eq-Decides}
use Rattle.etcd_text.proofs.Spelling.{number_is_text}
use Rattle.etcd_text.proofs.tail.number_in.Goals as goal

pub returns-in_default : goal.returns-in_default
returns-in_default c n small is = c.in_default.ensures.cases.0 (number_is_text c.args.digits.now n small is)

pub returns-in_default-from_str_radix : goal.returns-in_default-from_str_radix
returns-in_default-from_str_radix c n small is =
    let text : c.in-Ok.text.now ≡ decimal n = c.in-Ok.ensures.cases.0 ∙ is in
    let parsed = parse-decimal 64 n c.in-Ok.text.now c.from_str_radix.result small small text c.from_str_radix.ensures.value in
    cc

pub returns-else-eq : goal.returns-else-eq
returns-else-eq c n small is =
    let text : c.in-Ok.text.now ≡ decimal n = c.in-Ok.ensures.cases.0 ∙ is in
    let parsed : c.from_str_radix.result ≡ Ok n = parse-decimal 64 n c.in-Ok.text.now c.from_str_radix.result small small text c.from_str_radix.ensures.value in
    let number : c.in-Ok-from_str_radix.number ≡ n = cc in
    let again : c.as_bytes.result.now ≡ c.args.digits.now = c.as_bytes.ensures.value ∙ c.format.ensures.text ∙ ap decimal number ∙ sym is in
    let same : bytes_eq c.as_bytes.result.now c.args.digits.now ≡ true = (bytes_eq-Decides c.as_bytes.result.now c.args.digits.now).1 again in
    let differs : c.eq.result ≡ false = c.if-eq.false in
    cc
