use Rattle.std.proofs.Common.{◌≡◌, ◌<◌, ◌^◌, List, ℕ, rules}
use Rattle.etcd_text.specs.Tails.{spelled}
use Rattle.etcd_log.proofs.Spelled.{tail_found}
use Rattle.etcd_log.proofs.questions.confirm.Goals as goal

pub returns-then-is_spelled-clause-there : goal.returns-then-is_spelled-clause-there
returns-then-is_spelled-clause-there g c =
    let tail = c.args.tail.now in
    let same : c.in-Some.text.items ≡ spelled (record { generation = tail.generation; count = tail.count; owner = tail.owner.now }) = search rules in
    let one : tail.generation < 2 ^ 64 = search rules in
    let other : tail.count < 2 ^ 64 = search rules in
    tail_found (g.X.Exchange.engine c.ask_tail.new.exchange) c.in-Ok.found c.in-Some.text tail.generation tail.count tail.owner.now
    one other c.in-Ok.ensures.told c.in-Some.is same
