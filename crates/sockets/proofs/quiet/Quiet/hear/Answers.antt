use Rattle.std.proofs.Common.{nat_eq}
use Rattle.std.specs.Cmp.{nat_eq_equiv}
use Rattle.lru.proofs.CallerLemmas.{lookup-put_entries}
use Rattle.sockets.proofs.quiet.Quiet.hear.Goals as goal

pub returns-in-Ok : goal.returns-in-Ok
returns-in-Ok c =
    let old = c.args.self.now in
    rw c.in-Ok.ensures.entries (lookup-put_entries nat_eq old.heard c.args.place old.now nat_eq_equiv)
