use Rattle.findings.proofs.Tables.{agrees_from, agreed_from}
use Rattle.findings.proofs.agreeing.agrees_at.Goals as goal

pub returns-in-Some : goal.returns-in-Some
returns-in-Some c =
    let learnt = c.args.findings.now.learnt in
    let order = c.args.entries.now in (
      λ yes. agrees_from learnt order c.args.p c.in-Some.outcome c.reply_at.result c.in-Some.ensures.some
          c.reply_at.ensures.some c.reply_at.ensures.none (c.is_agreed.ensures.0 yes),
      λ agrees. c.is_agreed.ensures.1 (agreed_from learnt order c.args.p c.in-Some.outcome c.reply_at.result
          c.requires.once c.in-Some.ensures.some c.reply_at.ensures.some c.reply_at.ensures.none agrees),
    )
