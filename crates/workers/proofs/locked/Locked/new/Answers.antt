use Rattle.std.proofs.Common.{[], ◌∷◌, ap, sym, subst, ◌∙◌, length, List, false}
use Rattle.std.specs.Prelude.{All}
use Rattle.std.proofs.lemmas.List.Elements.{All-cons, All-nil}
use Rattle.roll.specs.Rule.{keeper}
use Rattle.workers.specs.Coming.{CameThrough}
use Rattle.workers.specs.Deeds.{CameBy}
use Rattle.workers.specs.Deeds.CameBy.{nothing}
use Rattle.workers.specs.declared.deeds.Deed.{Deed}
use Rattle.session.specs.Sessions.{Sessioned}
use Rattle.session.specs.Keeping.{SessionGoesOn}
use Rattle.workers.specs.Following.{IsBeginning, beginnings}
use Rattle.workers.specs.Lists.{events_at}
use Rattle.workers.proofs.brokers.Comings.{through_itself}
use Rattle.workers.proofs.guard.Guarded.{named_begun, rows_begun}
use Rattle.workers.proofs.guard.Laters.{later_itself, session_stays}
use Rattle.workers.specs.Moments.{GoesOnLater}
use Rattle.workers.proofs.locked.Locked.new.Goals as goal

pub invariant_of-result : goal.invariant_of-result
invariant_of-result g c =
    let r = c.requires in (
      r.keeper,
      record {
        beginning = subst (λ (s : Sessioned). IsBeginning g.J.Naming.clients s) r.first r.beginning;
        clients = r.clients;
        followed = rows_begun (beginnings g.J.Naming.first false) c.args.session _
            (λ slot. ap (λ (s : Sessioned). length (events_at s.broker slot)) (sym r.first)) r.empty;
        named = named_begun c.args.session.broker.directory _ r.empty;
        promises = r.beginning.promises;
        creation = r.beginning.quiet.creating;
        goes_on = subst (λ (s : Sessioned). SessionGoesOn s c.args.session) r.first (session_stays c.args.session);
        came = subst (λ (s : Sessioned). CameThrough s.broker false c.args.session.broker) r.first (through_itself c.args.session.broker);
        done = subst (λ (rows : List (List Deed)). CameBy g.J.Naming.first.broker rows c.args.session.broker)
            (sym (ap (λ m. m.0.rows) r.register.1))
            (subst (λ (s : Sessioned). CameBy s.broker ([] ∷ []) c.args.session.broker) r.first nothing);
        later = subst (λ (ms : List Sessioned). All (λ s. GoesOnLater s c.args.session) ms)
            (ap (λ (s : Sessioned). s ∷ []) r.first ∙ sym r.marks)
            (All-cons (λ s. GoesOnLater s c.args.session) c.args.session [] (later_itself c.args.session)
            (All-nil (λ s. GoesOnLater s c.args.session)));
      },
      (r.register.0, r.register.1 ∙ sym (ap (λ m. (keeper m.0.rows, [])) r.register.1)),
      r.book,
    )
