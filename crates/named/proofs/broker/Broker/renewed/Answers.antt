use Rattle.std.proofs.Common.{inl, length, ◌≡◌, ◌≤◌, ℕ, List, Err, refl, sym, ap, subst, ◌∙◌, arith}
use Rattle.std.specs.Prelude.{IfErr}
use Rattle.words.specs.declared.refusal.Refusal.TheVariants.{NoRoom}
use Rattle.persist.specs.Memory.{Words}
use Rattle.arena.specs.Shape.{Counts}
use Rattle.directory.specs.Sound.{AreBrokerWords, counts_in}
use Rattle.renewal.specs.Broker.{IsBrokerRenewalOf, broker_renewed}
use Rattle.named.specs.BrokerView.{broker_view}
use Rattle.named.specs.Booting.{AreBootWords}
use Rattle.named.specs.Brokers.{Brokered}
use Rattle.named.specs.Renewing.{AreCountsFor, IsWhyUnrenewed}
use Rattle.named.proofs.acts.Refused.{nothing, passed_on}
use Rattle.named.proofs.promises.Promises.{boots_well}
use Rattle.named.proofs.beginnings.Renewals.{may_be_renewed, not_both, not_refused, renewed_boots, renewed_if, renewed_read, unfit}
use Rattle.named.proofs.beginnings.Renewals.{unfit_as, unrenewed_if}
use Rattle.named.proofs.broker.Broker.renewed.Goals as goal

pub unreachable-requires : goal.unreachable-requires
unreachable-requires c =
    let b : Brokered = broker_view c.self.inside in
    let kept : c.crash.new.self.words.kept ≡ b.words.kept = ap (λ (ws : Words). ws.kept) c.crash.ensures.words in
    let sound : AreBrokerWords c.crash.new.self.words.kept = subst AreBrokerWords (sym kept) (boots_well b c.self.invariant.well).broker in
    not_refused c.sound.result c.in_default.field-0 (c.sound.ensures.ok.1 sound) c.in_default.is

pub renewed_broker-requires : goal.renewed_broker-requires
renewed_broker-requires c =
    let b : Brokered = broker_view c.self.inside in
    let kept : c.crash.new.self.words.kept ≡ b.words.kept = ap (λ (ws : Words). ws.kept) c.crash.ensures.words in
    let crashed : c.crash.new.self.words.cached ≡ c.crash.new.self.words.kept =
    subst (λ (ws : Words). ws.cached ≡ ws.kept) (sym c.crash.ensures.words) refl in
    let asked : c.in_ok-to.to.clients ≡ c.args.clients = ap (λ (k : Counts). k.clients) c.in_ok-to.ensures.made in
    let more : c.in-Ok.kept.layout.clients ≤ c.in_ok-to.to.clients = omega (arith, c.if-clients.false, c.clients.ensures.value, asked) in
    may_be_renewed c.crash.new.self.words c.in-Ok.kept.layout c.in-Ok.kept.directory c.in_ok-to.to (ap length crashed)
    (subst AreBootWords (sym kept) (boots_well b c.self.invariant.well)) c.in-Ok.ensures.layout c.in-Ok.ensures.directory more

pub begin-requires-clause-sound : goal.begin-requires-clause-sound
begin-requires-clause-sound c =
    let b : Brokered = broker_view c.self.inside in
    let kept : c.crash.new.self.words.kept ≡ b.words.kept = ap (λ (ws : Words). ws.kept) c.crash.ensures.words in
    let same : IsBrokerRenewalOf b.words.kept c.in_ok-to.to c.in_ok-words.words.items =
    subst (λ (ws : List ℕ). IsBrokerRenewalOf ws c.in_ok-to.to c.in_ok-words.words.items) kept c.in_ok-words.ensures.same in
    subst (λ (ws : Words). AreBootWords ws.kept) (sym c.in-Ok-of.ensures.made)
    (renewed_boots b.words.kept c.in_ok-to.to c.in_ok-words.words.items (boots_well b c.self.invariant.well).broker.head.counts.few_clients same)

pub returns-in_err-words-clause-errors : goal.returns-in_err-words-clause-errors
returns-in_err-words-clause-errors c =
    let old : List ℕ = c.args.self.words.kept in
    let to : Counts = record { clients = c.args.clients; records = c.args.records } in
    let kept : c.crash.new.self.words.kept ≡ old =
    ap (λ (ws : Words). ws.kept) c.crash.ensures.words ∙ ap (λ (x : Brokered). x.words.kept) c.self.view_is in
    let counts : c.in-Ok.kept.layout ≡ counts_in old = c.in-Ok.ensures.layout ∙ ap counts_in kept in
    let more : (counts_in old).clients ≤ c.args.clients =
    omega (arith, c.if-clients.false, c.clients.ensures.value, ap (λ (k : Counts). k.clients) counts) in
    let may : AreCountsFor old to = record { clients = more; counts = c.in_ok-to.ensures.ok.0 refl } in
    let e = c.in_err-words.field-0.0 in
    let why : IsWhyUnrenewed old to e =
    unfit old to e may c.in_err-words.ensures.errors
    (λ room. unfit_as c.crash.new.self.words.kept old c.in_ok-to.to to (sym kept) (sym c.in_ok-to.ensures.made) (c.renewed_broker.ensures.no_room.0 (c.in_err-words.was ∙ ap Err room))) in
    let answer : c.from_residual-in_err-words.result ≡ Err e = passed_on c.from_residual-in_err-words.result e c.from_residual-in_err-words.ensures in
    subst (λ r. IfErr r (IsWhyUnrenewed old to)) (sym answer) why

pub returns-in_err-words-clause-no_room : goal.returns-in_err-words-clause-no_room
returns-in_err-words-clause-no_room c = λ unfit.
    let old : List ℕ = c.args.self.words.kept in
    let to : Counts = record { clients = c.args.clients; records = c.args.records } in
    let kept : c.crash.new.self.words.kept ≡ old =
    ap (λ (ws : Words). ws.kept) c.crash.ensures.words ∙ ap (λ (x : Brokered). x.words.kept) c.self.view_is in
    let refused = c.renewed_broker.ensures.no_room.1 (unfit_as old c.crash.new.self.words.kept to c.in_ok-to.to kept c.in_ok-to.ensures.made unfit.1) in
    let answer : c.from_residual-in_err-words.result ≡ Err c.in_err-words.field-0.0 = passed_on c.from_residual-in_err-words.result c.in_err-words.field-0.0 c.from_residual-in_err-words.ensures in
    cc (answer, refused, c.in_err-words.was)

pub returns-in_default-of-clause-no_room : goal.returns-in_default-of-clause-no_room
returns-in_default-of-clause-no_room c = λ unfit.
    let old : List ℕ = c.args.self.words.kept in
    let to : Counts = record { clients = c.args.clients; records = c.args.records } in
    let kept : c.crash.new.self.words.kept ≡ old =
    ap (λ (ws : Words). ws.kept) c.crash.ensures.words ∙ ap (λ (x : Brokered). x.words.kept) c.self.view_is in
    let refused = c.renewed_broker.ensures.no_room.1 (unfit_as old c.crash.new.self.words.kept to c.in_ok-to.to kept c.in_ok-to.ensures.made unfit.1) in
    absurd (not_both c.renewed_broker.result c.in_ok-words.words NoRoom c.in_ok-words.was refused)

pub returns-clause-no_room : goal.returns-clause-no_room
returns-clause-no_room c = λ unfit.
    let old : List ℕ = c.args.self.words.kept in
    let to : Counts = record { clients = c.args.clients; records = c.args.records } in
    let kept : c.crash.new.self.words.kept ≡ old =
    ap (λ (ws : Words). ws.kept) c.crash.ensures.words ∙ ap (λ (x : Brokered). x.words.kept) c.self.view_is in
    let refused = c.renewed_broker.ensures.no_room.1 (unfit_as old c.crash.new.self.words.kept to c.in_ok-to.to kept c.in_ok-to.ensures.made unfit.1) in
    absurd (not_both c.renewed_broker.result c.in_ok-words.words NoRoom c.in_ok-words.was refused)

pub returns-clause-renewed : goal.returns-clause-renewed
returns-clause-renewed c =
    let old : List ℕ = c.args.self.words.kept in
    let to : Counts = record { clients = c.args.clients; records = c.args.records } in
    let b : Brokered = broker_view c.self.inside in
    let boots : AreBootWords old = subst (λ (x : Brokered). AreBootWords x.words.kept) c.self.view_is (boots_well b c.self.invariant.well) in
    let kept : c.crash.new.self.words.kept ≡ old =
    ap (λ (ws : Words). ws.kept) c.crash.ensures.words ∙ ap (λ (x : Brokered). x.words.kept) c.self.view_is in
    let counts : c.in-Ok.kept.layout ≡ counts_in old = c.in-Ok.ensures.layout ∙ ap counts_in kept in
    let more : (counts_in old).clients ≤ c.args.clients =
    omega (arith, c.if-clients.false, c.clients.ensures.value, ap (λ (k : Counts). k.clients) counts) in
    let may : AreCountsFor old to = record { clients = more; counts = c.in_ok-to.ensures.ok.0 refl } in
    let new : List ℕ = c.in_ok-words.words.items in
    let same : IsBrokerRenewalOf old to new =
    subst (λ (k : Counts). IsBrokerRenewalOf old k new) c.in_ok-to.ensures.made
    (subst (λ (ws : List ℕ). IsBrokerRenewalOf ws c.in_ok-to.to new) kept c.in_ok-words.ensures.same) in
    let is : new ≡ broker_renewed to old =
    c.in_ok-words.ensures.renewed ∙ ap (λ (k : Counts). broker_renewed k c.crash.new.self.words.kept) c.in_ok-to.ensures.made ∙ ap (broker_renewed to) kept in
    renewed_if old to new c.in-Ok-of.renewed.words c.begin.result boots.broker.head.counts.few_clients may same is c.in-Ok-of.ensures.made c.begin.ensures.booted

pub returns-clause-errors : goal.returns-clause-errors
returns-clause-errors c =
    let old : List ℕ = c.args.self.words.kept in
    let to : Counts = record { clients = c.args.clients; records = c.args.records } in
    let kept : c.crash.new.self.words.kept ≡ old =
    ap (λ (ws : Words). ws.kept) c.crash.ensures.words ∙ ap (λ (x : Brokered). x.words.kept) c.self.view_is in
    let counts : c.in-Ok.kept.layout ≡ counts_in old = c.in-Ok.ensures.layout ∙ ap counts_in kept in
    let more : (counts_in old).clients ≤ c.args.clients =
    omega (arith, c.if-clients.false, c.clients.ensures.value, ap (λ (k : Counts). k.clients) counts) in
    let may : AreCountsFor old to = record { clients = more; counts = c.in_ok-to.ensures.ok.0 refl } in
    unrenewed_if old to c.begin.result may c.begin.ensures.errors

pub returns-then-clients-clause-renewed : goal.returns-then-clients-clause-renewed
returns-then-clients-clause-renewed c = tt

pub returns-then-clients-clause-promises : goal.returns-then-clients-clause-promises
returns-then-clients-clause-promises c = tt

pub returns-in_err-to-clause-renewed : goal.returns-in_err-to-clause-renewed
returns-in_err-to-clause-renewed c = nothing _ c.from_residual.result c.in_err-to.field-0.0 c.from_residual.ensures

pub returns-in_err-to-clause-promises : goal.returns-in_err-to-clause-promises
returns-in_err-to-clause-promises c = nothing _ c.from_residual.result c.in_err-to.field-0.0 c.from_residual.ensures

pub returns-in_err-words-clause-renewed : goal.returns-in_err-words-clause-renewed
returns-in_err-words-clause-renewed c = nothing _ c.from_residual-in_err-words.result c.in_err-words.field-0.0 c.from_residual-in_err-words.ensures

pub returns-in_err-words-clause-promises : goal.returns-in_err-words-clause-promises
returns-in_err-words-clause-promises c = nothing _ c.from_residual-in_err-words.result c.in_err-words.field-0.0 c.from_residual-in_err-words.ensures

pub returns-in_default-of-clause-renewed : goal.returns-in_default-of-clause-renewed
returns-in_default-of-clause-renewed c = tt

pub returns-in_default-of-clause-promises : goal.returns-in_default-of-clause-promises
returns-in_default-of-clause-promises c = tt

pub returns-clause-promises : goal.returns-clause-promises
returns-clause-promises c = c.begin.ensures.promises

pub returns-then-clients-clause-errors : goal.returns-then-clients-clause-errors
returns-then-clients-clause-errors c =
    let old : List ℕ = c.args.self.words.kept in
    let to : Counts = record { clients = c.args.clients; records = c.args.records } in
    let kept : c.crash.new.self.words.kept ≡ old =
    ap (λ (ws : Words). ws.kept) c.crash.ensures.words ∙ ap (λ (x : Brokered). x.words.kept) c.self.view_is in
    let counts : c.in-Ok.kept.layout ≡ counts_in old = c.in-Ok.ensures.layout ∙ ap counts_in kept in
    inl (omega (arith, c.if-clients.true, c.clients.ensures.value, ap (λ (k : Counts). k.clients) counts))

pub returns-then-clients-clause-no_room : goal.returns-then-clients-clause-no_room
returns-then-clients-clause-no_room c = λ unfit.
    let old : List ℕ = c.args.self.words.kept in
    let to : Counts = record { clients = c.args.clients; records = c.args.records } in
    let kept : c.crash.new.self.words.kept ≡ old =
    ap (λ (ws : Words). ws.kept) c.crash.ensures.words ∙ ap (λ (x : Brokered). x.words.kept) c.self.view_is in
    let counts : c.in-Ok.kept.layout ≡ counts_in old = c.in-Ok.ensures.layout ∙ ap counts_in kept in
    absurd (omega (arith, c.if-clients.true, c.clients.ensures.value, ap (λ (k : Counts). k.clients) counts, unfit.0.clients))

pub returns-in_default-of-clause-errors : goal.returns-in_default-of-clause-errors
returns-in_default-of-clause-errors c =
    let old : List ℕ = c.args.self.words.kept in
    let to : Counts = record { clients = c.args.clients; records = c.args.records } in
    let kept : c.crash.new.self.words.kept ≡ old =
    ap (λ (ws : Words). ws.kept) c.crash.ensures.words ∙ ap (λ (x : Brokered). x.words.kept) c.self.view_is in
    let counts : c.in-Ok.kept.layout ≡ counts_in old = c.in-Ok.ensures.layout ∙ ap counts_in kept in
    let more : (counts_in old).clients ≤ c.args.clients =
    omega (arith, c.if-clients.false, c.clients.ensures.value, ap (λ (k : Counts). k.clients) counts) in
    record { clients = more; counts = c.in_ok-to.ensures.ok.0 refl }

pub begin-requires-clause-read : goal.begin-requires-clause-read
begin-requires-clause-read c =
    renewed_read c.crash.new.self.words.kept c.in_ok-to.to c.in_ok-to.to c.in-Ok.kept.directory c.in_ok-words.words.items c.in-Ok-of.renewed.words
    c.in_ok-words.ensures.same c.in-Ok-of.ensures.made refl c.in-Ok.ensures.directory
