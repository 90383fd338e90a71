use Rattle.std.proofs.Common.{◌≡◌, ℕ, Bool, true, if◌then◌else◌, Result, Ok, Err, ap, sym, ◌∙◌, arith}
use Rattle.std.specs.Prelude.{◌==◌, IsErr, IsErrAnd}
use Rattle.std.proofs.lemmas.Bool.{eq-eqb, ne_eqb}
use Rattle.words.specs.declared.refusal.Refusal.{Refusal}
use Rattle.words.specs.declared.refusal.Refusal.TheVariants.{NoMemory}
use Rattle.persist.specs.Memory.{Words}
use Rattle.arena.specs.Shape.{Shape}
use Rattle.interleave.specs.Calls.{is_no_memory}
use Rattle.interleave.specs.Core.{CoreState, state_of}
use Rattle.interleave.specs.State.{after_bump_load, after_call_began, used_by}
use Rattle.interleave.proofs.machine.Begun.{began, record_is}
use Rattle.interleave.proofs.machine.Invariants.{room_held}
use Rattle.interleave.proofs.machine.Starts.{client_in, used_few, used_is}
use Rattle.interleave.proofs.lent.Core.begin.Goals as goal

-- a choice by whether two numbers are the same
if_same : {A : Type 0} (used records : ℕ) (x y : A) → used ≡ records → (if used == records then x else y) ≡ x
if_same used records x y same = ap (λ (b : Bool). if b then x else y) (eq-eqb used records same)

if_other : {A : Type 0} (used records : ℕ) (x y : A) → (used ≡ records → ⊥) → (if used == records then x else y) ≡ y
if_other used records x y other = ap (λ (b : Bool). if b then x else y) (ne_eqb used records other)

-- the bump word is not the count of records
differs : {found count word used records : ℕ} → (found ≡ count → ⊥) → word ≡ used → found ≡ word → count ≡ records → used ≡ records → ⊥
differs other is loaded counted same = other (loaded ∙ is ∙ same ∙ sym counted)

-- there was no memory
refused : (r : Result Unit Refusal) (e : Refusal) → IsErr r × IsErrAnd r (λ y. y ≡ e) → e ≡ NoMemory → r ≡ Err NoMemory
refused (Ok x) e is why = absurd (cc (is.0))
refused (Err y) e is why = ap Err (is.1 ∙ why)

pub reserve-requires : goal.reserve-requires
reserve-requires g c = room_held c.requires.holds

pub overflow_cast-used : goal.overflow_cast-used
overflow_cast-used g c =
    let old : CoreState = c.args.self.now in
    let few = used_few old.shape (g.M.WordMemory.words c.args.memory.now) old.queue old.calls old.trace c.args.client c.requires.holds c.requires.idle in
    let shape : c.self.inside.layout ≡ old.shape = ap (λ (k : CoreState). k.shape) c.self.view_is in
    let records : c.records-records.result ≡ old.shape.records = c.records-records.ensures.value ∙ ap (λ (s : Shape). s.records) shape in
    omega (arith, few, c.load_bump-used.ensures.value, records, c.records-records.ensures.value, c.records-records.ensures.counts.few_records)

pub record_number-requires-clause-client : goal.record_number-requires-clause-client
record_number-requires-clause-client g c =
    let old : CoreState = c.args.self.now in
    let lt = client_in old.shape (g.M.WordMemory.words c.args.memory.now) old.queue old.calls old.trace c.args.client c.requires.holds c.requires.idle in
    let shape : c.self.inside.layout ≡ old.shape = ap (λ (k : CoreState). k.shape) c.self.view_is in
    let clients : c.clients-clients.result ≡ old.shape.clients = c.clients-clients.ensures.value ∙ ap (λ (s : Shape). s.clients) shape in
    omega (arith, lt, clients)

pub record_number-requires-clause-used : goal.record_number-requires-clause-used
record_number-requires-clause-used g c =
    let old : CoreState = c.args.self.now in
    let few = used_few old.shape (g.M.WordMemory.words c.args.memory.now) old.queue old.calls old.trace c.args.client c.requires.holds c.requires.idle in
    let shape : c.self.inside.layout ≡ old.shape = ap (λ (k : CoreState). k.shape) c.self.view_is in
    let records : c.records-records.result ≡ old.shape.records = c.records-records.ensures.value ∙ ap (λ (s : Shape). s.records) shape in
    omega (arith, few, c.load_bump-used.ensures.value, records, c.if-used-records.false)

pub returns-then-used-records-clause-world : goal.returns-then-used-records-clause-world
returns-then-used-records-clause-world g c =
    let old : CoreState = c.args.self.now in
    let ws : Words = g.M.WordMemory.words c.args.memory.now in
    let used = used_is old.shape ws old.queue old.calls old.trace c.args.client c.requires.holds c.requires.idle in
    let shape : c.self.inside.layout ≡ old.shape = ap (λ (k : CoreState). k.shape) c.self.view_is in
    let same : used_by (state_of old ws) c.args.client ≡ old.shape.records =
    sym used ∙ sym c.load_bump-used.ensures.value ∙ c.if-used-records.true ∙ c.records-records.ensures.value ∙ ap (λ (s : Shape). s.records) shape in
    ap (state_of old) c.load_bump-used.ensures.one_access ∙ sym (if_same _ _ _ _ same)

pub returns-then-used-records-clause-result : goal.returns-then-used-records-clause-result
returns-then-used-records-clause-result g c =
    let old : CoreState = c.args.self.now in
    let ws : Words = g.M.WordMemory.words c.args.memory.now in
    let used = used_is old.shape ws old.queue old.calls old.trace c.args.client c.requires.holds c.requires.idle in
    let shape : c.self.inside.layout ≡ old.shape = ap (λ (k : CoreState). k.shape) c.self.view_is in
    let same : used_by (state_of old ws) c.args.client ≡ old.shape.records =
    sym used ∙ sym c.load_bump-used.ensures.value ∙ c.if-used-records.true ∙ c.records-records.ensures.value ∙ ap (λ (s : Shape). s.records) shape in
    sym (if_same _ _ _ _ same)

pub returns-in_err-reserve-clause-world : goal.returns-in_err-reserve-clause-world
returns-in_err-reserve-clause-world g c =
    let old : CoreState = c.args.self.now in
    let ws : Words = g.M.WordMemory.words c.args.memory.now in
    let left : Words = g.M.WordMemory.words c.load_bump-used.new.memory in
    let used = used_is old.shape ws old.queue old.calls old.trace c.args.client c.requires.holds c.requires.idle in
    let shape : c.self.inside.layout ≡ old.shape = ap (λ (k : CoreState). k.shape) c.self.view_is in
    let other = differs c.if-used-records.false used c.load_bump-used.ensures.value (c.records-records.ensures.value ∙ ap (λ (s : Shape). s.records) shape) in
    let full : is_no_memory c.from_residual.result ≡ true = ap is_no_memory (refused c.from_residual.result c.in_err-reserve.field-0.0 c.from_residual.ensures c.in_err-reserve.ensures.errors) in
    ap (λ (k : CoreState). state_of k left) c.reserve.ensures.same ∙ ap (state_of old) c.load_bump-used.ensures.one_access
    ∙ sym (if_other _ _ _ _ other ∙ ap (λ (b : Bool). if b then after_bump_load (state_of old ws) else after_call_began (state_of old ws) c.args.client c.args.number c.args.call) full)

pub returns-in_err-reserve-clause-result : goal.returns-in_err-reserve-clause-result
returns-in_err-reserve-clause-result g c =
    let old : CoreState = c.args.self.now in
    let ws : Words = g.M.WordMemory.words c.args.memory.now in
    let used = used_is old.shape ws old.queue old.calls old.trace c.args.client c.requires.holds c.requires.idle in
    let shape : c.self.inside.layout ≡ old.shape = ap (λ (k : CoreState). k.shape) c.self.view_is in
    let other = differs c.if-used-records.false used c.load_bump-used.ensures.value (c.records-records.ensures.value ∙ ap (λ (s : Shape). s.records) shape) in
    let is = refused c.from_residual.result c.in_err-reserve.field-0.0 c.from_residual.ensures c.in_err-reserve.ensures.errors in
    is ∙ sym (if_other _ _ _ _ other ∙ ap (λ (b : Bool). let r : Result Unit Refusal = if b then Err NoMemory else Ok tt in r) (ap is_no_memory is))

pub returns-clause-result : goal.returns-clause-result
returns-clause-result g c =
    let old : CoreState = c.args.self.now in
    let ws : Words = g.M.WordMemory.words c.args.memory.now in
    let used = used_is old.shape ws old.queue old.calls old.trace c.args.client c.requires.holds c.requires.idle in
    let shape : c.self.inside.layout ≡ old.shape = ap (λ (k : CoreState). k.shape) c.self.view_is in
    let other = differs c.if-used-records.false used c.load_bump-used.ensures.value (c.records-records.ensures.value ∙ ap (λ (s : Shape). s.records) shape) in
    sym (if_other _ _ _ _ other)

pub returns-clause-world : goal.returns-clause-world
returns-clause-world g c =
    let old : CoreState = c.args.self.now in
    let ws : Words = g.M.WordMemory.words c.args.memory.now in
    let left : Words = g.M.WordMemory.words c.load_bump-used.new.memory in
    let used = used_is old.shape ws old.queue old.calls old.trace c.args.client c.requires.holds c.requires.idle in
    let shape : c.self.inside.layout ≡ old.shape = ap (λ (k : CoreState). k.shape) c.self.view_is in
    let records : c.records-records.result ≡ old.shape.records = c.records-records.ensures.value ∙ ap (λ (s : Shape). s.records) shape in
    let other = differs c.if-used-records.false used c.load_bump-used.ensures.value records in
    let begun = record_is old ws c.args.client c.args.number c.args.call c.load_bump-used.result c.records-records.result c.record_number.result
    (c.load_bump-used.ensures.value ∙ used) records c.record_number.ensures.number in
    began old c.reserve.new.self c.take_record.new.self ws left _ c.args.client c.args.number c.args.call
    c.reserve.ensures.same c.load_bump-used.ensures.one_access begun
    c.take_record.ensures.shape c.take_record.ensures.queue c.take_record.ensures.calls c.take_record.ensures.base c.take_record.ensures.told
    c.take_record.ensures.events c.take_record.ensures.issued c.take_record.ensures.effects c.take_record.ensures.recovery
    ∙ sym (if_other _ _ _ _ other)
