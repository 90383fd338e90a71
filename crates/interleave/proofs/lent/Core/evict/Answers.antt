use Rattle.std.proofs.Common.{◌≡◌, ℕ, ◌<◌, ◌≤◌, inl, inr, length, arith, true, false, List, Option, Result, Ok, Err, refl, sym, ap, ◌∙◌, subst, rules}
use Rattle.std.proofs.lemmas.Bool.{cases_lt}
use Rattle.words.specs.declared.refusal.Refusal.{Refusal}
use Rattle.words.specs.declared.refusal.Refusal.TheVariants.{NoWord}
use Rattle.persist.specs.Changes.{change_of}
use Rattle.persist.specs.declared.access.Change.{Change}
use Rattle.persist.specs.Memory.{Words, words_after_eviction}
use Rattle.events.specs.declared.event.Effect.{Effect}
use Rattle.protocol.specs.Machine.{Trace}
use Rattle.interleave.specs.Calls.{is_no_memory}
use Rattle.interleave.specs.Changes.{effects_on_change}
use Rattle.interleave.specs.Ranges.{WordsFit}
use Rattle.interleave.specs.State.{machine_of, evict_with}
use Rattle.interleave.specs.Core.{CoreState, machine_over, state_of}
use Rattle.interleave.specs.Holds.{Holds}
use Rattle.interleave.specs.Trace.{Traced, with_effects}
use Rattle.interleave.proofs.machine.Rules.{if_refused}
use Rattle.interleave.proofs.machine.Evictions.{no_word, refused_word, evicted_fit, noted_room, evicted_world}
use Rattle.interleave.proofs.machine.Evictions.{evicted_change}
use Rattle.interleave.proofs.machine.Holding.{holds_after_evict}
use Rattle.interleave.proofs.machine.Invariants.{sequence_held}
use Rattle.interleave.proofs.lent.Core.evict.Goals as goal

-- an eviction that is refused is of a word past the memory
past_refused : (ws : Words) (word : ℕ) (refusal : Refusal) (r : Result (Option Change) Refusal)
    → (word < length ws.cached → r ≡ Ok (change_of ws word)) → r ≡ Err refusal → length ws.cached ≤ word
past_refused ws word refusal r within was = elim (cases_lt word (length ws.cached)) [
  | inl lt ↦ absurd (cc (within lt, was))
  | inr past ↦ past
]

-- one that is accepted is of a word of the memory
within_accepted : (ws : Words) (word : ℕ) (change : Option Change) (r : Result (Option Change) Refusal)
    → (length ws.cached ≤ word → r ≡ Err NoWord) → r ≡ Ok change → word < length ws.cached
within_accepted ws word change r past was = elim (cases_lt word (length ws.cached)) [
  | inl lt ↦ lt
  | inr le ↦ absurd (cc (past le, was))
]

-- what a refused eviction leaves, and what it answers
pub returns-in_err-change-clause-by_rule : goal.returns-in_err-change-clause-by_rule
returns-in_err-change-clause-by_rule g c =
    let k : CoreState = c.args.self.now in
    let ws : Words = g.M.WordMemory.words c.args.memory.now in
    let past = past_refused ws c.args.word _ c.evict.result c.evict.ensures.change c.in_err-change.was in
    let none = no_word k.shape ws k.queue k.calls k.trace c.args.word c.requires.holds past in
    let refused = refused_word k.shape ws k.queue k.calls k.trace c.args.word c.requires.holds past in
    let err : c.from_residual.result ≡ Err c.in_err-change.field-0.0 = search rules in
    let no_word_there : c.from_residual.result ≡ Err NoWord = err ∙ sym c.in_err-change.was ∙ c.evict.ensures.refused past in
    record {
      leaves = ap (state_of k) (c.evict.ensures.same past) ∙ sym (ap (evict_with (state_of k ws) c.args.word) none);
      answers = no_word_there ∙ sym refused;
      full = λ full.
          let no : false ≡ true = sym (ap (λ (r : Result (Option Change) Refusal). is_no_memory r) no_word_there) ∙ full in
          absurd (cc (no));
      room = omega arith;
      spare = if_refused c.from_residual.result (omega arith);
    }

pub note_change-requires-clause-fit : goal.note_change-requires-clause-fit
note_change-requires-clause-fit g c =
    let s = c.args.self.now.shape in
    let lt = within_accepted (g.M.WordMemory.words c.args.memory.now) c.args.word _ c.evict.result c.evict.ensures.refused c.in_ok-change.was in
    subst (WordsFit s) (sym (c.evict.ensures.done lt))
    (evicted_fit s (g.M.WordMemory.words c.args.memory.now) c.args.self.now.queue c.args.self.now.calls c.args.self.now.trace c.args.word c.requires.holds lt)

pub note_change-requires-clause-sequence : goal.note_change-requires-clause-sequence
note_change-requires-clause-sequence g c = sequence_held c.requires.holds

pub note_change-requires-clause-room : goal.note_change-requires-clause-room
note_change-requires-clause-room g c =
    let s = c.args.self.now.shape in
    let t : Traced = c.args.self.now.trace in
    let lt = within_accepted (g.M.WordMemory.words c.args.memory.now) c.args.word _ c.evict.result c.evict.ensures.refused c.in_ok-change.was in
    let change : c.in_ok-change.change ≡ change_of (g.M.WordMemory.words c.args.memory.now) c.args.word = cc (c.evict.ensures.change lt, c.in_ok-change.was) in
    let room = noted_room s (g.M.WordMemory.words c.args.memory.now) c.args.self.now.queue c.args.self.now.calls t c.args.word c.requires.holds lt in
    subst (λ (o : Option Change). length (effects_on_change (machine_of s (g.M.WordMemory.words c.evict.new.self) c.args.self.now.calls t.base t.told t.log) o) ≤ length t.log.events) (sym change)
    (subst (λ (m : Words). length (effects_on_change (machine_of s m c.args.self.now.calls t.base t.told t.log) (change_of (g.M.WordMemory.words c.args.memory.now) c.args.word)) ≤ length t.log.events)
    (sym (c.evict.ensures.done lt)) room)

pub returns-clause-by_rule : goal.returns-clause-by_rule
returns-clause-by_rule g c =
    let old : CoreState = c.args.self.now in
    let ws : Words = g.M.WordMemory.words c.args.memory.now in
    let kept : Words = g.M.WordMemory.words c.evict.new.self in
    let lt = within_accepted ws c.args.word _ c.evict.result c.evict.ensures.refused c.in_ok-change.was in
    let change : c.in_ok-change.change ≡ change_of ws c.args.word = cc (c.evict.ensures.change lt, c.in_ok-change.was) in
    let now : List Effect = effects_on_change (machine_over old kept) c.in_ok-change.change in
    let effects : now ≡ effects_on_change (machine_over old (words_after_eviction c.args.word ws)) (change_of ws c.args.word) =
    ap (λ (o : Option Change). effects_on_change (machine_over old kept) o) change
    ∙ ap (λ (m : Words). effects_on_change (machine_over old m) (change_of ws c.args.word)) (c.evict.ensures.done lt) in
    let same : c.note_change.new.self.trace.room ≡ old.trace.room = ap (λ (k : CoreState). k.trace.room) c.note_change.ensures in
    record {
      leaves =
          ap (λ (k : CoreState). state_of k kept) c.note_change.ensures
          ∙ evicted_world old.shape ws old.queue old.calls old.trace c.args.word c.requires.holds lt kept (with_effects old.trace now)
          (c.evict.ensures.done lt) refl refl (ap (λ e. let l : Trace = record old.trace.log { effects = e } in l) effects) refl;
      answers =
          ap (λ (o : Option Change). let r : Result (Option Change) Refusal = Ok o in r) change
          ∙ sym (evicted_change old.shape ws old.queue old.calls old.trace c.args.word c.requires.holds lt);
      full = λ full. absurd (cc (full));
      room = omega (arith, same);
      spare = tt;
    }

pub returns-in_err-change-clause-holds : goal.returns-in_err-change-clause-holds
returns-in_err-change-clause-holds g c =
    subst Holds (sym (returns-in_err-change-clause-by_rule g c).leaves)
    (holds_after_evict (state_of c.args.self.now (g.M.WordMemory.words c.args.memory.now)) c.args.word c.requires.holds)

pub returns-clause-holds : goal.returns-clause-holds
returns-clause-holds g c =
    subst Holds (sym (returns-clause-by_rule g c).leaves)
    (holds_after_evict (state_of c.args.self.now (g.M.WordMemory.words c.args.memory.now)) c.args.word c.requires.holds)
