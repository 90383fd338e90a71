-- What takes effect by a change of a kept word, and what is noted of a step.
use Rattle.std.proofs.Common.{◌≡◌, ◌≢◌, inl, inr, ℕ, ◌≤◌, Bool, true, false, List, length, Option, Some, None, slice_index, refl, sym, ap, ◌∙◌, subst}
use Rattle.std.specs.Prelude.{MatchOption}
use Rattle.std.proofs.lemmas.Bool.{eq-eqb, ne_eqb, cases_eq}
use Rattle.words.specs.PlainQueue.{Value}
use Rattle.words.specs.declared.told.Told.{Told}
use Rattle.persist.specs.Changes.{change_of}
use Rattle.persist.specs.declared.access.Change.{Change}
use Rattle.persist.specs.Memory.{Words, Access, Load, Store, Cas, Flush, Fence, words_after_eviction}
use Rattle.arena.specs.Layout.{laid_out, place_at, size_of, word_at}
use Rattle.arena.specs.Shape.{Shape}
use Rattle.arena.specs.Place.{IsPlace}
use Rattle.arena.specs.declared.place.Place.{Place}
use Rattle.arena.specs.declared.place.Place.TheVariants.{Mark}
use Rattle.stepper.specs.Step.{after_one, change_by, kept_by}
use Rattle.helping.specs.Looks.{is_look}
use Rattle.helping.specs.Table.{access_of, IsPoint}
use Rattle.helping.specs.declared.op.Op.{Op}
use Rattle.helping.specs.declared.op.Op.TheVariants.{DequeueLoadNext}
use Rattle.protocol.specs.Machine.{World, Memory, Trace, put, effects_on_keep, after_keeping, after_fence}
use Rattle.protocol.specs.Machine.{effects_after, next_of}
use Rattle.protocol.specs.declared.UnderWay.{UnderWay}
use Rattle.interleave.specs.Changes.{effects_at, effects_on_change, effects_on_step, looking}
use Rattle.interleave.specs.Calls.{went_on_to_nothing}
use Rattle.interleave.specs.Effects.{effects_with_look}
use Rattle.interleave.specs.Values.{value_of_place, memory_by_place}
use Rattle.interleave.specs.State.{machine_of}
use Rattle.interleave.proofs.words.Accesses.{AccessFits, access_fits}
use Rattle.interleave.proofs.words.Values.{shown_evicted, shown_at}

-- a step that looks at nothing takes effect by its fence alone
pub not_a_look : (w : World) (u : UnderWay) (op : Op) → is_look op ≡ false → effects_after w u op ≡ after_fence w (kept_by (access_of w.shape.kind op))
not_a_look w u (DequeueLoadNext p) h = cc
not_a_look w u _ h = refl

-- one that looks notes what it finds
pub look_is : (w : World) (u : UnderWay) (op : Op) → u.op ≡ op → is_look op ≡ true → effects_with_look u.place (went_on_to_nothing (next_of w u)) (length w.log.events) w.log.effects ≡ effects_after w u op
look_is w u (DequeueLoadNext p) e h = rw e refl
look_is w u _ e h = cc

-- the value that a claim takes is no other word's
noticed_same : (w : World) (m : Memory) (p : Place) (v new : ℕ) → m.kept ≡ put w.memory.kept p v → effects_on_keep (record w { memory = m }) p new ≡ effects_on_keep w p new
noticed_same w m (Mark n) v new e = rw e refl
noticed_same w m _ v new e = refl

-- an eviction keeps a word: what takes effect by it
kept_evicted : (s : Shape) (ws : Words) (p : Place) → IsPlace s p → size_of s ≤ length ws.kept → value_of_place s (words_after_eviction (word_at s p) ws).kept ≡ put (value_of_place s ws.kept) p (value_of_place s ws.cached p)
kept_evicted s ws p at long = ap (λ (m : Memory). m.kept) (shown_evicted s ws p at long)

noticed_by_eviction : (s : Shape) (ws : Words) (calls : List (Option UnderWay)) (base : List Value) (told : List Told) (log : Trace) (p : Place) → IsPlace s p → size_of s ≤ length ws.kept
    → slice_index ws.kept (word_at s p) ≢ slice_index ws.cached (word_at s p)
    → effects_on_keep (machine_of s (words_after_eviction (word_at s p) ws) calls base told log) p (slice_index ws.cached (word_at s p)) ≡ after_keeping (machine_of s ws calls base told log) p
noticed_by_eviction s ws calls base told log p at long differ =
    let w = machine_of s ws calls base told log in
    let cached : value_of_place s ws.cached p ≡ slice_index ws.cached (word_at s p) = shown_at s ws.cached p at in
    let kept : value_of_place s ws.kept p ≡ slice_index ws.kept (word_at s p) = shown_at s ws.kept p at in
    let apart : value_of_place s ws.kept p ≢ value_of_place s ws.cached p = λ e. differ (sym kept ∙ e ∙ cached) in
    let noted : effects_on_keep (machine_of s (words_after_eviction (word_at s p) ws) calls base told log) p (value_of_place s ws.cached p) ≡ effects_on_keep w p (value_of_place s ws.cached p) =
    noticed_same w (memory_by_place s (words_after_eviction (word_at s p) ws)) p (value_of_place s ws.cached p) (value_of_place s ws.cached p) (kept_evicted s ws p at long) in
    let keeping : after_keeping w p ≡ effects_on_keep w p (value_of_place s ws.cached p) = rw (ne_eqb (value_of_place s ws.kept p) (value_of_place s ws.cached p) apart) refl in
    ap (λ v. effects_on_keep (machine_of s (words_after_eviction (word_at s p) ws) calls base told log) p v) (sym cached) ∙ noted ∙ sym keeping

unnoticed_by_eviction : (s : Shape) (ws : Words) (calls : List (Option UnderWay)) (base : List Value) (told : List Told) (log : Trace) (p : Place) → IsPlace s p
    → slice_index ws.kept (word_at s p) ≡ slice_index ws.cached (word_at s p) → log.effects ≡ after_keeping (machine_of s ws calls base told log) p
unnoticed_by_eviction s ws calls base told log p at same =
    let w = machine_of s ws calls base told log in
    let shown_same : value_of_place s ws.kept p ≡ value_of_place s ws.cached p = shown_at s ws.kept p at ∙ same ∙ sym (shown_at s ws.cached p at) in
    let keeping : after_keeping w p ≡ log.effects = rw (eq-eqb (value_of_place s ws.kept p) (value_of_place s ws.cached p) shown_same) refl in
    sym keeping

-- the place of a word
pub place_of_word : (s : Shape) (word : ℕ) (p : Place) → place_at s word ≡ Some p → IsPlace s p × (word_at s p ≡ word)
place_of_word s word p at = subst (λ o. MatchOption o (size_of s ≤ word) (λ q. IsPlace s q × (word_at s q ≡ word))) at ((laid_out s).named word)

-- what a kept word changes by is what takes effect when it is kept
pub effects_of_change : (s : Shape) (ws : Words) (calls : List (Option UnderWay)) (base : List Value) (told : List Told) (log : Trace) (p : Place)
    → IsPlace s p → size_of s ≤ length ws.kept
    → effects_on_change (machine_of s (words_after_eviction (word_at s p) ws) calls base told log) (change_of ws (word_at s p))
    ≡ after_keeping (machine_of s ws calls base told log) p
effects_of_change s ws calls base told log p at long = elim (cases_eq (slice_index ws.kept (word_at s p)) (slice_index ws.cached (word_at s p))) [
  | inl same ↦
      let none : change_of ws (word_at s p) ≡ None = rw (eq-eqb (slice_index ws.kept (word_at s p)) (slice_index ws.cached (word_at s p)) same) refl in
      ap (effects_on_change now) none ∙ unnoticed_by_eviction s ws calls base told log p at same
  | inr apart ↦
      let some : change_of ws (word_at s p) ≡ Some change = rw (ne_eqb (slice_index ws.kept (word_at s p)) (slice_index ws.cached (word_at s p)) apart) refl in
      ap (effects_on_change now) some ∙ ap (λ (o : Option Place). effects_at now o change.new) ((laid_out s).own p at)
      ∙ noticed_by_eviction s ws calls base told log p at long apart
]
  where
    now : World
    now = machine_of s (words_after_eviction (word_at s p) ws) calls base told log

    change : Change
    change = record { word = word_at s p; old = slice_index ws.kept (word_at s p); new = slice_index ws.cached (word_at s p) }

-- of an access: a fence alone makes a change
effects_by_access : (s : Shape) (ws : Words) (calls : List (Option UnderWay)) (base : List Value) (told : List Told) (log : Trace) (a : Access Place)
    → AccessFits s a → size_of s ≤ length ws.kept
    → effects_on_change (machine_of s (after_one s a ws) calls base told log) (change_by s a ws) ≡ after_fence (machine_of s ws calls base told log) (kept_by a)
effects_by_access s ws calls base told log (Load p) fits long = refl
effects_by_access s ws calls base told log (Store p v) fits long = refl
effects_by_access s ws calls base told log (Cas p old new) fits long = refl
effects_by_access s ws calls base told log (Flush p) fits long = refl
effects_by_access s ws calls base told log (Fence p) fits long = effects_of_change s ws calls base told log p fits long

-- what is noted of a step are the machine's effects after it
pub noted_is : (s : Shape) (ws : Words) (calls : List (Option UnderWay)) (base : List Value) (told : List Told) (log : Trace) (u : UnderWay)
    → IsPoint s u.op → size_of s ≤ length ws.kept
    → effects_on_step (machine_of s (after_one s (access_of s.kind u.op) ws) calls base told log) (looking u) (change_by s (access_of s.kind u.op) ws) (next_of (machine_of s ws calls base told log) u)
    ≡ effects_after (machine_of s ws calls base told log) u u.op
noted_is s ws calls base told log u point long = look (is_look u.op) refl
  where
    w : World
    w = machine_of s ws calls base told log

    now : World
    now = machine_of s (after_one s (access_of s.kind u.op) ws) calls base told log

    look : (b : Bool) → is_look u.op ≡ b → effects_on_step now (looking u) (change_by s (access_of s.kind u.op) ws) (next_of w u) ≡ effects_after w u u.op
    look false h = rw h (effects_by_access s ws calls base told log (access_of s.kind u.op) (access_fits s s.kind u.op refl point) long ∙ sym (not_a_look w u u.op h))
    look true h = rw h (look_is w u u.op refl h)
