-- An eviction through a window on a block is one of the whole memory.
use Rattle.std.proofs.Common.{◌≡◌, ℕ, ◌+◌, ◌-◌, ◌<◌, ◌≤◌, ◌++◌, List, length, take, drop, slice_index, Bool, true, false, if◌then◌else◌, ◌==◌, Option, Some, None, Ok, refl, sym, ap, ◌∙◌, subst, arith, length-drop, length-take}
use Rattle.std.proofs.lemmas.List.{take-append-drop, drop-drop}
use Rattle.persist.specs.Changes.{change_at, change_of}
use Rattle.persist.specs.declared.access.Change.{Change}
use Rattle.persist.specs.Memory.{IsSameOutside, Words, words_after_eviction, words_in}
use Rattle.persist.proofs.Facts.{change_within, part_evicted, set_after, set_before}
use Rattle.interleave.specs.Changes.{effects_on_change}
use Rattle.interleave.specs.Core.{CoreState, state_of}
use Rattle.interleave.specs.Holds.{Holds}
use Rattle.interleave.specs.State.{State, after_evict, evict_result, machine_of}
use Rattle.interleave.specs.Trace.{Traced}
use Rattle.named.specs.Blocks.{IsSameWords}
use Rattle.interleave.proofs.Facts.{evicted_change, evicted_world}

-- lists with the same parts are the same
pub whole : (from len : ℕ) (c d : List ℕ) → take from c ≡ take from d → take len (drop from c) ≡ take len (drop from d) → drop (from + len) c ≡ drop (from + len) d → c ≡ d
whole from len c d before here after_it =
    let tail : (x : List ℕ) → drop len (drop from x) ≡ drop (from + len) x = λ x. drop-drop len from x in
    let rest : drop from c ≡ drop from d =
    sym (take-append-drop len (drop from c))
    ∙ ap (λ (h : List ℕ). h ++ drop len (drop from c)) here
    ∙ ap (λ (t : List ℕ). take len (drop from d) ++ t) (tail c ∙ after_it ∙ sym (tail d))
    ∙ take-append-drop len (drop from d) in
    sym (take-append-drop from c) ∙ ap (λ (h : List ℕ). h ++ drop from c) before ∙ ap (λ (t : List ℕ). take from d ++ t) rest ∙ take-append-drop from d

-- so it is of the values of two memories that show the same in a part, and lie alike around it
same_words : (from len : ℕ) (u v : Words) → IsSameOutside from len v u → words_in from len u ≡ words_in from len v → IsSameWords v u
same_words from len u v around e = record {
  cached = whole from len u.cached v.cached around.cached_before (ap (λ (ws : Words). ws.cached) e) around.cached_after;
  kept = whole from len u.kept v.kept around.kept_before (ap (λ (ws : Words). ws.kept) e) around.kept_after;
  accesses = ap (λ (ws : Words). ws.accesses) e;
}

-- what an eviction of a word that there is leaves of a core's words, and what it answers
module _ (c : CoreState) (ws : Words) (word : ℕ) (holds : Holds (state_of c ws)) (within : word < length ws.cached) where
  pub words_evicted : (after_evict (state_of c ws) word).words ≡ words_after_eviction word ws
  words_evicted =
      let effects = effects_on_change (machine_of c.shape (words_after_eviction word ws) c.calls c.trace.base c.trace.told c.trace.log) (change_of ws word) in
      let noted : Traced = record c.trace { log = record c.trace.log { effects = effects } } in
      sym (ap (λ (x : State). x.words) (evicted_world c.shape ws c.queue c.calls c.trace word holds within (words_after_eviction word ws) noted refl refl refl refl refl))

  pub result_evicted : evict_result (state_of c ws) word ≡ Ok (change_of ws word)
  result_evicted = evicted_change c.shape ws c.queue c.calls c.trace word holds within

-- the words of the whole memory, where its part was evicted so
pub whole_evicted : (from len word : ℕ) (old new : Words) → from ≤ word → word < from + len → IsSameOutside from len old new
    → words_in from len new ≡ words_after_eviction (word - from) (words_in from len old) → IsSameWords (words_after_eviction word old) new
whole_evicted from len word old new low high outside e =
    let at : from + (word - from) ≡ word = omega (arith, low) in
    let near : word - from < len = omega (arith, low, high) in
    let there : words_in from len (words_after_eviction word old) ≡ words_after_eviction (word - from) (words_in from len old) =
    subst (λ n. words_in from len (words_after_eviction n old) ≡ words_after_eviction (word - from) (words_in from len old)) at (part_evicted from len (word - from) old near) in
    let around : IsSameOutside from len (words_after_eviction word old) new = record {
      cached_before = outside.cached_before;
      cached_after = outside.cached_after;
      kept_before = outside.kept_before ∙ sym (subst (λ n. take from (words_after_eviction n old).kept ≡ take from old.kept) at (set_before old.kept from (word - from) (slice_index old.cached (from + (word - from)))));
      kept_after = outside.kept_after
          ∙ sym (subst (λ n. drop (from + len) (words_after_eviction n old).kept ≡ drop (from + len) old.kept) at (set_after old.kept from len (word - from) (slice_index old.cached (from + (word - from))) near));
    } in
    same_words from len new (words_after_eviction word old) around (e ∙ sym there)

-- the change in the whole memory's numbers
own_number : (word : ℕ) (ws : Words) → change_at word (change_of ws word) ≡ change_of ws word
own_number word ws = go (slice_index ws.kept word == slice_index ws.cached word)
  where
    go : (b : Bool) → change_at word (if b then None else Some (record { word = word; old = slice_index ws.kept word; new = slice_index ws.cached word }))
        ≡ (if b then None else Some (record { word = word; old = slice_index ws.kept word; new = slice_index ws.cached word }))
    go true = refl
    go false = refl

twice : (a b : ℕ) (o : Option Change) → change_at a (change_at b o) ≡ change_at a o
twice a b None = refl
twice a b (Some change) = refl

pub change_there : (from len word : ℕ) (old : Words) → from ≤ word → word < from + len
    → change_at word (change_of (words_in from len old) (word - from)) ≡ change_of old word
change_there from len word old low high =
    let at : from + (word - from) ≡ word = omega (arith, low) in
    let e : change_at (word - from) (change_of old (from + (word - from))) ≡ change_of (words_in from len old) (word - from) =
    change_within from len (word - from) old (omega (arith, low, high)) in
    ap (change_at word) (sym e) ∙ twice word (word - from) (change_of old (from + (word - from))) ∙ ap (λ n. change_at word (change_of old n)) at ∙ own_number word old

-- a word of a block, by its number there
pub within_block : (from len word : ℕ) (ws : Words) → from ≤ word → word < from + len → from + len ≤ length ws.cached → word - from < length (words_in from len ws).cached
within_block from len word ws low high inside =
    let size : length (words_in from len ws).cached ≡ len = omega (arith, length-take len (drop from ws.cached), length-drop from ws.cached, inside) in
    omega (arith, low, high, size)
