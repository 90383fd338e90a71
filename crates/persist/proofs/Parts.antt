-- What becomes of a part of a memory, and of what lies around it.
use Rattle.std.proofs.Common.{◌≡◌, ℕ, ◌+◌, ◌-◌, ◌<◌, ◌≤◌, ◌⊎◌, inl, inr, Bool, true, false, Some, None, List, take, drop, slice_index, slice_set, refl, sym, ap, ◌∙◌, arith, subst, if◌then◌else◌, ◌==◌}
use Rattle.std.proofs.lemmas.List.{take-set-le, drop-set-lt, drop-set-add, get_or-drop, get_or-take, drop-drop, drop-take, take-take}
use Rattle.std.proofs.Math.Seq.{take-set-lt}
use Rattle.persist.specs.Memory.{Words, Around, Access, Load, Store, Cas, Flush, Fence, MemoryState, after, lent_part, words_after_access, words_after_store, words_after_eviction, words_in, IsSameOutside}
use Rattle.persist.specs.Changes.{change_of, change_at}

pub set_within : (c : List ℕ) (from len w v : ℕ) → w < len → take len (drop from (slice_set c (from + w) v)) ≡ slice_set (take len (drop from c)) w v
set_within c from len w v h = ap (take len) (drop-set-add from c w v) ∙ take-set-lt len (drop from c) w v h

pub set_before : (c : List ℕ) (from w v : ℕ) → take from (slice_set c (from + w) v) ≡ take from c
set_before c from w v = take-set-le from c (from + w) v (omega arith)

pub set_after : (c : List ℕ) (from len w v : ℕ) → w < len → drop (from + len) (slice_set c (from + w) v) ≡ drop (from + len) c
set_after c from len w v h = drop-set-lt (from + len) c (from + w) v (omega arith)

pub index_within : (c : List ℕ) (from len w : ℕ) → w < len → slice_index (take len (drop from c)) w ≡ slice_index c (from + w)
index_within c from len w h = get_or-take len (drop from c) w 0 h ∙ get_or-drop from c w 0

-- an access at this distance
abbrev pub shifted : ℕ → Access ℕ → Access ℕ
shifted from (Load w) = Load (from + w)
shifted from (Store w v) = Store (from + w) v
shifted from (Cas w old new) = Cas (from + w) old new
shifted from (Flush w) = Flush (from + w)
shifted from (Fence w) = Fence (from + w)

pub part_stored : (from len w v : ℕ) (ws : Words) → w < len → words_in from len (words_after_store (from + w) v ws) ≡ words_after_store w v (words_in from len ws)
part_stored from len w v ws h = rw (set_within ws.cached from len w v h) refl

pub part_evicted : (from len w : ℕ) (ws : Words) → w < len → words_in from len (words_after_eviction (from + w) ws) ≡ words_after_eviction w (words_in from len ws)
part_evicted from len w ws h =
    let v = slice_index ws.cached (from + w) in
    rw (index_within ws.cached from len w h, set_within ws.kept from len w v h) refl

abbrev pub word_in : Access ℕ → ℕ
word_in (Load w) = w
word_in (Store w v) = w
word_in (Cas w old new) = w
word_in (Flush w) = w
word_in (Fence w) = w

pub part_after : (from len : ℕ) (a : Access ℕ) (ws : Words) → word_in a < len → words_in from len (after (shifted from a) ws) ≡ after a (words_in from len ws)
part_after from len (Load w) ws h = refl
part_after from len (Store w v) ws h = ap words_after_access (part_stored from len w v ws h)
part_after from len (Flush w) ws h = refl
part_after from len (Fence w) ws h = ap words_after_access (part_evicted from len w ws h)
part_after from len (Cas w old new) ws h =
    let go : (b : Bool) → words_in from len (words_after_access (if b then words_after_store (from + w) new ws else ws)) ≡ words_after_access (if b then words_after_store w new (words_in from len ws) else words_in from len ws)
    = elim [ true ↦ ap words_after_access (part_stored from len w new ws h) | false ↦ refl ] in
    rw (index_within ws.cached from len w h) (go (slice_index ws.cached (from + w) == old))

pub change_within : (from len w : ℕ) (ws : Words) → w < len → change_at w (change_of ws (from + w)) ≡ change_of (words_in from len ws) w
change_within from len w ws h =
    let old = slice_index ws.kept (from + w) in
    let new = slice_index ws.cached (from + w) in
    let go : (b : Bool) → change_at w (if b then None else Some (record { word = from + w; old = old; new = new })) ≡ (if b then None else Some (record { word = w; old = old; new = new }))
    = elim [ true ↦ refl | false ↦ refl ] in
    rw (index_within ws.cached from len w h, index_within ws.kept from len w h) (go (old == new))

cut_before : (x : List ℕ) (from from2 len2 : ℕ) → from2 + len2 ≤ from → take len2 (drop from2 (take from x)) ≡ take len2 (drop from2 x)
cut_before x from from2 len2 h =
    let e : from ≡ from2 + (from - from2) = omega arith in
    ap (λ n. take len2 (drop from2 (take n x))) e ∙ ap (take len2) (drop-take from2 (from - from2) x) ∙ take-take len2 (from - from2) (drop from2 x) (omega arith)

-- where two memories are alike around a part, the words of any other part are alike too
pub other_list : (c d : List ℕ) (from len from2 len2 : ℕ) → (from2 + len2 ≤ from) ⊎ (from + len ≤ from2)
    → take from c ≡ take from d → drop (from + len) c ≡ drop (from + len) d → take len2 (drop from2 c) ≡ take len2 (drop from2 d)
other_list c d from len from2 len2 (inl h) before after_it =
    let cut : (x : List ℕ) → take len2 (drop from2 (take from x)) ≡ take len2 (drop from2 x) = λ x. cut_before x from from2 len2 h in
    sym (cut c) ∙ ap (λ (x : List ℕ). take len2 (drop from2 x)) before ∙ cut d
other_list c d from len from2 len2 (inr h) before after_it =
    let cut : (x : List ℕ) → drop (from2 - (from + len)) (drop (from + len) x) ≡ drop from2 x = λ x. drop-drop (from2 - (from + len)) (from + len) x ∙ ap (λ n. drop n x) (omega arith) in
    sym (ap (take len2) (cut c)) ∙ ap (λ (x : List ℕ). take len2 (drop (from2 - (from + len)) x)) after_it ∙ ap (take len2) (cut d)

-- words that lie elsewhere are as they were
pub elsewhere : (from len from2 len2 : ℕ) (old new : Words) → IsSameOutside from len old new → (from2 + len2 ≤ from) ⊎ (from + len ≤ from2)
    → ((words_in from2 len2 new).cached ≡ (words_in from2 len2 old).cached) × ((words_in from2 len2 new).kept ≡ (words_in from2 len2 old).kept)
elsewhere from len from2 len2 old new same apart = (
  other_list new.cached old.cached from len from2 len2 apart same.cached_before same.cached_after,
  other_list new.kept old.kept from len from2 len2 apart same.kept_before same.kept_after,
)

-- an act through a window that leaves what lies around it leaves the words outside
pub outside_left : (name port from len name2 port2 from2 len2 : ℕ) (old new : MemoryState)
    → (lent_part name2 port2 from2 len2 new).around ≡ (lent_part name port from len old).around → IsSameOutside from len old.words new.words
outside_left name port from len name2 port2 from2 len2 old new e =
    let f : from2 ≡ from = ap (λ (a : Around). a.from) e in
    let l : len2 ≡ len = ap (λ (a : Around). a.len) e in
    record {
      cached_before = subst (λ n. take n new.words.cached ≡ take from old.words.cached) f (ap (λ (a : Around). a.cached_before) e);
      cached_after = subst (λ n. drop (n + len) new.words.cached ≡ drop (from + len) old.words.cached) f (subst (λ n. drop (from2 + n) new.words.cached ≡ drop (from + len) old.words.cached) l (ap (λ (a : Around). a.cached_after) e));
      kept_before = subst (λ n. take n new.words.kept ≡ take from old.words.kept) f (ap (λ (a : Around). a.kept_before) e);
      kept_after = subst (λ n. drop (n + len) new.words.kept ≡ drop (from + len) old.words.kept) f (subst (λ n. drop (from2 + n) new.words.kept ≡ drop (from + len) old.words.kept) l (ap (λ (a : Around). a.kept_after) e));
    }

-- the words that a window shows, by where it lies
pub bare_part : (name port from len name2 port2 from2 len2 : ℕ) (old new : MemoryState)
    → (lent_part name2 port2 from2 len2 new).around ≡ (lent_part name port from len old).around → words_in from len new.words ≡ words_in from2 len2 new.words
bare_part name port from len name2 port2 from2 len2 old new e =
    ap (λ (n : ℕ). words_in n len new.words) (sym (ap (λ (a : Around). a.from) e)) ∙ ap (λ (n : ℕ). words_in from2 n new.words) (sym (ap (λ (a : Around). a.len) e))
