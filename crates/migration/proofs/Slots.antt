-- What the words of a slot's block become, by the directory, and the blocks of the slots so far.
use Rattle.std.proofs.Common.{◌≡◌, ◌++◌, ◌<◌, ℕ, ◌+◌, List, [], ◌∷◌, Option, Some, None, map, slice_get, slice_index_or, length, refl, sym, ap, subst, ◌∙◌, arith}
use Rattle.std.specs.Prelude.{IfSome}
use Rattle.std.specs.List.{flat_map, range_with_len}
use Rattle.std.proofs.lemmas.List.{flat_map_more}
use Rattle.std.proofs.lemmas.List.FromFn.{map-range_with_len_more}
use Rattle.std.proofs.lemmas.Option.{slice_get-get_or}
use Rattle.persist.specs.Memory.{Words}
use Rattle.arena.specs.Broker.{block_in}
use Rattle.arena.specs.Shape.{Counts, shape_of}
use Rattle.arena.specs.declared.form.Form.TheVariants.{OfValues}
use Rattle.sound_words.specs.Sound.{AreSoundWordsIn}
use Rattle.directory.specs.Directory.{Directory}
use Rattle.directory.specs.Queue.{slot_in}
use Rattle.directory.specs.declared.queue.Queue.{Queue}
use Rattle.directory.proofs.Facts.{directory_at}
use Rattle.migration.specs.Words.{MayBeMigrated}

-- what a slot has, by the directory
pub sound_at : (ws : Words) (counts : Counts) (directory : Directory) → MayBeMigrated ws counts directory → (slot : ℕ) (queue : Option Queue)
    → slice_get directory slot ≡ Some queue
    → IfSome queue (λ q. AreSoundWordsIn OfValues (shape_of q.kind counts) (block_in OfValues counts slot ws.kept))
sound_at ws counts directory h slot None at = tt
sound_at ws counts directory h slot (Some q) at =
    subst (λ (c : Counts). AreSoundWordsIn OfValues (shape_of q.kind c) (block_in OfValues c slot ws.kept)) (sym h.counts_are)
    (h.blocks slot q (subst (λ (d : Directory). slice_get d slot ≡ Some (Some q)) h.directory_is at))

same_some : (x y : Option Queue) → ◌≡◌ {A = Option (Option Queue)} (Some x) (Some y) → x ≡ y
same_some x y e = cc

pub queue_is : (ws : Words) (counts : Counts) (directory : Directory) → MayBeMigrated ws counts directory → (slot : ℕ) (queue : Option Queue)
    → slot < 8 → slice_get directory slot ≡ Some queue → queue ≡ slot_in ws.kept slot
queue_is ws counts directory h slot queue below at =
    same_some queue (slot_in ws.kept slot)
    (sym at ∙ ap (λ (d : Directory). slice_get d slot) h.directory_is ∙ directory_at ws.kept slot below)

same_row : (xs : List ℕ) → map (λ (x : ℕ). x) xs ≡ xs
same_row [] = refl
same_row (x ∷ xs) = ap (λ (l : List ℕ). x ∷ l) (same_row xs)

row_more : (n : ℕ) → range_with_len 0 (n + 1) ≡ range_with_len 0 n ++ n ∷ []
row_more n =
    sym (same_row (range_with_len 0 (n + 1))) ∙ map-range_with_len_more (λ (x : ℕ). x) 0 n n (omega arith)
    ∙ ap (λ (l : List ℕ). l ++ n ∷ []) (same_row (range_with_len 0 n))

-- a slot more
pub slot_more : (f : ℕ → List ℕ) (old new added : List ℕ) (slot : ℕ) → new ≡ old ++ flat_map f (range_with_len 0 slot) → added ≡ f slot
    → new ++ added ≡ old ++ flat_map f (range_with_len 0 (slot + 1))
slot_more f old new added slot so_far is =
    let row : range_with_len 0 (slot + 1) ≡ range_with_len 0 slot ++ slot ∷ [] = row_more slot in
    ap (λ (l : List ℕ). l ++ added) so_far ∙ ap (λ (l : List ℕ). (old ++ flat_map f (range_with_len 0 slot)) ++ l) is
    ∙ flat_map_more f old (range_with_len 0 slot) slot ∙ ap (λ (l : List ℕ). old ++ flat_map f l) (sym row)

pub listed : (places directory : Directory) (slot : ℕ) (d : Option Queue) → places ≡ directory → slot < length places
    → slice_get directory slot ≡ Some (slice_index_or places slot d)
listed places directory slot d same below =
    sym (ap (λ (l : Directory). slice_get l slot) same) ∙ slice_get-get_or places slot d below
