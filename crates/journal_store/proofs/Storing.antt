-- A journal's file as a storage: it stays in use, and a fresh one takes its place.
use Rattle.std.proofs.Common.{◌≡◌, inl, inr, ℕ, ◌+◌, ◌-◌, ◌≤◌, List, [], ◌++◌, Option, Some, None, Result, Ok, Err, length, take, arith, refl, subst, sym, ap, ◌∙◌}
use Rattle.std.specs.Prelude.{IfSome, OnErr, OnOk, option_map}
use Rattle.std.proofs.lemmas.List.{length-append, length-take}
use Rattle.journal_store.specs.declared.folder.FileName.TheVariants.{Fresh, Journal}
use Rattle.journal_store.specs.Folder.{File, Files, WritesPart, changed, created, lengthened, names_kept, renamed, synced, written}
use Rattle.journal_store.specs.Stored.{IsFreshWith, IsInUse, IsLonger}

-- ---- it stays in use

in_use_change : (change : File → File) (n m : ℕ) (files : Option Files) → IfSome files (IsInUse n)
    → ((f : File) → length f.text ≤ n → length (change f).text ≤ m) → IfSome (option_map (changed Journal change) files) (IsInUse m)
in_use_change change n m None was within = tt
in_use_change change n m (Some fs) was within = record {
  file = change was.file;
  there = ap (option_map change) was.there;
  within = within was.file was.within;
  named = was.named;
}

longer_in_use : (n : ℕ) (old new : Option Files) → IfSome old (IsInUse n) → IsLonger old new → IfSome new (IsInUse n)
longer_in_use n old new was (inl same) = subst (λ (files : Option Files). IfSome files (IsInUse n)) (sym same) was
longer_in_use n old new was (inr longer) =
    subst (λ (files : Option Files). IfSome files (IsInUse n)) (sym longer.1)
    (in_use_change (lengthened longer.0) n n old was (λ f few. few))

written_within : (bytes : List ℕ) (n end : ℕ) → n + length bytes ≤ end → (f : File) → length f.text ≤ n
    → length (f.text ++ bytes) ≤ end
written_within bytes n end fits f few = omega (arith, fits, few, length-append f.text bytes)

-- by an append, behind a room that may be longer
pub appended_in_use : {A E : Type 0} (bytes : List ℕ) (n end : ℕ) (old longer new : Option Files) (r : Result A E)
    → IfSome old (IsInUse n) → IsLonger old longer → n + length bytes ≤ end
    → OnOk r (new ≡ option_map (changed Journal (written bytes)) longer) → OnErr r (WritesPart Journal bytes longer new)
    → IfSome new (IsInUse end)
appended_in_use {A} {E} bytes n end old longer new (Ok done) was is fits all part =
    subst (λ (files : Option Files). IfSome files (IsInUse end)) (sym all)
    (in_use_change (written bytes) n end longer (longer_in_use n old longer was is) (written_within bytes n end fits))
appended_in_use {A} {E} bytes n end old longer new (Err e) was is fits all part =
    let less : n + length (take part.0 bytes) ≤ end = omega (arith, fits, length-take part.0 bytes) in
    subst (λ (files : Option Files). IfSome files (IsInUse end)) (sym part.1)
    (in_use_change (written (take part.0 bytes)) n end longer (longer_in_use n old longer was is)
    (written_within (take part.0 bytes) n end less))

-- by a sync
pub synced_in_use : {A E : Type 0} (n : ℕ) (old new : Option Files) (r : Result A E) → IfSome old (IsInUse n)
    → OnOk r (new ≡ option_map (changed Journal synced) old) → OnErr r (new ≡ old) → IfSome new (IsInUse n)
synced_in_use {A} {E} n old new (Ok done) was kept stays =
    subst (λ (files : Option Files). IfSome files (IsInUse n)) (sym kept) (in_use_change synced n n old was (λ f few. few))
synced_in_use {A} {E} n old new (Err e) was kept stays =
    subst (λ (files : Option Files). IfSome files (IsInUse n)) (sym stays) was

-- ---- a fresh file

-- it has this text, so much of it kept
abbrev IsFreshOf : List ℕ → ℕ → Option Files → Type 0
IsFreshOf text kept files =
    IfSome files (λ fs. (room : ℕ) × (fs.fresh ≡ Some (record { text = text; room = room; kept = kept })))

fresh_change : (change : File → File) (old new : List ℕ) (kept new_kept : ℕ) (other : ℕ → ℕ) (files : Option Files)
    → ((room : ℕ) → change (record { text = old; room = room; kept = kept })
    ≡ record { text = new; room = other room; kept = new_kept })
    → IsFreshOf old kept files → IsFreshOf new new_kept (option_map (changed Fresh change) files)
fresh_change change old new kept new_kept other None made is = tt
fresh_change change old new kept new_kept other (Some fs) made is =
    (other is.0, ap (option_map change) is.1 ∙ ap (λ (f : File). let o : Option File = Some f in o) (made is.0))

fresh_made : (files : Option Files) → IsFreshOf [] 0 (option_map created files)
fresh_made None = tt
fresh_made (Some fs) = (0, refl)

fresh_longer : {A E : Type 0} (size kept : ℕ) (text : List ℕ) (old new : Option Files) (r : Result A E)
    → OnOk r (new ≡ option_map (changed Fresh (lengthened size)) old) → OnErr r (new ≡ old)
    → IsFreshOf text kept old → IsFreshOf text kept new
fresh_longer {A} {E} size kept text old new (Ok done) made stays is =
    subst (IsFreshOf text kept) (sym made)
    (fresh_change (lengthened size) text text kept kept (λ room. size - length text) old (λ room. refl) is)
fresh_longer {A} {E} size kept text old new (Err e) made stays is = subst (IsFreshOf text kept) (sym stays) is

-- it was made, made longer or not, written and kept
pub fresh_whole : {A E : Type 0} (bytes : List ℕ) (size : ℕ) (old made longer wrote kept : Option Files) (r : Result A E)
    → made ≡ option_map created old
    → OnOk r (longer ≡ option_map (changed Fresh (lengthened size)) made) → OnErr r (longer ≡ made)
    → wrote ≡ option_map (changed Fresh (written bytes)) longer → kept ≡ option_map (changed Fresh synced) wrote
    → IsFreshWith bytes kept
fresh_whole {A} {E} bytes size old made longer wrote kept r is_made is_longer not_longer is_wrote is_kept =
    let empty : IsFreshOf [] 0 made = subst (IsFreshOf [] 0) (sym is_made) (fresh_made old) in
    let roomy : IsFreshOf [] 0 longer = fresh_longer size 0 [] made longer r is_longer not_longer empty in
    let full : IsFreshOf bytes 0 wrote =
    subst (IsFreshOf bytes 0) (sym is_wrote)
    (fresh_change (written bytes) [] bytes 0 0 (λ room. room - length bytes) longer (λ room. refl) roomy) in
    subst (IsFreshOf bytes (length bytes)) (sym is_kept)
    (fresh_change synced bytes bytes 0 (length bytes) (λ room. room) wrote (λ room. refl) full)

-- and takes the place
pub placed_in_use : (bytes : List ℕ) (old moved new : Option Files) → IsFreshWith bytes old
    → moved ≡ option_map renamed old → new ≡ option_map names_kept moved → IfSome new (IsInUse (length bytes))
placed_in_use bytes old moved new fresh is_moved is_new =
    subst (λ (files : Option Files). IfSome files (IsInUse (length bytes)))
    (sym (is_new ∙ ap (option_map names_kept) is_moved)) (there old fresh)
  where
    there : (files : Option Files) → IsFreshWith bytes files
        → IfSome (option_map names_kept (option_map renamed files)) (IsInUse (length bytes))
    there None is = tt
    there (Some fs) is = record {
      file = record { text = bytes; room = is.0; kept = length bytes };
      there = is.1;
      within = omega arith;
      named = refl;
    }
