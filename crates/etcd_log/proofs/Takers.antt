-- Who takes the log has its tail, and reads its pieces.
use Rattle.std.proofs.Common.{◌≡◌, ◌<◌, ◌+◌, ℕ, zero, suc, List, [], ◌++◌, Option, Some, None, Vec, Global, refl, sym, ap, ◌∙◌, subst, add-one}
use Rattle.std.specs.Prelude.{IfSome, option_map}
use Rattle.fenced.specs.Engine.{Engine, Tail, bytes_of, joined}
use Rattle.fenced.specs.Requests.{Take, after, compared, taken}
use Rattle.fenced.proofs.Facts.{joined_same}
use Rattle.etcd_text.specs.Tails.{Fits, spelled}
use Rattle.etcd_text.proofs.Facts.{one_spelling}
use Rattle.etcd_log.specs.Asking.{AreSame, FindsPiece, FindsTail, IsDone, IsSame, IsTailText}
use Rattle.etcd_log.specs.Logged.{HasPieces, HasTail, IsSeen}
use Rattle.etcd_log.proofs.Putting.{effect_of}

same_seen : (state seen : Option Tail) (found : Option (Vec ℕ Global)) → IsTailText state found → IsSeen found seen → state ≡ seen
same_seen None seen None told is = sym is
same_seen None seen (Some bytes) told is = absurd cc
same_seen (Some tail) seen None told is = absurd told
same_seen (Some tail) None (Some bytes) told is = absurd is
same_seen (Some tail) (Some other) (Some bytes) told is = ap (λ (t : Tail). Some t) (one_spelling tail other told.1 is.1 (sym told.0 ∙ is.0))

take_of : (seen : Option Tail) (owner : List ℕ) (e n : Engine) → e.tail ≡ seen → IsSame n (after e (Take seen owner)) → n.tail ≡ Some (taken seen owner)
take_of seen owner e n has same =
    same.tail ∙ ap (λ (x : Engine). x.tail) (effect_of (Take seen owner) e (ap (λ (t : Option Tail). Some t) (sym has)))

pub take_tail : (seen : Option Tail) (owner : List ℕ) (found : Option (Vec ℕ Global)) (old new : Option Engine) → FindsTail old found → IsSeen found seen → IsDone (Take seen owner) old new → HasTail new (taken seen owner)
take_tail seen owner found None new told is done = subst (λ (x : Option Engine). HasTail x (taken seen owner)) (sym done) tt
take_tail seen owner found (Some e) None told is done = absurd done
take_tail seen owner found (Some e) (Some n) told is done = take_of seen owner e n (same_seen e.tail seen found told is) done

-- ---- pieces

pub no_pieces : (engine : Option Engine) (generation : ℕ) → HasPieces engine generation 0 []
no_pieces None generation = tt
no_pieces (Some e) generation = refl

pieces_same : (old new : Option Engine) (generation count : ℕ) (text : List ℕ) → AreSame old new → HasPieces old generation count text → HasPieces new generation count text
pieces_same None new generation count text same has = subst (λ (x : Option Engine). HasPieces x generation count text) (sym same) tt
pieces_same (Some e) None generation count text same has = absurd same
pieces_same (Some e) (Some n) generation count text same has =
    joined_same (λ m. bytes_of (n.piece generation m)) (λ m. bytes_of (e.piece generation m)) count (λ m few. ap bytes_of (same.piece generation m)) ∙ has

pub one_piece_more : (old new : Option Engine) (generation number : ℕ) (text : List ℕ) (bytes : Vec ℕ Global) → AreSame old new → HasPieces old generation number text → FindsPiece generation number new (Some bytes)
    → HasPieces new generation (number + 1) (text ++ bytes.items)
one_piece_more None new generation number text bytes same has found = subst (λ (x : Option Engine). HasPieces x generation (number + 1) (text ++ bytes.items)) (sym same) tt
one_piece_more (Some e) None generation number text bytes same has found = absurd same
one_piece_more (Some e) (Some n) generation number text bytes same has found =
    let front : joined (λ m. bytes_of (n.piece generation m)) number ≡ text = pieces_same (Some e) (Some n) generation number text same has in
    let more : joined (λ m. bytes_of (n.piece generation m)) (suc number) ≡ text ++ bytes.items =
    ap (λ (xs : List ℕ). xs ++ bytes_of (n.piece generation number)) front ∙ ap (λ (p : Option (List ℕ)). text ++ bytes_of p) found in
    ap (joined (λ m. bytes_of (n.piece generation m))) (add-one number) ∙ more

owned : (said : Tail) (seen : Option Tail) (owner : List ℕ) → said ≡ taken seen owner → record said { owner = owner } ≡ taken seen owner
owned said None owner same = ap (λ (t : Tail). record t { owner = owner }) same
owned said (Some tail) owner same = ap (λ (t : Tail). record t { owner = owner }) same

pub take_numbers : (said : Tail) (seen : Option Tail) (owner : List ℕ) (found : Option (Vec ℕ Global)) (old new : Option Engine) → said ≡ taken seen owner → FindsTail old found → IsSeen found seen → IsDone (Take seen owner) old new
    → HasTail new (record said { owner = owner })
take_numbers said seen owner found old new same told is done =
    subst (λ (t : Tail). HasTail new t) (sym (owned said seen owner same)) (take_tail seen owner found old new told is done)
