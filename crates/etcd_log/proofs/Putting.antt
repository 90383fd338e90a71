-- What a request that is done makes of the tail and of the text.
use Rattle.std.proofs.Common.{◌≡◌, ◌≢◌, ◌≤◌, ◌<◌, ◌+◌, ◌⊎◌, inl, inr, ℕ, zero, suc, Bool, true, false, List, [], ◌∷◌, ◌++◌, Option, Some, None, take, drop, length, refl, sym, ap, ◌∙◌, subst, arith, append_assoc, append-nil, add-one}
use Rattle.std.specs.Prelude.{IfSome, if◌then◌else◌, option_map, min}
use Rattle.std.specs.Io.KnownBytes.{append_known}
use Rattle.std.proofs.lemmas.Bool.{cases_lt}
use Rattle.std.proofs.lemmas.List.{length-take, take-append-drop, take-take, take_all}
use Rattle.std.proofs.Math.Seq.{take-append-add}
use Rattle.journal_file.specs.Appended.{AppendsPart}
use Rattle.fenced.specs.Engine.{Engine, Tail, bytes_of, joined, text_by, text_of, with_piece}
use Rattle.fenced.specs.Requests.{Drop, Fresh, Place, Put, Request, after, compared, effect, is_met, longer, placed}
use Rattle.fenced.proofs.Facts.{drop_text, fresh_text, is_named, joined_same, put_text, with_it, with_other}
use Rattle.etcd_log.specs.Asking.{IsDone, IsSame, MayBeDone}
use Rattle.etcd_log.specs.Logged.{HasPieces, HasTail, MayHaveJust, text_in}

-- ---- the same engine

text_by_same : (a b : Engine) (tail : Option Tail) → IsSame a b → text_by a.piece tail ≡ text_by b.piece tail
text_by_same a b None same = refl
text_by_same a b (Some tail) same =
    joined_same (λ n. bytes_of (a.piece tail.generation n)) (λ n. bytes_of (b.piece tail.generation n)) tail.count (λ n few. ap bytes_of (same.piece tail.generation n))

pub text_same : (a b : Engine) → IsSame a b → text_of a ≡ text_of b
text_same a b same = text_by_same a b a.tail same ∙ ap (text_by b.piece) same.tail

-- a request that names the tail has its effect
pub effect_of : (request : Request) (e : Engine) → compared request ≡ Some e.tail → after e request ≡ effect request e
effect_of request e named = ap (λ (b : Bool). if b then effect request e else e) (is_named e.tail (compared request) named)

names : (tail : Tail) (e : Engine) → e.tail ≡ Some tail → Some (Some tail) ≡ Some e.tail
names tail e has = ap (λ (t : Option Tail). Some t) (sym has)

-- ---- a piece behind the text

put_of : (tail : Tail) (bytes : List ℕ) (e n : Engine) → e.tail ≡ Some tail → IsSame n (after e (Put tail bytes)) → (n.tail ≡ Some (longer tail)) × (text_of n ≡ text_of e ++ bytes)
put_of tail bytes e n has same =
    let step : after e (Put tail bytes) ≡ effect (Put tail bytes) e = effect_of (Put tail bytes) e (names tail e has) in (
      same.tail ∙ ap (λ (x : Engine). x.tail) step,
      text_same n (after e (Put tail bytes)) same ∙ ap text_of step ∙ put_text e.piece tail bytes ∙ ap (λ (t : Option Tail). text_by e.piece t ++ bytes) (sym has),
    )

pub put_tail : (tail : Tail) (bytes : List ℕ) (old new : Option Engine) → HasTail old tail → IsDone (Put tail bytes) old new → HasTail new (longer tail)
put_tail tail bytes None new has done = subst (λ (x : Option Engine). HasTail x (longer tail)) (sym done) tt
put_tail tail bytes (Some e) None has done = absurd done
put_tail tail bytes (Some e) (Some n) has done = (put_of tail bytes e n has done).0

pub put_appends : (tail : Tail) (bytes : List ℕ) (old new : Option Engine) → HasTail old tail → IsDone (Put tail bytes) old new → text_in new ≡ append_known (text_in old) bytes
put_appends tail bytes None new has done = ap text_in done
put_appends tail bytes (Some e) None has done = absurd done
put_appends tail bytes (Some e) (Some n) has done = ap (λ (xs : List ℕ). Some xs) (put_of tail bytes e n has done).1

nothing_more : (e n : Engine) → IsSame n e → text_in (Some n) ≡ append_known (text_in (Some e)) []
nothing_more e n same = ap (λ (xs : List ℕ). Some xs) (text_same n e same ∙ sym (append-nil (text_of e)))

pub put_part : (tail : Tail) (bytes : List ℕ) (old new : Option Engine) → HasTail old tail → MayBeDone (Put tail bytes) old new → AppendsPart (text_in old) (text_in new) bytes
put_part tail bytes None new has may = (0, ap text_in may)
put_part tail bytes (Some e) None has may = absurd may
put_part tail bytes (Some e) (Some n) has (inl same) = (0, nothing_more e n same)
put_part tail bytes (Some e) (Some n) has (inr same) =
    (length bytes, put_appends tail bytes (Some e) (Some n) has same ∙ ap (append_known (text_in (Some e))) (sym (take_all (length bytes) bytes (omega arith))))

-- ---- bytes behind the text

-- some of them stand there, and these are left
pub record HasPut (bytes rest : List ℕ) (old new : Option (List ℕ)) : Type 0 where
  pub sent : List ℕ
  pub parts : bytes ≡ sent ++ rest
  pub text : new ≡ append_known old sent

known_nothing : (old : Option (List ℕ)) → old ≡ append_known old []
known_nothing None = refl
known_nothing (Some xs) = ap (λ (ys : List ℕ). Some ys) (sym (append-nil xs))

known_more : (old : Option (List ℕ)) (one other : List ℕ) → append_known (append_known old one) other ≡ append_known old (one ++ other)
known_more None one other = refl
known_more (Some xs) one other = ap (λ (ys : List ℕ). Some ys) (append_assoc xs one other)

pub none_put : (bytes : List ℕ) (old : Option (List ℕ)) → HasPut bytes bytes old old
none_put bytes old = record { sent = []; parts = refl; text = known_nothing old }

pub more_put : (m : ℕ) (bytes rest : List ℕ) (old mid new : Option (List ℕ)) → HasPut bytes rest old mid → new ≡ append_known mid (take m rest) → HasPut bytes (drop m rest) old new
more_put m bytes rest old mid new had more = record {
  sent = had.sent ++ take m rest;
  parts = had.parts ∙ ap (λ (xs : List ℕ). had.sent ++ xs) (sym (take-append-drop m rest)) ∙ sym (append_assoc had.sent (take m rest) (drop m rest));
  text = more ∙ ap (λ (known : Option (List ℕ)). append_known known (take m rest)) had.text ∙ known_more old had.sent (take m rest);
}

pub all_put : (bytes rest : List ℕ) (old new : Option (List ℕ)) → HasPut bytes rest old new → rest ≡ [] → new ≡ append_known old bytes
all_put bytes rest old new had none =
    let all : bytes ≡ had.sent = had.parts ∙ ap (λ (xs : List ℕ). had.sent ++ xs) none ∙ append-nil had.sent in
    had.text ∙ ap (append_known old) (sym all)

-- a beginning of a beginning
take_part : (n m : ℕ) (xs : List ℕ) → (k : ℕ) × (take n (take m xs) ≡ take k xs)
take_part n m xs = elim (cases_lt m n) [
  | inl less ↦ (m, take_all n (take m xs) (omega (arith, less, length-take m xs)))
  | inr few ↦ (n, take-take n m xs few)
]

take_behind : (sent rest : List ℕ) (k : ℕ) → take (length sent + k) (sent ++ rest) ≡ sent ++ take k rest
take_behind sent rest k = take-append-add sent rest k

pub part_put : (m : ℕ) (bytes rest : List ℕ) (old mid new : Option (List ℕ)) → HasPut bytes rest old mid → AppendsPart mid new (take m rest) → AppendsPart old new bytes
part_put m bytes rest old mid new had part =
    let k = take_part part.0 m rest in (
      length had.sent + k.0,
      part.1 ∙ ap (append_known mid) k.1 ∙ ap (λ (known : Option (List ℕ)). append_known known (take k.0 rest)) had.text ∙ known_more old had.sent (take k.0 rest)
          ∙ ap (append_known old) (sym (take_behind had.sent rest k.0)) ∙ ap (λ (xs : List ℕ). append_known old (take (length had.sent + k.0) xs)) (sym had.parts),
    )

pub stopped_put : (bytes rest : List ℕ) (old new : Option (List ℕ)) → HasPut bytes rest old new → AppendsPart old new bytes
stopped_put bytes rest old new had = (
  length had.sent + 0,
  had.text ∙ ap (append_known old) (sym (append-nil had.sent)) ∙ ap (append_known old) (sym (take_behind had.sent rest 0))
      ∙ ap (λ (xs : List ℕ). append_known old (take (length had.sent + 0) xs)) (sym had.parts),
)

-- ---- a fresh generation

-- the bytes before the rest are the first pieces of it
pub record IsWritten (bytes rest : List ℕ) (engine : Option Engine) (generation number : ℕ) : Type 0 where
  pub sent : List ℕ
  pub parts : bytes ≡ sent ++ rest
  pub pieces : HasPieces engine generation number sent

fresh_step : (tail : Tail) (generation number : ℕ) (bytes : List ℕ) (e n : Engine) → e.tail ≡ Some tail → IsSame n (after e (Fresh tail generation number bytes)) → IsSame n (effect (Fresh tail generation number bytes) e)
fresh_step tail generation number bytes e n has same =
    subst (λ (x : Engine). IsSame n x) (effect_of (Fresh tail generation number bytes) e (names tail e has)) same

fresh_stays : (tail : Tail) (generation number : ℕ) (bytes : List ℕ) (e n : Engine) → e.tail ≡ Some tail → tail.generation < generation → IsSame n (effect (Fresh tail generation number bytes) e) → text_of n ≡ text_of e
fresh_stays tail generation number bytes e n has later same =
    text_same n (effect (Fresh tail generation number bytes) e) same ∙ ap (text_by (with_piece generation number bytes e.piece)) has
    ∙ fresh_text e.piece tail generation number bytes later ∙ ap (text_by e.piece) (sym has)

pub fresh_tail : (tail : Tail) (generation number : ℕ) (bytes : List ℕ) (old new : Option Engine) → HasTail old tail → IsDone (Fresh tail generation number bytes) old new → HasTail new tail
fresh_tail tail generation number bytes None new has done = subst (λ (x : Option Engine). HasTail x tail) (sym done) tt
fresh_tail tail generation number bytes (Some e) None has done = absurd done
fresh_tail tail generation number bytes (Some e) (Some n) has done = (fresh_step tail generation number bytes e n has done).tail ∙ has

pub fresh_text_done : (tail : Tail) (generation number : ℕ) (bytes : List ℕ) (old new : Option Engine) → HasTail old tail → tail.generation < generation → IsDone (Fresh tail generation number bytes) old new → text_in new ≡ text_in old
fresh_text_done tail generation number bytes None new has later done = ap text_in done
fresh_text_done tail generation number bytes (Some e) None has later done = absurd done
fresh_text_done tail generation number bytes (Some e) (Some n) has later done =
    ap (λ (xs : List ℕ). Some xs) (fresh_stays tail generation number bytes e n has later (fresh_step tail generation number bytes e n has done))

pub fresh_text_may : (tail : Tail) (generation number : ℕ) (bytes : List ℕ) (old new : Option Engine) → HasTail old tail → tail.generation < generation → MayBeDone (Fresh tail generation number bytes) old new → text_in new ≡ text_in old
fresh_text_may tail generation number bytes None new has later may = ap text_in may
fresh_text_may tail generation number bytes (Some e) None has later may = absurd may
fresh_text_may tail generation number bytes (Some e) (Some n) has later (inl same) = ap (λ (xs : List ℕ). Some xs) (text_same n e same)
fresh_text_may tail generation number bytes (Some e) (Some n) has later (inr same) = fresh_text_done tail generation number bytes (Some e) (Some n) has later same

fresh_joined : (generation number : ℕ) (bytes : List ℕ) (piece : ℕ → ℕ → Option (List ℕ)) → joined (λ n. bytes_of (with_piece generation number bytes piece generation n)) (suc number) ≡ joined (λ n. bytes_of (piece generation n)) number ++ bytes
fresh_joined generation number bytes piece =
    ap (λ (xs : List ℕ). xs ++ bytes_of (with_piece generation number bytes piece generation number))
    (joined_same (λ n. bytes_of (with_piece generation number bytes piece generation n)) (λ n. bytes_of (piece generation n)) number
    (λ n few. ap bytes_of (with_other generation number bytes piece generation n (inr (λ same. absurd (omega (arith, few, same)))))))
    ∙ ap (λ (p : Option (List ℕ)). joined (λ n. bytes_of (piece generation n)) number ++ bytes_of p) (with_it generation number bytes piece)

pub fresh_pieces : (tail : Tail) (generation number : ℕ) (bytes : List ℕ) (old new : Option Engine) → HasTail old tail → IsDone (Fresh tail generation number bytes) old new → (sent : List ℕ) → HasPieces old generation number sent → HasPieces new generation (suc number) (sent ++ bytes)
fresh_pieces tail generation number bytes None new has done sent pieces = subst (λ (x : Option Engine). HasPieces x generation (suc number) (sent ++ bytes)) (sym done) tt
fresh_pieces tail generation number bytes (Some e) None has done sent pieces = absurd done
fresh_pieces tail generation number bytes (Some e) (Some n) has done sent pieces =
    let same : IsSame n (effect (Fresh tail generation number bytes) e) = fresh_step tail generation number bytes e n has done in
    joined_same (λ m. bytes_of (n.piece generation m)) (λ m. bytes_of (with_piece generation number bytes e.piece generation m)) (suc number) (λ m few. ap bytes_of (same.piece generation m))
    ∙ fresh_joined generation number bytes e.piece ∙ ap (λ (xs : List ℕ). xs ++ bytes) pieces

pub none_written : (bytes : List ℕ) (engine : Option Engine) (generation : ℕ) → IsWritten bytes bytes engine generation 0
none_written bytes None generation = record { sent = []; parts = refl; pieces = tt }
none_written bytes (Some e) generation = record { sent = []; parts = refl; pieces = refl }

pub more_written : (m : ℕ) (bytes rest : List ℕ) (old new : Option Engine) (generation number : ℕ) → IsWritten bytes rest old generation number
    → ((sent : List ℕ) → HasPieces old generation number sent → HasPieces new generation (suc number) (sent ++ take m rest)) → IsWritten bytes (drop m rest) new generation (number + 1)
more_written m bytes rest old new generation number had more = record {
  sent = had.sent ++ take m rest;
  parts = had.parts ∙ ap (λ (xs : List ℕ). had.sent ++ xs) (sym (take-append-drop m rest)) ∙ sym (append_assoc had.sent (take m rest) (drop m rest));
  pieces = subst (λ (k : ℕ). HasPieces new generation k (had.sent ++ take m rest)) (sym (add-one number)) (more had.sent had.pieces);
}

pub all_written : (bytes rest : List ℕ) (engine : Option Engine) (generation number : ℕ) → IsWritten bytes rest engine generation number → rest ≡ [] → HasPieces engine generation number bytes
all_written bytes rest engine generation number had none =
    let all : had.sent ≡ bytes = sym (had.parts ∙ ap (λ (xs : List ℕ). had.sent ++ xs) none ∙ append-nil had.sent) in
    subst (λ (xs : List ℕ). HasPieces engine generation number xs) all had.pieces

-- ---- it takes the place

place_of : (tail : Tail) (generation count : ℕ) (e n : Engine) → e.tail ≡ Some tail → IsSame n (after e (Place tail generation count))
    → (n.tail ≡ Some (placed tail generation count)) × (text_of n ≡ joined (λ m. bytes_of (e.piece generation m)) count)
place_of tail generation count e n has same =
    let step : after e (Place tail generation count) ≡ effect (Place tail generation count) e = effect_of (Place tail generation count) e (names tail e has) in
    (same.tail ∙ ap (λ (x : Engine). x.tail) step, text_same n (after e (Place tail generation count)) same ∙ ap text_of step)

pub place_tail : (tail : Tail) (generation count : ℕ) (old new : Option Engine) → HasTail old tail → IsDone (Place tail generation count) old new → HasTail new (placed tail generation count)
place_tail tail generation count None new has done = subst (λ (x : Option Engine). HasTail x (placed tail generation count)) (sym done) tt
place_tail tail generation count (Some e) None has done = absurd done
place_tail tail generation count (Some e) (Some n) has done = (place_of tail generation count e n has done).0

pub place_text : (tail : Tail) (generation count : ℕ) (old new : Option Engine) → HasTail old tail → IsDone (Place tail generation count) old new
    → (bytes : List ℕ) → HasPieces old generation count bytes → IfSome (text_in new) (λ text. text ≡ bytes)
place_text tail generation count None new has done bytes pieces = subst (λ (x : Option Engine). IfSome (text_in x) (λ text. text ≡ bytes)) (sym done) tt
place_text tail generation count (Some e) None has done bytes pieces = absurd done
place_text tail generation count (Some e) (Some n) has done bytes pieces = (place_of tail generation count e n has done).1 ∙ pieces

pub place_either : (tail : Tail) (generation count : ℕ) (old new : Option Engine) → HasTail old tail → MayBeDone (Place tail generation count) old new
    → (bytes : List ℕ) → HasPieces old generation count bytes → MayHaveJust (text_in old) (text_in new) bytes
place_either tail generation count None new has may bytes pieces = inl (ap text_in may)
place_either tail generation count (Some e) None has may bytes pieces = absurd may
place_either tail generation count (Some e) (Some n) has (inl same) bytes pieces = inl (ap (λ (xs : List ℕ). Some xs) (text_same n e same))
place_either tail generation count (Some e) (Some n) has (inr same) bytes pieces = inr (place_text tail generation count (Some e) (Some n) has same bytes pieces)

-- ---- the older ones go

drop_of : (tail : Tail) (e n : Engine) → e.tail ≡ Some tail → IsSame n (after e (Drop tail)) → (n.tail ≡ Some tail) × (text_of n ≡ text_of e)
drop_of tail e n has same =
    let step : after e (Drop tail) ≡ effect (Drop tail) e = effect_of (Drop tail) e (names tail e has) in (
      same.tail ∙ ap (λ (x : Engine). x.tail) step ∙ has,
      text_same n (after e (Drop tail)) same ∙ ap text_of step ∙ ap (text_by (effect (Drop tail) e).piece) has ∙ drop_text e.piece tail ∙ ap (text_by e.piece) (sym has),
    )

drop_either : (tail : Tail) (e n : Engine) → e.tail ≡ Some tail → IsSame n e ⊎ IsSame n (after e (Drop tail)) → (n.tail ≡ Some tail) × (text_of n ≡ text_of e)
drop_either tail e n has (inl same) = (same.tail ∙ has, text_same n e same)
drop_either tail e n has (inr same) = drop_of tail e n has same

pub drop_tail : (tail : Tail) (old new : Option Engine) → HasTail old tail → MayBeDone (Drop tail) old new → HasTail new tail
drop_tail tail None new has may = subst (λ (x : Option Engine). HasTail x tail) (sym may) tt
drop_tail tail (Some e) None has may = absurd may
drop_tail tail (Some e) (Some n) has may = (drop_either tail e n has may).0

pub drop_text_may : (tail : Tail) (old new : Option Engine) → HasTail old tail → MayBeDone (Drop tail) old new → text_in new ≡ text_in old
drop_text_may tail None new has may = ap text_in may
drop_text_may tail (Some e) None has may = absurd may
drop_text_may tail (Some e) (Some n) has may = ap (λ (xs : List ℕ). Some xs) (drop_either tail e n has may).1
