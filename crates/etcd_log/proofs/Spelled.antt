-- Whether bytes are a tail's text.
use Rattle.std.proofs.Common.{◌≡◌, ◌≢◌, ◌<◌, ◌^◌, ℕ, Bool, true, false, true≢false, List, Option, Some, None, Vec, Global, is_some, refl, sym, ap, ◌∙◌, subst}
use Rattle.std.specs.Prelude.{◌↔◌, IfSome, IsTrue, bytes_eq}
use Rattle.std.proofs.lemmas.Slice.Eq.{bytes_eq-Decides}
use Rattle.fenced.specs.Engine.{Engine, Tail as Said}
use Rattle.fenced.proofs.Facts.{same_fields}
use Rattle.etcd_text.specs.declared.tail.Tail.{Tail}
use Rattle.etcd_text.specs.Tails.{Fits, IsNoTail, IsTailOf, said_by, spelled}
use Rattle.etcd_text.proofs.Facts.{one_spelling}
use Rattle.etcd_log.specs.Asking.{FindsTail, IsTailText}

fits : (generation count : ℕ) (owner : List ℕ) → generation < 2 ^ 64 → count < 2 ^ 64 → Fits (record { generation = generation; count = count; owner = owner })
fits generation count owner one other = record { generation = one; count = other }

pub none_spelled : (bytes : List ℕ) (generation count : ℕ) (owner : List ℕ) → generation < 2 ^ 64 → count < 2 ^ 64 → IsNoTail bytes
    → IsTrue false ↔ (bytes ≡ spelled (record { generation = generation; count = count; owner = owner }))
none_spelled bytes generation count owner one other none =
    (λ never. absurd cc, λ is. absurd (none (record { generation = generation; count = count; owner = owner }) (fits generation count owner one other) is))

is_other : (bytes : List ℕ) (tail : Tail) (said : Said) → Fits said → IsTailOf bytes tail → bytes ≡ spelled said → said_by tail ≡ said
is_other bytes tail said fit is same = one_spelling (said_by tail) said is.fits fit (sym is.text ∙ same)

pub generation_differs : (bytes : List ℕ) (tail : Tail) (generation count : ℕ) (owner : List ℕ) → generation < 2 ^ 64 → count < 2 ^ 64 → IsTailOf bytes tail → tail.generation ≢ generation
    → IsTrue false ↔ (bytes ≡ spelled (record { generation = generation; count = count; owner = owner }))
generation_differs bytes tail generation count owner one other is apart = (
  λ never. absurd cc,
  λ same. absurd (apart (ap (λ (s : Said). s.generation) (is_other bytes tail (record { generation = generation; count = count; owner = owner }) (fits generation count owner one other) is same))),
)

pub count_differs : (bytes : List ℕ) (tail : Tail) (generation count : ℕ) (owner : List ℕ) → generation < 2 ^ 64 → count < 2 ^ 64 → IsTailOf bytes tail → tail.count ≢ count
    → IsTrue false ↔ (bytes ≡ spelled (record { generation = generation; count = count; owner = owner }))
count_differs bytes tail generation count owner one other is apart = (
  λ never. absurd cc,
  λ same. absurd (apart (ap (λ (s : Said). s.count) (is_other bytes tail (record { generation = generation; count = count; owner = owner }) (fits generation count owner one other) is same))),
)

pub by_owner : (bytes : List ℕ) (tail : Tail) (generation count : ℕ) (owner : List ℕ) (same_owner : Bool) → generation < 2 ^ 64 → count < 2 ^ 64 → IsTailOf bytes tail → tail.generation ≡ generation → tail.count ≡ count
    → same_owner ≡ bytes_eq tail.owner.now owner → IsTrue same_owner ↔ (bytes ≡ spelled (record { generation = generation; count = count; owner = owner }))
by_owner bytes tail generation count owner same_owner one other is first second answer =
    let said : Said = record { generation = generation; count = count; owner = owner } in (
      λ yes_same.
          let owners : tail.owner.now ≡ owner = (bytes_eq-Decides tail.owner.now owner).0 (sym answer ∙ yes_same) in
          is.text ∙ ap spelled (same_fields (said_by tail) (record { generation = generation; count = count; owner = owner }) first second owners),
      λ same.
          answer ∙ (bytes_eq-Decides tail.owner.now owner).1
          (ap (λ (s : Said). s.owner) (is_other bytes tail (record { generation = generation; count = count; owner = owner }) (fits generation count owner one other) is same)),
    )

-- the tail whose text was found is the one that spells so
text_found : (tail : Option Said) (bytes : Vec ℕ Global) (said : Said) → Fits said → IsTailText tail (Some bytes)
    → bytes.items ≡ spelled said → tail ≡ Some said
text_found None bytes said fit told same =
    let never : true ≡ false = ap is_some told in absurd (true≢false never)
text_found (Some tail) bytes said fit told same = ap Some (one_spelling tail said told.1 fit (sym told.0 ∙ same))

of_text_found : (engine : Option Engine) (bytes : Vec ℕ Global) (said : Said) → Fits said → FindsTail engine (Some bytes)
    → bytes.items ≡ spelled said → IfSome engine (λ e. e.tail ≡ Some said)
of_text_found None bytes said fit told same = tt
of_text_found (Some e) bytes said fit told same = text_found e.tail bytes said fit told same

pub tail_found : (engine : Option Engine) (found : Option (Vec ℕ Global)) (bytes : Vec ℕ Global) (generation count : ℕ) (owner : List ℕ)
    → generation < 2 ^ 64 → count < 2 ^ 64 → FindsTail engine found → found ≡ Some bytes
    → bytes.items ≡ spelled (record { generation = generation; count = count; owner = owner })
    → IfSome engine (λ e. e.tail ≡ Some (record { generation = generation; count = count; owner = owner }))
tail_found engine found bytes generation count owner one other told is same =
    of_text_found engine bytes (record { generation = generation; count = count; owner = owner }) (fits generation count owner one other)
    (subst (λ (o : Option (Vec ℕ Global)). FindsTail engine o) is told) same
