-- Which record has which role, and that each of them is a client's.
use Rattle.std.proofs.Common.{◌≡◌, ℕ, ◌+◌, ◌-◌, ◌*◌, ◌/◌, ◌%◌, ◌≤◌, ◌<◌, inl, inr, refl, ◌∙◌, ap, subst, arith}
use Rattle.std.proofs.Math.Nat.{div-lt_iff_lt-mul, mod-lt}
use Rattle.std.proofs.lemmas.Bool.{cases_lt, ne_eqb}
use Rattle.std.proofs.lemmas.Nat.{div-add-mod', div-mul-add, mod-mul-add}
use Rattle.arena.specs.Place.{IsRecord}
use Rattle.arena.specs.Shape.{Shape, owner, record_of}
use Rattle.arena.proofs.Facts.{in_block}
use Rattle.renewal.specs.Roles.{first_record, item_record, role_by, role_of, second_record, used_for}
use Rattle.renewal.specs.Words.{FitFresh}
use Rattle.renewal.specs.declared.role.Role.TheVariants.{First, Second, Item}

-- each client has two records at least
pub two_records : (s : Shape) (count : ℕ) → 1 ≤ s.clients → FitFresh s count → 2 ≤ s.records
two_records s count some room = elim (cases_lt s.records 2) [
  | inr two ↦ two
  | inl few ↦ elim (cases_lt s.records 1) [
    | inl none ↦
        let z : s.records ≡ 0 = omega (arith, none) in
        let at : count + 2 * s.clients ≤ s.clients * 0 = subst (λ (k : ℕ). count + 2 * s.clients ≤ s.clients * k) z room in
        absurd (omega (arith, at, some))
    | inr one ↦
        let e : s.records ≡ 1 = omega (arith, few, one) in
        let at : count + 2 * s.clients ≤ s.clients * 1 = subst (λ (k : ℕ). count + 2 * s.clients ≤ s.clients * k) e room in
        absurd (omega (arith, at, some))
  ]
]

module _ (s : Shape) where
  -- a record's owner, and which of the owner's it is
  pub owner_of : (t used : ℕ) → used < s.records → owner s (record_of s t used) ≡ t
  owner_of t used below =
      let past : record_of s t used - 1 ≡ t * s.records + used = omega arith in
      ap (λ (n : ℕ). n / s.records) past ∙ div-mul-add t s.records used below

  pub used_of : (t used : ℕ) → used < s.records → (record_of s t used - 1) % s.records ≡ used
  used_of t used below =
      let past : record_of s t used - 1 ≡ t * s.records + used = omega arith in
      ap (λ (n : ℕ). n % s.records) past ∙ mod-mul-add t s.records used below

  pub record_again : (n : ℕ) → 1 ≤ n → n ≡ record_of s (owner s n) ((n - 1) % s.records)
  record_again n some =
      let whole : (n - 1) / s.records * s.records + (n - 1) % s.records ≡ n - 1 = div-add-mod' (n - 1) s.records in
      omega (arith, whole, some)

  pub is_record : (t used : ℕ) → t < s.clients → used < s.records → IsRecord s (record_of s t used)
  is_record t used client below =
      let last : t * s.records + used < s.clients * s.records = in_block s.records t s.clients used client below in
      (omega arith, omega (arith, last))

  -- its role
  pub role_at : (t used : ℕ) → used < s.records → role_of s (record_of s t used) ≡ role_by s t used
  role_at t used below =
      rw (ne_eqb (record_of s t used) 0 (λ z. omega (arith, z)))
      (ap (λ (o : ℕ). role_by s o ((record_of s t used - 1) % s.records)) (owner_of t used below)
      ∙ ap (role_by s t) (used_of t used below))

  pub role_first : (t : ℕ) → 2 ≤ s.records → role_of s (first_record s t) ≡ First (record { 0 = t })
  role_first t two = role_at t 0 (omega (arith, two))

  pub role_second : (t : ℕ) → 2 ≤ s.records → role_of s (second_record s t) ≡ Second (record { 0 = t })
  role_second t two = role_at t 1 (omega (arith, two))

  pub role_third : (t used : ℕ) → 2 ≤ used → used < s.records → role_of s (record_of s t used) ≡ Item ((used - 2) * s.clients + t)
  role_third t used third below = role_at t used below ∙ rw (ne_eqb used 0 (λ z. omega (arith, z, third)), ne_eqb used 1 (λ z. omega (arith, z, third))) refl

  -- items are dealt out in turn
  module _ (count : ℕ) (some : 1 ≤ s.clients) (room : FitFresh s count) where
    pub turn_fits : (at : ℕ) → at < count → 2 + at / s.clients < s.records
    turn_fits at below =
        let two : 2 ≤ s.records = two_records s count some room in
        let all : (s.records - 2) * s.clients + 2 * s.clients ≡ s.clients * s.records = spread (s.records - 2) s.records (omega (arith, two)) in
        let few : at < (s.records - 2) * s.clients = omega (arith, all, room, below) in
        let turn : at / s.clients < s.records - 2 = (div-lt_iff_lt-mul {k = s.clients} {x = at} {y = s.records - 2} some).1 few in
        omega (arith, turn, two)
      where
        spread : (less k : ℕ) → less + 2 ≡ k → less * s.clients + 2 * s.clients ≡ s.clients * k
        spread less k e = subst (λ (n : ℕ). less * s.clients + 2 * s.clients ≡ s.clients * n) e (grind arith)

    pub role_item : (at : ℕ) → at < count → role_of s (item_record s at) ≡ Item at
    role_item at below =
        let turn : 2 + at / s.clients < s.records = turn_fits at below in
        let again : at / s.clients * s.clients + at % s.clients ≡ at = div-add-mod' at s.clients in
        let less : 2 + at / s.clients - 2 ≡ at / s.clients = omega arith in
        role_third (at % s.clients) (2 + at / s.clients) (omega arith) turn
        ∙ ap (λ (q : ℕ). Item (q * s.clients + at % s.clients)) less ∙ ap (λ (q : ℕ). Item q) again

    pub item_client : (at : ℕ) → at % s.clients < s.clients
    item_client at = mod-lt at (omega (arith, some))

    -- a client has used its first two records, and those of its items, and no others
    pub item_used : (at : ℕ) → at < count → 2 + at / s.clients < used_for s count (at % s.clients)
    item_used at below =
        let client : at % s.clients < s.clients = item_client at in
        let again : at / s.clients * s.clients + at % s.clients ≡ at = div-add-mod' at s.clients in
        let more : (at / s.clients + 1) * s.clients ≡ at / s.clients * s.clients + s.clients = grind arith in
        let reach : (at / s.clients + 1) * s.clients ≤ count + (s.clients - 1 - at % s.clients) = omega (arith, client, again, more, below) in
        let turns : at / s.clients + 1 ≤ (count + (s.clients - 1 - at % s.clients)) / s.clients = least (at / s.clients + 1) (count + (s.clients - 1 - at % s.clients)) reach in
        omega (arith, turns)
      where
        least : (q x : ℕ) → q * s.clients ≤ x → q ≤ x / s.clients
        least q x h = elim (cases_lt (x / s.clients) q) [
          | inr le ↦ le
          | inl lt ↦ let up : x < q * s.clients = (div-lt_iff_lt-mul {k = s.clients} {x = x} {y = q} some).0 lt in absurd (omega (arith, up, h))
        ]

    pub unused_item : (t used : ℕ) → t < s.clients → used_for s count t ≤ used → count ≤ (used - 2) * s.clients + t
    unused_item t used client past =
        let turn : (count + (s.clients - 1 - t)) / s.clients < used - 1 = omega (arith, past) in
        let up : count + (s.clients - 1 - t) < (used - 1) * s.clients = (div-lt_iff_lt-mul {k = s.clients} {x = count + (s.clients - 1 - t)} {y = used - 1} some).0 turn in
        let more : (used - 1) * s.clients ≡ (used - 2) * s.clients + s.clients = next_turn (used - 2) (used - 1) (omega (arith, past)) in
        omega (arith, up, more, client)
      where
        next_turn : (less k : ℕ) → less + 1 ≡ k → k * s.clients ≡ less * s.clients + s.clients
        next_turn less k e = subst (λ (n : ℕ). n * s.clients ≡ less * s.clients + s.clients) e (grind arith)

    pub used_within : (t : ℕ) → t < s.clients → used_for s count t ≤ s.records
    used_within t client =
        let two : 2 ≤ s.records = two_records s count some room in
        let all : (s.records - 1) * s.clients + s.clients ≡ s.clients * s.records = spread (s.records - 1) s.records (omega (arith, two)) in
        let few : count + (s.clients - 1 - t) < (s.records - 1) * s.clients = omega (arith, all, room, client) in
        let turn : (count + (s.clients - 1 - t)) / s.clients < s.records - 1 = (div-lt_iff_lt-mul {k = s.clients} {x = count + (s.clients - 1 - t)} {y = s.records - 1} some).1 few in
        omega (arith, turn, two)
      where
        spread : (less k : ℕ) → less + 1 ≡ k → less * s.clients + s.clients ≡ s.clients * k
        spread less k e = subst (λ (n : ℕ). less * s.clients + s.clients ≡ s.clients * n) e (grind arith)
