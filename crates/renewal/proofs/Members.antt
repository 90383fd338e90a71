-- Who is on the chain of a renewed queue, and that its links walk the chain.
use Rattle.std.proofs.Common.{◌≡◌, ℕ, ◌+◌, ◌-◌, ◌*◌, ◌/◌, ◌%◌, ◌≤◌, ◌<◌, inl, inr, true, ◌∷◌, length, filter, refl, sym, ◌∙◌, ap, subst, arith}
use Rattle.std.specs.List.{range_with_len}
use Rattle.std.proofs.lemmas.Bool.{cases_eq, cases_lt}
use Rattle.std.proofs.lemmas.List.{length-append, length-map}
use Rattle.std.proofs.lemmas.List.FromFn.{length-map-range_with_len, length-range_with_len}
use Rattle.arena.specs.Chain.{IsAmong, IsChain}
use Rattle.arena.specs.Content.{chain_of}
use Rattle.arena.specs.Place.{IsRecord}
use Rattle.arena.specs.Shape.{Shape, greatest, owner, record_of}
use Rattle.arena.specs.Words.{links}
use Rattle.arena.specs.declared.place.Place.{Place}
use Rattle.arena.proofs.Facts.{Distinct}
use Rattle.sound_words.specs.Sound.{IsIssued}
use Rattle.sound_words.proofs.Facts.{owner_below}
use Rattle.renewal.specs.Renewal.{Renewal}
use Rattle.renewal.specs.Renewed.{chain, has_node, removed, renewed, waiting}
use Rattle.renewal.specs.Roles.{first_record, item_record, role_of, second_record, used_for}
use Rattle.renewal.specs.Words.{MayBeRenewed}
use Rattle.renewal.specs.declared.role.Role.{Role}
use Rattle.renewal.specs.declared.role.Role.TheVariants.{First, Second, Item}
use Rattle.renewal.proofs.Lists.{filter_has, filter_short, in_filter, in_map, in_parts, in_range, map_distinct, map_has}
use Rattle.renewal.proofs.Lists.{part_distinct, parts_distinct, range_distinct, range_has}
use Rattle.renewal.proofs.Chained.{chain_walked, chained}
use Rattle.renewal.proofs.Roles.{is_record, item_client, item_used, owner_of, record_again, role_first, role_item}
use Rattle.renewal.proofs.Roles.{role_second, role_third, two_records, used_within}

-- the node of a call that a client was told of, and the one of an item
pub record IsRemoved (r : Renewal) (n : ℕ) : Type 0 where
  pub client : ℕ
  pub in_range : client < r.shape.clients
  pub node : has_node r client ≡ true
  pub is : n ≡ first_record r.shape client

pub record IsWaiting (r : Renewal) (n : ℕ) : Type 0 where
  pub at : ℕ
  pub in_range : at < length r.content
  pub is : n ≡ item_record r.shape at

-- what a record is for
pub data RoleOf (r : Renewal) (n : ℕ) : Type 0 where
  for_node : (t : ℕ) → t < r.shape.clients → n ≡ first_record r.shape t → role_of r.shape n ≡ First (record { 0 = t }) → RoleOf r n
  for_answer : (t : ℕ) → t < r.shape.clients → n ≡ second_record r.shape t → role_of r.shape n ≡ Second (record { 0 = t }) → RoleOf r n
  for_item : (t used : ℕ) → t < r.shape.clients → used < r.shape.records → 2 ≤ used → n ≡ record_of r.shape t used
      → role_of r.shape n ≡ Item ((used - 2) * r.shape.clients + t) → RoleOf r n

module _ (r : Renewal) (h : MayBeRenewed r) where
  abbrev s : Shape
  s = r.shape

  abbrev m : ℕ
  m = length r.content

  abbrev l : Place → ℕ
  l = renewed r

  pub two : 2 ≤ s.records
  two = two_records s m h.counts.some_client h.room

  pub role_is : (n : ℕ) → IsRecord s n → RoleOf r n
  role_is n i =
      let owned : owner s n < s.clients = owner_below s n i in
      let again : n ≡ record_of s (owner s n) ((n - 1) % s.records) = record_again s n i.0 in
      let below : (n - 1) % s.records < s.records = omega (arith, two) in
      go owned ((n - 1) % s.records) again below
    where
      go : owner s n < s.clients → (used : ℕ) → n ≡ record_of s (owner s n) used → used < s.records → RoleOf r n
      go owned used again below = elim (cases_lt used 2) [
        | inr third ↦ for_item (owner s n) used owned below third again (ap (role_of s) again ∙ role_third s (owner s n) used third below)
        | inl few ↦ elim (cases_eq used 0) [
          | inl z ↦
              let first : n ≡ first_record s (owner s n) = again ∙ ap (record_of s (owner s n)) z in
              for_node (owner s n) owned first (ap (role_of s) first ∙ role_first s (owner s n) two)
          | inr some ↦
              let one : used ≡ 1 = omega (arith, few, some) in
              let second : n ≡ second_record s (owner s n) = again ∙ ap (record_of s (owner s n)) one in
              for_answer (owner s n) owned second (ap (role_of s) second ∙ role_second s (owner s n) two)
        ]
      ]

  -- the two parts of the chain
  pub on_removed : (n : ℕ) → IsAmong n (removed r) → IsRemoved r n
  on_removed n i =
      let q : (t : ℕ) × IsAmong t (filter (has_node r) (range_with_len 0 s.clients)) × (n ≡ first_record s t) =
      in_map (first_record s) n (filter (has_node r) (range_with_len 0 s.clients)) i in
      let kept : IsAmong q.0 (range_with_len 0 s.clients) × (has_node r q.0 ≡ true) = in_filter (has_node r) q.0 (range_with_len 0 s.clients) q.1 in
      let below : (0 ≤ q.0) × (q.0 < 0 + s.clients) = in_range q.0 0 s.clients kept.0 in
      record { client = q.0; in_range = omega (arith, below.1); node = kept.1; is = q.2 }

  pub removed_on : (t : ℕ) → t < s.clients → has_node r t ≡ true → IsAmong (first_record s t) (removed r)
  removed_on t client node =
      map_has (first_record s) t (filter (has_node r) (range_with_len 0 s.clients))
      (filter_has (has_node r) t (range_with_len 0 s.clients) (range_has t 0 s.clients (omega arith) (omega (arith, client))) node)

  pub on_waiting : (n : ℕ) → IsAmong n (waiting r) → IsWaiting r n
  on_waiting n i =
      let q : (at : ℕ) × IsAmong at (range_with_len 0 m) × (n ≡ item_record s at) = in_map (item_record s) n (range_with_len 0 m) i in
      let below : (0 ≤ q.0) × (q.0 < 0 + m) = in_range q.0 0 m q.1 in
      record { at = q.0; in_range = omega (arith, below.1); is = q.2 }

  pub waiting_on : (at : ℕ) → at < m → IsAmong (item_record s at) (waiting r)
  waiting_on at below = map_has (item_record s) at (range_with_len 0 m) (range_has at 0 m (omega arith) (omega (arith, below)))

  -- roles of chain nodes
  pub role_removed : (n : ℕ) → (q : IsRemoved r n) → role_of s n ≡ First (record { 0 = q.client })
  role_removed n q = ap (role_of s) q.is ∙ role_first s q.client two

  pub role_waiting : (n : ℕ) → (q : IsWaiting r n) → role_of s n ≡ Item q.at
  role_waiting n q = ap (role_of s) q.is ∙ role_item s m h.counts.some_client h.room q.at q.in_range

  -- used records
  pub issued_by : (t used : ℕ) → t < s.clients → used < used_for s m t → IsIssued s l (record_of s t used)
  issued_by t used client below =
      let within : used_for s m t ≤ s.records = used_within s m h.counts.some_client h.room t client in
      let fits : used < s.records = omega (arith, below, within) in
      let own : owner s (record_of s t used) ≡ t = owner_of s t used fits in
      record {
        is_record = is_record s t used client fits;
        used = subst (λ (o : ℕ). record_of s t used < record_of s o (used_for s m o)) (sym own) (omega (arith, below));
      }

  pub first_issued : (t : ℕ) → t < s.clients → IsIssued s l (first_record s t)
  first_issued t client = issued_by t 0 client (omega arith)

  pub second_issued : (t : ℕ) → t < s.clients → IsIssued s l (second_record s t)
  second_issued t client = issued_by t 1 client (omega arith)

  pub removed_issued : (n : ℕ) → IsRemoved r n → IsIssued s l n
  removed_issued n q = subst (IsIssued s l) (sym q.is) (first_issued q.client q.in_range)

  pub waiting_issued : (n : ℕ) → IsWaiting r n → IsIssued s l n
  waiting_issued n q =
      subst (IsIssued s l) (sym q.is)
      (issued_by (q.at % s.clients) (2 + q.at / s.clients) (item_client s m h.counts.some_client h.room q.at) (item_used s m h.counts.some_client h.room q.at q.in_range))

  -- none of them is there twice
  roles_apart : (n : ℕ) → IsAmong n (removed r) → IsAmong n (waiting r) → ⊥
  roles_apart n i j =
      let first : role_of s n ≡ First (record { 0 = (on_removed n i).client }) = role_removed n (on_removed n i) in
      let item : role_of s n ≡ Item (on_waiting n j).at = role_waiting n (on_waiting n j) in
      cc

  first_own : (t u : ℕ) → first_record s t ≡ first_record s u → t ≡ u
  first_own t u e = sym (owner_of s t 0 (omega (arith, two))) ∙ ap (owner s) e ∙ owner_of s u 0 (omega (arith, two))

  same_item : (x y : ℕ) → ◌≡◌ {A = Role} (Item x) (Item y) → x ≡ y
  same_item x y e = cc

  item_own : (x y : ℕ) → IsAmong x (range_with_len 0 m) → IsAmong y (range_with_len 0 m) → item_record s x ≡ item_record s y → x ≡ y
  item_own x y i j e =
      let below_x : (0 ≤ x) × (x < 0 + m) = in_range x 0 m i in
      let below_y : (0 ≤ y) × (y < 0 + m) = in_range y 0 m j in
      same_item x y (sym (role_item s m h.counts.some_client h.room x (omega (arith, below_x.1))) ∙ ap (role_of s) e ∙ role_item s m h.counts.some_client h.room y (omega (arith, below_y.1)))

  removed_distinct : Distinct (removed r)
  removed_distinct = map_distinct (first_record s) (filter (has_node r) (range_with_len 0 s.clients)) (λ t u i j e. first_own t u e) (part_distinct (has_node r) 0 s.clients)

  waiting_distinct : Distinct (waiting r)
  waiting_distinct = map_distinct (item_record s) (range_with_len 0 m) item_own (range_distinct 0 m)

  pub is_linked_node : (n : ℕ) → IsAmong n (chain r) → IsRecord s n
  is_linked_node n i = elim (in_parts n (removed r) (waiting r) i) [
    | inl a ↦ (removed_issued n (on_removed n a)).is_record
    | inr b ↦ (waiting_issued n (on_waiting n b)).is_record
  ]

  pub no_sentinel : IsAmong 0 (chain r) → ⊥
  no_sentinel i = let some : IsRecord s 0 = is_linked_node 0 i in omega (arith, some.0)

  pub chain_distinct : Distinct (0 ∷ chain r)
  chain_distinct = (no_sentinel, parts_distinct (removed r) (waiting r) removed_distinct waiting_distinct roles_apart)

  -- the links walk it
  pub ends : IsChain (links l) 0 (chain r)
  ends = chained (links l) 0 (chain r) chain_distinct no_sentinel (λ n i. refl)

  short : length (chain r) ≤ greatest s
  short =
      let whole : length (chain r) ≡ length (removed r) + length (waiting r) = length-append (removed r) (waiting r) in
      let items : length (waiting r) ≡ m = length-map-range_with_len (item_record s) 0 m in
      let some : length (removed r) ≡ length (filter (has_node r) (range_with_len 0 s.clients)) = length-map (filter (has_node r) (range_with_len 0 s.clients)) (first_record s) in
      let most : length (filter (has_node r) (range_with_len 0 s.clients)) ≤ length (range_with_len 0 s.clients) = filter_short (has_node r) (range_with_len 0 s.clients) in
      let all : length (range_with_len 0 s.clients) ≡ s.clients = length-range_with_len 0 s.clients in
      let room : m + 2 * s.clients ≤ greatest s = h.room in
      omega (arith, whole, items, some, most, all, room)

  pub chain_is : chain_of s l ≡ chain r
  chain_is = chain_walked (links l) (greatest s) 0 (chain r) ends short
