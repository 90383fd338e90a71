-- Each place of a broker has a word of its own below the size, and each word below it is some place's.
use Rattle.std.proofs.Common.{◌≡◌, ℕ, ◌+◌, ◌*◌, ◌-◌, ◌/◌, ◌%◌, ◌<◌, ◌≤◌, ◌⊎◌, inl, inr, Option, Some, refl, sym, ap, ◌∙◌, subst, arith}
use Rattle.std.specs.Prelude.{MatchOption}
use Rattle.std.proofs.Math.Nat.{mul-le-mul_right, mod-lt, div-lt_iff_lt-mul}
use Rattle.std.proofs.lemmas.Nat.{div-mul-add, mod-mul-add, div-add-mod'}
use Rattle.std.proofs.lemmas.Bool.{cases_lt}
use Rattle.std.proofs.lemmas.Bool.Decides.{nat_tests}
use Rattle.words.specs.declared.call.Kind.{Kind}
use Rattle.words.specs.declared.call.Kind.TheVariants.{Durable, Log}
use Rattle.arena.specs.Shape.{Counts, shape_of}
use Rattle.arena.specs.Layout.{size_in, size_of}
use Rattle.arena.specs.Broker.{block_size_of, block_place, broker_size, broker_word, broker_place, IsBrokerPlace}
use Rattle.arena.specs.declared.broker.BrokerPlace.{BrokerPlace}
use Rattle.arena.specs.declared.broker.BrokerPlace.TheVariants.{Clients, Records, FirstName, SecondName, QueueKind, Gate, Block}

-- a block has room for a queue of either kind
pub queue_fits : (kind : Kind) (c : Counts) → size_of (shape_of kind c) ≤ block_size_of c.clients c.records
unfolding size_in
queue_fits Durable c = omega arith
queue_fits Log c = omega arith

-- blocks of so many words in a row
module _ (size : ℕ) where
  pub block_ends : (slot slots : ℕ) → slot < slots → slot * size + size ≤ slots * size
  block_ends slot slots h =
      let one_more : (slot + 1) * size ≡ slot * size + size = grind arith in
      let least : (slot + 1) * size ≤ slots * size = mul-le-mul_right size (omega arith) in
      omega arith

  pub in_block : (slot slots word : ℕ) → slot < slots → word < size → slot * size + word < slots * size
  in_block slot slots word h below = omega (arith, block_ends slot slots h)

  pub slot_of : (slots w : ℕ) → w < slots * size → w / size < slots
  slot_of slots w h = go (cases_lt 0 size)
    where
      go : (0 < size) ⊎ (size ≤ 0) → w / size < slots
      go (inl some) = (div-lt_iff_lt-mul some).1 h
      go (inr none) =
          let zero : size ≡ 0 = omega arith in
          absurd (let none_at_all : w < slots * 0 = subst (λ (n : ℕ). w < slots * n) zero h in omega arith)

pub broker_below : (c : Counts) (p : BrokerPlace) → IsBrokerPlace c p → broker_word c p < broker_size c
broker_below c Clients h = omega arith
broker_below c Records h = omega arith
broker_below c (FirstName slot) h = omega arith
broker_below c (SecondName slot) h = omega arith
broker_below c (QueueKind slot) h = omega arith
broker_below c (Gate slot) h = omega arith
broker_below c (Block slot word) h = omega (arith, in_block (block_size_of c.clients c.records) slot.0 8 word h.0 h.1)

-- the words past the head and the directory are those of blocks
in_blocks : (c : Counts) (w : ℕ) → 34 ≤ w → w < broker_size c
    → broker_place c w ≡ Some (block_place ((w - 34) / block_size_of c.clients c.records) ((w - 34) % block_size_of c.clients c.records))
in_blocks c w past below = grind (arith, nat_tests)

pub broker_own : (c : Counts) (p : BrokerPlace) → IsBrokerPlace c p → broker_place c (broker_word c p) ≡ Some p
broker_own c Clients h = grind (arith, nat_tests)
broker_own c Records h = grind (arith, nat_tests)
broker_own c (FirstName slot) h = grind (arith, nat_tests)
broker_own c (SecondName slot) h = grind (arith, nat_tests)
broker_own c (QueueKind slot) h = grind (arith, nat_tests)
broker_own c (Gate slot) h = grind (arith, nat_tests)
broker_own c (Block slot word) h =
    let size : ℕ = block_size_of c.clients c.records in
    let at : ℕ = broker_word c (Block slot word) in
    let past : at - 34 ≡ slot.0 * size + word = omega arith in
    let slots : (at - 34) / size ≡ slot.0 = ap (λ (n : ℕ). n / size) past ∙ div-mul-add slot.0 size word h.1 in
    let words : (at - 34) % size ≡ word = ap (λ (n : ℕ). n % size) past ∙ mod-mul-add slot.0 size word h.1 in
    in_blocks c at (omega arith) (broker_below c (Block slot word) h) ∙ rw (slots, words) refl

-- a word past the head and the directory is that of its block
back : (c : Counts) (w : ℕ) → 34 ≤ w → w < broker_size c → (let p = block_place ((w - 34) / block_size_of c.clients c.records) ((w - 34) % block_size_of c.clients c.records) in IsBrokerPlace c p × (broker_word c p ≡ w))
back c w past below =
    let size : ℕ = block_size_of c.clients c.records in
    let slot : (w - 34) / size < 8 = slot_of size 8 (w - 34) (omega arith) in
    let whole : (w - 34) / size * size + (w - 34) % size ≡ w - 34 = div-add-mod' (w - 34) size in
    ((slot, mod-lt (w - 34) (omega arith)), omega arith)

pub broker_named : (c : Counts) (w : ℕ) → MatchOption (broker_place c w) (broker_size c ≤ w) (λ p. IsBrokerPlace c p × (broker_word c p ≡ w))
broker_named c w = go (cases_lt w 34) (cases_lt w (broker_size c))
  where
    go : (w < 34) ⊎ (34 ≤ w) → (w < broker_size c) ⊎ (broker_size c ≤ w) → MatchOption (broker_place c w) (broker_size c ≤ w) (λ p. IsBrokerPlace c p × (broker_word c p ≡ w))
    go (inl low) either = grind (arith, nat_tests)
    go (inr past) (inr far) = grind (arith, nat_tests)
    go (inr past) (inl below) = subst (λ (o : Option BrokerPlace). MatchOption o (broker_size c ≤ w) (λ p. IsBrokerPlace c p × (broker_word c p ≡ w))) (sym (in_blocks c w past below)) (back c w past below)
