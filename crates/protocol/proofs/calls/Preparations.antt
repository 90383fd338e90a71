-- What a preparation writes.
use Rattle.std.proofs.Common.{◌≡◌, ℕ, zero, suc, ◌+◌, ◌*◌, ◌≤◌, ◌<◌, inl, inr, Some, None, length, refl, sym, ◌∙◌, ap, subst, arith}
use Rattle.std.specs.Prelude.{slice_get}
use Rattle.std.proofs.lemmas.Option.{slice_get_within, slice_get_cases}
use Rattle.arena.specs.declared.place.Part.{Part}
use Rattle.arena.specs.declared.place.Part.TheVariants.{Length, First, Second, Third}
use Rattle.words.specs.PlainQueue.{Value, FitsValue}
use Rattle.words.specs.declared.call.Call.{Call}
use Rattle.words.specs.declared.call.Call.TheVariants.{Enq, Deq}
use Rattle.words.specs.declared.call.Kind.{Kind}
use Rattle.words.specs.declared.call.Kind.TheVariants.{Durable, Log}
use Rattle.words.specs.declared.call.NodeId.{NodeId}
use Rattle.words.specs.declared.call.Token.{Token}
use Rattle.arena.specs.Place.{number_of, part_number}
use Rattle.arena.specs.Ranges.{Fits}
use Rattle.arena.specs.Shape.{Shape, owner, record_of}
use Rattle.arena.specs.Words.{values, bumps, part_at, item_part, item_again}
use Rattle.arena.specs.declared.place.Write.{Write}
use Rattle.arena.specs.declared.place.Place.{Place}
use Rattle.arena.specs.declared.place.Place.TheVariants.{Announcement, Bump, Item, Insert, Number, EntryKind, EntryNode}
use Rattle.stepper.specs.Preparation.{preparation_of, preparation_from, part_write, bump, announcement, write, IsBegun}
use Rattle.stepper.specs.declared.prepare.Begun.{Begun}
use Rattle.protocol.specs.Machine.{Memory}
use Rattle.sound_words.specs.Sound.{IsIssued}
use Rattle.protocol.specs.invariants.Places.{IsOfRecord, IsOfKind}
use Rattle.protocol.specs.invariants.Knows.{Written, Prepared}
use Rattle.protocol.proofs.changes.Puts.{IsEmptyWord}

-- the part of the message that a call gives
abbrev pub given : Call → Part → ℕ
given (Enq v) part = item_part v part
given Deq part = 0

-- 1 for an enqueue, 2 for a dequeue
abbrev pub kind_number : Call → ℕ
kind_number (Enq v) = 1
kind_number Deq = 2

-- what a prepared record has at each of its places
abbrev pub planned : Begun → Place → ℕ
planned b (Bump t) = b.used + 1
planned b (Announcement t) = b.token.0
planned b (Item n part) = given b.call part
planned b (Number e) = b.number
planned b (EntryKind e) = kind_number b.call
planned b (EntryNode e) = b.token.0
planned b (Insert n) = b.token.0
planned b _ = 0

-- where in a preparation a place is written, and the message first of all
abbrev pub message_at : Kind → ℕ
message_at Durable = 1
message_at Log = 4

abbrev pub turn_of : Kind → Call → Place → ℕ
turn_of Durable (Enq v) (Item n part) = message_at Durable + part_number part
turn_of Durable Deq (Announcement t) = 1
turn_of Log call (Number e) = 1
turn_of Log call (EntryKind e) = 2
turn_of Log (Enq v) (EntryNode e) = 3
turn_of Log (Enq v) (Item n part) = message_at Log + part_number part
turn_of Log (Enq v) (Insert n) = 8
turn_of Log (Enq v) (Announcement t) = 9
turn_of Log Deq (Announcement t) = 3
turn_of kind call p = 0

-- the client announces its record
pub record IsLastWrite (kind : Kind) (call : Call) (b : Begun) (j : ℕ) (w : Write) (t : ℕ) : Type 0 where
  pub who : t ≡ b.client.0
  pub later : 0 < j
  pub token : w.value ≡ b.token.0
  pub last : (k : ℕ) (x : Write) → slice_get (preparation_from kind call b) k ≡ Some x → k ≤ j

-- the bump word comes first, and then words of the record alone
pub record IsPlanned (s : Shape) (kind : Kind) (call : Call) (b : Begun) (j : ℕ) (w : Write) : Type 0 where
  pub value : w.value ≡ planned b w.place
  pub turn : turn_of kind call w.place ≡ j
  pub gives : (x : NodeId) (part : Part) → w.place ≡ Item x part → record { v : Value; is : call ≡ Enq v }
  pub value_kind : (e : Token) → w.place ≡ EntryKind e → kind_number call ≡ w.value
  pub speaks : IsEmptyWord w.place → ⊥
  pub of_kind : IsOfKind kind w.place
  pub fits : Fits s w.place w.value
  pub numbered : IsOfRecord w.place → (number_of w.place ≡ b.token.0) × (0 < j)
  pub bump : (t : ℕ) → w.place ≡ Bump (record { 0 = t }) → t ≡ b.client.0
  pub after_kind : (e : Token) → w.place ≡ EntryNode e → (2 < j) × (slice_get (preparation_from kind call b) 2 ≡ Some (write (EntryKind b.token) 1))
  pub announces : (t : ℕ) → w.place ≡ Announcement (record { 0 = t }) → IsLastWrite kind call b j w t

planned_from : (s : Shape) (b : Begun) (kind : Kind) (call : Call) (j : ℕ) (w : Write) → b.call ≡ call → IsBegun s b → slice_get (preparation_from kind call b) j ≡ Some w → IsPlanned s kind call b j w
planned_from s b Durable (Enq v) zero w c g e =
    let same : bump b ≡ w = cc in
    let is : IsPlanned s Durable (Enq v) b zero (bump b) =
    record { value = refl; turn = refl; gives = λ x p q. absurd (cc); value_kind = λ x q. absurd (cc); speaks = λ r. r; of_kind = tt; fits = omega (arith, g.unused); numbered = λ r. absurd r; bump = λ t q. let same : b.client ≡ record { 0 = t } = cc in ap (λ x. x.0) (sym same); after_kind = λ x q. absurd (cc); announces = λ t q. absurd (cc) } in
    subst (IsPlanned s Durable (Enq v) b zero) same is
planned_from s b Durable (Enq v) (suc zero) w c g e =
    let same : part_write b v Length ≡ w = cc in
    let is : IsPlanned s Durable (Enq v) b (suc zero) (part_write b v Length) =
    record { value = sym (ap (λ call. given call Length) c); turn = refl; gives = λ x p q. record { v = v; is = refl }; value_kind = λ x q. absurd (cc); speaks = λ r. r; of_kind = λ z. absurd (omega (arith, g.is_record.0, z)); fits = tt; numbered = λ r. (refl, omega arith); bump = λ t q. absurd (cc); after_kind = λ x q. absurd (cc); announces = λ t q. absurd (cc) } in
    subst (IsPlanned s Durable (Enq v) b (suc zero)) same is
planned_from s b Durable (Enq v) (suc (suc zero)) w c g e =
    let same : part_write b v First ≡ w = cc in
    let is : IsPlanned s Durable (Enq v) b (suc (suc zero)) (part_write b v First) =
    record { value = sym (ap (λ call. given call First) c); turn = refl; gives = λ x p q. record { v = v; is = refl }; value_kind = λ x q. absurd (cc); speaks = λ r. r; of_kind = λ z. absurd (omega (arith, g.is_record.0, z)); fits = tt; numbered = λ r. (refl, omega arith); bump = λ t q. absurd (cc); after_kind = λ x q. absurd (cc); announces = λ t q. absurd (cc) } in
    subst (IsPlanned s Durable (Enq v) b (suc (suc zero))) same is
planned_from s b Durable (Enq v) (suc (suc (suc zero))) w c g e =
    let same : part_write b v Second ≡ w = cc in
    let is : IsPlanned s Durable (Enq v) b (suc (suc (suc zero))) (part_write b v Second) =
    record { value = sym (ap (λ call. given call Second) c); turn = refl; gives = λ x p q. record { v = v; is = refl }; value_kind = λ x q. absurd (cc); speaks = λ r. r; of_kind = λ z. absurd (omega (arith, g.is_record.0, z)); fits = tt; numbered = λ r. (refl, omega arith); bump = λ t q. absurd (cc); after_kind = λ x q. absurd (cc); announces = λ t q. absurd (cc) } in
    subst (IsPlanned s Durable (Enq v) b (suc (suc (suc zero)))) same is
planned_from s b Durable (Enq v) (suc (suc (suc (suc zero)))) w c g e =
    let same : part_write b v Third ≡ w = cc in
    let is : IsPlanned s Durable (Enq v) b (suc (suc (suc (suc zero)))) (part_write b v Third) =
    record { value = sym (ap (λ call. given call Third) c); turn = refl; gives = λ x p q. record { v = v; is = refl }; value_kind = λ x q. absurd (cc); speaks = λ r. r; of_kind = λ z. absurd (omega (arith, g.is_record.0, z)); fits = tt; numbered = λ r. (refl, omega arith); bump = λ t q. absurd (cc); after_kind = λ x q. absurd (cc); announces = λ t q. absurd (cc) } in
    subst (IsPlanned s Durable (Enq v) b (suc (suc (suc (suc zero))))) same is
planned_from s b Durable (Enq v) (suc (suc (suc (suc (suc j))))) w c g e = absurd (cc)
planned_from s b Durable Deq zero w c g e =
    let same : bump b ≡ w = cc in
    let is : IsPlanned s Durable Deq b zero (bump b) =
    record { value = refl; turn = refl; gives = λ x p q. absurd (cc); value_kind = λ x q. absurd (cc); speaks = λ r. r; of_kind = tt; fits = omega (arith, g.unused); numbered = λ r. absurd r; bump = λ t q. let same : b.client ≡ record { 0 = t } = cc in ap (λ x. x.0) (sym same); after_kind = λ x q. absurd (cc); announces = λ t q. absurd (cc) } in
    subst (IsPlanned s Durable Deq b zero) same is
planned_from s b Durable Deq (suc zero) w c g e =
    let same : announcement b ≡ w = cc in
    let is : IsPlanned s Durable Deq b (suc zero) (announcement b) =
    record { value = refl; turn = refl; gives = λ x p q. absurd (cc); value_kind = λ x q. absurd (cc); speaks = λ r. r; of_kind = tt; fits = g.is_record.1; numbered = λ r. absurd r; bump = λ t q. absurd (cc); after_kind = λ x q. absurd (cc); announces = λ t q. let same : b.client ≡ record { 0 = t } = cc in record { who = ap (λ x. x.0) (sym same); later = omega arith; token = refl; last = λ k x e. omega (arith, slice_get_within (preparation_from Durable Deq b) k x e) } } in
    subst (IsPlanned s Durable Deq b (suc zero)) same is
planned_from s b Durable Deq (suc (suc j)) w c g e = absurd (cc)
planned_from s b Log (Enq v) zero w c g e =
    let same : bump b ≡ w = cc in
    let is : IsPlanned s Log (Enq v) b zero (bump b) =
    record { value = refl; turn = refl; gives = λ x p q. absurd (cc); value_kind = λ x q. absurd (cc); speaks = λ r. r; of_kind = tt; fits = omega (arith, g.unused); numbered = λ r. absurd r; bump = λ t q. let same : b.client ≡ record { 0 = t } = cc in ap (λ x. x.0) (sym same); after_kind = λ x q. absurd (cc); announces = λ t q. absurd (cc) } in
    subst (IsPlanned s Log (Enq v) b zero) same is
planned_from s b Log (Enq v) (suc zero) w c g e =
    let same : write (Number b.token) b.number ≡ w = cc in
    let is : IsPlanned s Log (Enq v) b (suc zero) (write (Number b.token) b.number) =
    record { value = refl; turn = refl; gives = λ x p q. absurd (cc); value_kind = λ x q. absurd (cc); speaks = λ r. r; of_kind = (refl, λ z. absurd (omega (arith, g.is_record.0, z))); fits = g.number; numbered = λ r. (refl, omega arith); bump = λ t q. absurd (cc); after_kind = λ x q. absurd (cc); announces = λ t q. absurd (cc) } in
    subst (IsPlanned s Log (Enq v) b (suc zero)) same is
planned_from s b Log (Enq v) (suc (suc zero)) w c g e =
    let same : write (EntryKind b.token) 1 ≡ w = cc in
    let is : IsPlanned s Log (Enq v) b (suc (suc zero)) (write (EntryKind b.token) 1) =
    record { value = sym (ap kind_number c); turn = refl; gives = λ x p q. absurd (cc); value_kind = λ x q. refl; speaks = λ r. r; of_kind = (refl, λ z. absurd (omega (arith, g.is_record.0, z))); fits = omega arith; numbered = λ r. (refl, omega arith); bump = λ t q. absurd (cc); after_kind = λ x q. absurd (cc); announces = λ t q. absurd (cc) } in
    subst (IsPlanned s Log (Enq v) b (suc (suc zero))) same is
planned_from s b Log (Enq v) (suc (suc (suc zero))) w c g e =
    let same : write (EntryNode b.token) b.token.0 ≡ w = cc in
    let is : IsPlanned s Log (Enq v) b (suc (suc (suc zero))) (write (EntryNode b.token) b.token.0) =
    record { value = refl; turn = refl; gives = λ x p q. absurd (cc); value_kind = λ x q. absurd (cc); speaks = λ r. r; of_kind = (refl, λ z. absurd (omega (arith, g.is_record.0, z))); fits = g.is_record.1; numbered = λ r. (refl, omega arith); bump = λ t q. absurd (cc); after_kind = λ x q. (omega arith, refl); announces = λ t q. absurd (cc) } in
    subst (IsPlanned s Log (Enq v) b (suc (suc (suc zero)))) same is
planned_from s b Log (Enq v) (suc (suc (suc (suc zero)))) w c g e =
    let same : part_write b v Length ≡ w = cc in
    let is : IsPlanned s Log (Enq v) b (suc (suc (suc (suc zero)))) (part_write b v Length) =
    record { value = sym (ap (λ call. given call Length) c); turn = refl; gives = λ x p q. record { v = v; is = refl }; value_kind = λ x q. absurd (cc); speaks = λ r. r; of_kind = λ z. absurd (omega (arith, g.is_record.0, z)); fits = tt; numbered = λ r. (refl, omega arith); bump = λ t q. absurd (cc); after_kind = λ x q. absurd (cc); announces = λ t q. absurd (cc) } in
    subst (IsPlanned s Log (Enq v) b (suc (suc (suc (suc zero))))) same is
planned_from s b Log (Enq v) (suc (suc (suc (suc (suc zero))))) w c g e =
    let same : part_write b v First ≡ w = cc in
    let is : IsPlanned s Log (Enq v) b (suc (suc (suc (suc (suc zero))))) (part_write b v First) =
    record { value = sym (ap (λ call. given call First) c); turn = refl; gives = λ x p q. record { v = v; is = refl }; value_kind = λ x q. absurd (cc); speaks = λ r. r; of_kind = λ z. absurd (omega (arith, g.is_record.0, z)); fits = tt; numbered = λ r. (refl, omega arith); bump = λ t q. absurd (cc); after_kind = λ x q. absurd (cc); announces = λ t q. absurd (cc) } in
    subst (IsPlanned s Log (Enq v) b (suc (suc (suc (suc (suc zero)))))) same is
planned_from s b Log (Enq v) (suc (suc (suc (suc (suc (suc zero)))))) w c g e =
    let same : part_write b v Second ≡ w = cc in
    let is : IsPlanned s Log (Enq v) b (suc (suc (suc (suc (suc (suc zero)))))) (part_write b v Second) =
    record { value = sym (ap (λ call. given call Second) c); turn = refl; gives = λ x p q. record { v = v; is = refl }; value_kind = λ x q. absurd (cc); speaks = λ r. r; of_kind = λ z. absurd (omega (arith, g.is_record.0, z)); fits = tt; numbered = λ r. (refl, omega arith); bump = λ t q. absurd (cc); after_kind = λ x q. absurd (cc); announces = λ t q. absurd (cc) } in
    subst (IsPlanned s Log (Enq v) b (suc (suc (suc (suc (suc (suc zero))))))) same is
planned_from s b Log (Enq v) (suc (suc (suc (suc (suc (suc (suc zero))))))) w c g e =
    let same : part_write b v Third ≡ w = cc in
    let is : IsPlanned s Log (Enq v) b (suc (suc (suc (suc (suc (suc (suc zero))))))) (part_write b v Third) =
    record { value = sym (ap (λ call. given call Third) c); turn = refl; gives = λ x p q. record { v = v; is = refl }; value_kind = λ x q. absurd (cc); speaks = λ r. r; of_kind = λ z. absurd (omega (arith, g.is_record.0, z)); fits = tt; numbered = λ r. (refl, omega arith); bump = λ t q. absurd (cc); after_kind = λ x q. absurd (cc); announces = λ t q. absurd (cc) } in
    subst (IsPlanned s Log (Enq v) b (suc (suc (suc (suc (suc (suc (suc zero)))))))) same is
planned_from s b Log (Enq v) (suc (suc (suc (suc (suc (suc (suc (suc zero)))))))) w c g e =
    let same : write (Insert (record { 0 = b.token.0 })) b.token.0 ≡ w = cc in
    let is : IsPlanned s Log (Enq v) b (suc (suc (suc (suc (suc (suc (suc (suc zero)))))))) (write (Insert (record { 0 = b.token.0 })) b.token.0) =
    record { value = refl; turn = refl; gives = λ x p q. absurd (cc); value_kind = λ x q. absurd (cc); speaks = λ r. r; of_kind = (refl, λ z. absurd (omega (arith, g.is_record.0, z))); fits = g.is_record.1; numbered = λ r. (refl, omega arith); bump = λ t q. absurd (cc); after_kind = λ x q. absurd (cc); announces = λ t q. absurd (cc) } in
    subst (IsPlanned s Log (Enq v) b (suc (suc (suc (suc (suc (suc (suc (suc zero))))))))) same is
planned_from s b Log (Enq v) (suc (suc (suc (suc (suc (suc (suc (suc (suc zero))))))))) w c g e =
    let same : announcement b ≡ w = cc in
    let is : IsPlanned s Log (Enq v) b (suc (suc (suc (suc (suc (suc (suc (suc (suc zero))))))))) (announcement b) =
    record { value = refl; turn = refl; gives = λ x p q. absurd (cc); value_kind = λ x q. absurd (cc); speaks = λ r. r; of_kind = tt; fits = g.is_record.1; numbered = λ r. absurd r; bump = λ t q. absurd (cc); after_kind = λ x q. absurd (cc); announces = λ t q. let same : b.client ≡ record { 0 = t } = cc in record { who = ap (λ x. x.0) (sym same); later = omega arith; token = refl; last = λ k x e. omega (arith, slice_get_within (preparation_from Log (Enq v) b) k x e) } } in
    subst (IsPlanned s Log (Enq v) b (suc (suc (suc (suc (suc (suc (suc (suc (suc zero)))))))))) same is
planned_from s b Log (Enq v) (suc (suc (suc (suc (suc (suc (suc (suc (suc (suc j)))))))))) w c g e = absurd (cc)
planned_from s b Log Deq zero w c g e =
    let same : bump b ≡ w = cc in
    let is : IsPlanned s Log Deq b zero (bump b) =
    record { value = refl; turn = refl; gives = λ x p q. absurd (cc); value_kind = λ x q. absurd (cc); speaks = λ r. r; of_kind = tt; fits = omega (arith, g.unused); numbered = λ r. absurd r; bump = λ t q. let same : b.client ≡ record { 0 = t } = cc in ap (λ x. x.0) (sym same); after_kind = λ x q. absurd (cc); announces = λ t q. absurd (cc) } in
    subst (IsPlanned s Log Deq b zero) same is
planned_from s b Log Deq (suc zero) w c g e =
    let same : write (Number b.token) b.number ≡ w = cc in
    let is : IsPlanned s Log Deq b (suc zero) (write (Number b.token) b.number) =
    record { value = refl; turn = refl; gives = λ x p q. absurd (cc); value_kind = λ x q. absurd (cc); speaks = λ r. r; of_kind = (refl, λ z. absurd (omega (arith, g.is_record.0, z))); fits = g.number; numbered = λ r. (refl, omega arith); bump = λ t q. absurd (cc); after_kind = λ x q. absurd (cc); announces = λ t q. absurd (cc) } in
    subst (IsPlanned s Log Deq b (suc zero)) same is
planned_from s b Log Deq (suc (suc zero)) w c g e =
    let same : write (EntryKind b.token) 2 ≡ w = cc in
    let is : IsPlanned s Log Deq b (suc (suc zero)) (write (EntryKind b.token) 2) =
    record { value = sym (ap kind_number c); turn = refl; gives = λ x p q. absurd (cc); value_kind = λ x q. refl; speaks = λ r. r; of_kind = (refl, λ z. absurd (omega (arith, g.is_record.0, z))); fits = omega arith; numbered = λ r. (refl, omega arith); bump = λ t q. absurd (cc); after_kind = λ x q. absurd (cc); announces = λ t q. absurd (cc) } in
    subst (IsPlanned s Log Deq b (suc (suc zero))) same is
planned_from s b Log Deq (suc (suc (suc zero))) w c g e =
    let same : announcement b ≡ w = cc in
    let is : IsPlanned s Log Deq b (suc (suc (suc zero))) (announcement b) =
    record { value = refl; turn = refl; gives = λ x p q. absurd (cc); value_kind = λ x q. absurd (cc); speaks = λ r. r; of_kind = tt; fits = g.is_record.1; numbered = λ r. absurd r; bump = λ t q. absurd (cc); after_kind = λ x q. absurd (cc); announces = λ t q. let same : b.client ≡ record { 0 = t } = cc in record { who = ap (λ x. x.0) (sym same); later = omega arith; token = refl; last = λ k x e. omega (arith, slice_get_within (preparation_from Log Deq b) k x e) } } in
    subst (IsPlanned s Log Deq b (suc (suc (suc zero)))) same is
planned_from s b Log Deq (suc (suc (suc (suc j)))) w c g e = absurd (cc)

pub planned_write : (s : Shape) (b : Begun) (j : ℕ) (w : Write) → IsBegun s b → slice_get (preparation_of s.kind b) j ≡ Some w → IsPlanned s s.kind b.call b j w
planned_write s b j w g e = planned_from s b s.kind b.call j w refl g e

-- two writes at one place write one value
pub one_plan : (s : Shape) (b : Begun) (i j : ℕ) (w v : Write) → IsBegun s b → slice_get (preparation_of s.kind b) i ≡ Some w → slice_get (preparation_of s.kind b) j ≡ Some v → v.place ≡ w.place → v.value ≡ w.value
one_plan s b i j w v g e f at = (planned_write s b j v g f).value ∙ ap (planned b) at ∙ sym (planned_write s b i w g e).value

-- the first write is that of the bump word
pub first_write : (s : Shape) (b : Begun) → slice_get (preparation_of s.kind b) 0 ≡ Some (bump b)
first_write s b = go s.kind b.call
  where
    go : (kind : Kind) (call : Call) → slice_get (preparation_from kind call b) 0 ≡ Some (bump b)
    go Durable (Enq v) = refl
    go Durable Deq = refl
    go Log (Enq v) = refl
    go Log Deq = refl

pub turn_item : (kind : Kind) (v : Value) (x : NodeId) (part : Part) → turn_of kind (Enq v) (Item x part) ≡ message_at kind + part_number part
turn_item Durable v x part = refl
turn_item Log v x part = refl

-- once the bump word is kept the record is issued
pub issued_by_bump : (s : Shape) (f : Place → ℕ) (b : Begun) → IsBegun s b → owner s b.token.0 ≡ b.client.0 → bumps f b.client.0 ≡ b.used + 1 → IsIssued s f b.token.0
issued_by_bump s f b g own e = record { is_record = g.is_record; used = go (owner s b.token.0) own }
  where
    go : (o : ℕ) → o ≡ b.client.0 → b.token.0 < record_of s o (bumps f o)
    go o q =
        let at : bumps f o ≡ b.used + 1 = ap (bumps f) q ∙ e in
        let same : b.token.0 ≡ 1 + o * s.records + b.used = g.own ∙ ap (λ x. 1 + x * s.records + b.used) (sym q) in
        more (o * s.records) same at
      where
        more : (x : ℕ) → b.token.0 ≡ 1 + x + b.used → bumps f o ≡ b.used + 1 → b.token.0 < 1 + x + bumps f o
        more x h k = omega (arith, h, k)

pub prepared_issued : (s : Shape) (m : Memory) (b : Begun) → Prepared s m b → owner s b.token.0 ≡ b.client.0 → IsIssued s m.kept b.token.0
prepared_issued s m b h own = issued_by_bump s m.kept b h.begun own (h.written 0 (bump b) (first_write s b)).1

pub written_issued : (s : Shape) (m : Memory) (b : Begun) (index : ℕ) → Written s m b index → 0 < index → owner s b.token.0 ≡ b.client.0 → IsIssued s m.kept b.token.0
written_issued s m b index h some own = issued_by_bump s m.kept b h.begun own (h.written 0 (bump b) some (first_write s b)).1

-- where nothing is left to write, each word of the record is written
pub all_written : (s : Shape) (m : Memory) (b : Begun) (index : ℕ) → Written s m b index → slice_get (preparation_of s.kind b) index ≡ None → Prepared s m b
all_written s m b index h none = record {
  begun = h.begun;
  written = λ j w e.
      let inside : j < length (preparation_of s.kind b) = slice_get_within (preparation_of s.kind b) j w e in
      elim (slice_get_cases (preparation_of s.kind b) index).1 [
        | inl t ↦ let wrong : None ≡ Some t.0 = sym none ∙ t.2 in absurd (cc)
        | inr t ↦ h.written j w (omega (arith, inside, t.0)) e
      ];
}

-- where the parts of a message are written
pub part_turn : (kind : Kind) (v : Value) (b : Begun) (part : Part)
    → slice_get (preparation_from kind (Enq v) b) (message_at kind + part_number part) ≡ Some (part_write b v part)
part_turn Durable v b Length = refl
part_turn Durable v b First = refl
part_turn Durable v b Second = refl
part_turn Durable v b Third = refl
part_turn Log v b Length = refl
part_turn Log v b First = refl
part_turn Log v b Second = refl
part_turn Log v b Third = refl

pub part_written : (s : Shape) (b : Begun) (v : Value) (part : Part) → b.call ≡ Enq v
    → slice_get (preparation_of s.kind b) (message_at s.kind + part_number part) ≡ Some (part_write b v part)
part_written s b v part c =
    ap (λ call. slice_get (preparation_from s.kind call b) (message_at s.kind + part_number part)) c ∙ part_turn s.kind v b part

-- a prepared enqueue has its message in its node
pub prepared_part : (s : Shape) (m : Memory) (b : Begun) (v : Value) (part : Part) → Prepared s m b → b.call ≡ Enq v
    → (part_at m.cached b.token.0 part ≡ item_part v part) × (part_at m.kept b.token.0 part ≡ item_part v part)
prepared_part s m b v part h c = h.written (message_at s.kind + part_number part) (part_write b v part) (part_written s b v part c)

pub message_of_parts : (f : Place → ℕ) (n : ℕ) (v : Value) → FitsValue v → ((part : Part) → part_at f n part ≡ item_part v part) → values f n ≡ v
message_of_parts f n v fits same = rw (same Length, same First, same Second, same Third) (item_again v fits)

pub prepared_value : (s : Shape) (m : Memory) (b : Begun) (v : Value) → Prepared s m b → b.call ≡ Enq v → values m.cached b.token.0 ≡ v
prepared_value s m b v h c = message_of_parts m.cached b.token.0 v (h.begun.value v c) (λ part. (prepared_part s m b v part h c).0)

pub is_dequeue : (call : Call) → kind_number call ≡ 2 → call ≡ Deq
is_dequeue (Enq v) e = absurd (cc)
is_dequeue Deq e = refl
