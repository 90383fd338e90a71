-- What became of the calls that took a record which is taken again.
use Rattle.std.proofs.Common.{◌≡◌, ◌≢◌, ℕ, ◌+◌, ◌*◌, ◌≤◌, ◌⊎◌, inl, inr, Bool, true, false, if◌then◌else◌, ◌==◌}
use Rattle.std.proofs.Common.{Some, None, Result, Ok, Err, refl, sym, ap, subst, ◌∙◌, arith}
use Rattle.std.proofs.lemmas.Bool.{eqb-false}
use Rattle.words.specs.declared.call.Call.{Call}
use Rattle.words.specs.declared.call.Client.{Client}
use Rattle.words.specs.declared.call.Kind.{Kind}
use Rattle.words.specs.declared.call.Kind.TheVariants.{Durable, Log}
use Rattle.words.specs.declared.refusal.Refusal.{Refusal}
use Rattle.words.specs.declared.refusal.Refusal.TheVariants.{NoMemory, NoRoom}
use Rattle.arena.specs.Shape.{Shape, owner, record_of}
use Rattle.arena.specs.Words.{bumps}
use Rattle.arena.specs.declared.place.Place.{Place}
use Rattle.arena.specs.declared.place.Part.TheVariants.{Length, First, Second, Third}
use Rattle.arena.specs.declared.place.Place.TheVariants.{Item, Next, Mark, Cell, Insert}
use Rattle.arena.specs.declared.place.Place.TheVariants.{Number, EntryKind, Status, EntryNode}
use Rattle.helping.specs.Table.{node_of, token_of}
use Rattle.sound_words.specs.Sound.{IsBlank, IsBlankAnswer, IsIssued}
use Rattle.protocol.specs.Machine.{FitsCall, MayStart, Memory}
use Rattle.protocol.specs.invariants.Base.{Blank}
use Rattle.protocol.specs.invariants.Worlds.{Working, ledger_of}
use Rattle.protocol.proofs.Facts.{is_ready, next_unissued, record_owner}
use Rattle.interleave.specs.Holds.{Holds, from_invariant}
use Rattle.interleave.specs.Reuse.{EarlierLeftNothing, IsAccountedFor, IsLost, IsStillCalled}
use Rattle.interleave.specs.State.{State, machine, order_in, number_to_start, start_result, start_result_with, used_by}
use Rattle.interleave.proofs.machine.Holding.{is_none, may_start, number_fits_kind}
use Rattle.interleave.proofs.machine.Starts.{startable}

-- the records of one client differ by their numbers
same_used : (from used next : ℕ) → 1 + from + used ≡ 1 + from + next → used ≡ next
same_used from used next e = omega (arith, e)

-- the words of a record that is not issued are 0
blank_record : (s : Shape) (kept f : Place → ℕ) (n : ℕ) → Blank s kept f → n ≢ 0 → (IsIssued s kept n → ⊥)
    → IsBlank s f n
blank_record s kept f n blank some free = record {
  item = record {
    len = blank (Item (node_of n) Length) tt some free;
    first = blank (Item (node_of n) First) tt some free;
    second = blank (Item (node_of n) Second) tt some free;
    third = blank (Item (node_of n) Third) tt some free;
  };
  link = blank (Next (node_of n)) tt some free;
  mark = blank (Mark (node_of n)) tt some free;
  answer = by_kind s.kind;
}
  where
    by_kind : (kind : Kind) → IsBlankAnswer kind f n
    by_kind Durable = blank (Cell (token_of n)) tt some free
    by_kind Log = record {
      insert = blank (Insert (node_of n)) tt some free;
      number = blank (Number (token_of n)) tt some free;
      kind = blank (EntryKind (token_of n)) tt some free;
      status = blank (Status (token_of n)) tt some free;
      node = blank (EntryNode (token_of n)) tt some free;
    }

-- there is no record 0
not_zero : (from used n : ℕ) → n ≡ 1 + from + used → n ≢ 0
not_zero from used n e z = absurd (omega (arith, e, z))

-- where a client may start a call, each earlier call with its next record left nothing
earlier_left_nothing : (w : State) (client : Client) (number : ℕ) (call : Call) → Holds w
    → MayStart (machine w) client number call → EarlierLeftNothing w client
earlier_left_nothing w client number call holds may k x at takes = record {
  own = ap (λ (t : ℕ). let c : Client = record { 0 = t } in c) own;
  lost = lost was.stands;
  unkept = subst (λ n. bumps m.kept client.0 ≤ n) (sym used) (v.base.kept_bump client.0);
  blank = blank_record w.shape m.kept m.cached x.begun.token.0 v.base.blank some free;
  blank_kept = blank_record w.shape m.kept m.kept x.begun.token.0 v.base.blank_kept some free;
}
  where
    was : IsAccountedFor (machine w) x
    was = holds.records k x at

    v : Working (machine w)
    v = (is_ready (machine w) (from_invariant _ holds.inv) may.ready).working

    m : Memory
    m = (machine w).memory

    some : x.begun.token.0 ≢ 0
    some = not_zero (client.0 * w.shape.records) (used_by w client) x.begun.token.0 takes

    free : IsIssued w.shape m.kept x.begun.token.0 → ⊥
    free issued =
        next_unissued w.shape m (ledger_of (machine w)) v.claimed v.waiting v.base client.0 may.record_left
        (subst (IsIssued w.shape m.kept) takes issued)

    own : x.begun.client.0 ≡ client.0
    own =
        sym (record_owner w.shape x.begun.client.0 x.begun.used was.unused) ∙ ap (owner w.shape) (sym was.token ∙ takes)
        ∙ record_owner w.shape client.0 (used_by w client) may.record_left

    used : x.begun.used ≡ used_by w client
    used =
        same_used (client.0 * w.shape.records) x.begun.used (used_by w client)
        (ap (λ (t : ℕ). record_of w.shape t x.begun.used) (sym own) ∙ sym was.token ∙ takes)

    lost : (IsIssued w.shape m.kept x.begun.token.0
        ⊎ (IsStillCalled (machine w) x ⊎ IsLost w.log.events (order_in w) x)) → IsLost w.log.events (order_in w) x
    lost (inl issued) = absurd (free issued)
    lost (inr (inl still)) =
        let none : None ≡ Some still.u = sym may.idle ∙ ap (machine w).calls (sym own) ∙ still.at in
        absurd (cc)
    lost (inr (inr gone)) = gone

-- so it is where a start is accepted
pub reused_left_nothing : (full : Bool) (w : State) (client : Client) (number : ℕ) (call : Call) → Holds w
    → FitsCall call → start_result full w client number call ≡ Ok tt → EarlierLeftNothing w client
reused_left_nothing full w client number call holds fits = from_check (number_to_start w client number call) refl
  where
    from_check : (r : Result ℕ Refusal) → number_to_start w client number call ≡ r
        → start_result_with full w client r ≡ Ok tt → EarlierLeftNothing w client
    from_check (Err refusal) e is = cc
    from_check (Ok n) e is = room (used_by w client == w.shape.records) refl full is
      where
        room : (a : Bool) → (used_by w client == w.shape.records) ≡ a → (b : Bool)
            → (let r : Result Unit Refusal = if a then Err NoRoom else (if b then Err NoMemory else Ok tt) in r) ≡ Ok tt
            → EarlierLeftNothing w client
        room true left b is2 = cc
        room false left true is2 = cc
        room false left false is2 =
            let found = startable w client number n call e in
            earlier_left_nothing w client n call holds
            (may_start w client n call holds (is_none w.recovery found.up) found.idle (eqb-false _ _ left)
            (number_fits_kind w client number n holds.kind found) fits)
