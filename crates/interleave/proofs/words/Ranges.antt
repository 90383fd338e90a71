-- Each act keeps the ranges.
use Rattle.words.specs.PlainQueue.{Value, FitsValue}
use Rattle.words.specs.declared.call.Reply.{Reply}
use Rattle.std.proofs.Common.{◌≡◌, ap, sym, ◌∙◌, ℕ, zero, suc, ◌<◌, ◌≤◌, ◌⊎◌, inl, inr, List, [], ◌∷◌, length, Option, Some, None, Bool, true, false, slice_index, slice_set, slice_get, ◌==◌, arith, refl, subst, get_or-set_other}
use Rattle.std.proofs.lemmas.Bool.Decides.{eqb_tells}
use Rattle.std.proofs.lemmas.Grind.{get_or-set_at, common_steps}
use Rattle.std.proofs.lemmas.Option.{get_or_from_slice_get, slice_get_within}
use Rattle.words.specs.declared.call.Call.{Call}
use Rattle.words.specs.declared.call.Call.TheVariants.{Enq}
use Rattle.words.specs.declared.call.Client.{Client}
use Rattle.persist.specs.Memory.{Words, Access, Load, Store, Cas, Flush, Fence, words_after_eviction}
use Rattle.arena.specs.Layout.{laid_out, size_of, word_at}
use Rattle.arena.specs.Shape.{Shape, record_of}
use Rattle.arena.specs.Place.{IsPlace, is_same, is_same-true}
use Rattle.arena.specs.Ranges.{Fits, IsReadByCalls}
use Rattle.sound_words.specs.Sound.{SizeIsSound}
use Rattle.arena.specs.Laws.{at-written}
use Rattle.arena.specs.declared.place.Place.{Place}
use Rattle.arena.specs.declared.place.Place.TheVariants.{Bump}
use Rattle.stepper.specs.Step.{after_one, value_found, place_of, IsReadInRange}
use Rattle.words.specs.declared.told.Told.{Told}
use Rattle.stepper.specs.Preparation.{IsBegun}
use Rattle.stepper.specs.declared.resume.After.{After}
use Rattle.stepper.specs.declared.resume.After.TheVariants.{More, Done}
use Rattle.stepper.specs.declared.prepare.Begun.{Begun}
use Rattle.helping.specs.declared.op.Op.{Op}
use Rattle.helping.specs.Table.{access_of, successor, begun_at}
use Rattle.interleave.specs.Ranges.{AllFit, WordsFit, CallFits, IfCall, IsSafe}
use Rattle.protocol.specs.Machine.{Trace, next_of, with_next}
use Rattle.protocol.specs.declared.UnderWay.{UnderWay}
use Rattle.interleave.specs.State.{machine_of}
use Rattle.interleave.proofs.words.Values.{shown_at}
use Rattle.interleave.proofs.words.RecordNumbers.{record_in_range}
use Rattle.interleave.proofs.words.Accesses.{AccessFits, AfterFits, at_place, access_fits, read_in_range}
use Rattle.interleave.proofs.words.Accesses.{reads_by_calls, successor_fits, begun_fits}

bool_cases : (b : Bool) → (b ≡ true) ⊎ (b ≡ false)
bool_cases true = inl refl
bool_cases false = inr refl

length_set : (ws : List ℕ) (u v : ℕ) → length (slice_set ws u v) ≡ length ws
length_set [] u v = refl
length_set (w ∷ ws) zero v = refl
length_set (w ∷ ws) (suc u) v = ap suc (length_set ws u v)

-- a write of a value that fits
AllFit-set : (s : Shape) (ws : List ℕ) (p : Place) (v : ℕ) → size_of s ≤ length ws → IsPlace s p → (IsReadByCalls p → Fits s p v) → AllFit s ws → AllFit s (slice_set ws (word_at s p) v)
AllFit-set s ws p v long hp fits all = λ q hq read.
    rw (at-written s p q hp hq ws v long)
    (elim (bool_cases (is_same p q)) [
      | inl e ↦ rw e (subst (λ (r : Place). IsReadByCalls r → Fits s r v) (is_same-true p q e) fits read)
      | inr e ↦ rw e (all q hq read)
    ])

-- a write of a word of the layout
count-set : (s : Shape) (ws : List ℕ) (u v : ℕ) → u < size_of s → SizeIsSound s ws → SizeIsSound s (slice_set ws u v)
count-set s ws u v lt (inl e) = inl (length_set ws u v ∙ e)
count-set s ws u v lt (inr b) = inr (record {
  count = length_set ws u v ∙ b.count;
  room = subst (λ n. size_of s ≤ n) (sym (length_set ws u v)) b.room;
  rest = λ w past within. get_or-set_other ws u w v 0 (λ e. omega (arith, e, lt, past)) ∙ b.rest w past (subst (λ n. w < n) (length_set ws u v) within);
})

pub WordsFit-after : (s : Shape) (access : Access Place) → AccessFits s access → (ws : Words) → WordsFit s ws → WordsFit s (after_one s access ws)
WordsFit-after s (Load p) h ws w = record { room = w.room; same = w.same; cached_count = w.cached_count; count = w.count; cached = w.cached; kept = w.kept }
WordsFit-after s (Store p v) h ws w = record {
  room = grind (arith, common_steps, w.room);
  same = grind (arith, common_steps, w.same);
  cached_count = count-set s ws.cached (word_at s p) v ((laid_out s).below p h.0) w.cached_count;
  count = w.count;
  cached = AllFit-set s ws.cached p v w.room h.0 (λ read. h.1) w.cached;
  kept = w.kept;
}
WordsFit-after s (Cas p old new) h ws w =
    elim (bool_cases (slice_index ws.cached (word_at s p) == old)) [
      | inl e ↦ rw e (record {
        room = grind (arith, common_steps, w.room);
        same = grind (arith, common_steps, w.same);
        cached_count = count-set s ws.cached (word_at s p) new ((laid_out s).below p h.0) w.cached_count;
        count = w.count;
        cached = AllFit-set s ws.cached p new w.room h.0 (λ read. h.1) w.cached;
        kept = w.kept;
      })
      | inr e ↦ rw e (record { room = w.room; same = w.same; cached_count = w.cached_count; count = w.count; cached = w.cached; kept = w.kept })
    ]
WordsFit-after s (Flush p) h ws w = record { room = w.room; same = w.same; cached_count = w.cached_count; count = w.count; cached = w.cached; kept = w.kept }
WordsFit-after s (Fence p) h ws w = record {
  room = w.room;
  same = grind (arith, common_steps, w.same);
  cached_count = w.cached_count;
  count = count-set s ws.kept (word_at s p) (slice_index ws.cached (word_at s p)) ((laid_out s).below p h) w.count;
  cached = w.cached;
  kept = AllFit-set s ws.kept p (slice_index ws.cached (word_at s p)) (omega (arith, w.room, w.same)) h (w.cached p h) w.kept;
}

-- the call of a client that has one
pub call_fits : (s : Shape) (ws : Words) (calls : List (Option UnderWay)) (t : ℕ) (u : UnderWay) → IsSafe s ws calls → slice_get calls t ≡ Some (Some u) → CallFits s u
call_fits s ws calls t u safe here = subst (IfCall s) (get_or_from_slice_get calls t (Some u) None here) (safe.calls_fit t)

-- what its step reads is in range
pub read_fits : (s : Shape) (ws : Words) (calls : List (Option UnderWay)) (u : UnderWay) → IsSafe s ws calls → CallFits s u → IsReadInRange s (access_of s.kind u.op) (value_found s (access_of s.kind u.op) ws)
read_fits s ws calls u safe fits =
    let a = access_of s.kind u.op in
    read_in_range s a (value_found s a ws) (reads_by_calls s.kind u.op) (safe.words.cached (place_of a) (at_place s a (access_fits s s.kind u.op refl fits.point)))

-- a client's place is written
pub IsSafe-put : (s : Shape) (ws : Words) (calls : List (Option UnderWay)) (t : ℕ) (x : Option UnderWay) → IsSafe s ws calls → t < length calls → IfCall s x → IsSafe s ws (slice_set calls t x)
IsSafe-put s ws calls t x safe within fits = record {
  words = safe.words;
  clients = grind (arith, common_steps, safe.clients);
  few = safe.few;
  calls_fit = λ u. elim (eqb_tells u t) [
    | inl e ↦ rw (get_or-set_at calls t u x None e.1 within) fits
    | inr e ↦ rw (get_or-set_other calls t u x None e.1) (safe.calls_fit u)
  ];
}

-- the words after an access that fits
pub IsSafe-accessed : (s : Shape) (ws : Words) (calls : List (Option UnderWay)) (access : Access Place) → AccessFits s access → IsSafe s ws calls → IsSafe s (after_one s access ws) calls
IsSafe-accessed s ws calls access fits safe = record {
  words = WordsFit-after s access fits ws safe.words;
  clients = safe.clients;
  few = safe.few;
  calls_fit = safe.calls_fit;
}

-- so a step of a call keeps the words in range
pub IsSafe-stepped : (s : Shape) (ws : Words) (calls : List (Option UnderWay)) (u : UnderWay) → CallFits s u → IsSafe s ws calls → IsSafe s (after_one s (access_of s.kind u.op) ws) calls
IsSafe-stepped s ws calls u fits safe =
    IsSafe-accessed s ws calls (access_of s.kind u.op) (access_fits s s.kind u.op refl fits.point) safe

-- and what it leads to
pub next_fits : (s : Shape) (ws : Words) (calls : List (Option UnderWay)) (u : UnderWay) → CallFits s u → IsSafe s ws calls → AfterFits s (successor s.kind u.op (value_found s (access_of s.kind u.op) ws))
next_fits s ws calls u fits safe = successor_fits s u.op _ fits.point (read_fits s ws calls u safe fits)

-- a call that goes on is in range
after_in_range : (s : Shape) (u : UnderWay) (a : After Op Reply) → CallFits s u → AfterFits s a → IfCall s (with_next u a)
after_in_range s u (More op) fits h = record { begun = fits.begun; point = h }
after_in_range s u (Done reply) fits h = tt

-- what the machine goes on to is what the step finds
pub next_is : (s : Shape) (ws : Words) (calls : List (Option UnderWay)) (base : List Value) (told : List Told) (log : Trace) (u : UnderWay) → CallFits s u → IsSafe s ws calls
    → successor s.kind u.op (value_found s (access_of s.kind u.op) ws) ≡ next_of (machine_of s ws calls base told log) u
next_is s ws calls base told log u fits safe =
    ap (successor s.kind u.op) (sym (shown_at s ws.cached (place_of (access_of s.kind u.op)) (at_place s (access_of s.kind u.op) (access_fits s s.kind u.op refl fits.point))))

-- a client's call made its access, and went on
pub IsSafe-gone_on : (s : Shape) (ws : Words) (calls : List (Option UnderWay)) (base : List Value) (told : List Told) (log : Trace) (t : ℕ) (u : UnderWay) → IsSafe s ws calls → slice_get calls t ≡ Some (Some u)
    → IsSafe s (after_one s (access_of s.kind u.op) ws) (slice_set calls t (with_next u (next_of (machine_of s ws calls base told log) u)))
IsSafe-gone_on s ws calls base told log t u safe here =
    let fits : CallFits s u = call_fits s ws calls t u safe here in
    let next : AfterFits s (next_of (machine_of s ws calls base told log) u) = subst (AfterFits s) (next_is s ws calls base told log u fits safe) (next_fits s ws calls u fits safe) in
    IsSafe-put s _ calls t _ (IsSafe-stepped s ws calls u fits safe) (slice_get_within calls t (Some u) here) (after_in_range s u _ fits next)

-- an eviction
pub IsSafe-evicted : (s : Shape) (ws : Words) (calls : List (Option UnderWay)) (p : Place) → IsPlace s p → IsSafe s ws calls → IsSafe s (words_after_eviction (word_at s p) ws) calls
IsSafe-evicted s ws calls p hp safe =
    let fenced = IsSafe-accessed s ws calls (Fence p) hp safe in
    record {
      words = record { room = fenced.words.room; same = fenced.words.same; cached_count = fenced.words.cached_count; count = fenced.words.count; cached = fenced.words.cached; kept = fenced.words.kept };
      clients = safe.clients;
      few = safe.few;
      calls_fit = safe.calls_fit;
    }

-- the call of a client with its next record
abbrev pub begun_call : Shape → ℕ → Client → ℕ → Call → Begun
begun_call s used client number call = record {
  client = client;
  used = used;
  token = record { 0 = record_of s client.0 used };
  number = number;
  call = call;
}

-- a client without a call begins one, with a record that is left
pub IsSafe-begun : (s : Shape) (ws : Words) (calls : List (Option UnderWay)) (client : Client) (used number place : ℕ) (call : Call)
    → IsSafe s ws calls → client.0 < length calls → used < s.records → number ≤ 1099511627776 → ((v : Value) → call ≡ Enq v → FitsValue v)
    → IsSafe s (after_one s (Load (Bump client)) ws) (slice_set calls client.0 (Some (record { place = place; begun = begun_call s used client number call; op = begun_at s.kind (begun_call s used client number call) })))
IsSafe-begun s ws calls client used number place call safe within room few fits =
    let client_in : client.0 < s.clients = omega (arith, safe.clients) in
    let b : IsBegun s (begun_call s used client number call) = record {
      client = client_in;
      unused = room;
      is_record = (omega arith, record_in_range s.clients s.records client.0 used client_in room);
      own = refl;
      number = few;
      value = fits;
    } in
    IsSafe-put s _ calls client.0 _ (IsSafe-accessed s ws calls (Load (Bump client)) client_in safe) within
    (record { begun = b; point = begun_fits s (begun_call s used client number call) b })
