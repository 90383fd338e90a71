-- Where the parts of a head stand.
use Rattle.std.proofs.Common.{◌≡◌, ℕ, ◌+◌, ◌*◌, ◌≤◌, ◌<◌, ◌≢◌, ◌||◌, Bool, true, false, cond, not, eqb, ltb, List, Result, Ok, Err, length, take, drop, arith, refl, ap, sym, ◌∙◌}
use Rattle.std.specs.Str.{bytes_eq}
use Rattle.std.proofs.lemmas.Bool.{lt-ltb, le-ltb, eq-eqb, ne_eqb, or_left, or_right, or_from, or_parts, eqb-false, ltb-false, not-false, not_from_true, not_from_false}
use Rattle.std.proofs.lemmas.List.{drop-drop}
use Rattle.words.specs.declared.refusal.Refusal.TheVariants.{BadMagic, BadCount, Truncated}
use Rattle.persist.specs.Image.{words_in}
use Rattle.persist.specs.declared.memory.TheConstants.{MAX_WORDS}
use Rattle.journal.specs.declared.fault.Fault.{Fault}
use Rattle.journal.specs.declared.fault.Fault.TheVariants.{Refused, BadSum}
use Rattle.journal.specs.Sum.{sum_of}
use Rattle.journal.specs.Reading.{Head, begins_as_journal, has_its_sum, head_in, head_reading, key_at, sum_at, head_size, words_count}

-- behind the words
pub words_end : (bytes image rest tail : List ℕ) (count : ℕ) → image ≡ drop 4 bytes → rest ≡ drop 12 image → tail ≡ drop (8 * count) rest → tail ≡ drop (key_at count) bytes
words_end bytes image rest tail count first second third =
    let place : 16 + 8 * count ≡ key_at count = omega arith in
    third
    ∙ ap (drop (8 * count)) (second ∙ ap (drop 12) first ∙ drop-drop 12 4 bytes)
    ∙ drop-drop (8 * count) 16 bytes
    ∙ ap (λ (n : ℕ). drop n bytes) place

-- eight bytes on
pub eight_on : (bytes rest tail : List ℕ) (at : ℕ) → rest ≡ drop at bytes → tail ≡ drop 8 rest → tail ≡ drop (at + 8) bytes
eight_on bytes rest tail at first second = second ∙ ap (drop 8) first ∙ drop-drop 8 at bytes

-- ---- what is read of a head, by the first test that fails

abbrev Answer : Type 0
Answer = Result Head Fault

abbrev first_of : (a b c d e : Bool) → Head → Answer
first_of a b c d e head =
    cond a (Err (Refused BadMagic)) (cond b (Err (Refused Truncated)) (cond c (Err (Refused BadCount)) (cond d (Err (Refused Truncated)) (cond e (Err BadSum) (Ok head)))))

-- the five tests
abbrev wrong : List ℕ → Bool
wrong bytes = not (begins_as_journal bytes)

abbrev short : List ℕ → Bool
short bytes = ltb (length bytes) 16

abbrev odd : List ℕ → Bool
odd bytes = eqb (words_count bytes) 0 || ltb MAX_WORDS (words_count bytes)

abbrev cut : List ℕ → Bool
cut bytes = ltb (length bytes) (head_size (words_count bytes))

abbrev another : List ℕ → Bool
another bytes = not (has_its_sum (words_count bytes) bytes)

abbrev head : List ℕ → Head
head bytes = head_in (words_count bytes) bytes

tested : (bytes : List ℕ) → head_reading bytes ≡ first_of (wrong bytes) (short bytes) (odd bytes) (cut bytes) (another bytes) (head bytes)
unfolding head_reading
tested bytes = refl

first_fails : (a b c d e : Bool) (h : Head) → a ≡ true → first_of a b c d e h ≡ Err (Refused BadMagic)
first_fails a b c d e h p = rw p refl

second_fails : (a b c d e : Bool) (h : Head) → a ≡ false → b ≡ true → first_of a b c d e h ≡ Err (Refused Truncated)
second_fails a b c d e h p q = rw (p, q) refl

third_fails : (a b c d e : Bool) (h : Head) → a ≡ false → b ≡ false → c ≡ true → first_of a b c d e h ≡ Err (Refused BadCount)
third_fails a b c d e h p q r = rw (p, q, r) refl

fourth_fails : (a b c d e : Bool) (h : Head) → a ≡ false → b ≡ false → c ≡ false → d ≡ true → first_of a b c d e h ≡ Err (Refused Truncated)
fourth_fails a b c d e h p q r s = rw (p, q, r, s) refl

fifth_fails : (a b c d e : Bool) (h : Head) → a ≡ false → b ≡ false → c ≡ false → d ≡ false → e ≡ true → first_of a b c d e h ≡ Err BadSum
fifth_fails a b c d e h p q r s t = rw (p, q, r, s, t) refl

none_fails : (a b c d e : Bool) (h : Head) → a ≡ false → b ≡ false → c ≡ false → d ≡ false → e ≡ false → first_of a b c d e h ≡ Ok h
none_fails a b c d e h p q r s t = rw (p, q, r, s, t) refl

pub head_begins_wrong : (bytes : List ℕ) → begins_as_journal bytes ≡ false → head_reading bytes ≡ Err (Refused BadMagic)
head_begins_wrong bytes is = tested bytes ∙ first_fails (wrong bytes) (short bytes) (odd bytes) (cut bytes) (another bytes) (head bytes) (not_from_false _ is)

pub head_has_no_count : (bytes : List ℕ) → begins_as_journal bytes ≡ true → length bytes < 16 → head_reading bytes ≡ Err (Refused Truncated)
head_has_no_count bytes right few = tested bytes ∙ second_fails (wrong bytes) (short bytes) (odd bytes) (cut bytes) (another bytes) (head bytes) (not_from_true _ right) (lt-ltb (length bytes) 16 few)

pub head_counts_none : (bytes : List ℕ) → begins_as_journal bytes ≡ true → 16 ≤ length bytes → words_count bytes ≡ 0 → head_reading bytes ≡ Err (Refused BadCount)
head_counts_none bytes right long none =
    tested bytes
    ∙ third_fails (wrong bytes) (short bytes) (odd bytes) (cut bytes) (another bytes) (head bytes)
    (not_from_true _ right) (le-ltb (length bytes) 16 long) (or_left (eqb (words_count bytes) 0) _ (eq-eqb (words_count bytes) 0 none))

pub head_counts_many : (bytes : List ℕ) → begins_as_journal bytes ≡ true → 16 ≤ length bytes → MAX_WORDS < words_count bytes → head_reading bytes ≡ Err (Refused BadCount)
head_counts_many bytes right long many =
    tested bytes
    ∙ third_fails (wrong bytes) (short bytes) (odd bytes) (cut bytes) (another bytes) (head bytes)
    (not_from_true _ right) (le-ltb (length bytes) 16 long) (or_right (eqb (words_count bytes) 0) _ (lt-ltb MAX_WORDS (words_count bytes) many))

-- what holds of bytes once their count was looked at
pub record HasCount (bytes : List ℕ) : Type 0 where
  pub right : begins_as_journal bytes ≡ true
  pub long : 16 ≤ length bytes
  pub some : 0 < words_count bytes
  pub few : words_count bytes ≤ MAX_WORDS

not_odd : (bytes : List ℕ) → HasCount bytes → odd bytes ≡ false
not_odd bytes has =
    let some : 0 < words_count bytes = has.some in
    or_from (eqb (words_count bytes) 0) _ (ne_eqb (words_count bytes) 0 (λ none. omega (arith, none, some))) (le-ltb MAX_WORDS (words_count bytes) has.few)

pub head_cut_off : (bytes : List ℕ) → HasCount bytes → length bytes < head_size (words_count bytes) → head_reading bytes ≡ Err (Refused Truncated)
head_cut_off bytes has few =
    tested bytes
    ∙ fourth_fails (wrong bytes) (short bytes) (odd bytes) (cut bytes) (another bytes) (head bytes)
    (not_from_true _ has.right) (le-ltb (length bytes) 16 has.long) (not_odd bytes has) (lt-ltb (length bytes) (head_size (words_count bytes)) few)

pub head_of_another_sum : (bytes : List ℕ) → HasCount bytes → head_size (words_count bytes) ≤ length bytes → has_its_sum (words_count bytes) bytes ≡ false → head_reading bytes ≡ Err BadSum
head_of_another_sum bytes has long other =
    tested bytes
    ∙ fifth_fails (wrong bytes) (short bytes) (odd bytes) (cut bytes) (another bytes) (head bytes)
    (not_from_true _ has.right) (le-ltb (length bytes) 16 has.long) (not_odd bytes has) (le-ltb (length bytes) (head_size (words_count bytes)) long) (not_from_false _ other)

pub head_is_read : (bytes : List ℕ) → HasCount bytes → head_size (words_count bytes) ≤ length bytes → has_its_sum (words_count bytes) bytes ≡ true → head_reading bytes ≡ Ok (head_in (words_count bytes) bytes)
head_is_read bytes has long own =
    tested bytes
    ∙ none_fails (wrong bytes) (short bytes) (odd bytes) (cut bytes) (another bytes) (head bytes)
    (not_from_true _ has.right) (le-ltb (length bytes) 16 has.long) (not_odd bytes has) (le-ltb (length bytes) (head_size (words_count bytes)) long) (not_from_true _ own)

-- the sum that was found, and the one that the head should have
pub head_sum_compared : (bytes key sum check : List ℕ) (count : ℕ) (same : Bool) → key ≡ take 8 (drop (key_at count) bytes) → sum ≡ take 8 (drop (sum_at count) bytes) → check ≡ sum_of key (take (24 + 8 * count) bytes) → same ≡ bytes_eq sum check → has_its_sum count bytes ≡ same
head_sum_compared bytes key sum check count same keyed there checked compared =
    let place : sum_at count ≡ 24 + 8 * count = omega arith in
    ap (λ (found : List ℕ). bytes_eq found (sum_of (take 8 (drop (key_at count) bytes)) (take (sum_at count) bytes))) (sym there)
    ∙ ap (bytes_eq sum) (ap (λ (k : List ℕ). sum_of k (take (sum_at count) bytes)) (sym keyed) ∙ ap (λ (n : ℕ). sum_of key (take n bytes)) place ∙ sym checked)
    ∙ sym compared

abbrev pub read_as : Head → Result Head Fault
read_as head = Ok head

-- a head of the parts that were split off
pub head_found : (bytes words key sum rest : List ℕ) (count : ℕ) → words ≡ words_in count (drop 4 bytes) → key ≡ take 8 (drop (key_at count) bytes) → sum ≡ take 8 (drop (sum_at count) bytes) → rest ≡ drop (head_size count) bytes
    → head_in count bytes ≡ record { words = words; key = key; sum = sum; rest = rest }
head_found bytes words key sum rest count a b c d = rw (a, b, c, d) refl

-- ---- what was read

-- a test that stopped nothing
passed : (fails : Bool) (fault : Fault) (rest : Answer) (h : Head) → cond fails (Err fault) rest ≡ Ok h → (fails ≡ false) × (rest ≡ Ok h)
passed true fault rest h is = absurd cc
passed false fault rest h is = (refl, is)

same_head : (g h : Head) → read_as g ≡ Ok h → g ≡ h
same_head g h is = cc

-- what bytes have of which a head is read
pub record HasHead (bytes : List ℕ) (h : Head) : Type 0 where
  pub count : HasCount bytes
  pub long : head_size (words_count bytes) ≤ length bytes
  pub own : has_its_sum (words_count bytes) bytes ≡ true
  pub found : head_in (words_count bytes) bytes ≡ h

pub has_head : (bytes : List ℕ) (h : Head) → head_reading bytes ≡ Ok h → HasHead bytes h
has_head bytes h is =
    let ok : Answer = Ok (head bytes) in
    let last : Answer = cond (another bytes) (Err BadSum) ok in
    let fourth : Answer = cond (cut bytes) (Err (Refused Truncated)) last in
    let third : Answer = cond (odd bytes) (Err (Refused BadCount)) fourth in
    let second : Answer = cond (short bytes) (Err (Refused Truncated)) third in
    let a = passed (wrong bytes) (Refused BadMagic) second h (sym (tested bytes) ∙ is) in
    let b = passed (short bytes) (Refused Truncated) third h a.1 in
    let c = passed (odd bytes) (Refused BadCount) fourth h b.1 in
    let d = passed (cut bytes) (Refused Truncated) last h c.1 in
    let e = passed (another bytes) BadSum ok h d.1 in
    let neither = or_parts (eqb (words_count bytes) 0) (ltb MAX_WORDS (words_count bytes)) c.0 in
    let some : words_count bytes ≢ 0 = eqb-false (words_count bytes) 0 neither.0 in
    record {
      count = record {
        right = not-false (begins_as_journal bytes) a.0;
        long = ltb-false (length bytes) 16 b.0;
        some = omega (arith, some);
        few = ltb-false MAX_WORDS (words_count bytes) neither.1;
      };
      long = ltb-false (length bytes) (head_size (words_count bytes)) d.0;
      own = not-false (has_its_sum (words_count bytes) bytes) e.0;
      found = same_head (head bytes) h e.1;
    }
