-- Batches that each end at a moment, and the later of two moments goes on from the earlier.
use Rattle.std.proofs.Common.{◌≡◌, ◌≢◌, ◌≤◌, ◌⊎◌, inl, inr, ◌++◌, ◌∷◌, [], ℕ, ◌+◌, Bool, true, false, eqb, if◌then◌else◌, List, length-append, true≢false, Result, Ok, Err, Some, length, take, refl, sym, ap, ◌∙◌, subst, append-nil, arith}
use Rattle.std.proofs.lemmas.Bool.{cases_eq, eq-eqb, ne_eqb}
use Rattle.std.proofs.lemmas.List.Sums.{fold-append}
use Rattle.std.proofs.lemmas.List.{take-append-le, take_all}
use Rattle.std.proofs.lemmas.List.Elements.{All-contains, All-nil, All-push}
use Rattle.std.specs.Prelude.{All, Contains, IfSome, None, OnErr, OnOk, Option, is_err}
use Rattle.words.specs.declared.refusal.Refusal.{Refusal}
use Rattle.persist.specs.declared.access.Change.{Change}
use Rattle.persist.specs.Noted.{applied, change_made}
use Rattle.journal.specs.Frame.{Batch}
use Rattle.journal.specs.Journal.{journal_of, words_after}
use Rattle.journal.specs.Reading.{ReadsAs}
use Rattle.journal.specs.Stops.{LeftByStop}
use Rattle.journal.proofs.Facts.{cut_is_left}
use Rattle.journal_file.specs.OnDevice.{HasMore, HasNoMore, IsOf, IsSomeJournal, KeepsAll, OnDevice}
use Rattle.journal_file.specs.Restart.{ReadsBeginning}
use Rattle.journal_file.proofs.Facts.{killed, running_if_known, stopped}
use Rattle.lasting.specs.Lasting.{AreMoments, Assures, EndsAtMomentOf, HasMoments, HasMomentsUntil, IsKept, IsKeptBy, Kept}
use Rattle.lasting.specs.Lasting.{ReadsLater, ReadsMoment, sure_session}
use Rattle.lasting.specs.Settling.{HasSettled, LastsBy, Settled, StandsAs}
use Rattle.lasting.specs.declared.policy.Policy.{Policy}
use Rattle.lasting.specs.declared.policy.Policy.TheVariants.{Always, EachSecond, Never}
use Rattle.session.specs.Promises.{KeepsNumbers}
use Rattle.session.specs.Sessions.{Sessioned}
use Rattle.session.specs.Telling.{IsSettledTold}
use Rattle.workers.specs.Moments.{GoesOnLater, HandedOn, IsMomentOf}
use Rattle.workers.proofs.Facts.{all_later, later_itself, later_still}

pub first_moment : (first : Sessioned) → KeepsNumbers first → IsSettledTold first
    → IsMomentOf first first first.broker.words.kept
first_moment first keeps told = record {
  words = refl;
  goes_on = later_itself first;
  promises = keeps;
  boots = keeps.broker.boots;
  told = told;
}

reads_moment : (first : Sessioned) (key base : List ℕ) (batches : List Batch) (count : ℕ) (session : ℕ → Sessioned)
    (bytes : List ℕ) → AreMoments first base batches session → ReadsBeginning key base batches count bytes
    → ReadsMoment first key base batches count session bytes
reads_moment first key base batches count session bytes moments reads = record {
  whole = reads.whole;
  those = reads.those;
  some = reads.some;
  cut = reads.cut;
  read = reads.read;
  moment = moments.each reads.whole reads.some;
  later = λ m few. moments.later m reads.whole few reads.some;
}

pub stopped_moment : (first : Sessioned) (key base : List ℕ) (batches : List Batch) (count : ℕ) (j : OnDevice)
    (session : ℕ → Sessioned) (left : List ℕ) → AreMoments first base batches session → IsOf key base batches count j
    → LeftByStop key base batches j.kept left → ReadsMoment first key base batches count session left
stopped_moment first key base batches count j session left moments of stop =
    reads_moment first key base batches count session left moments (stopped key base batches count j left of stop)

pub killed_moment : (first : Sessioned) (key base : List ℕ) (batches : List Batch) (count : ℕ) (j : OnDevice)
    (session : ℕ → Sessioned) (bytes : List ℕ) (n : ℕ) → AreMoments first base batches session
    → IsOf key base batches count j → j.failed ≡ false → j.appended ≡ Some bytes → j.lasting ≤ n
    → ReadsMoment first key base batches count session (take n bytes)
killed_moment first key base batches count j session bytes n moments of going has lasting =
    reads_moment first key base batches count session (take n bytes) moments
    (killed key base batches count j bytes n of going has lasting)

-- the sessions, with another one for so many batches
abbrev pub with_session : (ℕ → Sessioned) → ℕ → Sessioned → ℕ → Sessioned
with_session session at last n = if eqb n at then last else session n

pub with_here : (session : ℕ → Sessioned) (at : ℕ) (last : Sessioned) (n : ℕ) → n ≡ at → with_session session at last n ≡ last
with_here session at last n same = ap (λ (b : Bool). if b then last else session n) (eq-eqb n at same)

pub with_else : (session : ℕ → Sessioned) (at : ℕ) (last : Sessioned) (n : ℕ) → n ≢ at
    → with_session session at last n ≡ session n
with_else session at last n apart = ap (λ (b : Bool). if b then last else session n) (ne_eqb n at apart)

-- no batch
pub moments_first : (first last : Sessioned) (base : List ℕ) → IsMomentOf first last base
    → AreMoments first base [] (λ n. last)
moments_first first last base moment = record {
  each = λ n few.
      let none : n ≡ 0 = omega (arith, few) in
      subst (λ (k : ℕ). IsMomentOf first last (words_after (take k []) base)) (sym none) moment;
  later = λ m n less few. later_itself last;
}

pub words_after_more : (batches : List Batch) (batch : Batch) (base : List ℕ)
    → words_after (batches ++ batch ∷ []) base ≡ applied batch.changes (words_after batches base)
words_after_more [] batch base = refl
words_after_more (other ∷ batches) batch base = words_after_more batches batch (applied other.changes base)

-- the last one, of all these batches, is of a session that goes on from what was the last one: at the same words, or
-- with one batch more
module _ (first last : Sessioned) (base : List ℕ) (old new : List Batch) (session : ℕ → Sessioned) (top : ℕ)
    (is_top : length new ≡ top) (moments : AreMoments first base old session)
    (before : (n : ℕ) → n ≤ length new → n ≢ top → (n ≤ length old) × (take n new ≡ take n old))
    (on : GoesOnLater (session (length old)) last) (moment : IsMomentOf first last (words_after new base)) where
  abbrev pub now : ℕ → Sessioned
  now = with_session session top last

  all : (n : ℕ) → n ≡ top → take n new ≡ new
  all n same = take_all n new (omega (arith, same, is_top))

  each_now : (n : ℕ) → n ≤ length new → (n ≡ top) ⊎ (n ≢ top) → IsMomentOf first (now n) (words_after (take n new) base)
  each_now n few (inl same) =
      subst (λ (s : Sessioned). IsMomentOf first s (words_after (take n new) base)) (sym (with_here session top last n same))
      (subst (λ (bs : List Batch). IsMomentOf first last (words_after bs base)) (sym (all n same)) moment)
  each_now n few (inr apart) =
      let was = before n few apart in
      subst (λ (s : Sessioned). IsMomentOf first s (words_after (take n new) base)) (sym (with_else session top last n apart))
      (subst (λ (bs : List Batch). IsMomentOf first (session n) (words_after bs base)) (sym was.1) (moments.each n was.0))

  later_now : (m n : ℕ) → m ≤ n → n ≤ length new → (m ≡ top) ⊎ (m ≢ top) → (n ≡ top) ⊎ (n ≢ top)
      → GoesOnLater (now m) (now n)
  later_now m n less few (inl one) (inl other) =
      subst (λ (s : Sessioned). GoesOnLater s (now n)) (with_here session top last n other ∙ sym (with_here session top last m one))
      (later_itself (now n))
  later_now m n less few (inl one) (inr other) = absurd (other (omega (arith, less, few, one, is_top)))
  later_now m n less few (inr one) (inl other) =
      let was = before m (omega (arith, less, few)) one in
      subst (λ (s : Sessioned). GoesOnLater s (now n)) (sym (with_else session top last m one))
      (subst (λ (s : Sessioned). GoesOnLater (session m) s) (sym (with_here session top last n other))
      (later_still (session m) (session (length old)) last (moments.later m (length old) was.0 (omega arith)) on))
  later_now m n less few (inr one) (inr other) =
      let was = before n few other in
      subst (λ (s : Sessioned). GoesOnLater s (now n)) (sym (with_else session top last m one))
      (subst (λ (s : Sessioned). GoesOnLater (session m) s) (sym (with_else session top last n other))
      (moments.later m n less was.0))

  pub moments_last : AreMoments first base new now
  moments_last = record {
    each = λ n few. each_now n few (cases_eq n top);
    later = λ m n less few. later_now m n less few (cases_eq m top) (cases_eq n top);
  }

  moments_latest : now (length new) ≡ last
  moments_latest = with_here session top last (length new) is_top

-- one batch more
pub batches_before : (batches : List Batch) (batch : Batch) (n : ℕ) → n ≤ length (batches ++ batch ∷ [])
    → n ≢ length (batches ++ batch ∷ [])
    → (n ≤ length batches) × (take n (batches ++ batch ∷ []) ≡ take n batches)
batches_before batches batch n few apart =
    let long : length (batches ++ batch ∷ []) ≡ length batches + 1 = length-append batches (batch ∷ []) in
    let less : n ≤ length batches = omega (arith, few, long, apart) in
    (less, take-append-le n batches (batch ∷ []) less)

-- a journal that begins at a moment
abbrev pub begins : (first last : Sessioned) (key base : List ℕ) (j : OnDevice) → IsMomentOf first last base
    → IsOf key base [] 0 j → EndsAtMomentOf first last j
begins first last key base j moment of = record {
  has = record {
    key = key;
    base = base;
    batches = [];
    count = 0;
    session = λ n. last;
    of = of;
    moments = moments_first first last base moment;
  };
  latest = refl;
}

-- one that ends at the moment of a session has moments until then
abbrev pub ends_until : (first last : Sessioned) (j : OnDevice) → EndsAtMomentOf first last j → HasMomentsUntil first last j
ends_until first last j ends = record {
  has = ends.has;
  later = subst (GoesOnLater (ends.has.session (length ends.has.batches))) ends.latest
      (later_itself (ends.has.session (length ends.has.batches)));
}

-- one that has a batch more, whose changes lead to a moment
abbrev pub has_more : (first last : Sessioned) (batch : Batch) (old new : OnDevice) → HasMomentsUntil first last old
    → HasMore batch old new → IsMomentOf first last (applied batch.changes old.words) → EndsAtMomentOf first last new
has_more first last batch old new until more moment =
    let has = until.has in
    let batches = has.batches ++ batch ∷ [] in
    let there : IsMomentOf first last (words_after batches has.base) =
    subst (IsMomentOf first last) (sym (words_after_more has.batches batch has.base))
    (subst (λ (ws : List ℕ). IsMomentOf first last (applied batch.changes ws)) has.of.words moment) in
    record {
      has = record {
        key = has.key;
        base = has.base;
        batches = batches;
        count = has.count;
        session = with_session has.session (length batches) last;
        of = more has.key has.base has.batches has.count has.of;
        moments = moments_last first last has.base has.batches batches has.session (length batches) refl has.moments
            (batches_before has.batches batch) until.later there;
      };
      latest = with_here has.session (length batches) last (length batches) refl;
    }

-- the last moment is of a session that goes on from what was the last one, at the same words
pub has_same : (first was last : Sessioned) (j : OnDevice) → EndsAtMomentOf first was j → GoesOnLater was last
    → IsMomentOf first last j.words → EndsAtMomentOf first last j
has_same first was last j ends on moment =
    let has = ends.has in
    let top = length has.batches in
    record {
      has = record {
        key = has.key;
        base = has.base;
        batches = has.batches;
        count = has.count;
        session = with_session has.session top last;
        of = has.of;
        moments = moments_last first last has.base has.batches has.batches has.session top refl has.moments
            (λ n few apart. (few, refl))
            (subst (λ (s : Sessioned). GoesOnLater s last) (sym ends.latest) on)
            (subst (IsMomentOf first last) has.of.words moment);
      };
      latest = with_here has.session top last top refl;
    }

-- the same batches, of which other ones were there when all was last kept
abbrev has_count : (first : Sessioned) (old new : OnDevice) (has : HasMoments first old) (count : ℕ)
    → IsOf has.key has.base has.batches count new → HasMoments first new
has_count first old new has count of = record {
  key = has.key;
  base = has.base;
  batches = has.batches;
  count = count;
  session = has.session;
  of = of;
  moments = has.moments;
}

abbrev pub until_no_more : (first last : Sessioned) (old new : OnDevice) → HasMomentsUntil first last old → HasNoMore old new
    → HasMomentsUntil first last new
until_no_more first last old new until same =
    let has = until.has in
    record {
      has = has_count first old new has has.count (same has.key has.base has.batches has.count has.of);
      later = until.later;
    }

pub ends_no_more : (first last : Sessioned) (old new : OnDevice) → EndsAtMomentOf first last old → HasNoMore old new
    → EndsAtMomentOf first last new
ends_no_more first last old new ends same =
    let has = ends.has in
    record {
      has = has_count first old new has has.count (same has.key has.base has.batches has.count has.of);
      latest = ends.latest;
    }

abbrev pub until_kept : (first last : Sessioned) (old new : OnDevice) → HasMomentsUntil first last old → KeepsAll old new
    → HasMomentsUntil first last new
until_kept first last old new until keeps =
    let has = until.has in
    record {
      has = has_count first old new has (length has.batches) (keeps has.key has.base has.batches has.count has.of);
      later = until.later;
    }

pub ends_kept : (first last : Sessioned) (old new : OnDevice) → EndsAtMomentOf first last old → KeepsAll old new
    → EndsAtMomentOf first last new
ends_kept first last old new ends keeps =
    let has = ends.has in
    record {
      has = has_count first old new has (length has.batches) (keeps has.key has.base has.batches has.count has.of);
      latest = ends.latest;
    }

-- where nothing is pending it has all
pub kept_all : (first : Sessioned) (k : Kept) → IsKept first k → k.pending ≡ []
    → k.journal.words ≡ applied k.handed first.broker.words.kept
kept_all first k is none =
    is.words ∙ ap (λ (cs : List Change). applied cs first.broker.words.kept)
    (sym (is.split ∙ (ap (λ (cs : List Change). is.done ++ cs) none ∙ append-nil is.done)))

-- what it has once the pending changes are made
pub pending_made : (first : Sessioned) (k : Kept) → IsKept first k
    → applied k.handed first.broker.words.kept ≡ applied k.pending k.journal.words
pending_made first k is =
    ap (λ (cs : List Change). applied cs first.broker.words.kept) is.split
    ∙ (fold-append change_made first.broker.words.kept is.done k.pending ∙ ap (applied k.pending) (sym is.words))

-- the journal's words are those of a moment
pub moment_now : (first last : Sessioned) (j : OnDevice) (until : HasMomentsUntil first last j)
    → IsMomentOf first (until.has.session (length until.has.batches)) j.words
moment_now first last j until =
    let has = until.has in
    subst (IsMomentOf first (has.session (length has.batches)))
    (ap (λ (bs : List Batch). words_after bs has.base) (take_all (length has.batches) has.batches (omega arith)) ∙ sym has.of.words)
    (has.moments.each (length has.batches) (omega arith))

-- a journal of no batch is kept whole
pub kept_whole : (key base : List ℕ) (j : OnDevice) → IsOf key base [] 0 j → j.kept ≡ j.size
kept_whole key base j of = of.kept ∙ sym of.size

-- what is so is so of an answer
pub ok_so : {A P : Type 0} {E : Type 0} (result : Result A E) → P → OnOk result P
ok_so (Ok done) so = so
ok_so (Err e) so = tt

-- what an answer that is no refusal says
pub on_ok : {T : Type 0} (P : Type 0) (answer : Result T Refusal) → is_err answer ≡ false → OnOk answer P → P
on_ok {T} P (Ok done) fine holds = holds
on_ok {T} P (Err refusal) fine holds = absurd (true≢false fine)

-- the last session goes on from the one that a stop leaves
pub sure_before : (first last : Sessioned) (policy : Policy) (j : OnDevice) (until : HasMomentsUntil first last j)
    → GoesOnLater (sure_session first j policy until.has) last
sure_before first last Always j until =
    let has = until.has in
    later_still (has.session has.count) (has.session (length has.batches)) last
    (has.moments.later has.count (length has.batches) has.of.some (omega arith)) until.later
sure_before first last EachSecond j until = until.later
sure_before first last Never j until = until.later

-- that one goes on from what it was, where the journal has no batch more
sure_no_more : (first last : Sessioned) (policy : Policy) (old new : OnDevice) (until : HasMomentsUntil first last old)
    (same : HasNoMore old new)
    → GoesOnLater (sure_session first old policy until.has)
    (sure_session first new policy (until_no_more first last old new until same).has)
sure_no_more first last Always old new until same = later_itself (until.has.session until.has.count)
sure_no_more first last EachSecond old new until same = later_itself (until.has.session (length until.has.batches))
sure_no_more first last Never old new until same = later_itself (until.has.session (length until.has.batches))

-- where all are kept
sure_kept : (first last : Sessioned) (policy : Policy) (old new : OnDevice) (until : HasMomentsUntil first last old)
    (keeps : KeepsAll old new)
    → GoesOnLater (sure_session first old policy until.has)
    (sure_session first new policy (until_kept first last old new until keeps).has)
sure_kept first last Always old new until keeps =
    let has = until.has in
    has.moments.later has.count (length has.batches) has.of.some (omega arith)
sure_kept first last EachSecond old new until keeps = later_itself (until.has.session (length until.has.batches))
sure_kept first last Never old new until keeps = later_itself (until.has.session (length until.has.batches))

-- where it has one more
sure_more : (first last : Sessioned) (policy : Policy) (batch : Batch) (old new : OnDevice)
    (until : HasMomentsUntil first last old) (more : HasMore batch old new)
    (moment : IsMomentOf first last (applied batch.changes old.words))
    → GoesOnLater (sure_session first old policy until.has)
    (sure_session first new policy (has_more first last batch old new until more moment).has)
sure_more first last Always batch old new until more moment =
    let has = until.has in
    let top = length (has.batches ++ batch ∷ []) in
    let apart : has.count ≢ top = λ same. omega (arith, same, has.of.some, length-append has.batches (batch ∷ [])) in
    subst (GoesOnLater (has.session has.count)) (sym (with_else has.session top last has.count apart))
    (later_itself (has.session has.count))
sure_more first last EachSecond batch old new until more moment =
    let top = length (until.has.batches ++ batch ∷ []) in
    subst (GoesOnLater (until.has.session (length until.has.batches))) (sym (with_here until.has.session top last top refl))
    until.later
sure_more first last Never batch old new until more moment =
    let top = length (until.has.batches ++ batch ∷ []) in
    subst (GoesOnLater (until.has.session (length until.has.batches))) (sym (with_here until.has.session top last top refl))
    until.later

-- all are kept
all_kept : (key base : List ℕ) (batches : List Batch) (count : ℕ) (j : OnDevice) → IsOf key base batches count j
    → j.kept ≡ j.size → IsOf key base batches (length batches) j
all_kept key base batches count j of same = record {
  journal = of.journal;
  words = of.words;
  size = of.size;
  some = omega arith;
  kept = same ∙ of.size
      ∙ ap (λ (bs : List Batch). length (journal_of key base bs)) (sym (take_all (length batches) batches (omega arith)));
  going = of.going;
  over = of.over;
}

-- a journal that ends at a moment, and is kept as the policy says: a stop leaves the session of that moment
record IsSure (first last : Sessioned) (policy : Policy) (j : OnDevice) : Type 0 where
  until : HasMomentsUntil first last j
  sure : sure_session first j policy until.has ≡ last

sure_at_end : (first last : Sessioned) (policy : Policy) (j : OnDevice) → EndsAtMomentOf first last j → IsKeptBy policy j
    → IsSure first last policy j
sure_at_end first last Always j ends kept =
    let has = ends.has in
    let all : HasMoments first j = has_count first j j has (length has.batches)
    (all_kept has.key has.base has.batches has.count j has.of kept) in
    record { until = ends_until first last j (record { has = all; latest = ends.latest }); sure = ends.latest }
sure_at_end first last EachSecond j ends kept = record { until = ends_until first last j ends; sure = ends.latest }
sure_at_end first last Never j ends kept = record { until = ends_until first last j ends; sure = ends.latest }

-- each session that was assured
abbrev AreSure : (first : Sessioned) (j : OnDevice) → Policy → HasMoments first j → List Sessioned → Type 0
AreSure first j policy has assured = All (λ s. GoesOnLater s (sure_session first j policy has)) assured

-- a journal that ends at the moment of the last hand-on, and nothing is pending
kept_ending : (first last : Sessioned) (policy : Policy) (handed pending : List Change) (j : OnDevice)
    (assured : List Sessioned) → pending ≡ [] → j.words ≡ applied handed first.broker.words.kept
    → IsMomentOf first last (applied handed first.broker.words.kept) → (ends : EndsAtMomentOf first last j)
    → AreSure first j policy ends.has assured
    → IsKept first (record {
      policy = policy;
      handed = handed;
      last = last;
      pending = pending;
      journal = j;
      assured = assured;
    })
kept_ending first last policy handed pending j assured none words moment ends sure = record {
  done = handed;
  split = sym (append-nil handed) ∙ ap (λ (cs : List Change). handed ++ cs) (sym none);
  words = words;
  now = moment;
  journal = ends_until first last j ends;
  latest = λ empty. ends;
  assured = sure;
}

-- it begins
pub kept_begun : (first : Sessioned) (policy : Policy) (handed : HandedOn) (pending : List Change) (key words : List ℕ)
    (j : OnDevice) → pending ≡ [] → words ≡ applied handed.changes first.broker.words.kept
    → IsMomentOf first handed.last words → handed.assured ≡ [] → IsOf key words [] 0 j
    → IsKept first (record {
      policy = policy;
      handed = handed.changes;
      last = handed.last;
      pending = pending;
      journal = j;
      assured = handed.assured;
    })
kept_begun first policy handed pending key words j none made moment nothing of =
    let ends = begins first handed.last key words j moment of in
    kept_ending first handed.last policy handed.changes pending j handed.assured none (of.words ∙ made)
    (subst (IsMomentOf first handed.last) made moment) ends
    (subst (AreSure first j policy ends.has) (sym nothing)
    (All-nil (λ s. GoesOnLater s (sure_session first j policy ends.has))))

-- what was pending was appended
pub kept_appended : (first : Sessioned) (k : Kept) (new : OnDevice) (pending changes : List Change) → IsKept first k
    → pending ≡ [] → changes ≡ k.pending → HasMore (record { kept = k.journal.kept; changes = changes }) k.journal new
    → new.words ≡ applied changes k.journal.words
    → IsKept first (record k { pending = pending; journal = new })
kept_appended first k new pending changes is none those more words =
    let batch : Batch = record { kept = k.journal.kept; changes = changes } in
    let made : applied k.handed first.broker.words.kept ≡ applied changes k.journal.words =
    pending_made first k is ∙ ap (λ (cs : List Change). applied cs k.journal.words) (sym those) in
    let moment : IsMomentOf first k.last (applied changes k.journal.words) = subst (IsMomentOf first k.last) made is.now in
    kept_ending first k.last k.policy k.handed pending new k.assured none (words ∙ sym made) is.now
    (has_more first k.last batch k.journal new is.journal more moment)
    (all_later k.assured _ _ is.assured (sure_more first k.last k.policy batch k.journal new is.journal more moment))

-- it was not, or something else of the storage changed
pub kept_no_more : (first : Sessioned) (k : Kept) (new : OnDevice) → IsKept first k → HasNoMore k.journal new
    → new.words ≡ k.journal.words → IsKept first (record k { journal = new })
kept_no_more first k new is same words = record {
  done = is.done;
  split = is.split;
  words = words ∙ is.words;
  now = is.now;
  journal = until_no_more first k.last k.journal new is.journal same;
  latest = λ none. ends_no_more first k.last k.journal new (is.latest none) same;
  assured = all_later k.assured _ _ is.assured (sure_no_more first k.last k.policy k.journal new is.journal same);
}

pub kept_kept : (first : Sessioned) (k : Kept) (new : OnDevice) → IsKept first k → KeepsAll k.journal new
    → new.words ≡ k.journal.words → IsKept first (record k { journal = new })
kept_kept first k new is keeps words = record {
  done = is.done;
  split = is.split;
  words = words ∙ is.words;
  now = is.now;
  journal = until_kept first k.last k.journal new is.journal keeps;
  latest = λ none. ends_kept first k.last k.journal new (is.latest none) keeps;
  assured = all_later k.assured _ _ is.assured (sure_kept first k.last k.policy k.journal new is.journal keeps);
}

-- by a keep
pub kept_keeping : {T : Type 0} (first : Sessioned) (k : Kept) (new : OnDevice) (answer : Result T Refusal) → IsKept first k
    → OnOk answer (KeepsAll k.journal new) → OnErr answer (HasNoMore k.journal new) → new.words ≡ k.journal.words
    → IsKept first (record k { journal = new })
kept_keeping {T} first k new (Ok done) is keeps same words = kept_kept first k new is keeps words
kept_keeping {T} first k new (Err refusal) is keeps same words = kept_no_more first k new is same words

-- and one whose place told that it is still its own, or did not
pub kept_confirmed : {T : Type 0} (first : Sessioned) (k : Kept) (new : OnDevice) (answer : Result T Refusal) → IsKept first k
    → OnOk answer (new ≡ k.journal) → OnErr answer (HasNoMore k.journal new) → new.words ≡ k.journal.words
    → IsKept first (record k { journal = new })
kept_confirmed {T} first k new (Ok done) is same no_more words = subst (λ (j : OnDevice). IsKept first (record k { journal = j })) (sym same) is
kept_confirmed {T} first k new (Err refusal) is same no_more words = kept_no_more first k new is no_more words

-- more was handed on, where nothing was pending: the moment goes on from that of the hand-on before
pub kept_more : (first : Sessioned) (k : Kept) (last : Sessioned) (handed batch : List Change) (assured : List Sessioned)
    → IsKept first k → k.pending ≡ [] → handed ≡ k.handed ++ batch
    → IsMomentOf first last (applied handed first.broker.words.kept) → GoesOnLater k.last last → assured ≡ k.assured
    → IsKept first (record k { handed = handed; last = last; pending = batch; assured = assured })
kept_more first k last handed batch assured is none more moment on those =
    let all = kept_all first k is none in
    let has = is.journal.has in
    record {
      done = k.handed;
      split = more;
      words = all;
      now = moment;
      journal = record {
        has = has;
        later = later_still (has.session (length has.batches)) k.last last is.journal.later on;
      };
      latest = λ empty.
          let same : handed ≡ k.handed = more ∙ (ap (λ (cs : List Change). k.handed ++ cs) empty ∙ append-nil k.handed) in
          has_same first k.last last k.journal (is.latest none) on
          (subst (IsMomentOf first last)
          (ap (λ (cs : List Change). applied cs first.broker.words.kept) same ∙ sym all) moment);
      assured = subst (AreSure first k.journal k.policy has) (sym those) is.assured;
    }

-- a session is assured from which that of the last hand-on goes on, and nothing is pending
pub kept_assured : (first : Sessioned) (k : Kept) (s : Sessioned) → IsKept first k → k.pending ≡ []
    → IsKeptBy k.policy k.journal → GoesOnLater s k.last → IsKept first (record k { assured = k.assured ++ s ∷ [] })
kept_assured first k s is none kept on =
    let sure = sure_at_end first k.last k.policy k.journal (is.latest none) kept in
    record {
      done = is.done;
      split = is.split;
      words = is.words;
      now = is.now;
      journal = sure.until;
      latest = is.latest;
      assured = subst (λ (last : Sessioned). All (λ t. GoesOnLater t last) (k.assured ++ s ∷ [])) (sym sure.sure)
          (All-push (λ t. GoesOnLater t k.last) k.assured s
          (all_later k.assured _ _ is.assured (sure_before first k.last k.policy k.journal is.journal)) on);
    }

-- so each that was assured is so
pub kept_assures : (first : Sessioned) (k : Kept) (s : Sessioned) → IsKept first k → Contains k.assured s
    → Assures first k.policy s k.journal
kept_assures first k s is there = record {
  has = is.journal.has;
  later = All-contains (λ t. GoesOnLater t (sure_session first k.journal k.policy is.journal.has)) k.assured s is.assured there;
}

-- and the last hand-on goes on from it
pub kept_heard : (first : Sessioned) (k : Kept) (s : Sessioned) → IsKept first k → Contains k.assured s → GoesOnLater s k.last
kept_heard first k s is there =
    let sure = sure_session first k.journal k.policy is.journal.has in
    later_still s sure k.last (All-contains (λ t. GoesOnLater t sure) k.assured s is.assured there)
    (sure_before first k.last k.policy k.journal is.journal)

-- it goes on as its words and no batch
sure_compacted : (first last : Sessioned) (policy : Policy) (key : List ℕ) (old new : OnDevice)
    (until : HasMomentsUntil first last old) (of : IsOf key old.words [] 0 new)
    → GoesOnLater (sure_session first old policy until.has)
    (sure_session first new policy
    (begins first (until.has.session (length until.has.batches)) key old.words new (moment_now first last old until) of).has)
sure_compacted first last Always key old new until of =
    let has = until.has in
    has.moments.later has.count (length has.batches) has.of.some (omega arith)
sure_compacted first last EachSecond key old new until of = later_itself (until.has.session (length until.has.batches))
sure_compacted first last Never key old new until of = later_itself (until.has.session (length until.has.batches))

pub kept_compacted : (first : Sessioned) (k : Kept) (key : List ℕ) (new : OnDevice) → IsKept first k
    → IsOf key k.journal.words [] 0 new → IsKept first (record k { journal = new })
kept_compacted first k key new is of =
    let until = is.journal in
    let was = until.has.session (length until.has.batches) in
    let ends : EndsAtMomentOf first was new =
    begins first was key k.journal.words new (moment_now first k.last k.journal until) of in
    record {
      done = is.done;
      split = is.split;
      words = of.words ∙ is.words;
      now = is.now;
      journal = record { has = ends.has; later = until.later };
      latest = λ none.
          let before = is.latest none in
          let at : HasMomentsUntil first k.last k.journal = ends_until first k.last k.journal before in
          begins first k.last key k.journal.words new
          (subst (λ (s : Sessioned). IsMomentOf first s k.journal.words) before.latest (moment_now first k.last k.journal at)) of;
      assured = all_later k.assured _ _ is.assured (sure_compacted first k.last k.policy key k.journal new until of);
    }

-- by a compaction
pub kept_compacting : {E : Type 0} (first : Sessioned) (k : Kept) (key : List ℕ) (new : OnDevice) (answer : Result (Unit {0}) E)
    → IsKept first k → OnOk answer (IsOf key k.journal.words [] 0 new) → OnErr answer (HasNoMore k.journal new)
    → new.words ≡ k.journal.words → IsKept first (record k { journal = new })
kept_compacting {E} first k key new (Ok done) is of same words = kept_compacted first k key new is of
kept_compacting {E} first k key new (Err e) is of same words = kept_no_more first k new is same words

-- what a stop leaves of a journal that assures a session, also of power where the policy is to keep always
pub stopped_later : (first s : Sessioned) (j : OnDevice) (left : List ℕ) (a : Assures first Always s j)
    → LeftByStop a.has.key a.has.base a.has.batches j.kept left → ReadsLater first s j a.has left
stopped_later first s j left a stop =
    let has = a.has in
    let reads = stopped_moment first has.key has.base has.batches has.count j has.session left has.moments has.of stop in
    record {
      reads = reads;
      later = later_still s (has.session has.count) (has.session reads.whole) a.later (reads.later has.count reads.those);
    }

-- as if all had been kept, in a storage of which nothing is known
whole_kept : (key base : List ℕ) (batches : List Batch) (count : ℕ) (j : OnDevice) → IsOf key base batches count j
    → IsOf key base batches (length batches) (record j { kept = j.size; appended = None; failed = true })
whole_kept key base batches count j of = record {
  journal = of.journal;
  words = of.words;
  size = of.size;
  some = omega arith;
  kept = of.size
      ∙ ap (λ (bs : List Batch). length (journal_of key base bs)) (sym (take_all (length batches) batches (omega arith)));
  going = λ going. absurd (true≢false going);
  over = λ failed. tt;
}

-- what a kill leaves of it, whatever the policy is
pub killed_later : (first s : Sessioned) (policy : Policy) (j : OnDevice) (left : List ℕ) (a : Assures first policy s j)
    → LeftByStop a.has.key a.has.base a.has.batches j.size left → ReadsLater first s j a.has left
killed_later first s policy j left a stop =
    let has = a.has in
    let whole_j : OnDevice = record j { kept = j.size; appended = None; failed = true } in
    let reads = stopped_moment first has.key has.base has.batches (length has.batches) whole_j has.session left has.moments
    (whole_kept has.key has.base has.batches has.count j has.of) stop in
    let few : has.count ≤ reads.whole = omega (arith, has.of.some, reads.those) in
    record {
      reads = record {
        whole = reads.whole;
        those = few;
        some = reads.some;
        cut = reads.cut;
        read = reads.read;
        moment = reads.moment;
        later = reads.later;
      };
      later = later_still s (sure_session first j policy has) (has.session reads.whole) a.later
          (sure_read policy (reads.later has.count few) (reads.later (length has.batches) reads.those));
    }
  where
    sure_read : (p : Policy) {last : Sessioned} → GoesOnLater (a.has.session a.has.count) last
        → GoesOnLater (a.has.session (length a.has.batches)) last → GoesOnLater (sure_session first j p a.has) last
    sure_read Always one other = one
    sure_read EachSecond one other = other
    sure_read Never one other = other

-- what stands at the place of a storage that has not failed is its text, of which nothing is lost
all_is_left : (key base : List ℕ) (batches : List Batch) (count : ℕ) (j : OnDevice) (bytes : List ℕ) → IsOf key base batches count j
    → j.failed ≡ false → j.appended ≡ Some bytes → LeftByStop key base batches j.size bytes
all_is_left key base batches count j bytes of going known =
    let text : bytes ≡ journal_of key base batches =
    subst (λ (o : Option (List ℕ)). IfSome o (λ xs. xs ≡ journal_of key base batches)) known (of.going going).text in
    let all : take (length batches) batches ≡ batches = take_all (length batches) batches (omega arith) in
    let whole : length (journal_of key base (take (length batches) batches)) ≡ length (journal_of key base batches) =
    ap (λ (bs : List Batch). length (journal_of key base bs)) all in
    subst (λ (xs : List ℕ). LeftByStop key base batches j.size xs) (sym text)
    (subst (λ (n : ℕ). LeftByStop key base batches n (journal_of key base batches)) (whole ∙ sym of.size)
    (subst (λ (xs : List ℕ). LeftByStop key base batches (length (journal_of key base (take (length batches) batches))) xs)
    (take_all (length (journal_of key base batches)) (journal_of key base batches) (omega arith))
    (cut_is_left key base batches (length (journal_of key base batches)) (length batches) of.journal (omega (arith, whole)))))

pub there_later : (first s : Sessioned) (policy : Policy) (j : OnDevice) (bytes : List ℕ) (a : Assures first policy s j)
    → j.failed ≡ false → j.appended ≡ Some bytes → ReadsLater first s j a.has bytes
there_later first s policy j bytes a going known =
    let has = a.has in
    killed_later first s policy j bytes a (all_is_left has.key has.base has.batches has.count j bytes has.of going known)

-- a beginning of it that has all that was kept
pub lost_later : (first s : Sessioned) (j : OnDevice) (bytes : List ℕ) (n : ℕ) (a : Assures first Always s j)
    → j.failed ≡ false → j.appended ≡ Some bytes → j.lasting ≤ n → ReadsLater first s j a.has (take n bytes)
lost_later first s j bytes n a going known long =
    let has = a.has in
    let reads =
    killed_moment first has.key has.base has.batches has.count j has.session bytes n has.moments has.of going known long in
    record {
      reads = reads;
      later = later_still s (has.session has.count) (has.session reads.whole) a.later (reads.later has.count reads.those);
    }

-- what is settled stands there
stands_as : (known : Option (List ℕ)) (key words : List ℕ) → IfSome known (ReadsAs key words 0)
    → IfSome known (λ bytes. (other : List ℕ) × ReadsAs other words 0 bytes)
stands_as None key words read = tt
stands_as (Some bytes) key words read = (key, read)

pub settled_there : (first : Sessioned) (s : Settled) → IsSomeJournal s.kept.journal → HasSettled first s
    → StandsAs (applied s.kept.handed first.broker.words.kept) s.kept.journal
settled_there first s of settled =
    stands_as s.kept.journal.appended of.0 (applied s.kept.handed first.broker.words.kept)
    (running_if_known of.0 of.1 of.2 of.3 s.kept.journal (applied s.kept.handed first.broker.words.kept) of.4 settled.going settled.words)

lasts_as : (known : Option (List ℕ)) (text : List ℕ) (kept lasting : ℕ) → IfSome known (λ bytes. bytes ≡ text)
    → IfSome known (λ bytes. kept ≤ lasting) → length text ≤ kept → IfSome known (λ bytes. length bytes ≤ lasting)
lasts_as None text kept lasting there some all = tt
lasts_as (Some bytes) text kept lasting there some all = omega (arith, some, all, ap (λ (xs : List ℕ). length xs) there)

pub settled_lasts : (first : Sessioned) (k : Kept) (policy : Policy) (failed : Bool) → IsSomeJournal k.journal
    → HasSettled first (record { kept = k; policy = policy; failed = failed }) → LastsBy policy k.journal
settled_lasts first k Always failed of settled =
    let on = (of.4).going settled.going in
    lasts_as k.journal.appended (journal_of of.0 of.1 of.2) k.journal.kept k.journal.lasting on.text on.lasting
    (omega (arith, (of.4).size, settled.by_policy))
settled_lasts first k EachSecond failed of settled = tt
settled_lasts first k Never failed of settled = tt
