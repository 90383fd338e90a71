use Rattle.std.proofs.Common.{◌≡◌, ◌++◌, ℕ, ◌+◌, List, [], ◌∷◌, map, sym, ap, subst, ◌∙◌, arith}
use Rattle.std.specs.List.{range_with_len}
use Rattle.std.proofs.lemmas.List.{append-nil, append_assoc}
use Rattle.std.proofs.lemmas.List.FromFn.{map-range_with_len_more}
use Rattle.arena.specs.Broker.{block_size_of}
use Rattle.arena.specs.Shape.{Shape}
use Rattle.arena.specs.declared.form.Form.TheVariants.{OfValues}
use Rattle.sound_words.specs.Kept.{Kept, kept_by, kept_of}
use Rattle.migration.specs.Words.{block_migrated, word_migrated}
use Rattle.migration.proofs.block.add_block.Invariants.{IsAddedUpTo}
use Rattle.migration.proofs.block.add_block.Goals as goal

one_more : (queue : Kept) (old new : List ℕ) (word x : ℕ) → IsAddedUpTo queue old new word
    → x ≡ word_migrated queue.shape (kept_of queue) word → IsAddedUpTo queue old (new ++ x ∷ []) (word + 1)
one_more queue old new word x h is =
    let f : ℕ → ℕ = word_migrated queue.shape (kept_of queue) in record {
      added =
          ap (λ (l : List ℕ). l ++ x ∷ []) h.added ∙ append_assoc old (map f (range_with_len 0 word)) (x ∷ [])
          ∙ ap (λ (y : ℕ). old ++ (map f (range_with_len 0 word) ++ y ∷ [])) is
          ∙ ap (λ (l : List ℕ). old ++ l) (sym (map-range_with_len_more f 0 word word (omega arith)));
    }

-- all of them are a migrated block
all_added : (s : Shape) (words old new : List ℕ) (end : ℕ) → end ≡ block_size_of s.clients s.records
    → IsAddedUpTo (record { form = OfValues; shape = s; words = words }) old new end
    → new ≡ old ++ block_migrated s.kind (record { clients = s.clients; records = s.records }) words
unfolding block_migrated
all_added s words old new end is h =
    h.added ∙ ap (λ (n : ℕ). old ++ map (word_migrated s (kept_by OfValues s words)) (range_with_len 0 n)) is

pub loop-word-init : goal.loop-word-init
loop-word-init g c = record { added = sym (append-nil _) }

pub loop-word-preserved : goal.loop-word-preserved
loop-word-preserved g c =
    let queue : Kept = c.of_values-queue.result in
    let shape : queue.shape ≡ c.args.layout.now = ap (λ (q : Kept). q.shape) c.of_values-queue.ensures in
    subst (λ (l : List ℕ). IsAddedUpTo queue c.args.words.now.items l (c.loop-word.word + 1)) (sym c.in_ok-push.ensures.items)
    (one_more queue c.args.words.now.items c.loop-word.words.items c.loop-word.word c.word_at.result c.loop-word.invariant
    (c.word_at.ensures ∙ sym (ap (λ (s : Shape). word_migrated s (kept_of queue) c.loop-word.word) shape)))

pub returns : goal.returns
returns g c =
    let s : Shape = c.args.layout.now in
    let last : c.loop-word.word ≡ c.block_size-word-end.result = omega (arith, c.loop-word-test.false, c.loop-word.auto.word-end) in
    let many : c.block_size-word-end.result ≡ block_size_of s.clients s.records =
    c.block_size-word-end.ensures.value ∙ ap (λ (n : ℕ). block_size_of n c.records.result) c.clients.ensures.value
    ∙ ap (λ (n : ℕ). block_size_of s.clients n) c.records.ensures.value in
    all_added s (g.W.KeptWords.kept_words c.args.block.now) c.args.words.now.items c.loop-word.words.items c.loop-word.word
    (last ∙ many)
    (subst (λ (q : Kept). IsAddedUpTo q c.args.words.now.items c.loop-word.words.items c.loop-word.word) c.of_values-queue.ensures
    c.loop-word.invariant)
