use Rattle.std.proofs.Common.{◌≡◌, ◌<◌, ◌/◌, ℕ, Bool, true, false, List, length, slice_index, sym, ap, ◌∙◌, arith}
use Rattle.std.specs.Prelude.{slice_index_or}
use Rattle.words.specs.PlainQueue.{Value}
use Rattle.arena.specs.Broker.{block_size_of}
use Rattle.renewal.specs.Renewal.{Renewal}
use Rattle.renewal.specs.Words.{block_renewed, word_renewed}
use Rattle.renewal.specs.declared.zeros.TheConstants.{RUN}
use Rattle.renewal.proofs.Words.{block_length, block_word}
use Rattle.renewal.proofs.fresh.FreshBlockKeptWords.kept.Goals as goal

-- the word, as the block has it
word_of : (r : Renewal) (block : List ℕ) (word : ℕ) → block_renewed r ≡ block → word < length block → word_renewed r word ≡ slice_index block word
word_of r block word is within =
    let below : word < block_size_of r.shape.clients r.shape.records = omega (arith, within, block_length r, ap (λ (words : List ℕ). length words) is) in
    sym (block_word r word below) ∙ ap (λ (words : List ℕ). slice_index words word) is

pub returns-then-is_noted : goal.returns-then-is_noted
returns-then-is_noted c =
    let r : Renewal = record { shape = c.self.inside.layout; content = c.self.inside.content.items; tells = c.self.inside.tells } in
    let noted : slice_index_or c.self.inside.zero_runs.items (c.args.word / RUN) false ≡ true =
    ap (λ (runs : List Bool). slice_index_or runs (c.args.word / RUN) false) (sym c.deref.ensures.value) ∙ sym c.is_noted.ensures ∙ c.if-is_noted.true in
    sym (c.self.invariant.zeros c.args.word noted) ∙ word_of r c.args.self.now c.args.word c.self.view_is c.requires

pub returns : goal.returns
returns c =
    let r : Renewal = record { shape = c.self.inside.layout; content = c.self.inside.content.items; tells = c.self.inside.tells } in
    c.word_at.ensures
    ∙ ap (λ (content : List Value). let x : Renewal = record r { content = content } in word_renewed x c.args.word) c.deref-2.ensures.value
    ∙ word_of r c.args.self.now c.args.word c.self.view_is c.requires
