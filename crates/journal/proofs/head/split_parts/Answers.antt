use Rattle.std.proofs.Common.{◌≡◌, ◌/◌, length, take, drop, arith, ap, ◌∙◌}
use Rattle.std.specs.Simd.{first_chunks}
use Rattle.journal.specs.Reading.{key_at, sum_at}
use Rattle.journal.proofs.Chunks.{chunks_read}
use Rattle.journal.proofs.Heads.{words_end, eight_on}
use Rattle.journal.proofs.head.split_parts.Goals as goal

pub returns-clause-words : goal.returns-clause-words
returns-clause-words c =
    let counted : length c.in_ok-words.words.now / 8 ≡ c.args.count = omega (arith, c.in_ok-words.ensures.cases.3) in
    c.as_chunks.ensures.front
    ∙ chunks_read 8 c.args.count (length c.in_ok-words.words.now / 8) c.in_ok-words.words.now c.in_ok-rest.rest.now counted c.in_ok-words.ensures.cases.1
    ∙ ap (first_chunks 8 c.args.count) (c.in_ok-rest.ensures.cases.2 ∙ ap (drop 12) c.in_ok-image.ensures.cases.2)

-- the bytes behind the words
there : (c : goal.After-words-2-1) → c.in_ok-words.rest.now ≡ drop (key_at c.args.count) c.args.bytes.now
there c =
    words_end c.args.bytes.now c.in_ok-image.image.now c.in_ok-rest.rest.now c.in_ok-words.rest.now c.args.count c.in_ok-image.ensures.cases.2 c.in_ok-rest.ensures.cases.2 c.in_ok-words.ensures.cases.2

pub returns-clause-key : goal.returns-clause-key
returns-clause-key c = c.in_ok-key.ensures.cases.0 ∙ ap (take 8) (there c)

pub returns-clause-sum : goal.returns-clause-sum
returns-clause-sum c =
    c.in_ok-sum.ensures.cases.0 ∙ ap (take 8) (eight_on c.args.bytes.now c.in_ok-words.rest.now c.in_ok-key.rest.now (key_at c.args.count) (there c) c.in_ok-key.ensures.cases.1)

pub returns-clause-rest : goal.returns-clause-rest
returns-clause-rest c =
    eight_on c.args.bytes.now c.in_ok-key.rest.now c.in_ok-sum.rest.now (sum_at c.args.count)
    (eight_on c.args.bytes.now c.in_ok-words.rest.now c.in_ok-key.rest.now (key_at c.args.count) (there c) c.in_ok-key.ensures.cases.1)
    c.in_ok-sum.ensures.cases.1
