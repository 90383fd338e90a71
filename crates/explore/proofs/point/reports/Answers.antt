use Rattle.std.proofs.Common.{◌≡◌, ◌<◌, ◌++◌, [], ◌∷◌, length, map, sym, ap, ◌∙◌, arith}
use Rattle.std.proofs.lemmas.List.{take_more_set, length-set}
use Rattle.std.proofs.lemmas.List.FromFn.{map-range_with_len_more}
use Rattle.std.specs.List.{range_with_len}
use Rattle.playing.specs.Transcript.{told_at}
use Rattle.explore.proofs.point.reports.Goals as goal

pub loop-number-preserved : goal.loop-number-preserved
loop-number-preserved c =
    let told = c.loop-number.told in
    let n = c.loop-number.number in
    let w = c.args.world.now.now in
    let all = c.loop-number.invariant.all in
    let here : n < length told = omega (arith, all, c.loop-number-test.true) in
    let this : c.told.result ≡ told_at w n = c.told.ensures in
    record {
      all = length-set told n c.told.result ∙ all;
      told =
          take_more_set told n c.told.result here ∙ ap (λ l. l ++ c.told.result ∷ []) c.loop-number.invariant.told
          ∙ ap (λ t. map (told_at w) (range_with_len 0 n) ++ t ∷ []) this ∙ sym (map-range_with_len_more (told_at w) 0 n n (omega arith));
    }
