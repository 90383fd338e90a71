use Rattle.std.proofs.Common.{◌∙◌, ap}
use Rattle.std.proofs.lemmas.Result.{IfOk-weaker}
use Rattle.serde_json.specs.Written.{compact_text, has_float}
use Rattle.gauges.proofs.Floats.{all_whole}
use Rattle.gauges.proofs.objects.stats_text.Goals as goal

pub returns : goal.returns
returns c =
    let whole = ap has_float c.in_ok-value.ensures ∙ all_whole c.args.gauges.now in
    IfOk-weaker c.to_string.result _ _ (λ text h. h whole ∙ ap compact_text c.in_ok-value.ensures) c.to_string.ensures.text
