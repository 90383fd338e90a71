use Rattle.std.proofs.Common.{◌++◌, ◌∷◌, [], List, length, take, ap, sym, ◌∙◌}
use Rattle.std.proofs.lemmas.List.{flat_map_more, take_more}
use Rattle.std.specs.List.{flat_map}
use Rattle.events.specs.declared.event.Entry.{Entry}
use Rattle.playing.specs.Transcript.{entry_lines}
use Rattle.playing.specs.declared.lines.Line.{Line}
use Rattle.playing.specs.declared.lines.Line.TheVariants.{Order}
use Rattle.broker_script.proofs.calling.order_lines.Goals as goal

pub loop-entry-preserved : goal.loop-entry-preserved
loop-entry-preserved c =
    let f = entry_lines c.args.events.now.items in
    let all = c.args.entries.now in
    let before = take c.loop-entry.entry-index all in
    let entry = c.entry-item.result in
    c.in_ok-add_entry.ensures.lines
    ∙ ap (λ (lines : List Line). lines ++ f entry) c.loop-entry.invariant
    ∙ flat_map_more f (Order (length all) ∷ []) before entry
    ∙ ap (λ (entries : List Entry). Order (length all) ∷ flat_map f entries)
    (ap (λ (e : Entry). before ++ e ∷ []) c.entry-item.is ∙ sym (take_more all c.loop-entry.entry-index entry c.loop-entry-test.true))
