use Rattle.std.proofs.Common.{Option, false, ap, sym, ◌∙◌}
use Rattle.std.specs.Prelude.{is_some}
use Rattle.std.specs.Option.{option_map_or}
use Rattle.recording.specs.declared.act.CallOf.{CallOf}
use Rattle.recording.proofs.Texts.{looked_up, not_there}
use Rattle.recording.proofs.reader.Reader.does_put.Goals as goal

pub returns-in-Some : goal.returns-in-Some
returns-in-Some c =
    let lookup = c.in-Some.ensures.lookup in
    let at = looked_up c.deref.result.now c.args.self.now.calls.items c.args.call c.in-Some.call.now
    c.deref.ensures.value lookup.3.0 lookup.1 in
    c.is_some.ensures ∙ ap (λ (of : Option CallOf). option_map_or (λ it. is_some it.puts) of false) (sym at)

pub returns-in-None : goal.returns-in-None
returns-in-None c =
    let none = not_there c.deref.result.now c.args.self.now.calls.items c.args.call c.deref.ensures.value
    c.in-None.ensures.lookup.3 in
    ap (λ (of : Option CallOf). option_map_or (λ it. is_some it.puts) of false) (sym none)
