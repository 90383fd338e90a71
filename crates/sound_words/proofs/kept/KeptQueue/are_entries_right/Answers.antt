use Rattle.std.proofs.Common.{below_more, rules, sym, ◌∙◌, ◌<◌}
use Rattle.std.proofs.lemmas.Bool.{false≢true}
use Rattle.arena.specs.Place.{IsRecord}
use Rattle.sound_words.proofs.kept.KeptQueue.are_entries_right.Goals as goal

pub loop-entry-preserved : goal.loop-entry-preserved
loop-entry-preserved g c = below_more _ _ c.loop-entry.invariant (λ low. c.is_entry_sound.ensures.0 c.if-not-is_entry_sound.false)

pub returns-then-not-is_entry_sound : goal.returns-then-not-is_entry_sound
returns-then-not-is_entry_sound g c =
    let one : IsRecord c.args.self.now.shape c.loop-entry.entry = search rules in
    (search rules, λ all. absurd (false≢true (sym c.if-not-is_entry_sound.true ∙ c.is_entry_sound.ensures.1 (all _ one))))

pub returns : goal.returns
returns g c = (
  λ told n r. let before : n < c.loop-entry.entry = search rules in c.loop-entry.invariant n before r.0,
  λ all. search rules,
)
