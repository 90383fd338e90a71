use Rattle.std.proofs.Common.{◌≡◌, ℕ, List, ap, subst, ◌∙◌}
use Rattle.std.specs.Prelude.{IfErr}
use Rattle.persist.specs.Memory.{Words, words_at_rest}
use Rattle.arena.specs.declared.form.Form.TheVariants.{OfValues}
use Rattle.migration.specs.Words.{broker_migrated}
use Rattle.named.specs.Booting.{AreBootWordsIn, MayRefuse}
use Rattle.named.proofs.acts.Refused.{done, not_done, nothing}
use Rattle.named.proofs.beginnings.Migrations.{migrated_boots, migrated_if, refused_as_old}
use Rattle.named.proofs.broker.Broker.migrate.Goals as goal

pub returns-clause-migrated : goal.returns-clause-migrated
returns-clause-migrated c =
    let old : List ℕ = c.args.memory.words.kept in
    let kept : c.crash.new.self.words.kept ≡ old = ap (λ (ws : Words). ws.kept) c.crash.ensures.words in
    let was : AreBootWordsIn OfValues old = subst (AreBootWordsIn OfValues) kept c.in_ok-check_blocks.ensures.sound in
    let made : c.in-Ok-of.memory.words ≡ words_at_rest (broker_migrated old) =
    c.in-Ok-of.ensures.made ∙ ap words_at_rest (c.in-Ok.ensures ∙ ap broker_migrated kept) in
    migrated_if old c.in-Ok-of.memory.words c.boot.result was made c.boot.ensures.booted

pub returns-clause-errors : goal.returns-clause-errors
returns-clause-errors c =
    let old : List ℕ = c.args.memory.words.kept in
    let kept : c.crash.new.self.words.kept ≡ old = ap (λ (ws : Words). ws.kept) c.crash.ensures.words in
    let was : AreBootWordsIn OfValues old = subst (AreBootWordsIn OfValues) kept c.in_ok-check_blocks.ensures.sound in
    let made : c.in-Ok-of.memory.words ≡ words_at_rest (broker_migrated old) =
    c.in-Ok-of.ensures.made ∙ ap words_at_rest (c.in-Ok.ensures ∙ ap broker_migrated kept) in
    refused_as_old old (broker_migrated old) c.boot.result was (migrated_boots old was)
    (subst (λ (ws : Words). IfErr c.boot.result (MayRefuse ws.kept)) made c.boot.ensures.errors)

pub returns-in_err-kept-clause-migrated : goal.returns-in_err-kept-clause-migrated
returns-in_err-kept-clause-migrated c = nothing _ c.from_residual.result c.in_err-kept.field-0.0 c.from_residual.ensures

pub returns-in_err-kept-clause-sound : goal.returns-in_err-kept-clause-sound
returns-in_err-kept-clause-sound c = not_done _ c.from_residual.result c.in_err-kept.field-0.0 c.from_residual.ensures

pub returns-in_err-kept-clause-promises : goal.returns-in_err-kept-clause-promises
returns-in_err-kept-clause-promises c = nothing _ c.from_residual.result c.in_err-kept.field-0.0 c.from_residual.ensures

pub returns-in_err-check_blocks-clause-migrated : goal.returns-in_err-check_blocks-clause-migrated
returns-in_err-check_blocks-clause-migrated c = nothing _ c.from_residual-in_err-check_blocks.result c.in_err-check_blocks.field-0.0 c.from_residual-in_err-check_blocks.ensures

pub returns-in_err-check_blocks-clause-sound : goal.returns-in_err-check_blocks-clause-sound
returns-in_err-check_blocks-clause-sound c = not_done _ c.from_residual-in_err-check_blocks.result c.in_err-check_blocks.field-0.0 c.from_residual-in_err-check_blocks.ensures

pub returns-in_err-check_blocks-clause-promises : goal.returns-in_err-check_blocks-clause-promises
returns-in_err-check_blocks-clause-promises c = nothing _ c.from_residual-in_err-check_blocks.result c.in_err-check_blocks.field-0.0 c.from_residual-in_err-check_blocks.ensures

pub returns-in_default-clause-migrated : goal.returns-in_default-clause-migrated
returns-in_default-clause-migrated c = tt

pub returns-in_default-clause-sound : goal.returns-in_default-clause-sound
returns-in_default-clause-sound c = tt

pub returns-in_default-clause-errors : goal.returns-in_default-clause-errors
returns-in_default-clause-errors c = subst (AreBootWordsIn OfValues) (ap (λ (ws : Words). ws.kept) c.crash.ensures.words) c.in_ok-check_blocks.ensures.sound

pub returns-in_default-clause-promises : goal.returns-in_default-clause-promises
returns-in_default-clause-promises c = tt

pub returns-in_default-of-clause-migrated : goal.returns-in_default-of-clause-migrated
returns-in_default-of-clause-migrated c = tt

pub returns-in_default-of-clause-sound : goal.returns-in_default-of-clause-sound
returns-in_default-of-clause-sound c = tt

pub returns-in_default-of-clause-errors : goal.returns-in_default-of-clause-errors
returns-in_default-of-clause-errors c = subst (AreBootWordsIn OfValues) (ap (λ (ws : Words). ws.kept) c.crash.ensures.words) c.in_ok-check_blocks.ensures.sound

pub returns-in_default-of-clause-promises : goal.returns-in_default-of-clause-promises
returns-in_default-of-clause-promises c = tt

pub returns-clause-sound : goal.returns-clause-sound
returns-clause-sound c = done _ c.boot.result (subst (AreBootWordsIn OfValues) (ap (λ (ws : Words). ws.kept) c.crash.ensures.words) c.in_ok-check_blocks.ensures.sound)

pub returns-clause-promises : goal.returns-clause-promises
returns-clause-promises c = c.boot.ensures.promises
