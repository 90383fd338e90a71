use Rattle.std.proofs.Common.{ℕ, ◌<◌, ◌/◌, ◌-◌, length, sym, ap, ◌∙◌, arith}
use Rattle.sound_words.proofs.Looked.{mark_of_client, claim_noted, claim_passed, no_claim}
use Rattle.sound_words.proofs.kept.KeptQueue.note_claim.Goals as goal

pub overflow_cast-owner-2 : goal.overflow_cast-owner-2
overflow_cast-owner-2 g c =
    let below = mark_of_client _ _ c.requires.sound _ _ _ c.requires.node c.kept_at-mark.ensures.value c.if-mark-eq0.false c.records.ensures.value in
    omega (arith, below, c.records.ensures.counts.few_clients)

pub kept_at-announced-requires : goal.kept_at-announced-requires
kept_at-announced-requires g c =
    mark_of_client _ _ c.requires.sound _ _ _ c.requires.node c.kept_at-mark.ensures.value c.if-mark-eq0.false c.records.ensures.value

pub offset_bounds-claimed-owner : goal.offset_bounds-claimed-owner
offset_bounds-claimed-owner g c =
    let below = mark_of_client _ _ c.requires.sound _ _ _ c.requires.node c.kept_at-mark.ensures.value c.if-mark-eq0.false c.records.ensures.value in
    omega (arith, below, c.records.ensures.counts.few_clients)

pub bounds-claimed-owner : goal.bounds-claimed-owner
bounds-claimed-owner g c =
    let below = mark_of_client _ _ c.requires.sound _ _ _ c.requires.node c.kept_at-mark.ensures.value c.if-mark-eq0.false c.records.ensures.value in
    omega (arith, below, c.records.ensures.counts.few_clients)

pub returns-then-announced-mark : goal.returns-then-announced-mark
returns-then-announced-mark g c =
    let owns = ap (λ (r : ℕ). (c.kept_at-mark.result - 1) / r) c.records.ensures.value in
    let names = sym c.kept_at-announced.ensures.value ∙ c.if-announced-mark.true in
    let below = mark_of_client _ _ c.requires.sound _ _ _ c.requires.node c.kept_at-mark.ensures.value c.if-mark-eq0.false c.records.ensures.value in
    let within : (c.kept_at-mark.result - 1) / c.records.result < length c.args.claimed.now = grind (arith, below, c.records.ensures.counts.few_clients) in
    claim_noted _ _ c.requires.sound c.args.claimed.now c.args.node _ _ within c.kept_at-mark.ensures.value owns names

pub returns-else-announced-mark : goal.returns-else-announced-mark
returns-else-announced-mark g c =
    let owns = ap (λ (r : ℕ). (c.kept_at-mark.result - 1) / r) c.records.ensures.value in
    claim_passed _ _ c.requires.sound c.args.claimed.now c.args.node _ _ c.kept_at-mark.ensures.value owns
    (λ e. c.if-announced-mark.false (c.kept_at-announced.ensures.value ∙ e))

pub returns-then-mark-eq0 : goal.returns-then-mark-eq0
returns-then-mark-eq0 g c = no_claim _ _ c.args.claimed.now c.args.node _ c.kept_at-mark.ensures.value c.if-mark-eq0.true
