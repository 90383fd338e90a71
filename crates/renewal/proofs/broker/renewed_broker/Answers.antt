use Rattle.std.proofs.Common.{◌≡◌, ◌++◌, ℕ, Err, List, [], refl, sym, ap, subst, ◌∙◌}
use Rattle.std.proofs.lemmas.Bool.{false≢true}
use Rattle.std.specs.List.{flat_map, range_with_len}
use Rattle.words.specs.declared.refusal.Refusal.{Refusal}
use Rattle.words.specs.declared.refusal.Refusal.TheVariants.{NoRoom}
use Rattle.arena.specs.Shape.{Counts}
use Rattle.directory.specs.Sound.{counts_in}
use Rattle.renewal.specs.Broker.{IsBrokerRenewalOf, broker_renewed, front_renewed, slot_block_renewed}
use Rattle.renewal.proofs.Brokers.{broker_same}
use Rattle.renewal.proofs.broker.renewed_broker.Goals as goal

-- a front and the blocks are a broker's words
whole : (to : Counts) (ws none front all : List ℕ) → none ≡ [] → front ≡ none ++ front_renewed to ws
    → all ≡ front ++ flat_map (slot_block_renewed to (counts_in ws) ws) (range_with_len 0 8) → all ≡ broker_renewed to ws
unfolding broker_renewed
whole to ws none front all empty begun is =
    let blocks : List ℕ = flat_map (slot_block_renewed to (counts_in ws) ws) (range_with_len 0 8) in
    is ∙ ap (λ (xs : List ℕ). xs ++ blocks) begun ∙ ap (λ (xs : List ℕ). (xs ++ front_renewed to ws) ++ blocks) empty

pub returns-clause-renewed : goal.returns-clause-renewed
returns-clause-renewed c =
    whole c.args.to.now c.args.memory.now.words.kept c.in-Ok.words.items c.add_front.new.words.items c.add_blocks.new.words.items
    c.in-Ok.ensures.items c.in-Ok-add_front.ensures.words c.in_ok-add_blocks.ensures.words

pub returns-clause-same : goal.returns-clause-same
returns-clause-same c =
    subst (IsBrokerRenewalOf c.args.memory.now.words.kept c.args.to.now)
    (sym (whole c.args.to.now c.args.memory.now.words.kept c.in-Ok.words.items c.add_front.new.words.items c.add_blocks.new.words.items
    c.in-Ok.ensures.items c.in-Ok-add_front.ensures.words c.in_ok-add_blocks.ensures.words))
    (broker_same c.args.memory.now.words c.args.kept.now.layout c.args.to.now c.args.kept.now.directory c.requires c.add_front.ensures.counts
    c.in_ok-add_blocks.ensures.room)

pub returns-then-not-do_all_fit-clause-no_room : goal.returns-then-not-do_all_fit-clause-no_room
returns-then-not-do_all_fit-clause-no_room c =
    (λ e all. false≢true (sym c.if-not-do_all_fit.true ∙ c.do_all_fit.ensures.1 all), λ no. refl)

pub returns-in_default-clause-no_room : goal.returns-in_default-clause-no_room
returns-in_default-clause-no_room c = (λ e all. cc, λ no. absurd (no (c.do_all_fit.ensures.0 c.if-not-do_all_fit.false)))

pub returns-in_default-add_front-clause-no_room : goal.returns-in_default-add_front-clause-no_room
returns-in_default-add_front-clause-no_room c = (λ e all. cc, λ no. absurd (no (c.do_all_fit.ensures.0 c.if-not-do_all_fit.false)))

pub returns-in_err-add_blocks-clause-no_room : goal.returns-in_err-add_blocks-clause-no_room
returns-in_err-add_blocks-clause-no_room c = (
  λ none all.
      let told : NoRoom ≡ c.in_err-add_blocks.field-0.0 = rw none at c.from_residual.ensures.1 in
      c.in_err-add_blocks.ensures.no_room (ap (λ (e : Refusal). Err e) (sym told)) all,
  λ no. absurd (no (c.do_all_fit.ensures.0 c.if-not-do_all_fit.false)),
)
