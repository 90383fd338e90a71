use Rattle.std.proofs.Common.{◌≡◌, ap, sym, subst, refl, ◌∙◌}
use Rattle.std.specs.Prelude.{option_to_list}
use Rattle.words.specs.declared.limits.TheConstants.{MAX_STEPS_ALONE}
use Rattle.grammar.specs.declared.commands.Command.{Command}
use Rattle.playing.specs.Play.{after_steps, most_alone}
use Rattle.playing.specs.Transcript.{step_lines}
use Rattle.broker_script.specs.OnQueue.{IsFollowedIn}
use Rattle.broker_script.specs.Play.{play_at}
use Rattle.broker_script.proofs.Acted.{all_three}
use Rattle.broker_script.proofs.player.Player.call_in.Goals as goal

alone_is : most_alone ≡ MAX_STEPS_ALONE
unfolding most_alone
alone_is = refl

pub returns-in-End-clause-followed : goal.returns-in-End-clause-followed
returns-in-End-clause-followed c =
    let slot = c.args.slot.0 in
    let play = play_at c.args.self.now slot in
    let client = c.in-End.client in
    let by = c.go_on-in-End.ensures in
    all_three c.go_on-in-End.result _ _ (λ line gives left only.
    subst (λ (command : Command). IsFollowedIn c.args.self.now slot command (option_to_list line) c.go_on-in-End.new.self) (sym c.in-End.is)
    (record {
      gives = gives ∙ ap (λ n. step_lines client n play) (sym alone_is);
      play = left ∙ ap (λ n. after_steps client n play) (sym alone_is);
      only = only;
    })) by.lines by.play by.only
