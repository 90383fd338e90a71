use Rattle.std.proofs.Common.{◌≡◌, ℕ, Some, slice_get, ap, sym, ◌∙◌, subst}
use Rattle.std.specs.Prelude.{string_bytes, unwrap_or}
use Rattle.std.proofs.lemmas.Result.{on_ok_weaker}
use Rattle.recording.specs.declared.act.Act.TheVariants.{LearnTaken}
use Rattle.recording.specs.declared.line.Told.{Told}
use Rattle.recording.specs.declared.state.State.TheVariants.{Idle, Interrupted}
use Rattle.recording.specs.Reading.{Read, number_in, with_client, does_put, said_by, with_got, with_state, with_step}
use Rattle.recording.specs.Reading.{state_of, IsToldLine}
use Rattle.recording.specs.Reader.{read_of}
use Rattle.recording.proofs.reader.Reader.told_line.Goals as goal

pub returns-in-Some : goal.returns-in-Some
returns-in-Some c =
    let old = read_of c.args.self.now in
    let name = string_bytes c.args.client in
    let here = with_client old name in
    let client = c.in_ok-client.client in
    let number = number_in old.clients name in
    let call = c.in-Interrupted.call in
    let answered = c.in-Taken.answered in
    let said = c.in-Some.said in
    let read : read_of c.client.new.self ≡ here = c.in_ok-client.ensures.read in
    let is : client ≡ number = c.in_ok-client.ensures.number in
    let interrupted : state_of old name ≡ Interrupted call =
    sym (c.in-Interrupted.ensures
    ∙ ap (λ (r : Read). unwrap_or (slice_get r.states client) Idle) read
    ∙ ap (λ (k : ℕ). unwrap_or (slice_get here.states k) Idle) is) in
    let says : said_by here (does_put here call) answered ≡ Some said =
    ap (λ (r : Read). said_by r (does_put r call) answered) (sym read)
    ∙ sym c.in_ok-said-in-Taken.ensures.said
    ∙ c.in-Some.is in
    let then : read_of c.set_state-in-Taken.new.self
    ≡ with_state (with_got here (does_put here call) answered) number Idle =
    c.set_state-in-Taken.ensures
    ∙ ap (λ (r : Read). with_state r client Idle) c.in_ok-said-in-Taken.ensures.read
    ∙ ap (λ (r : Read). with_state (with_got r (does_put r call) answered) client Idle) read
    ∙ ap (λ (k : ℕ). with_state (with_got here (does_put here call) answered) k Idle) is in
    on_ok_weaker c.add-in-Taken.result
    (λ add. subst (λ (told : Told). IsToldLine old name told c.args.at (read_of c.add-in-Taken.new.self))
    (sym c.in-Taken.is)
    (record {
      call = call;
      interrupted = interrupted;
      learns = (said, says, add ∙ ap (λ (r : Read). with_step r (LearnTaken call said) c.args.at) then);
    }))
    c.add-in-Taken.ensures
