use Rattle.std.proofs.Common.{◌≡◌, ℕ, List, length, map, ap, subst, ◌∙◌}
use Rattle.std.specs.Prelude.{Result, Ok, Err, IfOk, IsTrue}
use Rattle.words.specs.declared.refusal.Refusal.{Refusal}
use Rattle.arena.specs.Broker.{broker_size}
use Rattle.arena.specs.Shape.{Counts}
use Rattle.named.specs.Promises.{AreExplained}
use Rattle.explore.specs.Points.{evicted_words}
use Rattle.broker_script.specs.Play.{Played, new_played, session_of}
use Rattle.broker_points.specs.Points.{eviction, evictions_at, IsPointAfter, Leads}
use Rattle.broker_points.specs.Reports.{line_of_point, point_text}
use Rattle.broker_points.specs.declared.point.Point.{Point}
use Rattle.broker_points.proofs.Explaining.{of_ok}
use Rattle.broker_points.proofs.Leading.{leads_on}
use Rattle.broker_points.proofs.point.crash.Goals as goal

-- what was found is ok, so its line says so
both : (r : Result Point Refusal) (number : ℕ) (p : Played) (Q : List ℕ → Type 0)
    → ((text : List ℕ) → text ≡ point_text number p → Q text)
    → IfOk r (λ point. point.text.items ≡ line_of_point number p point.ok) → IfOk r (λ point. IsTrue point.ok)
    → IfOk r (λ point. Q point.text.items)
both (Ok point) number p Q makes text ok = makes point.text.items (text ∙ ap (line_of_point number p) ok)
both (Err e) number p Q makes text ok = tt

pub returns-clause-point : goal.returns-clause-point
returns-clause-point c =
    let counts : Counts = record { clients = c.args.broker.now.clients; records = c.args.broker.now.records } in
    let point = length c.args.acts.now in
    let made = of_ok c.make.result c.unwrap-layout.result _ c.unwrap-layout.ensures c.make.ensures.made in
    let size : c.size.result ≡ broker_size counts = c.size.ensures.value ∙ ap broker_size made in
    let words : c.deref.result.now ≡ evicted_words c.args.evictions (broker_size counts) point =
    c.deref.ensures.value ∙ c.in_ok-words.ensures.words ∙ ap (λ n. evicted_words c.args.evictions n point) size in
    let acts : Leads (new_played (session_of c.in_ok-player.player)) c.args.acts.now c.follow_all.new.player =
    subst (λ (p : Played). Leads p c.args.acts.now c.follow_all.new.player) c.in_ok-player.ensures.played c.in_ok-follow_all.ensures.leads in
    let kept : Leads c.follow_all.new.player (evictions_at counts c.args.evictions point) c.evict_all.new.player =
    subst (λ (l : List ℕ). Leads c.follow_all.new.player (map eviction l) c.evict_all.new.player) words c.in_ok-evict_all.ensures.leads in
    both c.found.result point c.stop_and_recover.new.player (IsPointAfter counts c.args.acts.now c.args.evictions point)
    (λ text is. record {
      session = session_of c.in_ok-player.player;
      made = c.in_ok-player.ensures.made;
      stopping = c.evict_all.new.player;
      acted = leads_on acts kept;
      found = c.stop_and_recover.new.player;
      recovered = c.in_ok-stop_and_recover.ensures.leads;
      ready = c.in_ok-stop_and_recover.ensures.ready;
      goes_on = c.in_ok-stop_and_recover.ensures.goes_on;
      explained = subst (λ (p : Played). AreExplained p.broker) c.player-3.view_is c.player-3.invariant.broker.explained;
      settled = c.in_ok-stop_and_recover.ensures.settled;
      is = is;
    })
    c.found.ensures.text c.found.ensures.ok
