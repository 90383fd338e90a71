use Rattle.std.proofs.Common.{◌≡◌, ◌<◌, ◌∙◌, ◌++◌, length, take, ap, arith, append_assoc}
use Rattle.std.specs.Prelude.{codes}
use Rattle.std.specs.List.{join_with_byte}
use Rattle.std.proofs.Math.Seq.{take-length}
use Rattle.std.specs.Option.{option_map}
use Rattle.arrayvec.specs.ArrayVec.{array_vec_len}
use Rattle.replies.specs.Texts.{queue_text, queue_texts}
use Rattle.replies.specs.declared.pieces.TheConstants.{COMMA}
use Rattle.replies.proofs.Joins.{put_none, put_first, put_next}
use Rattle.replies.proofs.queues.put_queues.Goals as goal
use Rattle.replies.proofs.queues.put_queues.Goals.{in-Some, then-not-is_first, else-not-is_first, in_default}

pub loop-place-preserved : goal.loop-place-preserved
loop-place-preserved g c =
    let old = c.loop-place in
    let within : old.place-index < length c.args.places.now = omega arith in
    elim c.match-place.branch [
      | in-Some w ↦ (
          let text = queue_text w.in-Some.queue in
          let same = ap (option_map queue_text) w.in-Some.is in
          elim w.if-not-is_first.branch [
            | then-not-is_first w' ↦ record {
              put = rw (w.is_first-is, w.out-is, w.put_queue.ensures.text, w'.out-is, w'.push.ensures.items)
                  (put_next (option_map queue_text) _ _ _ _ _ _ within c.place-item.is old.invariant.put w'.if-not-is_first.true text same);
              room = rw w.out-is
                  (omega (arith, old.invariant.room, w.put_queue.ensures.short, ap array_vec_len w'.out-is, w'.push.ensures.len));
            }
            | else-not-is_first w' ↦ record {
              put = rw (w.is_first-is, w.out-is, w.put_queue.ensures.text, w'.out-is)
                  (put_first (option_map queue_text) _ _ _ _ _ _ within c.place-item.is old.invariant.put w'.if-not-is_first.false text same);
              room = rw w.out-is (omega (arith, old.invariant.room, w.put_queue.ensures.short, ap array_vec_len w'.out-is));
            }
          ])
      | in_default w ↦ record {
        put = rw (w.is_first-is, w.out-is)
            (put_none (option_map queue_text) _ _ _ _ _ _ within c.place-item.is old.invariant.put (ap (option_map queue_text) w.in_default.is));
        room = rw w.out-is (omega (arith, old.invariant.room));
      }
    ]

pub returns-clause-text : goal.returns-clause-text
returns-clause-text g c =
    let old = c.loop-place in
    let places = c.args.places.now in
    let before = c.args.out.now.items in
    let front = codes "{\"queues\":[" in
    let whole : old.place-index ≡ length places = omega (arith, old.auto.place-index-end, c.loop-place-test.false) in
    c.put-2.ensures.items
    ∙ ap (λ xs. xs ++ codes "]}") old.invariant.put.text
    ∙ ap (λ n. ((before ++ front) ++ join_with_byte COMMA (queue_texts (take n places))) ++ codes "]}") whole
    ∙ ap (λ all. ((before ++ front) ++ join_with_byte COMMA (queue_texts all)) ++ codes "]}") (take-length places)
    ∙ append_assoc (before ++ front) _ _
    ∙ append_assoc before front _
