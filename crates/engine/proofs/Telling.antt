-- What was written tells of what is settled.
use Rattle.std.proofs.Common.{◌≡◌, ℕ, List, [], ◌∷◌, ◌++◌, Option, refl, sym, ap, subst, ◌∙◌, append_assoc, inl, inr, ⊎_elim}
use Rattle.std.proofs.lemmas.List.{append-nil}
use Rattle.std.proofs.KnownBytes.{Appends-nil, Appends-trans, Appends-kept}
use Rattle.std.specs.Io.KnownBytes.{Appends, Keeps}
use Rattle.devices.specs.Devices.{AppendsBeginning}
use Rattle.engine.specs.declared.reply.Reply.{Reply}
use Rattle.engine.specs.Output.{Moves, SendsSettled, SettlesFor, AreHeld}
use Rattle.engine.specs.Replies.{Served, reply_line, output_of, made_of}
use Rattle.engine.specs.Settled.{AreSettled, AreTold, SomeAreTold}
use Rattle.engine.proofs.Buffers.{Moves-none, Moves-trans, all_sent, part_sent}
use Rattle.engine.proofs.Fitting.{made_of-append}
use Rattle.engine.proofs.Replying.{output_of-append, output_of-one}

none_left : (xs ys : List Reply) → xs ++ ys ≡ [] → xs ≡ []
none_left [] ys e = refl
none_left (x ∷ xs) ys e = absurd cc

pub no_reply_told : (old settled : Served) (w v : Option (List ℕ)) → Appends w v [] → AreTold old settled settled w v []
no_reply_told old settled w v p = record { written = p; lasting = inl (refl, refl) }

-- what is told is a beginning of itself
pub told_whole : (old s0 s : Served) (w v : Option (List ℕ)) (rs : List Reply) → AreTold old s0 s w v rs
    → SomeAreTold old s0 s w v rs
told_whole old s0 s w v rs p = record {
  told = rs;
  untold = [];
  parts = sym (append-nil rs);
  written = (output_of rs, [], sym (append-nil (output_of rs)), p.written);
  lasting = p.lasting;
}

-- more was written, and nothing more is settled
more_kept : (w v u : Option (List ℕ)) (text : List ℕ) → AppendsBeginning w v text → Keeps v u → AppendsBeginning w u text
more_kept w v u text p k = (p.0, p.1, p.2, Appends-kept w v u p.0 p.3 k)

begins_longer : (w v : Option (List ℕ)) (text more : List ℕ) → AppendsBeginning w v text
    → AppendsBeginning w v (text ++ more)
begins_longer w v text more p =
    (p.0, p.1 ++ more, ap (λ (xs : List ℕ). xs ++ more) p.2 ∙ append_assoc p.0 p.1 more, p.3)

-- a beginning of the text of all of them was written
pub some_written : (old s0 s : Served) (w v : Option (List ℕ)) (rs : List Reply) → SomeAreTold old s0 s w v rs
    → AppendsBeginning w v (output_of rs)
some_written old s0 s w v rs p =
    subst (AppendsBeginning w v) (sym (ap output_of p.parts ∙ output_of-append p.told p.untold))
    (begins_longer w v (output_of p.told) (output_of p.untold) p.written)

pub none_held : (old s0 : Served) (w : Option (List ℕ)) → AreHeld old s0 s0 w w [] []
none_held old s0 w = record {
  moved = Moves-none w [];
  none = λ e. refl;
  told = told_whole old s0 s0 w w [] (no_reply_told old s0 w w (Appends-nil w));
}

module _ (old s0 s s_after : Served) (w v u : Option (List ℕ)) where
  -- the replies that were told stay so, where nothing more was written
  stay_told : (rs more : List Reply) → SomeAreTold old s0 s w v rs → Keeps v u → s_after ≡ s
      → SomeAreTold old s0 s_after w u (rs ++ more)
  stay_told rs more p k same = record {
    told = p.told;
    untold = p.untold ++ more;
    parts = ap (λ (xs : List Reply). xs ++ more) p.parts ∙ append_assoc p.told p.untold more;
    written = more_kept w v u (output_of p.told) p.written k;
    lasting = subst (λ (x : Served). AreSettled old s0 x p.told) (sym same) p.lasting;
  }

  -- some of the bytes that were held were sent, once all was settled, with more replies
  pub told_more : (served : Served) (held : List ℕ) (rs more : List Reply) → AreHeld old s0 s w v held rs
      → SendsSettled served s s_after v u held → served ≡ old ++ made_of (rs ++ more)
      → SomeAreTold old s0 s_after w u (rs ++ more)
  told_more served held rs more p (inl (k, same)) made = stay_told rs more p.told k same
  told_more served held rs more p (inr (sent, all)) made = record {
    told = rs ++ more;
    untold = [];
    parts = sym (append-nil (rs ++ more));
    written = subst (AppendsBeginning w u) (sym (output_of-append rs more))
        (begins_longer w u (output_of rs) (output_of more) (part_sent w v u held (output_of rs) p.moved sent));
    lasting = inr (all ∙ made);
  }

  -- and no more replies
  pub told_still : (served : Served) (held : List ℕ) (rs : List Reply) → AreHeld old s0 s w v held rs
      → SendsSettled served s s_after v u held → served ≡ old ++ made_of rs → SomeAreTold old s0 s_after w u rs
  told_still served held rs p sends made =
      subst (SomeAreTold old s0 s_after w u) (append-nil rs)
      (told_more served held rs [] p sends (subst (λ (xs : List Reply). served ≡ old ++ made_of xs) (sym (append-nil rs)) made))

  -- where nothing was held and no reply is told
  pub none_told : (served : Served) (held : List ℕ) → held ≡ [] → AreHeld old s0 s w v [] []
      → SendsSettled served s s_after v u held → served ≡ old → SomeAreTold old s0 s_after w u []
  none_told served held none p sends same =
      told_still served [] [] p (subst (SendsSettled served s s_after v u) none sends) (same ∙ sym (append-nil old))

  -- a reply more is held
  pub held_more : (served : Served) (held held_after : List ℕ) (rs : List Reply) (reply : Reply)
      → AreHeld old s0 s w v held rs → Moves v u held held_after (reply_line reply) → (held_after ≡ [] → ⊥)
      → SendsSettled served s s_after v u held → served ≡ old ++ made_of (rs ++ reply ∷ [])
      → AreHeld old s0 s_after w u held_after (rs ++ reply ∷ [])
  held_more served held held_after rs reply p moves some sends made = record {
    moved = subst (Moves w u [] held_after)
        (sym (output_of-append rs (reply ∷ []) ∙ ap (λ (xs : List ℕ). output_of rs ++ xs) (output_of-one reply)))
        (Moves-trans w v u [] held held_after (output_of rs) (reply_line reply) p.moved moves);
    none = λ e. absurd (some e);
    told = told_more served held rs (reply ∷ []) p sends made;
  }

  -- all that was held was sent
  pub told_all : (served : Served) (held : List ℕ) (rs : List Reply) → AreHeld old s0 s w v held rs → Appends v u held
      → SettlesFor held served s s_after → served ≡ old ++ made_of rs → AreTold old s0 s_after w u rs
  told_all served held rs p sent settles made = record {
    written = all_sent w v u held (output_of rs) p.moved sent;
    lasting = ⊎_elim
        (λ (none, same).
        let told_none : p.told.told ≡ [] = none_left p.told.told p.told.untold (sym p.told.parts ∙ p.none none) in
        subst (λ (xs : List Reply). AreSettled old s0 s_after xs) (told_none ∙ sym (p.none none))
        (subst (λ (x : Served). AreSettled old s0 x p.told.told) (sym same) p.told.lasting))
        (λ all. inr (all ∙ made))
        settles;
  }

-- Replies that are told, and more behind them.
module _ (old mid s0 s s_after : Served) (w v u : Option (List ℕ)) (rs ss : List Reply) (made : mid ≡ old ++ made_of rs)
    (p : AreTold old s0 s w v rs) where
  settled_more : (more : List Reply) → AreSettled mid s s_after more → AreSettled old s0 s_after (rs ++ more)
  settled_more more (inl (none, same)) =
      subst (AreSettled old s0 s_after) (sym (append-nil rs) ∙ ap (λ (xs : List Reply). rs ++ xs) (sym none))
      (subst (λ (x : Served). AreSettled old s0 x rs) (sym same) p.lasting)
  settled_more more (inr all) =
      inr (all ∙ ap (λ (xs : Served). xs ++ made_of more) made ∙ append_assoc old (made_of rs) (made_of more)
      ∙ ap (λ (xs : Served). old ++ xs) (sym (made_of-append rs more)))

  pub both_told : AreTold mid s s_after v u ss → AreTold old s0 s_after w u (rs ++ ss)
  both_told q = record {
    written = subst (Appends w u) (sym (output_of-append rs ss))
        (Appends-trans w v u (output_of rs) (output_of ss) p.written q.written);
    lasting = settled_more ss q.lasting;
  }

  pub partly_told : SomeAreTold mid s s_after v u ss → SomeAreTold old s0 s_after w u (rs ++ ss)
  partly_told q =
      let (sent, unsent, parts, appends) = q.written in
      record {
        told = rs ++ q.told;
        untold = q.untold;
        parts = ap (λ (xs : List Reply). rs ++ xs) q.parts ∙ sym (append_assoc rs q.told q.untold);
        written = (
          output_of rs ++ sent,
          unsent,
          output_of-append rs q.told ∙ ap (λ (xs : List ℕ). output_of rs ++ xs) parts
              ∙ sym (append_assoc (output_of rs) sent unsent),
          Appends-trans w v u (output_of rs) sent p.written appends,
        );
        lasting = settled_more q.told q.lasting;
      }
