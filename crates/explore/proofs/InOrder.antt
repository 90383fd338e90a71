-- Acts attempted one after another leave and accept what the first ones do, and then the others.
use Rattle.std.proofs.Common.{◌≡◌, refl, false, true, ℕ, zero, suc, ◌+◌, sym, ap, ◌∙◌, arith, List, [], ◌∷◌, ◌++◌, replicate}
use Rattle.std.specs.Prelude.{Bool, if◌then◌else◌}
use Rattle.arena.specs.Shape.{Shape}
use Rattle.protocol.specs.declared.acts.Act.{Act}
use Rattle.interleave.specs.State.{State, after_act, after_acts, is_accepted, taken_of, count_of}
use Rattle.std.specs.List.{flat_map}
use Rattle.explore.specs.Acts.{accepted_of, attempts_of, IsSteady}
use Rattle.grammar.specs.declared.commands.Command.{Command}
use Rattle.explore.proofs.Shapes.{after_acts_shape}

-- some acts, and then others
pub after_more : (w : State) (xs ys : List (Act ℕ)) → after_acts w (xs ++ ys) ≡ after_acts (after_acts w xs) ys
after_more w [] ys = refl
after_more w (x ∷ xs) ys = after_more (after_act w x) xs ys

-- by whether the first one is accepted
chosen : (b : Bool) (x : Act ℕ) (xs ys zs : List (Act ℕ)) → xs ≡ ys ++ zs
    → (if b then x ∷ xs else xs) ≡ (if b then x ∷ ys else ys) ++ zs
chosen true x xs ys zs is = ap (λ l. x ∷ l) is
chosen false x xs ys zs is = is

pub accepted_more : (w : State) (xs ys : List (Act ℕ))
    → accepted_of w (xs ++ ys) ≡ accepted_of w xs ++ accepted_of (after_acts w xs) ys
accepted_more w [] ys = refl
accepted_more w (x ∷ xs) ys =
    chosen (is_accepted w x) x _ (accepted_of (after_act w x) xs) _ (accepted_more (after_act w x) xs ys)

-- of one act again and again as many are accepted as are counted
one_more : (b : Bool) (n : ℕ) (act : Act ℕ) (xs : List (Act ℕ)) → xs ≡ replicate n act
    → (if b then act ∷ xs else xs) ≡ replicate (count_of b + n) act
one_more true n act xs is =
    let next : suc n ≡ 1 + n = omega arith in ap (λ l. act ∷ l) is ∙ ap (λ k. replicate k act) next
one_more false n act xs is = let same : n ≡ 0 + n = omega arith in is ∙ ap (λ k. replicate k act) same

pub accepted_again : (most : ℕ) (w : State) (act : Act ℕ)
    → accepted_of w (replicate most act) ≡ replicate (taken_of w (replicate most act)) act
accepted_again zero w act = refl
accepted_again (suc most) w act =
    one_more (is_accepted w act) (taken_of (after_act w act) (replicate most act)) act _ (accepted_again most (after_act w act) act)

-- a steady act that is refused goes on being refused
pub stays : (most : ℕ) (w : State) (act : Act ℕ) → IsSteady act → is_accepted w act ≡ false
    → after_acts w (replicate most act) ≡ w
stays zero w act steady refused = refl
stays (suc most) w act steady refused =
    ap (λ v. after_acts v (replicate most act)) (steady w refused) ∙ stays most w act steady refused

pub none_taken : (most : ℕ) (w : State) (act : Act ℕ) → IsSteady act → is_accepted w act ≡ false
    → taken_of w (replicate most act) ≡ 0
none_taken zero w act steady refused = refl
none_taken (suc most) w act steady refused =
    let first : count_of (is_accepted w act) ≡ 0 = ap count_of refused in
    let rest : taken_of (after_act w act) (replicate most act) ≡ 0 =
    ap (λ v. taken_of v (replicate most act)) (steady w refused) ∙ none_taken most w act steady refused in
    omega (arith, first, rest)

-- the acts of commands that are followed one after another
abbrev pub acts_along : State → List Command → List (Act ℕ)
acts_along w [] = []
acts_along w (command ∷ commands) =
    accepted_of w (attempts_of w.shape command) ++ acts_along (after_acts w (attempts_of w.shape command)) commands

pub acts_are : (commands : List Command) (w : State) (s : Shape) → w.shape ≡ s
    → acts_along w commands ≡ accepted_of w (flat_map (attempts_of s) commands)
acts_are [] w s shape = refl
acts_are (command ∷ commands) w s shape =
    let here = attempts_of w.shape command in
    let v : State = after_acts w here in
    let rest = flat_map (attempts_of s) commands in
    ap (λ l. accepted_of w here ++ l) (acts_are commands v s (after_acts_shape w here ∙ shape))
    ∙ sym (accepted_more w here rest)
    ∙ ap (λ t. accepted_of w (attempts_of t command ++ rest)) shape
