-- A request that is done twice is done.
use Rattle.std.proofs.Common.{◌≡◌, ◌⊎◌, inl, inr, ℕ, Bool, true, false, List, Option, Some, None, refl, sym, ap, ◌∙◌, subst}
use Rattle.std.specs.Prelude.{◌==◌, ◌&&◌, OnErr, OnOk, Result, Ok, Err, if◌then◌else◌, nat_lt}
use Rattle.fenced.specs.Engine.{Engine, Tail, same_state, with_piece}
use Rattle.fenced.specs.Requests.{Answer as Told, Ask, Drop, Fresh, PieceIs, Place, Put, Read, Request, TailIs, Take, after, answer_of, compared, effect, from_generation, is_as, is_met, longer}
use Rattle.etcd_text.specs.declared.answer.Answer.{Answer}
use Rattle.etcd_text.specs.Texts.{is_range}
use Rattle.etcd_log.specs.Asking.{AreSame, IsDone, IsSame, IsToldBy, MayBeDone, Tells}

pub same_itself : (e : Engine) → IsSame e e
same_itself e = record { tail = refl; piece = λ g n. refl }

pub same_both : (a b c : Engine) → IsSame a b → IsSame b c → IsSame a c
same_both a b c one other = record { tail = one.tail ∙ other.tail; piece = λ g n. one.piece g n ∙ other.piece g n }

-- ---- an effect

put_both : (generation number : ℕ) (bytes : List ℕ) (one other : ℕ → ℕ → Option (List ℕ)) (g n : ℕ) → one g n ≡ other g n → with_piece generation number bytes one g n ≡ with_piece generation number bytes other g n
put_both generation number bytes one other g n same =
    elim ((g == generation) && (n == number)) as (λ (b : Bool). (if b then Some bytes else one g n) ≡ (if b then Some bytes else other g n)) [ true ↦ refl | false ↦ same ]

put_twice : (generation number : ℕ) (bytes : List ℕ) (piece : ℕ → ℕ → Option (List ℕ)) (g n : ℕ) → with_piece generation number bytes (with_piece generation number bytes piece) g n ≡ with_piece generation number bytes piece g n
put_twice generation number bytes piece g n =
    elim ((g == generation) && (n == number)) as (λ (b : Bool). (if b then Some bytes else (if b then Some bytes else piece g n)) ≡ (if b then Some bytes else piece g n)) [ true ↦ refl | false ↦ refl ]

drop_both : (generation : ℕ) (one other : ℕ → ℕ → Option (List ℕ)) (g n : ℕ) → one g n ≡ other g n → from_generation generation one g n ≡ from_generation generation other g n
drop_both generation one other g n same =
    elim (nat_lt g generation) as (λ (b : Bool). (if b then None else one g n) ≡ (if b then None else other g n)) [ true ↦ refl | false ↦ same ]

drop_twice : (generation : ℕ) (piece : ℕ → ℕ → Option (List ℕ)) (g n : ℕ) → from_generation generation (from_generation generation piece) g n ≡ from_generation generation piece g n
drop_twice generation piece g n =
    elim (nat_lt g generation) as (λ (b : Bool). (if b then None else (if b then None else piece g n)) ≡ (if b then None else piece g n)) [ true ↦ refl | false ↦ refl ]

effect_same : (request : Request) (a b : Engine) → IsSame a b → IsSame (effect request a) (effect request b)
effect_same (Take seen owner) a b same = record { tail = refl; piece = same.piece }
effect_same (Put tail bytes) a b same = record { tail = refl; piece = λ g n. put_both tail.generation tail.count bytes a.piece b.piece g n (same.piece g n) }
effect_same (Fresh tail generation number bytes) a b same = record { tail = same.tail; piece = λ g n. put_both generation number bytes a.piece b.piece g n (same.piece g n) }
effect_same (Place tail generation count) a b same = record { tail = refl; piece = same.piece }
effect_same (Drop tail) a b same = record { tail = same.tail; piece = λ g n. drop_both tail.generation a.piece b.piece g n (same.piece g n) }
effect_same Ask a b same = same
effect_same (Read generation number) a b same = same

effect_twice : (request : Request) (e : Engine) → IsSame (effect request (effect request e)) (effect request e)
effect_twice (Take seen owner) e = same_itself (effect (Take seen owner) e)
effect_twice (Put tail bytes) e = record { tail = refl; piece = put_twice tail.generation tail.count bytes e.piece }
effect_twice (Fresh tail generation number bytes) e = record { tail = refl; piece = put_twice generation number bytes e.piece }
effect_twice (Place tail generation count) e = same_itself (effect (Place tail generation count) e)
effect_twice (Drop tail) e = record { tail = refl; piece = drop_twice tail.generation e.piece }
effect_twice Ask e = same_itself e
effect_twice (Read generation number) e = same_itself e

-- ---- a request

after_by : (request : Request) (a b : Engine) (m : Bool) → IsSame a b → IsSame (if m then effect request a else a) (if m then effect request b else b)
after_by request a b true same = effect_same request a b same
after_by request a b false same = same

pub after_same : (request : Request) (a b : Engine) → IsSame a b → IsSame (after a request) (after b request)
after_same request a b same =
    subst (λ (t : Option Tail). IsSame (if is_as t (compared request) then effect request a else a) (after b request)) (sym same.tail)
    (after_by request a b (is_met b request) same)

again : (request : Request) (e : Engine) (m : Bool) → IsSame (if m then effect request (effect request e) else effect request e) (effect request e)
again request e true = effect_twice request e
again request e false = same_itself (effect request e)

twice_by : (request : Request) (e : Engine) (m : Bool) → is_met e request ≡ m → IsSame (after (after e request) request) (after e request)
twice_by request e true is =
    let one : after e request ≡ effect request e = ap (λ (b : Bool). if b then effect request e else e) is in
    subst (λ (x : Engine). IsSame (after x request) x) (sym one) (again request e (is_met (effect request e) request))
twice_by request e false is =
    let one : after e request ≡ e = ap (λ (b : Bool). if b then effect request e else e) is in
    subst (λ (x : Engine). IsSame (after x request) x) (sym one) (subst (λ (x : Engine). IsSame x e) (sym one) (same_itself e))

pub twice : (request : Request) (e : Engine) → IsSame (after (after e request) request) (after e request)
twice request e = twice_by request e (is_met e request) refl

-- ---- what may be done

pub asked_on : (request : Request) (old mid new : Option Engine) → MayBeDone request old mid → IsDone request mid new → IsDone request old new
asked_on request None mid new may done = subst (λ (m : Option Engine). IsDone request m new) may done
asked_on request (Some e) None new may done = absurd may
asked_on request (Some e) (Some m) None may done = absurd done
asked_on request (Some e) (Some m) (Some n) (inl same) done = same_both n (after m request) (after e request) done (after_same request m e same)
asked_on request (Some e) (Some m) (Some n) (inr same) done =
    same_both n (after m request) (after e request) done
    (same_both (after m request) (after (after e request) request) (after e request) (after_same request m (after e request) same) (twice request e))

lost_by : (request : Request) (e m n : Engine) → IsSame m e ⊎ IsSame m (after e request) → IsSame n m ⊎ IsSame n (after m request) → IsSame n e ⊎ IsSame n (after e request)
lost_by request e m n (inl one) (inl other) = inl (same_both n m e other one)
lost_by request e m n (inr one) (inl other) = inr (same_both n m (after e request) other one)
lost_by request e m n (inl one) (inr other) = inr (same_both n (after m request) (after e request) other (after_same request m e one))
lost_by request e m n (inr one) (inr other) =
    inr (same_both n (after m request) (after e request) other (same_both (after m request) (after (after e request) request) (after e request) (after_same request m (after e request) one) (twice request e)))

pub lost_on : (request : Request) (old mid new : Option Engine) → MayBeDone request old mid → MayBeDone request mid new → MayBeDone request old new
lost_on request None mid new may lost = subst (λ (m : Option Engine). MayBeDone request m new) may lost
lost_on request (Some e) None new may lost = absurd may
lost_on request (Some e) (Some m) None may lost = absurd lost
lost_on request (Some e) (Some m) (Some n) may lost = lost_by request e m n may lost

pub done_may : (request : Request) (old new : Option Engine) → IsDone request old new → MayBeDone request old new
done_may request None new done = done
done_may request (Some e) None done = done
done_may request (Some e) (Some n) done = inr done

pub not_begun : (request : Request) (engine : Option Engine) → MayBeDone request engine engine
not_begun request None = refl
not_begun request (Some e) = inl (same_itself e)

pub may_of : {A E : Type 0} (request : Request) (old new : Option Engine) (r : Result A E) → OnOk r (IsDone request old new) → OnErr r (MayBeDone request old new) → MayBeDone request old new
may_of {A} {E} request old new (Ok x) done lost = done_may request old new done
may_of {A} {E} request old new (Err x) done lost = lost

-- a request that is done again, or not
pub again_done : {A E : Type 0} (request : Request) (old mid new : Engine) (r : Result A E) → mid ≡ after old request → OnOk r (new ≡ after mid request) → OnErr r (new ≡ mid) → IsSame new (after old request)
again_done {A} {E} request old mid new (Ok x) first done stays =
    subst (λ (e : Engine). IsSame e (after old request)) (sym done)
    (subst (λ (e : Engine). IsSame (after e request) (after old request)) (sym first) (twice request old))
again_done {A} {E} request old mid new (Err x) first done stays =
    subst (λ (e : Engine). IsSame e (after old request)) (sym (stays ∙ first)) (same_itself (after old request))

-- ---- a question

pub are_same : (old mid new : Option Engine) → AreSame old mid → AreSame mid new → AreSame old new
are_same None mid new one other = subst (λ (m : Option Engine). AreSame m new) one other
are_same (Some e) None new one other = absurd one
are_same (Some e) (Some m) None one other = absurd other
are_same (Some e) (Some m) (Some n) one other = same_both n m e other one

pub same_known : (engine : Option Engine) → AreSame engine engine
same_known None = refl
same_known (Some e) = same_itself e

asks_nothing : (request : Request) (e : Engine) → is_range request ≡ true → after e request ≡ e
asks_nothing Ask e is = refl
asks_nothing (Read generation number) e is = refl
asks_nothing (Take seen owner) e is = absurd cc
asks_nothing (Put tail bytes) e is = absurd cc
asks_nothing (Fresh tail generation number bytes) e is = absurd cc
asks_nothing (Place tail generation count) e is = absurd cc
asks_nothing (Drop tail) e is = absurd cc

pub asked_same : (request : Request) (old new : Option Engine) → is_range request ≡ true → IsDone request old new → AreSame old new
asked_same request None new is done = done
asked_same request (Some e) None is done = done
asked_same request (Some e) (Some n) is done = subst (λ (x : Engine). IsSame n x) (asks_nothing request e is) done

lost_question : (request : Request) (e n : Engine) → is_range request ≡ true → IsSame n e ⊎ IsSame n (after e request) → IsSame n e
lost_question request e n is (inl same) = same
lost_question request e n is (inr same) = subst (λ (x : Engine). IsSame n x) (asks_nothing request e is) same

pub lost_same : (request : Request) (old new : Option Engine) → is_range request ≡ true → MayBeDone request old new → AreSame old new
lost_same request None new is may = may
lost_same request (Some e) None is may = may
lost_same request (Some e) (Some n) is may = lost_question request e n is may

answers_same : (request : Request) (e n : Engine) → is_range request ≡ true → IsSame n e → answer_of e request ≡ answer_of n request
answers_same Ask e n is same = ap (λ (t : Option Tail). TailIs t) (sym same.tail)
answers_same (Read generation number) e n is same = ap (λ (p : Option (List ℕ)). PieceIs p) (sym (same.piece generation number))
answers_same (Take seen owner) e n is same = absurd cc
answers_same (Put tail bytes) e n is same = absurd cc
answers_same (Fresh tail generation number bytes) e n is same = absurd cc
answers_same (Place tail generation count) e n is same = absurd cc
answers_same (Drop tail) e n is same = absurd cc

pub told_same : (request : Request) (old new : Option Engine) (answer : Answer) → is_range request ≡ true → AreSame old new → IsToldBy request old answer → IsToldBy request new answer
told_same request None new answer is same told = subst (λ (x : Option Engine). IsToldBy request x answer) (sym same) tt
told_same request (Some e) None answer is same told = absurd same
told_same request (Some e) (Some n) answer is same told = subst (λ (a : Told). Tells a answer) (answers_same request e n is same) told
