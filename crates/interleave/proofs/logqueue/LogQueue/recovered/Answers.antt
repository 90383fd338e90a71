use Rattle.std.proofs.Common.{◌≡◌, ℕ, suc, ◌+◌, ◌-◌, ◌<◌, List, [], ◌∷◌, ◌++◌, length, map, take, get_or, replicate, set, sym, ap, ◌∙◌, arith, append_assoc, rules}
use Rattle.std.proofs.lemmas.List.{set_at, map_more, length-map, length-take-le}
use Rattle.words.specs.declared.told.Told.{Told}
use Rattle.interleave.specs.LogQueue.{floor_of}
use Rattle.interleave.proofs.logqueue.LogQueue.recovered.Goals as goal

-- one client more has its floor
one_more : (told : List Told) (i x : ℕ) (d : Told) → length told ≡ 16 → i < 16 → x ≡ floor_of (get_or told i d) → set (map floor_of (take i told) ++ replicate (16 - i) 0) i x ≡ map floor_of (take (i + 1) told) ++ replicate (16 - (i + 1)) 0
one_more told i x d all h e =
    let one : 16 - i ≡ suc (16 - (i + 1)) = omega arith in
    let within : i < length told = omega arith in
    let front : length (map floor_of (take i told)) ≡ i = length-map (take i told) floor_of ∙ length-take-le i told (omega arith) in
    rw one (
    set_at (map floor_of (take i told)) 0 (replicate (16 - (i + 1)) 0) x i front
    ∙ sym (append_assoc (map floor_of (take i told)) (x ∷ []) (replicate (16 - (i + 1)) 0))
    ∙ ap (λ y. (map floor_of (take i told) ++ y ∷ []) ++ replicate (16 - (i + 1)) 0) e
    ∙ ap (λ xs. xs ++ replicate (16 - (i + 1)) 0) (sym (map_more floor_of told i d within))
    )

pub loop-client-preserved : goal.loop-client-preserved
loop-client-preserved c =
    let h : c.loop-client.client < 16 = omega arith in
    let all : length c.args.told ≡ 16 = search rules in
    rw c.loop-client.invariant (one_more c.args.told c.loop-client.client c.floor.result _ all h c.floor.ensures)
