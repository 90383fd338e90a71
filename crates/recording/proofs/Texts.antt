-- Texts by their bytes.
use Rattle.std.proofs.Common.{ℕ, ◌≡◌, ◌<◌, ◌≤◌, ◌+◌, List, [], ◌∷◌, ◌++◌, Bool, true, false, refl, ap, sym, ◌∙◌, ◌||◌}
use Rattle.std.proofs.Common.{Some, None, length, get_or, slice_get}
use Rattle.std.proofs.lemmas.Option.{slice_get-get_or, slice_get_past}
use Rattle.std.specs.Prelude.{map, not, if◌then◌else◌, String, string_bytes, string_eq}
use Rattle.std.specs.declared.alloc.Global.{Global}
use Rattle.std.specs.List.{list_any, position_or_len}
use Rattle.std.specs.Str.{bytes_eq}
use Rattle.std.proofs.lemmas.Bool.{not-true, not-false}
use Rattle.std.proofs.lemmas.List.{map-append}
use Rattle.recording.specs.declared.act.CallOf.{CallOf}
use Rattle.recording.specs.declared.act.Step.{Step}
use Rattle.recording.specs.declared.state.State.{State}
use Rattle.recording.specs.Reading.{Read, number_in, with_text}

any_mapped : {X Y : Type 0} (p : Y → Bool) (f : X → Y) (xs : List X)
    → list_any p (map f xs) ≡ list_any (λ x. p (f x)) xs
any_mapped p f [] = refl
any_mapped p f (x ∷ xs) = ap (λ (b : Bool). p (f x) || b) (any_mapped p f xs)

place_mapped : {X Y : Type 0} (p : Y → Bool) (f : X → Y) (xs : List X)
    → position_or_len p (map f xs) ≡ position_or_len (λ x. p (f x)) xs
place_mapped p f [] = refl
place_mapped p f (x ∷ xs) = go (p (f x)) (place_mapped p f xs)
  where
    go : (b : Bool) → position_or_len p (map f xs) ≡ position_or_len (λ x. p (f x)) xs
        → (if not b then 1 + position_or_len p (map f xs) else 0)
        ≡ (if not b then 1 + position_or_len (λ x. p (f x)) xs else 0)
    go true same = refl
    go false same = ap (λ (n : ℕ). 1 + n) same

-- the number of a text among texts
pub number_of_text : (texts : List (String Global)) (text : String Global)
    → position_or_len (string_eq text) texts ≡ number_in (map string_bytes texts) (string_bytes text)
number_of_text texts text = sym (place_mapped (bytes_eq (string_bytes text)) string_bytes texts)

-- whether it is among them
pub is_text_among : (texts : List (String Global)) (text : String Global)
    → list_any (string_eq text) texts ≡ list_any (bytes_eq (string_bytes text)) (map string_bytes texts)
is_text_among texts text = sym (any_mapped (bytes_eq (string_bytes text)) string_bytes texts)

-- the texts with it
pub texts_with : (texts : List (String Global)) (text : String Global)
    → map string_bytes (if list_any (string_eq text) texts then texts else texts ++ text ∷ [])
    ≡ with_text (map string_bytes texts) (string_bytes text)
texts_with texts text =
    go (list_any (string_eq text) texts)
    ∙ ap (λ (b : Bool). if b then map string_bytes texts else map string_bytes texts ++ string_bytes text ∷ [])
    (is_text_among texts text)
  where
    go : (b : Bool) → map string_bytes (if b then texts else texts ++ text ∷ [])
        ≡ (if b then map string_bytes texts else map string_bytes texts ++ string_bytes text ∷ [])
    go true = refl
    go false = map-append string_bytes texts (text ∷ [])

-- the same has been read
pub same_read : (a b : Read) → a.clients ≡ b.clients → a.states ≡ b.states → a.values ≡ b.values
    → a.numbers ≡ b.numbers → a.free ≡ b.free → a.calls ≡ b.calls → a.steps ≡ b.steps → a ≡ b
same_read a b clients states values numbers free calls steps =
    ap (λ (xs : List (List ℕ)). record a { clients = xs }) clients
    ∙ ap (λ (xs : List State). record a { clients = b.clients; states = xs }) states
    ∙ ap (λ (xs : List (List ℕ)). record a { clients = b.clients; states = b.states; values = xs }) values
    ∙ ap (λ (n : ℕ). record b { numbers = n; free = a.free; calls = a.calls; steps = a.steps }) numbers
    ∙ ap (λ (xs : List ℕ). record b { free = xs; calls = a.calls; steps = a.steps }) free
    ∙ ap (λ (xs : List CallOf). record b { calls = xs; steps = a.steps }) calls
    ∙ ap (λ (xs : List Step). record b { steps = xs }) steps

-- what goes with each text, with a new one and with one that is there
pub new_with : {X : Type 0} (texts : List (String Global)) (text : String Global) (xs : List X) (x : X)
    (is_new : Bool) → is_new ≡ not (list_any (string_eq text) texts) → is_new ≡ true
    → xs ++ x ∷ []
    ≡ (if list_any (bytes_eq (string_bytes text)) (map string_bytes texts) then xs else xs ++ x ∷ [])
new_with {X = X} texts text xs x is_new added true_is =
    let none : list_any (string_eq text) texts ≡ false = not-true _ (sym added ∙ true_is) in
    ap (λ (b : Bool). if b then xs else xs ++ x ∷ []) (sym none ∙ is_text_among texts text)

pub old_with : {X : Type 0} (texts : List (String Global)) (text : String Global) (xs : List X) (x : X)
    (is_new : Bool) → is_new ≡ not (list_any (string_eq text) texts) → is_new ≡ false
    → xs ≡ (if list_any (bytes_eq (string_bytes text)) (map string_bytes texts) then xs else xs ++ x ∷ [])
old_with {X = X} texts text xs x is_new added false_is =
    let one : list_any (string_eq text) texts ≡ true = not-false _ (sym added ∙ false_is) in
    ap (λ (b : Bool). if b then xs else xs ++ x ∷ []) (sym one ∙ is_text_among texts text)

-- the call of a number
pub looked_up : (xs ys : List CallOf) (call : ℕ) (of : CallOf) → xs ≡ ys → call < length xs
    → of ≡ get_or xs call of → slice_get ys call ≡ Some of
looked_up xs ys call of same lt is =
    ap (λ (zs : List CallOf). slice_get zs call) (sym same) ∙ slice_get-get_or xs call of lt ∙ ap Some (sym is)

pub not_there : (xs ys : List CallOf) (call : ℕ) → xs ≡ ys → length xs ≤ call → slice_get ys call ≡ None
not_there xs ys call same past = ap (λ (zs : List CallOf). slice_get zs call) (sym same) ∙ slice_get_past xs call past
