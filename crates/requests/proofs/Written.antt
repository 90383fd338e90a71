-- The compact text of a value is read as that value, where it has texts and whole numbers alone, in arrays and in objects
-- whose keys stand in order.
use Rattle.std.proofs.Common.{◌≡◌, ◌∙◌, ◌≤◌, ◌<◌, ◌^◌, Bool, true, false, [], ◌∷◌, ◌++◌, Some, refl, sym, ap, IsUtf8, append-nil}
use Rattle.std.specs.Prelude.{decimal, ⊤, option_and_then, option_map, suc}
use Rattle.std.proofs.lemmas.Fmt.{IsAscii-decimal}
use Rattle.std.proofs.lemmas.Str.{IsUtf8-append, IsUtf8-from_ascii, IsUtf8-nil}
use Rattle.json.specs.Lex.{tokens}
use Rattle.json.specs.Json as json
use Rattle.json.specs.Tree as tree
use Rattle.json.specs.Tree.{json_tokens, HasNumbers, ItemsHaveNumbers, MembersHaveNumbers}
use Rattle.json.specs.Print.{quoted}
use Rattle.json.proofs.Printed.Tokens.{tokens-print}
use Rattle.json.proofs.Printed.Trees.{value-json_tokens, ArePrintable-json_tokens}
use Rattle.json.proofs.Printed.Decimals.{IsNumber-decimal}
use Rattle.json.proofs.Printed.Utf8.{IsUtf8-quoted, IsUtf8-are_ascii}
use Rattle.serde_json.specs.Data.{Data, null, boolean, number, unsigned, negative, float, string, array, object, Items, no_items, item, Members, no_members, member, put, depth, items_depth, members_depth}
use Rattle.serde_json.specs.Read.{read, of_json, of_items, of_members, max_depth}
use Rattle.serde_json.specs.Written.{outline, items_outline, members_outline, compact_text, items_text, members_text, comma_if}
use Rattle.serde_json.proofs.Numbers.{number_of-decimal}
use Rattle.serde_json.proofs.Texts.{print-outline}

-- the members put in one after another, as they are read
abbrev pub put_all : Members → Members → Members
put_all no_members found = found
put_all (member key value rest) found = put_all rest (put key value found)

-- a text, a whole number below 2^64, or an array or an object of such, with its keys in order
abbrev mutual
  pub IsPlain : Data → Type 0
  IsPlain null = ⊥
  IsPlain (boolean b) = ⊥
  IsPlain (number (unsigned n)) = n < 2 ^ 64
  IsPlain (number (negative z)) = ⊥
  IsPlain (number (float x)) = ⊥
  IsPlain (string s) = IsUtf8 s
  IsPlain (array items) = AreItemsPlain items
  IsPlain (object members) = ArePlain members × (put_all members no_members ≡ members)

  pub AreItemsPlain : Items → Type 0
  AreItemsPlain no_items = ⊤
  AreItemsPlain (item value rest) = IsPlain value × AreItemsPlain rest

  pub ArePlain : Members → Type 0
  ArePlain no_members = ⊤
  ArePlain (member key value rest) = IsUtf8 key × IsPlain value × ArePlain rest

comma_utf8 : (later : Bool) → IsUtf8 (comma_if later)
comma_utf8 true = IsUtf8-are_ascii (44 ∷ []) refl
comma_utf8 false = IsUtf8-nil

mutual
  value_utf8 : (value : Data) → IsPlain value → IsUtf8 (compact_text value)
  value_utf8 null h = absurd h
  value_utf8 (boolean b) h = absurd h
  value_utf8 (number (unsigned n)) h = IsUtf8-from_ascii (decimal n) (IsAscii-decimal n h)
  value_utf8 (number (negative z)) h = absurd h
  value_utf8 (number (float x)) h = absurd h
  value_utf8 (string s) h = IsUtf8-quoted s h
  value_utf8 (array items) h =
      IsUtf8-append (91 ∷ []) _ (IsUtf8-are_ascii (91 ∷ []) refl) (items_utf8 false items h)
  value_utf8 (object members) h =
      IsUtf8-append (123 ∷ []) _ (IsUtf8-are_ascii (123 ∷ []) refl) (members_utf8 false members h.0)

  items_utf8 : (later : Bool) (rest : Items) → AreItemsPlain rest → IsUtf8 (items_text later rest)
  items_utf8 later no_items h = IsUtf8-are_ascii (93 ∷ []) refl
  items_utf8 later (item value rest) h =
      IsUtf8-append (comma_if later) _ (comma_utf8 later)
      (IsUtf8-append (compact_text value) _ (value_utf8 value h.0) (items_utf8 true rest h.1))

  members_utf8 : (later : Bool) (rest : Members) → ArePlain rest → IsUtf8 (members_text later rest)
  members_utf8 later no_members h = IsUtf8-are_ascii (125 ∷ []) refl
  members_utf8 later (member key value rest) h =
      IsUtf8-append (comma_if later) _ (comma_utf8 later)
      (IsUtf8-append (quoted key) _ (IsUtf8-quoted key h.0)
      (IsUtf8-append (58 ∷ []) _ (IsUtf8-are_ascii (58 ∷ []) refl)
      (IsUtf8-append (compact_text value) _ (value_utf8 value h.1) (members_utf8 true rest h.2))))

pub object_utf8 : (rest : Members) → ArePlain rest → IsUtf8 (compact_text (object rest))
object_utf8 rest h = IsUtf8-append (123 ∷ []) _ (IsUtf8-are_ascii (123 ∷ []) refl) (members_utf8 false rest h)

-- its numbers are numbers
mutual
  numbered : (value : Data) → IsPlain value → HasNumbers (outline value)
  numbered null h = absurd h
  numbered (boolean b) h = absurd h
  numbered (number (unsigned n)) h = IsNumber-decimal n h
  numbered (number (negative z)) h = absurd h
  numbered (number (float x)) h = absurd h
  numbered (string s) h = tt
  numbered (array items) h = items_numbered items h
  numbered (object members) h = members_numbered members h.0

  items_numbered : (rest : Items) → AreItemsPlain rest → ItemsHaveNumbers (items_outline rest)
  items_numbered no_items h = tt
  items_numbered (item value rest) h = (numbered value h.0, items_numbered rest h.1)

  members_numbered : (rest : Members) → ArePlain rest → MembersHaveNumbers (members_outline rest)
  members_numbered no_members h = tt
  members_numbered (member key value rest) h = (numbered value h.1, members_numbered rest h.2)

-- it nests as deep as its outline
mutual
  as_deep : (value : Data) → tree.depth (outline value) ≡ depth value
  as_deep null = refl
  as_deep (boolean b) = refl
  as_deep (number n) = refl
  as_deep (string s) = refl
  as_deep (array items) = ap suc (items_as_deep items)
  as_deep (object members) = ap suc (members_as_deep members)

  items_as_deep : (rest : Items) → tree.items_depth (items_outline rest) ≡ items_depth rest
  items_as_deep no_items = refl
  items_as_deep (item value rest) = rw (as_deep value, items_as_deep rest) refl

  members_as_deep : (rest : Members) → tree.members_depth (members_outline rest) ≡ members_depth rest
  members_as_deep no_members = refl
  members_as_deep (member key value rest) = rw (as_deep value, members_as_deep rest) refl

-- the outline is the value
mutual
  outline_read : (value : Data) → IsPlain value → of_json (outline value) ≡ Some value
  outline_read null h = absurd h
  outline_read (boolean b) h = absurd h
  outline_read (number (unsigned n)) h = ap (option_map number) (number_of-decimal n h)
  outline_read (number (negative z)) h = absurd h
  outline_read (number (float x)) h = absurd h
  outline_read (string s) h = refl
  outline_read (array items) h = ap (option_map array) (items_read items h)
  outline_read (object members) h = ap (option_map object) (members_read members no_members h.0 ∙ ap Some h.1)

  items_read : (rest : Items) → AreItemsPlain rest → of_items (items_outline rest) ≡ Some rest
  items_read no_items h = refl
  items_read (item value rest) h = rw (outline_read value h.0, items_read rest h.1) refl

  members_read : (rest found : Members) → ArePlain rest
      → of_members (members_outline rest) found ≡ Some (put_all rest found)
  members_read no_members found h = refl
  members_read (member key value rest) found h =
      rw (outline_read value h.1) (members_read rest (put key value found) h.2)

pub read-compact_text : (value : Data) → IsPlain value → depth value ≤ max_depth
    → read (compact_text value) ≡ Some value
read-compact_text value plain shallow =
    let written : tokens (compact_text value) ≡ json_tokens (outline value) ++ [] =
    ap tokens (sym (print-outline value))
    ∙ tokens-print (json_tokens (outline value)) (ArePrintable-json_tokens (outline value) (numbered value plain))
    ∙ sym (append-nil (json_tokens (outline value))) in
    let flat_enough : tree.depth (outline value) ≤ max_depth = rw (as_deep value) shallow in
    ap (λ ts. option_and_then of_json (option_and_then (λ p. json.if_last p.0 p.1) (json.value max_depth ts))) written
    ∙ ap (λ found. option_and_then of_json (option_and_then (λ p. json.if_last p.0 p.1) found))
    (value-json_tokens (outline value) max_depth [] flat_enough)
    ∙ outline_read value plain
