-- The size of a queue, and its kind.
use Rattle.std.specs.Prelude.{ℕ, ◌+◌, ◌-◌, ◌*◌, ◌/◌}
use Rattle.words.specs.declared.call.Kind.{Kind}

-- how many clients there are, and how many records each has
pub record Shape : Type 0 where
  pub kind : Kind
  pub clients : ℕ
  pub records : ℕ

-- the same without the kind, which is that of a layout's type
pub record Counts : Type 0 where
  pub clients : ℕ
  pub records : ℕ

abbrev pub shape_of : Kind → Counts → Shape
shape_of kind counts = record { kind = kind; clients = counts.clients; records = counts.records }

-- the greatest number of a node, and of a record
abbrev pub greatest : Shape → ℕ
greatest s = s.clients * s.records

-- the number of a client's record, its first one being record 0
abbrev pub record_of : Shape → ℕ → ℕ → ℕ
record_of s client used = 1 + client * s.records + used

-- whose record it is
abbrev pub owner : Shape → ℕ → ℕ
owner s number = (number - 1) / s.records
