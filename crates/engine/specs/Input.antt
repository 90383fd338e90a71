-- The bytes of input that are held.
use Rattle.std.specs.Prelude.{◌≡◌, ℕ, List, ◌++◌, length, take, Option}
use Rattle.std.specs.Io.KnownBytes.{Consumes, IsAtEnd}
use Rattle.engine.specs.declared.input.Input.{Input}

abbrev pub held : Input → List ℕ
held input = take input.len input.bytes

-- So many bytes more are held, which the reader had first. There are none only at the end.
pub record Gains (n : ℕ) (old new : List ℕ) (left left_after : Option (List ℕ)) : Type 0 where
  pub piece : List ℕ
  pub count : length piece ≡ n
  pub gained : new ≡ old ++ piece
  pub consumed : Consumes left left_after piece
  pub none : n ≡ 0 → IsAtEnd left_after
