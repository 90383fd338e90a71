-- The bytes of output that are held, and how they are sent.
use Rattle.std.specs.Prelude.{◌≡◌, ◌⊎◌, ℕ, List, [], ◌++◌, Option, Result, Ok, Err}
use Rattle.std.specs.Io.KnownBytes.{Appends, Keeps}
use Rattle.devices.specs.Devices.{AppendsBeginning}
use Rattle.engine.specs.declared.output.Unsent.{Unsent}
use Rattle.engine.specs.declared.output.Unsent.TheVariants.{NotKept, WriteFailed}
use Rattle.engine.specs.declared.reply.Reply.{Reply}
use Rattle.engine.specs.Replies.{Served, output_of}
use Rattle.engine.specs.Settled.{SomeAreTold}

-- Of the bytes that were held, with this text behind them, the first were written, and the others are held.
abbrev pub Moves : Option (List ℕ) → Option (List ℕ) → List ℕ → List ℕ → List ℕ → Type 0
Moves old new held held_after text = (sent : List ℕ) × Appends old new sent × (held ++ text ≡ sent ++ held_after)

-- Nothing was written, and nothing more is settled. Or all that was served is settled, and a beginning of the bytes
-- that were held was written.
abbrev pub SendsSettled : Served → Served → Served → Option (List ℕ) → Option (List ℕ) → List ℕ → Type 0
SendsSettled served settled settled_after old new held =
    (Keeps old new × (settled_after ≡ settled)) ⊎ (AppendsBeginning old new held × (settled_after ≡ served))

-- no byte was held, and nothing more is settled; or all that was served is settled
abbrev pub SettlesFor : List ℕ → Served → Served → Served → Type 0
SettlesFor held served settled settled_after = ((held ≡ []) × (settled_after ≡ settled)) ⊎ (settled_after ≡ served)

-- Of the text of these replies the first bytes were written, and the others are held: where none are, there are no
-- replies. What was written tells of what is settled.
pub record AreHeld (served settled settled_after : Served) (old new : Option (List ℕ)) (held : List ℕ)
    (replies : List Reply) : Type 0 where
  pub moved : Moves old new [] held (output_of replies)
  pub none : held ≡ [] → replies ≡ []
  pub told : SomeAreTold served settled settled_after old new replies

-- how often the writer failed
abbrev pub write_failures_of : {A : Type 0} → Result A Unsent → ℕ
write_failures_of (Ok x) = 0
write_failures_of (Err NotKept) = 0
write_failures_of (Err WriteFailed) = 1

-- how often the desk failed to settle
abbrev pub settle_failures_of : {A : Type 0} → Result A Unsent → ℕ
settle_failures_of (Ok x) = 0
settle_failures_of (Err NotKept) = 1
settle_failures_of (Err WriteFailed) = 0
