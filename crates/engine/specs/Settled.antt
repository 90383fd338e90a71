-- What replies tell of is settled.
use Rattle.std.specs.Prelude.{◌≡◌, ◌⊎◌, ℕ, List, [], ◌++◌, Option}
use Rattle.std.specs.Io.KnownBytes.{Appends}
use Rattle.devices.specs.Devices.{AppendsBeginning}
use Rattle.engine.specs.declared.reply.Reply.{Reply}
use Rattle.engine.specs.Replies.{Served, output_of, made_of}

-- There are no such replies, and nothing more is settled. Or all is settled that was served before, and with them.
abbrev pub AreSettled : Served → Served → Served → List Reply → Type 0
AreSettled served settled settled_after replies =
    ((replies ≡ []) × (settled_after ≡ settled)) ⊎ (settled_after ≡ served ++ made_of replies)

-- The text of the replies was written, and they are settled.
pub record AreTold (served settled settled_after : Served) (old new : Option (List ℕ)) (replies : List Reply) : Type 0 where
  pub written : Appends old new (output_of replies)
  pub lasting : AreSettled served settled settled_after replies

-- A beginning of the text of the first of the replies was written, and these are settled.
pub record SomeAreTold (served settled settled_after : Served) (old new : Option (List ℕ)) (replies : List Reply)
    : Type 0 where
  pub told : List Reply
  pub untold : List Reply
  pub parts : replies ≡ told ++ untold
  pub written : AppendsBeginning old new (output_of told)
  pub lasting : AreSettled served settled settled_after told
