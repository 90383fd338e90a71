use Rattle.std.proofs.Common.{subst}
use Rattle.directory.specs.Directory.{IsDirectory}
use Rattle.directory.proofs.Broken.{all_there, directory_broken, head_broken, names_broken, none_broken, slots_broken}
use Rattle.directory.proofs.soundness.sound_in.Goals as goal

pub returns-in_default-clause-ok : goal.returns-in_default-clause-ok
returns-in_default-clause-ok g c = head_broken _ _ c.in_default.ensures.none

pub are_slots_sound-requires : goal.are_slots_sound-requires
are_slots_sound-requires g c = all_there _ _ c.in-Some.ensures.sound _ c.in-Some.ensures.layout

pub returns-then-not-are_slots_sound-clause-damaged :
    goal.returns-then-not-are_slots_sound-clause-damaged
returns-then-not-are_slots_sound-clause-damaged g c =
    slots_broken _ _ c.in-Some.ensures.sound _ c.in-Some.ensures.layout _ c.are_slots_sound.ensures c.if-not-are_slots_sound.true

pub returns-then-not-are_slots_sound-clause-ok : goal.returns-then-not-are_slots_sound-clause-ok
returns-then-not-are_slots_sound-clause-ok g c = directory_broken _ _ (returns-then-not-are_slots_sound-clause-damaged g c)

pub returns-in_default-kept_directory-clause-damaged : goal.returns-in_default-kept_directory-clause-damaged
returns-in_default-kept_directory-clause-damaged g c =
    names_broken _ _ c.in-Some.ensures.sound c.in_default-kept_directory.ensures.none

pub returns-in_default-kept_directory-clause-ok : goal.returns-in_default-kept_directory-clause-ok
returns-in_default-kept_directory-clause-ok g c = directory_broken _ _ (returns-in_default-kept_directory-clause-damaged g c)

pub returns-clause-ok : goal.returns-clause-ok
returns-clause-ok g c =
    none_broken _ _ c.in-Some.ensures.sound _ c.in-Some.ensures.layout (c.are_slots_sound.ensures.0 c.if-not-are_slots_sound.false)
    (subst IsDirectory c.in-Some-kept_directory.ensures.read c.in-Some-kept_directory.ensures.sound)
