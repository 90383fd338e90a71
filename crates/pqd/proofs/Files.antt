-- What a broker begins on goes on from the file that it was found in.
use Rattle.std.proofs.Common.{◌≡◌, Option, Some, None}
use Rattle.named.specs.Brokers.{Brokered}
use Rattle.journal_store.specs.Folder.{File, Files}
use Rattle.journal_store.specs.Found.{IsFoundOf, IsFoundThere}
use Rattle.journal_store.specs.declared.found.Found.{Found}
use Rattle.options.specs.declared.asked.Options.{Options}
use Rattle.pqd.specs.Keeping.{GoesOnFrom, GoesOnFromFile, GoesOnFromFiles}

of_file : (asked : Options) (file : Option File) (found : Found) (b : Brokered) → IsFoundOf file (Some found)
    → GoesOnFrom asked found.words.items b → GoesOnFromFile asked file b
of_file asked None found b there on = tt
of_file asked (Some f) found b there on = (found, there, on)

pub of_files : (asked : Options) (files : Option Files) (found : Found) (b : Brokered) → IsFoundThere files (Some found)
    → GoesOnFrom asked found.words.items b → GoesOnFromFiles asked files b
of_files asked None found b there on = tt
of_files asked (Some fs) found b there on = of_file asked fs.place.file found b there on

-- where there is no file, a new one does
of_no_file : (asked : Options) (file : Option File) (b : Brokered) → IsFoundOf file None → GoesOnFromFile asked file b
of_no_file asked None b there = tt
of_no_file asked (Some f) b there = absurd there

pub of_none : (asked : Options) (files : Option Files) (b : Brokered) → IsFoundThere files None
    → GoesOnFromFiles asked files b
of_none asked None b there = tt
of_none asked (Some fs) b there = of_no_file asked fs.place.file b there
