use Rattle.directory.specs.Queue.{directory_of}
use Rattle.directory.specs.Directory.{IsDirectory}
use Rattle.directory.specs.Recovering.{AreFoundBefore}
use Rattle.directory.proofs.soundness.kept_directory.Given as goal

abbrev pub invariant-loop-slot : goal.invariant-loop-slot
invariant-loop-slot g l = record {
  found : AreFoundBefore l.directory (directory_of (g.W.KeptWords.kept_words l.words)) l.slot;
  directory : IsDirectory l.directory;
}
