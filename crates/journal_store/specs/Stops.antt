-- What a stop of the machine leaves of the files.
use Rattle.std.specs.Prelude.{◌≡◌, ◌≤◌, ℕ, None, Some, option_map, max, take}
use Rattle.journal_store.specs.Folder.{File, Files}
use Rattle.journal_store.specs.Stored.{kept_in, text_in}

-- so many bytes of what was written are left, and at least those that were kept
abbrev pub cut_to : ℕ → File → File
cut_to left f = record f { text = take (max left f.kept) f.text }

-- the journal's file is left so, and nothing of the fresh one
abbrev pub stopped : ℕ → Files → Files
stopped left fs = record { place = record fs.place { file = option_map (cut_to left) fs.place.file }; fresh = None }

-- what was written to the file of the journal's name is cut off behind so many bytes, which has what no stop takes away
pub record IsCutOff (fs : Files) (left : ℕ) : Type 0 where
  pub n : ℕ
  pub kept : kept_in (Some fs) ≤ n
  pub text : text_in (Some (stopped left fs)) ≡ option_map (take n) (text_in (Some fs))
