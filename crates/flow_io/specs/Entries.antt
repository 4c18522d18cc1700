-- The files of a folder in memory, as the finite map that they stand for.
use Rattle.std.specs.Prelude.{◌≡◌, ℕ, ◌<◌, List, Option, None, length, take, map, string_bytes, slice_index_or}
use Rattle.std.specs.FinMap.{find, from_entries}
use Rattle.std.specs.Cmp.Lexicographic.{slice_cmp}
use Rattle.std.specs.Ordering.{nat_cmp}
use Rattle.flow_io.specs.Contents.{Contents}
use Rattle.flow_io.specs.declared.memory_folder.File.{File}

-- a file's name and its content
abbrev pub entry_of : File → List ℕ × List ℕ
entry_of file = (string_bytes file.name, file.content.items)

-- the names of the files with their contents
abbrev pub contents : List File → Contents
contents files = from_entries (map entry_of files)

-- the content of the first file of this name
abbrev pub first_content : List File → List ℕ → Option (List ℕ)
first_content files name = find (slice_cmp nat_cmp) name (map entry_of files)

-- the first file of this name stands here
abbrev pub IsFirstAt : List File → List ℕ → ℕ → Type 0
IsFirstAt files name at = (at < length files) × ((d : File) → string_bytes (slice_index_or files at d).name ≡ name) × (first_content (take at files) name ≡ None)
