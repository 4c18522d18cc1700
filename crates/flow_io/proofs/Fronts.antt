-- A content that is read part by part.
use Rattle.std.proofs.Common.{◌≡◌, ℕ, List, Option, IfSome, length, take}
use Rattle.std.specs.FinMap.{get}
use Rattle.flow_io.specs.Contents.{Contents}

-- what was read is the front of the content, where there is one
abbrev pub IsFrontOf : Option (List ℕ) → List ℕ → Type 0
IsFrontOf content read = IfSome content (λ bytes. read ≡ take (length read) bytes)

-- the same of a folder that may not tell what it holds
abbrev pub IsFrontAt : Option Contents → List ℕ → List ℕ → Type 0
IsFrontAt held name read = IfSome held (λ files. IsFrontOf (get files name) read)
