-- What a folder may answer to a call that asks for a part of a file.
use Rattle.std.specs.Prelude.{◌≡◌, ℕ, ◌+◌, ◌≤◌, List, Option, None, length, take, drop, IsSomeAnd}
use Rattle.flow_io.specs.declared.folder.Part.{Part}
use Rattle.flow_io.specs.declared.folder.Part.TheVariants.{Bytes, End, Missing}

-- a number of bytes is at least one, and at most the buffer's length
abbrev pub FitsBuffer : ℕ → Part → Type 0
FitsBuffer room (Bytes n) = (1 ≤ n) × (n ≤ room)
FitsBuffer room End = Unit {0}
FitsBuffer room Missing = Unit {0}

-- the buffer begins with n bytes of the content, those from this offset on
abbrev pub BeginsWithPart : List ℕ → ℕ → ℕ → List ℕ → Type 0
BeginsWithPart buffer n from bytes = (from + n ≤ length bytes) × (take n buffer ≡ take n (drop from bytes))

-- the answer fits this content of the name, or its absence, where the buffer is this after the call
abbrev pub IsPartOf : Option (List ℕ) → ℕ → List ℕ → Part → Type 0
IsPartOf content from buffer (Bytes n) = IsSomeAnd content (BeginsWithPart buffer n from)
IsPartOf content from buffer End = IsSomeAnd content (λ bytes. length bytes ≤ from)
IsPartOf content from buffer Missing = content ≡ None
