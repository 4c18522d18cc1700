-- What a replacement in a tree leaves.
use Rattle.std.specs.Prelude.{◌≡◌, ℕ, List, Some}
use Rattle.flow_term.specs.declared.term.Term.{Term}
use Rattle.flow_term.specs.Trees.{At, Put}

-- Where the term that stood at a path is put back there, the tree is as it was.
abbrev pub WhatWasThereIsBack : Type 0
WhatWasThereIsBack = (tree : Term) (path : List ℕ) (new old : Term) → At tree path ≡ Some old → Put (Put tree path new) path old ≡ tree

-- Where a term stood at a path, there stands what is put there.
abbrev pub WhatIsPutIsThere : Type 0
WhatIsPutIsThere = (tree : Term) (path : List ℕ) (new old : Term) → At tree path ≡ Some old → At (Put tree path new) path ≡ Some new
