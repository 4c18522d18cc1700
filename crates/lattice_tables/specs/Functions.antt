-- What a function of a table is, and why a table of results is refused.
use Rattle.std.specs.Prelude.{◌≡◌, ℕ, List, ⊤}
use Rattle.table_laws.specs.FunctionTables.{FunctionTable, IsMonotone, IsFirstDisorder}
use Rattle.table_laws.specs.JoinTables.{only_element}
use Rattle.lattice_tables.specs.declared.function.TableFn.{TableFn}
use Rattle.lattice_tables.specs.declared.lattice.TableL.{TableL}
use Rattle.lattice_tables.specs.declared.refusal.FunctionRefusal.{FunctionRefusal}
use Rattle.lattice_tables.specs.declared.refusal.FunctionRefusal.TheVariants.{NotMonotone, NoMemory}
use Rattle.lattice_tables.specs.Tables.{join_table}

abbrev pub unary : TableL → TableL → List ℕ → FunctionTable
unary from to results = record { left = join_table from; right = only_element; to = join_table to; results = results }

abbrev pub binary : TableL → TableL → TableL → List ℕ → FunctionTable
binary left right to results = record { left = join_table left; right = join_table right; to = join_table to; results = results }

-- a function has these arguments and results, and is monotone
pub record IsMadeOf (f : FunctionTable) (made : TableFn) : Type 0 where
  pub left : made.left ≡ f.left.count
  pub right : made.right ≡ f.right.count
  pub results : made.results ≡ f.results
  pub monotone : IsMonotone f

-- a table of results isn't monotone as a refusal says
abbrev pub IsFunctionRefusal : FunctionTable → FunctionRefusal → Type 0
IsFunctionRefusal f (NotMonotone lower higher) = IsFirstDisorder f lower higher
IsFunctionRefusal f NoMemory = ⊤
