-- What the search for disorders answers.
use Rattle.std.specs.Prelude.{Bool, ◌&&◌, not, Option, Some, None}
use Rattle.table_laws.specs.FunctionTables.{FunctionTable, IsMonotone, IsFirstDisorder, Arguments, result_of}
use Rattle.lattice_tables.specs.declared.disorder.Results.{Results}
use Rattle.lattice_tables.specs.inner.Shown.{shown}
use Rattle.lattice_tables.specs.inner.Tests.{is_below}

abbrev pub function_by : Results → FunctionTable
function_by r = record { left = shown r.left; right = shown r.right; to = shown r.to; results = r.results.now }

-- the first disorder, or that there is none
abbrev pub IsFirstOfFunction : FunctionTable → Option (Arguments × Arguments) → Type 0
IsFirstOfFunction f None = IsMonotone f
IsFirstOfFunction f (Some p) = IsFirstDisorder f p.0 p.1

-- whether arguments are below others, and their results aren't
abbrev pub are_disordered : FunctionTable → Arguments → Arguments → Bool
are_disordered f low high = is_below f.left low.0 high.0 && is_below f.right low.1 high.1 && not (is_below f.to (result_of f low.0 low.1) (result_of f high.0 high.1))
