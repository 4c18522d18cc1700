-- What the parts of `prepare` answer.
use Rattle.std.specs.Prelude.{◌≡◌, ◌⊎◌, ℕ, List, None, bytes_eq, find, ⊤}
use Rattle.std.specs.List.{AllZip}
use Rattle.flow_syntax.specs.declared.spec.Spec.{Spec}
use Rattle.flow_syntax.specs.declared.spec.TypedSpec.{TypedSpec}
use Rattle.flow_syntax.specs.declared.tables.TableDecl.{TableDecl}
use Rattle.lattice_tables.specs.declared.lattice.TableL.{TableL}
use Rattle.lattice_tables.specs.Tables.{IsBuiltFrom}
use Rattle.lattice_tables.specs.declared.refusal.FunctionRefusal.{FunctionRefusal}
use Rattle.lattice_tables.specs.declared.refusal.FunctionRefusal.TheVariants as functions
use Rattle.lattice_tables.specs.declared.refusal.TableRefusal.{TableRefusal}
use Rattle.lattice_tables.specs.declared.refusal.TableRefusal.TheVariants as tables
use Rattle.flow_eval.specs.Accepted.{IsFirstDisordered, IsFirstUnlawful, IsRefusedFor}
use Rattle.flow_eval.specs.Tables.{types_in}
use Rattle.flow_eval.specs.declared.refusal.PrepareRefusal.{PrepareRefusal}
use Rattle.flow_eval.specs.declared.refusal.PrepareRefusal.TheVariants.{Law, NotMonotone, NoMemory}

-- lattices are those of declarations, place by place
abbrev pub AreLatticesOf : List TableDecl → List TableL → Type 0
AreLatticesOf = AllZip IsBuiltFrom

-- a lattice of this name is declared
abbrev pub IsKnown : List TableDecl → List ℕ → Type 0
IsKnown declared x = find (λ d. bytes_eq x d.name.text) declared ≡ None → ⊥

-- no lattices are made, for the first that breaks a law
abbrev pub IsLatticeRefusal : Spec → PrepareRefusal → Type 0
IsLatticeRefusal spec (Law lattice fault) = IsFirstUnlawful spec lattice fault
IsLatticeRefusal spec NoMemory = ⊤
IsLatticeRefusal spec _ = ⊥

-- no functions are made, for the first that isn't monotone
abbrev pub IsDisorderRefusal : Spec → PrepareRefusal → Type 0
IsDisorderRefusal spec (NotMonotone function lower higher) = IsFirstDisordered spec function lower higher
IsDisorderRefusal spec NoMemory = ⊤
IsDisorderRefusal spec _ = ⊥

-- a specification is refused for this cause, or for want of memory
abbrev pub IsRefusalOf : TypedSpec → PrepareRefusal → Type 0
IsRefusalOf spec why = (why ≡ NoMemory) ⊎ IsRefusedFor spec.spec (types_in spec) why

-- the refusal for the lattice with a number, and for the function with a number
abbrev pub refused_lattice : ℕ → TableRefusal → PrepareRefusal
refused_lattice lattice (tables.Law fault) = Law lattice fault
refused_lattice lattice tables.NoMemory = NoMemory

abbrev pub refused_function : ℕ → FunctionRefusal → PrepareRefusal
refused_function function (functions.NotMonotone lower higher) = NotMonotone function lower higher
refused_function function functions.NoMemory = NoMemory
