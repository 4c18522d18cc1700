-- The faults of the declarations of each section.
use Rattle.std.specs.Prelude.{◌≡◌, ◌<◌, ℕ, true, Option, Some, None, List}
use Rattle.std.specs.List.{flat_map}
use Rattle.check_base.specs.Earliest.{Either, SomeHas, IsFaultWhere}
use Rattle.flow_syntax.specs.declared.fault.SpecFaultKind.{SpecFaultKind}
use Rattle.flow_syntax.specs.declared.fault.SpecFaultKind.TheVariants as kinds
use Rattle.flow_syntax.specs.declared.property.PropDecl.{PropDecl}
use Rattle.flow_syntax.specs.declared.property.PropRule.{PropRule}
use Rattle.flow_syntax.specs.declared.signature.Constructor.{Constructor}
use Rattle.flow_syntax.specs.declared.spec.Named.{Named}
use Rattle.flow_syntax.specs.declared.spec.Spec.{Spec}
use Rattle.flow_syntax.specs.declared.tables.FunctionDecl.{FunctionDecl}
use Rattle.flow_syntax.specs.declared.tables.TableDecl.{TableDecl}
use Rattle.flow_syntax.specs.DeclFaults.{constructors, sort_names, type_enums, type_lattices, IsMissized, IsIncomplete, IsTurned, has_loose_int, type_depth, type_limit}
use Rattle.flow_syntax.specs.Types.{lattice_of}
use Rattle.check_base.specs.declared.names.Names.{Names}
use Rattle.check_base.specs.Tables.{lattice_in}
use Rattle.check_decls.specs.declared.unknown.Space.TheVariants as space
use Rattle.check_decls.specs.inner.Noting.{IsUndeclared, AreUndeclared, OneHas, knows}

-- of a constructor: the sorts of its arguments
abbrev pub ConstructorFaults : Names → Constructor → ℕ → SpecFaultKind → Type 0
ConstructorFaults names c = AreUndeclared (knows names space.Sorts) (flat_map sort_names c.args)

-- of a lattice: its size, its bottom, its join
abbrev pub LatticeFaults : Names → ℕ → TableDecl → ℕ → SpecFaultKind → Type 0
LatticeFaults names n l =
    Either (Either (IsFaultWhere (IsMissized l) l.name.place kinds.Arity) (IsUndeclared (knows names (space.Elements n)) l.bottom)) (AreUndeclared (knows names (space.Elements n)) l.join)

-- of the entries of a function, where its result is the lattice with this number
abbrev pub EntryFaults : Names → Option ℕ → List Named → ℕ → SpecFaultKind → Type 0
EntryFaults names (Some n) entries = AreUndeclared (knows names (space.Elements n)) entries
EntryFaults names None entries = λ place kind. ⊥

-- of a function: the lattices of its arguments and of its result, its entries, their number
abbrev pub FunctionFaults : Spec → Names → FunctionDecl → ℕ → SpecFaultKind → Type 0
FunctionFaults spec names f =
    Either (Either (Either (AreUndeclared (knows names space.Lattices) f.args) (IsUndeclared (knows names space.Lattices) f.result)) (EntryFaults names (lattice_in names f.result.text) f.table))
    (IsFaultWhere (IsIncomplete spec f) f.name.place kinds.Arity)

-- of a property: the enums and the lattices of its type, `int` in it, its depth
abbrev pub PropertyFaults : Names → PropDecl → ℕ → SpecFaultKind → Type 0
PropertyFaults names p =
    Either (Either (Either (AreUndeclared (knows names space.Enums) (type_enums p.lattice)) (AreUndeclared (knows names space.Lattices) (type_lattices p.lattice)))
    (IsFaultWhere (has_loose_int (lattice_of p.lattice) ≡ true) p.name.place kinds.Sort))
    (IsFaultWhere (type_limit < type_depth (lattice_of p.lattice)) p.name.place kinds.Depth)

-- of a rule: its property, its direction
abbrev pub RuleFaults : Spec → Names → PropRule → ℕ → SpecFaultKind → Type 0
RuleFaults spec names r = Either (IsUndeclared (knows names space.Properties) r.property) (IsFaultWhere (IsTurned spec r) r.property.place kinds.MixedDirection)

-- of all sections
abbrev pub SectionFaults : Spec → Names → ℕ → SpecFaultKind → Type 0
SectionFaults spec names =
    Either (Either (Either (Either (OneHas (ConstructorFaults names) (constructors spec)) (SomeHas (LatticeFaults names) spec.lattices)) (OneHas (FunctionFaults spec names) spec.functions))
    (OneHas (PropertyFaults names) spec.properties)) (OneHas (RuleFaults spec names) spec.rules)
