-- The ranges of a specification's expressions, from their types, and what can be used where they stand.
use Rattle.std.specs.Prelude.{◌≡◌, ℕ, nat_lt, Bool, true, ◌&&◌, cond, List, ◌∷◌, length, map, slice_get, Option, Some, None}
use Rattle.std.specs.List.{AllZip}
use Rattle.flow_syntax.specs.declared.expr.Expr.{Expr}
use Rattle.flow_syntax.specs.declared.expr.Side.{Side}
use Rattle.flow_syntax.specs.declared.pattern.Pattern.{Pattern}
use Rattle.flow_syntax.specs.declared.property.PropDecl.{PropDecl}
use Rattle.flow_syntax.specs.declared.spec.Spec.{Spec}
use Rattle.flow_syntax.specs.declared.tables.TableDecl.{TableDecl}
use Rattle.flow_syntax.specs.Binders.{bound_in}
use Rattle.flow_syntax.specs.Expressions.{expressions_of}
use Rattle.flow_syntax.specs.Scopes.{Scope, can_read}
use Rattle.flow_syntax.specs.Types.{Typing, truth, lattice_of, name_sort}
use Rattle.expr_meaning.specs.Ranges.{Range, range_of}
use Rattle.value_domains.specs.Domains.{Domain, domain_of, flat}
use Rattle.expr_meaning.specs.Meaning.{Usable}
use Rattle.expr_meaning.specs.Same.{is_same}
use Rattle.expr_meaning.specs.Typing.{Variable}

-- each expression of the specification has the range of the type with its number
abbrev pub Agrees : Spec → List Typing → (Expr → Range) → Type 0
Agrees spec types range = AllZip (λ e t. range e ≡ range_of spec.lattices t) (expressions_of spec) types

abbrev pub property_domain : List TableDecl → Option PropDecl → Domain
property_domain declared (Some p) = domain_of declared (lattice_of p.lattice)
property_domain declared None = flat name_sort

-- the domain of the property with a number
abbrev pub domains_of : Spec → ℕ → Domain
domains_of spec n = property_domain spec.lattices (slice_get spec.properties n)

-- the variables of a pattern with their sorts
abbrev pub variables_of : Pattern → List Variable
variables_of p = map (λ b. record { name = b.name; sort = b.sort }) (bound_in p)

-- whether there is a property of this number, and properties may be read at this side
abbrev pub can_read_in : Spec → Scope → ℕ → Side → Bool
can_read_in spec scope p side = nat_lt p (length spec.properties) && can_read scope side

-- what can be used in a scope
abbrev pub usable_in : Spec → Scope → Usable
usable_in spec scope = record { domain = domains_of spec; has = can_read_in spec scope; names = λ x. true }

-- the type that stands beside an expression; truth where the expression isn't in the list
abbrev pub type_beside : List Expr → List Typing → Expr → Typing
type_beside (x ∷ xs) (t ∷ ts) e = cond (is_same e x) t (type_beside xs ts e)
type_beside _ _ e = truth

-- the range of each expression of a specification whose expressions have these types
abbrev pub ranges_of : Spec → List Typing → Expr → Range
ranges_of spec types e = range_of spec.lattices (type_beside (expressions_of spec) types e)
