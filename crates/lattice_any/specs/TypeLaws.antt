-- A lattice by its domain.
use Rattle.std.proofs.Common.{◌≡◌, sym, ap, ◌∙◌, subst}
use Rattle.flow_syntax.specs.declared.types.ElemSort.{ElemSort}
use Rattle.flow_syntax.specs.Types.{sort_of}
use Rattle.lattice_base.specs.Laws.{JoinLaws, OrderLaw}
use Rattle.value_domains.specs.Domains.{Domain, may, must, flat, map_to, pair_of, listed, IsValueOf, least_of, joined_of, IsBelowIn}
use Rattle.value_domains.specs.Lawful.{IsLawful, IsLawfulTable}
use Rattle.table_laws.specs.JoinTables.{IsComplete, IsLawful as IsLawfulNumbers}
use Rattle.table_laws.specs.inner.Numbers.{lawful_names}
use Rattle.lattice_any.specs.declared.named.NamedTable.{NamedTable}
use Rattle.lattice_any.specs.Tables.{table_of_names}
use Rattle.value_domains.specs.inner.DomainLaws.{domain_laws, domain_order}
use Rattle.lattice_any.specs.declared.any.AnyL.{AnyL, AnyL-F, fold-roll-AnyL, map-AnyL, ind-AnyL, roll-AnyL}
use Rattle.lattice_any.specs.declared.any.AnyL.TheVariants as any
use Rattle.lattice_any.specs.Types.{domain_layer, domain_of_any}

-- THE DOMAINS OF LATTICES

domain_rolled : (l : AnyL-F AnyL) → domain_of_any (roll-AnyL l) ≡ domain_layer (map-AnyL AnyL Domain domain_of_any l)
domain_rolled l = fold-roll-AnyL Domain domain_layer l

pub domain_may : (sort : ElemSort) → domain_of_any (any.May sort) ≡ may (sort_of sort)
domain_may sort = ap domain_of_any (sym (any.rolls-May sort)) ∙ domain_rolled (AnyL-F.May sort)

pub domain_must : (sort : ElemSort) → domain_of_any (any.Must sort) ≡ must (sort_of sort)
domain_must sort = ap domain_of_any (sym (any.rolls-Must sort)) ∙ domain_rolled (AnyL-F.Must sort)

pub domain_flat : (sort : ElemSort) → domain_of_any (any.Flat sort) ≡ flat (sort_of sort)
domain_flat sort = ap domain_of_any (sym (any.rolls-Flat sort)) ∙ domain_rolled (AnyL-F.Flat sort)

pub domain_map : (sort : ElemSort) (values : AnyL) → domain_of_any (any.Map sort values) ≡ map_to (sort_of sort) (domain_of_any values)
domain_map sort values = ap domain_of_any (sym (any.rolls-Map sort values)) ∙ domain_rolled (AnyL-F.Map sort values)

pub domain_pair : (left right : AnyL) → domain_of_any (any.Pair left right) ≡ pair_of (domain_of_any left) (domain_of_any right)
domain_pair left right = ap domain_of_any (sym (any.rolls-Pair left right)) ∙ domain_rolled (AnyL-F.Pair left right)

pub domain_table : (table : NamedTable) → domain_of_any (any.Table table) ≡ listed (table_of_names table)
domain_table table = ap domain_of_any (sym (any.rolls-Table table)) ∙ domain_rolled (AnyL-F.Table table)

-- THE LAWS

-- the joins of named elements are those of a lattice, since those of their numbers are
pub named_lawful : (n : NamedTable) → IsLawfulTable (table_of_names n)
named_lawful n = lawful_names (table_of_names n) (subst IsComplete (sym n.numbers) n.table.complete) (subst IsLawfulNumbers (sym n.numbers) n.table.lawful)

abbrev HasLawful : AnyL → Type 0
HasLawful l = IsLawful (domain_of_any l)

abbrev Known : Type 0
Known = AnyL-F ((l : AnyL) × HasLawful l)

lawful_layer : (l : Known) → IsLawful (domain_layer (map-AnyL AnyL Domain domain_of_any (map-AnyL ((l : AnyL) × HasLawful l) AnyL (λ a. a.0) l)))
lawful_layer (AnyL-F.May sort) = tt
lawful_layer (AnyL-F.Must sort) = tt
lawful_layer (AnyL-F.Flat sort) = tt
lawful_layer (AnyL-F.Map sort values) = values.1
lawful_layer (AnyL-F.Pair left right) = (left.1, right.1)
lawful_layer (AnyL-F.Table table) = named_lawful table

-- a lattice's domain has lawful tables
pub any_lawful : (l : AnyL) → HasLawful l
any_lawful = ind-AnyL HasLawful (λ x y e. subst (λ d. HasLawful (roll-AnyL d)) e (subst IsLawful (sym (domain_rolled (map-AnyL ((l : AnyL) × HasLawful l) AnyL (λ a. a.0) y))) (lawful_layer y)))

pub any_laws : (l : AnyL) → JoinLaws (IsValueOf (domain_of_any l)) (least_of (domain_of_any l)) (joined_of (domain_of_any l))
any_laws l = domain_laws (domain_of_any l) (any_lawful l)

pub any_order : (l : AnyL) → OrderLaw (IsValueOf (domain_of_any l)) (joined_of (domain_of_any l)) (IsBelowIn (domain_of_any l))
any_order l = domain_order (domain_of_any l) (any_lawful l)
