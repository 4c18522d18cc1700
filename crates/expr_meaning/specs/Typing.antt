-- Which ranges the parts of an expression have, by its form and its own range.
use Rattle.std.specs.Prelude.{◌≡◌, ℕ, List, [], ◌∷◌, ◌++◌, map, Option, Some, None, ⊤, IsTrue, bytes_eq, find}
use Rattle.std.specs.List.{AllByRecursion}
use Rattle.flow_term.specs.declared.value.Bound.{Bound}
use Rattle.flow_syntax.specs.declared.expr.Expr.{Expr}
use Rattle.flow_syntax.specs.declared.expr.ExprKind.TheOpen.{ExprKind-F}
use Rattle.flow_syntax.specs.declared.expr.SetOp.{SetOp}
use Rattle.flow_syntax.specs.declared.expr.SetOp.TheVariants as op
use Rattle.flow_syntax.specs.declared.expr.Side.{Side}
use Rattle.flow_syntax.specs.declared.spec.Named.{Named}
use Rattle.flow_syntax.specs.declared.spec.Spec.{Spec}
use Rattle.flow_syntax.specs.declared.tables.EnumDecl.{EnumDecl}
use Rattle.flow_syntax.specs.declared.tables.FunctionDecl.{FunctionDecl}
use Rattle.flow_syntax.specs.Inferred.{function_named, enum_with}
use Rattle.flow_syntax.specs.Expressions.{ExprLayer, expr_layer}
use Rattle.value_domains.specs.Values.{IsOfSort}
use Rattle.flow_syntax.specs.Types.{Sort, int_sort, str_sort, pair_sort, enum_sort}
use Rattle.expr_meaning.specs.Ranges.{Range, values, elements, truths}
use Rattle.value_domains.specs.Domains.{Domain, may, must, flat, map_to, pair_of, listed, table_named, has_element, IsValueOf}
use Rattle.expr_meaning.specs.Meaning.{Meaning, an_element, a_value, a_truth, Situation, Usable, property_number, bound_to}

-- a meaning is in a range
abbrev pub IsIn : Range → Meaning → Type 0
IsIn (values d) (a_value v) = IsValueOf d v
IsIn (elements s) (an_element e) = IsOfSort s e
IsIn truths (a_truth b) = ⊤
IsIn _ _ = ⊥

-- a variable with its sort
pub record Variable : Type 0 where
  pub name : List ℕ
  pub sort : Sort

-- an expression where these variables are bound
pub record Held : Type 0 where
  pub variables : List Variable
  pub expr : Expr

abbrev pub held : List Variable → Expr → Held
held vs e = record { variables = vs; expr = e }

abbrev pub and_variable : List Variable → List ℕ → Sort → List Variable
and_variable vs x s = vs ++ record { name = x; sort = s } ∷ []

-- the variable of a name
abbrev pub variable_of : List Variable → List ℕ → Option Variable
variable_of vs x = find (λ v. bytes_eq x v.name) vs

-- a variable is bound to an element of its sort, and nothing else is bound
abbrev pub IsBoundAs : Option Variable → Option Bound → Type 0
IsBoundAs (Some v) (Some b) = IsOfSort v.sort b.value
IsBoundAs None None = ⊤
IsBoundAs _ _ = ⊥

-- the names that can be used are bound as the variables say, and each value that can be read is one of its property's domain
pub record Suits (usable : Usable) (vs : List Variable) (at : Situation) : Type 0 where
  pub bound : (x : List ℕ) → IsTrue (usable.names x) → IsBoundAs (variable_of vs x) (bound_to at.bindings x)
  pub reads : (p : ℕ) (side : Side) → IsTrue (usable.has p side) → IsValueOf (usable.domain p) (at.reads p side)

-- the sort of the elements of a domain of sets, of flat values, of a map's keys
abbrev pub sort_in : Domain → Sort
sort_in (may s) = s
sort_in (must s) = s
sort_in (flat s) = s
sort_in (map_to s d) = s
sort_in _ = int_sort

abbrev pub elements_of : Range → Sort
elements_of (values d) = sort_in d
elements_of _ = int_sort

-- a domain of sets
pub data IsSets : Domain → Type 0 where
  of_may : (s : Sort) → IsSets (may s)
  of_must : (s : Sort) → IsSets (must s)

abbrev pub IsOperand : SetOp → Domain → Type 0
IsOperand op.Join d = ⊤
IsOperand o d = IsSets d

-- two domains of sets of one kind
pub data AreAlike : Domain → Domain → Type 0 where
  both_may : (s t : Sort) → AreAlike (may s) (may t)
  both_must : (s t : Sort) → AreAlike (must s) (must t)

-- the first part of a pair of values, or of elements
pub data IsFirst : Range → Range → Type 0 where
  of_values : (l r : Domain) → IsFirst (values l) (values (pair_of l r))
  of_elements : (s t : Sort) → IsFirst (elements s) (elements (pair_sort s t))

pub data IsSecond : Range → Range → Type 0 where
  of_values : (l r : Domain) → IsSecond (values r) (values (pair_of l r))
  of_elements : (s t : Sort) → IsSecond (elements t) (elements (pair_sort s t))

pub data IsPair : Range → Range → Range → Type 0 where
  of_values : (l r : Domain) → IsPair (values (pair_of l r)) (values l) (values r)
  of_elements : (s t : Sort) → IsPair (elements (pair_sort s t)) (elements s) (elements t)

-- the domain of a declared lattice
abbrev pub listed_in : Spec → Named → Domain
listed_in spec n = listed (table_named spec.lattices n.text)

-- a name is a variable, or an enum's item, or a lattice's element
abbrev pub IsNamed : Spec → Option Variable → Option EnumDecl → Range → List ℕ → Type 0
IsNamed spec (Some v) constant own x = own ≡ elements v.sort
IsNamed spec None (Some e) own x = own ≡ elements (enum_sort e.name.text)
IsNamed spec None None own x = (n : Named) × (own ≡ values (listed_in spec n)) × IsTrue (has_element (table_named spec.lattices n.text) x)

abbrev pub IsTruth : (Expr → Range) → Option Expr → Type 0
IsTruth range None = ⊤
IsTruth range (Some c) = range c ≡ truths

-- the arguments of a call have the declared lattices
abbrev pub HaveArguments : Spec → (Expr → Range) → List Named → List Expr → Type 0
HaveArguments spec range [] [] = ⊤
HaveArguments spec range (n ∷ ns) (e ∷ es) = (range e ≡ values (listed_in spec n)) × HaveArguments spec range ns es
HaveArguments spec range _ _ = ⊥

module _ (spec : Spec) (usable : Usable) (range : Expr → Range) where
  -- the ranges of the parts, by the form
  abbrev pub HasForm : List Variable → Range → ExprLayer → Type 0
  HasForm vs own (ExprKind-F.Int n) = own ≡ elements int_sort
  HasForm vs own (ExprKind-F.Str s) = own ≡ elements str_sort
  HasForm vs own (ExprKind-F.Truth b) = own ≡ truths
  HasForm vs own ExprKind-F.Bottom = (d : Domain) × (own ≡ values d)
  HasForm vs own ExprKind-F.Top = (s : Sort) × (own ≡ values (flat s))
  HasForm vs own ExprKind-F.Unreached = (s : Sort) × (own ≡ values (must s))
  HasForm vs own (ExprKind-F.Ident x) = IsNamed spec (variable_of vs x) (enum_with spec x) own x × IsTrue (usable.names x)
  HasForm vs own (ExprKind-F.Read p side) = (own ≡ values (usable.domain (property_number spec p))) × IsTrue (usable.has (property_number spec p) side)
  HasForm vs own (ExprKind-F.MakeFlat e) = (s : Sort) × (own ≡ values (flat s)) × (range e ≡ elements s)
  HasForm vs own (ExprKind-F.Choose e x from c) = (d : Domain) × (u : Domain) × AreAlike d u × (own ≡ values d) × (range from ≡ values u) × (range e ≡ elements (sort_in d)) × IsTruth range c
  HasForm vs own (ExprKind-F.Look m k) = (s : Sort) × (d : Domain) × (own ≡ values d) × (range m ≡ values (map_to s d)) × (range k ≡ elements s)
  HasForm vs own (ExprKind-F.Update m k v) = (s : Sort) × (d : Domain) × (own ≡ values (map_to s d)) × (range m ≡ values (map_to s d)) × (range k ≡ elements s) × (range v ≡ values d)
  HasForm vs own (ExprKind-F.Set2 o a b) = (d : Domain) × IsOperand o d × (own ≡ values d) × (range a ≡ values d) × (range b ≡ values d)
  HasForm vs own (ExprKind-F.Compare o a b) = (s : Sort) × (own ≡ truths) × (range a ≡ elements s) × (range b ≡ elements s)
  HasForm vs own (ExprKind-F.Member e from) = (d : Domain) × IsSets d × (own ≡ truths) × (range from ≡ values d) × (range e ≡ elements (sort_in d))
  HasForm vs own (ExprKind-F.And a b) = (own ≡ truths) × (range a ≡ truths) × (range b ≡ truths)
  HasForm vs own (ExprKind-F.Or a b) = (own ≡ truths) × (range a ≡ truths) × (range b ≡ truths)
  HasForm vs own (ExprKind-F.Not a) = (own ≡ truths) × (range a ≡ truths)
  HasForm vs own (ExprKind-F.Bind x a b) = (s : Sort) × (t : Sort) × (own ≡ values (flat t)) × (range a ≡ values (flat s)) × (range b ≡ values (flat t))
  HasForm vs own (ExprKind-F.If c a b) = (range c ≡ truths) × (range a ≡ own) × (range b ≡ own)
  HasForm vs own (ExprKind-F.Call f args) = (d : FunctionDecl) × (function_named spec f ≡ Some d) × (own ≡ values (listed_in spec d.result)) × HaveArguments spec range d.args args
  HasForm vs own (ExprKind-F.Fst a) = IsFirst own (range a)
  HasForm vs own (ExprKind-F.Snd a) = IsSecond own (range a)
  HasForm vs own (ExprKind-F.Both a b) = IsPair own (range a) (range b)
  HasForm vs own (ExprKind-F.SetOf es) = (d : Domain) × IsSets d × (own ≡ values d) × AllByRecursion (λ e. range e ≡ elements (sort_in d)) es
  HasForm vs own (ExprKind-F.Arith o a b) = (own ≡ elements int_sort) × (range a ≡ elements int_sort) × (range b ≡ elements int_sort)
  HasForm vs own (ExprKind-F.Minus a) = (own ≡ elements int_sort) × (range a ≡ elements int_sort)
  HasForm vs own (ExprKind-F.MapOf ks ws) = (s : Sort) × (d : Domain) × (own ≡ values (map_to s d)) × AllByRecursion (λ k. range k ≡ elements s) ks × AllByRecursion (λ v. range v ≡ values d) ws

abbrev pub optional_held : List Variable → Option Expr → List Held
optional_held vs None = []
optional_held vs (Some c) = held vs c ∷ []

-- the parts, with the variables that are bound where they stand
abbrev pub held_parts : (Expr → Range) → List Variable → ExprLayer → List Held
held_parts range vs (ExprKind-F.MakeFlat e) = held vs e ∷ []
held_parts range vs (ExprKind-F.Choose e x from c) = held (and_variable vs x (elements_of (range from))) e ∷ held vs from ∷ optional_held (and_variable vs x (elements_of (range from))) c
held_parts range vs (ExprKind-F.Look m k) = held vs m ∷ held vs k ∷ []
held_parts range vs (ExprKind-F.Update m k v) = held vs m ∷ held vs k ∷ held vs v ∷ []
held_parts range vs (ExprKind-F.Set2 o a b) = held vs a ∷ held vs b ∷ []
held_parts range vs (ExprKind-F.Compare o a b) = held vs a ∷ held vs b ∷ []
held_parts range vs (ExprKind-F.Member e from) = held vs e ∷ held vs from ∷ []
held_parts range vs (ExprKind-F.And a b) = held vs a ∷ held vs b ∷ []
held_parts range vs (ExprKind-F.Or a b) = held vs a ∷ held vs b ∷ []
held_parts range vs (ExprKind-F.Not a) = held vs a ∷ []
held_parts range vs (ExprKind-F.Bind x a b) = held vs a ∷ held (and_variable vs x (elements_of (range a))) b ∷ []
held_parts range vs (ExprKind-F.If c a b) = held vs c ∷ held vs a ∷ held vs b ∷ []
held_parts range vs (ExprKind-F.Call f args) = map (held vs) args
held_parts range vs (ExprKind-F.Fst a) = held vs a ∷ []
held_parts range vs (ExprKind-F.Snd a) = held vs a ∷ []
held_parts range vs (ExprKind-F.Both a b) = held vs a ∷ held vs b ∷ []
held_parts range vs (ExprKind-F.SetOf es) = map (held vs) es
held_parts range vs (ExprKind-F.Arith o a b) = held vs a ∷ held vs b ∷ []
held_parts range vs (ExprKind-F.Minus a) = held vs a ∷ []
held_parts range vs (ExprKind-F.MapOf ks ws) = map (held vs) ks ++ map (held vs) ws
held_parts range vs layer = []

-- Expressions and all their parts have the ranges that are given for them.
pub data AreTyped (spec : Spec) (usable : Usable) (range : Expr → Range) : List Held → Type 0 where
  none : AreTyped spec usable range []
  next : (p : Held) (ps : List Held) → HasForm spec usable range p.variables (range p.expr) (expr_layer p.expr) → AreTyped spec usable range (held_parts range p.variables (expr_layer p.expr)) → AreTyped spec usable range ps
      → AreTyped spec usable range (p ∷ ps)
