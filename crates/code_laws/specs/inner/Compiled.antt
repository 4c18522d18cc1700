-- What a walk over an expression beside the types of its parts compiles.
use Rattle.std.specs.Prelude.{◌≡◌, ◌<◌, ◌^◌, ℕ, bytes_eq, List, [], ◌∷◌, length, map, true, Option, Some, None}
use Rattle.std.specs.List.{flat_map, position_from, AllZip, AllByRecursion}
use Rattle.flow_syntax.specs.declared.expr.Expr.{Expr}
use Rattle.flow_syntax.specs.declared.spec.Spec.{Spec}
use Rattle.flow_syntax.specs.declared.types.ExprType.{ExprType}
use Rattle.flow_syntax.specs.declared.types.ElemSort.{ElemSort}
use Rattle.flow_syntax.specs.declared.types.ExprType.TheVariants as types
use Rattle.flow_syntax.specs.declared.types.LatticeType.{LatticeType}
use Rattle.flow_syntax.specs.declared.types.LatticeType.TheVariants as lattices
use Rattle.flow_syntax.specs.Expressions.{all_of_option, preorder}
use Rattle.flow_syntax.specs.Types.{Sort}
use Rattle.value_domains.specs.Domains.{Domain}
use Rattle.lattice_any.specs.declared.tables.DeclaredTable.{DeclaredTable}
use Rattle.lattice_any.specs.Tables.{AreDeclared, domain_in}
use Rattle.expr_meaning.specs.Laws.{HasTables}
use Rattle.expr_meaning.specs.Meaning as meant
use Rattle.expr_meaning.specs.Meaning.{Meaning, Sense, Usable, meaning, truth_in}
use Rattle.expr_meaning.specs.Ranges.{Range, values, elements, truths}
use Rattle.expr_meaning.specs.Typing.{AreTyped, IsTruth, Variable, held, optional_held}
use Rattle.flow_modes.specs.inner.Walked.{AgreeWith, behind}
use Rattle.eval_code.specs.declared.code.ElemCode.{ElemCode}
use Rattle.eval_code.specs.declared.code.EntryCode.{EntryCode, roll-EntryCode}
use Rattle.eval_code.specs.declared.code.TruthCode.{TruthCode}
use Rattle.eval_code.specs.declared.code.ValueCode.{ValueCode}
use Rattle.eval_code.specs.Senses.{Given}
use Rattle.code_laws.specs.Codes.{GivesMeant, value_meant, elem_meant, truth_meant}

-- what an expression stands for: a value, an element, or a truth
pub data Kind : Type 0 where
  a_value : Kind
  an_element : Kind
  a_truth : Kind

abbrev pub HasKind : Kind → Range → Type 0
HasKind a_value r = (d : Domain) × (r ≡ values d)
HasKind an_element r = (s : Sort) × (r ≡ elements s)
HasKind a_truth r = r ≡ truths

-- what is known of a specification with the tables of its lattices
pub record Setting (spec : Spec) (tables : List DeclaredTable) : Type 0 where
  pub usable : Usable
  pub range : Expr → Range
  pub laws : HasTables spec range
  pub declared : AreDeclared spec.lattices tables
  pub few : length spec.properties < 2 ^ 32

-- whether a condition holds, if there is one
abbrev pub condition_sense : (Expr → Sense) → Option Expr → Sense
condition_sense m None at = meant.a_truth true
condition_sense m (Some c) at = meant.a_truth (truth_in (m c at))

module _ (spec : Spec) (tables : List DeclaredTable) (names : List (List ℕ)) where
  -- Of an expression of this kind, with these types beside its parts, code was made that gives this, and these types are left: wherever the expression is
  -- typed and its parts have these types.
  pub record IsCompiled (kind : Kind) (e : Expr) (types : List ExprType) (given : Given Meaning) (rest : List ExprType) : Type 0 where
    pub found : (s : Setting spec tables) (vs : List Variable) → AreTyped spec s.usable s.range (held vs e ∷ []) → AgreeWith spec.lattices s.range (preorder e) types → HasKind kind (s.range e)
        → GivesMeant s.usable vs names given (meaning spec s.range e) × (behind (preorder e) types ≡ rest)

  abbrev pub IsValueCode : Expr → List ExprType → ValueCode → List ExprType → Type 0
  IsValueCode e types code rest = IsCompiled a_value e types (value_meant code) rest

  abbrev pub IsElemCode : Expr → List ExprType → ElemCode → List ExprType → Type 0
  IsElemCode e types code rest = IsCompiled an_element e types (elem_meant code) rest

  abbrev pub IsTruthCode : Expr → List ExprType → TruthCode → List ExprType → Type 0
  IsTruthCode e types code rest = IsCompiled a_truth e types (truth_meant code) rest

  -- the same of more expressions, of which each has code
  pub record AreCompiled (kind : Kind) (es : List Expr) (types : List ExprType) (givens : List (Given Meaning)) (rest : List ExprType) : Type 0 where
    pub found : (s : Setting spec tables) (vs : List Variable) → AreTyped spec s.usable s.range (map (held vs) es) → AgreeWith spec.lattices s.range (flat_map preorder es) types → AllByRecursion (λ e. HasKind kind (s.range e)) es
        → AllZip (λ e given. GivesMeant s.usable vs names given (meaning spec s.range e)) es givens × (behind (flat_map preorder es) types ≡ rest)

  abbrev pub AreValueCodes : List Expr → List ExprType → List ValueCode → List ExprType → Type 0
  AreValueCodes es types codes rest = AreCompiled a_value es types (map value_meant codes) rest

  abbrev pub AreElemCodes : List Expr → List ExprType → List ElemCode → List ExprType → Type 0
  AreElemCodes es types codes rest = AreCompiled an_element es types (map elem_meant codes) rest

  -- code of a condition, if there is one; without one it always holds
  pub record IsConditionCode (condition : Option Expr) (types : List ExprType) (code : TruthCode) (rest : List ExprType) : Type 0 where
    pub found : (s : Setting spec tables) (vs : List Variable) → AreTyped spec s.usable s.range (optional_held vs condition) → AgreeWith spec.lattices s.range (flat_map preorder (all_of_option condition)) types → IsTruth s.range condition
        → GivesMeant s.usable vs names (truth_meant code) (condition_sense (meaning spec s.range) condition) × (behind (flat_map preorder (all_of_option condition)) types ≡ rest)

-- the number of the slot of a name
abbrev pub slot_number : List (List ℕ) → List ℕ → Option ℕ
slot_number names x = position_from (bytes_eq x) 0 names

-- where a type is a lattice, this is its domain
abbrev pub HasDomain : List DeclaredTable → Option ExprType → Domain → Type 0
HasDomain tables own d = (l : LatticeType) → own ≡ Some (types.Lattice l) → d ≡ domain_in tables l

-- where a type is one of maps, this is the domain of their values
abbrev pub HasValues : List DeclaredTable → Option ExprType → Domain → Type 0
HasValues tables own d = (k : ElemSort) (l : LatticeType) → own ≡ Some (types.Lattice (lattices.Map k l)) → d ≡ domain_in tables l

-- entries of keys and values in turn, as long as there are both
abbrev pub entries_from : List ElemCode → List ValueCode → List EntryCode
entries_from (k ∷ ks) (v ∷ vs) = roll-EntryCode (record { key = k; value = v }) ∷ entries_from ks vs
entries_from ks vs = []
