-- When the function of a table is monotone.
use Rattle.std.specs.Prelude.{List, [], ◌∷◌, Some, ⊤}
use Rattle.flow_term.specs.declared.value.Value.{Value}
use Rattle.flow_syntax.specs.declared.spec.Named.{Named}
use Rattle.flow_syntax.specs.declared.spec.Spec.{Spec}
use Rattle.flow_syntax.specs.declared.tables.FunctionDecl.{FunctionDecl}
use Rattle.value_domains.specs.Domains.{listed, table_named, IsValueOf, IsBelowIn}
use Rattle.expr_meaning.specs.Meaning.{call_value}

module _ (spec : Spec) where
  -- the values are elements of these declared lattices, and each is below the one at its place
  abbrev pub AreBelow : List Named → List Value → List Value → Type 0
  AreBelow [] [] [] = ⊤
  AreBelow (n ∷ ns) (v ∷ vs) (w ∷ ws) = IsValueOf (listed (table_named spec.lattices n.text)) v × IsValueOf (listed (table_named spec.lattices n.text)) w × IsBelowIn (listed (table_named spec.lattices n.text)) v w × AreBelow ns vs ws
  AreBelow _ _ _ = ⊥

  -- greater arguments give a greater result
  abbrev pub IsMonotone : FunctionDecl → Type 0
  IsMonotone f = (vs ws : List Value) → AreBelow f.args vs ws → IsBelowIn (listed (table_named spec.lattices f.result.text)) (call_value spec (Some f) vs) (call_value spec (Some f) ws)

  -- the values are elements of these declared lattices
  abbrev pub AreElements : List Named → List Value → Type 0
  AreElements [] [] = ⊤
  AreElements (n ∷ ns) (v ∷ vs) = IsValueOf (listed (table_named spec.lattices n.text)) v × AreElements ns vs
  AreElements _ _ = ⊥

  -- of elements a function gives an element
  abbrev pub GivesElements : FunctionDecl → Type 0
  GivesElements f = (vs : List Value) → AreElements f.args vs → IsValueOf (listed (table_named spec.lattices f.result.text)) (call_value spec (Some f) vs)
