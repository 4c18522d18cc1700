-- What is known of names: which are in a set, which are bound, and which items name.
use Rattle.std.specs.Prelude.{◌≡◌, ℕ, Bool, true, false, ◌&&◌, ◌||◌, List, [], ◌∷◌, ◌++◌, Option, find, is_some, bytes_eq, map, slice_get}
use Rattle.std.specs.Borrow.{Bor}
use Rattle.std.specs.HashSet.{HashSet}
use Rattle.std.specs.List.{list_any}
use Rattle.std.specs.Option.{option_map, option_map_or}
use Rattle.flow_syntax.specs.declared.expr.Expr.{Expr, out-Expr}
use Rattle.flow_syntax.specs.declared.rule.FlowRule.{FlowRule}
use Rattle.flow_syntax.specs.declared.rule.Item.{Item}
use Rattle.flow_syntax.specs.declared.rule.ItemKind.{ItemKind}
use Rattle.flow_syntax.specs.declared.rule.ItemKind.TheVariants as item
use Rattle.flow_syntax.specs.Binders.{Binder, Bound, binder, binder_of, binders_in, in_turn}
use Rattle.flow_syntax.specs.declared.expr.ExprKind.TheOpen.{ExprKind-F}
use Rattle.flow_syntax.specs.Control.{is_variable_in}
use Rattle.flow_syntax.specs.Expressions.{ExprLayer, expr_layer}
use Rattle.flow_syntax.specs.RuleFaults.{arguments}
use Rattle.check_rules.specs.inner.Items.{is_single, is_whole}
use Rattle.flow_syntax.specs.Matching.{pattern_layer}
use Rattle.flow_syntax.specs.RuleFaults.{head_variable, is_direct}
use Rattle.flow_syntax.specs.Types.{Sort, pos_sort}
use Rattle.check_rules.specs.declared.bindings.Binding.{Binding}
use Rattle.check_rules.specs.declared.head.Head.{Head}
use Rattle.check_rules.specs.declared.mixed.Named.{Named}
use Rattle.check_base.specs.declared.names.Names.{Names}
use Rattle.check_base.specs.Tables.{enum_of_item_in, lattice_of_element_in, value_in}

-- whether a name is in a set
abbrev pub has_name : {S : Type 0} → HashSet (Bor (List ℕ)) S → List ℕ → Bool
has_name names x = list_any (λ k. bytes_eq x k.now) names.keys

-- whether a name is an item or an element
abbrev pub is_constant_in : Names → List ℕ → Bool
is_constant_in names x = is_some (enum_of_item_in names x) || is_some (lattice_of_element_in names x)

-- BINDINGS

abbrev pub is_position : Sort → Bool
is_position pos_sort = true
is_position s = false

-- what is bound where
abbrev pub binder_by : Binding → Binder
binder_by b = binder b.name.now b.place

-- the same, and whether a pattern binds it to a position
abbrev pub known_by : Binding → Binder × Bool
known_by b = (binder_by b, b.is_position)

abbrev pub known_bound : Bound → Binder × Bool
known_bound b = (binder_of b, is_position b.sort)

abbrev pub known_binder : Binder → Binder × Bool
known_binder b = (b, false)

-- what is known of the names of two lists of expressions in turn
abbrev pub names_in_turn : List Expr → List Expr → List (Binder × Bool)
names_in_turn keys values = map known_binder (in_turn (map binders_in keys) (map binders_in values))

-- of the names of the keys and values of a map, in turn
abbrev pub names_of_map_layer : ExprLayer → List (Binder × Bool)
names_of_map_layer (ExprKind-F.MapOf keys values) = names_in_turn keys values
names_of_map_layer layer = []

abbrev pub names_of_map : Expr → List (Binder × Bool)
names_of_map e = names_of_map_layer (expr_layer e)

-- of the names of a choice of elements at a place: of the element, its own, those of the set and of the condition
abbrev pub names_of_choice_layer : ExprLayer → ℕ → List (Binder × Bool)
names_of_choice_layer (ExprKind-F.Choose element x set condition) at =
    map known_binder (binders_in element) ++ ((binder x at, false) ∷ []) ++ map known_binder (binders_in set) ++ map known_binder (option_map_or binders_in condition [])
names_of_choice_layer layer at = []

abbrev pub names_of_choice : Expr → List (Binder × Bool)
names_of_choice e = names_of_choice_layer (expr_layer e) (out-Expr e).place

-- of the names of the expression with a number, if there is one
abbrev pub names_at : List Expr → ℕ → List (Binder × Bool)
names_at parts at = map known_binder (option_map_or binders_in (slice_get parts at) [])

-- whether the first of these that is called x is a position
abbrev pub first_position : List ℕ → List (Binder × Bool) → Option Bool
first_position x bs = option_map (λ b. b.1) (find (λ b. bytes_eq x b.0.name) bs)

-- The tables are those of the rule's head.
pub record IsHeadOf (rule : FlowRule) (head : Head) : Type 0 where
  -- whether the first variable of a name is a position
  pub variables : (x : List ℕ) → value_in head.variables x ≡ option_map (λ b. is_position b.sort) (head_variable rule x)
  -- which variables arguments themselves bind
  pub direct : (x : List ℕ) → has_name head.direct x ≡ is_direct rule x
  -- which variables arguments are
  pub arguments : (x : List ℕ) → has_name head.arguments x ≡ list_any (λ p. is_variable_in x (pattern_layer p)) (arguments rule)

-- ITEMS

abbrev pub shown : Bor Item → Item
shown it = it.now

-- whether an item names an argument in the other way than earlier ones do
abbrev pub is_mixed_with : (List ℕ → Bool) → (List ℕ → Bool) → (List ℕ → Bool) → ItemKind → Bool
is_mixed_with is_argument whole single (item.Whole x) = is_argument x && single x
is_mixed_with is_argument whole single (item.Single x) = is_argument x && whole x
is_mixed_with is_argument whole single kind = false

abbrev pub is_mixed_by : {S : Type 0} → HashSet (Bor (List ℕ)) S → Named → ItemKind → Bool
is_mixed_by arguments named kind = is_mixed_with (has_name arguments) (has_name named.whole) (has_name named.single) kind

-- One item more has named its variable.
pub record HasNamed (old : Named) (kind : ItemKind) (new : Named) : Type 0 where
  pub whole : (x : List ℕ) → has_name new.whole x ≡ (has_name old.whole x || is_whole x kind)
  pub single : (x : List ℕ) → has_name new.single x ≡ (has_name old.single x || is_single x kind)
