-- properties = "properties" { property }
-- property = ID ":" type
-- type = "MaySet" "(" elem ")" | "MustSet" "(" elem ")" | "Flat" "(" elem ")"
--      | "Map" "(" elem "," type ")" | "Pair" "(" type "," type ")" | ID
-- elem = "name" | "pos" | "str" | "int" | ID | "(" elem "," elem ")"
use Rattle.std.specs.Prelude.{[], ◌∷◌, if◌then◌else◌}
use Rattle.std.proofs.Common.{inl, inr}
use Rattle.flow_syntax.specs.declared.property.PropDecl.{PropDecl}
use Rattle.flow_syntax.specs.declared.token.Token.{Token}
use Rattle.flow_syntax.specs.declared.types.ElemSort.{ElemSort}
use Rattle.flow_syntax.specs.declared.types.ElemSort.TheVariants as elems
use Rattle.flow_syntax.specs.declared.types.LatticeType.{LatticeType}
use Rattle.flow_syntax.specs.declared.types.LatticeType.TheVariants as types
use Rattle.grammar_theory.specs.Texts.{Part, Then, Or, Symbol, PartValue}
use Rattle.spec_grammar.specs.Kinds.{is_a}
use Rattle.spec_grammar.specs.Parts.{the, any_of, identifier, in_round, named, inside}
use Rattle.spec_grammar.specs.Symbols.{Nonterminal, ValueOf, AType, AnElemSort}
use Rattle.spec_grammar.specs.declared.kind.Kind.TheVariants as kinds

-- ID ":" type
abbrev pub property_rule : Part Nonterminal
property_rule = Then identifier (Then (the kinds.Colon) (Symbol AType))

abbrev pub make_property : PartValue Token ValueOf property_rule → PropDecl
make_property x = record { name = named x.0; lattice = x.1.1 }

-- p "," q
abbrev pub pair_of : Nonterminal → Nonterminal → Part Nonterminal
pair_of p q = Then (Symbol p) (Then (the kinds.Comma) (Symbol q))

-- ( "MaySet" | "MustSet" | "Flat" ) "(" elem ")"
abbrev pub set_type : Part Nonterminal
set_type = Then (any_of (kinds.MaySet ∷ kinds.MustSet ∷ kinds.Flat ∷ [])) (in_round (Symbol AnElemSort))

abbrev pub set_type_of : Token → ElemSort → LatticeType
set_type_of token sort = if is_a kinds.MaySet token then types.May sort else (if is_a kinds.MustSet token then types.Must sort else types.Flat sort)

-- set_type | "Map" "(" elem "," type ")" | "Pair" "(" type "," type ")" | ID
abbrev pub type_rule : Part Nonterminal
type_rule = Or set_type (Or (Then (the kinds.Map) (in_round (pair_of AnElemSort AType))) (Or (Then (the kinds.Pair) (in_round (pair_of AType AType))) identifier))

abbrev pub make_type : PartValue Token ValueOf type_rule → LatticeType
make_type (inl x) = set_type_of x.0 (inside x.1)
make_type (inr (inl x)) = types.Map (inside x.1).0 (inside x.1).1.1
make_type (inr (inr (inl x))) = types.Pair (inside x.1).0 (inside x.1).1.1
make_type (inr (inr (inr token))) = types.Table (named token)

-- ( "name" | "pos" | "str" | "int" | ID ) | "(" elem "," elem ")"
abbrev pub elem_sort_rule : Part Nonterminal
elem_sort_rule = Or (any_of (kinds.Name ∷ kinds.Pos ∷ kinds.Str ∷ kinds.Int ∷ kinds.Identifier ∷ [])) (in_round (pair_of AnElemSort AnElemSort))

abbrev pub plain_elem_sort : Token → ElemSort
plain_elem_sort token = if is_a kinds.Name token then elems.Name else (if is_a kinds.Pos token then elems.Pos else (if is_a kinds.Str token then elems.Str
    else (if is_a kinds.Int token then elems.Int else elems.Enum (named token))))

abbrev pub make_elem_sort : PartValue Token ValueOf elem_sort_rule → ElemSort
make_elem_sort (inl token) = plain_elem_sort token
make_elem_sort (inr x) = elems.Pair (inside x).0 (inside x).1.1
