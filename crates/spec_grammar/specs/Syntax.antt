-- The grammar of specifications: each symbol's production and the value that it makes.
use Rattle.std.specs.Prelude.{ℕ}
use Rattle.flow_syntax.specs.declared.token.Token.{Token}
use Rattle.grammar_theory.specs.Texts.{Part, PartValue, Grammar}
use Rattle.spec_grammar.specs.Control.{control_rule_rule, make_control_rule, head_rule, make_head, chain_rule, make_chain, item_rule, make_item}
use Rattle.spec_grammar.specs.Expressions.{expr_rule, make_expr, level_rule, make_level, operand_rule, make_operand, negation_rule, make_negation, comparison_rule, make_comparison, opposite_rule, make_opposite, lookup_rule, make_lookup, suffix_rule, make_suffix}
use Rattle.spec_grammar.specs.Kinds.{kind_of}
use Rattle.spec_grammar.specs.Patterns.{pattern_rule, make_pattern, firm_pattern_rule, make_firm_pattern, unnamed_pattern_rule, make_unnamed_pattern, pattern_arguments_rule, make_pattern_arguments}
use Rattle.spec_grammar.specs.Primaries.{primary_rule, make_primary, named_expr_rule, make_named_expr, parenthesis_rule, make_parenthesis, brace_rule, make_brace, map_rule, make_map}
use Rattle.spec_grammar.specs.Rules.{rule_rule, make_rule, trigger_rule, make_trigger, message_rule, make_message}
use Rattle.spec_grammar.specs.Signatures.{signature_rule, make_signature, constructor_rule, make_constructor, tree_sort_rule, make_tree_sort}
use Rattle.spec_grammar.specs.Symbols.{Nonterminal, ValueOf, Whole, ASignature, AConstructor, ATreeSort, AnEnum, ATable, AFunction, AControlRule, AHead, AChain, AnItem, AProperty, AType, AnElemSort, ARule, ATrigger, AMessage, APattern, AFirmPattern, AnUnnamedPattern, PatternArguments, AnExpr, ALevel, AnOperand, ANegation, AComparison, AnOpposite, ALookup, ASuffix, APrimary, ANamedExpr, AParenthesis, ABrace, AMap}
use Rattle.spec_grammar.specs.Tables.{enum_rule, make_enum, table_rule, make_table, function_rule, make_function}
use Rattle.spec_grammar.specs.Types.{property_rule, make_property, type_rule, make_type, elem_sort_rule, make_elem_sort}
use Rattle.spec_grammar.specs.Whole.{whole_rule, make_whole}

abbrev pub rule : Nonterminal → Part Nonterminal
rule Whole = whole_rule
rule ASignature = signature_rule
rule AConstructor = constructor_rule
rule ATreeSort = tree_sort_rule
rule AnEnum = enum_rule
rule ATable = table_rule
rule AFunction = function_rule
rule AControlRule = control_rule_rule
rule AHead = head_rule
rule AChain = chain_rule
rule AnItem = item_rule
rule AProperty = property_rule
rule AType = type_rule
rule AnElemSort = elem_sort_rule
rule ARule = rule_rule
rule ATrigger = trigger_rule
rule AMessage = message_rule
rule APattern = pattern_rule
rule AFirmPattern = firm_pattern_rule
rule AnUnnamedPattern = unnamed_pattern_rule
rule PatternArguments = pattern_arguments_rule
rule AnExpr = expr_rule
rule (ALevel level) = level_rule level
rule (AnOperand level) = operand_rule level
rule ANegation = negation_rule
rule AComparison = comparison_rule
rule AnOpposite = opposite_rule
rule ALookup = lookup_rule
rule ASuffix = suffix_rule
rule APrimary = primary_rule
rule ANamedExpr = named_expr_rule
rule AParenthesis = parenthesis_rule
rule ABrace = brace_rule
rule AMap = map_rule

abbrev pub make : (i : Nonterminal) → PartValue Token ValueOf (rule i) → ValueOf i
make Whole x = make_whole x
make ASignature x = make_signature x
make AConstructor x = make_constructor x
make ATreeSort x = make_tree_sort x
make AnEnum x = make_enum x
make ATable x = make_table x
make AFunction x = make_function x
make AControlRule x = make_control_rule x
make AHead x = make_head x
make AChain x = make_chain x
make AnItem x = make_item x
make AProperty x = make_property x
make AType x = make_type x
make AnElemSort x = make_elem_sort x
make ARule x = make_rule x
make ATrigger x = make_trigger x
make AMessage x = make_message x
make APattern x = make_pattern x
make AFirmPattern x = make_firm_pattern x
make AnUnnamedPattern x = make_unnamed_pattern x
make PatternArguments x = make_pattern_arguments x
make AnExpr x = make_expr x
make (ALevel level) x = make_level level x
make (AnOperand level) x = make_operand level x
make ANegation x = make_negation x
make AComparison x = make_comparison x
make AnOpposite x = make_opposite x
make ALookup x = make_lookup x
make ASuffix x = make_suffix x
make APrimary x = make_primary x
make ANamedExpr x = make_named_expr x
make AParenthesis x = make_parenthesis x
make ABrace x = make_brace x
make AMap x = make_map x

-- The grammar of specifications. Its start is `Whole`.
abbrev pub spec_syntax : Grammar Nonterminal Token ValueOf
spec_syntax = record { kind = kind_of; rule = rule; make = make }

-- how deep a token may be nested
abbrev pub nesting_limit : ℕ
nesting_limit = 256
