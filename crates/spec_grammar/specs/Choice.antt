-- What one token of choice goes by: the kinds with which each symbol begins, and those with which it may go on.
use Rattle.std.specs.Prelude.{ℕ, List, [], ◌∷◌, ◌++◌, map}
use Rattle.spec_grammar.specs.Expressions.{operators_of, comparisons}
use Rattle.spec_grammar.specs.Kinds.{code_of}
use Rattle.spec_grammar.specs.Primaries.{literals}
use Rattle.spec_grammar.specs.Symbols.{Nonterminal, Whole, ASignature, AConstructor, ATreeSort, AnEnum, ATable, AFunction, AControlRule, AHead, AChain, AnItem, AProperty, AType, AnElemSort, ARule, ATrigger, AMessage, APattern, AFirmPattern, AnUnnamedPattern, PatternArguments, AnExpr, ALevel, AnOperand, ANegation, AComparison, AnOpposite, ALookup, ASuffix, APrimary, ANamedExpr, AParenthesis, ABrace, AMap}
use Rattle.spec_grammar.specs.declared.level.BinaryLevel.{BinaryLevel}
use Rattle.spec_grammar.specs.declared.level.BinaryLevel.TheVariants.{Disjunction, Conjunction, SetOperation, Sum, Product}
use Rattle.spec_grammar.specs.declared.kind.Kind.{Kind}
use Rattle.spec_grammar.specs.declared.kind.Kind.TheVariants as kinds

-- ** beginnings

abbrev pub unnamed_patterns : List Kind
unnamed_patterns = kinds.Name ∷ kinds.Str ∷ kinds.Int ∷ kinds.Number ∷ kinds.Dash ∷ kinds.Quoted ∷ kinds.OpenRound ∷ kinds.OpenSquare ∷ []

abbrev pub patterns : List Kind
patterns = kinds.Underscore ∷ kinds.Identifier ∷ unnamed_patterns

abbrev pub primaries : List Kind
primaries = literals ++ kinds.MakeFlat ∷ kinds.Fst ∷ kinds.Snd ∷ kinds.Identifier ∷ kinds.OpenRound ∷ kinds.OpenBrace ∷ kinds.OpenSquare ∷ []

abbrev pub opposites : List Kind
opposites = kinds.Dash ∷ primaries

abbrev pub negations : List Kind
negations = kinds.Not ∷ opposites

abbrev pub level_beginnings : BinaryLevel → List Kind
level_beginnings Disjunction = negations
level_beginnings Conjunction = negations
level_beginnings SetOperation = opposites
level_beginnings Sum = opposites
level_beginnings Product = opposites

abbrev pub items : List Kind
items = kinds.Entry ∷ kinds.Exit ∷ kinds.Start ∷ kinds.End ∷ kinds.This ∷ kinds.Identifier ∷ kinds.Node ∷ []

-- with which kinds of token each symbol begins
abbrev pub beginnings : Nonterminal → List Kind
beginnings Whole = kinds.Module ∷ []
beginnings ASignature = kinds.Signature ∷ []
beginnings AConstructor = kinds.Identifier ∷ kinds.Quoted ∷ []
beginnings ATreeSort = kinds.Identifier ∷ kinds.Str ∷ kinds.Int ∷ kinds.Any ∷ kinds.List ∷ kinds.OpenRound ∷ []
beginnings AnEnum = kinds.Identifier ∷ []
beginnings ATable = kinds.Identifier ∷ []
beginnings AFunction = kinds.Identifier ∷ []
beginnings AControlRule = kinds.Node ∷ kinds.Root ∷ kinds.Identifier ∷ kinds.Quoted ∷ []
beginnings AHead = kinds.Identifier ∷ kinds.Quoted ∷ []
beginnings AChain = items
beginnings AnItem = items
beginnings AProperty = kinds.Identifier ∷ []
beginnings AType = kinds.MaySet ∷ kinds.MustSet ∷ kinds.Flat ∷ kinds.Map ∷ kinds.Pair ∷ kinds.Identifier ∷ []
beginnings AnElemSort = kinds.Name ∷ kinds.Pos ∷ kinds.Str ∷ kinds.Int ∷ kinds.Identifier ∷ kinds.OpenRound ∷ []
beginnings ARule = kinds.Identifier ∷ []
beginnings ATrigger = kinds.Prev ∷ patterns
beginnings AMessage = kinds.Error ∷ kinds.Warning ∷ kinds.Note ∷ []
beginnings APattern = patterns
beginnings AFirmPattern = kinds.Identifier ∷ unnamed_patterns
beginnings AnUnnamedPattern = unnamed_patterns
beginnings PatternArguments = kinds.OpenRound ∷ []
beginnings AnExpr = kinds.If ∷ kinds.Bind ∷ negations
beginnings (ALevel level) = level_beginnings level
beginnings (AnOperand level) = level_beginnings level
beginnings ANegation = negations
beginnings AComparison = opposites
beginnings AnOpposite = opposites
beginnings ALookup = primaries
beginnings ASuffix = kinds.OpenSquare ∷ []
beginnings APrimary = primaries
beginnings ANamedExpr = kinds.Identifier ∷ []
beginnings AParenthesis = kinds.OpenRound ∷ []
beginnings ABrace = kinds.OpenBrace ∷ []
beginnings AMap = kinds.OpenSquare ∷ []

abbrev pub begins : Nonterminal → List ℕ
begins i = map code_of (beginnings i)

-- ** goings-on

abbrev pub after_lookup : List Kind
after_lookup = kinds.OpenRound ∷ kinds.OpenSquare ∷ []

abbrev pub after_product : List Kind
after_product = operators_of Product ++ after_lookup

abbrev pub after_sum : List Kind
after_sum = operators_of Sum ++ after_product

abbrev pub after_set_operation : List Kind
after_set_operation = operators_of SetOperation ++ after_sum

abbrev pub after_comparison : List Kind
after_comparison = comparisons ++ after_set_operation

abbrev pub after_conjunction : List Kind
after_conjunction = operators_of Conjunction ++ after_comparison

abbrev pub after_expr : List Kind
after_expr = operators_of Disjunction ++ after_conjunction

abbrev pub after_level : BinaryLevel → List Kind
after_level Disjunction = after_expr
after_level Conjunction = after_conjunction
after_level SetOperation = after_set_operation
after_level Sum = after_sum
after_level Product = after_product

abbrev pub after_operand : BinaryLevel → List Kind
after_operand Disjunction = after_conjunction
after_operand Conjunction = after_comparison
after_operand SetOperation = after_sum
after_operand Sum = after_product
after_operand Product = after_lookup

abbrev pub after_pattern : List Kind
after_pattern = kinds.OpenRound ∷ kinds.At ∷ []

-- with which each symbol may go on where it might have ended
abbrev pub goings_on : Nonterminal → List Kind
goings_on Whole = []
goings_on ASignature = kinds.Identifier ∷ kinds.Quoted ∷ []
goings_on AConstructor = []
goings_on ATreeSort = []
goings_on AnEnum = kinds.Bar ∷ []
goings_on ATable = []
goings_on AFunction = []
goings_on AControlRule = kinds.Comma ∷ kinds.Arrow ∷ []
goings_on AHead = []
goings_on AChain = kinds.Arrow ∷ []
goings_on AnItem = []
goings_on AProperty = []
goings_on AType = []
goings_on AnElemSort = []
goings_on ARule = after_expr
goings_on ATrigger = after_pattern
goings_on AMessage = kinds.If ∷ after_expr ++ after_pattern
goings_on APattern = after_pattern
goings_on AFirmPattern = kinds.OpenRound ∷ []
goings_on AnUnnamedPattern = kinds.OpenRound ∷ []
goings_on PatternArguments = []
goings_on AnExpr = after_expr
goings_on (ALevel level) = after_level level
goings_on (AnOperand level) = after_operand level
goings_on ANegation = after_comparison
goings_on AComparison = after_comparison
goings_on AnOpposite = after_lookup
goings_on ALookup = after_lookup
goings_on ASuffix = []
goings_on APrimary = kinds.OpenRound ∷ []
goings_on ANamedExpr = kinds.OpenRound ∷ []
goings_on AParenthesis = []
goings_on ABrace = []
goings_on AMap = []

abbrev pub continues : Nonterminal → List ℕ
continues i = map code_of (goings_on i)

-- ** ranks

abbrev pub rank_of_level : BinaryLevel → ℕ
rank_of_level Disjunction = 15
rank_of_level Conjunction = 13
rank_of_level SetOperation = 9
rank_of_level Sum = 7
rank_of_level Product = 5

abbrev pub rank_of_operand : BinaryLevel → ℕ
rank_of_operand Disjunction = 14
rank_of_operand Conjunction = 12
rank_of_operand SetOperation = 8
rank_of_operand Sum = 6
rank_of_operand Product = 4

-- A symbol that stands in a production at the same nesting is of lower rank.
abbrev pub rank_of : Nonterminal → ℕ
rank_of Whole = 18
rank_of ASignature = 2
rank_of AConstructor = 1
rank_of ATreeSort = 0
rank_of AnEnum = 0
rank_of ATable = 0
rank_of AFunction = 0
rank_of AControlRule = 2
rank_of AHead = 1
rank_of AChain = 1
rank_of AnItem = 0
rank_of AProperty = 2
rank_of AType = 1
rank_of AnElemSort = 0
rank_of ARule = 17
rank_of ATrigger = 4
rank_of AMessage = 17
rank_of APattern = 3
rank_of AFirmPattern = 2
rank_of AnUnnamedPattern = 1
rank_of PatternArguments = 0
rank_of AnExpr = 16
rank_of (ALevel level) = rank_of_level level
rank_of (AnOperand level) = rank_of_operand level
rank_of ANegation = 11
rank_of AComparison = 10
rank_of AnOpposite = 3
rank_of ALookup = 2
rank_of ASuffix = 0
rank_of APrimary = 1
rank_of ANamedExpr = 0
rank_of AParenthesis = 0
rank_of ABrace = 0
rank_of AMap = 0

-- above each rank
abbrev pub rank_count : ℕ
rank_count = 19
