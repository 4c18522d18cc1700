-- The grammar is decided by one token of choice.
use Rattle.std.proofs.Common.{◌≡◌, ℕ, zero, suc, ◌+◌, ◌<◌, ◌&&◌, Bool, true, false, List, [], ◌∷◌, length, refl, ◌∙◌, arith}
use Rattle.std.specs.Prelude.{◌==◌, nat_lt, codes, pos}
use Rattle.std.proofs.lemmas.Bool.Decides.{nat_tests}
use Rattle.flow_syntax.specs.declared.token.Token.{Token}
use Rattle.flow_syntax.specs.declared.token.TokenKind.{TokenKind}
use Rattle.flow_syntax.specs.declared.token.TokenKind.TheVariants as tokens
use Rattle.grammar_theory.specs.Choice.{Decided, is_decided, is_inside, is_headed, may_be_empty, first_kinds, next_kinds, is_subset}
use Rattle.grammar_theory.proofs.Composition.{both}
use Rattle.spec_grammar.specs.Choice.{begins, continues, rank_of, rank_count}
use Rattle.spec_grammar.specs.Kinds.{kind_of, kind_count}
use Rattle.spec_grammar.specs.Symbols.{Nonterminal, Whole, ASignature, AConstructor, ATreeSort, AnEnum, ATable, AFunction, AControlRule, AHead, AChain, AnItem, AProperty, AType, AnElemSort, ARule, ATrigger, AMessage, APattern, AFirmPattern, AnUnnamedPattern, PatternArguments, AnExpr, ANegation, AComparison, AnOpposite, ALookup, ASuffix, APrimary, ANamedExpr, AParenthesis, ABrace, AMap, ALevel, AnOperand}
use Rattle.spec_grammar.specs.Syntax.{rule, spec_syntax}
use Rattle.spec_grammar.specs.declared.level.BinaryLevel.TheVariants.{Disjunction, Conjunction, SetOperation, Sum, Product}
use Rattle.spec_grammar.proofs.Samples.{has_sample, some_text}

-- ** a token of each kind

at_start : TokenKind → Token
at_start kind = record { place = 0; kind = kind }

-- in the order of the kinds
token_samples : List Token
unfolding at_start
token_samples = at_start (tokens.Ident []) ∷ at_start (tokens.Number (pos 0)) ∷ at_start (tokens.Quoted []) ∷ at_start tokens.Eof
    ∷ at_start (tokens.Symbol (codes "|->")) ∷ at_start (tokens.Symbol (codes "->")) ∷ at_start (tokens.Symbol (codes ":=")) ∷ at_start (tokens.Symbol (codes "=="))
    ∷ at_start (tokens.Symbol (codes "!=")) ∷ at_start (tokens.Symbol (codes "<=")) ∷ at_start (tokens.Symbol (codes "<")) ∷ at_start (tokens.Symbol (codes "="))
    ∷ at_start (tokens.Symbol (codes ":")) ∷ at_start (tokens.Symbol (codes "(")) ∷ at_start (tokens.Symbol (codes ")")) ∷ at_start (tokens.Symbol (codes "["))
    ∷ at_start (tokens.Symbol (codes "]")) ∷ at_start (tokens.Symbol (codes "{")) ∷ at_start (tokens.Symbol (codes "}")) ∷ at_start (tokens.Symbol (codes ","))
    ∷ at_start (tokens.Symbol (codes "+")) ∷ at_start (tokens.Symbol (codes "-")) ∷ at_start (tokens.Symbol (codes "*")) ∷ at_start (tokens.Symbol (codes "|"))
    ∷ at_start (tokens.Symbol (codes "@")) ∷ at_start (tokens.Symbol (codes ".")) ∷ at_start (tokens.Symbol (codes "_"))
    ∷ at_start (tokens.Word (codes "module")) ∷ at_start (tokens.Word (codes "signature")) ∷ at_start (tokens.Word (codes "sorts"))
    ∷ at_start (tokens.Word (codes "lattices")) ∷ at_start (tokens.Word (codes "functions")) ∷ at_start (tokens.Word (codes "control"))
    ∷ at_start (tokens.Word (codes "properties")) ∷ at_start (tokens.Word (codes "rules")) ∷ at_start (tokens.Word (codes "messages"))
    ∷ at_start (tokens.Word (codes "root")) ∷ at_start (tokens.Word (codes "node")) ∷ at_start (tokens.Word (codes "start")) ∷ at_start (tokens.Word (codes "end"))
    ∷ at_start (tokens.Word (codes "entry")) ∷ at_start (tokens.Word (codes "exit")) ∷ at_start (tokens.Word (codes "this")) ∷ at_start (tokens.Word (codes "prev"))
    ∷ at_start (tokens.Word (codes "next")) ∷ at_start (tokens.Word (codes "name")) ∷ at_start (tokens.Word (codes "pos")) ∷ at_start (tokens.Word (codes "str"))
    ∷ at_start (tokens.Word (codes "int")) ∷ at_start (tokens.Word (codes "list")) ∷ at_start (tokens.Word (codes "any")) ∷ at_start (tokens.Word (codes "elements"))
    ∷ at_start (tokens.Word (codes "bottom")) ∷ at_start (tokens.Word (codes "join")) ∷ at_start (tokens.Word (codes "MaySet")) ∷ at_start (tokens.Word (codes "MustSet"))
    ∷ at_start (tokens.Word (codes "Flat")) ∷ at_start (tokens.Word (codes "Map")) ∷ at_start (tokens.Word (codes "Pair")) ∷ at_start (tokens.Word (codes "if"))
    ∷ at_start (tokens.Word (codes "then")) ∷ at_start (tokens.Word (codes "else")) ∷ at_start (tokens.Word (codes "bind")) ∷ at_start (tokens.Word (codes "yield"))
    ∷ at_start (tokens.Word (codes "for")) ∷ at_start (tokens.Word (codes "in")) ∷ at_start (tokens.Word (codes "union")) ∷ at_start (tokens.Word (codes "inter"))
    ∷ at_start (tokens.Word (codes "minus")) ∷ at_start (tokens.Word (codes "and")) ∷ at_start (tokens.Word (codes "or")) ∷ at_start (tokens.Word (codes "not"))
    ∷ at_start (tokens.Word (codes "true")) ∷ at_start (tokens.Word (codes "false")) ∷ at_start (tokens.Word (codes "top")) ∷ at_start (tokens.Word (codes "unreached"))
    ∷ at_start (tokens.Word (codes "flat")) ∷ at_start (tokens.Word (codes "fst")) ∷ at_start (tokens.Word (codes "snd")) ∷ at_start (tokens.Word (codes "error"))
    ∷ at_start (tokens.Word (codes "warning")) ∷ at_start (tokens.Word (codes "note")) ∷ at_start (tokens.Word (codes "on")) ∷ []

are_numbered : ℕ → List Token → Bool
are_numbered n [] = true
are_numbered n (t ∷ ts) = (kind_of t == n) && are_numbered (suc n) ts

numbered : are_numbered 0 token_samples ≡ true
unfolding are_numbered token_samples at_start kind_of
numbered = refl

sample_in : List Token → ℕ → Token
sample_in [] k = at_start tokens.Eof
sample_in (t ∷ ts) zero = t
sample_in (t ∷ ts) (suc k) = sample_in ts k

sample_is : (n : ℕ) (ts : List Token) → are_numbered n ts ≡ true → (k : ℕ) → k < length ts → kind_of (sample_in ts k) ≡ n + k
unfolding are_numbered sample_in
sample_is n [] e k h = absurd (omega arith)
sample_is n (t ∷ ts) e zero h = let p = both (kind_of t == n) (are_numbered (suc n) ts) e in let q = p.0 in grind (arith, nat_tests)
sample_is n (t ∷ ts) e (suc k) h = let p = both (kind_of t == n) (are_numbered (suc n) ts) e in let q = sample_is (suc n) ts p.1 k (omega arith) in omega arith

pub sample : ℕ → Token
sample k = sample_in token_samples k

pub sampled : (k : ℕ) → k < kind_count → kind_of (sample k) ≡ k
unfolding sample token_samples
sampled k h = sample_is 0 token_samples numbered k h ∙ omega arith

-- ** the tests

-- a fact of each symbol
pub each : (P : Nonterminal → Type 0) → P Whole → P ASignature → P AConstructor → P ATreeSort → P AnEnum → P ATable → P AFunction → P AControlRule → P AHead → P AChain → P AnItem → P AProperty → P AType → P AnElemSort → P ARule → P ATrigger → P AMessage → P APattern → P AFirmPattern → P AnUnnamedPattern → P PatternArguments → P AnExpr → P (ALevel Disjunction) → P (ALevel Conjunction) → P (ALevel SetOperation) → P (ALevel Sum) → P (ALevel Product) → P (AnOperand Disjunction) → P (AnOperand Conjunction) → P (AnOperand SetOperation) → P (AnOperand Sum) → P (AnOperand Product) → P ANegation → P AComparison → P AnOpposite → P ALookup → P ASuffix → P APrimary → P ANamedExpr → P AParenthesis → P ABrace → P AMap → (i : Nonterminal) → P i
each P h0 h1 h2 h3 h4 h5 h6 h7 h8 h9 h10 h11 h12 h13 h14 h15 h16 h17 h18 h19 h20 h21 h22 h23 h24 h25 h26 h27 h28 h29 h30 h31 h32 h33 h34 h35 h36 h37 h38 h39 h40 h41 Whole = h0
each P h0 h1 h2 h3 h4 h5 h6 h7 h8 h9 h10 h11 h12 h13 h14 h15 h16 h17 h18 h19 h20 h21 h22 h23 h24 h25 h26 h27 h28 h29 h30 h31 h32 h33 h34 h35 h36 h37 h38 h39 h40 h41 ASignature = h1
each P h0 h1 h2 h3 h4 h5 h6 h7 h8 h9 h10 h11 h12 h13 h14 h15 h16 h17 h18 h19 h20 h21 h22 h23 h24 h25 h26 h27 h28 h29 h30 h31 h32 h33 h34 h35 h36 h37 h38 h39 h40 h41 AConstructor = h2
each P h0 h1 h2 h3 h4 h5 h6 h7 h8 h9 h10 h11 h12 h13 h14 h15 h16 h17 h18 h19 h20 h21 h22 h23 h24 h25 h26 h27 h28 h29 h30 h31 h32 h33 h34 h35 h36 h37 h38 h39 h40 h41 ATreeSort = h3
each P h0 h1 h2 h3 h4 h5 h6 h7 h8 h9 h10 h11 h12 h13 h14 h15 h16 h17 h18 h19 h20 h21 h22 h23 h24 h25 h26 h27 h28 h29 h30 h31 h32 h33 h34 h35 h36 h37 h38 h39 h40 h41 AnEnum = h4
each P h0 h1 h2 h3 h4 h5 h6 h7 h8 h9 h10 h11 h12 h13 h14 h15 h16 h17 h18 h19 h20 h21 h22 h23 h24 h25 h26 h27 h28 h29 h30 h31 h32 h33 h34 h35 h36 h37 h38 h39 h40 h41 ATable = h5
each P h0 h1 h2 h3 h4 h5 h6 h7 h8 h9 h10 h11 h12 h13 h14 h15 h16 h17 h18 h19 h20 h21 h22 h23 h24 h25 h26 h27 h28 h29 h30 h31 h32 h33 h34 h35 h36 h37 h38 h39 h40 h41 AFunction = h6
each P h0 h1 h2 h3 h4 h5 h6 h7 h8 h9 h10 h11 h12 h13 h14 h15 h16 h17 h18 h19 h20 h21 h22 h23 h24 h25 h26 h27 h28 h29 h30 h31 h32 h33 h34 h35 h36 h37 h38 h39 h40 h41 AControlRule = h7
each P h0 h1 h2 h3 h4 h5 h6 h7 h8 h9 h10 h11 h12 h13 h14 h15 h16 h17 h18 h19 h20 h21 h22 h23 h24 h25 h26 h27 h28 h29 h30 h31 h32 h33 h34 h35 h36 h37 h38 h39 h40 h41 AHead = h8
each P h0 h1 h2 h3 h4 h5 h6 h7 h8 h9 h10 h11 h12 h13 h14 h15 h16 h17 h18 h19 h20 h21 h22 h23 h24 h25 h26 h27 h28 h29 h30 h31 h32 h33 h34 h35 h36 h37 h38 h39 h40 h41 AChain = h9
each P h0 h1 h2 h3 h4 h5 h6 h7 h8 h9 h10 h11 h12 h13 h14 h15 h16 h17 h18 h19 h20 h21 h22 h23 h24 h25 h26 h27 h28 h29 h30 h31 h32 h33 h34 h35 h36 h37 h38 h39 h40 h41 AnItem = h10
each P h0 h1 h2 h3 h4 h5 h6 h7 h8 h9 h10 h11 h12 h13 h14 h15 h16 h17 h18 h19 h20 h21 h22 h23 h24 h25 h26 h27 h28 h29 h30 h31 h32 h33 h34 h35 h36 h37 h38 h39 h40 h41 AProperty = h11
each P h0 h1 h2 h3 h4 h5 h6 h7 h8 h9 h10 h11 h12 h13 h14 h15 h16 h17 h18 h19 h20 h21 h22 h23 h24 h25 h26 h27 h28 h29 h30 h31 h32 h33 h34 h35 h36 h37 h38 h39 h40 h41 AType = h12
each P h0 h1 h2 h3 h4 h5 h6 h7 h8 h9 h10 h11 h12 h13 h14 h15 h16 h17 h18 h19 h20 h21 h22 h23 h24 h25 h26 h27 h28 h29 h30 h31 h32 h33 h34 h35 h36 h37 h38 h39 h40 h41 AnElemSort = h13
each P h0 h1 h2 h3 h4 h5 h6 h7 h8 h9 h10 h11 h12 h13 h14 h15 h16 h17 h18 h19 h20 h21 h22 h23 h24 h25 h26 h27 h28 h29 h30 h31 h32 h33 h34 h35 h36 h37 h38 h39 h40 h41 ARule = h14
each P h0 h1 h2 h3 h4 h5 h6 h7 h8 h9 h10 h11 h12 h13 h14 h15 h16 h17 h18 h19 h20 h21 h22 h23 h24 h25 h26 h27 h28 h29 h30 h31 h32 h33 h34 h35 h36 h37 h38 h39 h40 h41 ATrigger = h15
each P h0 h1 h2 h3 h4 h5 h6 h7 h8 h9 h10 h11 h12 h13 h14 h15 h16 h17 h18 h19 h20 h21 h22 h23 h24 h25 h26 h27 h28 h29 h30 h31 h32 h33 h34 h35 h36 h37 h38 h39 h40 h41 AMessage = h16
each P h0 h1 h2 h3 h4 h5 h6 h7 h8 h9 h10 h11 h12 h13 h14 h15 h16 h17 h18 h19 h20 h21 h22 h23 h24 h25 h26 h27 h28 h29 h30 h31 h32 h33 h34 h35 h36 h37 h38 h39 h40 h41 APattern = h17
each P h0 h1 h2 h3 h4 h5 h6 h7 h8 h9 h10 h11 h12 h13 h14 h15 h16 h17 h18 h19 h20 h21 h22 h23 h24 h25 h26 h27 h28 h29 h30 h31 h32 h33 h34 h35 h36 h37 h38 h39 h40 h41 AFirmPattern = h18
each P h0 h1 h2 h3 h4 h5 h6 h7 h8 h9 h10 h11 h12 h13 h14 h15 h16 h17 h18 h19 h20 h21 h22 h23 h24 h25 h26 h27 h28 h29 h30 h31 h32 h33 h34 h35 h36 h37 h38 h39 h40 h41 AnUnnamedPattern = h19
each P h0 h1 h2 h3 h4 h5 h6 h7 h8 h9 h10 h11 h12 h13 h14 h15 h16 h17 h18 h19 h20 h21 h22 h23 h24 h25 h26 h27 h28 h29 h30 h31 h32 h33 h34 h35 h36 h37 h38 h39 h40 h41 PatternArguments = h20
each P h0 h1 h2 h3 h4 h5 h6 h7 h8 h9 h10 h11 h12 h13 h14 h15 h16 h17 h18 h19 h20 h21 h22 h23 h24 h25 h26 h27 h28 h29 h30 h31 h32 h33 h34 h35 h36 h37 h38 h39 h40 h41 AnExpr = h21
each P h0 h1 h2 h3 h4 h5 h6 h7 h8 h9 h10 h11 h12 h13 h14 h15 h16 h17 h18 h19 h20 h21 h22 h23 h24 h25 h26 h27 h28 h29 h30 h31 h32 h33 h34 h35 h36 h37 h38 h39 h40 h41 (ALevel Disjunction) = h22
each P h0 h1 h2 h3 h4 h5 h6 h7 h8 h9 h10 h11 h12 h13 h14 h15 h16 h17 h18 h19 h20 h21 h22 h23 h24 h25 h26 h27 h28 h29 h30 h31 h32 h33 h34 h35 h36 h37 h38 h39 h40 h41 (ALevel Conjunction) = h23
each P h0 h1 h2 h3 h4 h5 h6 h7 h8 h9 h10 h11 h12 h13 h14 h15 h16 h17 h18 h19 h20 h21 h22 h23 h24 h25 h26 h27 h28 h29 h30 h31 h32 h33 h34 h35 h36 h37 h38 h39 h40 h41 (ALevel SetOperation) = h24
each P h0 h1 h2 h3 h4 h5 h6 h7 h8 h9 h10 h11 h12 h13 h14 h15 h16 h17 h18 h19 h20 h21 h22 h23 h24 h25 h26 h27 h28 h29 h30 h31 h32 h33 h34 h35 h36 h37 h38 h39 h40 h41 (ALevel Sum) = h25
each P h0 h1 h2 h3 h4 h5 h6 h7 h8 h9 h10 h11 h12 h13 h14 h15 h16 h17 h18 h19 h20 h21 h22 h23 h24 h25 h26 h27 h28 h29 h30 h31 h32 h33 h34 h35 h36 h37 h38 h39 h40 h41 (ALevel Product) = h26
each P h0 h1 h2 h3 h4 h5 h6 h7 h8 h9 h10 h11 h12 h13 h14 h15 h16 h17 h18 h19 h20 h21 h22 h23 h24 h25 h26 h27 h28 h29 h30 h31 h32 h33 h34 h35 h36 h37 h38 h39 h40 h41 (AnOperand Disjunction) = h27
each P h0 h1 h2 h3 h4 h5 h6 h7 h8 h9 h10 h11 h12 h13 h14 h15 h16 h17 h18 h19 h20 h21 h22 h23 h24 h25 h26 h27 h28 h29 h30 h31 h32 h33 h34 h35 h36 h37 h38 h39 h40 h41 (AnOperand Conjunction) = h28
each P h0 h1 h2 h3 h4 h5 h6 h7 h8 h9 h10 h11 h12 h13 h14 h15 h16 h17 h18 h19 h20 h21 h22 h23 h24 h25 h26 h27 h28 h29 h30 h31 h32 h33 h34 h35 h36 h37 h38 h39 h40 h41 (AnOperand SetOperation) = h29
each P h0 h1 h2 h3 h4 h5 h6 h7 h8 h9 h10 h11 h12 h13 h14 h15 h16 h17 h18 h19 h20 h21 h22 h23 h24 h25 h26 h27 h28 h29 h30 h31 h32 h33 h34 h35 h36 h37 h38 h39 h40 h41 (AnOperand Sum) = h30
each P h0 h1 h2 h3 h4 h5 h6 h7 h8 h9 h10 h11 h12 h13 h14 h15 h16 h17 h18 h19 h20 h21 h22 h23 h24 h25 h26 h27 h28 h29 h30 h31 h32 h33 h34 h35 h36 h37 h38 h39 h40 h41 (AnOperand Product) = h31
each P h0 h1 h2 h3 h4 h5 h6 h7 h8 h9 h10 h11 h12 h13 h14 h15 h16 h17 h18 h19 h20 h21 h22 h23 h24 h25 h26 h27 h28 h29 h30 h31 h32 h33 h34 h35 h36 h37 h38 h39 h40 h41 ANegation = h32
each P h0 h1 h2 h3 h4 h5 h6 h7 h8 h9 h10 h11 h12 h13 h14 h15 h16 h17 h18 h19 h20 h21 h22 h23 h24 h25 h26 h27 h28 h29 h30 h31 h32 h33 h34 h35 h36 h37 h38 h39 h40 h41 AComparison = h33
each P h0 h1 h2 h3 h4 h5 h6 h7 h8 h9 h10 h11 h12 h13 h14 h15 h16 h17 h18 h19 h20 h21 h22 h23 h24 h25 h26 h27 h28 h29 h30 h31 h32 h33 h34 h35 h36 h37 h38 h39 h40 h41 AnOpposite = h34
each P h0 h1 h2 h3 h4 h5 h6 h7 h8 h9 h10 h11 h12 h13 h14 h15 h16 h17 h18 h19 h20 h21 h22 h23 h24 h25 h26 h27 h28 h29 h30 h31 h32 h33 h34 h35 h36 h37 h38 h39 h40 h41 ALookup = h35
each P h0 h1 h2 h3 h4 h5 h6 h7 h8 h9 h10 h11 h12 h13 h14 h15 h16 h17 h18 h19 h20 h21 h22 h23 h24 h25 h26 h27 h28 h29 h30 h31 h32 h33 h34 h35 h36 h37 h38 h39 h40 h41 ASuffix = h36
each P h0 h1 h2 h3 h4 h5 h6 h7 h8 h9 h10 h11 h12 h13 h14 h15 h16 h17 h18 h19 h20 h21 h22 h23 h24 h25 h26 h27 h28 h29 h30 h31 h32 h33 h34 h35 h36 h37 h38 h39 h40 h41 APrimary = h37
each P h0 h1 h2 h3 h4 h5 h6 h7 h8 h9 h10 h11 h12 h13 h14 h15 h16 h17 h18 h19 h20 h21 h22 h23 h24 h25 h26 h27 h28 h29 h30 h31 h32 h33 h34 h35 h36 h37 h38 h39 h40 h41 ANamedExpr = h38
each P h0 h1 h2 h3 h4 h5 h6 h7 h8 h9 h10 h11 h12 h13 h14 h15 h16 h17 h18 h19 h20 h21 h22 h23 h24 h25 h26 h27 h28 h29 h30 h31 h32 h33 h34 h35 h36 h37 h38 h39 h40 h41 AParenthesis = h39
each P h0 h1 h2 h3 h4 h5 h6 h7 h8 h9 h10 h11 h12 h13 h14 h15 h16 h17 h18 h19 h20 h21 h22 h23 h24 h25 h26 h27 h28 h29 h30 h31 h32 h33 h34 h35 h36 h37 h38 h39 h40 h41 ABrace = h40
each P h0 h1 h2 h3 h4 h5 h6 h7 h8 h9 h10 h11 h12 h13 h14 h15 h16 h17 h18 h19 h20 h21 h22 h23 h24 h25 h26 h27 h28 h29 h30 h31 h32 h33 h34 h35 h36 h37 h38 h39 h40 h41 AMap = h41

-- a sample of each symbol needs those of lesser heights alone
abbrev pub height_of : Nonterminal → ℕ
height_of ASuffix = rank_count
height_of AParenthesis = rank_count
height_of i = rank_of i

pub heights : (i : Nonterminal) → has_sample kind_count (λ j. nat_lt (height_of j) (height_of i)) (rule i) ≡ true
unfolding each
heights i = each (λ i. has_sample kind_count (λ j. nat_lt (height_of j) (height_of i)) (rule i) ≡ true) refl refl refl refl refl refl refl refl refl refl refl refl refl refl refl refl refl refl refl refl refl refl refl refl refl refl refl refl refl refl refl refl refl refl refl refl refl refl refl refl refl refl i

pub low : (i : Nonterminal) → height_of i < suc rank_count
low i = each (λ i. height_of i < suc rank_count) (omega arith) (omega arith) (omega arith) (omega arith) (omega arith) (omega arith) (omega arith) (omega arith) (omega arith) (omega arith) (omega arith) (omega arith) (omega arith) (omega arith) (omega arith) (omega arith) (omega arith) (omega arith) (omega arith) (omega arith) (omega arith) (omega arith) (omega arith) (omega arith) (omega arith) (omega arith) (omega arith) (omega arith) (omega arith) (omega arith) (omega arith) (omega arith) (omega arith) (omega arith) (omega arith) (omega arith) (omega arith) (omega arith) (omega arith) (omega arith) (omega arith) (omega arith) i

unfoldable pub checks : Decided spec_syntax begins continues
checks = record {
  kinds = kind_count;
  decided = each (λ i. is_decided kind_count begins continues (rule i) ≡ true) refl refl refl refl refl refl refl refl refl refl refl refl refl refl refl refl refl refl refl refl refl refl refl refl refl refl refl refl refl refl refl refl refl refl refl refl refl refl refl refl refl refl;
  rank = rank_of;
  ranks = rank_count;
  ranked = each (λ i. rank_of i < rank_count) (omega arith) (omega arith) (omega arith) (omega arith) (omega arith) (omega arith) (omega arith) (omega arith) (omega arith) (omega arith) (omega arith) (omega arith) (omega arith) (omega arith) (omega arith) (omega arith) (omega arith) (omega arith) (omega arith) (omega arith) (omega arith) (omega arith) (omega arith) (omega arith) (omega arith) (omega arith) (omega arith) (omega arith) (omega arith) (omega arith) (omega arith) (omega arith) (omega arith) (omega arith) (omega arith) (omega arith) (omega arith) (omega arith) (omega arith) (omega arith) (omega arith) (omega arith);
  inside = each (λ i. is_inside (λ j. nat_lt (rank_of j) (rank_of i)) false (rule i) ≡ true) refl refl refl refl refl refl refl refl refl refl refl refl refl refl refl refl refl refl refl refl refl refl refl refl refl refl refl refl refl refl refl refl refl refl refl refl refl refl refl refl refl refl;
  headed = each (λ i. is_headed (λ j. nat_lt (rank_of j) (rank_of i)) (rule i) ≡ true) refl refl refl refl refl refl refl refl refl refl refl refl refl refl refl refl refl refl refl refl refl refl refl refl refl refl refl refl refl refl refl refl refl refl refl refl refl refl refl refl refl refl;
  full = each (λ i. may_be_empty (rule i) ≡ false) refl refl refl refl refl refl refl refl refl refl refl refl refl refl refl refl refl refl refl refl refl refl refl refl refl refl refl refl refl refl refl refl refl refl refl refl refl refl refl refl refl refl;
  table = each (λ i. first_kinds begins (rule i) ≡ begins i) refl refl refl refl refl refl refl refl refl refl refl refl refl refl refl refl refl refl refl refl refl refl refl refl refl refl refl refl refl refl refl refl refl refl refl refl refl refl refl refl refl refl;
  covers = each (λ i. is_subset (next_kinds begins continues (rule i)) (continues i) ≡ true) refl refl refl refl refl refl refl refl refl refl refl refl refl refl refl refl refl refl refl refl refl refl refl refl refl refl refl refl refl refl refl refl refl refl refl refl refl refl refl refl refl refl;
  sample = sample;
  sampled = sampled;
  some = λ l i. some_text spec_syntax begins continues kind_count sample sampled height_of heights (suc rank_count) i (low i) l;
}
