-- What a byte is in a term text, outside of quotes.
use Rattle.std.specs.Prelude.{ℕ, Bool, true, false, ◌==◌, ◌&&◌, ◌||◌, nat_le, if◌then◌else◌}
use Rattle.aterm_text.specs.declared.class.ByteClass.{ByteClass}
use Rattle.aterm_text.specs.declared.class.ByteClass.TheVariants.{Letter, Digit, Minus, Sign, Blank, Quote, Comma, Parenthesis, Bracket, Brace, Closing, Exclamation, Less, Other}
use Rattle.aterm_text.specs.declared.refusal.TermFaultKind.{TermFaultKind}
use Rattle.aterm_text.specs.declared.refusal.TermFaultKind.TheVariants.{Unexpected, Shared, Placeholder}

-- `A` to `Z`, `a` to `z`
abbrev pub is_letter : ℕ → Bool
is_letter c = (nat_le 65 c && nat_le c 90) || (nat_le 97 c && nat_le c 122)

-- a letter or `_`; `0` to `9`; `-`; `+`, `*`, `$`; space, tab, line feed, carriage return; `"`; `,`; `(`; `[`; `{`; `)`, `]` or `}`;
-- `!`; `<`
unfoldable pub class_of : ℕ → ByteClass
class_of c =
    if is_letter c || c == 95 then Letter else (
    if nat_le 48 c && nat_le c 57 then Digit else (
    if c == 45 then Minus else (
    if c == 43 || c == 42 || c == 36 then Sign else (
    if c == 32 || c == 9 || c == 10 || c == 13 then Blank else (
    if c == 34 then Quote else (
    if c == 44 then Comma else (
    if c == 40 then Parenthesis else (
    if c == 91 then Bracket else (
    if c == 123 then Brace else (
    if c == 41 || c == 93 || c == 125 then Closing else (
    if c == 33 then Exclamation else (
    if c == 60 then Less else Other))))))))))))

-- what a symbol may have behind its first byte
abbrev pub is_in_symbol : ByteClass → Bool
is_in_symbol Letter = true
is_in_symbol Digit = true
is_in_symbol Minus = true
is_in_symbol Sign = true
is_in_symbol _ = false

-- the first bytes of terms
abbrev pub begins_term : ByteClass → Bool
begins_term Letter = true
begins_term Digit = true
begins_term Minus = true
begins_term Quote = true
begins_term Parenthesis = true
begins_term Bracket = true
begins_term _ = false

-- the fault of another byte where a term is to begin
abbrev pub misplaced : ByteClass → TermFaultKind
misplaced Exclamation = Shared
misplaced Less = Placeholder
misplaced _ = Unexpected

-- what makes a number before it a real: `.`, `e`, `E`
abbrev pub is_real_mark : ℕ → Bool
is_real_mark c = c == 46 || c == 101 || c == 69
