-- The signature, its constructors, enums, tables, functions and properties, part by part.
use Rattle.std.proofs.Common.{◌≡◌, ℕ, ◌+◌, ◌≤◌, List, Ok, ◌∙◌, add-one}
use Rattle.flow_syntax.specs.declared.token.Token.{Token}
use Rattle.grammar_theory.specs.Reading.{◌>>=◌}
use Rattle.parse_decls.specs.inner.Pieces.{reads_name, reads_constructor_name, reads_names, reads_names_in_braces, reads_items, reads_arguments, reads_argument_sorts, reads_each}
use Rattle.spec_grammar.proofs.Unrolled.{reads_at, one_at, bind_bind}
use Rattle.spec_grammar.specs.Reading.{reads}
use Rattle.spec_grammar.specs.Symbols.{ASignature, AConstructor, AnEnum, ATable, AFunction, AProperty, AType}
use Rattle.spec_grammar.specs.declared.kind.Kind.TheVariants as kinds

pub signature_at : (l : ℕ) (ts : List Token) → l ≤ 256
    → reads l ASignature ts ≡ (one_at l kinds.Signature ts >>= λ w. one_at l kinds.Start w.1 >>= λ s. reads_name l s.1 >>= λ n. reads_each l AConstructor n.1 >>= λ x. Ok (record { start = n.0; constructors = x.0 }, x.1))
signature_at l ts h = reads_at l ASignature ts h ∙ simp bind_bind

pub constructor_at : (l : ℕ) (ts : List Token) → l ≤ 256
    → reads l AConstructor ts ≡ (reads_constructor_name l ts >>= λ n. one_at l kinds.Colon n.1 >>= λ c. reads_argument_sorts l c.1 >>= λ x. one_at l kinds.Arrow x.1 >>= λ a. reads_name l a.1 >>= λ r. Ok (record { name = n.0; args = x.0; result = r.0 }, r.1))
constructor_at l ts h = reads_at l AConstructor ts h ∙ simp bind_bind

pub enum_at : (l : ℕ) (ts : List Token) → l ≤ 256
    → reads l AnEnum ts ≡ (reads_name l ts >>= λ n. one_at l kinds.Is n.1 >>= λ e. reads_items l e.1 >>= λ x. Ok (record { name = n.0; items = x.0 }, x.1))
enum_at l ts h = reads_at l AnEnum ts h ∙ simp bind_bind

pub table_at : (l : ℕ) (ts : List Token) → l ≤ 256
    → reads l ATable ts ≡ (reads_name l ts >>= λ n. one_at (l + 1) kinds.OpenBrace n.1 >>= λ o. one_at (l + 1) kinds.Elements o.1 >>= λ v. reads_names (l + 1) v.1 >>= λ x. one_at (l + 1) kinds.Bottom x.1 >>= λ w. reads_name (l + 1) w.1 >>= λ b. one_at (l + 1) kinds.Join b.1 >>= λ j. reads_names (l + 1) j.1 >>= λ y. one_at (l + 1) kinds.CloseBrace y.1 >>= λ c. Ok (record { name = n.0; elements = x.0; bottom = b.0; join = y.0 }, c.1))
table_at l ts h = rw add-one (reads_at l ATable ts h ∙ simp bind_bind)

pub function_at : (l : ℕ) (ts : List Token) → l ≤ 256
    → reads l AFunction ts ≡ (reads_name l ts >>= λ n. reads_arguments l n.1 >>= λ x. one_at l kinds.Colon x.1 >>= λ c. reads_name l c.1 >>= λ r. reads_names_in_braces l r.1 >>= λ y. Ok (record { name = n.0; args = x.0; result = r.0; table = y.0 }, y.1))
function_at l ts h = reads_at l AFunction ts h ∙ simp bind_bind

pub property_at : (l : ℕ) (ts : List Token) → l ≤ 256
    → reads l AProperty ts ≡ (reads_name l ts >>= λ n. one_at l kinds.Colon n.1 >>= λ c. reads l AType c.1 >>= λ t. Ok (record { name = n.0; lattice = t.0 }, t.1))
property_at l ts h = reads_at l AProperty ts h ∙ simp bind_bind
