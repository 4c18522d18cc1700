-- How control rules and triggers are read, branch by branch.
use Rattle.std.proofs.Common.{◌≡◌, ℕ, ◌≤◌, true, false, List, [], ◌∷◌, ◌∙◌}
use Rattle.flow_syntax.specs.declared.token.Token.{Token}
use Rattle.grammar_theory.specs.Texts.{Symbol, Then}
use Rattle.spec_grammar.proofs.Turns.{starts}
use Rattle.spec_grammar.proofs.Unrolled.{reads_at, bind_bind}
use Rattle.spec_grammar.specs.Control.{chain_rule, chains_rule, make_chain, node_rule, plain_item}
use Rattle.spec_grammar.specs.Parts.{constructor_name}
use Rattle.spec_grammar.specs.Patterns.{application_of}
use Rattle.spec_grammar.specs.Reading.{reads, reads_as}
use Rattle.spec_grammar.specs.Symbols.{AChain, AControlRule, AHead, AnItem, ATrigger, PatternArguments}
use Rattle.spec_grammar.specs.declared.kind.Kind.{Kind}
use Rattle.spec_grammar.specs.declared.kind.Kind.TheVariants as kinds
use Rattle.parse_rules.specs.inner.Rules.{chains_rule_of, forward_of, forward_trigger, node_item, node_item_of, node_rule_of, other_of, other_trigger, plain_item_at}

abbrev pub plain_items : List Kind
plain_items = kinds.Entry ∷ kinds.Exit ∷ kinds.Start ∷ kinds.End ∷ kinds.This ∷ kinds.Identifier ∷ []

pub item_plain : (l : ℕ) (ts : List Token) → l ≤ 256 → starts plain_items ts ≡ true → reads l AnItem ts ≡ reads_as l plain_item plain_item_at ts
item_plain l ts h b = reads_at l AnItem ts h ∙ rw b (simp bind_bind)

pub item_node : (l : ℕ) (ts : List Token) → l ≤ 256 → starts plain_items ts ≡ false → reads l AnItem ts ≡ reads_as l node_item node_item_of ts
item_node l ts h b = reads_at l AnItem ts h ∙ rw b (simp bind_bind)

pub chain_at : (l : ℕ) (ts : List Token) → l ≤ 256 → reads l AChain ts ≡ reads_as l chain_rule make_chain ts
chain_at l ts h = reads_at l AChain ts h

pub head_at : (l : ℕ) (ts : List Token) → l ≤ 256 → reads l AHead ts ≡ reads_as l (Then constructor_name (Symbol PatternArguments)) (λ x. application_of x.0 x.1) ts
head_at l ts h = reads_at l AHead ts h

pub rule_node : (l : ℕ) (ts : List Token) → l ≤ 256 → starts (kinds.Node ∷ []) ts ≡ true → reads l AControlRule ts ≡ reads_as l node_rule node_rule_of ts
rule_node l ts h b = reads_at l AControlRule ts h ∙ rw b (simp bind_bind)

pub rule_chains : (l : ℕ) (ts : List Token) → l ≤ 256 → starts (kinds.Node ∷ []) ts ≡ false → reads l AControlRule ts ≡ reads_as l chains_rule chains_rule_of ts
rule_chains l ts h b = reads_at l AControlRule ts h ∙ rw b (simp bind_bind)

pub trigger_forward : (l : ℕ) (ts : List Token) → l ≤ 256 → starts (kinds.Prev ∷ []) ts ≡ true → reads l ATrigger ts ≡ reads_as l forward_trigger forward_of ts
trigger_forward l ts h b = reads_at l ATrigger ts h ∙ rw b (simp bind_bind)

pub trigger_other : (l : ℕ) (ts : List Token) → l ≤ 256 → starts (kinds.Prev ∷ []) ts ≡ false → reads l ATrigger ts ≡ reads_as l other_trigger other_of ts
trigger_other l ts h b = reads_at l ATrigger ts h ∙ rw b (simp bind_bind)
