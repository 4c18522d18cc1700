-- Which bytes nodes and identifiers lack.
use Rattle.std.proofs.Common.{◌≡◌, ℕ, Bool, true, false, List, [], ◌∷◌, ◌++◌, refl, ap, ◌∙◌}
use Rattle.std.specs.Prelude.{◌==◌, not, if◌then◌else◌}
use Rattle.std.specs.List.{list_all, flat_map}
use Rattle.std.proofs.lemmas.Bool.{and_parts, and_from, both_ways, cases_Bool}
use Rattle.std.proofs.lemmas.Bool.Decides.{nat_tests}
use Rattle.std.proofs.Common.{arith, sym, inl, inr}
use Rattle.flow_term.specs.declared.graph.Node.{Node}
use Rattle.flow_term.specs.declared.graph.NodeKind.{NodeKind}
use Rattle.flow_term.specs.declared.graph.NodeKind.TheVariants.{Start, Node as Single, End}
use Rattle.flow_term.specs.Nodes.{kind_text, node_text}
use Rattle.flow_term.specs.Paths.{AreSteps, path_text}
use Rattle.flow_syntax.specs.Accepted.{IsIdentifier}
use Rattle.value_text.specs.inner.Reading.{is_token_byte}
use Rattle.value_text.proofs.Leaves.{identifier_token, path_token}
use Rattle.value_text.proofs.Tokens.{IsToken}
use Rattle.line_theory.specs.Lines.{lacks}
use Rattle.line_theory.proofs.LineLemmas.{lacks_append}

-- a byte that stands in no path, identifier or kind of a node
pub record IsApart (b : ℕ) : Type 0 where
  pub token : is_token_byte b ≡ false
  pub kinds : (k : NodeKind) → lacks b (kind_text k) ≡ true

pub blank : IsApart 32
blank = record { token = refl; kinds = kinds } where
  kinds : (k : NodeKind) → lacks 32 (kind_text k) ≡ true
  kinds Start = refl
  kinds Single = refl
  kinds End = refl

pub feed : IsApart 10
feed = record { token = refl; kinds = kinds } where
  kinds : (k : NodeKind) → lacks 10 (kind_text k) ≡ true
  kinds Start = refl
  kinds Single = refl
  kinds End = refl

differs : (b c : ℕ) → is_token_byte b ≡ false → is_token_byte c ≡ true → not (c == b) ≡ true
differs b c h k = elim (cases_Bool (c == b)) [
  | inl holds ↦ (let same : c ≡ b = grind (arith, nat_tests, holds) in let no : true ≡ false = sym k ∙ ap is_token_byte same ∙ h in cc)
  | inr fails ↦ ap not fails
]

pub tokens_lack : (b : ℕ) → is_token_byte b ≡ false → (bs : List ℕ) → list_all is_token_byte bs ≡ true → lacks b bs ≡ true
tokens_lack b h [] k = refl
tokens_lack b h (c ∷ bs) k =
    let parts = and_parts (is_token_byte c) (list_all is_token_byte bs) k in
    and_from (not (c == b)) (lacks b bs) (differs b c h parts.0) (tokens_lack b h bs parts.1)

module _ (b : ℕ) (apart : IsApart b) where
  pub path_lacks : (path : List ℕ) → AreSteps path → lacks b (path_text path) ≡ true
  path_lacks path h = tokens_lack b apart.token (path_text path) (path_token path h).bytes

  pub node_lacks : (n : Node) → AreSteps n.path → lacks b (node_text n) ≡ true
  node_lacks n h = lacks_append b (path_text n.path) (kind_text n.kind) (path_lacks n.path h) (apart.kinds n.kind)

  pub name_lacks : (text : List ℕ) → IsIdentifier text → lacks b text ≡ true
  name_lacks text h = tokens_lack b apart.token text (identifier_token text h).bytes
