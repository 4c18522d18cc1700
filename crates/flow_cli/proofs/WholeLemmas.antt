-- Two whole outputs of one request over the same files end in the same way: both refuse the same file, or both are graphs of the same tree.
use Rattle.std.proofs.Common.{◌≡◌, ℕ, ◌≤◌, List, Option, Some, None, length, sym, ap, subst, ◌∙◌, arith}
use Rattle.std.specs.FinMap.{get}
use Rattle.std.proofs.lemmas.Option.{same_Some}
use Rattle.flow_term.specs.declared.term.Term.{Term}
use Rattle.flow_syntax.specs.declared.spec.Spec.{Spec}
use Rattle.flow_syntax.specs.declared.signature.Signature.{Signature}
use Rattle.flow_io.specs.Contents.{Contents}
use Rattle.flow_cli.specs.declared.output.End.{End}
use Rattle.flow_cli.specs.declared.output.End.TheVariants as end
use Rattle.flow_cli.specs.declared.words.Request.{Request}
use Rattle.flow_cli.specs.declared.words.Request.TheVariants.{Graph}
use Rattle.flow_cli.specs.Files.{IsRefusal, IsRefusedSpecification, IsRefusedTree, IsSpecification, IsTree, missing, too_large, ill_formed, specification_limit, tree_limit}
use Rattle.flow_cli.specs.GraphText.{GraphText}
use Rattle.flow_cli.specs.Outcome.{IsWhole}
use Rattle.flow_cli.specs.Whole.{IsGraphOutput, Whole, refused_specification, refused_tree, printed}
use Rattle.flow_cli.proofs.AcceptLemmas.{text_or_refused, tree_or_refused, same_specification, same_tree}

-- a file is not both refused and accepted
not_both : (file : List ℕ) (limit : ℕ) (IsBad : List ℕ → List ℕ → Type 0) (content : Option (List ℕ)) (line bytes : List ℕ) → content ≡ Some bytes → length bytes ≤ limit → ((cause : List ℕ) → ¬ IsBad bytes cause)
    → IsRefusal file limit IsBad content line → ⊥
not_both file limit IsBad content line bytes is small good (missing gone l) = let e : Some bytes ≡ None = sym is ∙ gone in cc
not_both file limit IsBad content line bytes is small good (too_large other there long l) =
    let same : other ≡ bytes = same_Some other bytes (sym there ∙ is) in
    absurd (omega (arith, ap length same))
not_both file limit IsBad content line bytes is small good (ill_formed other cause there short bad l) =
    good cause (subst (λ (bs : List ℕ). IsBad bs cause) (same_Some other bytes (sym there ∙ is)) bad)

pub refused_or_specification : (content : Option (List ℕ)) (line : List ℕ) (spec : Spec) → IsRefusedSpecification content line → IsSpecification content spec → ⊥
refused_or_specification content line spec line_is accepted =
    not_both _ specification_limit _ content line accepted.bytes accepted.is accepted.small (λ cause bad. text_or_refused accepted.bytes cause spec accepted.form bad) line_is

pub refused_or_tree : (signature : Option Signature) (content : Option (List ℕ)) (line : List ℕ) (tree : Term) → IsRefusedTree signature content line → IsTree signature content tree → ⊥
refused_or_tree signature content line tree line_is accepted =
    not_both _ tree_limit _ content line accepted.bytes accepted.is accepted.small (λ cause bad. tree_or_refused signature accepted.bytes cause tree accepted.form accepted.fits bad) line_is

-- a tree isn't refused with one specification of a content, and accepted with another
refused_with_same : (sc tc : Option (List ℕ)) (line : List ℕ) (spec other : Spec) (tree : Term) → IsSpecification sc spec → IsSpecification sc other → IsRefusedTree spec.signature tc line → IsTree other.signature tc tree → ⊥
refused_with_same sc tc line spec other tree one two line_is accepted =
    refused_or_tree other.signature tc line tree (subst (λ (s : Spec). IsRefusedTree s.signature tc line) (same_specification sc spec other one two) line_is) accepted

-- Two outputs, and how they end:
pub data Alike (out other : List ℕ) (how way : End) : Type 0 where
  -- both are the line of one specification that is refused
  refused_specifications : (content : Option (List ℕ)) → IsRefusedSpecification content out → IsRefusedSpecification content other → how ≡ end.Refused → way ≡ end.Refused → Alike out other how way
  -- both are the line of one tree that is refused
  refused_trees : (signature : Option Signature) (content : Option (List ℕ)) → IsRefusedTree signature content out → IsRefusedTree signature content other → how ≡ end.Refused → way ≡ end.Refused → Alike out other how way
  -- both are the graph of one tree
  graphs : (spec : Spec) (tree : Term) → GraphText spec tree out → GraphText spec tree other → how ≡ end.Done → way ≡ end.Done → Alike out other how way

module _ (sc tc : Option (List ℕ)) (out other : List ℕ) (how way : End) where
  both_printed : (spec spec' : Spec) (tree tree' : Term) → IsSpecification sc spec → IsSpecification sc spec' → IsTree spec.signature tc tree → IsTree spec'.signature tc tree'
      → GraphText spec tree out → GraphText spec' tree' other → how ≡ end.Done → way ≡ end.Done → Alike out other how way
  both_printed spec spec' tree tree' one two t t' g g' e f =
      let specs : spec' ≡ spec = same_specification sc spec' spec two one in
      let trees : tree' ≡ tree = same_tree spec.signature tc tree' tree (subst (λ (s : Spec). IsTree s.signature tc tree') specs t') t in
      graphs spec tree g (subst (λ (s : Spec). GraphText s tree other) specs (subst (λ (t : Term). GraphText spec' t other) trees g')) e f

  graphs_alike : IsGraphOutput sc tc out how → IsGraphOutput sc tc other way → Alike out other how way
  graphs_alike (refused_specification l e) (refused_specification l' f) = refused_specifications sc l l' e f
  graphs_alike (refused_specification l e) (refused_tree spec one l' f) = absurd (refused_or_specification sc out spec l one)
  graphs_alike (refused_specification l e) (printed spec tree one t g f) = absurd (refused_or_specification sc out spec l one)
  graphs_alike (refused_tree spec one l e) (refused_specification l' f) = absurd (refused_or_specification sc other spec l' one)
  graphs_alike (refused_tree spec one l e) (refused_tree spec' two l' f) =
      refused_trees spec.signature tc l (subst (λ (s : Spec). IsRefusedTree s.signature tc other) (same_specification sc spec' spec two one) l') e f
  graphs_alike (refused_tree spec one l e) (printed spec' tree two t g f) = absurd (refused_with_same sc tc out spec spec' tree one two l t)
  graphs_alike (printed spec tree one t g e) (refused_specification l f) = absurd (refused_or_specification sc other spec l one)
  graphs_alike (printed spec tree one t g e) (refused_tree spec' two l f) = absurd (refused_with_same sc tc other spec' spec tree two one l t)
  graphs_alike (printed spec tree one t g e) (printed spec' tree' two t' g' f) = both_printed spec spec' tree tree' one two t t' g g' e f

request_alike : (request : Request) (files : Contents) (out other : List ℕ) (how way : End) → Whole request files out how → Whole request files other way → Alike out other how way
request_alike (Graph spec tree) files out other how way one two = graphs_alike (get files spec) (get files tree) out other how way one two

pub wholes_alike : (words : List (List ℕ)) (files : Contents) (out other : List ℕ) (how way : End) → IsWhole words files out how → IsWhole words files other way → Alike out other how way
wholes_alike words files out other how way one two =
    let same : two.request ≡ one.request = same_Some two.request one.request (sym two.asked ∙ one.asked) in
    request_alike one.request files out other how way one.whole (subst (λ (r : Request). Whole r files other way) same two.whole)

pub alike_end : (out other : List ℕ) (how way : End) → Alike out other how way → how ≡ way
alike_end out other how way (refused_specifications content l l' e f) = e ∙ sym f
alike_end out other how way (refused_trees signature content l l' e f) = e ∙ sym f
alike_end out other how way (graphs spec tree g g' e f) = e ∙ sym f

-- two whole outputs end alike
pub ends_agree : (words : List (List ℕ)) (files : Contents) (out other : List ℕ) (how way : End) → IsWhole words files out how → IsWhole words files other way → how ≡ way
ends_agree words files out other how way one two = alike_end out other how way (wholes_alike words files out other how way one two)
