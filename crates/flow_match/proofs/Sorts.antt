-- A pattern binds its own variables, in their order, each to an element of its sort.
use Rattle.std.proofs.Common.{ap, refl}
use Rattle.std.specs.Prelude.{⊤}
use Rattle.flow_term.specs.declared.elem.Elem.TheVariants as elem
use Rattle.flow_syntax.specs.declared.pattern.Pattern.{Pattern}
use Rattle.flow_syntax.specs.Types.{name_sort, pos_sort, str_sort, int_sort}
use Rattle.value_domains.specs.Values.{form_has_sort}
use Rattle.flow_match.specs.Bindings.{BindsAs}
use Rattle.flow_match.specs.Laws.{BindsItsVariables}
use Rattle.flow_match.proofs.EachVariable.{IsOfEach, binds_these}

each_of_its_sort : IsOfEach BindsAs (λ t path. ⊤)
each_of_its_sort = record {
  child = λ t path here n u e. tt;
  position = λ t path here x at. (refl, ap (form_has_sort pos_sort) (elem.outs-Pos path));
  name = λ t path here n e x at. (refl, ap (form_has_sort name_sort) (elem.outs-Name n));
  text = λ t path here s e x at. (refl, ap (form_has_sort str_sort) (elem.outs-Str s));
  number = λ n x at. (refl, ap (form_has_sort int_sort) (elem.outs-Int n));
}

pub binds_its_variables : (p : Pattern) → BindsItsVariables p
binds_its_variables p t path = binds_these BindsAs (λ t path. ⊤) each_of_its_sort p t path tt
