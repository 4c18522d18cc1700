-- Which rules have numbers that fit.
use Rattle.std.specs.Prelude.{◌<◌, ◌^◌, length}
use Rattle.flow_syntax.specs.declared.spec.Spec.{Spec}

-- There are fewer than 2^32 control rules, properties and rules of properties.
pub record HasFewRules (spec : Spec) : Type 0 where
  pub control : length spec.control < 2 ^ 32
  pub properties : length spec.properties < 2 ^ 32
  pub rules : length spec.rules < 2 ^ 32
