-- How the meaning of an expression follows what it reads, by its form.
use Rattle.std.specs.Prelude.{Bool, true, false, cond, List, [], ◌∷◌, map, Option, Some, None}
use Rattle.flow_syntax.specs.declared.expr.Expr.{Expr}
use Rattle.flow_syntax.specs.declared.expr.ExprKind.TheOpen.{ExprKind-F}
use Rattle.flow_syntax.specs.declared.expr.SetOp.TheVariants as op
use Rattle.flow_syntax.specs.declared.property.Mode.{Mode}
use Rattle.flow_syntax.specs.declared.property.Mode.TheVariants as mode
use Rattle.flow_syntax.specs.Expressions.{ExprLayer, expr_layer}
use Rattle.expr_meaning.specs.Ranges.{Range, domain_in}
use Rattle.value_domains.specs.Domains.{Domain, must}
use Rattle.flow_syntax.specs.Parts.{Part, PartLayer, by_parts}

-- the mode of a whole whose parts have these modes
abbrev pub combined : Mode → Mode → Mode
combined mode.Fixed m = m
combined m mode.Fixed = m
combined mode.Up mode.Up = mode.Up
combined mode.Down mode.Down = mode.Down
combined _ _ = mode.Mixed

abbrev pub all_combined : List Mode → Mode
all_combined [] = mode.Fixed
all_combined (m ∷ ms) = combined m (all_combined ms)

-- of what falls where the part rises
abbrev pub turned : Mode → Mode
turned mode.Up = mode.Down
turned mode.Down = mode.Up
turned m = m

-- of a whole that needs a part to be fixed
abbrev pub needs : Mode → Mode → Mode
needs mode.Fixed m = m
needs _ m = mode.Mixed

abbrev pub needs_all : List Mode → Mode → Mode
needs_all ms m = needs (all_combined ms) m

abbrev pub is_must : Domain → Bool
is_must (must sort) = true
is_must _ = false

abbrev pub is_bottom_word : ExprLayer → Bool
is_bottom_word ExprKind-F.Bottom = true
is_bottom_word _ = false

abbrev pub modes_of : List (Part Mode) → List Mode
modes_of parts = map (λ p. p.given) parts

abbrev pub condition_mode : Option (Part Mode) → Mode
condition_mode None = mode.Fixed
condition_mode (Some c) = c.given

-- the mode of an expression of a form, whose own domain this is where it is a value of a lattice; nothing that is an element rises or falls, so a pair of elements
-- is fixed exactly where both parts are
abbrev pub form_mode : (Expr → Range) → Domain → PartLayer Mode → Mode
form_mode range own (ExprKind-F.Read p side) = mode.Up
form_mode range own (ExprKind-F.Call f args) = all_combined (modes_of args)
form_mode range own (ExprKind-F.MakeFlat e) = needs e.given mode.Fixed
form_mode range own (ExprKind-F.Fst a) = a.given
form_mode range own (ExprKind-F.Snd a) = a.given
form_mode range own (ExprKind-F.Both a b) = combined a.given b.given
form_mode range own (ExprKind-F.SetOf es) = needs_all (modes_of es) mode.Fixed
form_mode range own (ExprKind-F.Choose e x from c) = needs e.given (combined from.given (cond (is_must own) (turned (condition_mode c)) (condition_mode c)))
form_mode range own (ExprKind-F.MapOf ks vs) = needs_all (modes_of ks) (all_combined (modes_of vs))
form_mode range own (ExprKind-F.Look m k) = needs k.given m.given
form_mode range own (ExprKind-F.Update m k v) = needs k.given (combined m.given v.given)
form_mode range own (ExprKind-F.Set2 op.Minus a b) = cond (is_must own) (needs b.given a.given) (combined a.given (turned b.given))
form_mode range own (ExprKind-F.Set2 o a b) = combined a.given b.given
form_mode range own (ExprKind-F.Arith o a b) = needs a.given (needs b.given mode.Fixed)
form_mode range own (ExprKind-F.Minus a) = needs a.given mode.Fixed
form_mode range own (ExprKind-F.Compare o a b) = needs a.given (needs b.given mode.Fixed)
form_mode range own (ExprKind-F.Member e s) = needs e.given (cond (is_must (domain_in (range s.expr))) (turned s.given) s.given)
form_mode range own (ExprKind-F.And a b) = combined a.given b.given
form_mode range own (ExprKind-F.Or a b) = combined a.given b.given
form_mode range own (ExprKind-F.Not a) = turned a.given
form_mode range own (ExprKind-F.Bind x a b) = combined a.given b.given
form_mode range own (ExprKind-F.If c a b) = cond (is_bottom_word (expr_layer b.expr)) (combined c.given a.given) (needs c.given (combined a.given b.given))
form_mode range own layer = mode.Fixed

-- the mode of an expression, where each expression has the range that is given for it
abbrev pub mode_of : (Expr → Range) → Expr → Mode
mode_of range = by_parts (λ e layer. form_mode range (domain_in (range e)) layer)
