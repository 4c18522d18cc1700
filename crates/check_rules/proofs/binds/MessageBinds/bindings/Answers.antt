use Rattle.std.proofs.Common.{◌≡◌, ◌++◌, ◌∙◌, [], Option, ap, map, sym}
use Rattle.std.specs.Option.{option_map_or}
use Rattle.std.proofs.lemmas.List.{append-nil}
use Rattle.flow_syntax.specs.declared.expr.Expr.{Expr}
use Rattle.flow_syntax.specs.Binders.{binder_of, binders_in, bound_in}
use Rattle.check_rules.specs.inner.Tables.{known_binder, known_bound, known_by}
use Rattle.check_rules.proofs.Repeats.{of_both, of_pattern}
use Rattle.check_rules.proofs.binds.MessageBinds.bindings.Goals as goal

pub returns-in_ok-push_binders-in-Some : goal.returns-in_ok-push_binders-in-Some
returns-in_ok-push_binders-in-Some c =
    let same : map known_by c.push_binders.new.out.items ≡ map known_bound (bound_in c.args.self.now.pattern) ++ map known_binder (binders_in c.in-Some.condition) =
    c.in_ok-push_binders-in-Some.ensures ∙ ap (λ ks. ks ++ map known_binder (binders_in c.in-Some.condition))
    (c.in_ok-push_variables.ensures ∙ ap (λ xs. map known_by xs ++ map known_bound (bound_in c.args.self.now.pattern)) c.new-bindings.ensures.items) in
    of_both c.push_binders.new.out.items (bound_in c.args.self.now.pattern) (binders_in c.in-Some.condition) same
    ∙ ap (λ (o : Option Expr). map binder_of (bound_in c.args.self.now.pattern) ++ option_map_or binders_in o []) (sym c.in-Some.is)

pub returns-in-None : goal.returns-in-None
returns-in-None c =
    let same : map known_by c.push_variables.new.out.items ≡ map known_bound (bound_in c.args.self.now.pattern) =
    c.in_ok-push_variables.ensures ∙ ap (λ xs. map known_by xs ++ map known_bound (bound_in c.args.self.now.pattern)) c.new-bindings.ensures.items in
    of_pattern c.push_variables.new.out.items (bound_in c.args.self.now.pattern) same ∙ sym (append-nil (map binder_of (bound_in c.args.self.now.pattern)))
    ∙ ap (λ (o : Option Expr). map binder_of (bound_in c.args.self.now.pattern) ++ option_map_or binders_in o []) (sym c.in-None.is)
