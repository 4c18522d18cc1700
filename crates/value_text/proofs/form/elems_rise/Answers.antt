use Rattle.std.proofs.Common.{◌≡◌, rules}
use Rattle.std.specs.List.{IsAllAdjacentAnswer}
use Rattle.std.specs.Ordering.{is_lt}
use Rattle.std.proofs.lemmas.Fn.{always_returns_same}
use Rattle.flow_term.specs.contracts.elem.ElemOrd.TheImpl as order
use Rattle.value_text.proofs.Forms.{elems_told}
use Rattle.value_text.proofs.form.elems_rise.Goals as goal

pub returns : goal.returns
returns c =
    let told : IsAllAdjacentAnswer (λ x y b. b ≡ is_lt (order.ghosts.cmp x y)) c.args.elems.now c.is_sorted_by.result = c.is_sorted_by.ensures.cases (λ x y. is_lt (order.ghosts.cmp x y)) (always_returns_same _ _ _ (λ a r h called. search rules)) in
    elems_told c.args.elems.now c.is_sorted_by.result told
