use Rattle.std.proofs.Common.{◌≡◌, rules}
use Rattle.std.specs.List.{IsAllAdjacentAnswer}
use Rattle.std.specs.Ordering.{is_lt}
use Rattle.std.proofs.lemmas.Fn.{always_returns_same}
use Rattle.flow_term.specs.contracts.elem.ElemOrd.TheImpl as order
use Rattle.flow_term.specs.declared.value.Entry.{Entry}
use Rattle.value_text.proofs.Forms.{next_tells}
use Rattle.value_text.proofs.form.keys_rise.Goals as goal

pub returns : goal.returns
returns c =
    let told : IsAllAdjacentAnswer (λ (x : Entry) (y : Entry) b. b ≡ is_lt (order.ghosts.cmp x.key y.key)) c.args.entries.now c.is_sorted_by.result = c.is_sorted_by.ensures.cases (λ x y. is_lt (order.ghosts.cmp x.key y.key)) (always_returns_same _ _ _ (λ a r h called. search rules)) in
    next_tells (λ entry. entry.key) c.args.entries.now c.is_sorted_by.result told
