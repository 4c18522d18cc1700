use Rattle.std.proofs.Common.{◌≡◌, ℕ, List, map, take}
use Rattle.std.specs.List.{list_any}
use Rattle.check_base.specs.Earliest.{Gathers, FirstHave}
use Rattle.check_rules.specs.inner.Items.{is_single, is_whole}
use Rattle.check_rules.specs.Faults.{IsMixedWith}
use Rattle.check_rules.specs.inner.Tables.{has_name, shown}
use Rattle.check_rules.proofs.mixed.note_mixed.Given as goal

abbrev pub invariant-loop-item : goal.invariant-loop-item
invariant-loop-item l = record {
  gathered : Gathers l.fn.earliest l.earliest (FirstHave (IsMixedWith l.arguments (map shown l.items)) l.item-index (map shown l.items));
  whole : (x : List ℕ) → has_name l.named.whole x ≡ list_any (λ i. is_whole x i.kind) (take l.item-index (map shown l.items));
  single : (x : List ℕ) → has_name l.named.single x ≡ list_any (λ i. is_single x i.kind) (take l.item-index (map shown l.items));
}
