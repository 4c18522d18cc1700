-- What the code of each form gives, from what its parts give.
use Rattle.std.proofs.Common.{◌≡◌, ℕ, Bool, not, ◌&&◌, ◌||◌, List, map, sym, ap, ◌∙◌}
use Rattle.std.specs.Int.{int_wrapping_neg}
use mir.Syntax.{w64}
use Rattle.flow_term.specs.declared.elem.Elem.{Elem, out-Elem}
use Rattle.flow_term.specs.declared.elem.Elem.TheVariants as elem
use Rattle.flow_term.specs.declared.value.Value.{Value, out-Value}
use Rattle.flow_term.specs.declared.value.Value.TheVariants as value
use Rattle.flow_syntax.specs.declared.expr.ArithOp.{ArithOp}
use Rattle.flow_syntax.specs.declared.expr.CompareOp.{CompareOp}
use Rattle.flow_syntax.specs.declared.expr.Side.{Side}
use Rattle.value_domains.specs.Domains.{joined_of}
use Rattle.lattice_any.specs.declared.any.AnyL.{AnyL}
use Rattle.lattice_any.specs.Types.{domain_of_any}
use Rattle.expr_meaning.specs.Meaning.{set_of, is_member, int_in, arith_value, compared}
use Rattle.eval_code.specs.declared.code.Choice.{Choice}
use Rattle.eval_code.specs.declared.code.Combination.{Combination}
use Rattle.eval_code.specs.declared.code.ElemCode.{ElemCode, ElemCode-F, fold-roll-ElemCode}
use Rattle.eval_code.specs.declared.code.ElemCode.TheVariants as elem_code
use Rattle.eval_code.specs.declared.code.EntryCode.{EntryCode}
use Rattle.eval_code.specs.declared.code.Half.{Half}
use Rattle.eval_code.specs.declared.code.TruthCode.{TruthCode, TruthCode-F, fold-roll-TruthCode}
use Rattle.eval_code.specs.declared.code.TruthCode.TheVariants as truth_code
use Rattle.eval_code.specs.declared.code.ValueCode.{ValueCode, ValueCode-F, fold-roll-ValueCode}
use Rattle.eval_code.specs.declared.code.ValueCode.TheVariants as value_code
use Rattle.eval_code.specs.Needs.{slot_of, holds, rises, fits, is_there, is_pair, is_elem_pair, elems_of}
use Rattle.eval_code.specs.Senses.{Given, given_here, given_one, given_two, given_if, given_all, given_bind, asking, half_of, elem_half, combined, without, looked_up, updated_map, made_map, all_fit, given_value, given_elem, given_truth, given_chosen, given_entry, elem_layer, truth_layer, value_layer, choice_layer, entry_layer}

pub value_constant : (v : Value) → given_value (value_code.Constant v) ≡ given_here v
value_constant v = ap given_value (sym (value_code.rolls-Constant v)) ∙ fold-roll-ValueCode (Given Elem) (Given Bool) (Given Value) (Given Value) (Given (Elem × Value)) elem_layer truth_layer value_layer choice_layer entry_layer (ValueCode-F.«ValueCode::Constant» v)

pub value_read : (p : ℕ) (side : Side) → given_value (value_code.Read p side) ≡ record { sense = λ at. at.reads p side; demand = λ at. holds (at.has p side) }
value_read p side = ap given_value (sym (value_code.rolls-Read p side)) ∙ fold-roll-ValueCode (Given Elem) (Given Bool) (Given Value) (Given Value) (Given (Elem × Value)) elem_layer truth_layer value_layer choice_layer entry_layer (ValueCode-F.Read p side)

pub value_flat : (a : ElemCode) → given_value (value_code.Flat a) ≡ given_one value.Flat (given_elem a)
value_flat a = ap given_value (sym (value_code.rolls-Flat a)) ∙ fold-roll-ValueCode (Given Elem) (Given Bool) (Given Value) (Given Value) (Given (Elem × Value)) elem_layer truth_layer value_layer choice_layer entry_layer (ValueCode-F.Flat a)

pub value_pair : (a b : ValueCode) → given_value (value_code.Pair a b) ≡ given_two value.Pair (given_value a) (given_value b)
value_pair a b = ap given_value (sym (value_code.rolls-Pair a b)) ∙ fold-roll-ValueCode (Given Elem) (Given Bool) (Given Value) (Given Value) (Given (Elem × Value)) elem_layer truth_layer value_layer choice_layer entry_layer (ValueCode-F.«ValueCode::Pair» a b)

pub value_part : (h : Half) (a : ValueCode) → given_value (value_code.Part h a) ≡ given_one (half_of h) (asking (λ v. holds (is_pair (out-Value v))) (given_value a))
value_part h a = ap given_value (sym (value_code.rolls-Part h a)) ∙ fold-roll-ValueCode (Given Elem) (Given Bool) (Given Value) (Given Value) (Given (Elem × Value)) elem_layer truth_layer value_layer choice_layer entry_layer (ValueCode-F.«ValueCode::Part» h a)

pub value_set : (cs : List ElemCode) → given_value (value_code.Set cs) ≡ given_one (λ xs. value.Set (set_of xs)) (given_all (map given_elem cs))
value_set cs = ap given_value (sym (value_code.rolls-Set cs)) ∙ fold-roll-ValueCode (Given Elem) (Given Bool) (Given Value) (Given Value) (Given (Elem × Value)) elem_layer truth_layer value_layer choice_layer entry_layer (ValueCode-F.Set cs)

pub value_combine : (o : Combination) (a b : ValueCode) → given_value (value_code.Combine o a b) ≡ given_two (combined o) (asking (λ v. rises (elems_of v)) (given_value a)) (asking (λ v. rises (elems_of v)) (given_value b))
value_combine o a b = ap given_value (sym (value_code.rolls-Combine o a b)) ∙ fold-roll-ValueCode (Given Elem) (Given Bool) (Given Value) (Given Value) (Given (Elem × Value)) elem_layer truth_layer value_layer choice_layer entry_layer (ValueCode-F.Combine o a b)

pub value_without : (a : ValueCode) (b : ElemCode) → given_value (value_code.Without a b) ≡ given_two without (given_value a) (given_elem b)
value_without a b = ap given_value (sym (value_code.rolls-Without a b)) ∙ fold-roll-ValueCode (Given Elem) (Given Bool) (Given Value) (Given Value) (Given (Elem × Value)) elem_layer truth_layer value_layer choice_layer entry_layer (ValueCode-F.Without a b)

pub value_join : (l : AnyL) (a b : ValueCode) → given_value (value_code.Join l a b) ≡ given_two (joined_of (domain_of_any l)) (asking (fits (domain_of_any l)) (given_value a)) (asking (fits (domain_of_any l)) (given_value b))
value_join l a b = ap given_value (sym (value_code.rolls-Join l a b)) ∙ fold-roll-ValueCode (Given Elem) (Given Bool) (Given Value) (Given Value) (Given (Elem × Value)) elem_layer truth_layer value_layer choice_layer entry_layer (ValueCode-F.Join l a b)

pub value_if : (c : TruthCode) (a b : ValueCode) → given_value (value_code.If c a b) ≡ given_if (given_truth c) (given_value a) (given_value b)
value_if c a b = ap given_value (sym (value_code.rolls-If c a b)) ∙ fold-roll-ValueCode (Given Elem) (Given Bool) (Given Value) (Given Value) (Given (Elem × Value)) elem_layer truth_layer value_layer choice_layer entry_layer (ValueCode-F.«ValueCode::If» c a b)

pub value_choose : (c : Choice) → given_value (value_code.Choose c) ≡ given_chosen c
value_choose c = ap given_value (sym (value_code.rolls-Choose c)) ∙ fold-roll-ValueCode (Given Elem) (Given Bool) (Given Value) (Given Value) (Given (Elem × Value)) elem_layer truth_layer value_layer choice_layer entry_layer (ValueCode-F.Choose c)

pub value_bind : (a : ValueCode) (n : ℕ) (b : ValueCode) → given_value (value_code.Bind a n b) ≡ given_bind (given_value a) n (given_value b)
value_bind a n b = ap given_value (sym (value_code.rolls-Bind a n b)) ∙ fold-roll-ValueCode (Given Elem) (Given Bool) (Given Value) (Given Value) (Given (Elem × Value)) elem_layer truth_layer value_layer choice_layer entry_layer (ValueCode-F.Bind a n b)

pub value_look : (v : Value) (m : ValueCode) (k : ElemCode) → given_value (value_code.Look v m k) ≡ given_two (looked_up v) (given_value m) (given_elem k)
value_look v m k = ap given_value (sym (value_code.rolls-Look v m k)) ∙ fold-roll-ValueCode (Given Elem) (Given Bool) (Given Value) (Given Value) (Given (Elem × Value)) elem_layer truth_layer value_layer choice_layer entry_layer (ValueCode-F.Look v m k)

pub value_update : (l : AnyL) (m : ValueCode) (k : ElemCode) (v : ValueCode) → given_value (value_code.Update l m k v) ≡ given_two (updated_map (domain_of_any l)) (given_value m) (given_two (λ k v. (k, v)) (given_elem k) (asking (fits (domain_of_any l)) (given_value v)))
value_update l m k v = ap given_value (sym (value_code.rolls-Update l m k v)) ∙ fold-roll-ValueCode (Given Elem) (Given Bool) (Given Value) (Given Value) (Given (Elem × Value)) elem_layer truth_layer value_layer choice_layer entry_layer (ValueCode-F.Update l m k v)

pub value_map : (l : AnyL) (es : List EntryCode) → given_value (value_code.Map l es) ≡ given_one (made_map (domain_of_any l)) (asking (all_fit (domain_of_any l)) (given_all (map given_entry es)))
value_map l es = ap given_value (sym (value_code.rolls-Map l es)) ∙ fold-roll-ValueCode (Given Elem) (Given Bool) (Given Value) (Given Value) (Given (Elem × Value)) elem_layer truth_layer value_layer choice_layer entry_layer (ValueCode-F.Map l es)

pub elem_constant : (v : Elem) → given_elem (elem_code.Constant v) ≡ given_here v
elem_constant v = ap given_elem (sym (elem_code.rolls-Constant v)) ∙ fold-roll-ElemCode (Given Elem) (Given Bool) (Given Value) (Given Value) (Given (Elem × Value)) elem_layer truth_layer value_layer choice_layer entry_layer (ElemCode-F.«ElemCode::Constant» v)

pub elem_slot : (n : ℕ) → given_elem (elem_code.Slot n) ≡ record { sense = λ at. slot_of at n; demand = λ at. holds (is_there (at.elems n)) }
elem_slot n = ap given_elem (sym (elem_code.rolls-Slot n)) ∙ fold-roll-ElemCode (Given Elem) (Given Bool) (Given Value) (Given Value) (Given (Elem × Value)) elem_layer truth_layer value_layer choice_layer entry_layer (ElemCode-F.Slot n)

pub elem_pair : (a b : ElemCode) → given_elem (elem_code.Pair a b) ≡ given_two elem.Pair (given_elem a) (given_elem b)
elem_pair a b = ap given_elem (sym (elem_code.rolls-Pair a b)) ∙ fold-roll-ElemCode (Given Elem) (Given Bool) (Given Value) (Given Value) (Given (Elem × Value)) elem_layer truth_layer value_layer choice_layer entry_layer (ElemCode-F.«ElemCode::Pair» a b)

pub elem_part : (h : Half) (a : ElemCode) → given_elem (elem_code.Part h a) ≡ given_one (elem_half h) (asking (λ e. holds (is_elem_pair (out-Elem e))) (given_elem a))
elem_part h a = ap given_elem (sym (elem_code.rolls-Part h a)) ∙ fold-roll-ElemCode (Given Elem) (Given Bool) (Given Value) (Given Value) (Given (Elem × Value)) elem_layer truth_layer value_layer choice_layer entry_layer (ElemCode-F.«ElemCode::Part» h a)

pub elem_arith : (o : ArithOp) (a b : ElemCode) → given_elem (elem_code.Arith o a b) ≡ given_two (λ x y. elem.Int (arith_value o (int_in (out-Elem x)) (int_in (out-Elem y)))) (given_elem a) (given_elem b)
elem_arith o a b = ap given_elem (sym (elem_code.rolls-Arith o a b)) ∙ fold-roll-ElemCode (Given Elem) (Given Bool) (Given Value) (Given Value) (Given (Elem × Value)) elem_layer truth_layer value_layer choice_layer entry_layer (ElemCode-F.Arith o a b)

pub elem_negated : (a : ElemCode) → given_elem (elem_code.Negated a) ≡ given_one (λ x. elem.Int (int_wrapping_neg w64 (int_in (out-Elem x)))) (given_elem a)
elem_negated a = ap given_elem (sym (elem_code.rolls-Negated a)) ∙ fold-roll-ElemCode (Given Elem) (Given Bool) (Given Value) (Given Value) (Given (Elem × Value)) elem_layer truth_layer value_layer choice_layer entry_layer (ElemCode-F.Negated a)

pub elem_if : (c : TruthCode) (a b : ElemCode) → given_elem (elem_code.If c a b) ≡ given_if (given_truth c) (given_elem a) (given_elem b)
elem_if c a b = ap given_elem (sym (elem_code.rolls-If c a b)) ∙ fold-roll-ElemCode (Given Elem) (Given Bool) (Given Value) (Given Value) (Given (Elem × Value)) elem_layer truth_layer value_layer choice_layer entry_layer (ElemCode-F.«ElemCode::If» c a b)

pub truth_constant : (b : Bool) → given_truth (truth_code.Constant b) ≡ given_here b
truth_constant b = ap given_truth (sym (truth_code.rolls-Constant b)) ∙ fold-roll-TruthCode (Given Elem) (Given Bool) (Given Value) (Given Value) (Given (Elem × Value)) elem_layer truth_layer value_layer choice_layer entry_layer (TruthCode-F.«TruthCode::Constant» b)

pub truth_compare : (o : CompareOp) (a b : ElemCode) → given_truth (truth_code.Compare o a b) ≡ given_two (compared o) (given_elem a) (given_elem b)
truth_compare o a b = ap given_truth (sym (truth_code.rolls-Compare o a b)) ∙ fold-roll-TruthCode (Given Elem) (Given Bool) (Given Value) (Given Value) (Given (Elem × Value)) elem_layer truth_layer value_layer choice_layer entry_layer (TruthCode-F.Compare o a b)

pub truth_member : (a : ElemCode) (b : ValueCode) → given_truth (truth_code.Member a b) ≡ given_two (λ x v. is_member x (out-Value v)) (given_elem a) (asking (λ v. rises (elems_of v)) (given_value b))
truth_member a b = ap given_truth (sym (truth_code.rolls-Member a b)) ∙ fold-roll-TruthCode (Given Elem) (Given Bool) (Given Value) (Given Value) (Given (Elem × Value)) elem_layer truth_layer value_layer choice_layer entry_layer (TruthCode-F.Member a b)

pub truth_and : (a b : TruthCode) → given_truth (truth_code.And a b) ≡ given_two (λ x y. x && y) (given_truth a) (given_truth b)
truth_and a b = ap given_truth (sym (truth_code.rolls-And a b)) ∙ fold-roll-TruthCode (Given Elem) (Given Bool) (Given Value) (Given Value) (Given (Elem × Value)) elem_layer truth_layer value_layer choice_layer entry_layer (TruthCode-F.And a b)

pub truth_or : (a b : TruthCode) → given_truth (truth_code.Or a b) ≡ given_two (λ x y. x || y) (given_truth a) (given_truth b)
truth_or a b = ap given_truth (sym (truth_code.rolls-Or a b)) ∙ fold-roll-TruthCode (Given Elem) (Given Bool) (Given Value) (Given Value) (Given (Elem × Value)) elem_layer truth_layer value_layer choice_layer entry_layer (TruthCode-F.Or a b)

pub truth_not : (a : TruthCode) → given_truth (truth_code.Not a) ≡ given_one not (given_truth a)
truth_not a = ap given_truth (sym (truth_code.rolls-Not a)) ∙ fold-roll-TruthCode (Given Elem) (Given Bool) (Given Value) (Given Value) (Given (Elem × Value)) elem_layer truth_layer value_layer choice_layer entry_layer (TruthCode-F.Not a)

pub truth_if : (c : TruthCode) (a b : TruthCode) → given_truth (truth_code.If c a b) ≡ given_if (given_truth c) (given_truth a) (given_truth b)
truth_if c a b = ap given_truth (sym (truth_code.rolls-If c a b)) ∙ fold-roll-TruthCode (Given Elem) (Given Bool) (Given Value) (Given Value) (Given (Elem × Value)) elem_layer truth_layer value_layer choice_layer entry_layer (TruthCode-F.«TruthCode::If» c a b)
