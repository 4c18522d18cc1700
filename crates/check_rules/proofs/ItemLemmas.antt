-- Items that name wrong variables, and items that name an argument in two ways.
use Rattle.std.proofs.Common.{IsTrue, ◌≡◌, ℕ, ◌+◌, ◌<◌, nat_lt, Bool, true, false, not, List, take, Option, Some, None, is_some, bytes_eq, refl, sym, ap, subst, ◌∙◌, inl, inr, true≢false, arith}
use Rattle.std.specs.Prelude.{◌⊎◌, ◌&&◌, IsSome, slice_get}
use Rattle.std.specs.List.{list_any}
use Rattle.std.specs.Option.{option_map}
use Rattle.std.proofs.lemmas.Bool.{and_parts, and_from, or_cases, or_left, or_right, lt-ltb}
use Rattle.std.proofs.lemmas.Bool.Decides.{nat_tests}
use Rattle.std.proofs.lemmas.Option.{same_Some}
use Rattle.std.proofs.lemmas.Slice.Eq.{bytes_eq-Decides}
use Rattle.check_base.specs.Earliest.{Either, Gathers, IsFault, SomeHas, IsFaultWhere}
use Rattle.check_base.proofs.GathersLaws.{Found, Gathers-same}
use Rattle.flow_syntax.specs.declared.fault.SpecFaultKind.{SpecFaultKind}
use Rattle.flow_syntax.specs.declared.fault.SpecFaultKind.TheVariants as kinds
use Rattle.flow_syntax.specs.declared.rule.FlowRule.{FlowRule}
use Rattle.flow_syntax.specs.declared.rule.Item.{Item}
use Rattle.flow_syntax.specs.declared.rule.ItemKind.{ItemKind}
use Rattle.flow_syntax.specs.declared.rule.ItemKind.TheVariants as item
use Rattle.flow_syntax.specs.Binders.{Bound}
use Rattle.flow_syntax.specs.Control.{argument, is_variable_in}
use Rattle.check_rules.specs.inner.Items.{is_misplaced, is_single, is_whole}
use Rattle.flow_syntax.specs.RuleFaults.{AreMixed, IsMisplaced, arguments, items_of}
use Rattle.flow_syntax.specs.Matching.{pattern_layer}
use Rattle.flow_syntax.specs.RuleFaults.{IsMisnamedItem, head_variable, is_direct, named_by}
use Rattle.flow_syntax.specs.Types.{Sort, enum_sort, int_sort, name_sort, pair_sort, pos_sort, str_sort}
use Rattle.flow_syntax.proofs.Listed.{any_at, at_any}
use Rattle.check_rules.specs.declared.head.Head.{Head}
use Rattle.check_rules.specs.Faults.{IsMisnamed, IsMisnamedBy, IsMixedItem, IsMixedWith, MisnamedAs}
use Rattle.check_rules.specs.inner.Tables.{IsHeadOf, has_name, is_mixed_with, is_position}
use Rattle.check_base.proofs.Firsts.{among_first, first_among}
use Rattle.check_base.specs.Tables.{value_in}
use Rattle.check_base.proofs.TableLemmas.{is_some-position_from}

-- NAMES

-- what is noted of a variable that the head has
pub some_misnamed : (o : Option Bool) (b d e : Bool) (at : ℕ) {old new : Found} → o ≡ Some b → d ≡ e → Gathers old new (Either (IsFaultWhere (IsTrue (not b)) at kinds.Sort) (IsFaultWhere (IsTrue (not d)) at kinds.Nested)) → Gathers old new (MisnamedAs o e at)
some_misnamed o b d e at {old} {new} is same g =
    subst (λ (p : Option Bool). Gathers old new (MisnamedAs p e at)) (sym is) (subst (λ (c : Bool). Gathers old new (Either (IsFaultWhere (IsTrue (not b)) at kinds.Sort) (IsFaultWhere (IsTrue (not c)) at kinds.Nested))) same g)

not_true : (b : Bool) → not b ≡ true → b ≡ false
not_true true h = sym h
not_true false h = refl

not_false : (b : Bool) → b ≡ false → not b ≡ true
not_false true h = sym h
not_false false h = refl

other_sort : (s : Sort) → not (is_position s) ≡ true → ¬ (s ≡ pos_sort)
other_sort s h e = true≢false (sym h ∙ ap (λ t. not (is_position t)) e)

not_position : (s : Sort) → ¬ (s ≡ pos_sort) → not (is_position s) ≡ true
not_position name_sort h = refl
not_position pos_sort h = absurd (h refl)
not_position str_sort h = refl
not_position int_sort h = refl
not_position (enum_sort x) h = refl
not_position (pair_sort a b) h = refl

module _ (rule : FlowRule) (x : List ℕ) (at place : ℕ) (kind : SpecFaultKind) where
  misnamed : (o : Option Bound) → MisnamedAs (option_map (λ b. is_position b.sort) o) (is_direct rule x) at place kind → IsMisnamedItem rule x o kind × (place ≡ at)
  misnamed None h = (subst (IsMisnamedItem rule x None) (sym h.1) tt, h.0)
  misnamed (Some b) (inl h) = (subst (IsMisnamedItem rule x (Some b)) (sym h.2) (other_sort b.sort h.0), h.1)
  misnamed (Some b) (inr h) = (subst (IsMisnamedItem rule x (Some b)) (sym h.2) (not_true (is_direct rule x) h.0), h.1)

misnamed_by : (rule : FlowRule) (x : List ℕ) (at place : ℕ) (o : Option Bound) (kind : SpecFaultKind) → place ≡ at → IsMisnamedItem rule x o kind → MisnamedAs (option_map (λ b. is_position b.sort) o) (is_direct rule x) at place kind
misnamed_by rule x at place None kinds.Unbound e h = (e, refl)
misnamed_by rule x at place None _ e h = absurd h
misnamed_by rule x at place (Some b) kinds.Sort e h = inl (not_position b.sort h, e, refl)
misnamed_by rule x at place (Some b) kinds.Nested e h = inr (not_false (is_direct rule x) h, e, refl)
misnamed_by rule x at place (Some b) _ e h = absurd h

module _ (rule : FlowRule) (head : Head) (it : Item) (right : IsHeadOf rule head) {old new : Found} where
  -- an item that names this variable
  pub names_variable : (x : List ℕ) → named_by it.kind ≡ Some x → Gathers old new (IsMisnamedBy head x it.place) → Gathers old new (IsMisnamed rule it)
  names_variable x names g = Gathers-same g (λ place kind. (forth place kind, back place kind))
    where
      seen : MisnamedAs (value_in head.variables x) (has_name head.direct x) it.place ≡ MisnamedAs (option_map (λ b. is_position b.sort) (head_variable rule x)) (is_direct rule x) it.place
      seen = ap (λ o. MisnamedAs o (has_name head.direct x) it.place) (right.variables x) ∙ ap (λ d. MisnamedAs (option_map (λ b. is_position b.sort) (head_variable rule x)) d it.place) (right.direct x)

      forth : (place : ℕ) (kind : SpecFaultKind) → IsMisnamedBy head x it.place place kind → IsMisnamed rule it place kind
      forth place kind h =
          let m = misnamed rule x it.place place kind (head_variable rule x) (subst (λ (F : ℕ → SpecFaultKind → Type 0). F place kind) seen h) in
          record { x = x; names = names; misnamed = m.0; stands = m.1 }

      back : (place : ℕ) (kind : SpecFaultKind) → IsMisnamed rule it place kind → IsMisnamedBy head x it.place place kind
      back place kind h =
          let same : h.x ≡ x = same_Some h.x x (sym h.names ∙ names) in
          subst (λ (F : ℕ → SpecFaultKind → Type 0). F place kind) (sym seen)
          (misnamed_by rule x it.place place (head_variable rule x) kind h.stands (subst (λ (y : List ℕ). IsMisnamedItem rule y (head_variable rule y) kind) same h.misnamed))

named_whole : (it : Item) (x : List ℕ) → (it.kind ≡ item.Whole x) ⊎ (it.kind ≡ item.Single x) → named_by it.kind ≡ Some x
named_whole it x (inl e) = ap named_by e
named_whole it x (inr e) = ap named_by e

pub gathers_named : (rule : FlowRule) (head : Head) (it : Item) (x : List ℕ) {old new : Found} → IsHeadOf rule head → (it.kind ≡ item.Whole x) ⊎ (it.kind ≡ item.Single x) → Gathers old new (IsMisnamedBy head x it.place) → Gathers old new (IsMisnamed rule it)
gathers_named rule head it x right e g = names_variable rule head it right x (named_whole it x e) g

-- MIXED ITEMS

-- what items named so far decides
pub mixed_same : (is_argument w v s r : List ℕ → Bool) (kind : ItemKind) → ((x : List ℕ) → w x ≡ v x) → ((x : List ℕ) → s x ≡ r x) → is_mixed_with is_argument w s kind ≡ is_mixed_with is_argument v r kind
mixed_same is_argument w v s r (item.Whole x) e f = ap (λ b. is_argument x && b) (f x)
mixed_same is_argument w v s r (item.Single x) e f = ap (λ b. is_argument x && b) (e x)
mixed_same is_argument w v s r item.Entry e f = refl
mixed_same is_argument w v s r item.Exit e f = refl
mixed_same is_argument w v s r item.Start e f = refl
mixed_same is_argument w v s r item.End e f = refl
mixed_same is_argument w v s r item.This e f = refl

same_text : (x y : List ℕ) → bytes_eq x y ≡ true → x ≡ y
same_text x y h = (bytes_eq-Decides x y).0 h

text_same : (x : List ℕ) → bytes_eq x x ≡ true
text_same x = (bytes_eq-Decides x x).1 refl

whole_is : (x : List ℕ) (kind : ItemKind) → is_whole x kind ≡ true → kind ≡ item.Whole x
whole_is x (item.Whole y) h = ap item.Whole (sym (same_text x y h))
whole_is x _ h = cc

single_is : (x : List ℕ) (kind : ItemKind) → is_single x kind ≡ true → kind ≡ item.Single x
single_is x (item.Single y) h = ap item.Single (sym (same_text x y h))
single_is x _ h = cc

module _ (rule : FlowRule) (head : Head) (right : IsHeadOf rule head) where
  argument_is : (x : List ℕ) → has_name head.arguments x ≡ is_some (argument rule x)
  argument_is x = right.arguments x ∙ sym (is_some-position_from (λ p. is_variable_in x (pattern_layer p)) 0 (arguments rule))

  -- an item that names an argument x in another way than one of those before it
  found_after : (place : ℕ) (kind : SpecFaultKind) (k : ℕ) (b : Item) (x : List ℕ) (names : ItemKind → Bool) → slice_get (items_of rule) k ≡ Some b
      → (has_name head.arguments x && list_any (λ i. names i.kind) (take k (items_of rule))) ≡ true → ((a : Item) → names a.kind ≡ true → AreMixed a.kind b.kind x) → IsFault b.place kinds.MixedItem place kind → IsMixedItem rule place kind
  found_after place kind k b x names at h mixes stands =
      let both = and_parts (has_name head.arguments x) (list_any (λ i. names i.kind) (take k (items_of rule))) h in
      let a = any_at (λ i. names i.kind) (take k (items_of rule)) both.1 in
      let before = among_first (items_of rule) k a.0 a.1 a.2 in
      record {
        earlier = a.0;
        later = k;
        a = a.1;
        b = b;
        x = x;
        first = before.1;
        second = at;
        before = before.0;
        is_argument = sym (argument_is x) ∙ both.0;
        mixed = mixes a.1 a.3;
        stands = stands;
      }

  found : (place : ℕ) (kind : SpecFaultKind) (k : ℕ) (b : Item) (form : ItemKind) → b.kind ≡ form → slice_get (items_of rule) k ≡ Some b
      → is_mixed_with (has_name head.arguments) (λ x. list_any (λ i. is_whole x i.kind) (take k (items_of rule))) (λ x. list_any (λ i. is_single x i.kind) (take k (items_of rule))) form ≡ true
      → IsFault b.place kinds.MixedItem place kind → IsMixedItem rule place kind
  found place kind k b (item.Whole x) e at h stands = found_after place kind k b x (is_single x) at h (λ a is. inr (single_is x a.kind is, e)) stands
  found place kind k b (item.Single x) e at h stands = found_after place kind k b x (is_whole x) at h (λ a is. inl (whole_is x a.kind is, e)) stands
  found place kind k b item.Entry e at h stands = cc
  found place kind k b item.Exit e at h stands = cc
  found place kind k b item.Start e at h stands = cc
  found place kind k b item.End e at h stands = cc
  found place kind k b item.This e at h stands = cc

  passes : (j k : ℕ) (a b : Item) (x : List ℕ) → slice_get (items_of rule) j ≡ Some a → j < k → IsSome (argument rule x) → AreMixed a.kind b.kind x
      → is_mixed_with (has_name head.arguments) (λ y. list_any (λ i. is_whole y i.kind) (take k (items_of rule))) (λ y. list_any (λ i. is_single y i.kind) (take k (items_of rule))) b.kind ≡ true
  passes j k a b x at before is_argument (inl m) =
      subst (λ (form : ItemKind). is_mixed_with (has_name head.arguments) (λ y. list_any (λ i. is_whole y i.kind) (take k (items_of rule))) (λ y. list_any (λ i. is_single y i.kind) (take k (items_of rule))) form ≡ true) (sym m.1)
      (and_from (has_name head.arguments x) (list_any (λ i. is_whole x i.kind) (take k (items_of rule))) (argument_is x ∙ is_argument)
      (at_any (λ i. is_whole x i.kind) (take k (items_of rule)) j a (first_among (items_of rule) k j a before at) (ap (is_whole x) m.0 ∙ text_same x)))
  passes j k a b x at before is_argument (inr m) =
      subst (λ (form : ItemKind). is_mixed_with (has_name head.arguments) (λ y. list_any (λ i. is_whole y i.kind) (take k (items_of rule))) (λ y. list_any (λ i. is_single y i.kind) (take k (items_of rule))) form ≡ true) (sym m.1)
      (and_from (has_name head.arguments x) (list_any (λ i. is_single x i.kind) (take k (items_of rule))) (argument_is x ∙ is_argument)
      (at_any (λ i. is_single x i.kind) (take k (items_of rule)) j a (first_among (items_of rule) k j a before at) (ap (is_single x) m.0 ∙ text_same x)))

  pub gathers_mixed : (its : List Item) {old new : Found} → its ≡ items_of rule → Gathers old new (SomeHas (IsMixedWith head.arguments its) its) → Gathers old new (IsMixedItem rule)
  gathers_mixed its {old} {new} same g =
      Gathers-same (subst (λ (xs : List Item). Gathers old new (SomeHas (IsMixedWith head.arguments xs) xs)) same g) (λ place kind. (
        λ h. found place kind h.at h.item h.item.kind refl h.is h.has.0 (h.has.1, h.has.2),
        λ h. record { at = h.later; item = h.b; is = h.second; has = (passes h.earlier h.later h.a h.b h.x h.first h.before h.is_argument h.mixed, h.stands.0, h.stands.1) },
      ))

-- ENDS

pub misplaced_is : (root : Bool) (count at : ℕ) (kind : ItemKind) → is_misplaced root count at kind ≡ true → IsMisplaced root count at kind
misplaced_is root count at item.Entry h = elim (or_cases root (nat_lt 0 at) h) [ inl a ↦ inl a | inr b ↦ inr (grind (arith, nat_tests)) ]
misplaced_is root count at item.Exit h = elim (or_cases root (nat_lt (at + 1) count) h) [ inl a ↦ inl a | inr b ↦ inr (grind (arith, nat_tests)) ]
misplaced_is root count at item.Start h = elim (or_cases (not root) (nat_lt 0 at) h) [ inl a ↦ inl a | inr b ↦ inr (grind (arith, nat_tests)) ]
misplaced_is root count at item.End h = elim (or_cases (not root) (nat_lt (at + 1) count) h) [ inl a ↦ inl a | inr b ↦ inr (grind (arith, nat_tests)) ]
misplaced_is root count at _ h = cc

pub is_misplaced_at : (root : Bool) (count at : ℕ) (kind : ItemKind) → IsMisplaced root count at kind → is_misplaced root count at kind ≡ true
is_misplaced_at root count at item.Entry (inl a) = or_left root (nat_lt 0 at) a
is_misplaced_at root count at item.Entry (inr b) = or_right root (nat_lt 0 at) (lt-ltb 0 at b)
is_misplaced_at root count at item.Exit (inl a) = or_left root (nat_lt (at + 1) count) a
is_misplaced_at root count at item.Exit (inr b) = or_right root (nat_lt (at + 1) count) (lt-ltb (at + 1) count b)
is_misplaced_at root count at item.Start (inl a) = or_left (not root) (nat_lt 0 at) a
is_misplaced_at root count at item.Start (inr b) = or_right (not root) (nat_lt 0 at) (lt-ltb 0 at b)
is_misplaced_at root count at item.End (inl a) = or_left (not root) (nat_lt (at + 1) count) a
is_misplaced_at root count at item.End (inr b) = or_right (not root) (nat_lt (at + 1) count) (lt-ltb (at + 1) count b)
is_misplaced_at root count at _ h = absurd h
