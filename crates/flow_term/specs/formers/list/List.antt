-- A `List` splits into its length and its items, as the `Vec` that it keeps does. The compiler reads `the_former`, `the_weighed`, `the_empty`,
-- `the_items`, `the_items_listed`, `the_places` and `the_codes_placed` by these names.
use mathlib.Core.Path.{◌≡◌, refl, sym}
use mathlib.Core.List.{List as Sequence, []}
use mathlib.Core.Former.{Former, this, list, via, children}
use base.Stored.{code_map}
use denote.RattleType.{RattleType}
use denote.HoleLaws.{Alike}
use denote.HolePlaces.{Recodes, struct_places, laid}
use denote.Hole.Carrier.{listed, list-listed}
use denote.Hole.Fix.{over}
use denote.Param.Weighed.{Weighed, w_list}
use denote.Model.Placed.{view_places}
use Rattle.std.specs.formers.vec.Vec as kept
use Rattle.std.specs.declared.alloc.Global.{Global}
use Rattle.std.specs.contracts.alloc.Global as allocator
use Rattle.std.specs.contracts.impls.GlobalAllocator.TheImpl.{ghosts}
use Rattle.flow_term.specs.declared.list.List.TheInside.{Inside}
use Rattle.flow_term.specs.declared.list.List.TheView.{view, invariant}
use Rattle.flow_term.specs.contracts.list.List as outside
use Rattle.flow_term.specs.contracts.list.List.TheInside as inside

abbrev pub the_former : Former {0} → Former {0}
the_former item = list item

abbrev pub the_weighed : {item : Former {0}} → Weighed item → Weighed (the_former item)
the_weighed weighed = w_list weighed

-- a list may hold nothing
pub the_empty : Sequence ⊥
the_empty = []

abbrev pub the_items : (X : Type 0) → Sequence X → Sequence X
the_items X xs = xs

pub the_items_listed : (X : Type 0) (xs : Sequence X) → listed _ (children (the_former this) X xs) ≡ the_items X xs
the_items_listed = list-listed

-- the one field
abbrev field : Former {0}
field = via (kept.the_former this Global) Inside (λ X inner. inner.items) (λ X vec. record { items = vec }) (λ X inner. refl) (λ X vec. refl)

module _ (From To : RattleType) (f : From.Denot → To.Denot) where
  pub the_places : Alike From To f → Alike (outside.the_row From) (outside.the_row To) ((the_former this).map From.Denot To.Denot f)
  the_places alike =
      view_places field (list this) view (λ X Y k u. refl) (λ X u. refl) From.Denot To.Denot f
      (outside.the_row From).coded (outside.the_row To).coded (invariant From.Denot) (invariant To.Denot)
      (λ u p q. refl) (λ u p q. refl) (λ u e. tt) (λ u e. tt) (over (inside.the_row From)) (over (inside.the_row To))
      (struct_places (inside.the_type From) (inside.the_type To) (kept.mapped f, tt) _ (λ d. refl) refl
      (laid _ _ _ (kept.the_places allocator.the_row ghosts From To f alike), tt))

  pub the_codes_placed : Recodes From To f → Recodes (outside.the_row From) (outside.the_row To) ((the_former this).map From.Denot To.Denot f)
  the_codes_placed same xs = sym (code_map From.coded.code To.coded.code f (λ x. sym (same x)) xs)
