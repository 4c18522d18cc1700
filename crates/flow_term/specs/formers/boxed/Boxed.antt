-- A `Boxed` splits into its one value and the place where that lies.
use mathlib.Core.Path.{refl}
use mathlib.Core.Former.{Former, this, const, pair, via}
use base.Stored.{gnil}
use base.Fml.{ftrue}
use denote.RattleType.{RattleType}
use denote.Memory.{part_of}
use denote.RawPtr.{Ptr}
use denote.Sharing.{nothing}
use denote.HoleLaws.{Alike}
use denote.HolePlaces.{Recodes, struct_places, laid, one_value}
use denote.Hole.Fix.{over}
use denote.Param.Weighed.{Weighed}
use denote.Model.Placed.{view_places}
use Rattle.std.specs.declared.boxed.Box.{Box}
use Rattle.std.specs.contracts.boxed.Box as kept
use Rattle.std.specs.declared.alloc.Global.{Global}
use Rattle.std.specs.contracts.alloc.Global as allocator
use Rattle.std.specs.contracts.impls.GlobalAllocator.TheImpl.{ghosts}
use Rattle.flow_term.specs.declared.boxed.Boxed.TheInside.{Inside}
use Rattle.flow_term.specs.declared.boxed.Boxed.TheView.{view, invariant}
use Rattle.flow_term.specs.contracts.boxed.Boxed as outside
use Rattle.flow_term.specs.contracts.boxed.Boxed.TheInside as inside

abbrev pub the_former : Former {0} → Former {0}
the_former value = value

abbrev pub the_weighed : {value : Former {0}} → Weighed value → Weighed (the_former value)
the_weighed weighed = weighed

-- where the value lies, and the value
abbrev field : Former {0}
field = via (pair (const (Ptr × Global)) this) Inside
    (λ X b. ((b.inner.ptr, b.inner.alloc), b.inner.value))
    (λ X placed. record { inner = record { ptr = placed.0.0; alloc = placed.0.1; value = placed.1 } })
    (λ X b. refl) (λ X placed. refl)

-- the same box around another value
abbrev holding : {X Y : Type 0} → Box X Global → Y → Box Y Global
holding b value = record { ptr = b.ptr; alloc = b.alloc; value = value }

abbrev box_row : RattleType → RattleType
box_row T = kept.the_row T allocator.the_row ghosts

module _ (From To : RattleType) (f : From.Denot → To.Denot) where
  box_places : Alike From To f → Alike (box_row From) (box_row To) (λ b. holding b (f b.value))
  unfolding part_of
  box_places alike = record {
    mir_same = λ i. (box_row (one_value From (alike.mir_same i) (λ _. ftrue) (λ _ _. nothing) gnil)).mir;
    own_same = λ b i. (box_row (one_value From (alike.mir_same i) (alike.own_same b.value i) (alike.shr_same b.value i) gnil)).own_val (holding b tt);
    shr_same = λ b i. (box_row (one_value From (alike.mir_same i) (alike.own_same b.value i) (alike.shr_same b.value i) gnil)).shr_at (holding b tt);
  }

  pub the_places : Alike From To f → Alike (outside.the_row From) (outside.the_row To) ((the_former this).map From.Denot To.Denot f)
  the_places alike =
      view_places field this view (λ X Y k u. refl) (λ X u. refl) From.Denot To.Denot f
      (outside.the_row From).coded (outside.the_row To).coded (invariant From.Denot) (invariant To.Denot)
      (λ u p q. refl) (λ u p q. refl) (λ u e. tt) (λ u e. tt) (over (inside.the_row From)) (over (inside.the_row To))
      (struct_places (inside.the_type From) (inside.the_type To) ((λ b. holding b (f b.value)), tt) _ (λ d. refl) refl
      (laid _ _ _ (box_places alike), tt))

  pub the_codes_placed : Recodes From To f → Recodes (outside.the_row From) (outside.the_row To) ((the_former this).map From.Denot To.Denot f)
  the_codes_placed same value = same value
