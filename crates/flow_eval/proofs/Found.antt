-- The first lattice of a name, by its number.
use Rattle.std.proofs.Common.{◌≡◌, ℕ, ◌+◌, ◌<◌, Bool, true, false, cond, List, ◌∷◌, length, drop, get_or, find, bytes_eq, Option, Some, None, add-one, refl, sym, ap, ◌∙◌, drop-cons}
use Rattle.std.specs.Prelude.{slice_get}
use Rattle.std.proofs.lemmas.Option.{slice_get-get_or}
use Rattle.std.proofs.lemmas.Slice.Eq.{bytes_eq-Decides}
use Rattle.flow_syntax.specs.declared.tables.TableDecl.{TableDecl}
use Rattle.value_domains.specs.Domains.{table_named, table_of}
use Rattle.table_laws.specs.JoinTables.{numbered}
use Rattle.lattice_tables.specs.declared.lattice.TableL.{TableL}
use Rattle.lattice_tables.specs.Tables.{IsBuiltFrom, join_table}
use Rattle.flow_eval.proofs.Zips.{zip_at}
use Rattle.flow_eval.specs.inner.Built.{AreLatticesOf, IsKnown}

abbrev Has : List ℕ → TableDecl → Bool
Has x d = bytes_eq x d.name.text

opened : (ds : List TableDecl) (i : ℕ) (d : TableDecl) → i < length ds → d ≡ get_or ds i d → drop i ds ≡ d ∷ drop (i + 1) ds
opened ds i d within is = drop-cons ds i d within ∙ (λ j. sym is j ∷ drop (sym (add-one i) j) ds)

pub found_here : (ds : List TableDecl) (x : List ℕ) (i : ℕ) (d : TableDecl) → i < length ds → d ≡ get_or ds i d → find (Has x) ds ≡ find (Has x) (drop i ds) → d.name.text ≡ x → slice_get ds i ≡ find (Has x) ds
found_here ds x i d within is so_far same =
    slice_get-get_or ds i d within ∙ ap Some (sym is)
    ∙ sym (so_far ∙ ap (find (Has x)) (opened ds i d within is) ∙ ap (λ b. cond b (Some d) (find (Has x) (drop (i + 1) ds))) ((bytes_eq-Decides x d.name.text).1 (sym same)))

pub passed_here : (ds : List TableDecl) (x : List ℕ) (i : ℕ) (d : TableDecl) → i < length ds → d ≡ get_or ds i d → find (Has x) ds ≡ find (Has x) (drop i ds) → (d.name.text ≡ x → ⊥)
    → find (Has x) ds ≡ find (Has x) (drop (i + 1) ds)
passed_here ds x i d within is so_far other = so_far ∙ ap (find (Has x)) (opened ds i d within is) ∙ by (bytes_eq x d.name.text) refl
  where
    by : (b : Bool) → bytes_eq x d.name.text ≡ b → cond b (Some d) (find (Has x) (drop (i + 1) ds)) ≡ find (Has x) (drop (i + 1) ds)
    by true h = absurd (other (sym ((bytes_eq-Decides x d.name.text).0 h)))
    by false h = refl

-- the lattice of a declared name, among those of the declarations
pub lattice_found : (ds : List TableDecl) (ls : List TableL) (x : List ℕ) (n : ℕ) → AreLatticesOf ds ls → IsKnown ds x → slice_get ds n ≡ find (Has x) ds
    → (t : TableL) × (slice_get ls n ≡ Some t) × (join_table t ≡ numbered (table_named ds x))
lattice_found ds ls x n are known at = by (find (Has x) ds) refl
  where
    by : (o : Option TableDecl) → find (Has x) ds ≡ o → (t : TableL) × (slice_get ls n ≡ Some t) × (join_table t ≡ numbered (table_of o))
    by None e = absurd (known e)
    by (Some d) e = zip_at IsBuiltFrom ds ls n d are (at ∙ e)

-- the declaration of a declared name
pub declaration_found : (ds : List TableDecl) (x : List ℕ) (n : ℕ) → IsKnown ds x → slice_get ds n ≡ find (Has x) ds → (d : TableDecl) × (slice_get ds n ≡ Some d) × (find (Has x) ds ≡ Some d)
declaration_found ds x n known at = by (find (Has x) ds) refl
  where
    by : (o : Option TableDecl) → find (Has x) ds ≡ o → (d : TableDecl) × (slice_get ds n ≡ Some d) × (o ≡ Some d)
    by None e = absurd (known e)
    by (Some d) e = (d, at ∙ e, refl)
