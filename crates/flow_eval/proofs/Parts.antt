-- From what is made of the declarations to what is accepted.
use Rattle.std.proofs.Common.{◌≡◌, ℕ, ◌<◌, List, length, take, get_or, Some, refl, sym, ap, ◌∙◌, subst, inl, inr}
use Rattle.std.specs.Prelude.{◌⊎◌, Contains, slice_get}
use Rattle.std.proofs.lemmas.Option.{slice_get-get_or}
use Rattle.flow_syntax.specs.declared.spec.Spec.{Spec}
use Rattle.flow_syntax.specs.declared.spec.TypedSpec.{TypedSpec}
use Rattle.flow_syntax.specs.declared.tables.FunctionDecl.{FunctionDecl}
use Rattle.flow_syntax.specs.declared.tables.TableDecl.{TableDecl}
use Rattle.flow_syntax.specs.Accepted.{HasSmallFunctions}
use Rattle.flow_syntax.specs.Faults.{HasNoFault}
use Rattle.flow_syntax.proofs.Listed.{at_in, in_at}
use Rattle.table_laws.specs.declared.fault.LawFault.{LawFault}
use Rattle.table_laws.specs.FunctionTables.{Arguments, IsFirstDisorder}
use Rattle.table_laws.specs.FunctionTables as numbers
use Rattle.table_laws.specs.JoinTables.{IsFirstFault, IsLawful}
use Rattle.lattice_tables.specs.declared.function.TableFn.{TableFn}
use Rattle.lattice_tables.specs.declared.lattice.TableL.{TableL}
use Rattle.lattice_tables.specs.declared.refusal.FunctionRefusal.{FunctionRefusal}
use Rattle.lattice_tables.specs.declared.refusal.FunctionRefusal.TheVariants as functions
use Rattle.lattice_tables.specs.declared.refusal.TableRefusal.{TableRefusal}
use Rattle.lattice_tables.specs.declared.refusal.TableRefusal.TheVariants as tables
use Rattle.lattice_tables.specs.Functions.{IsFunctionRefusal, IsMadeOf}
use Rattle.lattice_tables.specs.Tables.{IsBuiltFrom, IsRefusal, declared_numbers}
use Rattle.function_laws.specs.Laws.{numbered_function}
use Rattle.flow_modes.specs.declared.check.ModeFault.{ModeFault}
use Rattle.flow_modes.specs.Modes.{first_mode_fault}
use Rattle.flow_eval.proofs.Causes.{accepted_or_refused, lawful_by_names, monotone_by_names, one_cause}
use Rattle.flow_eval.proofs.Zips.{taken, zip_at}
use Rattle.flow_eval.specs.Accepted.{HasLawfulLattices, HasMonotoneFunctions, IsAccepted, IsFirstDisordered, IsFirstUnlawful, IsRefusedFor}
use Rattle.flow_eval.specs.Tables.{AreFunctionsOf, types_in}
use Rattle.flow_eval.specs.inner.Built.{AreLatticesOf, IsDisorderRefusal, IsLatticeRefusal, IsRefusalOf, refused_function, refused_lattice}
use Rattle.flow_eval.specs.declared.refusal.PrepareRefusal.{PrepareRefusal}
use Rattle.flow_eval.specs.declared.refusal.PrepareRefusal.TheVariants.{Law, NotMonotone, Mode, NoMemory}

-- the item at a place of an equal list
item_at : {X : Type 0} (xs ys : List X) (k : ℕ) (x : X) → xs ≡ ys → k < length xs → x ≡ get_or xs k x → slice_get ys k ≡ Some x
item_at xs ys k x same within is = ap (λ zs. slice_get zs k) (sym same) ∙ slice_get-get_or xs k x within ∙ ap Some (sym is)

-- lattices that were made are lawful
built_lawful : (ds : List TableDecl) (ls : List TableL) → AreLatticesOf ds ls → (k : ℕ) (l : TableDecl) → slice_get ds k ≡ Some l → IsLawful (declared_numbers l)
built_lawful ds ls are k l e = let t = zip_at IsBuiltFrom ds ls k l are e in subst IsLawful t.2 t.0.lawful

pub all_lawful : (ds : List TableDecl) (ls : List TableL) → AreLatticesOf ds ls → (l : TableDecl) → Contains ds l → IsLawful (declared_numbers l)
all_lawful ds ls are l among = let k = in_at ds l among in built_lawful ds ls are k.0 l k.1

made_monotone : (spec : Spec) (fs : List FunctionDecl) (made : List TableFn) → AreFunctionsOf spec fs made → (k : ℕ) (f : FunctionDecl) → slice_get fs k ≡ Some f → numbers.IsMonotone (numbered_function spec f)
made_monotone spec fs made are k f e = (zip_at (λ f made. IsMadeOf (numbered_function spec f) made) fs made k f are e).2.monotone

pub all_monotone : (spec : Spec) (fs : List FunctionDecl) (made : List TableFn) → AreFunctionsOf spec fs made → (f : FunctionDecl) → Contains fs f → numbers.IsMonotone (numbered_function spec f)
all_monotone spec fs made are f among = let k = in_at fs f among in made_monotone spec fs made are k.0 f k.1

module _ (spec : Spec) (no_fault : HasNoFault spec) where
  -- the lattice behind those that were made breaks a law
  first_unlawful : (ds : List TableDecl) (k : ℕ) (l : TableDecl) (ls : List TableL) (fault : LawFault) → ds ≡ spec.lattices → k < length ds → l ≡ get_or ds k l
      → AreLatticesOf (take k spec.lattices) ls → IsFirstFault (declared_numbers l) fault → IsFirstUnlawful spec k fault
  first_unlawful ds k l ls fault same within is are breaks = record {
    lattice = l;
    is = item_at ds spec.lattices k l same within is;
    breaks = breaks;
    before = λ j m less e. lawful_by_names spec no_fault m (at_in spec.lattices j m e) (built_lawful (take k spec.lattices) ls are j m (taken spec.lattices k j m less e));
  }

  pub unlawful_refused : (ds : List TableDecl) (k : ℕ) (l : TableDecl) (ls : List TableL) (r : TableRefusal) → ds ≡ spec.lattices → k < length ds → l ≡ get_or ds k l
      → AreLatticesOf (take k spec.lattices) ls → IsRefusal (declared_numbers l) r → IsLatticeRefusal spec (refused_lattice k r)
  unlawful_refused ds k l ls (tables.Law fault) same within is are breaks = first_unlawful ds k l ls fault same within is are breaks
  unlawful_refused ds k l ls tables.NoMemory same within is are breaks = tt

  pub lawful_lattices : (ls : List TableL) → AreLatticesOf spec.lattices ls → HasLawfulLattices spec
  lawful_lattices ls are l among = lawful_by_names spec no_fault l among (all_lawful spec.lattices ls are l among)

  module _ (small : HasSmallFunctions spec) where
    -- the function behind those that were made isn't monotone
    first_disordered : (fs : List FunctionDecl) (k : ℕ) (f : FunctionDecl) (made : List TableFn) (low high : Arguments) → fs ≡ spec.functions → k < length fs → f ≡ get_or fs k f
        → AreFunctionsOf spec (take k spec.functions) made → IsFirstDisorder (numbered_function spec f) low high → IsFirstDisordered spec k low high
    first_disordered fs k f made low high same within is are breaks = record {
      function = f;
      is = item_at fs spec.functions k f same within is;
      breaks = breaks;
      before = λ j g less e. monotone_by_names spec no_fault small g (at_in spec.functions j g e) (made_monotone spec (take k spec.functions) made are j g (taken spec.functions k j g less e));
    }

    pub disordered_refused : (fs : List FunctionDecl) (k : ℕ) (f : FunctionDecl) (made : List TableFn) (r : FunctionRefusal) → fs ≡ spec.functions → k < length fs → f ≡ get_or fs k f
        → AreFunctionsOf spec (take k spec.functions) made → IsFunctionRefusal (numbered_function spec f) r → IsDisorderRefusal spec (refused_function k r)
    disordered_refused fs k f made (functions.NotMonotone low high) same within is are breaks = first_disordered fs k f made low high same within is are breaks
    disordered_refused fs k f made functions.NoMemory same within is are breaks = tt

    pub monotone_functions : (made : List TableFn) → AreFunctionsOf spec spec.functions made → HasMonotoneFunctions spec
    monotone_functions made are f among = monotone_by_names spec no_fault small f among (all_monotone spec spec.functions made are f among)

-- REFUSALS

pub lattice_refused : (spec : TypedSpec) (why : PrepareRefusal) → IsLatticeRefusal spec.spec why → IsRefusalOf spec why
lattice_refused spec (Law n fault) h = inr h
lattice_refused spec (NotMonotone n low high) h = absurd h
lattice_refused spec (Mode fault) h = absurd h
lattice_refused spec NoMemory h = inl refl

pub function_refused : (spec : TypedSpec) (why : PrepareRefusal) → HasLawfulLattices spec.spec → IsDisorderRefusal spec.spec why → IsRefusalOf spec why
function_refused spec (Law n fault) lawful h = absurd h
function_refused spec (NotMonotone n low high) lawful h = inr (lawful, h)
function_refused spec (Mode fault) lawful h = absurd h
function_refused spec NoMemory lawful h = inl refl

pub mode_refused : (spec : TypedSpec) (ls : List TableL) (made : List TableFn) (fault : ModeFault) → AreLatticesOf spec.spec.lattices ls → AreFunctionsOf spec.spec spec.spec.functions made
    → first_mode_fault spec ≡ Some fault → IsRefusalOf spec (Mode fault)
mode_refused spec ls made fault are functions is =
    inr (lawful_lattices spec.spec spec.faultless ls are, monotone_functions spec.spec spec.faultless spec.small_functions made functions, is)

module _ (spec : TypedSpec) where
  -- what is accepted is refused for want of memory alone
  pub accepted_refusal : (why : PrepareRefusal) → IsRefusalOf spec why → IsAccepted spec.spec (types_in spec) → why ≡ NoMemory
  accepted_refusal why (inl e) is = e
  accepted_refusal why (inr r) is = absurd (accepted_or_refused spec.spec spec.faultless spec.small_functions (types_in spec) why is r)

  -- a refusal is for the one cause, or for want of memory
  pub same_refusal : (why cause : PrepareRefusal) → IsRefusalOf spec why → IsRefusedFor spec.spec (types_in spec) cause → (why ≡ cause) ⊎ (why ≡ NoMemory)
  same_refusal why cause (inl e) r = inr e
  same_refusal why cause (inr h) r = inl (one_cause spec.spec spec.faultless spec.small_functions (types_in spec) why cause h r)
