-- What an edit of a system is, and what the machine does at one.
use Rattle.std.specs.Prelude.{◌≡◌, ℕ, ◌+◌, ◌*◌, Bool, true, false, not, ◌||◌, ◌&&◌, List, filter, length, sum_by}
use Rattle.list_theory.specs.Lists.{has, push_all}
use Rattle.constraint_theory.specs.Systems.{Equality, ConstraintSystem, Fits, Fitting, IsKey, Reads, readers}
use Rattle.constraint_theory.specs.Machine.{State}

-- What an edit says of itself: the keys and unknowns that it takes away and those that it brings, which values can be
-- renamed, and how it renames them.
pub record Change (K U V : Type 0) : Type 0 where
  pub gone : List K
  pub added : List K
  pub gone_unknowns : List U
  pub added_unknowns : List U
  pub movable : V → Bool
  pub shift : V → V

-- the value can be renamed
abbrev pub Movable : {K U V : Type 0} → Change K U V → V → Type 0
Movable e v = e.movable v ≡ true

-- the system before the edit, the one after it, and what the edit says of itself
module _ {K U V : Type 0} (same : Equality K U) (s t : ConstraintSystem K U V) (e : Change K U V) where
  -- whether the key is in use before and isn't gone
  abbrev pub stays : K → Bool
  stays k = has same.key s.keys k && not (has same.key e.gone k)

  -- whether the unknown is in use before and isn't gone
  abbrev pub unknown_stays : U → Bool
  unknown_stays u = has same.unknown s.unknowns u && not (has same.unknown e.gone_unknowns u)

  -- What is in use after an edit: what stays and what is added. What is added wasn't in use, and each key that is gone was.
  pub record ChangesLists : Type 0 where
    pub keys : (k : K) → has same.key t.keys k ≡ (stays k || has same.key e.added k)
    pub unknowns : (u : U) → has same.unknown t.unknowns u ≡ (unknown_stays u || has same.unknown e.added_unknowns u)
    pub keys_new : (k : K) → has same.key e.added k ≡ true → has same.key s.keys k ≡ false
    pub unknowns_new : (u : U) → has same.unknown e.added_unknowns u ≡ true → has same.unknown s.unknowns u ≡ false
    pub gone_known : (k : K) → has same.key e.gone k ≡ true → IsKey same s k

  -- The laws of an edit: how the lists change; that nothing which stays aims at or reads what is gone; that what stays has
  -- its target and reads, so that whatever aims at or reads a new unknown is new; and that renaming keeps bottom, joins,
  -- the order and what constraints give, where the renamed values fit.
  pub record IsEdit : Type 0 where
    pub lists : ChangesLists
    pub target_stays : (k : K) → stays k ≡ true → unknown_stays (s.target k) ≡ true
    pub reads_stay : (k : K) (u : U) → stays k ≡ true → Reads same s k u → unknown_stays u ≡ true
    pub same_target : (k : K) → stays k ≡ true → t.target k ≡ s.target k
    pub same_reads : (k : K) (u : U) → stays k ≡ true → has same.unknown (t.reads k) u ≡ has same.unknown (s.reads k) u
    pub bottom_movable : (u : U) → unknown_stays u ≡ true → Movable e (s.bottom u)
    pub join_movable : (u : U) (a b : V) → unknown_stays u ≡ true → Fits s u a → Fits s u b → Movable e a → Movable e b → Movable e (s.join u a b)
    pub eval_movable : (k : K) (a : U → V) → stays k ≡ true → Fitting same s a → ((u : U) → Reads same s k u → Movable e (a u)) → Movable e (s.eval k a)
    pub shift_bottom : (u : U) → unknown_stays u ≡ true → t.bottom u ≡ e.shift (s.bottom u)
    pub shift_join : (u : U) (a b : V) → unknown_stays u ≡ true → Fits s u a → Fits s u b → Movable e a → Movable e b → Fits t u (e.shift a) → Fits t u (e.shift b) → e.shift (s.join u a b) ≡ t.join u (e.shift a) (e.shift b)
    pub shift_leq : (u : U) (a b : V) → unknown_stays u ≡ true → Fits s u a → Fits s u b → Movable e a → Movable e b → Fits t u (e.shift a) → Fits t u (e.shift b) → s.leq u a b ≡ true → t.leq u (e.shift a) (e.shift b) ≡ true
    pub shift_eval : (k : K) (a b : U → V) → stays k ≡ true → Fitting same s a → Fitting same t b → ((u : U) → Reads same s k u → Movable e (a u)) → ((u : U) → Reads same s k u → b u ≡ e.shift (a u)) → t.eval k b ≡ e.shift (s.eval k a)

  -- a set that holds the target of each gone step and, with an unknown, the target of each step that reads it
  pub record IsTaint (steps : List K) (taint : U → Bool) : Type 0 where
    pub from_gone : (k : K) → has same.key steps k ≡ true → has same.key e.gone k ≡ true → taint (s.target k) ≡ true
    pub along : (k : K) (u : U) → has same.key steps k ≡ true → Reads same s k u → taint u ≡ true → taint (s.target k) ≡ true

  -- the least such set: the tainted unknowns
  abbrev pub IsTainted : List K → (U → Bool) → Type 0
  IsTainted steps taint = IsTaint steps taint × ((other : U → Bool) → IsTaint steps other → (u : U) → taint u ≡ true → other u ≡ true)

  -- the keys after the edit that are added or aim into the set, in order of keys
  abbrev pub renewed : (U → Bool) → List K
  renewed set = filter (λ k. has same.key e.added k || set (t.target k)) t.keys

  -- What the machine's edit leaves: the steps whose target isn't tainted; of the waiting keys those that aren't gone,
  -- and then the keys that are added or aim at a tainted unknown.
  abbrev pub edited : (U → Bool) → State K → State K
  edited taint st = record {
    steps = filter (λ k. not (taint (s.target k))) st.steps;
    waiting = push_all same.key (filter (λ k. not (has same.key e.gone k)) st.waiting) (renewed taint);
  }

  -- the values after the edit: renamed where both systems have the unknown and it isn't tainted, and else bottom
  pub record AreEditedValues (taint : U → Bool) (before after : U → V) : Type 0 where
    pub kept : (u : U) → unknown_stays u ≡ true → taint u ≡ false → after u ≡ e.shift (before u)
    pub reset : (u : U) → taint u ≡ true → after u ≡ t.bottom u
    pub added : (u : U) → has same.unknown e.added_unknowns u ≡ true → after u ≡ t.bottom u

  -- a set that holds the targets of gone keys and, with an unknown, the targets of the old keys that read it
  pub record IsRegion (region : U → Bool) : Type 0 where
    pub from_gone : (k : K) → has same.key e.gone k ≡ true → region (s.target k) ≡ true
    pub along : (k : K) (u : U) → IsKey same s k → Reads same s k u → region u ≡ true → region (s.target k) ≡ true

  -- a set that holds the targets of the keys that are added or aim into the region and, with an unknown, the targets of
  -- the new keys that read it
  pub record IsReach (region reach : U → Bool) : Type 0 where
    pub from_renewed : (k : K) → has same.key (renewed region) k ≡ true → reach (t.target k) ≡ true
    pub along : (k : K) (u : U) → IsKey same t k → Reads same t k u → reach u ≡ true → reach (t.target k) ≡ true

  -- the number of new keys that are added or aim into the region, and for each unknown of the reach its height times
  -- the number of its readers
  abbrev pub edit_bound : (U → Bool) → (U → Bool) → ℕ
  edit_bound region reach = length (renewed region) + sum_by (λ u. t.height u * length (readers same t u)) (filter reach t.unknowns)
