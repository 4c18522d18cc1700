-- Reading comes to each place where a term is to begin, or stops before it at a limit.
use Rattle.std.proofs.Common.{◌≡◌, ℕ, ◌+◌, true, false, List, [], ◌∷◌, ◌++◌, length, Ok, refl, sym, ap, ◌∙◌, subst, inl, inr, append-nil, arith}
use Rattle.std.specs.Prelude.{◌⊎◌, sum_by}
use Rattle.flow_term.specs.Trees.{term_size}
use Rattle.flow_term.specs.declared.term.Term.{Term}
use Rattle.flow_term.specs.declared.term.Kind.{Kind}
use Rattle.aterm_text.specs.declared.class.ByteClass.TheVariants.{Parenthesis, Bracket}
use Rattle.aterm_text.specs.declared.open.Open.{Open}
use Rattle.aterm_text.specs.declared.open.Opener.{Opener}
use Rattle.aterm_text.specs.declared.open.Opener.TheVariants.{Call, Tuple, Items, Annotations}
use Rattle.aterm_text.specs.declared.reader.state.Last.{Last}
use Rattle.aterm_text.specs.declared.reader.state.Last.TheVariants as last
use Rattle.aterm_text.specs.Faults.{IsHead, AreFollowed, no_item, item, IsDue, opener_size, begun_in}
use Rattle.aterm_text.specs.Grammar.{IsBlank}
use Rattle.aterm_text.specs.inner.Machine.{State, state, run, nothing}
use Rattle.aterm_text.proofs.Classes.{class_bracket, class_parenthesis}
use Rattle.aterm_text.proofs.Sizes.{size_more}
use Rattle.aterm_text.proofs.Runs.{run_on, CanBegin, skip_before, HasRoom, begins_with, opens, opens_annotations}
use Rattle.aterm_text.proofs.Complete.{body_size, Room, RoomBody, ReadsBody, Reads, item_on, name_opens, reads_term, reads_body}
use Rattle.aterm_text.proofs.Limits.{MeetsLimit, run_limited}

free_room : (stack : List Open) (begun : ℕ) → HasRoom false stack begun
free_room stack begun = λ e. cc

free_term : (stack : List Open) (begun : ℕ) (t : Term) → Room false stack begun t
free_term stack begun t = λ e. cc

free_body : (stack : List Open) (begun : ℕ) (k : Kind) → RoomBody false stack begun k
free_body stack begun k = λ e. cc

-- blanks where a term is to begin
blanks_on : (l : Last) (stack : List Open) (begun at : ℕ) (blank : List ℕ) → CanBegin l → IsBlank blank → run false (state stack begun l) at blank ≡ Ok (state stack begun l)
blanks_on l stack begun at blank h is = ap (run false (state stack begun l) at) (sym (append-nil blank)) ∙ skip_before false l stack begun at blank [] h is

-- a run to a place where a term is to begin
pub record Comes (s : State) (at : ℕ) (bytes : List ℕ) (stack : List Open) (begun : ℕ) : Type 0 where
  pub latest : Last
  pub can : CanBegin latest
  pub runs : run false s at bytes ≡ Ok (state stack begun latest)

abbrev with_items : Opener → List Term → Open
with_items opener ts = record { opener = opener; items = ts }

followed_comes : (opener : Opener) (below : List Open) (begun at : ℕ) (ts : List Term) (bytes : List ℕ) → AreFollowed ts bytes → Comes (state (with_items opener [] ∷ below) begun last.Opening) at bytes (with_items opener ts ∷ below) (begun + sum_by term_size ts)
followed_comes opener below begun at ts bytes (no_item e is) =
    subst (λ (us : List Term). Comes (state (with_items opener [] ∷ below) begun last.Opening) at bytes (with_items opener us ∷ below) (begun + sum_by term_size us)) (sym e) (record {
      latest = last.Opening;
      can = tt;
      runs = blanks_on last.Opening (with_items opener [] ∷ below) begun at bytes tt is ∙ ap (λ (n : ℕ). Ok (state (with_items opener [] ∷ below) n last.Opening)) (omega arith);
    })
followed_comes opener below begun at ts bytes (item us t inside spelling behind blank i s js k e f) =
    let first : Comes (state (with_items opener [] ∷ below) begun last.Opening) at inside (with_items opener us ∷ below) (begun + sum_by term_size us) = followed_comes opener below begun at us inside i in
    let there : ℕ = at + length inside in
    let many : ℕ = begun + sum_by term_size us in
    let reads : Reads false (state (with_items opener us ∷ below) many first.latest) (there + 0) spelling (with_items opener us ∷ below) (many + term_size t) t =
    reads_term false spelling t s (with_items opener us ∷ below) many (there + 0) first.latest first.can (free_term (with_items opener us ∷ below) many t) in
    let later : ℕ = there + 0 + length spelling + length behind + 1 in
    subst (λ (vs : List Term). Comes (state (with_items opener [] ∷ below) begun last.Opening) at bytes (with_items opener vs ∷ below) (begun + sum_by term_size vs)) (sym e) (record {
      latest = last.Start;
      can = tt;
      runs =
          ap (run false (state (with_items opener [] ∷ below) begun last.Opening) at) f
          ∙ run_on false (state (with_items opener [] ∷ below) begun last.Opening) (state (with_items opener us ∷ below) many first.latest) at inside (spelling ++ (behind ++ 44 ∷ blank)) first.runs
          ∙ item_on false (with_items opener us) below many there first.latest [] spelling behind blank t first.can tt js reads
          ∙ blanks_on last.Start (with_items opener (us ++ t ∷ []) ∷ below) (many + term_size t) later blank tt k
          ∙ ap (λ (n : ℕ). Ok (state (with_items opener (us ++ t ∷ []) ∷ below) n last.Start)) (omega (arith, size_more us t));
    })

head_comes : (opener : Opener) (below : List Open) (begun at : ℕ) (l : Last) (head : List ℕ) → CanBegin l → IsHead opener head → run false (state below begun l) at head ≡ Ok (opens below (begun + (1 + opener_size opener)) opener)
head_comes (Call name) below begun at l head can h =
    ap (run false (state below begun l) at) h.4 ∙ name_opens false below begun at l h.0 name h.1 [] can (free_room below begun) h.2 h.3 ∙ ap (λ (n : ℕ). Ok (opens below n (Call name))) (omega arith)
head_comes Tuple below begun at l head can h =
    ap (run false (state below begun l) at) h ∙ begins_with false l Parenthesis below begun at 40 [] can refl class_parenthesis (free_room below begun) ∙ ap (λ (n : ℕ). Ok (opens below n Tuple)) (omega arith)
head_comes Items below begun at l head can h =
    ap (run false (state below begun l) at) h ∙ begins_with false l Bracket below begun at 91 [] can refl class_bracket (free_room below begun) ∙ ap (λ (n : ℕ). Ok (opens below n Items)) (omega arith)
head_comes (Annotations k) below begun at l head can h =
    let r : ReadsBody false (state below begun l) at h.0 below (begun + body_size k) k = reads_body false h.0 k h.2 below begun at l can (free_body below begun k) in
    ap (run false (state below begun l) at) h.4
    ∙ run_on false (state below begun l) (state below (begun + body_size k) r.latest) at h.0 (h.1 ++ 123 ∷ []) r.runs
    ∙ opens_annotations false below (begun + body_size k) (at + length h.0) k h.1 [] r.latest r.body h.3

due_comes : (stack : List Open) (p : List ℕ) → IsDue stack p → Comes nothing 0 p stack (begun_in stack)
due_comes [] p h = record { latest = last.Start; can = tt; runs = blanks_on last.Start [] 0 0 p tt h }
due_comes (o ∷ below) p h =
    let first : Comes nothing 0 h.0 below (begun_in below) = due_comes below h.0 h.3 in
    let there : ℕ = 0 + length h.0 in
    let many : ℕ = begun_in below + (1 + opener_size o.opener) in
    let last_part : Comes (opens below many o.opener) (there + length h.1) h.2 (o ∷ below) (many + sum_by term_size o.items) = followed_comes o.opener below many (there + length h.1) o.items h.2 h.5 in
    record {
      latest = last_part.latest;
      can = last_part.can;
      runs =
          ap (run false nothing 0) h.6
          ∙ run_on false nothing (state below (begun_in below) first.latest) 0 h.0 (h.1 ++ h.2) first.runs
          ∙ run_on false (state below (begun_in below) first.latest) (opens below many o.opener) there h.1 h.2 (head_comes o.opener below (begun_in below) there first.latest h.1 first.can h.4)
          ∙ last_part.runs
          ∙ ap (λ (n : ℕ). Ok (state (o ∷ below) n last_part.latest)) (omega arith);
    }

-- with the limits
pub record Reaches (stack : List Open) (p : List ℕ) : Type 0 where
  pub latest : Last
  pub can : CanBegin latest
  pub runs : run true nothing 0 p ≡ Ok (state stack (begun_in stack) latest)

with_limits : (stack : List Open) (p : List ℕ) (h : Comes nothing 0 p stack (begun_in stack)) → (run true nothing 0 p ≡ Ok (state stack (begun_in stack) h.latest)) ⊎ MeetsLimit nothing 0 p → Reaches stack p ⊎ MeetsLimit nothing 0 p
with_limits stack p h (inl e) = inl (record { latest = h.latest; can = h.can; runs = e })
with_limits stack p h (inr m) = inr m

pub due_reaches : (stack : List Open) (p : List ℕ) → IsDue stack p → Reaches stack p ⊎ MeetsLimit nothing 0 p
due_reaches stack p due =
    let h : Comes nothing 0 p stack (begun_in stack) = due_comes stack p due in
    with_limits stack p h (run_limited nothing (state stack (begun_in stack) h.latest) 0 p h.runs)
