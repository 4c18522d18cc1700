-- The first file of a name, in a list that is searched, changed or made longer.
use Rattle.std.proofs.Common.{◌≡◌, ◌≢◌, ℕ, zero, suc, ◌+◌, ◌<◌, Bool, true, false, cond, nat_eq, List, [], ◌∷◌, ◌++◌, None, Some, Ordering, length, get_or, set, take, map, refl, sym, ap, ◌∙◌, subst, arith, add-one}
use Rattle.std.specs.Prelude.{string_bytes}
use Rattle.std.specs.Cmp.Lexicographic.{pointwise, texts_ties}
use Rattle.std.specs.Cmp.Lexicographic.{slice_cmp, nat_list_cmp_total}
use Rattle.std.specs.FinMap.{slice_cmp-IsAntisymmetric, nat_cmp-IsAntisymmetric, from_entries, get, insert, same_map, get-from_entries, get-insert, from_entries_push}
use Rattle.std.specs.Ordering.{eq_by_cmp, is_eq, nat_cmp}
use Rattle.std.specs.declared.cmp.Ordering.TheVariants.{Less, Equal, Greater}
use Rattle.std.proofs.lemmas.Cmp.{tied_itself}
use Rattle.std.proofs.lemmas.List.{get_or_read}
use Rattle.flow_io.specs.Entries.{entry_of, contents, first_content, IsFirstAt}
use Rattle.flow_io.specs.declared.memory_folder.File.{File}

-- the test by which a content is found
abbrev pub same_name : List ℕ → List ℕ → Bool
same_name a b = eq_by_cmp (slice_cmp nat_cmp) a b

equal_of : (r : Ordering) → is_eq r ≡ true → r ≡ Equal
equal_of Less e = cc
equal_of Equal e = refl
equal_of Greater e = cc

one_name : (a b : List ℕ) → same_name a b ≡ true → a ≡ b
one_name a b e = slice_cmp-IsAntisymmetric nat_cmp-IsAntisymmetric a b (equal_of _ e)

not_none : {A : Type 0} (x : A) → Some x ≢ None
not_none x e = cc

-- the code's test of two names
pub named : (a b : List ℕ) (test : Bool) → pointwise nat_eq a b ≡ test → same_name a b ≡ test
named a b test e = sym (texts_ties a b) ∙ e

-- the file at this place has the name
pub named_at : (files : List File) (name : List ℕ) (i : ℕ) (file : File) → i < length files → file ≡ get_or files i file → same_name name (string_bytes file.name) ≡ true → (d : File) → string_bytes (get_or files i d).name ≡ name
named_at files name i file within here same d =
    ap (λ (f : File). string_bytes f.name) (sym (get_or_read files i file within here d)) ∙ sym (one_name _ _ same)

none_after : (files : List File) (name : List ℕ) (i : ℕ) (d : File) → i < length files → first_content (take i files) name ≡ None → same_name name (string_bytes (get_or files i d).name) ≡ false → first_content (take (suc i) files) name ≡ None
none_after [] name i d within none other = absurd (omega arith)
none_after (file ∷ files) name zero d within none other = ap (λ b. cond b (Some file.content.items) None) other
none_after (file ∷ files) name (suc i) d within none other =
    elim (same_name name (string_bytes file.name)) as (λ b. cond b (Some file.content.items) (first_content (take i files) name) ≡ None → cond b (Some file.content.items) (first_content (take (suc i) files) name) ≡ None) [
      | true ↦ λ e. e
      | false ↦ λ e. none_after files name i d (omega arith) e other
    ] none

-- none of the files has the name, and neither has the next
pub none_more : (files : List File) (name : List ℕ) (i : ℕ) (file : File) → i < length files → file ≡ get_or files i file → first_content (take i files) name ≡ None → same_name name (string_bytes file.name) ≡ false → first_content (take (i + 1) files) name ≡ None
none_more files name i file within here none other =
    let at : same_name name (string_bytes (get_or files i file).name) ≡ false = subst (λ (f : File). same_name name (string_bytes f.name) ≡ false) here other in
    let next : first_content (take (suc i) files) name ≡ None = none_after files name i file within none at in
    rw add-one next

content_here : (files : List File) (name : List ℕ) (i : ℕ) (d : File) → i < length files → first_content (take i files) name ≡ None → same_name name (string_bytes (get_or files i d).name) ≡ true → first_content files name ≡ Some (get_or files i d).content.items
content_here [] name i d within none here = absurd (omega arith)
content_here (file ∷ files) name zero d within none here = ap (λ b. cond b (Some file.content.items) (first_content files name)) here
content_here (file ∷ files) name (suc i) d within none here =
    elim (same_name name (string_bytes file.name)) as (λ b. cond b (Some file.content.items) (first_content (take i files) name) ≡ None → cond b (Some file.content.items) (first_content files name) ≡ Some (get_or files i d).content.items) [
      | true ↦ λ e. absurd (not_none _ e)
      | false ↦ λ e. content_here files name i d (omega arith) e here
    ] none

same_itself : (name : List ℕ) → same_name name name ≡ true
same_itself name = ap is_eq (tied_itself nat_list_cmp_total name)

shadowed : {A : Type 0} (b : Bool) (x y z : A) → cond b x z ≡ cond b x (cond b y z)
shadowed true x y z = refl
shadowed false x y z = refl

swapped : {A : Type 0} (a b : Bool) (x y z : A) → (a ≡ true → b ≡ true → ⊥) → cond a x (cond b y z) ≡ cond b y (cond a x z)
swapped true true x y z apart = absurd (apart refl refl)
swapped true false x y z apart = refl
swapped false b x y z apart = refl

-- two names that are the same as a third are the same
apart : (name other q : List ℕ) → same_name name other ≡ false → same_name q other ≡ true → same_name q name ≡ true → ⊥
apart name other q not same_other same =
    let e : name ≡ other = sym (one_name q name same) ∙ one_name q other same_other in
    let t : same_name name other ≡ true = subst (λ x. same_name name x ≡ true) e (same_itself name) in
    cc

-- after a change of the first file of the name, at each name
content_set : (files : List File) (new : File) (i : ℕ) → i < length files → first_content (take i files) (string_bytes new.name) ≡ None → ((d : File) → string_bytes (get_or files i d).name ≡ string_bytes new.name) → (q : List ℕ) → first_content (set files i new) q ≡ cond (same_name q (string_bytes new.name)) (Some new.content.items) (first_content files q)
content_set [] new i within none here q = absurd (omega arith)
content_set (file ∷ files) new zero within none here q =
    shadowed (same_name q (string_bytes new.name)) (Some new.content.items) (Some file.content.items) (first_content files q)
    ∙ ap (λ n. cond (same_name q (string_bytes new.name)) (Some new.content.items) (cond (same_name q n) (Some file.content.items) (first_content files q))) (sym (here file))
content_set (file ∷ files) new (suc i) within none here q =
    elim (same_name (string_bytes new.name) (string_bytes file.name)) as (λ b. same_name (string_bytes new.name) (string_bytes file.name) ≡ b → cond b (Some file.content.items) (first_content (take i files) (string_bytes new.name)) ≡ None → first_content (file ∷ set files i new) q ≡ cond (same_name q (string_bytes new.name)) (Some new.content.items) (first_content (file ∷ files) q)) [
      | true ↦ λ _ e. absurd (not_none _ e)
      | false ↦ λ other e.
          ap (cond (same_name q (string_bytes file.name)) (Some file.content.items)) (content_set files new i (omega arith) e here q)
          ∙ swapped _ _ _ _ _ (apart (string_bytes new.name) (string_bytes file.name) q other)
    ] refl none

-- to change the content of the first file of a name is to insert it
pub contents-set : (files : List File) (name bytes : List ℕ) (i : ℕ) (new : File) → IsFirstAt files name i → string_bytes new.name ≡ name → new.content.items ≡ bytes → contents (set files i new) ≡ insert (contents files) name bytes
contents-set files name bytes i new at named_new holds =
    let none : first_content (take i files) (string_bytes new.name) ≡ None = rw named_new at.2 in
    let here : (d : File) → string_bytes (get_or files i d).name ≡ string_bytes new.name = λ d. at.1 d ∙ sym named_new in
    same_map nat_list_cmp_total (slice_cmp-IsAntisymmetric nat_cmp-IsAntisymmetric) _ _
    (λ q. get-from_entries nat_list_cmp_total _ q ∙ content_set files new i at.0 none here q
    ∙ sym (get-insert nat_list_cmp_total _ _ _ q ∙ ap (cond (same_name q (string_bytes new.name)) (Some new.content.items)) (get-from_entries nat_list_cmp_total _ q)))
    ∙ ap (λ key. insert (contents files) key new.content.items) named_new
    ∙ ap (insert (contents files) name) holds

map_push : {A B : Type 0} (f : A → B) (xs : List A) (x : A) → map f (xs ++ x ∷ []) ≡ map f xs ++ f x ∷ []
map_push f [] x = refl
map_push f (y ∷ xs) x = ap (λ l. f y ∷ l) (map_push f xs x)

-- to push a file of a new name is to insert its content
pub contents-push : (files : List File) (name bytes : List ℕ) (new : File) → first_content files name ≡ None → string_bytes new.name ≡ name → new.content.items ≡ bytes → contents (files ++ new ∷ []) ≡ insert (contents files) name bytes
contents-push files name bytes new none named_new holds =
    ap from_entries (map_push entry_of files new)
    ∙ ap (λ key. from_entries (map entry_of files ++ (key, new.content.items) ∷ [])) named_new
    ∙ ap (λ content. from_entries (map entry_of files ++ (name, content) ∷ [])) holds
    ∙ from_entries_push nat_list_cmp_total (slice_cmp-IsAntisymmetric nat_cmp-IsAntisymmetric) _ _ _ none

-- what the map has at a name is the content of the first such file
pub get-contents : (files : List File) (name : List ℕ) → get (contents files) name ≡ first_content files name
get-contents files name = get-from_entries nat_list_cmp_total _ name

-- the first file of the name has its content
pub content_at : (files : List File) (name : List ℕ) (i : ℕ) (d : File) → IsFirstAt files name i → get (contents files) name ≡ Some (get_or files i d).content.items
content_at files name i d at =
    let same : same_name name (string_bytes (get_or files i d).name) ≡ true = subst (λ n. same_name name n ≡ true) (sym (at.1 d)) (same_itself name) in
    get-contents files name ∙ content_here files name i d at.0 at.2 same
