-- Lines that lead to the end are those of a certificate, and those of a certificate lead there.
use Rattle.std.proofs.Common.{◌≡◌, ℕ, zero, suc, ◌<◌, List, [], ◌∷◌, ◌++◌, length, map, refl, sym, ap, subst, ◌∙◌, arith, append_assoc, append-nil}
use Rattle.std.specs.Prelude.{All, codes, true, decimal, ◌^◌}
use Rattle.std.specs.Cmp.{IsTotalOrder, then_total, on_total, nat_cmp_total}
use Rattle.std.specs.Cmp.Lexicographic.{nat_list_cmp_total}
use Rattle.std.specs.List.{AllByRecursion, flat_map}
use Rattle.std.specs.List.Sorted.{IsStrictlySortedBy}
use Rattle.std.specs.declared.cmp.Ordering.{Ordering}
use Rattle.std.specs.declared.cmp.Ordering.TheVariants.{Less}
use Rattle.std.proofs.lemmas.List.Elements.{All-append, All-cons, All-head, All-nil, All-tail}
use Rattle.flow_term.specs.declared.graph.Edge.{Edge}
use Rattle.flow_term.specs.declared.graph.Node.{Node}
use Rattle.flow_term.specs.declared.graph.Unknown.{Unknown}
use Rattle.flow_term.specs.declared.value.Valued.{Valued}
use Rattle.flow_term.specs.Orders.{edge_cmp, node_cmp, rank}
use Rattle.flow_lines.specs.Lines.{count_line, edge_line, value_line}
use Rattle.tree_constraints.specs.declared.constraint.Key.{Key}
use Rattle.tree_constraints.specs.Orders.{unknown_cmp}
use Rattle.line_theory.specs.Lines.{lacks, lines_of}
use Rattle.line_theory.specs.Places.{LeadTo}
use Rattle.line_theory.proofs.LineLemmas.{joined, lacks_append, line_before}
use Rattle.cert_text.specs.declared.certificate.Certificate.{Certificate}
use Rattle.cert_text.specs.declared.place.Place.{Place}
use Rattle.cert_text.specs.declared.place.Place.TheVariants.{Header, EdgeCount, Edges, Steps, Values, Finished}
use Rattle.cert_text.specs.declared.place.Progress.{Progress}
use Rattle.cert_text.specs.Lines.{Fits, FitsAt, IsAbove, IsLast, at, start, with_edge, with_step, with_value}
use Rattle.cert_text.specs.inner.Bodies.{count_body, edge_body, step_body, value_body}
use Rattle.cert_text.proofs.Bare.{feed, tokens_lack}
use Rattle.cert_text.proofs.Counts.{number_lacks}
use Rattle.cert_text.proofs.Entries.{edge_lacks, step_lacks, value_body_lacks}
use Rattle.cert_text.specs.Texts.{IsCertificate, IsCount, IsEdgeEntry, IsStepEntry, IsValueEntry, IsWritable, cert_lines, cert_text, end_line, header_line, step_line, value_cmp}

abbrev Lead : Progress → List (List ℕ) → Progress → Type 0
Lead = LeadTo Fits IsLast

-- ** orders

edge_total : IsTotalOrder edge_cmp
edge_total = then_total (on_total (λ (e : Edge). e.from) node_total) (on_total (λ (e : Edge). e.to) node_total)
  where
    node_total : IsTotalOrder node_cmp
    node_total = then_total (on_total (λ (n : Node). n.path) nat_list_cmp_total) (on_total (λ (n : Node). rank n.kind) nat_cmp_total)

value_total : IsTotalOrder value_cmp
value_total = on_total (λ (v : Valued). v.unknown) unknown_total
  where
    node_total : IsTotalOrder node_cmp
    node_total = then_total (on_total (λ (n : Node). n.path) nat_list_cmp_total) (on_total (λ (n : Node). rank n.kind) nat_cmp_total)

    unknown_total : IsTotalOrder unknown_cmp
    unknown_total = then_total (on_total (λ (u : Unknown). u.node) node_total) (on_total (λ (u : Unknown). u.property) nat_list_cmp_total)

module _ {X : Type 0} (cmp : X → X → Ordering) (total : IsTotalOrder cmp) where
  -- what is above the last of a rising list is above its first
  above_first : (y : X) (ys : List X) (x : X) → IsStrictlySortedBy cmp (y ∷ ys) → IsAbove cmp (y ∷ ys) x → cmp y x ≡ Less
  unfolding IsStrictlySortedBy
  above_first y [] x s h = h
  above_first y (z ∷ zs) x s h = total.trans y z x s.0.0 (above_first z zs x s.1 h)

  each_below : (y : X) (ys : List X) (x : X) → AllByRecursion (λ w. cmp y w ≡ Less) ys → cmp y x ≡ Less → AllByRecursion (λ w. cmp y w ≡ Less) (ys ++ x ∷ [])
  each_below y [] x h k = (k, tt)
  each_below y (z ∷ zs) x h k = (h.0, each_below y zs x h.1 k)

  sorted_more : (xs : List X) (x : X) → IsStrictlySortedBy cmp xs → IsAbove cmp xs x → IsStrictlySortedBy cmp (xs ++ x ∷ [])
  unfolding IsStrictlySortedBy
  sorted_more [] x s h = (tt, tt)
  sorted_more (y ∷ []) x s h = ((h, tt), (tt, tt))
  sorted_more (y ∷ z ∷ zs) x s h = (each_below y (z ∷ zs) x s.0 (above_first y (z ∷ zs) x s h), sorted_more (z ∷ zs) x s.1 h)

  above_before : (xs : List X) (x : X) (ys : List X) → IsStrictlySortedBy cmp (xs ++ x ∷ ys) → IsAbove cmp xs x
  unfolding IsStrictlySortedBy
  above_before [] x ys s = tt
  above_before (y ∷ []) x ys s = s.0.0
  above_before (y ∷ z ∷ zs) x ys s = above_before (z ∷ zs) x ys s.1

-- ** more entries

abbrev plus_edges : Certificate → List Edge → Certificate
plus_edges c es = record c { edges = c.edges ++ es }

abbrev plus_steps : Certificate → List Key → Certificate
plus_steps c ks = record c { steps = c.steps ++ ks }

abbrev plus_values : Certificate → List Valued → Certificate
plus_values c vs = record c { values = c.values ++ vs }

no_edges : (c : Certificate) → plus_edges c [] ≡ c
no_edges c = λ i. record c { edges = append-nil c.edges i }

no_steps : (c : Certificate) → plus_steps c [] ≡ c
no_steps c = λ i. record c { steps = append-nil c.steps i }

no_values : (c : Certificate) → plus_values c [] ≡ c
no_values c = λ i. record c { values = append-nil c.values i }

next_edges : (c : Certificate) (e : Edge) (es : List Edge) → plus_edges (with_edge c e) es ≡ plus_edges c (e ∷ es)
next_edges c e es = λ i. record c { edges = append_assoc c.edges (e ∷ []) es i }

next_steps : (c : Certificate) (k : Key) (ks : List Key) → plus_steps (with_step c k) ks ≡ plus_steps c (k ∷ ks)
next_steps c k ks = λ i. record c { steps = append_assoc c.steps (k ∷ []) ks i }

next_values : (c : Certificate) (v : Valued) (vs : List Valued) → plus_values (with_value c v) vs ≡ plus_values c (v ∷ vs)
next_values c v vs = λ i. record c { values = append_assoc c.values (v ∷ []) vs i }

-- ** lines that lead to the end

after_end : (ls : List (List ℕ)) (c d : Certificate) → Lead (at Finished c) ls (at Finished d) → (ls ≡ []) × (d ≡ c)
after_end [] c d h = (refl, ap (λ (p : Progress). p.certificate) h)
after_end (l ∷ ls) c d h = absurd h.1

record FromValues (n : ℕ) (c d : Certificate) (ls : List (List ℕ)) : Type 0 where
  vs : List Valued
  is : d ≡ plus_values c vs
  many : length vs ≡ n
  entries : All IsValueEntry vs
  rise : IsStrictlySortedBy value_cmp c.values → IsStrictlySortedBy value_cmp (c.values ++ vs)
  lines : ls ≡ map value_line vs ++ end_line ∷ []

from_values : (n : ℕ) (c d : Certificate) (ls : List (List ℕ)) → Lead (at (Values n) c) ls (at Finished d) → FromValues n c d ls
from_values zero c d [] h = let no : Finished ≡ Values 0 = ap (λ (p : Progress). p.place) h in absurd cc
from_values (suc n) c d [] h = let no : Finished ≡ Values (suc n) = ap (λ (p : Progress). p.place) h in absurd cc
from_values zero c d (l ∷ ls) h =
    let done = after_end ls c d (subst (λ (p : Progress). Lead p ls (at Finished d)) h.1.1 h.2) in
    record {
      vs = [];
      is = done.1 ∙ sym (no_values c);
      many = refl;
      entries = All-nil IsValueEntry;
      rise = λ s. subst (IsStrictlySortedBy value_cmp) (sym (append-nil c.values)) s;
      lines = λ i. h.1.0 i ∷ done.0 i;
    }
from_values (suc n) c d (l ∷ ls) h =
    let v : Valued = h.1.0 in
    let more : FromValues n (with_value c v) d ls = from_values n (with_value c v) d ls (subst (λ (p : Progress). Lead p ls (at Finished d)) h.1.4 h.2) in
    record {
      vs = v ∷ more.vs;
      is = more.is ∙ next_values c v more.vs;
      many = ap suc more.many;
      entries = All-cons IsValueEntry v more.vs h.1.1 more.entries;
      rise = λ s. subst (IsStrictlySortedBy value_cmp) (append_assoc c.values (v ∷ []) more.vs) (more.rise (sorted_more value_cmp value_total c.values v s h.1.3));
      lines = λ i. h.1.2 i ∷ more.lines i;
    }

record FromSteps (n : ℕ) (c d : Certificate) (ls : List (List ℕ)) : Type 0 where
  ks : List Key
  many : length ks ≡ n
  entries : All IsStepEntry ks
  count : ℕ
  small : IsCount count
  others : List (List ℕ)
  values : FromValues count (plus_steps c ks) d others
  lines : ls ≡ map step_line ks ++ count_line (codes "values ") count ∷ others

from_steps : (n : ℕ) (c d : Certificate) (ls : List (List ℕ)) → Lead (at (Steps n) c) ls (at Finished d) → FromSteps n c d ls
from_steps zero c d [] h = let no : Finished ≡ Steps 0 = ap (λ (p : Progress). p.place) h in absurd cc
from_steps (suc n) c d [] h = let no : Finished ≡ Steps (suc n) = ap (λ (p : Progress). p.place) h in absurd cc
from_steps zero c d (l ∷ ls) h =
    let values : FromValues h.1.0 c d ls = from_values h.1.0 c d ls (subst (λ (p : Progress). Lead p ls (at Finished d)) h.1.3 h.2) in
    record {
      ks = [];
      many = refl;
      entries = All-nil IsStepEntry;
      count = h.1.0;
      small = h.1.1;
      others = ls;
      values = subst (λ (x : Certificate). FromValues h.1.0 x d ls) (sym (no_steps c)) values;
      lines = λ i. h.1.2 i ∷ ls;
    }
from_steps (suc n) c d (l ∷ ls) h =
    let k : Key = h.1.0 in
    let more : FromSteps n (with_step c k) d ls = from_steps n (with_step c k) d ls (subst (λ (p : Progress). Lead p ls (at Finished d)) h.1.3 h.2) in
    record {
      ks = k ∷ more.ks;
      many = ap suc more.many;
      entries = All-cons IsStepEntry k more.ks h.1.1 more.entries;
      count = more.count;
      small = more.small;
      others = more.others;
      values = subst (λ (x : Certificate). FromValues more.count x d more.others) (next_steps c k more.ks) more.values;
      lines = λ i. h.1.2 i ∷ more.lines i;
    }

record FromEdges (n : ℕ) (c d : Certificate) (ls : List (List ℕ)) : Type 0 where
  es : List Edge
  many : length es ≡ n
  entries : All IsEdgeEntry es
  rise : IsStrictlySortedBy edge_cmp c.edges → IsStrictlySortedBy edge_cmp (c.edges ++ es)
  count : ℕ
  small : IsCount count
  others : List (List ℕ)
  steps : FromSteps count (plus_edges c es) d others
  lines : ls ≡ map edge_line es ++ count_line (codes "steps ") count ∷ others

from_edges : (n : ℕ) (c d : Certificate) (ls : List (List ℕ)) → Lead (at (Edges n) c) ls (at Finished d) → FromEdges n c d ls
from_edges zero c d [] h = let no : Finished ≡ Edges 0 = ap (λ (p : Progress). p.place) h in absurd cc
from_edges (suc n) c d [] h = let no : Finished ≡ Edges (suc n) = ap (λ (p : Progress). p.place) h in absurd cc
from_edges zero c d (l ∷ ls) h =
    let steps : FromSteps h.1.0 c d ls = from_steps h.1.0 c d ls (subst (λ (p : Progress). Lead p ls (at Finished d)) h.1.3 h.2) in
    record {
      es = [];
      many = refl;
      entries = All-nil IsEdgeEntry;
      rise = λ s. subst (IsStrictlySortedBy edge_cmp) (sym (append-nil c.edges)) s;
      count = h.1.0;
      small = h.1.1;
      others = ls;
      steps = subst (λ (x : Certificate). FromSteps h.1.0 x d ls) (sym (no_edges c)) steps;
      lines = λ i. h.1.2 i ∷ ls;
    }
from_edges (suc n) c d (l ∷ ls) h =
    let e : Edge = h.1.0 in
    let more : FromEdges n (with_edge c e) d ls = from_edges n (with_edge c e) d ls (subst (λ (p : Progress). Lead p ls (at Finished d)) h.1.4 h.2) in
    record {
      es = e ∷ more.es;
      many = ap suc more.many;
      entries = All-cons IsEdgeEntry e more.es h.1.1 more.entries;
      rise = λ s. subst (IsStrictlySortedBy edge_cmp) (append_assoc c.edges (e ∷ []) more.es) (more.rise (sorted_more edge_cmp edge_total c.edges e s h.1.3));
      count = more.count;
      small = more.small;
      others = more.others;
      steps = subst (λ (x : Certificate). FromSteps more.count x d more.others) (next_edges c e more.es) more.steps;
      lines = λ i. h.1.2 i ∷ more.lines i;
    }

abbrev none : Certificate
none = record { edges = []; steps = []; values = [] }

record FromStart (d : Certificate) (ls : List (List ℕ)) : Type 0 where
  count : ℕ
  small : IsCount count
  others : List (List ℕ)
  edges : FromEdges count none d others
  lines : ls ≡ header_line ∷ count_line (codes "edges ") count ∷ others

from_start : (d : Certificate) (ls : List (List ℕ)) → Lead start ls (at Finished d) → FromStart d ls
from_start d [] h = let no : Finished ≡ Header = ap (λ (p : Progress). p.place) h in absurd cc
from_start d (l ∷ []) h = let no : Finished ≡ EdgeCount = ap (λ (p : Progress). p.place) (h.2 ∙ h.1.1) in absurd cc
from_start d (l ∷ k ∷ ls) h =
    let rest : Lead (at EdgeCount none) (k ∷ ls) (at Finished d) = subst (λ (p : Progress). Lead p (k ∷ ls) (at Finished d)) h.1.1 h.2 in
    record {
      count = rest.1.0;
      small = rest.1.1;
      others = ls;
      edges = from_edges rest.1.0 none d ls (subst (λ (p : Progress). Lead p ls (at Finished d)) rest.1.3 rest.2);
      lines = λ i. h.1.0 i ∷ rest.1.2 i ∷ ls;
    }

pub certificate_read : (bytes : List ℕ) (d : Certificate) → Lead start (lines_of bytes) (at Finished d) → IsCertificate bytes d
unfolding IsStrictlySortedBy
certificate_read bytes d h =
    let s : FromStart d (lines_of bytes) = from_start d (lines_of bytes) h in
    let c : Certificate = record { edges = s.edges.es; steps = s.edges.steps.ks; values = s.edges.steps.values.vs } in
    let lines : cert_lines c ≡ lines_of bytes =
    sym (s.lines ∙ (λ i. header_line ∷ count_line (codes "edges ") (sym s.edges.many i) ∷ s.edges.lines i)
    ∙ (λ i. header_line ∷ count_line (codes "edges ") (length s.edges.es) ∷ (map edge_line s.edges.es ++ count_line (codes "steps ") (sym s.edges.steps.many i) ∷ s.edges.steps.lines i))
    ∙ (λ i. header_line ∷ count_line (codes "edges ") (length s.edges.es) ∷ (map edge_line s.edges.es ++ count_line (codes "steps ") (length s.edges.steps.ks)
    ∷ (map step_line s.edges.steps.ks ++ count_line (codes "values ") (sym s.edges.steps.values.many i) ∷ s.edges.steps.values.lines i)))) in
    let whole : IsCertificate bytes c = record {
      writable = record {
        edges_rise = s.edges.rise tt;
        values_rise = s.edges.steps.values.rise tt;
        edges = s.edges.entries;
        steps = s.edges.steps.entries;
        values = s.edges.steps.values.entries;
        edge_count = subst IsCount (sym s.edges.many) s.small;
        step_count = subst IsCount (sym s.edges.steps.many) s.edges.small;
        value_count = subst IsCount (sym s.edges.steps.values.many) s.edges.steps.small;
      };
      text = ap (flat_map (λ line. line)) lines ∙ joined bytes;
    } in
    subst (IsCertificate bytes) (sym s.edges.steps.values.is) whole

-- ** the lines of a certificate lead to the end

values_lead : (vs : List Valued) (c : Certificate) → IsStrictlySortedBy value_cmp (c.values ++ vs) → All IsValueEntry vs → Lead (at (Values (length vs)) c) (map value_line vs ++ end_line ∷ []) (at Finished (plus_values c vs))
values_lead [] c s h = (at Finished c, (refl, refl), ap (at Finished) (no_values c))
values_lead (v ∷ vs) c s h = (
  at (Values (length vs)) (with_value c v),
  (v, All-head IsValueEntry v vs h, refl, above_before value_cmp value_total c.values v vs s, refl),
  subst (λ (x : Certificate). Lead (at (Values (length vs)) (with_value c v)) (map value_line vs ++ end_line ∷ []) (at Finished x)) (next_values c v vs)
      (values_lead vs (with_value c v) (subst (IsStrictlySortedBy value_cmp) (sym (append_assoc c.values (v ∷ []) vs)) s) (All-tail IsValueEntry v vs h)),
)

steps_lead : (ks : List Key) (c : Certificate) (m : ℕ) (ls : List (List ℕ)) (q : Progress) → All IsStepEntry ks → IsCount m → Lead (at (Values m) (plus_steps c ks)) ls q
    → Lead (at (Steps (length ks)) c) (map step_line ks ++ count_line (codes "values ") m ∷ ls) q
steps_lead [] c m ls q h small lead = (at (Values m) c, (m, small, refl, refl), subst (λ (x : Certificate). Lead (at (Values m) x) ls q) (no_steps c) lead)
steps_lead (k ∷ ks) c m ls q h small lead = (
  at (Steps (length ks)) (with_step c k),
  (k, All-head IsStepEntry k ks h, refl, refl),
  steps_lead ks (with_step c k) m ls q (All-tail IsStepEntry k ks h) small (subst (λ (x : Certificate). Lead (at (Values m) x) ls q) (sym (next_steps c k ks)) lead),
)

edges_lead : (es : List Edge) (c : Certificate) (m : ℕ) (ls : List (List ℕ)) (q : Progress) → IsStrictlySortedBy edge_cmp (c.edges ++ es) → All IsEdgeEntry es → IsCount m → Lead (at (Steps m) (plus_edges c es)) ls q
    → Lead (at (Edges (length es)) c) (map edge_line es ++ count_line (codes "steps ") m ∷ ls) q
edges_lead [] c m ls q s h small lead = (at (Steps m) c, (m, small, refl, refl), subst (λ (x : Certificate). Lead (at (Steps m) x) ls q) (no_edges c) lead)
edges_lead (e ∷ es) c m ls q s h small lead = (
  at (Edges (length es)) (with_edge c e),
  (e, All-head IsEdgeEntry e es h, refl, above_before edge_cmp edge_total c.edges e es s, refl),
  edges_lead es (with_edge c e) m ls q (subst (IsStrictlySortedBy edge_cmp) (sym (append_assoc c.edges (e ∷ []) es)) s) (All-tail IsEdgeEntry e es h) small
      (subst (λ (x : Certificate). Lead (at (Steps m) x) ls q) (sym (next_edges c e es)) lead),
)

lines_lead : (c : Certificate) → IsWritable c → Lead start (cert_lines c) (at Finished c)
lines_lead c ok = (
  at EdgeCount none,
  (refl, refl),
  (
    at (Edges (length c.edges)) none,
    (length c.edges, ok.edge_count, refl, refl),
    edges_lead c.edges none (length c.steps) _ (at Finished c) ok.edges_rise ok.edges ok.step_count
        (steps_lead c.steps (plus_edges none c.edges) (length c.values) _ (at Finished c) ok.steps ok.value_count (values_lead c.values (plus_steps (plus_edges none c.edges) c.steps) ok.values_rise ok.values)),
  ),
)

-- ** they are the lines of its text

record IsLine (l : List ℕ) : Type 0 where
  body : List ℕ
  bare : lacks 10 body ≡ true
  is : l ≡ body ++ 10 ∷ []

lines_joined : (ls : List (List ℕ)) → AllByRecursion IsLine ls → lines_of (flat_map (λ line. line) ls) ≡ ls
lines_joined [] h = refl
lines_joined (l ∷ ls) h =
    ap (λ (x : List ℕ). lines_of (x ++ flat_map (λ line. line) ls)) h.0.is ∙ ap lines_of (append_assoc h.0.body (10 ∷ []) (flat_map (λ line. line) ls))
    ∙ line_before h.0.body (flat_map (λ line. line) ls) h.0.bare ∙ (λ i. sym h.0.is i ∷ lines_joined ls h.1 i)

count_is_line : (word : List ℕ) (n : ℕ) → lacks 10 word ≡ true → IsCount n → IsLine (count_line word n)
count_is_line word n h small = record { body = count_body word n; bare = lacks_append 10 word (decimal n) h (number_lacks n small); is = refl }

module _ {X : Type 0} (Is : X → Type 0) (line : X → List ℕ) (is_line : (x : X) → Is x → IsLine (line x)) where
  mapped_lines : (xs : List X) (ls : List (List ℕ)) → All Is xs → AllByRecursion IsLine ls → AllByRecursion IsLine (map line xs ++ ls)
  mapped_lines [] ls h k = k
  mapped_lines (x ∷ xs) ls h k = (is_line x (All-head Is x xs h), mapped_lines xs ls (All-tail Is x xs h) k)

are_lines : (c : Certificate) → IsWritable c → AllByRecursion IsLine (cert_lines c)
are_lines c ok = (
  record { body = codes "flowcert 1"; bare = refl; is = refl },
  (
    count_is_line (codes "edges ") (length c.edges) refl ok.edge_count,
    mapped_lines IsEdgeEntry edge_line (λ e h. record { body = edge_body e; bare = edge_lacks e h; is = refl }) c.edges _ ok.edges (
      count_is_line (codes "steps ") (length c.steps) refl ok.step_count,
      mapped_lines IsStepEntry step_line (λ k h. record { body = step_body k; bare = step_lacks k h; is = refl }) c.steps _ ok.steps (
        count_is_line (codes "values ") (length c.values) refl ok.value_count,
        mapped_lines IsValueEntry value_line (λ v h. record { body = value_body v; bare = value_body_lacks v h; is = refl }) c.values (end_line ∷ []) ok.values
            (record { body = codes "end"; bare = refl; is = refl }, tt),
      ),
    ),
  ),
)

pub certificate_leads : (bytes : List ℕ) (c : Certificate) → IsCertificate bytes c → Lead start (lines_of bytes) (at Finished c)
certificate_leads bytes c h =
    subst (λ (bs : List ℕ). Lead start (lines_of bs) (at Finished c)) h.text (subst (λ (ls : List (List ℕ)). Lead start ls (at Finished c)) (sym (lines_joined (cert_lines c) (are_lines c h.writable))) (lines_lead c h.writable))
