-- What is written is the text of the certificate.
use Rattle.std.proofs.Common.{◌≡◌, ℕ, List, [], ◌∷◌, ◌++◌, length, map, refl, sym, ap, ◌∙◌, append_assoc, append-nil}
use Rattle.std.specs.Prelude.{All, codes}
use Rattle.std.specs.List.{flat_map}
use Rattle.flow_term.specs.Paths.{AreSteps}
use Rattle.flow_lines.specs.Lines.{count_line, edge_line, value_line}
use Rattle.cert_text.specs.declared.certificate.Certificate.{Certificate}
use Rattle.cert_text.specs.Texts.{HasTexts, IsCertificate, IsCount, IsEdgeEntry, cert_text, end_line, header_line, step_line}
use Rattle.cert_text.specs.inner.Bodies.{HasStepPaths}

together : {X : Type 0} (f : X → List ℕ) (xs : List X) (ls : List (List ℕ)) → flat_map (λ line. line) (map f xs ++ ls) ≡ flat_map f xs ++ flat_map (λ line. line) ls
together f [] ls = refl
together f (x ∷ xs) ls = ap (λ (bs : List ℕ). f x ++ bs) (together f xs ls) ∙ sym (append_assoc (f x) (flat_map f xs) (flat_map (λ line. line) ls))

regroup : (a b c d e f g h : List ℕ) → ((((((a ++ b) ++ c) ++ d) ++ e) ++ f) ++ g) ++ h ≡ a ++ (b ++ (c ++ (d ++ (e ++ (f ++ (g ++ (h ++ [])))))))
regroup a b c d e f g h = simp (append_assoc, append-nil)

pub text_is : (c : Certificate) → (((((([] ++ header_line ++ count_line (codes "edges ") (length c.edges)) ++ flat_map edge_line c.edges) ++ count_line (codes "steps ") (length c.steps)) ++ flat_map step_line c.steps)
    ++ count_line (codes "values ") (length c.values)) ++ flat_map value_line c.values) ++ end_line ≡ cert_text c
text_is c =
    regroup header_line (count_line (codes "edges ") (length c.edges)) (flat_map edge_line c.edges) (count_line (codes "steps ") (length c.steps)) (flat_map step_line c.steps) (count_line (codes "values ") (length c.values)) (flat_map value_line c.values) end_line
    ∙ ap (λ (bs : List ℕ). header_line ++ (count_line (codes "edges ") (length c.edges) ++ (flat_map edge_line c.edges ++ (count_line (codes "steps ") (length c.steps) ++ (flat_map step_line c.steps ++ (count_line (codes "values ") (length c.values) ++ bs))))))
    (sym (together value_line c.values (end_line ∷ [])))
    ∙ ap (λ (bs : List ℕ). header_line ++ (count_line (codes "edges ") (length c.edges) ++ (flat_map edge_line c.edges ++ (count_line (codes "steps ") (length c.steps) ++ bs))))
    (sym (together step_line c.steps (count_line (codes "values ") (length c.values) ∷ (map value_line c.values ++ end_line ∷ []))))
    ∙ ap (λ (bs : List ℕ). header_line ++ (count_line (codes "edges ") (length c.edges) ++ bs))
    (sym (together edge_line c.edges (count_line (codes "steps ") (length c.steps) ∷ (map step_line c.steps ++ count_line (codes "values ") (length c.values) ∷ (map value_line c.values ++ end_line ∷ [])))))

pub written : (c : Certificate) (b0 b1 b2 b3 b4 b5 b6 b7 b8 : List ℕ) → b0 ≡ [] → b1 ≡ b0 ++ header_line → b2 ≡ b1 ++ count_line (codes "edges ") (length c.edges) → b3 ≡ b2 ++ flat_map edge_line c.edges → b4 ≡ b3 ++ count_line (codes "steps ") (length c.steps) → b5 ≡ b4 ++ flat_map step_line c.steps
    → b6 ≡ b5 ++ count_line (codes "values ") (length c.values) → b7 ≡ b6 ++ flat_map value_line c.values → b8 ≡ b7 ++ end_line → b8 ≡ cert_text c
written c b0 b1 b2 b3 b4 b5 b6 b7 b8 e0 e1 e2 e3 e4 e5 e6 e7 e8 =
    let f1 : b1 ≡ [] ++ header_line = e1 ∙ ap (λ (b : List ℕ). b ++ header_line) e0 in
    let f2 : b2 ≡ [] ++ header_line ++ count_line (codes "edges ") (length c.edges) = e2 ∙ ap (λ (b : List ℕ). b ++ count_line (codes "edges ") (length c.edges)) f1 in
    e8 ∙ ap (λ (b : List ℕ). b ++ end_line) (e7 ∙ ap (λ (b : List ℕ). b ++ flat_map value_line c.values) (e6 ∙ ap (λ (b : List ℕ). b ++ count_line (codes "values ") (length c.values)) (e5 ∙ ap (λ (b : List ℕ). b ++ flat_map step_line c.steps)
    (e4 ∙ ap (λ (b : List ℕ). b ++ count_line (codes "steps ") (length c.steps)) (e3 ∙ ap (λ (b : List ℕ). b ++ flat_map edge_line c.edges) f2))))) ∙ text_is c

pub is_certificate : (c : Certificate) (bytes : List ℕ) → HasTexts c → All IsEdgeEntry c.edges → IsCount (length c.edges) → All HasStepPaths c.steps → IsCount (length c.steps) → All (λ v. AreSteps v.unknown.node.path) c.values → IsCount (length c.values)
    → bytes ≡ cert_text c → IsCertificate bytes c
is_certificate c bytes h es en ks kn vs vn e = record {
  writable = record {
    edges_rise = h.edges_rise;
    values_rise = h.values_rise;
    edges = es;
    steps = λ k d lt. (h.steps k d lt, (ks k d lt).0, (ks k d lt).1);
    values = λ k d lt. ((h.values k d lt).0, vs k d lt, (h.values k d lt).1);
    edge_count = en;
    step_count = kn;
    value_count = vn;
  };
  text = sym e;
}
