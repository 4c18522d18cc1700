-- The facts that a lattice of a table keeps.
use Rattle.std.proofs.Common.{◌≡◌, ℕ, List, length, map, sym, ap, ◌∙◌, subst}
use Rattle.std.proofs.lemmas.List.{length-map}
use Rattle.flow_syntax.specs.declared.spec.Named.{Named}
use Rattle.flow_syntax.specs.declared.tables.TableDecl.{TableDecl}
use Rattle.value_domains.specs.Domains.{place_in, texts_of}
use Rattle.table_laws.proofs.Lawful.{faultless}
use Rattle.lattice_tables.specs.Tables.{declared_numbers}
use Rattle.table_laws.specs.JoinTables.{JoinTable, IsComplete, IsLawful, HasNoFault, table_by}

pub complete_copy : (count bottom : ℕ) (entries copy : List ℕ) → copy ≡ entries → IsComplete (table_by count bottom entries) → IsComplete (table_by count bottom copy)
complete_copy count bottom entries copy same h = subst (λ j. IsComplete (table_by count bottom j)) (sym same) h

pub lawful_copy : (count bottom : ℕ) (entries copy : List ℕ) → copy ≡ entries → IsComplete (table_by count bottom entries) → HasNoFault (table_by count bottom entries) → IsLawful (table_by count bottom copy)
lawful_copy count bottom entries copy same h none = subst (λ j. IsLawful (table_by count bottom j)) (sym same) ((faultless (table_by count bottom entries) h).0 none)

-- the numbers of a declaration, from what they are numbers of
pub declared_is : (decl : TableDecl) (elements names : List Named) (bottom : ℕ) (join : List ℕ) → elements ≡ decl.elements → names ≡ decl.join → bottom ≡ place_in (texts_of elements) decl.bottom.text
    → join ≡ map (place_in (texts_of elements)) (texts_of names) → table_by (length elements) bottom join ≡ declared_numbers decl
declared_is decl elements names bottom join e n b j i = record {
  count = (sym (length-map elements (λ (n : Named). n.text)) ∙ ap (λ es. length (texts_of es)) e) i;
  bottom = (b ∙ ap (λ es. place_in (texts_of es) decl.bottom.text) e) i;
  join = (j ∙ (λ i. map (place_in (texts_of (e i))) (texts_of (n i)))) i;
}

pub complete_at : (t s : JoinTable) → t ≡ s → IsComplete s → IsComplete t
complete_at t s same h = subst IsComplete (sym same) h

pub lawful_at : (t : JoinTable) → IsComplete t → HasNoFault t → IsLawful t
lawful_at t h none = (faultless t h).0 none
