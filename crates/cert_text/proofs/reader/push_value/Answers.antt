use Rattle.std.proofs.Common.{◌≡◌, ℕ, suc, sym, subst, List, [], ◌∷◌, ◌++◌, Err, Ok}
use Rattle.cert_text.specs.declared.certificate.Certificate.{Certificate}
use Rattle.cert_text.specs.declared.place.Progress.{Progress}
use Rattle.flow_term.specs.declared.value.Valued.{Valued}
use Rattle.cert_text.specs.Texts.{value_cmp}
use Rattle.cert_text.specs.declared.place.CertFaultKind.TheVariants as fault
use Rattle.cert_text.specs.declared.place.Place.TheVariants.{Values}
use Rattle.cert_text.specs.declared.refusal.LineFault.TheVariants as line
use Rattle.cert_text.specs.Lines.{IsAbove, at, with_value}
use Rattle.cert_text.specs.inner.Bodies.{value_body}
use Rattle.cert_text.proofs.Moving.{moves_at, value_not_above, value_taken}
use Rattle.cert_text.proofs.reader.push_value.Goals as goal

made : (c : Certificate) (n : ℕ) (v : Valued) (vs : List Valued) → vs ≡ c.values ++ v ∷ [] → ◌≡◌ {A = Progress} (record { place = Values n; certificate = record { edges = c.edges; steps = c.steps; values = vs } }) (at (Values n) (with_value c v))
made c n v vs e = λ i. record { place = Values n; certificate = record { edges = c.edges; steps = c.steps; values = e i } }

pub returns-then-not-value_is_above : goal.returns-then-not-value_is_above
returns-then-not-value_is_above c =
    moves_at {X = Unit {0}} c.args.progress.now c.args.progress.now (Values (suc c.args.others)) (value_body c.args.valued) (Err (line.Fault fault.Order)) c.requires.place
    (value_not_above c.args.progress.now.certificate c.args.others c.args.valued c.requires.entry
    (λ (h : IsAbove value_cmp c.args.progress.now.certificate.values c.args.valued). let yes = c.value_is_above.ensures.1 (subst (λ (xs : List Valued). IsAbove value_cmp xs c.args.valued) (sym c.as_slice.ensures) h) in cc (yes, c.if-not-value_is_above.true)))

pub returns : goal.returns
returns c =
    let new : Progress = record {
      place = Values c.args.others;
      certificate = record { edges = c.args.progress.now.certificate.edges; steps = c.args.progress.now.certificate.steps; values = c.push.new.self };
    } in
    let above : IsAbove value_cmp c.args.progress.now.certificate.values c.args.valued = subst (λ (xs : List Valued). IsAbove value_cmp xs c.args.valued) c.as_slice.ensures (c.value_is_above.ensures.0 c.if-not-value_is_above.false) in
    moves_at {X = Unit {0}} c.args.progress.now new (Values (suc c.args.others)) (value_body c.args.valued) (Ok tt) c.requires.place
    (value_taken c.args.progress.now.certificate c.args.others c.args.valued new c.requires.entry above (made c.args.progress.now.certificate c.args.others c.args.valued c.push.new.self c.in_ok-push.ensures.ok))
