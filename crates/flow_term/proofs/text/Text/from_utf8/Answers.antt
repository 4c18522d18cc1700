-- A `String` is UTF-8.
use Rattle.std.proofs.Common.{◌≡◌, ℕ, List, refl, subst, ap, ◌∙◌}
use Rattle.std.specs.Prelude.{IsUtf8, string_bytes}
use Rattle.std.specs.declared.vec.Vec.{Vec}
use Rattle.std.specs.declared.alloc.Global.{Global}
use Rattle.std.proofs.lemmas.Str.{IsUtf8-string_bytes}
use Rattle.flow_term.proofs.text.Text.from_utf8.Goals as goal

pub returns-in-Ok-clause-utf8 : goal.returns-in-Ok-clause-utf8
returns-in-Ok-clause-utf8 c =
    let same : string_bytes c.in-Ok.text ≡ c.args.bytes = ap (λ (v : Vec ℕ Global). v.items) c.in-Ok.ensures.ok ∙ c.into_vec.ensures in
    ((λ _. subst (λ (bytes : List ℕ). IsUtf8 bytes) same (IsUtf8-string_bytes c.in-Ok.text)), (λ _. refl))
