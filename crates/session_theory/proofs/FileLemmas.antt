-- Requests that take files end alike, where what follows does.
use Rattle.std.proofs.Common.{ℕ, List, Option, sym, subst}
use Rattle.session_theory.specs.Files.{EndAlike, Ends, FileKind, IsExclusive, IsNoRefusal, Takes, is_refused, is_taken}

module _ {How : Type 0} (ends : Ends How) where
  pub takes_alike : {X : Type 0} (kind : FileKind X) → IsExclusive kind → (content : Option (List ℕ)) (Then : X → List ℕ → How → Type 0) → ((x : X) → EndAlike ends (Then x)) → EndAlike ends (Takes ends kind content Then)
  takes_alike kind ex content Then alike out other how way (is_refused r e) (is_refused s f) = (λ _. f, λ _. e)
  takes_alike kind ex content Then alike out other how way (is_refused r e) (is_taken y a t) = absurd (ex.apart content y out a r)
  takes_alike kind ex content Then alike out other how way (is_taken x a t) (is_refused s f) = absurd (ex.apart content x other a s)
  takes_alike {X} kind ex content Then alike out other how way (is_taken x a t) (is_taken y b u) = alike x out other how way t (subst (λ (z : X). Then z other way) (sym (ex.one content x y a b)) u)

  -- what refuses nothing ends alike
  pub no_refusals_alike : (Output : List ℕ → How → Type 0) → IsNoRefusal ends Output → EndAlike ends Output
  no_refusals_alike Output none out other how way o p = (λ e. absurd (none out how o e), λ e. absurd (none other way p e))
