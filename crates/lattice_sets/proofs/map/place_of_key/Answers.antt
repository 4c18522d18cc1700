use Rattle.std.proofs.Common.{rules}
use Rattle.std.proofs.lemmas.Fn.{always_returns_same}
use Rattle.lattice_sets.proofs.KeyPlaces.{key_place_searched}
use Rattle.lattice_sets.proofs.map.place_of_key.Goals as goal

-- the closure compares an entry's key with the one that is sought
pub returns : goal.returns
returns g c =
    let facts = c.binary_search_by.ensures in
    let by_key = facts.position (λ e. g.K.Ord.cmp e.0 c.args.key.now) (always_returns_same _ _ _ (λ a r h called. search rules)) in
    key_place_searched g.K.Ord.cmp g.met.K.Ord.total g.met.K.Element.exact _ _ _ c.requires facts.bound by_key
