-- The laws of meanings and modes.
use Rattle.std.specs.Prelude.{IsTrue}
use Rattle.expr_meaning.specs.Laws.{MeaningsAreInRange, ModesAreRight, NoOthersAreMade}
use Rattle.expr_meaning.proofs.Sound.{all_sound}
use Rattle.expr_meaning.proofs.Follows.{all_follow}
use Rattle.expr_meaning.proofs.Made.{all_made}

pub meanings_in_range : MeaningsAreInRange
meanings_in_range spec usable range tables vs e typed = all_sound spec usable range tables.results tables.lawful e vs typed

pub modes_right : ModesAreRight
modes_right spec usable range tables vs e typed low high possible_low possible_high lower =
    all_follow spec usable range tables.monotone tables.lawful (λ vs e typed. all_sound spec usable range tables.results tables.lawful e vs typed) e vs typed low high
    (record { suits_low = possible_low; suits_high = possible_high; lower = lower })

pub no_others_made : NoOthersAreMade
no_others_made spec usable range tables among given parts made vs e typed is_given at suits there =
    all_made spec usable range (all_sound spec usable range tables.results tables.lawful) (λ s x. IsTrue (among s x)) given parts made e is_given vs typed at suits there
