-- The domains of lattices that name no declared one.
use Rattle.std.proofs.Common.{refl}
use Rattle.flow_syntax.specs.Types.{may, must, flat, map_to, pair_of, table}
use Rattle.value_domains.specs.Domains as domain
use Rattle.value_domains.specs.Laws.{DomainsHaveJoins, DomainsAreOrdered, PlainIsLawful, PlainIsOne}
use Rattle.value_domains.specs.inner.DomainLaws.{domain_laws, domain_order}

pub plain_lawful : PlainIsLawful
plain_lawful declared (may s) h = tt
plain_lawful declared (must s) h = tt
plain_lawful declared (flat s) h = tt
plain_lawful declared (map_to s l) h = plain_lawful declared l h
plain_lawful declared (pair_of a b) h = (plain_lawful declared a h.0, plain_lawful declared b h.1)
plain_lawful declared (table x) h = absurd h

pub plain_one : PlainIsOne
plain_one declared others (may s) h = refl
plain_one declared others (must s) h = refl
plain_one declared others (flat s) h = refl
plain_one declared others (map_to s l) h = λ i. domain.map_to s (plain_one declared others l h i)
plain_one declared others (pair_of a b) h = λ i. domain.pair_of (plain_one declared others a h.0 i) (plain_one declared others b h.1 i)
plain_one declared others (table x) h = absurd h

pub have_joins : DomainsHaveJoins
have_joins = domain_laws

pub are_ordered : DomainsAreOrdered
are_ordered = domain_order
