use Rattle.value_text.proofs.Identifiers.{item_found, item_refused}
use Rattle.value_text.proofs.identifier.item_of.Goals as goal

pub returns-then-not-is_identifier : goal.returns-then-not-is_identifier
returns-then-not-is_identifier c = item_refused _ _ c.is_identifier.result c.in_ok-text.ensures c.is_identifier.ensures c.if-not-is_identifier.true

pub returns : goal.returns
returns c = item_found _ _ c.is_identifier.result c.in_ok-text.ensures c.is_identifier.ensures c.if-not-is_identifier.false
