use Rattle.flow_links.proofs.rules.matching_rule.Given as goal

abbrev pub ghosts-counted_rule : goal.ghosts-counted_rule
ghosts-counted_rule a = record { name = a.blank.name; parts = a.blank.parts }
