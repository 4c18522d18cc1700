use Rattle.tree_build.proofs.hits.rules_at.Given as goal

abbrev pub ghosts-counted_rules : goal.ghosts-counted_rules
ghosts-counted_rules g a = record { name = a.blank.name; parts = a.blank.parts }
