use Rattle.solver_examples.proofs.moving.the_last_pick_leads_to_the_same_values.Given as goal

abbrev pub ghosts-played : goal.ghosts-played
ghosts-played g a = record { name = a.blank.name; parts = a.blank.parts }
