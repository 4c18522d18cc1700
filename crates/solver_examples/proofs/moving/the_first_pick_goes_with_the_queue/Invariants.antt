use Rattle.solver_examples.proofs.moving.the_first_pick_goes_with_the_queue.Given as goal

abbrev pub ghosts-played : goal.ghosts-played
ghosts-played g a = record { name = a.blank.name; parts = a.blank.parts }
