use Rattle.lattice_sets.proofs.sorted_set.SortedSet.insert.Goals as goal

pub returns-clause-was_absent : goal.returns-clause-was_absent
returns-clause-was_absent g c = rw (← c.self.view_is) (c.insert_item.ensures.was_absent)
