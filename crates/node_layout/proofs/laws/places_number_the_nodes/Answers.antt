use Rattle.node_layout.proofs.Numbers.{each_number, one_data, one_mht, not_both, of_data, of_mht, parent_before, slot_below, entries_apart, data_live, mht_live}
use Rattle.node_layout.proofs.laws.places_number_the_nodes.Goals as goal

pub returns-clause-number : goal.returns-clause-number
returns-clause-number c = record { each = each_number; one_data = one_data; one_mht = one_mht; not_both = not_both }

pub returns-clause-parents : goal.returns-clause-parents
returns-clause-parents c = record { of_data = of_data; of_mht = of_mht; before = parent_before; places = slot_below }

pub returns-clause-live : goal.returns-clause-live
returns-clause-live c = record { data_live = data_live; mht_live = mht_live }

pub returns-clause-apart : goal.returns-clause-apart
returns-clause-apart c = entries_apart
