use Rattle.table_cells.proofs.laws.Goals as goal
use Rattle.table_cells.proofs.Tables.{first_is_cell, set_is_cell}
use Rattle.table_cells.proofs.CellLists.{cells_first, each_along}

pub returns-clause-first : goal.returns-clause-first
returns-clause-first c = first_is_cell

pub returns-clause-changed : goal.returns-clause-changed
returns-clause-changed c = set_is_cell

pub returns-clause-by_first : goal.returns-clause-by_first
returns-clause-by_first c = cells_first

pub returns-clause-each : goal.returns-clause-each
returns-clause-each c = each_along
