-- Cells with their quantities, as plain data.
use Rattle.std.specs.Prelude.{List, map}
use Rattle.quantity.specs.Kinds.{Pair, pair}
use Rattle.quantity.specs.declared.bounds.Bounds.{Bounds}
use Rattle.quantity.specs.declared.exact.Exact.{Exact}
use Rattle.evaluate_command.specs.Cells.{CellValue}
use Rattle.evaluate_command.specs.declared.answer.Valued.{Valued}

-- the two numbers of a fraction
abbrev pub exact_numbers : Exact → Pair
exact_numbers e = pair e.p e.q

-- the two numbers of bounds
abbrev pub bounds_numbers : Bounds → Pair
bounds_numbers b = pair b.lo b.hi

-- a cell with its quantity
abbrev pub plain_of : {Q : Type 0} → (Q → Pair) → Valued Q → CellValue
plain_of numbers v = record { cell = v.cell.items; quantity = numbers v.quantity }

-- those of a list
abbrev pub plain_in : {Q : Type 0} → (Q → Pair) → List (Valued Q) → List CellValue
plain_in numbers values = map (plain_of numbers) values
