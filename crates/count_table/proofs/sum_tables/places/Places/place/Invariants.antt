use Rattle.std.proofs.Common.{map, slice_index}
use Rattle.count_table.specs.Cells.{place_of}
use Rattle.count_table.proofs.Placing.{IsPlacing}
use Rattle.count_table.proofs.sum_tables.places.Places.place.Given as goal

abbrev pub invariant-loop-i : goal.invariant-loop-i
invariant-loop-i l =
    let xs = map (λ v. slice_index l.at v) l.self-inside.vertices.items in
    IsPlacing l.self-inside.sizes.items xs l.i l.place (place_of l.self-inside.sizes.items xs)
