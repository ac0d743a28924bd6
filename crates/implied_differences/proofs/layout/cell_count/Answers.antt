use Rattle.std.proofs.Common.{◌<◌, sym, subst}
use Rattle.count_table.proofs.Lists.{product-pos}
use Rattle.implied_differences.proofs.layout.cell_count.Goals as goal

pub returns-clause-some : goal.returns-clause-some
returns-clause-some c = subst (λ n. 0 < n) (sym c.count.ensures.count) (product-pos c.in_ok-places.places.sizes c.count.ensures.axes.each)
