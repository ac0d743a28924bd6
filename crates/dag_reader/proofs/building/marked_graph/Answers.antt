use Rattle.dag_reader.proofs.MarkLists.{all_inside_more}
use Rattle.dag_reader.proofs.building.marked_graph.Goals as goal

pub edges_and_roles-said-requires : goal.edges_and_roles-said-requires
edges_and_roles-said-requires c = all_inside_more _ 64 c.args.marks.now c.count-count.ensures.names.few c.requires
