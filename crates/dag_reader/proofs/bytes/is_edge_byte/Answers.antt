use Rattle.std.proofs.Common.{arith}
use Rattle.dag_reader.proofs.ByteKinds.{edge_kind}
use Rattle.dag_reader.proofs.bytes.is_edge_byte.Goals as goal

pub returns : goal.returns
returns c = edge_kind c.args.byte (omega arith)
