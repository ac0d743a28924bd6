use Rattle.std.proofs.Common.{arith}
use Rattle.dag_reader.proofs.ByteKinds.{sure_kind}
use Rattle.dag_reader.proofs.bytes.begins_name.Goals as goal

pub returns : goal.returns
returns c = sure_kind c.args.byte (omega arith)
