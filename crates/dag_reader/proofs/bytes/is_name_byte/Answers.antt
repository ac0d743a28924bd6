use Rattle.std.proofs.Common.{arith}
use Rattle.dag_reader.proofs.ByteKinds.{name_kind}
use Rattle.dag_reader.proofs.bytes.is_name_byte.Goals as goal

pub returns : goal.returns
returns c = name_kind c.args.byte (omega arith)
