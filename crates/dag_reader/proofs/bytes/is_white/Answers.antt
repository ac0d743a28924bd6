use Rattle.std.proofs.Common.{arith}
use Rattle.dag_reader.proofs.ByteKinds.{white_kind}
use Rattle.dag_reader.proofs.bytes.is_white.Goals as goal

pub returns : goal.returns
returns c = white_kind c.args.byte (omega arith)
