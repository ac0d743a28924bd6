use Rattle.bounds_command.proofs.Known.{is_known}
use Rattle.bounds_command.proofs.Lawful.{bounds_is_left}
use Rattle.bounds_command.specs.Vocabulary.{request_of}
use Rattle.causal_cli.proofs.request.bound_over.Goals as goal

pub returns : goal.returns
returns c =
    let d = c.args.diagram.now in
    let q = request_of c.args.asked in
    let asked = rw c.in-Asked.is at c.in_ok-reply.ensures in
    bounds_is_left q d c.in-Asked.question (is_known d q c.in-Asked.question asked) asked
