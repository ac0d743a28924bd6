use Rattle.prob_expr.specs.Vocabulary.{formula_view, target_view}
use Rattle.do_derivation.specs.Vocabulary.{derivation_view}
use Rattle.certificate.specs.Vocabulary.{formula}
use Rattle.certificate_json.specs.Certificates.{certificate_members}
use Rattle.certificate_json.proofs.Members.{line_written}
use Rattle.certificate_json.proofs.ReadsBack.{written_back}
use Rattle.certificate_json.proofs.certificates.formula_certificate_line.Goals as goal

pub returns-clause-written : goal.returns-clause-written
returns-clause-written c = line_written c.line.result
    (certificate_members c.args.names.now (formula (target_view c.args.target.now) (formula_view c.args.formula.now) (derivation_view c.args.derivation.now)))
    c.in_ok-object.object c.push_formula_members.new.object c.in_ok-object.ensures c.in_ok-push_formula_members.ensures.written c.line.ensures.text

pub returns-clause-reads_back : goal.returns-clause-reads_back
returns-clause-reads_back c writable shallow = written_back c.line.result c.args.names.now
    (formula (target_view c.args.target.now) (formula_view c.args.formula.now) (derivation_view c.args.derivation.now))
    c.known.ensures c.in_ok-push_formula_members.ensures.kept writable shallow
