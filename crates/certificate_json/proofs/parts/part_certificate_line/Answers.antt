use Rattle.certificate.specs.Vocabulary.{part_certificate_view}
use Rattle.certificate_json.specs.PartCertificates.{part_certificate_members}
use Rattle.certificate_json.proofs.Members.{line_written}
use Rattle.certificate_json.proofs.PartsBack.{part_written_back}
use Rattle.certificate_json.proofs.parts.part_certificate_line.Goals as goal

pub returns-clause-written : goal.returns-clause-written
returns-clause-written c = line_written c.line.result (part_certificate_members c.args.names.now (part_certificate_view c.args.c.now))
    c.in_ok-object.object c.push_part_certificate_members.new.object c.in_ok-object.ensures c.in_ok-push_part_certificate_members.ensures.written
    c.line.ensures.text

pub returns-clause-reads_back : goal.returns-clause-reads_back
returns-clause-reads_back c writable shallow = part_written_back c.line.result c.args.names.now (part_certificate_view c.args.c.now)
    c.known.ensures c.in_ok-push_part_certificate_members.ensures.short writable shallow
