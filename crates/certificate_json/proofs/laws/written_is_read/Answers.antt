use Rattle.certificate_json.proofs.ReadsBack.{set_back, step_back, certificate_back, member_back, text_back}
use Rattle.certificate_json.proofs.PartsBack.{part_text_back}
use Rattle.certificate_json.proofs.laws.written_is_read.Goals as goal

pub returns-clause-sets : goal.returns-clause-sets
returns-clause-sets c = set_back

pub returns-clause-steps : goal.returns-clause-steps
returns-clause-steps c = step_back

pub returns-clause-values : goal.returns-clause-values
returns-clause-values c = certificate_back

pub returns-clause-members : goal.returns-clause-members
returns-clause-members c = member_back

pub returns-clause-texts : goal.returns-clause-texts
returns-clause-texts c = text_back

pub returns-clause-parts : goal.returns-clause-parts
returns-clause-parts c = part_text_back
