use Rattle.std.proofs.Common.{refl}
use Rattle.mixed_graph.specs.Vocabulary.{graph_of}
use Rattle.derived_parts.specs.Vocabulary.{derived_views}
use Rattle.derived_certificates.proofs.ReadBack.{treated_back}
use Rattle.derived_certificates.proofs.certificates.treated_certificate.Goals as goal

pub returns : goal.returns
returns c =
    let made = c.in_ok-parts.ensures in
    let ps = derived_views c.in_ok-parts.parts.items in record {
      parts = ps;
      is = refl;
      accepted = made.accepted;
      reads_back = treated_back (graph_of c.args.g.now) c.args.g.now.valid c.args.x.bits c.args.y.bits c.args.z.bits ps c.requires.target c.requires.some
          made.accepted made.written c.have_short_steps.ensures;
    }
