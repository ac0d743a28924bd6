use Rattle.std.proofs.Common.{refl, subst}
use Rattle.std.specs.Prelude.{IfNone, IfSome}
use Rattle.mixed_graph.specs.Vocabulary.{graph_of, union}
use Rattle.hedge.specs.declared.hedge.Hedge.{Hedge}
use Rattle.hedge.specs.Vocabulary.{IsHedge}
use Rattle.derived_parts.specs.Vocabulary.{derived_views}
use Rattle.part_checks.specs.Vocabulary.{AreNaturallyAccepted, AreWellMade}
use Rattle.derived_certificates.proofs.ReadBack.{joint_apart, natural_back}
use Rattle.derived_certificates.proofs.certificates.natural_certificate.Goals as goal

pub derive_natural_parts-requires-clause-apart : goal.derive_natural_parts-requires-clause-apart
derive_natural_parts-requires-clause-apart c =
    joint_apart c.args.g.now.n c.args.x.bits c.args.y.bits c.args.m.bits c.args.z.bits c.requires.sets

pub returns : goal.returns
returns c =
    let g = graph_of c.args.g.now in
    let x = c.args.x.bits in let y = c.args.y.bits in let z = c.args.z.bits in
    let ps = derived_views c.in-Some.parts.items in
    let accepted = subst (λ r. IfSome r (λ v. AreNaturallyAccepted g x y z (derived_views v.items))) c.in-Some.is c.in_ok-parts.ensures.parts in
    record {
      parts = ps;
      is = refl;
      accepted = accepted;
      reads_back = natural_back g c.args.g.now.valid x c.args.m.bits y z ps c.requires.sets c.requires.some c.requires.outcome c.requires.mediator accepted
          (subst (λ r. IfSome r (λ v. AreWellMade g.vertices (derived_views v.items))) c.in-Some.is c.in_ok-parts.ensures.written)
          c.have_short_steps.ensures;
    }

pub unreachable-requires : goal.unreachable-requires
unreachable-requires c =
    let g = graph_of c.args.g.now in
    let found = subst (λ r. IfNone r ((h : Hedge) × IsHedge g c.args.x.bits (union c.args.y.bits c.args.z.bits) h)) c.in-None.is
    c.in_ok-parts.ensures.hedge in
    c.requires.no_hedge found.0 found.1
