use Rattle.std.proofs.Common.{refl}
use Rattle.mixed_graph.specs.Vocabulary.{graph_of}
use Rattle.finite_models.proofs.DataFits.{data_fits}
use Rattle.finite_models.proofs.DataSound.{data_sound, form_of}
use Rattle.finite_models.proofs.checking.check_model.Goals as goal

pub returns-in-Some-clause-fits : goal.returns-in-Some-clause-fits
returns-in-Some-clause-fits c = (
  λ e. absurd (cc),
  λ h. absurd (let w = c.in-Some.ensures.wrong in w.wrong ((data_sound (graph_of c.args.g.now)
      c.args.m.now c.requires.sizes c.requires.mechanisms h.0 h.1).causes c.in-Some.j w.below)),
)

pub returns-in-Some-wrong_input-clause-fits : goal.returns-in-Some-wrong_input-clause-fits
returns-in-Some-wrong_input-clause-fits c = (
  λ e. absurd (cc),
  λ h. absurd (let w = c.in-Some-wrong_input.ensures.wrong in w.wrong (h.0.inputs c.in-Some-wrong_input.v w.below)),
)

pub returns-in-Some-wrong_value-clause-fits : goal.returns-in-Some-wrong_value-clause-fits
returns-in-Some-wrong_value-clause-fits c = (
  λ e. absurd (cc),
  λ h. absurd (let w = c.in-Some-wrong_value.ensures.wrong in w.wrong ((data_sound (graph_of c.args.g.now)
      c.args.m.now c.requires.sizes c.requires.mechanisms h.0 h.1).values c.in-Some-wrong_value.v w.below)),
)

pub returns-in-None-clause-fits : goal.returns-in-None-clause-fits
returns-in-None-clause-fits c = (
  λ e. (
    form_of (graph_of c.args.g.now) c.args.m.now (record {
      causes = c.in_default.ensures.right;
      inputs = c.in_default-wrong_input.ensures.right;
      values = c.in-None.ensures.right;
    }),
    data_fits (graph_of c.args.g.now) c.args.m.now c.requires.sizes c.requires.mechanisms c.requires.positive
        (record { causes = c.in_default.ensures.right; inputs = c.in_default-wrong_input.ensures.right; values = c.in-None.ensures.right }),
  ),
  λ h. refl,
)
