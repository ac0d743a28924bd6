use Rattle.std.proofs.Common.{refl, sym, ap, ◌∙◌}
use Rattle.mixed_graph.specs.Vocabulary.{has, graph_of}
use Rattle.instruments_command.specs.Right.{have_strata}
use Rattle.instruments_command.proofs.NoStrata.{no_strata_no_instrument}
use Rattle.instruments_command.proofs.reply.list_counted.Goals as goal

pub returns-then-have_strata : goal.returns-then-have_strata
returns-then-have_strata g c = (refl, c.in_ok-list.ensures.listed, sym (ap have_strata c.as_slice.ensures.value) ∙ sym c.have_strata.ensures ∙ c.if-have_strata.true)

pub returns : goal.returns
returns g c =
    let q = graph_of c.args.graph.now in (
      refl,
      no_strata_no_instrument q (has c.args.sets.x.bits) (has c.args.sets.y.bits) c.args.most c.args.graph.now.small c.in_ok-list.list.items
          c.requires.most c.in_ok-list.ensures.listed (sym (ap have_strata c.as_slice.ensures.value) ∙ sym c.have_strata.ensures ∙ c.if-have_strata.false),
    )
