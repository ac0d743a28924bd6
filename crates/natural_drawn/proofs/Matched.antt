-- Every model of the diagram as drawn that is positive on the observed vertices has one of the observed graph with its nested effects and its weights.
use Rattle.hidden_models.proofs.Drawn.{matched_folded}
use Rattle.natural_drawn.specs.Laws.{EachHasNestedMatched}
use Rattle.natural_drawn.proofs.Carried.{inside, one_nested, positive}
use Rattle.natural_drawn.proofs.Folding.{each_has_nested_folded}

pub each_has_nested_matched : EachHasNestedMatched
each_has_nested_matched = λ g ok l q is w fit observed used v all matched.
    let h = each_has_nested_folded g ok l q is w fit in record {
      folded = h.folded;
      fits = h.fits;
      positive = positive g ok l q is w h.folded fit h.fits h.folds observed;
      matched = matched_folded g ok l q is w h.folded fit h.fits h.folds.both.folds used v all matched;
      same = λ x m y z s t hs ht. one_nested g ok l q is w h.folded fit h.fits h.folds observed x m y z s t hs ht;
      levels = λ s hs. inside g ok l q is w h.folded fit h.fits h.folds s hs;
    }
