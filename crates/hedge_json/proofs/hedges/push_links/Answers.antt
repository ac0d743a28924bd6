use Rattle.std.proofs.Common.{◌≡◌, ℕ, List, nat_lt, inl, inr, map, sym, ap, ◌∙◌, arith}
use Rattle.std.proofs.lemmas.Bool.{cases_lt}
use Rattle.mixed_graph.specs.Vocabulary.{members_below}
use Rattle.answer_json.specs.Progress.{Progress}
use Rattle.answer_json.specs.Vocabulary.{with_values}
use Rattle.hedge_json.specs.Hedges.{link_json}
use Rattle.hedge_json.proofs.Laters.{none_later, one_later}
use Rattle.hedge_json.proofs.hedges.push_links.Goals as goal

pub loop-i-init : goal.loop-i-init
loop-i-init c = record {
  in_range = omega arith;
  told = sym (ap (λ ks. with_values (map (link_json c.args.names.now c.args.h.now) ks) c.args.object.now) (none_later 1 (omega arith)));
}

pub loop-i-preserved : goal.loop-i-preserved
loop-i-preserved c = record {
  in_range = omega arith;
  told = one_later (link_json c.args.names.now c.args.h.now) c.loop-i.i c.args.object.now c.loop-i.object _ (omega arith) c.loop-i.invariant.told
      c.in_ok-push_link.ensures;
}

pub returns : goal.returns
returns c =
    let written : List ℕ → Progress = λ ks. with_values (map (link_json c.args.names.now c.args.h.now) ks) c.args.object.now in
    let count = c.args.h.now.links.count in
    c.loop-i.invariant.told ∙ ap written (elim (cases_lt 0 count) [
      | inl some ↦ let all : c.loop-i.i ≡ count = omega arith in ap (members_below (nat_lt 0)) all
      | inr none ↦ none_later c.loop-i.i (omega arith) ∙ sym (none_later count (omega arith))
    ])
