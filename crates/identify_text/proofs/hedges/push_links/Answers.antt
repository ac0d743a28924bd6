use Rattle.std.proofs.Common.{◌≡◌, ◌++◌, nat_lt, inl, inr, append-nil, sym, ap, ◌∙◌, arith}
use Rattle.std.proofs.lemmas.Bool.{cases_lt}
use Rattle.std.specs.List.{flat_map}
use Rattle.mixed_graph.specs.Vocabulary.{members_below}
use Rattle.identify_text.specs.HedgeLines.{link_line}
use Rattle.identify_text.proofs.Lines.{later_none, later_more}
use Rattle.identify_text.proofs.hedges.push_links.Goals as goal

pub loop-i-init : goal.loop-i-init
loop-i-init c = record {
  in_range = omega arith;
  told = sym (append-nil c.args.out.now.items) ∙ ap (λ t. c.args.out.now.items ++ t)
      (sym (later_none (link_line c.args.names.now c.args.h.now) 1 (omega arith)));
}

pub loop-i-preserved : goal.loop-i-preserved
loop-i-preserved c = record {
  in_range = omega arith;
  told = later_more (link_line c.args.names.now c.args.h.now) c.loop-i.i c.args.out.now.items c.loop-i.out.items _ (omega arith)
      c.loop-i.invariant.told c.in_ok-push_link.ensures;
}

pub returns : goal.returns
returns c =
    let f = link_line c.args.names.now c.args.h.now in let count = c.args.h.now.links.count in
    c.loop-i.invariant.told ∙ ap (λ t. c.args.out.now.items ++ t) (elim (cases_lt 0 count) [
      | inl some ↦ let all : c.loop-i.i ≡ count = omega arith in ap (λ k. flat_map f (members_below (nat_lt 0) k)) all
      | inr none ↦ later_none f c.loop-i.i (omega arith) ∙ sym (later_none f count (omega arith))
    ])
