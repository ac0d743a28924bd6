use Rattle.std.proofs.Common.{sym, ◌∙◌, refl, arith}
use borrow.Author.Count.{below_more}
use Rattle.hedge.proofs.joined_sets.spanning.earliest.Goals as goal

pub loop-i-preserved : goal.loop-i-preserved
loop-i-preserved c = below_more _ _ c.loop-i.invariant (sym (c.spouses-near.ensures.members _) ∙ sym c.has.ensures ∙ c.if-has.false)

pub returns-then-has : goal.returns-then-has
returns-then-has c = record {
  place = c.loop-i.i;
  earlier = c.loop-i-test.true;
  is = refl;
  joined = sym (c.spouses-near.ensures.members _) ∙ sym c.has.ensures ∙ c.if-has.true;
  earliest = c.loop-i.invariant;
}

pub unreachable-requires : goal.unreachable-requires
unreachable-requires c = let s = c.requires.some in absurd (let f = c.loop-i.invariant s.0 (let l = s.1 in omega arith) in let t = s.2 in cc)
