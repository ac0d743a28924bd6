use Rattle.std.proofs.Common.{◌≡◌, ◌∙◌, Bool, true, false, refl, sym, arith}
use Rattle.std.specs.Bool.{OnTrue, OnFalse}
use Rattle.implied_differences.specs.Differences.{IsReadable}
use Rattle.implied_differences.proofs.UsedVertices.{all_used, not_all_used}
use Rattle.implied_differences.proofs.Walking.{b_below}
use Rattle.implied_differences.proofs.readable.is_readable.Goals as goal

pub returns-then-i-ge64-clause-no : goal.returns-then-i-ge64-clause-no
returns-then-i-ge64-clause-no c r = let b = b_below c.args.c.now c.used-used.ensures.table c.args.i.now r in omega (arith, b, c.if-i-ge64.true)

pub returns-clause-no : goal.returns-clause-no
returns-clause-no c = go c.is_inside.result refl
  where
    go : (b : Bool) → c.is_inside.result ≡ b → OnFalse b (IsReadable c.args.c.now c.args.i.now → ⊥)
    go true e = tt
    go false e = not_all_used c.args.c.now c.used-used.ensures.table c.used-used.result.bits c.used-used.ensures.fits c.used-used.ensures.members c.args.i.now
        c.vertices_of.result.bits c.vertices_of.ensures (sym c.is_inside.ensures ∙ e)

pub returns-clause-yes : goal.returns-clause-yes
returns-clause-yes c = go c.is_inside.result refl
  where
    go : (b : Bool) → c.is_inside.result ≡ b → OnTrue b (IsReadable c.args.c.now c.args.i.now)
    go true e = record {
      order = omega (arith, c.if-i.false);
      used = all_used c.args.c.now c.used-used.ensures.table c.used-used.result.bits c.used-used.ensures.fits c.used-used.ensures.members c.args.i.now
          c.vertices_of.result.bits c.vertices_of.ensures (sym c.is_inside.ensures ∙ e);
      a_apart = sym c.has.ensures ∙ c.if-has.false;
      b_apart = sym c.has-2.ensures ∙ c.if-has-2.false;
    }
    go false e = tt
