use Rattle.std.proofs.Common.{◌≡◌, ◌≤◌, ◌*◌, ap, ◌∙◌, sym, subst, arith, rules, Some, Ok, Err}
use Rattle.quantity.specs.declared.exact.Exact.{Exact}
use Rattle.quantity.specs.declared.fault.QuantityFault.TheVariants.{TooWide}
use Rattle.quantity.specs.Kinds.{pair}
use Rattle.differences.specs.Kinds.{gives_some}
use Rattle.differences.proofs.SubtractionSteps.{wide_bottom, wide_first, wide_second, nothing_left, something_left, subtracted, positive_bottom, named}
use Rattle.differences.proofs.exact.ExactDifference.subtract.Goals as goal

pub returns-in_err-bottom : goal.returns-in_err-bottom
returns-in_err-bottom c =
    let s = c.args.self.now in let o = c.args.other.now in let x = c.reduced-bottoms.result.p in let y = c.reduced-bottoms.result.q in
    let e : c.from_residual.result ≡ Err TooWide = search rules in
    ap (gives_some (λ (e : Exact). pair e.p e.q)) e ∙ wide_bottom (x * o.q) (s.p * y) (o.p * x) c.in_err-bottom.ensures.wide
    ∙ subtracted s.p s.q o.p o.q x y s.positive o.positive c.reduced-bottoms.ensures

pub returns-in_err-first : goal.returns-in_err-first
returns-in_err-first c =
    let s = c.args.self.now in let o = c.args.other.now in let x = c.reduced-bottoms.result.p in let y = c.reduced-bottoms.result.q in
    let e : c.from_residual-in_err-first.result ≡ Err TooWide = search rules in
    ap (gives_some (λ (e : Exact). pair e.p e.q)) e ∙ wide_first (x * o.q) (s.p * y) (o.p * x) c.in_err-first.ensures.wide
    ∙ subtracted s.p s.q o.p o.q x y s.positive o.positive c.reduced-bottoms.ensures

pub returns-in_err-second : goal.returns-in_err-second
returns-in_err-second c =
    let s = c.args.self.now in let o = c.args.other.now in let x = c.reduced-bottoms.result.p in let y = c.reduced-bottoms.result.q in
    let e : c.from_residual-in_err-second.result ≡ Err TooWide = search rules in
    ap (gives_some (λ (e : Exact). pair e.p e.q)) e ∙ wide_second (x * o.q) (s.p * y) (o.p * x) c.in_err-second.ensures.wide
    ∙ subtracted s.p s.q o.p o.q x y s.positive o.positive c.reduced-bottoms.ensures

pub returns-then-first-second : goal.returns-then-first-second
returns-then-first-second c =
    let s = c.args.self.now in let o = c.args.other.now in let x = c.reduced-bottoms.result.p in let y = c.reduced-bottoms.result.q in
    let l = c.in_ok-bottom in let t = c.in_ok-first in let u = c.in_ok-second in
    nothing_left l.bottom t.first u.second l.ensures.fits t.ensures.fits u.ensures.fits c.if-first-second.true
    ∙ named l.bottom t.first u.second (x * o.q) (s.p * y) (o.p * x) l.ensures.value t.ensures.value u.ensures.value
    ∙ subtracted s.p s.q o.p o.q x y s.positive o.positive c.reduced-bottoms.ensures

pub reduced-requires-clause-positive : goal.reduced-requires-clause-positive
reduced-requires-clause-positive c =
    let s = c.args.self.now in let o = c.args.other.now in
    subst (λ n. 1 ≤ n) (sym c.in_ok-bottom.ensures.value)
    (positive_bottom s.q o.q c.reduced-bottoms.result.p c.reduced-bottoms.result.q s.positive o.positive c.reduced-bottoms.ensures)

pub returns : goal.returns
returns c =
    let s = c.args.self.now in let o = c.args.other.now in let x = c.reduced-bottoms.result.p in let y = c.reduced-bottoms.result.q in
    let l = c.in_ok-bottom in let t = c.in_ok-first in let u = c.in_ok-second in
    ap (λ n. Ok (Some n)) c.reduced.ensures
    ∙ something_left l.bottom t.first u.second l.ensures.fits t.ensures.fits u.ensures.fits (omega (arith, c.if-first-second.false))
    ∙ named l.bottom t.first u.second (x * o.q) (s.p * y) (o.p * x) l.ensures.value t.ensures.value u.ensures.value
    ∙ subtracted s.p s.q o.p o.q x y s.positive o.positive c.reduced-bottoms.ensures
