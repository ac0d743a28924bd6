use Rattle.std.proofs.Common.{◌≡◌, ◌≤◌, ◌*◌, ◌+◌, ◌/◌, ap, ap₂, ◌∙◌, sym, subst, arith, rules, Ok, Err}
use Rattle.quantity.specs.declared.exact.Exact.{Exact}
use Rattle.quantity.specs.declared.fault.QuantityFault.TheVariants.{TooWide}
use Rattle.quantity.specs.Kinds.{pair, gives}
use Rattle.quantity.specs.Laws.Exact.{multiple_of}
use Rattle.quantity.proofs.ExactSteps.{added, wide_bottom, wide_top, fits, both}
use Rattle.quantity.proofs.exact.ExactQuantity.add.Goals as goal

pub returns-in_err-bottom : goal.returns-in_err-bottom
returns-in_err-bottom c =
    let s = c.args.self.now in let o = c.args.other.now in let g = c.gcd-g.result in
    let e : c.from_residual.result ≡ Err TooWide = search rules in
    ap (gives (λ (e : Exact). pair e.p e.q)) e ∙ wide_bottom ((s.q / g) * o.q) (s.p * (o.q / g) + o.p * (s.q / g)) c.in_err-bottom.ensures.wide
    ∙ added s.p s.q o.p o.q g s.positive o.positive c.gcd-g.ensures.value

pub returns-in_err-first : goal.returns-in_err-first
returns-in_err-first c =
    let s = c.args.self.now in let o = c.args.other.now in let g = c.gcd-g.result in
    let e : c.from_residual-in_err-first.result ≡ Err TooWide = search rules in
    ap (gives (λ (e : Exact). pair e.p e.q)) e ∙ wide_top ((s.q / g) * o.q) (s.p * (o.q / g) + o.p * (s.q / g)) (omega (arith, c.in_err-first.ensures.wide))
    ∙ added s.p s.q o.p o.q g s.positive o.positive c.gcd-g.ensures.value

pub returns-in_err-second : goal.returns-in_err-second
returns-in_err-second c =
    let s = c.args.self.now in let o = c.args.other.now in let g = c.gcd-g.result in
    let e : c.from_residual-in_err-second.result ≡ Err TooWide = search rules in
    ap (gives (λ (e : Exact). pair e.p e.q)) e ∙ wide_top ((s.q / g) * o.q) (s.p * (o.q / g) + o.p * (s.q / g)) (omega (arith, c.in_err-second.ensures.wide))
    ∙ added s.p s.q o.p o.q g s.positive o.positive c.gcd-g.ensures.value

pub returns-in_err-top : goal.returns-in_err-top
returns-in_err-top c =
    let s = c.args.self.now in let o = c.args.other.now in let g = c.gcd-g.result in
    let e : c.from_residual-in_err-top.result ≡ Err TooWide = search rules in
    ap (gives (λ (e : Exact). pair e.p e.q)) e
    ∙ wide_top ((s.q / g) * o.q) (s.p * (o.q / g) + o.p * (s.q / g)) (omega (
      arith,
      c.in_err-top.ensures.wide,
      c.in_ok-first.ensures.value,
      c.in_ok-second.ensures.value,
    ))
    ∙ added s.p s.q o.p o.q g s.positive o.positive c.gcd-g.ensures.value

pub reduced-requires-clause-positive : goal.reduced-requires-clause-positive
reduced-requires-clause-positive c =
    let s = c.args.self.now in let o = c.args.other.now in
    subst (λ n. 1 ≤ n) (ap (λ n. (s.q / n) * o.q) (sym c.gcd-g.ensures.value) ∙ sym c.in_ok-bottom.ensures.value)
    (multiple_of s.q o.q s.positive o.positive).positive

pub returns : goal.returns
returns c =
    let s = c.args.self.now in let o = c.args.other.now in let g = c.gcd-g.result in
    let top : c.in_ok-top.top ≡ s.p * (o.q / g) + o.p * (s.q / g) = c.in_ok-top.ensures.value
    ∙ ap₂ (λ x y. x + y) c.in_ok-first.ensures.value c.in_ok-second.ensures.value in
    ap (λ x. Ok x) c.reduced.ensures ∙ fits c.in_ok-bottom.bottom c.in_ok-top.top c.in_ok-bottom.ensures.fits c.in_ok-top.ensures.fits
    ∙ ap₂ both c.in_ok-bottom.ensures.value top ∙ added s.p s.q o.p o.q g s.positive o.positive c.gcd-g.ensures.value
