use Rattle.std.proofs.Common.{ℕ, ◌≡◌, ◌<◌, ◌∙◌, Bool, List, ap, ap₂, sym, subst, arith, map, length, get_or, Some, Ok}
use Rattle.std.proofs.lemmas.List.{length-map}
use Rattle.prob_expr.specs.View.{view}
use Rattle.prob_expr.specs.declared.expr.Expr.{Expr}
use Rattle.prob_expr.specs.Vocabulary.{formula_view}
use Rattle.prob_expr.specs.Tree.{Tree}
use Rattle.quantity.specs.Kinds.{Pair}
use Rattle.count_eval.specs.Evaluated.{evaluated}
use Rattle.count_eval.specs.Programs.{weights_in, is_used, cell_of, known, IsBelow}
use Rattle.count_eval.specs.Spots.{IsScope}
use Rattle.count_eval.proofs.Accepted.{accepted_ordered}
use Rattle.count_eval.proofs.Measures.{IsNamed, named_at, ordered_at, used_at}
use Rattle.count_eval.specs.Rules.{rule}
use Rattle.count_eval.specs.Preparations.{Preparation}
use Rattle.count_eval.proofs.TableLaws.{known_by}
use Rattle.count_eval.proofs.tables.tables.Tables.value_of.Goals as goal

-- a definition of the slice, as one of the formula's
named_in : (slice : List Expr) (ds : List Tree) (k : ℕ) (e : Expr) → map view slice ≡ ds → k < length ds → e ≡ get_or slice k e
    → IsNamed (map view slice) k (view e)
named_in slice ds k e same lt is = let long = length-map slice view in let many = ap (λ (l : List Tree). length l) same in
    named_at slice k e (omega (arith, long, many, lt)) is

pub value_at-requires-clause-scope : goal.value_at-requires-clause-scope
value_at-requires-clause-scope g c =
    let i = c.self.inside in let f = formula_view i.formula.now in let k = rule g.Q.Quantity.kind i.zero in let kept = c.self.invariant in
    let defs : map view c.as_slice-defs.result.now ≡ c.args.self.now.formula.defs = ap (λ (l : List Expr). map view l) c.as_slice-defs.ensures.value
    ∙ ap (λ (p : Preparation). p.formula.defs) c.self.view_is in
    let holds = λ (p : Preparation) (j : ℕ) (s : ℕ → ℕ) (x : Pair). known (rule g.Q.Quantity.kind p.zero) (weights_in p.vertices p.counts) p.formula.defs
    (length p.formula.defs) j s ≡ Ok x in
    subst (λ (ds : List Tree). IsScope k i.vertices c.args.self.now.counts ds (holds c.args.self.now)) (sym defs)
    (subst (λ (p : Preparation). IsScope k i.vertices p.counts p.formula.defs (holds p)) c.self.view_is
    (record {
      few = kept.evaluable.few;
      table = kept.counts;
      ordered = accepted_ordered i.vertices f kept.evaluable.accepted;
      used = kept.evaluable.defs;
      held = λ j s x h. h;
    }))

pub value_at-requires-clause-below : goal.value_at-requires-clause-below
value_at-requires-clause-below g c =
    let slice = c.as_slice-defs.result.now in let k = c.args.k in let e = c.index-defs-place.result in
    let defs : map view slice ≡ c.args.self.now.formula.defs = ap (λ (l : List Expr). map view l) c.as_slice-defs.ensures.value
    ∙ ap (λ (p : Preparation). p.formula.defs) c.self.view_is in
    let named = named_in slice c.args.self.now.formula.defs k e defs c.requires.definition c.index-defs-place.is in
    subst (λ (n : ℕ). IsBelow n (view e)) (omega arith) (ordered_at 0 k (map view slice) (view e)
    (value_at-requires-clause-scope g c).ordered named.within named.is)

pub value_at-requires-clause-used : goal.value_at-requires-clause-used
value_at-requires-clause-used g c =
    let slice = c.as_slice-defs.result.now in let k = c.args.k in let e = c.index-defs-place.result in
    let defs : map view slice ≡ c.args.self.now.formula.defs = ap (λ (l : List Expr). map view l) c.as_slice-defs.ensures.value
    ∙ ap (λ (p : Preparation). p.formula.defs) c.self.view_is in
    let named = named_in slice c.args.self.now.formula.defs k e defs c.requires.definition c.index-defs-place.is in
    used_at (is_used c.args.self.now.counts) k (map view slice) (view e) (value_at-requires-clause-scope g c).used named.within named.is

pub returns-in-Ok : goal.returns-in-Ok
returns-in-Ok g c =
    let p = c.args.self.now in let slice = c.as_slice-defs.result.now in let k = c.args.k in let e = c.index-defs-place.result in let s = cell_of c.args.cell in
    let kind = rule g.Q.Quantity.kind p.zero in let w = weights_in p.vertices p.counts in
    let defs : map view slice ≡ p.formula.defs = ap (λ (l : List Expr). map view l) c.as_slice-defs.ensures.value
    ∙ ap (λ (p : Preparation). p.formula.defs) c.self.view_is in
    let at = (named_in slice p.formula.defs k e defs c.requires.definition c.index-defs-place.is).is in
    known_by kind w p.formula.defs k (view e) s (Ok (g.Q.Quantity.numbers c.in-Ok.q)) c.requires.definition (omega arith)
    (subst (λ (ds : List Tree). view e ≡ get_or ds k (view e)) defs at)
    (c.in-Ok.ensures
    ∙ ap₂ (λ (z : Bool) (n : ℕ). evaluated (rule g.Q.Quantity.kind z) (weights_in n p.counts)
    (known (rule g.Q.Quantity.kind z) (weights_in n p.counts) (map view slice) k) (Some k) 0 (view e) s)
    (ap (λ (p : Preparation). p.zero) c.self.view_is) (ap (λ (p : Preparation). p.vertices) c.self.view_is)
    ∙ ap (λ (ds : List Tree). evaluated kind w (known kind w ds k) (Some k) 0 (view e) s) defs)
