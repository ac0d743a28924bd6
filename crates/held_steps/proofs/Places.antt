-- A step and a part at a place, number by number.
use Rattle.std.proofs.Common.{ℕ, zero, suc, ◌+◌, ◌≡◌, ◌<◌, ◌≤◌, ◌-◌, List, [], ◌∷◌, Option, Some, None, MatchOption, option_map, Bor, length, get_or, take, drop, refl, sym, ap, subst, ◌∙◌, drop_of_length-le, arith}
use Rattle.std.specs.Prelude.{IfSome}
use Rattle.std.proofs.lemmas.List.{take_rest}
use Rattle.prob_expr.specs.Tree.{Tree}
use Rattle.prob_expr.specs.declared.expr.Expr.{Expr}
use Rattle.prob_expr.specs.Vocabulary.{views}
use Rattle.prob_expr.specs.View.{view}
use Rattle.do_derivation.specs.Plans.{Plan}
use Rattle.do_derivation.specs.Vocabulary.{child, factor_at}
use Rattle.do_derivation.proofs.Lists.{factor_some}
use Rattle.held_steps.specs.Holding.{at_place, part_of, part_below}

pub at_none : (place : List ℕ) (p : Plan) → length place < 1 → p ≡ at_place place p
at_none [] p none = refl
at_none (i ∷ place) p none = absurd (omega (arith, none))

pub at_first : (place : List ℕ) (p : Plan) → 1 ≤ length place
    → Plan.At (get_or place 0 0) (at_place (take (length place - 1) (drop 1 place)) p) ≡ at_place place p
at_first [] p some = absurd (omega (arith, some))
at_first (i ∷ place) p some = ap (λ (rest : List ℕ). Plan.At i (at_place rest p)) (take_rest (i ∷ place) 1)

-- the part at what is left of a place is that at what is left behind the next number, of the child of that number
at_next : (e : Tree) (place : List ℕ) (k : ℕ) → k < length place
    → part_of e (drop k place) ≡ part_below (child e (get_or place k 0)) (drop (suc k) place)
at_next e [] k lt = absurd (omega (arith, lt))
at_next e (i ∷ place) zero lt = refl
at_next e (i ∷ place) (suc k) lt = at_next e place k (omega (arith, lt))

pub part_turn : (e c whole : Tree) (place : List ℕ) (k : ℕ) → k < length place → Some c ≡ child e (get_or place k 0)
    → part_of e (drop k place) ≡ part_of whole place → part_of c (drop (k + 1) place) ≡ part_of whole place
part_turn e c whole place k lt is left =
    let next : part_of c (drop (suc k) place) ≡ part_of whole place =
    ap (λ (o : Option Tree). part_below o (drop (suc k) place)) is ∙ sym (at_next e place k lt) ∙ left in
    let one_more : suc k ≡ k + 1 = omega arith in
    subst (λ (j : ℕ). part_of c (drop j place) ≡ part_of whole place) one_more next

none_below : (place : List ℕ) → part_below None place ≡ None
none_below [] = refl
none_below (i ∷ place) = refl

-- where there is no such child there is no part
pub part_none : (e whole : Tree) (place : List ℕ) (k : ℕ) → k < length place → None ≡ child e (get_or place k 0)
    → part_of e (drop k place) ≡ part_of whole place → None ≡ part_of whole place
part_none e whole place k lt is left =
    sym (none_below (drop (suc k) place)) ∙ ap (λ (o : Option Tree). part_below o (drop (suc k) place)) is ∙ sym (at_next e place k lt) ∙ left

-- at the end of a place the part is what was reached
pub part_whole : (e whole : Tree) (place : List ℕ) (k : ℕ) → length place ≤ k → part_of e (drop k place) ≡ part_of whole place → Some e ≡ part_of whole place
part_whole e whole place k le left = sym (ap (λ (rest : List ℕ). part_of e rest) (drop_of_length-le place le)) ∙ left

-- what is found at a number is that factor
no_factor : (es : List Expr) (i : ℕ) → length es ≤ i → factor_at (views es) i ≡ None
no_factor [] i h = refl
no_factor (e ∷ es) zero h = absurd (omega (arith, h))
no_factor (e ∷ es) (suc i) h = no_factor es i (omega (arith, h))

pub factor_found : (es : List Expr) (i : ℕ) (r : Option (Bor Expr)) (P : Bor Expr → Type 0) → IfSome r (λ x. x.now ≡ get_or es i x.now)
    → MatchOption r (length es ≤ i) (λ x. (i < length es) × P x)
    → option_map (λ (x : Bor Expr). view x.now) r ≡ factor_at (views es) i
factor_found es i None P at is = sym (no_factor es i is)
factor_found es i (Some x) P at is = ap (λ (e : Expr). Some (view e)) at ∙ sym (factor_some es i x.now is.0)
