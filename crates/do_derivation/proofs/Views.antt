-- The plain tree of a term, and the sets that a rule takes of it.
use Rattle.std.proofs.Common.{ℕ, ◌≡◌, true, not, sym, ap, subst, ◌∙◌, rules}
use Rattle.std.specs.Global.{Box}
use Rattle.mixed_graph.specs.declared.sets.VSet.{VSet}
use Rattle.mixed_graph.specs.Vocabulary.{has, minus, is_empty, is_inside}
use Rattle.finite_models.proofs.Bools.{and_second}
use Rattle.do_rules.specs.Vocabulary.{AreFourSets}
use Rattle.prob_expr.specs.declared.expr.Expr.{Expr, the_lemmas}
use Rattle.prob_expr.specs.Vocabulary.{are_terms}
use Rattle.prob_expr.specs.Tree.{prob, sum, quotient}
use Rattle.prob_expr.specs.View.{view}
use Rattle.prob_expr.specs.declared.expr.Expr.{Prob, Sum, Quotient}
use Rattle.do_derivation.specs.Table.{is_new, is_part}
use Rattle.do_derivation.proofs.TermSets.{IsTerm, term_from, new_from, four_sets, given_less, doing_less, taken_given, taken_doing}

pub view-Prob : (a b c : VSet) → view (Prob a b c) ≡ prob a.bits b.bits c.bits
view-Prob a b c = search (rules, the_lemmas)

pub view-Sum : (u : VSet) (b : Box Expr) → view (Sum u b) ≡ sum u.bits (view b.value)
view-Sum u b = search (rules, the_lemmas)

pub view-Quotient : (t b : Box Expr) → view (Quotient t b) ≡ quotient (view t.value) (view b.value)
view-Quotient t b = search (rules, the_lemmas)

term_of : (n : ℕ) (e : Expr) (a b c : VSet) → e ≡ Prob a b c → are_terms n (view e) ≡ true → IsTerm n a.bits b.bits c.bits
term_of n e a b c is t = term_from n a.bits b.bits c.bits (subst (λ x. are_terms n x ≡ true) (ap view is ∙ view-Prob a b c) t)

-- a term with a new set
pub new_sets : (n : ℕ) (e : Expr) (a b c z : VSet) → e ≡ Prob a b c → are_terms n (view e) ≡ true → is_new n z.bits a.bits b.bits c.bits ≡ true
    → AreFourSets n (has b.bits) (has a.bits) (has z.bits) (has c.bits)
new_sets n e a b c z is t k = four_sets n a.bits b.bits z.bits c.bits (term_of n e a b c is t) (new_from n z.bits a.bits b.bits c.bits k)

-- a term with a part of the condition, and the rest of it
pub given_sets : (n : ℕ) (e : Expr) (a b c z : VSet) (rest : ℕ) → e ≡ Prob a b c → are_terms n (view e) ≡ true → is_part z.bits c.bits ≡ true → rest
    ≡ minus c.bits z.bits → AreFourSets n (has b.bits) (has a.bits) (has z.bits) (has rest)
given_sets n e a b c z rest is t k same =
    let s = term_of n e a b c is t in
    subst (λ r. AreFourSets n (has b.bits) (has a.bits) (has z.bits) (has r)) (sym same)
    (four_sets n a.bits b.bits z.bits (minus c.bits z.bits) (given_less n a.bits b.bits c.bits z.bits s)
    (taken_given n a.bits b.bits c.bits z.bits s (and_second (not (is_empty z.bits)) (is_inside z.bits c.bits) k)))

-- a term with a part of the intervention, and the rest of it
pub doing_sets : (n : ℕ) (e : Expr) (a b c z : VSet) (rest : ℕ) → e ≡ Prob a b c → are_terms n (view e) ≡ true → is_part z.bits b.bits ≡ true → rest
    ≡ minus b.bits z.bits → AreFourSets n (has rest) (has a.bits) (has z.bits) (has c.bits)
doing_sets n e a b c z rest is t k same =
    let s = term_of n e a b c is t in
    subst (λ r. AreFourSets n (has r) (has a.bits) (has z.bits) (has c.bits)) (sym same)
    (four_sets n a.bits (minus b.bits z.bits) z.bits c.bits (doing_less n a.bits b.bits c.bits z.bits s)
    (taken_doing n a.bits b.bits c.bits z.bits s (and_second (not (is_empty z.bits)) (is_inside z.bits b.bits) k)))
