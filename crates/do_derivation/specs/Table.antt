-- The table of the moves: under which conditions each makes which expression, and the fault that refuses it otherwise.
use Rattle.std.specs.Prelude.{ℕ, Bool, not, ◌&&◌, if◌then◌else◌, ◌==◌, ltb, leb, List, length, get_or, Option, Some, None}
use Rattle.do_rules.specs.declared.rules.Rule.{Rule}
use Rattle.do_rules.specs.declared.rules.Rule.TheVariants.{One, Two, Three}
use Rattle.mixed_graph.specs.Vocabulary.{union, minus, all, is_empty, is_apart, is_inside, is_below}
use Rattle.prob_expr.specs.Tree.{Tree, prob, sum, product, quotient, named}
use Rattle.do_derivation.specs.Plans.{Move}
use Rattle.do_derivation.specs.Shapes.{is_list_of, chained, unchained, grouped, narrowed, unwrapped}
use Rattle.do_derivation.specs.declared.faults.StepFault.{StepFault}
use Rattle.do_derivation.specs.declared.faults.StepFault.TheVariants.{NotATerm, Sets, BadOrder, Grouping, NoLemma, Shape}
use Rattle.do_derivation.specs.declared.moves.SetMove.TheVariants as set_move
use Rattle.do_derivation.specs.declared.moves.BareMove.TheVariants as bare_move

-- a row's outcome: refused; made; or made exactly where that rule holds with these x, y, z and w
pub data Row : Type 0 where
  Refuse : StepFault → Row
  Make : Tree → Row
  Ask : Rule → (x y z w : ℕ) → Tree → Row

-- what f says of the sets of a term, and the refusal of anything else
abbrev pub on_term : (ℕ → ℕ → ℕ → Row) → Tree → Row
on_term f (prob a b c) = f a b c
on_term f (sum u e) = Row.Refuse NotATerm
on_term f (product ts) = Row.Refuse NotATerm
on_term f (quotient p q) = Row.Refuse NotATerm
on_term f (named k) = Row.Refuse NotATerm

-- the row where the condition holds, else the refusal
abbrev pub if_so : Bool → Row → StepFault → Row
if_so holds row fault = if holds then row else Row.Refuse fault

-- what was made, else the refusal
abbrev pub if_made : Option Tree → StepFault → Row
if_made (Some t) fault = Row.Make t
if_made None fault = Row.Refuse fault

-- not empty, below n, and apart from a, b and c
abbrev pub is_new : ℕ → (z a b c : ℕ) → Bool
is_new n z a b c = not (is_empty z) && (is_below n z && (is_apart z a && (is_apart z b && is_apart z c)))

-- not empty and inside b
abbrev pub is_part : (z b : ℕ) → Bool
is_part z b = not (is_empty z) && is_inside z b

-- The table. n is the number of vertices; `lemmas` has the sets of the lemmas that may be cited.
abbrev pub row : ℕ → List ℕ → Move → Tree → Row
row n lemmas (Move.WithSet set_move.Rule1In z) e = on_term (λ a b c. if_so (is_new n z a b c) (Row.Ask One b a z c (prob a b (union c z))) Sets) e
row n lemmas (Move.WithSet set_move.Rule1Out z) e = on_term (λ a b c. if_so (is_part z c) (Row.Ask One b a z (minus c z) (prob a b (minus c z))) Sets) e
row n lemmas (Move.WithSet set_move.Rule2See z) e = on_term (λ a b c. if_so (is_part z b) (Row.Ask Two (minus b z) a z c (prob a (minus b z) (union c z))) Sets) e
row n lemmas (Move.WithSet set_move.Rule2Do z) e = on_term (λ a b c. if_so (is_part z c) (Row.Ask Two b a z (minus c z) (prob a (union b z) (minus c z))) Sets) e
row n lemmas (Move.WithSet set_move.Rule3In z) e = on_term (λ a b c. if_so (is_new n z a b c) (Row.Ask Three b a z c (prob a (union b z) c)) Sets) e
row n lemmas (Move.WithSet set_move.Rule3Out z) e = on_term (λ a b c. if_so (is_part z b) (Row.Ask Three (minus b z) a z c (prob a (minus b z) c)) Sets) e
row n lemmas (Move.Chain o) e = on_term (λ a b c. if_so (leb 2 (length o) && is_list_of o a) (Row.Make (product (chained b c o))) BadOrder) e
row n lemmas (Move.Bare bare_move.Unchain) e = if_made (unchained e) Shape
row n lemmas (Move.Group l) e = if_made (grouped l e) Grouping
row n lemmas (Move.WithSet set_move.Widen u) e = on_term (λ a b c. if_so (is_new n u a b c) (Row.Make (sum u (prob (union a u) b c))) Sets) e
row n lemmas (Move.Bare bare_move.Narrow) e = if_made (narrowed e) Shape
row n lemmas (Move.Bare bare_move.Split) e = on_term (λ a b c. if_so (not (is_empty c)) (Row.Make (quotient (prob (union a c) b 0) (prob c b 0))) Sets) e
row n lemmas (Move.Cite k) e =
    if_so (ltb k (length lemmas))
    (on_term (λ a b c. if_so (a == get_or lemmas k 0 && (b == minus (all n) (get_or lemmas k 0) && is_empty c)) (Row.Make (named k)) Shape) e)
    (NoLemma k)
row n lemmas (Move.Bare bare_move.Unwrap) e = if_made (unwrapped e) Shape
