-- A step makes at most one expression, and is refused in at most one way; never both.
use Rattle.std.proofs.Common.{ℕ, ◌+◌, ◌-◌, ◌≡◌, Bool, sym, ap, ◌∙◌, ◌||◌, inl, inr, subst, List, [], ◌∷◌, ◌++◌, Some, None, Option, MatchOption, arith}
use Rattle.mixed_graph.specs.Vocabulary.{has, MixedGraph}
use Rattle.m_separation.specs.declared.paths.OpenPath.{OpenPath}
use Rattle.m_separation.specs.Vocabulary.{IsSeparated, IsOpenPath, steps_from}
use Rattle.std.specs.Prelude.{slice_index}
use Rattle.do_rules.specs.declared.rules.Rule.{Rule}
use Rattle.do_rules.specs.Vocabulary.{IsBlockedFor, IsOpenFor}
use Rattle.do_rules.proofs.RuleGraphs.{one_graph}
use Rattle.prob_expr.specs.Vocabulary.{cap, PlainFormula, PlainTarget, term_of}
use Rattle.prob_expr.specs.Tree.{Tree}
use Rattle.do_derivation.specs.Plans.{Plan, Plans, no_plans, plan, numbered, PlainLemma, PlainDerivation}
use Rattle.do_derivation.specs.Shapes.{child, with_child}
use Rattle.do_derivation.specs.Table.{Row, row}
use Rattle.do_derivation.specs.Steps.{IsMade, RowRefuses, Makes, MakesAll, Refuses, RefusesAny}
use Rattle.do_derivation.specs.Accepts.{Accepts, AcceptsNot, Define, DefinesNot, EndsNot, start_of, sets_of}
use Rattle.do_derivation.specs.Sound.{StepsAreExact, AcceptsOrNot, kind_of}
use Rattle.do_derivation.specs.declared.faults.StepFault.{StepFault}
use Rattle.do_derivation.specs.declared.faults.StepFault.TheVariants.{NoPlace}
use Rattle.do_derivation.specs.declared.faults.CheckFault.{CheckFault}

-- an open path is an open walk
not_open : (g : MixedGraph) (x y w : ℕ → Bool) (p : OpenPath) → IsSeparated g x y w → IsOpenPath g x y w p.vertices p.marks p.count → ⊥
not_open g x y w p h o = h (slice_index p.vertices 0) (steps_from p.vertices p.marks 0 (p.count - 1)) o.walk

-- no path is open in a rule's graph where what the rule asks holds
pub holds_or_fails : (g : MixedGraph) (rule : Rule) (x y z w : ℕ → Bool) (p : OpenPath) → IsBlockedFor rule g x y z w → IsOpenFor rule g x y z w p → ⊥
holds_or_fails g rule x y z w p h f =
    not_open h.graph y z (λ v. x v || w v) p h.separated
    (subst (λ k. IsOpenPath k y z (λ v. x v || w v) p.vertices p.marks p.count) (one_graph rule g x z w f.graph h.graph f.is_graph h.is_graph) f.path)

row_once : (g : MixedGraph) (r : Row) (x y : Tree) → IsMade g r x → IsMade g r y → x ≡ y
row_once g (Row.Refuse f) x y a b = absurd a
row_once g (Row.Make e) x y a b = a ∙ sym b
row_once g (Row.Ask rule x' y' z w e) x y a b = a.1 ∙ sym b.1

row_either : (g : MixedGraph) (r : Row) (x : Tree) (f : StepFault) → IsMade g r x → RowRefuses g r f → ⊥
row_either g (Row.Refuse h) x f a b = a
row_either g (Row.Make e) x f a b = b
row_either g (Row.Ask rule x' y z w e) x f a b = holds_or_fails g rule (has x') (has y) (has z) (has w) b.0 a.0 b.1

row_fault : (g : MixedGraph) (r : Row) (f h : StepFault) → RowRefuses g r f → RowRefuses g r h → kind_of f ≡ kind_of h
row_fault g (Row.Refuse x) f h a b = ap kind_of (a ∙ sym b)
row_fault g (Row.Make e) f h a b = absurd a
row_fault g (Row.Ask rule x' y z w e) f h a b = ap kind_of a.2 ∙ sym (ap kind_of b.2)

at_once : (e : Tree) (i : ℕ) (o : Option Tree) (R : Tree → Tree → Type 0) (x y : Tree) → ((c a b : Tree) → R c a → R c b → a ≡ b)
    → MatchOption o ⊥ (λ c. (c' : Tree) × R c c' × (x ≡ with_child e i c')) → MatchOption o ⊥ (λ c. (c' : Tree) × R c c' × (y ≡ with_child e i c')) → x ≡ y
at_once e i None R x y h a b = absurd a
at_once e i (Some c) R x y h a b = a.2 ∙ ap (λ z. with_child e i z) (h c a.0 b.0 a.1 b.1) ∙ sym b.2

at_either : (e : Tree) (i : ℕ) (o : Option Tree) (R : Tree → Tree → Type 0) (Q : Tree → Type 0) (x : Tree) (P : Type 0) → ((c a : Tree) → R c a → Q c → ⊥)
    → MatchOption o ⊥ (λ c. (c' : Tree) × R c c' × (x ≡ with_child e i c')) → MatchOption o P (λ c. Q c) → ⊥
at_either e i None R Q x P h a b = a
at_either e i (Some c) R Q x P h a b = h c a.0 a.1 b

at_fault : (i b k j : ℕ) (f h : StepFault) (o : Option Tree) (Q Q' : Tree → Type 0) → ((c : Tree) → Q c → Q' c → (k ≡ j) × (kind_of f ≡ kind_of h))
    → MatchOption o ((k ≡ b) × (f ≡ NoPlace i)) (λ c. Q c) → MatchOption o ((j ≡ b) × (h ≡ NoPlace i)) (λ c. Q' c)
    → (k ≡ j) × (kind_of f ≡ kind_of h)
at_fault i b k j f h None Q Q' same p r = (p.0 ∙ sym r.0, ap kind_of (p.1 ∙ sym r.1))
at_fault i b k j f h (Some c) Q Q' same p r = same c p r

module _ (g : MixedGraph) (lemmas : List ℕ) where
  mutual
    pub made_once : (p : Plan) (e x y : Tree) → Makes g lemmas p e x → Makes g lemmas p e y → x ≡ y
    made_once (Plan.Make move) e x y a b = row_once g (row g.vertices lemmas move e) x y a b
    made_once (Plan.At i p) e x y a b = at_once e i (child e i) (λ c c'. Makes g lemmas p c c') x y (λ c u v. made_once p c u v) a b
    made_once (Plan.Then ps) e x y a b = made_all_once ps e x y a b

    made_all_once : (ps : Plans) (e x y : Tree) → MakesAll g lemmas ps e x → MakesAll g lemmas ps e y → x ≡ y
    made_all_once no_plans e x y a b = a ∙ sym b
    made_all_once (plan p ps) e x y a b = made_all_once ps a.0 x y a.2 (subst (λ m. MakesAll g lemmas ps m y) (sym (made_once p e a.0 b.0 a.1 b.1)) b.2)

  mutual
    pub either_made : (p : Plan) (e x : Tree) (n k : ℕ) (f : StepFault) → Makes g lemmas p e x → Refuses g lemmas p e n k f → ⊥
    either_made (Plan.Make move) e x n k f a b = row_either g (row g.vertices lemmas move e) x f a b.1
    either_made (Plan.At i p) e x n k f a b =
        at_either e i (child e i) (λ c c'. Makes g lemmas p c c') (λ c. Refuses g lemmas p c (n + 1) k f) x ((k ≡ cap (n + 1)) × (f ≡ NoPlace i))
        (λ c u. either_made p c u (n + 1) k f) a b
    either_made (Plan.Then ps) e x n k f a b = either_all ps e x n k f a b

    either_all : (ps : Plans) (e x : Tree) (n k : ℕ) (f : StepFault) → MakesAll g lemmas ps e x → RefusesAny g lemmas ps e n k f → ⊥
    either_all no_plans e x n k f a b = b
    either_all (plan p ps) e x n k f a (inl b) = either_made p e a.0 n k f a.1 b
    either_all (plan p ps) e x n k f a (inr b) = either_all ps b.0 x (n + numbered p) k f
        (subst (λ m. MakesAll g lemmas ps m x) (made_once p e a.0 b.0 a.1 b.1) a.2) b.2

  mutual
    pub one_fault : (p : Plan) (e : Tree) (n k j : ℕ) (f h : StepFault) → Refuses g lemmas p e n k f → Refuses g lemmas p e n j h → (k ≡ j)
        × (kind_of f ≡ kind_of h)
    one_fault (Plan.Make move) e n k j f h a b = (a.0 ∙ sym b.0, row_fault g (row g.vertices lemmas move e) f h a.1 b.1)
    one_fault (Plan.At i p) e n k j f h a b =
        at_fault i (cap (n + 1)) k j f h (child e i) (λ c. Refuses g lemmas p c (n + 1) k f) (λ c. Refuses g lemmas p c (n + 1) j h)
        (λ c. one_fault p c (n + 1) k j f h) a b
    one_fault (Plan.Then ps) e n k j f h a b = one_fault_all ps e n k j f h a b

    one_fault_all : (ps : Plans) (e : Tree) (n k j : ℕ) (f h : StepFault) → RefusesAny g lemmas ps e n k f → RefusesAny g lemmas ps e n j h → (k ≡ j)
        × (kind_of f ≡ kind_of h)
    one_fault_all no_plans e n k j f h a b = absurd a
    one_fault_all (plan p ps) e n k j f h (inl a) (inl b) = one_fault p e n k j f h a b
    one_fault_all (plan p ps) e n k j f h (inl a) (inr b) = absurd (either_made p e b.0 n k f b.1 a)
    one_fault_all (plan p ps) e n k j f h (inr a) (inl b) = absurd (either_made p e a.0 n j h a.1 b)
    one_fault_all (plan p ps) e n k j f h (inr a) (inr b) =
        one_fault_all ps a.0 (n + numbered p) k j f h a.2 (subst (λ m. RefusesAny g lemmas ps m (n + numbered p) j h) (sym (made_once p e a.0 b.0 a.1 b.1)) b.2)

-- a derivation is accepted or has a first fault, not both
defines_either : (g : MixedGraph) (before : List ℕ) (k : ℕ) (ls : List PlainLemma) (ds : List Tree) (fault : CheckFault) → Define g before ls ds
    → DefinesNot g before k ls ds fault → ⊥
defines_either g before k [] [] fault a b = b
defines_either g before k [] (d ∷ ds) fault a b = a
defines_either g before k (l ∷ ls) [] fault a b = a
defines_either g before k (l ∷ ls) (d ∷ ds) fault a (inl b) = either_made g before l.plan (start_of g.vertices l.set) d 0 b.0 b.1 a.0 b.2
defines_either g before k (l ∷ ls) (d ∷ ds) fault a (inr (inl b)) = b.2 (made_once g before l.plan (start_of g.vertices l.set) b.0 d b.1 a.0)
defines_either g before k (l ∷ ls) (d ∷ ds) fault a (inr (inr b)) = defines_either g (before ++ (l.set ∷ [])) (k + 1) ls ds fault a.1 b.1

-- an accepted derivation has no first fault
pub accepts_either : (g : MixedGraph) (allowed : List ℕ) (t : PlainTarget) (f : PlainFormula) (d : PlainDerivation) (fault : CheckFault)
    → Accepts g allowed t f d → AcceptsNot g allowed t f d fault → ⊥
accepts_either g allowed t f d fault a (inl b) = defines_either g [] 0 d.lemmas f.defs fault a.define b
accepts_either g allowed t f d fault a (inr b) = ends b.1
  where
    ends : EndsNot g allowed t f d fault → ⊥
    ends (inl r) = either_made g (sets_of d.lemmas) d.main (term_of t) f.main 0 r.0 r.1 a.main r.2
    ends (inr (inl r)) = r.2 (made_once g (sets_of d.lemmas) d.main (term_of t) r.0 f.main r.1 a.main)
    ends (inr (inr r)) = absurd (grind (arith, a.listed, r.1))

pub steps_are_exact : StepsAreExact
steps_are_exact = λ g lemmas p e. record { one_result = made_once g lemmas p e; one_fault = one_fault g lemmas p e; not_both = either_made g lemmas p e }

pub accepts_or_not : AcceptsOrNot
accepts_or_not = λ g allowed t f d fault a b. accepts_either g allowed t f d fault a b
