-- Formulas have equal values over two kinds of weights that agree, up to a factor, on the events that their terms ask for.
use Rattle.std.proofs.Common.{ℕ, zero, suc, ◌*◌, ◌≡◌, ◌<◌, ◌≤◌, Bool, true, false, cond, eqb, ap, ◌∙◌, ◌||◌, sym, subst, List, [], ◌∷◌, arith, mul-pos}
use Rattle.std.proofs.Math.Nat.{eq_of_mul-eq-mul_left}
use Rattle.mixed_graph.specs.Vocabulary.{has, is_empty}
use Rattle.fractions.specs.Vocabulary.{Fraction, over, IsEqual}
use Rattle.fractions.proofs.FractionLaws.{equal_refl, mul_equal, div_equal}
use Rattle.finite_models.specs.Vocabulary.{IsAssignment}
use Rattle.finite_models.proofs.Bools.{and_first, and_second}
use Rattle.prob_expr.specs.Tree.{Tree, prob, sum, product, quotient, named, Trees, no_trees, tree, PlainFormula}
use Rattle.prob_expr.specs.Terms.{is_listed, is_under, are_under, all_under}
use Rattle.prob_expr.specs.Values.{Weights, term_value, value, product_value, values_from, value_of, add_over}
use Rattle.prob_expr.proofs.Boxes.{assignment_set, add_over_equal, add_over_positive}

-- numbers in the ratio of two totals have one quotient
ratio : (p d p' d' t t' : ℕ) → 1 ≤ t * t' → p * t' ≡ p' * t → d * t' ≡ d' * t → p * d' ≡ p' * d
ratio p d p' d' t t' pos e f =
    eq_of_mul-eq-mul_left (t * t') pos (p * d') (p' * d)
    ((let r : (t * t') * (p * d') ≡ (p * t') * (d' * t) = omega arith in r) ∙ ap (λ n. n * (d' * t)) e ∙ ap (λ n. (p' * t) * n) (sym f)
    ∙ (let r : (p' * t) * (d * t') ≡ (t * t') * (p' * d) = omega arith in r))

-- a factor of a positive product is positive
pub left_positive : (a b c : ℕ) → 1 ≤ c → c ≡ a * b → 1 ≤ a
left_positive zero b c le e = absurd (let z : 0 * b ≡ 0 = omega arith in omega arith)
left_positive (suc a) b c le e = omega arith

-- a kind of events: what is set, and what has its values
abbrev pub Events : Type 1
Events = ℕ → (ℕ → Bool) → Type 0

-- each term of the tree asks for events of the kind
abbrev mutual
  pub Asks : Events → Tree → Type 0
  Asks K (prob a b c) = K b (λ v. has a v || has c v) × K b (has c)
  Asks K (sum u e) = Asks K e
  Asks K (product ts) = AskEach K ts
  Asks K (quotient x y) = Asks K x × Asks K y
  Asks K (named k) = Unit {0}

  pub AskEach : Events → Trees → Type 0
  AskEach K no_trees = Unit {0}
  AskEach K (tree t ts) = Asks K t × AskEach K ts

abbrev pub AllAsk : Events → List Tree → Type 0
AllAsk K [] = Unit {0}
AllAsk K (d ∷ ds) = Asks K d × AllAsk K ds

-- equal, and a number above 0
pub record AreOne (f g : Fraction) : Type 0 where
  pub positive : 1 ≤ f.top
  pub equal : IsEqual f g

-- Two kinds of weights that agree on the events of a kind up to the factors t and t', and aren't 0 there.
module _ (w w' : Weights) (same : w.vertices ≡ w'.vertices) (sizes : (v : ℕ) → v < w.vertices → w.size v ≡ w'.size v)
    (some : (v : ℕ) → v < w.vertices → 1 ≤ w.size v)
    (t t' : ℕ) (pos : 1 ≤ t * t') (K : Events)
    (positive : (b : ℕ) (a : ℕ → Bool) → K b a → (s : ℕ → ℕ) → IsAssignment w.vertices w.size s → 1 ≤ w.weight (has b) a s)
    (alike : (b : ℕ) (a : ℕ → Bool) → K b a → (s : ℕ → ℕ) → IsAssignment w.vertices w.size s → w.weight (has b) a s * t' ≡ w'.weight (has b) a s * t) where
  abbrev pub AreAlike : (q q' : ℕ → (ℕ → ℕ) → Fraction) → Type 0
  AreAlike q q' = (k : ℕ) (s : ℕ → ℕ) → IsAssignment w.vertices w.size s → AreOne (q k s) (q' k s)

  other_positive : (b : ℕ) (a : ℕ → Bool) → K b a → (s : ℕ → ℕ) → IsAssignment w.vertices w.size s → 1 ≤ w'.weight (has b) a s
  other_positive b a k s il =
      left_positive (w'.weight (has b) a s) t (w.weight (has b) a s * t') (mul-pos (positive b a k s il) (left_positive t' t (t * t') pos (omega arith)))
      (alike b a k s il)

  pub term_alike : (a b c : ℕ) → K b (λ v. has a v || has c v) → K b (has c) → (s : ℕ → ℕ) → IsAssignment w.vertices w.size s
      → AreOne (term_value w a b c s) (term_value w' a b c s)
  term_alike a b c k l s il = record {
    positive = positive b (λ v. has a v || has c v) k s il;
    equal = record {
      left_bottom = positive b (has c) l s il;
      right_bottom = other_positive b (has c) l s il;
      products = ratio (w.weight (has b) (λ v. has a v || has c v) s) (w.weight (has b) (has c) s) (w'.weight (has b) (λ v. has a v || has c v) s)
          (w'.weight (has b) (has c) s) t t' pos
          (alike b (λ v. has a v || has c v) k s il) (alike b (has c) l s il);
    };
  }

  module _ (q q' : ℕ → (ℕ → ℕ) → Fraction) (definitions : AreAlike q q') where
    mutual
      value_alike : (e : Tree) → Asks K e → (s : ℕ → ℕ) → IsAssignment w.vertices w.size s → AreOne (value w q e s) (value w' q' e s)
      value_alike (prob a b c) asks s il = term_alike a b c asks.0 asks.1 s il
      value_alike (sum v e) asks s il = record {
        positive = (add_over_positive (has v) w.size (IsAssignment w.vertices w.size) w.vertices (value w q e) s some
            (λ c i x lt ui xl p. assignment_set w.vertices w.size c i x xl p) il
            (λ c p. let one = value_alike e asks c p in record { top = one.positive; bottom = one.equal.left_bottom })).top;
        equal = subst (λ n. IsEqual (add_over (has v) w.size w.vertices (value w q e) s) (add_over (has v) w'.size n (value w' q' e) s)) same
            (add_over_equal (has v) w.size (IsAssignment w.vertices w.size) w.vertices w'.size (value w q e) (value w' q' e) s sizes
            (λ c i x lt ui xl p. assignment_set w.vertices w.size c i x xl p) il
            (λ c p. (value_alike e asks c p).equal));
      }
      value_alike (product ts) asks s il = product_alike ts asks s il
      value_alike (quotient x y) asks s il =
          let p = value_alike x asks.0 s il in
          let r = value_alike y asks.1 s il in
          record {
            positive = mul-pos p.positive r.equal.left_bottom;
            equal = div_equal (value w q x s) (value w' q' x s) (value w q y s) (value w' q' y s) r.positive p.equal r.equal;
          }
      value_alike (named k) asks s il = definitions k s il

      product_alike : (ts : Trees) → AskEach K ts → (s : ℕ → ℕ) → IsAssignment w.vertices w.size s → AreOne (product_value w q ts s) (product_value w' q' ts s)
      product_alike no_trees asks s il = record { positive = omega arith; equal = equal_refl (over 1 1) (omega arith) }
      product_alike (tree e ts) asks s il =
          let p = value_alike e asks.0 s il in
          let r = product_alike ts asks.1 s il in
          record {
            positive = mul-pos p.positive r.positive;
            equal = mul_equal (value w q e s) (value w' q' e s) (product_value w q ts s) (product_value w' q' ts s) p.equal r.equal;
          }

  definitions_alike : (ds : List Tree) (k : ℕ) (q q' : ℕ → (ℕ → ℕ) → Fraction) → AreAlike q q' → AllAsk K ds
      → AreAlike (values_from w q k ds) (values_from w' q' k ds)
  definitions_alike [] k q q' h asks = h
  definitions_alike (d ∷ ds) k q q' h asks =
      definitions_alike ds (suc k) (λ j s. cond (eqb j k) (value w q d s) (q j s)) (λ j s. cond (eqb j k) (value w' q' d s) (q' j s))
      (λ j s il. at (eqb j k) (value w q d s) (value w' q' d s) (q j s) (q' j s) (value_alike q q' h d asks.0 s il) (h j s il))
      asks.1
    where
      at : (b : Bool) (x x' y y' : Fraction) → AreOne x x' → AreOne y y' → AreOne (cond b x y) (cond b x' y')
      at true x x' y y' e f = e
      at false x x' y y' e f = f

  pub formula_alike : (f : PlainFormula) → AllAsk K f.defs → Asks K f.main → (s : ℕ → ℕ) → IsAssignment w.vertices w.size s
      → IsEqual (value_of w f s) (value_of w' f s)
  formula_alike f ds main s il =
      (value_alike (values_from w (λ j s. over 1 1) 0 f.defs) (values_from w' (λ j s. over 1 1) 0 f.defs)
      (definitions_alike f.defs 0 (λ j s. over 1 1) (λ j s. over 1 1) one ds)
      f.main main s il).equal
    where
      one : AreAlike (λ j s. over 1 1) (λ j s. over 1 1)
      one k s il = record { positive = omega arith; equal = equal_refl (over 1 1) (omega arith) }

-- ---- what trees ask for
-- every tree asks for events of a kind that all events are of
module _ (K : Events) (each : (b : ℕ) (a : ℕ → Bool) → K b a) where
  mutual
    pub asks_any : (e : Tree) → Asks K e
    asks_any (prob a b c) = (each b (λ v. has a v || has c v), each b (has c))
    asks_any (sum u e) = asks_any e
    asks_any (product ts) = ask_any ts
    asks_any (quotient x y) = (asks_any x, asks_any y)
    asks_any (named k) = tt

    ask_any : (ts : Trees) → AskEach K ts
    ask_any no_trees = tt
    ask_any (tree e ts) = (asks_any e, ask_any ts)

  pub all_ask_any : (ds : List Tree) → AllAsk K ds
  all_ask_any [] = tt
  all_ask_any (d ∷ ds) = (asks_any d, all_ask_any ds)

-- what is under experiments asks for events without an intervention or under one of them
module _ (zs : List ℕ) where
  abbrev pub UnderOne : Events
  UnderOne b a = (is_empty b || is_listed b zs) ≡ true

  mutual
    pub asks_under : (e : Tree) → is_under zs e ≡ true → Asks UnderOne e
    asks_under (prob a b c) u = (u, u)
    asks_under (sum v e) u = asks_under e u
    asks_under (product ts) u = ask_under ts u
    asks_under (quotient x y) u = (asks_under x (and_first (is_under zs x) (is_under zs y) u), asks_under y (and_second (is_under zs x) (is_under zs y) u))
    asks_under (named k) u = tt

    ask_under : (ts : Trees) → are_under zs ts ≡ true → AskEach UnderOne ts
    ask_under no_trees u = tt
    ask_under (tree e ts) u = (asks_under e (and_first (is_under zs e) (are_under zs ts) u), ask_under ts (and_second (is_under zs e) (are_under zs ts) u))

  pub all_ask_under : (ds : List Tree) → all_under zs ds ≡ true → AllAsk UnderOne ds
  all_ask_under [] u = tt
  all_ask_under (d ∷ ds) u = (asks_under d (and_first (is_under zs d) (all_under zs ds) u), all_ask_under ds (and_second (is_under zs d) (all_under zs ds) u))
