-- A model that carries bits of hidden coins: the value of a vertex packs three bits for each vertex that they may begin at.
use Rattle.std.proofs.Common.{ℕ, zero, suc, ◌+◌, ◌-◌, ◌^◌, ◌≡◌, ◌≢◌, ◌<◌, Bool, true, false, cond, not, refl, sym, ap, ap₂, ◌∙◌, ◌&&◌, ◌||◌}
use Rattle.std.proofs.Common.{eqb, ltb, nat_lt, lt-ltb, ltb-true, ne_eqb, bit_or, IsTrue, arith}
use Rattle.mixed_graph.specs.Vocabulary.{has, MixedGraph}
use Rattle.mixed_graph.proofs.Masks.{le_from_subset}
use Rattle.finite_models.specs.Vocabulary.{FiniteModel, Fits, mask_of, differ, odd_below}
use Rattle.finite_models.proofs.Bools.{and_first, and_second}
use Rattle.finite_models.proofs.Factors.{any_below}
use Rattle.finite_models.proofs.Packed.{has-mask}
use Rattle.twisted_models.specs.Vocabulary.{IsTwist}
use Rattle.counter_models.proofs.ParityLaws.{odd-congr, odd-differ}
use Rattle.carrying_models.proofs.Channels.{is_handed, IsCarried}

-- hidden coins: each serves one vertex, or two, which are joined by a bidirected edge
pub record Coins (g : MixedGraph) : Type 0 where
  pub count : ℕ
  pub serves : ℕ → ℕ → Bool
  pub one : ℕ → ℕ
  pub other : ℕ → ℕ
  pub two : (j v : ℕ) → j < count → serves j v ≡ (eqb v (one j) || eqb v (other j))
  pub some : (j : ℕ) → j < count → (v : ℕ) × IsTrue (serves j v)
  pub low : (j v : ℕ) → j < count → IsTrue (serves j v) → v < g.vertices
  pub joined : (j u v : ℕ) → j < count → IsTrue (serves j u) → IsTrue (serves j v) → u ≢ v → IsTrue (g.both u v)

mask-congr : (t r : ℕ → Bool) (n : ℕ) → ((i : ℕ) → i < n → t i ≡ r i) → mask_of t n ≡ mask_of r n
unfolding mask_of
mask-congr t r zero h = refl
mask-congr t r (suc n) h = ap₂ (λ a b. bit_or a (cond b (2 ^ n) 0)) (mask-congr t r n (λ i lt. h i (omega arith))) (h n (omega arith))

-- no mask of numbers below n is above that of all
pub mask_low : (t : ℕ → Bool) (n : ℕ) → mask_of t n < suc (mask_of (λ i. true) n)
mask_low t n = let le = le_from_subset (mask_of t n) (mask_of (λ i. true) n)
    (λ v e. has-mask (λ i. true) n v ∙ and_second (t v) (nat_lt v n) (sym (has-mask t n v) ∙ e)) in omega (arith, le)

any-congr : (n : ℕ) (p q : ℕ → Bool) → ((i : ℕ) → i < n → p i ≡ q i) → any_below n p ≡ any_below n q
any-congr zero p q h = refl
any-congr (suc n) p q h = ap₂ (λ a b. a || b) (any-congr n p q (λ i lt. h i (omega arith))) (h n (omega arith))

when : (p a b : Bool) → (p ≡ true → a ≡ b) → (p && a) ≡ (p && b)
when true a b h = h refl
when false a b h = refl

module _ (g : MixedGraph) (c : Coins g) (x m : ℕ → Bool) (p : ℕ) where
  -- a coin shows heads
  abbrev pub heads : ℕ → Bool
  heads n = not (eqb n 0)

  -- whether an odd number of the coins at q show heads
  abbrev pub tossed : (ℕ → ℕ) → ℕ → Bool
  tossed u q = odd_below c.count (λ j. c.serves j q && heads (u j))

  -- the bit that begins at q: that of its coins, and p's where f holds of q
  abbrev pub own : (f : ℕ → Bool) → (s u : ℕ → ℕ) → ℕ → Bool
  own f s u q = differ (tossed u q) (f q && has (s p) 0)

  abbrev pub many : ℕ
  many = (g.vertices + g.vertices) + g.vertices

  -- A bit of the first kind comes along all arrows but those out of x, any other along those out of neither x nor m.
  abbrev pub shut_by : Bool → ℕ → Bool
  shut_by b r = cond b (x r) (x r || m r)

  -- A bit of the first two kinds begins at its vertex, as the own bit o; one of the third at the children of members of m that have it as one of the first.
  abbrev pub begins_by : (b d : Bool) (i j k : ℕ) → Bool → (ℕ → ℕ) → ℕ → Bool
  begins_by b d i j k o s q = cond b (eqb q i && o) (cond d (eqb q j && o) (any_below g.vertices (λ r. (g.arrow r q && m r) && has (s r) k)))

  abbrev pub shut : ℕ → ℕ → Bool
  shut k = shut_by (ltb k g.vertices)

  abbrev pub begins : ℕ → Bool → (ℕ → ℕ) → ℕ → Bool
  begins k = begins_by (ltb k g.vertices) (ltb k (g.vertices + g.vertices)) k (k - g.vertices) (k - (g.vertices + g.vertices))

  -- bit k of q, where the vertices have the values s and q the own bit o
  abbrev pub bit_at : Bool → (ℕ → ℕ) → (q k : ℕ) → Bool
  bit_at o s q k = begins k o s q || is_handed g (shut k) (λ r. has (s r) k) q

  abbrev pub value : Bool → (ℕ → ℕ) → ℕ → ℕ
  value o s q = mask_of (bit_at o s q) many

  abbrev pub core : (ℕ → Bool) → FiniteModel
  core f = record {
    vertices = g.vertices;
    size = λ v. suc (mask_of (λ k. true) many);
    causes = c.count;
    values = λ j. 2;
    weight = λ j i. 1;
    serves = c.serves;
    mechanism = λ v s u. value (own f s u v) s v;
  }

  handed_same : (a b : ℕ → ℕ) (v k : ℕ) (t : ℕ → Bool) → ((r : ℕ) → IsTrue (g.arrow r v) → a r ≡ b r)
      → any_below g.vertices (λ r. (g.arrow r v && t r) && has (a r) k) ≡ any_below g.vertices (λ r. (g.arrow r v && t r) && has (b r) k)
  handed_same a b v k t same = any-congr g.vertices (λ r. (g.arrow r v && t r) && has (a r) k) (λ r. (g.arrow r v && t r) && has (b r) k)
      (λ r lt. when (g.arrow r v && t r) (has (a r) k) (has (b r) k) (λ e. ap (λ n. has n k) (same r (and_first (g.arrow r v) (t r) e))))

  bit_same : (o : Bool) (a b : ℕ → ℕ) (v k : ℕ) → ((r : ℕ) → IsTrue (g.arrow r v) → a r ≡ b r) → bit_at o a v k ≡ bit_at o b v k
  bit_same o a b v k same =
      ap₂ (λ d e. cond (ltb k g.vertices) (eqb v k && o) (cond (ltb k (g.vertices + g.vertices)) (eqb v (k - g.vertices) && o) d) || e)
      (handed_same a b v (k - (g.vertices + g.vertices)) m same) (handed_same a b v k (λ r. not (shut k r)) same)

  module _ (f : ℕ → Bool) (arrows : (i : ℕ) → f i ≡ true → g.arrow p i ≡ true) where
    own_same : (a b u w : ℕ → ℕ) (v : ℕ) → ((r : ℕ) → IsTrue (g.arrow r v) → a r ≡ b r) → ((j : ℕ) → j < c.count → IsTrue (c.serves j v) → u j ≡ w j)
        → own f a u v ≡ own f b w v
    own_same a b u w v same served =
        ap₂ differ (odd-congr c.count (λ j. c.serves j v && heads (u j)) (λ j. c.serves j v && heads (w j))
        (λ j lt. when (c.serves j v) (heads (u j)) (heads (w j)) (λ e. ap heads (served j lt e))))
        (when (f v) (has (a p) 0) (has (b p) 0) (λ e. ap (λ n. has n 0) (same p (arrows v e))))

    pub core_fits : Fits g (core f)
    core_fits = record {
      vertices = refl;
      positive_size = λ v lt. omega arith;
      positive_weight = λ j lt. omega arith;
      some_child = c.some;
      child_below = c.low;
      joined = c.joined;
      reads = λ v lt a b u w same served.
          ap (λ o. value o a v) (own_same a b u w v same served)
          ∙ mask-congr (bit_at (own f b w v) a v) (bit_at (own f b w v) b v) many (λ k l. bit_same (own f b w v) a b v k same);
      below = λ v lt s u hs hu. mask_low (bit_at (own f s u v) s v) many;
    }

  -- ---- the twist flips all coins where p's bit is set
  abbrev pub flips : (ℕ → ℕ) → ℕ → Bool
  flips s j = ltb j c.count && has (s p) 0

  turned : (a : Bool) (n : ℕ) → (a && heads (1 - n)) ≡ differ (a && heads n) a
  turned true zero = refl
  turned true (suc n) = let e : 1 - suc n ≡ 0 = omega arith in rw (e, ne_eqb (suc n) 0 (omega arith)) refl
  turned false n = refl

  last : (a b : Bool) → differ a false ≡ differ (differ a b) (b && true)
  last true true = refl
  last true false = refl
  last false true = refl
  last false false = refl

  module _ (f : ℕ → Bool) (balance : (v : ℕ) → v < g.vertices → odd_below c.count (λ j. c.serves j v) ≡ f v) where
    twist_at : (u : ℕ → ℕ) (v : ℕ) → v < g.vertices → (b : Bool) → differ (tossed u v) false
        ≡ differ (tossed (λ j. cond (ltb j c.count && b) (1 - u j) (u j)) v) (f v && b)
    twist_at u v il true =
        last (tossed u v) (f v)
        ∙ ap (λ r. differ r (f v && true))
        (ap (differ (tossed u v)) (sym (balance v il))
        ∙ sym (odd-differ c.count (λ j. c.serves j v && heads (u j)) (λ j. c.serves j v))
        ∙ odd-congr c.count (λ j. differ (c.serves j v && heads (u j)) (c.serves j v))
        (λ j. c.serves j v && heads (cond (ltb j c.count && true) (1 - u j) (u j)))
        (λ j lt. sym (ap (λ b. c.serves j v && heads (cond (b && true) (1 - u j) (u j))) (lt-ltb j c.count lt) ∙ turned (c.serves j v) (u j))))
    twist_at u v il false = ap₂ differ
        (odd-congr c.count (λ j. c.serves j v && heads (u j)) (λ j. c.serves j v && heads (cond (ltb j c.count && false) (1 - u j) (u j)))
        (λ j lt. ap (λ b. c.serves j v && heads (cond (b && false) (1 - u j) (u j))) (sym (lt-ltb j c.count lt))))
        (nothing (f v))
      where
        nothing : (b : Bool) → false ≡ (b && false)
        nothing true = refl
        nothing false = refl

    pub is_twist : IsTwist (core f) (λ v s u. value (own (λ i. false) s u v) s v)
    is_twist = record {
      flips = flips;
      coins = λ s j e. record { cause = ltb-true j c.count (and_first (ltb j c.count) (has (s p) 0) e); two = refl; fair = refl };
      twisted = λ s u v il. ap (λ o. value o s v) (twist_at u v il (has (s p) 0));
    }

  -- ---- the bits of a solution are carried
  module _ (f : ℕ → Bool) (s u : ℕ → ℕ) (k : ℕ) (low : k < many)
      (solves : (q : ℕ) → q < g.vertices → shut k q ≡ false → s q ≡ value (own f s u q) s q) where
    pub are_carried : IsCarried g (shut k) (λ q. begins k (own f s u q) s q) (λ q. has (s q) k)
    are_carried q il free =
        ap (λ n. has n k) (solves q il free) ∙ has-mask (bit_at (own f s u q) s q) many k
        ∙ within (bit_at (own f s u q) s q k) k many low
      where
        within : (b : Bool) (k n : ℕ) → k < n → (b && nat_lt k n) ≡ b
        within b k n lt = grind (arith, lt)
