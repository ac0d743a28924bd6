-- The weights of a model and of the one without idle causes and hidden vertices are the same up to the totals.
use Rattle.std.proofs.Common.{ℕ, ◌*◌, ◌≡◌, ◌<◌, Bool, true, false, not, cond, ◌||◌, refl, sym, ap, ◌∙◌, arith}
use mathlib.Core.Path.{fun_ext}
use Rattle.mixed_graph.specs.Vocabulary.{members_below, MixedGraph, IsMixedGraph}
use Rattle.finite_models.specs.Vocabulary.{product_below, set_at, sum_over, FiniteModel, IsAssignment, solution, agree, intervene, weight_of, world_weight, total}
use Rattle.finite_models.proofs.Following.{Follows}
use Rattle.finite_models.proofs.Indicators.{number, cond-number}
use Rattle.finite_models.proofs.SumLaws.{set_at-other, product_below-congr, product_below-mul, over-congr, over-product, Ignores}
use Rattle.finite_models.proofs.Solutions.{IsRanked, agree_same}
use Rattle.latent_projection.specs.Vocabulary.{renumbered}
use Rattle.latent_projection.proofs.Treks.{clash}
use Rattle.hidden_models.proofs.FoldingLaw.{position, member, kept, set_in, values_in, KeepsCauses}
use Rattle.hidden_models.proofs.Positions.{member_position, spread, spread_at, compress, product_compress}
use Rattle.hidden_models.proofs.Renumber.{round_ignores, same_agree}

module _ (m : FiniteModel) (o j : ℕ → Bool) where
  abbrev with_members : (ℕ → ℕ) → ℕ
  with_members u = product_below m.causes (λ i. cond (j i) (m.weight i (u i)) 1)

  abbrev with_others : (ℕ → ℕ) → ℕ
  with_others u = product_below m.causes (λ i. cond (j i) 1 (m.weight i (u i)))

  -- the total of the causes that are left out
  abbrev pub rest_total : ℕ
  rest_total = sum_over (λ i. not (j i)) m.values m.causes (λ u. product_below m.causes (λ i. cond (j i) 1 (m.weight i (u i)))) (λ i. 0)

  split : (u : ℕ → ℕ) → world_weight m u ≡ with_members u * with_others u
  split u = product_below-congr m.causes (λ i. m.weight i (u i)) (λ i. cond (j i) (m.weight i (u i)) 1 * cond (j i) 1 (m.weight i (u i)))
      (λ i il. go (j i) (m.weight i (u i)))
      ∙ product_below-mul m.causes (λ i. cond (j i) (m.weight i (u i)) 1) (λ i. cond (j i) 1 (m.weight i (u i)))
    where
      go : (c : Bool) (w : ℕ) → w ≡ cond c w 1 * cond c 1 w
      go true w = omega arith
      go false w = omega arith

  untrue : (c : Bool) → not c ≡ true → c ≡ false
  untrue true e = absurd (grind (arith, e))
  untrue false e = refl

  members_ignore : Ignores m.causes (λ i. not (j i)) with_members
  members_ignore u i x il e = product_below-congr m.causes (λ k. cond (j k) (m.weight k (set_at u i x k)) 1) (λ k. cond (j k) (m.weight k (u k)) 1)
      (λ k kl. go k (j k) refl)
    where
      go : (k : ℕ) (c : Bool) → j k ≡ c → cond (j k) (m.weight k (set_at u i x k)) 1 ≡ cond (j k) (m.weight k (u k)) 1
      go k false f = rw f refl
      go k true f = rw f (ap (m.weight k) (set_at-other u i x k (λ s. clash (j i) (rw s at f) (untrue (j i) e))))

  others_ignore : Ignores m.causes j with_others
  others_ignore u i x il e = product_below-congr m.causes (λ k. cond (j k) 1 (m.weight k (set_at u i x k))) (λ k. cond (j k) 1 (m.weight k (u k)))
      (λ k kl. go k (j k) refl)
    where
      go : (k : ℕ) (c : Bool) → j k ≡ c → cond (j k) 1 (m.weight k (set_at u i x k)) ≡ cond (j k) 1 (m.weight k (u k))
      go k true f = rw f refl
      go k false f = rw f (ap (m.weight k) (set_at-other u i x k (λ s. clash (j i) e (rw s at f))))

  everything : ◌≡◌ {A = ℕ → Bool} (λ i. true) (λ i. j i || not (j i))
  everything = fun_ext (λ i. go (j i))
    where
      go : (c : Bool) → true ≡ (c || not c)
      go true = refl
      go false = refl

  ignore_times : (F G : (ℕ → ℕ) → ℕ) → Ignores m.causes (λ i. not (j i)) F → Ignores m.causes (λ i. not (j i)) G
      → Ignores m.causes (λ i. not (j i)) (λ u. F u * G u)
  ignore_times F G f g u i x il e = ap (λ y. y * G (set_at u i x)) (f u i x il e) ∙ ap (λ y. F u * y) (g u i x il e)

  -- a weighted sum over all worlds, where Q doesn't depend on the causes that are left out
  pub sides : (Q : (ℕ → ℕ) → ℕ) → Ignores m.causes (λ i. not (j i)) Q
      → sum_over (λ i. true) m.values m.causes (λ u. world_weight m u * Q u) (λ i. 0)
      ≡ sum_over (λ i. true) (kept m o j).values (position j m.causes) (λ c. world_weight (kept m o j) c * Q (spread j m.causes (λ i. 0) c)) (λ i. 0)
      * rest_total
  sides Q ignores =
      over-congr (λ i. true) m.values m.causes (λ u. world_weight m u * Q u) (λ u. (with_members u * Q u) * with_others u) (λ i. 0)
      (λ u. ap (λ y. y * Q u) (split u) ∙ turn (with_members u) (with_others u) (Q u))
      ∙ ap (λ U. sum_over U m.values m.causes (λ u. (with_members u * Q u) * with_others u) (λ i. 0)) everything
      ∙ over-product j (λ i. not (j i)) m.values m.causes (λ u. with_members u * Q u) with_others (λ i. 0) (λ i e f. clash (j i) e (untrue (j i) f))
      (ignore_times with_members Q members_ignore ignores) others_ignore
      ∙ ap (λ y. y * rest_total) (compress j m.values (kept m o j).values m.causes (λ u. with_members u * Q u) (λ i. 0) (λ i. 0)
      (λ i il e. ap m.values (member_position j m.causes i il e))
      ∙ over-congr (λ i. true) (kept m o j).values (position j m.causes) (λ c. with_members (spread j m.causes (λ i. 0) c) * Q (spread j m.causes (λ i. 0) c))
      (λ c. world_weight (kept m o j) c * Q (spread j m.causes (λ i. 0) c)) (λ i. 0)
      (λ c. ap (λ y. y * Q (spread j m.causes (λ i. 0) c)) (product_compress j m.causes (λ i. m.weight i (spread j m.causes (λ i. 0) c i))
      (λ i. m.weight (member j m.causes i) (c i))
      (λ i il e. let s : member j m.causes (position j i) ≡ i = member_position j m.causes i il e in let t : spread j m.causes (λ i. 0) c i
      ≡ c (position j i) = spread_at j m.causes (λ i. 0) c i il e in rw (s, t) refl))))
    where
      turn : (a b c : ℕ) → (a * b) * c ≡ (a * c) * b
      turn a b c = omega arith

  pub total_kept : total m ≡ total (kept m o j) * rest_total
  total_kept =
      over-congr (λ i. true) m.values m.causes (world_weight m) (λ u. world_weight m u * 1) (λ i. 0) (λ u. omega arith)
      ∙ sides (λ u. 1) (λ u i x il e. refl)
      ∙ ap (λ y. y * rest_total) (over-congr (λ i. true) (kept m o j).values (position j m.causes) (λ c. world_weight (kept m o j) c * 1)
      (world_weight (kept m o j)) (λ i. 0) (λ c. omega arith))

module _ (p : MixedGraph) (m : FiniteModel) (o j : ℕ → Bool) (ok : IsMixedGraph p) (fit : Follows p m) (tail : (a b : ℕ) → p.arrow a b ≡ true → o a ≡ true)
    (keeps : KeepsCauses m o j)
    (rank rank' : ℕ → ℕ) (ranked : IsRanked p rank) (ranked' : IsRanked (renumbered p (members_below o m.vertices)) rank') (b a : ℕ → Bool) (s : ℕ → ℕ)
    (hs : IsAssignment (position o m.vertices) (λ v. m.size (member o m.vertices v)) s) where
  -- whether the event is there in a world
  abbrev pub agreed : (ℕ → ℕ) → Bool
  agreed u = agree m.vertices (set_in o a) (solution (intervene m (set_in o b) (values_in o s)) u) (values_in o s)

  pub agreed_ignores : Ignores m.causes (λ i. not (j i)) (λ u. number (agreed u))
  agreed_ignores u i x il e = ap number (agree_same m.vertices (set_in o a) (set_in o a)
      (solution (intervene m (set_in o b) (values_in o s)) (set_at u i x)) (solution (intervene m (set_in o b) (values_in o s)) u) (values_in o s)
      (λ h v vl f. sym (same v vl) ∙ h v vl f) (λ h v vl f. same v vl ∙ h v vl f))
    where
      same : (v : ℕ) → v < m.vertices → solution (intervene m (set_in o b) (values_in o s)) (set_at u i x) v
          ≡ solution (intervene m (set_in o b) (values_in o s)) u v
      same v vl = round_ignores p m o j ok fit tail keeps rank rank' ranked ranked' b a s hs u i x il (untrue m o j (j i) e) m.vertices v vl

  pub kept_weight : weight_of m (set_in o b) (set_in o a) (values_in o s) ≡ weight_of (kept m o j) b a s * rest_total m o j
  kept_weight =
      over-congr (λ i. true) m.values m.causes (λ u. cond (agreed u) (world_weight m u) 0) (λ u. world_weight m u * number (agreed u)) (λ i. 0)
      (λ u. cond-number (agreed u) (world_weight m u))
      ∙ sides m o j (λ u. number (agreed u)) agreed_ignores
      ∙ ap (λ y. y * rest_total m o j) (over-congr (λ i. true) (kept m o j).values (position j m.causes)
      (λ c. world_weight (kept m o j) c * number (agreed (spread j m.causes (λ i. 0) c)))
      (λ c. cond (agree (position o m.vertices) a (solution (intervene (kept m o j) b s) c) s) (world_weight (kept m o j) c) 0) (λ i. 0)
      (λ c. sym (cond-number (agreed (spread j m.causes (λ i. 0) c)) (world_weight (kept m o j) c))
      ∙ ap (λ q. cond q (world_weight (kept m o j) c) 0) (same_agree p m o j ok fit tail keeps rank rank' ranked ranked' b a s hs c)))

  crossed : (n n' t t' r : ℕ) → n ≡ n' * r → t ≡ t' * r → n * t' ≡ n' * t
  crossed n n' t t' r e f = rw (e, f) (omega arith)

  pub kept_folds : weight_of m (set_in o b) (set_in o a) (values_in o s) * total (kept m o j) ≡ weight_of (kept m o j) b a s * total m
  kept_folds = crossed (weight_of m (set_in o b) (set_in o a) (values_in o s)) (weight_of (kept m o j) b a s) (total m) (total (kept m o j))
      (rest_total m o j) kept_weight (total_kept m o j)
