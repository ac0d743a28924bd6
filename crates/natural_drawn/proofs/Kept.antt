-- Without the hidden vertices and the idle causes each nested event has its weight, up to the totals.
use Rattle.std.proofs.Common.{ℕ, ◌*◌, ◌≡◌, ◌<◌, Bool, true, false, not, cond, eqb, refl, sym, ap, ap₂, ◌∙◌, ◌||◌, ◌&&◌, arith, eqb-true, eq-eqb}
use Rattle.std.proofs.lemmas.Bool.{and_from}
use mathlib.Core.Path.{fun_ext}
use Rattle.mixed_graph.specs.Vocabulary.{members_below, MixedGraph, IsMixedGraph}
use Rattle.finite_models.specs.Vocabulary.{set_at, FiniteModel, IsAssignment, solution, agree, intervene, world_weight, total}
use Rattle.finite_models.proofs.Bools.{and_second, not_both}
use Rattle.finite_models.proofs.Following.{Follows, follows_intervene, intervene_alike}
use Rattle.finite_models.proofs.Indicators.{number, cond-number}
use Rattle.finite_models.proofs.Solutions.{IsRanked, solution_within, agree_from, agree_gives, agree_same}
use Rattle.finite_models.proofs.SumLaws.{Ignores, over-congr, over-congr_within, set_at-same, set_at-other}
use Rattle.latent_projection.specs.Vocabulary.{renumbered}
use Rattle.prob_expr.proofs.Boxes.{assignment_set}
use Rattle.hidden_models.proofs.FoldingLaw.{position, member, kept, set_in, values_in, KeepsCauses}
use Rattle.hidden_models.proofs.Folds.{sides, rest_total, total_kept}
use Rattle.hidden_models.proofs.Positions.{IsMember, position_lt, member_position, member_is, spread}
use Rattle.hidden_models.proofs.Renumber.{follows_kept, same_agree}
use Rattle.treated_drawn.proofs.Both.{solution_none, no_member}
use Rattle.nested_models.specs.Nested.{nested}
use Rattle.nested_models.specs.Vocabulary.{is_nested, weight_of_nested}
use Rattle.natural_drawn.proofs.Worlds.{set_value, set_union, agree_kept, same_rounds, same_nested}

module _ (p : MixedGraph) (w : FiniteModel) (o j : ℕ → Bool) (ok : IsMixedGraph p) (follows : Follows p w) (tail : (a b : ℕ) → p.arrow a b ≡ true → o a ≡ true)
    (keeps : KeepsCauses w o j) (rank rank' : ℕ → ℕ) (ranked : IsRanked p rank) (ranked' : IsRanked (renumbered p (members_below o w.vertices)) rank') where
  -- values of the members of o in their new numbers
  abbrev pub AreKept : (ℕ → ℕ) → Type 0
  AreKept s = IsAssignment (position o w.vertices) (λ v. w.size (member o w.vertices v)) s

  -- ---- one world
  module _ (c : ℕ → ℕ) (hc : IsAssignment (position j w.causes) (λ i. w.values (member j w.causes i)) c) where
    abbrev world : ℕ → ℕ
    world = spread j w.causes (λ i. 0) c

    in_range : (b : ℕ → Bool) (s : ℕ → ℕ) → AreKept s → (i : ℕ) → i < position o w.vertices
        → solution (intervene (kept w o j) b s) c i < w.size (member o w.vertices i)
    in_range b s hs i il = solution_within (renumbered p (members_below o w.vertices)) (intervene (kept w o j) b s)
        (follows_intervene (renumbered p (members_below o w.vertices)) (kept w o j) b s hs (follows_kept p w o j ok follows tail keeps)) c hc i il

    -- a member of o that isn't set
    module _ (b : ℕ → Bool) (s : ℕ → ℕ) (hs : AreKept s) (i : ℕ) (il : i < position o w.vertices) (free : b i ≡ false) where
      abbrev here : ℕ
      here = solution (intervene (kept w o j) b s) c i

      -- s with the value that it has
      abbrev t : ℕ → ℕ
      t = set_at s i here

      other : (k : ℕ) → b k ≡ true → t k ≡ s k
      other k e = set_at-other s i here k (λ q. not_both (b k) e (ap b q ∙ free))

      alike : intervene (kept w o j) b t ≡ intervene (kept w o j) b s
      alike = intervene_alike (kept w o j) b t s other

      alike_in : intervene w (set_in o b) (values_in o t) ≡ intervene w (set_in o b) (values_in o s)
      alike_in = intervene_alike w (set_in o b) (values_in o t) (values_in o s)
          (λ k e. ap (λ n. cond (o k) n 0) (other (position o k) (and_second (o k) (b (position o k)) e)))

      seen : agree (position o w.vertices) (λ k. eqb k i) (solution (intervene (kept w o j) b t) c) t ≡ true
      seen = agree_from (position o w.vertices) (λ k. eqb k i) (solution (intervene (kept w o j) b t) c) t (λ k kl e. let q = eqb-true k i e in
          ap (λ h. solution h c k) alike ∙ ap (solution (intervene (kept w o j) b s) c) q ∙ sym (ap t q ∙ set_at-same s i here))

      free_same : solution (intervene w (set_in o b) (values_in o s)) world (member o w.vertices i) ≡ here
      free_same =
          let k : IsMember o w.vertices i = member_is o w.vertices i il in
          let in_set : set_in o (λ n. eqb n i) (member o w.vertices i) ≡ true = rw (k.inside, k.place) (eq-eqb i i refl) in
          let value : values_in o t (member o w.vertices i) ≡ t i = rw (k.inside, k.place) refl in
          ap (λ h. solution h world (member o w.vertices i)) (sym alike_in)
          ∙ agree_gives w.vertices (set_in o (λ n. eqb n i)) (solution (intervene w (set_in o b) (values_in o t)) world) (values_in o t)
          (same_agree p w o j ok follows tail keeps rank rank' ranked ranked' b (λ n. eqb n i) t
          (assignment_set (position o w.vertices) (λ n. w.size (member o w.vertices n)) s i here (in_range b s hs i il) hs) c ∙ seen)
          (member o w.vertices i) k.below in_set
          ∙ value ∙ set_at-same s i here

    -- a member of o has one value in both, under every intervention on members
    kept_at : (b : ℕ → Bool) (s : ℕ → ℕ) → AreKept s → (i : ℕ) → i < position o w.vertices
        → solution (intervene w (set_in o b) (values_in o s)) world (member o w.vertices i) ≡ solution (intervene (kept w o j) b s) c i
    kept_at b s hs i il = go (b i) refl
      where
        go : (d : Bool) → b i ≡ d → solution (intervene w (set_in o b) (values_in o s)) world (member o w.vertices i) ≡ solution (intervene (kept w o j) b s) c i
        go true e =
            let k : IsMember o w.vertices i = member_is o w.vertices i il in
            let low = k.below in
            let in_set : set_in o b (member o w.vertices i) ≡ true = rw (k.inside, k.place) e in
            let value : values_in o s (member o w.vertices i) ≡ s i = rw (k.inside, k.place) refl in
            set_value w (set_in o b) (values_in o s) world (member o w.vertices i) in_set w.vertices (omega (arith, low)) ∙ value
            ∙ sym (set_value (kept w o j) b s c i e (position o w.vertices) (omega (arith, il)))
        go false e = free_same b s hs i il e

    -- and without one
    given_at : (s : ℕ → ℕ) → AreKept s → (i : ℕ) → i < position o w.vertices → solution w world (member o w.vertices i) ≡ solution (kept w o j) c i
    given_at s hs i il =
        ap (λ (f : ℕ → ℕ). f (member o w.vertices i)) (sym (solution_none w (set_in o (λ k. false)) (values_in o s) world (λ v. no_member (o v))))
        ∙ kept_at (λ k. false) s hs i il
        ∙ ap (λ (f : ℕ → ℕ). f i) (solution_none (kept w o j) (λ k. false) s c (λ k. refl))

    module _ (x m : ℕ → Bool) (s t : ℕ → ℕ) (hs : AreKept s) (ht : AreKept t) where
      -- the values to which x and m are set
      abbrev set_to : ℕ → ℕ
      set_to k = cond (m k) (solution (intervene (kept w o j) x t) c k) (s k)

      set_kept : AreKept set_to
      set_kept k kl = go (m k)
        where
          go : (d : Bool) → cond d (solution (intervene (kept w o j) x t) c k) (s k) < w.size (member o w.vertices k)
          go true = in_range x t ht k kl
          go false = hs k kl

      -- and in the old numbers
      set_old : (v : ℕ) → v < w.vertices
          → cond (set_in o m v) (solution (intervene w (set_in o x) (values_in o t)) world v) (values_in o s v) ≡ values_in o set_to v
      set_old v vl = go (o v) (m (position o v)) refl refl
        where
          go : (a d : Bool) → o v ≡ a → m (position o v) ≡ d
              → cond (set_in o m v) (solution (intervene w (set_in o x) (values_in o t)) world v) (values_in o s v) ≡ values_in o set_to v
          go false d e f = rw e refl
          go true false e f = rw (e, f) refl
          go true true e f =
              let at = kept_at x t ht (position o v) (position_lt o v w.vertices vl e) in
              let same : member o w.vertices (position o v) ≡ v = member_position o w.vertices v vl e in
              let value : solution (intervene w (set_in o x) (values_in o t)) world v ≡ solution (intervene (kept w o j) x t) c (position o v) =
              ap (solution (intervene w (set_in o x) (values_in o t)) world) (sym same) ∙ at in
              left ∙ value ∙ sym right
            where
              left : cond (set_in o m v) (solution (intervene w (set_in o x) (values_in o t)) world v) (values_in o s v)
                  ≡ solution (intervene w (set_in o x) (values_in o t)) world v
              left = ap (λ b. cond b (solution (intervene w (set_in o x) (values_in o t)) world v) (values_in o s v)) (and_from (o v) (m (position o v)) e f)

              right : values_in o set_to v ≡ solution (intervene (kept w o j) x t) c (position o v)
              right = ap (λ b. cond b (set_to (position o v)) 0) e
                  ∙ ap (λ b. cond b (solution (intervene (kept w o j) x t) c (position o v)) (s (position o v))) f

      nested_at : (i : ℕ) → i < position o w.vertices
          → nested w (set_in o x) (set_in o m) (values_in o s) (values_in o t) world (member o w.vertices i) ≡ nested (kept w o j) x m s t c i
      nested_at i il =
          same_rounds p w ok follows world world (λ k v kl e. refl) (λ v. set_in o x v || set_in o m v)
          (λ v. cond (set_in o m v) (solution (intervene w (set_in o x) (values_in o t)) world v) (values_in o s v)) (values_in o set_to)
          (λ v vl e. set_old v vl) w.vertices (member o w.vertices i) (member_is o w.vertices i il).below
          ∙ ap (λ (b : ℕ → Bool). solution (intervene w b (values_in o set_to)) world (member o w.vertices i)) (fun_ext (set_union o x m))
          ∙ kept_at (λ k. x k || m k) set_to set_kept i il

      same_there : (y z : ℕ → Bool) → is_nested w (set_in o x) (set_in o m) (set_in o y) (set_in o z) (values_in o s) (values_in o t) world
          ≡ is_nested (kept w o j) x m y z s t c
      same_there y z = ap₂ (λ a b. a && b)
          (agree_kept o w.vertices s y (nested w (set_in o x) (set_in o m) (values_in o s) (values_in o t) world) (nested (kept w o j) x m s t c) nested_at)
          (agree_kept o w.vertices s z (solution w world) (solution (kept w o j) c) (given_at s hs))

  -- ---- idle causes
  untrue : (d : Bool) → not d ≡ true → d ≡ false
  untrue true e = absurd (grind (arith, e))
  untrue false e = refl

  there_ignores : (x m y z : ℕ → Bool) (s t : ℕ → ℕ) → Ignores w.causes (λ i. not (j i)) (λ u. number (is_nested w x m y z s t u))
  there_ignores x m y z s t u i k il e = ap number (ap₂ (λ a b. a && b)
      (agree_same w.vertices y y (nested w x m s t (set_at u i k)) (nested w x m s t u) s
      (λ h v vl n. sym (at_y v vl) ∙ h v vl n) (λ h v vl n. at_y v vl ∙ h v vl n))
      (agree_same w.vertices z z (solution w (set_at u i k)) (solution w u) s (λ h v vl n. sym (at_z v vl) ∙ h v vl n) (λ h v vl n. at_z v vl ∙ h v vl n)))
    where
      served : (i' v : ℕ) → i' < w.causes → w.serves i' v ≡ true → set_at u i k i' ≡ u i'
      served i' v il' sv = set_at-other u i k i' (λ q. not_both (w.serves i v) (ap (λ n. w.serves n v) (sym q) ∙ sv) (keeps.idle i v il (untrue (j i) e)))

      at_y : (v : ℕ) → v < w.vertices → nested w x m s t (set_at u i k) v ≡ nested w x m s t u v
      at_y v vl = same_nested p w ok follows (set_at u i k) u served x m s s t t (λ n nl. refl) (λ n nl h. refl) v vl

      at_z : (v : ℕ) → v < w.vertices → solution w (set_at u i k) v ≡ solution w u v
      at_z v vl =
          ap (λ (f : ℕ → ℕ). f v) (sym (solution_none w (λ n. false) s (set_at u i k) (λ n. refl)))
          ∙ same_rounds p w ok follows (set_at u i k) u served (λ n. false) s s (λ n nl h. refl) w.vertices v vl
          ∙ ap (λ (f : ℕ → ℕ). f v) (solution_none w (λ n. false) s u (λ n. refl))

  -- ---- all worlds
  module _ (x m y z : ℕ → Bool) (s t : ℕ → ℕ) (hs : AreKept s) (ht : AreKept t) where
    abbrev there : (ℕ → ℕ) → Bool
    there = is_nested w (set_in o x) (set_in o m) (set_in o y) (set_in o z) (values_in o s) (values_in o t)

    kept_weight : weight_of_nested w (set_in o x) (set_in o m) (set_in o y) (set_in o z) (values_in o s) (values_in o t)
        ≡ weight_of_nested (kept w o j) x m y z s t * rest_total w o j
    kept_weight =
        over-congr (λ i. true) w.values w.causes (λ u. cond (there u) (world_weight w u) 0) (λ u. world_weight w u * number (there u)) (λ i. 0)
        (λ u. cond-number (there u) (world_weight w u))
        ∙ sides w o j (λ u. number (there u)) (there_ignores (set_in o x) (set_in o m) (set_in o y) (set_in o z) (values_in o s) (values_in o t))
        ∙ ap (λ n. n * rest_total w o j) (over-congr_within (λ i. true) (kept w o j).values (position j w.causes)
        (λ c. world_weight (kept w o j) c * number (there (spread j w.causes (λ i. 0) c)))
        (λ c. cond (is_nested (kept w o j) x m y z s t c) (world_weight (kept w o j) c) 0) (λ i. 0)
        (λ c values rest. ap (λ b. world_weight (kept w o j) c * number b) (same_there c (λ i il. values i il refl) x m s t hs ht y z)
        ∙ sym (cond-number (is_nested (kept w o j) x m y z s t c) (world_weight (kept w o j) c))))

    crossed : (n n' k k' r : ℕ) → n ≡ n' * r → k ≡ k' * r → n * k' ≡ n' * k
    crossed n n' k k' r e f = rw (e, f) (omega arith)

    pub kept_nested : weight_of_nested w (set_in o x) (set_in o m) (set_in o y) (set_in o z) (values_in o s) (values_in o t) * total (kept w o j)
        ≡ weight_of_nested (kept w o j) x m y z s t * total w
    kept_nested = crossed (weight_of_nested w (set_in o x) (set_in o m) (set_in o y) (set_in o z) (values_in o s) (values_in o t))
        (weight_of_nested (kept w o j) x m y z s t) (total w) (total (kept w o j)) (rest_total w o j) kept_weight (total_kept w o j)
