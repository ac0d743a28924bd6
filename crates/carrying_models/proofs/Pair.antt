-- Coins whose parities tell the two models apart give a pair of models.
use Rattle.std.proofs.Common.{ℕ, zero, suc, ◌+◌, ◌-◌, ◌*◌, ◌≡◌, ◌≢◌, ◌<◌, Bool, true, false, cond, refl, sym, ap, ◌∙◌, ◌&&◌, ◌||◌, nat_lt, not, eqb, eqb-true}
use Rattle.std.proofs.Common.{List, [], ◌∷◌, arith, zero-mul}
use Rattle.std.proofs.lemmas.Bool.{and_from, and_right, cond-false, cond-true, or_from, false_from_ne_true}
use Rattle.mixed_graph.specs.Vocabulary.{has, MixedGraph, IsMixedGraph, IsDirectedPath, IsAncestor}
use Rattle.mixed_graph.proofs.Masks.{has-zero}
use Rattle.mixed_graph.proofs.Paths.{end_below}
use Rattle.finite_models.specs.Vocabulary.{FiniteModel, IsAssignment, solution, intervene, agree, world_weight, differ, odd_below, product_below, mask_of}
use Rattle.finite_models.proofs.Bools.{and_first, and_second, not_both, either}
use Rattle.finite_models.proofs.Following.{Follows, follows_of, intervene_alike}
use Rattle.finite_models.proofs.Packed.{has-mask}
use Rattle.finite_models.proofs.Ranks.{with_rank}
use Rattle.finite_models.proofs.Solutions.{IsRanked, solution_within, agree_from, agree_gives}
use Rattle.finite_models.proofs.SumLaws.{over-term, over-congr_within, over-scale}
use Rattle.do_rules.specs.Vocabulary.{cut_into, cut_out}
use Rattle.do_rules.proofs.Altered.{follows_into}
use Rattle.counter_models.proofs.ParityLaws.{odd-congr, odd-false, differ-false}
use Rattle.nested_models.specs.Nested.{nested}
use Rattle.nested_models.specs.Vocabulary.{is_nested, weight_of_nested, IsNestedQuery, LeadsPast, LeadsThrough}
use Rattle.nested_models.proofs.Worlds.{done, set_x, values_within}
use Rattle.twisted_models.specs.Vocabulary.{AreApart}
use Rattle.carrying_models.proofs.Core.{Coins, core, own, tossed, many, core_fits, is_twist}
use Rattle.carrying_models.proofs.Reading.{read_plain, read_past, read_through}

-- a path without arrows out of a set is one
kept_path : (g : MixedGraph) (a : ℕ → Bool) (v : ℕ) (path : List ℕ) (e : ℕ) → IsDirectedPath (cut_out g a) v path e → IsDirectedPath g v path e
kept_path g a v [] e p = p
kept_path g a v (q ∷ rest) e p = (and_first (g.arrow v q) (not (a v)) p.0, kept_path g a q rest e p.1)

ones : (n : ℕ) → product_below n (λ j. 1) ≡ 1
ones zero = refl
ones (suc n) = omega (arith, ones n)

module _ (g : MixedGraph) (ok : IsMixedGraph g) (x m y z : ℕ) (asked : IsNestedQuery g (has x) (has m) (has y) (has z)) (c : Coins g) (p : ℕ)
    (from_x : has x p ≡ true) (f : ℕ → Bool) (arrows : (i : ℕ) → f i ≡ true → g.arrow p i ≡ true)
    (balance : (v : ℕ) → v < g.vertices → odd_below c.count (λ j. c.serves j v) ≡ f v) (pl : p < g.vertices) where
  abbrev toss : (ℕ → ℕ) → ℕ → Bool
  toss = tossed g c (has x) (has m) p

  -- the parities of a world are refuted that are those of f at what leads to y past m, and none at what leads there through m or to z
  abbrev pub Refuted : Type 0
  Refuted = (u : ℕ → ℕ) → ((i : ℕ) → LeadsPast g (has x) (has m) (has y) i → toss u i ≡ f i)
      → ((i : ℕ) → LeadsThrough g (has x) (has m) (has y) i → toss u i ≡ false) → ((i : ℕ) → IsAncestor (cut_out g (has x)) (has z) i → toss u i ≡ false) → ⊥

  abbrev none : ℕ → Bool
  none i = false

  abbrev first : FiniteModel
  first = core g c (has x) (has m) p f

  abbrev second : FiniteModel
  second = core g c (has x) (has m) p none

  follows : Follows g first
  follows = follows_of g first (core_fits g c (has x) (has m) p f arrows)

  abbrev tails : ℕ → ℕ
  tails j = 0

  -- the two values of x: p's bit is set, and it isn't
  abbrev all_bits : ℕ → ℕ
  all_bits v = mask_of (λ k. true) (many g c (has x) (has m) p)

  abbrev no_bits : ℕ → ℕ
  no_bits v = 0

  all_within : IsAssignment first.vertices first.size all_bits
  all_within v il = omega arith

  none_within : IsAssignment first.vertices first.size no_bits
  none_within v il = omega arith

  tails_inside : IsAssignment first.causes first.values tails
  tails_inside j jl = omega arith

  set_bit : has (all_bits p) 0 ≡ true
  set_bit = has-mask (λ k. true) (many g c (has x) (has m) p) 0 ∙ low (many g c (has x) (has m) p) (omega (arith, pl))
    where
      low : (n : ℕ) → 0 < n → (true && nat_lt 0 n) ≡ true
      low n lt = grind (arith, lt)

  no_tosses : (i : ℕ) → toss tails i ≡ false
  no_tosses i = odd-congr c.count (λ j. c.serves j i && false) (λ j. false) (λ j jl. and_right (c.serves j i) false refl) ∙ odd-false c.count

  -- what y and z have in the world of tails alone
  abbrev there : ℕ → ℕ
  there = nested first (has x) (has m) all_bits no_bits tails

  abbrev both : ℕ → Bool
  both v = has x v || has m v

  abbrev set_to : ℕ → ℕ
  set_to v = cond (has m v) (solution (intervene first (has x) no_bits) tails v) (all_bits v)

  abbrev s : ℕ → ℕ
  s v = cond (has y v) (there v) (cond (has z v) (solution first tails v) (all_bits v))

  s_x : (v : ℕ) → has x v ≡ true → s v ≡ all_bits v
  s_x v e =
      cond-false (has y v) (there v) (cond (has z v) (solution first tails v) (all_bits v))
      (false_from_ne_true (has y v) (λ q. not_both (has x v) e (asked.y_x v q)))
      ∙ cond-false (has z v) (solution first tails v) (all_bits v) (false_from_ne_true (has z v) (λ q. not_both (has x v) e (asked.z_x v q)))

  s_y : (v : ℕ) → has y v ≡ true → s v ≡ there v
  s_y v e = cond-true (has y v) (there v) (cond (has z v) (solution first tails v) (all_bits v)) e

  s_z : (v : ℕ) → has z v ≡ true → s v ≡ solution first tails v
  s_z v e =
      cond-false (has y v) (there v) (cond (has z v) (solution first tails v) (all_bits v))
      (false_from_ne_true (has y v) (λ q. not_both (has z v) e (asked.y_z v q)))
      ∙ cond-true (has z v) (solution first tails v) (all_bits v) e

  s_within : IsAssignment first.vertices first.size s
  s_within v il = go (has y v) (has z v)
    where
      there_low : there v < first.size v
      there_low =
          let e : suc (there v) - first.size v ≡ 0 = with_rank g ok (suc (there v) - first.size v) 0
          (λ rank ranked. let l : there v < first.size v = solution_within (cut_into g both) (intervene first both set_to)
          (follows_into g first both set_to
          (values_within g ok first rank ranked follows (has x) (has m) asked.m_x all_bits no_bits all_within none_within tails tails_inside) follows)
          tails tails_inside v il in omega (arith, l)) in
          omega (arith, e)

      go : (a b : Bool) → cond a (there v) (cond b (solution first tails v) (all_bits v)) < first.size v
      go true b = there_low
      go false true = solution_within g first follows tails tails_inside v il
      go false false = all_within v il

  alike : nested first (has x) (has m) s no_bits tails ≡ there
  alike = ap (λ w. solution w tails) (intervene_alike first (λ v. has x v || has m v) (λ v. cond (has m v) (from v) (s v))
      (λ v. cond (has m v) (from v) (all_bits v)) (λ v e. at v e (has m v) refl))
    where
      from : ℕ → ℕ
      from = solution (intervene first (has x) no_bits) tails

      at : (v : ℕ) → (has x v || has m v) ≡ true → (b : Bool) → has m v ≡ b → cond (has m v) (from v) (s v) ≡ cond (has m v) (from v) (all_bits v)
      at v e true q = rw q refl
      at v e false q = ap (cond (has m v) (from v)) (s_x v (either (has x v) (has m v) (has x v ≡ true) e (λ h. h) (λ h. absurd (not_both (has m v) h q))))

  shown : is_nested first (has x) (has m) (has y) (has z) s no_bits tails ≡ true
  shown = and_from (agree g.vertices (has y) (nested first (has x) (has m) s no_bits tails) s) (agree g.vertices (has z) (solution first tails) s)
      (agree_from g.vertices (has y) (nested first (has x) (has m) s no_bits tails) s (λ v il e. ap (λ h. h v) alike ∙ sym (s_y v e)))
      (agree_from g.vertices (has z) (solution first tails) s (λ v il e. sym (s_z v e)))

  weighs : (u : ℕ → ℕ) → ℕ
  weighs u = cond (is_nested first (has x) (has m) (has y) (has z) s no_bits u) (world_weight first u) 0

  possible : weight_of_nested first (has x) (has m) (has y) (has z) s no_bits ≢ 0
  unfolding weighs
  possible nothing =
      let least = over-term (λ j. true) first.values first.causes weighs tails (λ i il e. tails_inside i il) in
      let one : weighs tails ≡ 1 = ap (λ b. cond b (world_weight first tails) 0) shown ∙ ones c.count in
      omega (arith, least, one, nothing)

  -- ---- the second model has no such world
  module _ (rank : ℕ → ℕ) (ranked : IsRanked g rank) (refuted : Refuted) (u : ℕ → ℕ) (inside : IsAssignment second.causes second.values u)
      (e : is_nested second (has x) (has m) (has y) (has z) s no_bits u ≡ true) where
    no_arrows : (i : ℕ) → none i ≡ true → g.arrow p i ≡ true
    no_arrows i h = absurd (not_both (none i) h refl)

    abbrev again : ℕ → ℕ
    again = nested second (has x) (has m) s no_bits u

    same_y : (v : ℕ) → v < g.vertices → has y v ≡ true → again v ≡ there v
    same_y v il h = agree_gives g.vertices (has y) again s (and_first (agree g.vertices (has y) again s) (agree g.vertices (has z) (solution second u) s) e) v il h
        ∙ s_y v h

    same_z : (v : ℕ) → v < g.vertices → has z v ≡ true → solution second u v ≡ solution first tails v
    same_z v il h = agree_gives g.vertices (has z) (solution second u) s
        (and_second (agree g.vertices (has y) again s) (agree g.vertices (has z) (solution second u) s) e) v il h ∙ s_z v h

    heads_in : (a : ℕ → Bool) (u v : ℕ) → (cut_out g a).arrow u v ≡ true → v < g.vertices
    heads_in a u v h = ok.head_below u v (and_first (g.arrow u v) (not (a u)) h)

    free : (v : ℕ) → has y v ≡ true → both v ≡ false
    free v h = or_from (has x v) (has m v) (asked.y_x v h) (asked.y_m v h)

    other_p : solution (intervene first (has x) no_bits) tails p ≡ 0
    other_p = done g ok first rank ranked follows (has x) no_bits none_within tails p pl
        ∙ cond-true (has x p) 0 (first.mechanism p (solution (intervene first (has x) no_bits) tails) tails) from_x

    -- own bits in the two models
    second_own : (r : ℕ → ℕ) (i : ℕ) → own g c (has x) (has m) p none r u i ≡ toss u i
    second_own r i = differ-false (toss u i)

    first_own : (r : ℕ → ℕ) (i : ℕ) → own g c (has x) (has m) p f r tails i ≡ (f i && has (r p) 0)
    first_own r i = ap (λ b. differ b (f i && has (r p) 0)) (no_tosses i)

    past : (i : ℕ) → LeadsPast g (has x) (has m) (has y) i → toss u i ≡ f i
    past i l =
        sym (second_own again i)
        ∙ sym (read_past g ok rank ranked c (has x) (has m) p none no_arrows asked.m_x s no_bits s_within none_within u inside i l.vertex l.path l.end l.leads
        (free l.end l.inside))
        ∙ ap (λ n. has n (g.vertices + i)) (same_y l.end (end_below (cut_out g both) (heads_in both) i l.path l.end l.vertex l.leads) l.inside)
        ∙ read_past g ok rank ranked c (has x) (has m) p f arrows asked.m_x all_bits no_bits all_within none_within tails tails_inside i l.vertex l.path l.end
        l.leads (free l.end l.inside)
        ∙ first_own there i
        ∙ ap (λ n. f i && has n 0) (set_x g ok first rank ranked follows (has x) (has m) asked.m_x all_bits no_bits all_within none_within tails tails_inside p
        pl from_x)
        ∙ ap (λ b. f i && b) set_bit ∙ ends (f i)
      where
        ends : (b : Bool) → (b && true) ≡ b
        ends true = refl
        ends false = refl

    through : (i : ℕ) → LeadsThrough g (has x) (has m) (has y) i → toss u i ≡ false
    through i l =
        sym (second_own (solution (intervene second (has x) no_bits) u) i)
        ∙ sym (read_through g ok rank ranked c (has x) (has m) p none no_arrows asked.m_x s no_bits s_within none_within u inside i l.leads.vertex l.leads.path
        l.leads.end l.leads.leads (mediates l.leads.end l.leads.inside) l.child (acts l.leads.end l.leads.inside) l.past.path l.past.end l.past.leads
        (free l.past.end l.past.inside))
        ∙ ap (λ n. has n ((g.vertices + g.vertices) + i))
        (same_y l.past.end (end_below (cut_out g both) (heads_in both) l.child l.past.path l.past.end l.past.vertex l.past.leads) l.past.inside)
        ∙ read_through g ok rank ranked c (has x) (has m) p f arrows asked.m_x all_bits no_bits all_within none_within tails tails_inside i l.leads.vertex
        l.leads.path l.leads.end l.leads.leads (mediates l.leads.end l.leads.inside) l.child (acts l.leads.end l.leads.inside) l.past.path l.past.end
        l.past.leads (free l.past.end l.past.inside)
        ∙ first_own (solution (intervene first (has x) no_bits) tails) i
        ∙ ap (λ n. f i && has n 0) other_p
        ∙ ap (λ b. f i && b) (has-zero 0) ∙ and_right (f i) false refl
      where
        mediates : (v : ℕ) → eqb v l.mediator ≡ true → has m v ≡ true
        mediates v h = ap (has m) (eqb-true v l.mediator h) ∙ l.member

        acts : (v : ℕ) → eqb v l.mediator ≡ true → g.arrow v l.child ≡ true
        acts v h = ap (λ a. g.arrow a l.child) (eqb-true v l.mediator h) ∙ l.acts

    before : (i : ℕ) → IsAncestor (cut_out g (has x)) (has z) i → toss u i ≡ false
    before i l =
        sym (second_own (solution second u) i)
        ∙ sym (read_plain g ok rank ranked c (has x) (has m) p none no_arrows u i l.vertex l.path l.end l.leads (asked.z_x l.end l.inside))
        ∙ ap (λ n. has n i) (same_z l.end low l.inside)
        ∙ read_plain g ok rank ranked c (has x) (has m) p f arrows tails i l.vertex l.path l.end l.leads (asked.z_x l.end l.inside)
        ∙ first_own (solution first tails) i
        ∙ ap (λ b. b && has (solution first tails p) 0) (false_from_ne_true (f i) (λ h. asked.before l.end l.inside (record {
          vertex = low;
          path = i ∷ l.path;
          start = p;
          leads = (arrows i h, kept_path g (has x) i l.path l.end l.leads);
          inside = from_x;
        })))
      where
        low : l.end < g.vertices
        low = end_below (cut_out g (has x)) (heads_in (has x)) i l.path l.end l.vertex l.leads

    absent : ⊥
    absent = refuted u past through before

  second_weighs : (u : ℕ → ℕ) → ℕ
  second_weighs u = cond (is_nested second (has x) (has m) (has y) (has z) s no_bits u) (world_weight second u) 0

  impossible : Refuted → weight_of_nested second (has x) (has m) (has y) (has z) s no_bits ≡ 0
  unfolding second_weighs
  impossible refuted = with_rank g ok (weight_of_nested second (has x) (has m) (has y) (has z) s no_bits) 0
      (λ rank ranked. over-congr_within (λ j. true) second.values second.causes second_weighs (λ u. 0 * second_weighs u) tails
      (λ u inside base. none_there u (is_nested second (has x) (has m) (has y) (has z) s no_bits u)
      (absent rank ranked refuted u (λ i il. inside i il refl)) ∙ sym (zero-mul (second_weighs u)))
      ∙ over-scale (λ j. true) second.values second.causes 0 second_weighs tails
      ∙ zero-mul (weight_of_nested second (has x) (has m) (has y) (has z) s no_bits))
    where
      none_there : (u : ℕ → ℕ) (b : Bool) → (b ≡ true → ⊥) → cond b (world_weight second u) 0 ≡ 0
      none_there u true h = absurd (h refl)
      none_there u false h = refl

  pub are_apart : Refuted → AreApart g x m y z
  are_apart refuted = record {
    model = first;
    twisted = second.mechanism;
    fits = core_fits g c (has x) (has m) p f arrows;
    twisted_fits = core_fits g c (has x) (has m) p none (λ i h. absurd (not_both (none i) h refl));
    is_twist = is_twist g c (has x) (has m) p f balance;
    two = record { one = c.one; other = c.other; serves = c.two };
    s = s;
    t = no_bits;
    s_values = s_within;
    t_values = none_within;
    possible = possible;
    impossible = impossible refuted;
  }
