-- The two models of a hedge, as terms.
use Rattle.std.proofs.Common.{ℕ, suc, ◌+◌, ◌^◌, ◌≡◌, ◌<◌, ◌≤◌, Bool, true, false, cond, ◌==◌, ◌&&◌, ◌||◌, Option, Some, None, refl, sym, ap, subst}
use Rattle.std.proofs.Common.{◌∙◌, List, [], ◌∷◌, ◌++◌, map, length, length-append, get_or, slice_index, arith}
use Rattle.std.specs.List.{range_with_len}
use Rattle.std.proofs.lemmas.Bool.{and_parts}
use Rattle.std.proofs.lemmas.List.{get_or-map, get_or_append_left, get_or-append-add, length-map}
use Rattle.std.proofs.lemmas.List.FromFn.{get_or-map-range_with_len, length-map-range_with_len}
use Rattle.mixed_graph.specs.Vocabulary.{has, members_below, MixedGraph, IsMixedGraph}
use Rattle.mixed_graph.proofs.Members.{length-members-le}
use Rattle.finite_models.specs.declared.model.Cause.{Cause}
use Rattle.finite_models.specs.declared.model.Model.{Model}
use Rattle.finite_models.specs.declared.model.Part.{Part}
use Rattle.finite_models.specs.declared.model.Mechanism.{Mechanism}
use Rattle.finite_models.specs.declared.model.Mechanism.TheVariants.{Parity}
use Rattle.finite_models.specs.Vocabulary.{mask_of}
use Rattle.hedge.specs.declared.hedge.Hedge.{Hedge}
use Rattle.hedge.specs.Vocabulary.{size_of, IsHedge}
use Rattle.hedge.specs.declared.joined_sets.lists.Choice.{Choice}
use Rattle.counter_models.specs.Kept.{AreCarriers}
use Rattle.counter_models.specs.Pairs.{links_of, is_linked, before, HasLowLinks, small_cause, kept_cause, IsCauseAt, AreCauses, link_causes, IsHedgePart}
use Rattle.counter_models.specs.Pairs.{IsCarriedPart, IsPartWhere, IsMechanismOf, size_at, IsModelOf, in_first, in_second, IsPairOf}
use Rattle.counter_models.specs.declared.counter_pair.CounterPair.{CounterPair}
use Rattle.counter_models.proofs.Carried.{kept_mask, carry_list, carry_low, are_carried}
use Rattle.counter_models.proofs.Counted.{numbered}
use Rattle.counter_models.proofs.Lists.{before-less, low_links}
use Rattle.counter_models.proofs.Choosing.{kept_low}
use Rattle.counter_models.proofs.Terms.{vec_of, set_of, has-set}

-- a part where b says so
abbrev part_where : Bool → Part → Option Part
part_where b p = cond b (Some p) None

is_part_where : (b : Bool) (P : Part → Type 0) (p : Part) → P p → IsPartWhere b P (part_where b p)
is_part_where true P p i = i
is_part_where false P p i = tt

-- a cause that stands at place j
cause_at : (xs : List Cause) (j : ℕ) (c : Cause) (children : ℕ → Bool) → j < length xs → get_or xs j c ≡ c → ((v : ℕ) → has c.children.bits v ≡ children v)
    → IsCauseAt xs j c.weights.items children
cause_at xs j c children lt e is = record {
  weights_are = get_or-map (λ q. q.weights.items) xs j c [] lt ∙ ap (λ q. q.weights.items) e;
  children_are = λ v. ap (λ m. has m v) (get_or-map (λ q. q.children.bits) xs j c 0 lt ∙ ap (λ q. q.children.bits) e) ∙ is v;
}

-- one more at most
one_more : (b : Bool) (c : ℕ) → length (cond b (c ∷ []) []) ≤ 1
one_more true c = omega arith
one_more false c = omega arith

module _ (h : Hedge) (kept : ℕ) where
  few_links : links_of h ≤ 64
  few_links = let l = h.links.in_range in omega arith

  few_own : size_of h.small.bits ≤ 64
  few_own = length-members-le (has h.small.bits) 64

  few_kept : size_of kept ≤ 64
  few_kept = length-members-le (has kept) 64

  -- ---- causes
  link_cause : ℕ → Cause
  link_cause j = record { weights = vec_of (1 ∷ 1 ∷ []) (omega arith); children = set_of (is_linked h j) }

  own_cause : ℕ → Cause
  own_cause v = record { weights = vec_of (3 ∷ 1 ∷ []) (omega arith); children = set_of (λ u. u == v) }

  of_links : List Cause
  of_links = map link_cause (range_with_len 0 (links_of h))

  of_members : ℕ → List Cause
  of_members s = map own_cause (members_below (has s) 64)

  cause_list : List Cause
  cause_list = of_links ++ (of_members h.small.bits ++ of_members kept)

  length-links : length of_links ≡ links_of h
  unfolding of_links
  length-links = length-map-range_with_len link_cause 0 (links_of h)

  length-members : (s : ℕ) → length (of_members s) ≡ size_of s
  unfolding of_members
  length-members s = length-map (members_below (has s) 64) own_cause

  length-causes : length cause_list ≡ links_of h + size_of h.small.bits + size_of kept
  unfolding cause_list
  length-causes =
      let a = length-append of_links (of_members h.small.bits ++ of_members kept) in
      let b = length-append (of_members h.small.bits) (of_members kept) in
      let l = length-links in
      let m = length-members h.small.bits in
      let k = length-members kept in
      omega arith

  few_causes : length cause_list < 2 ^ 63
  few_causes = let c = length-causes in let l = few_links in let o = few_own in let k = few_kept in omega arith

  member_at : (s v : ℕ) (d : Cause) → has s v ≡ true → v < 64 → get_or (of_members s) (before s v) d ≡ own_cause v
  unfolding of_members
  member_at s v d e lt =
      get_or-map own_cause (members_below (has s) 64) (before s v) 0 d (before-less s v 64 e lt)
      ∙ ap own_cause (numbered s v 64 e lt)

  own_children : (v : ℕ) → v < 64 → (u : ℕ) → has (own_cause v).children.bits u ≡ (u == v)
  unfolding own_cause
  own_children v lt u = has-set (λ w. w == v) (λ w e. low w e) u
    where
      low : (w : ℕ) → (w == v) ≡ true → w < 64
      low w e = let q : w ≡ v = grind (arith, e) in omega arith

  module _ (low : HasLowLinks h) (kept_low : (v : ℕ) → has kept v ≡ true → v < 64) (small_low : (v : ℕ) → has h.small.bits v ≡ true → v < 64) where
    joins_low : (j v : ℕ) → j < links_of h → is_linked h j v ≡ true → v < 64
    joins_low j v lt e = either (v == slice_index h.links.found (suc j)) (v == slice_index h.links.partner (suc j)) refl refl e
      where
        same : (a b : ℕ) → (a == b) ≡ true → a ≡ b
        same a b e = grind (arith, e)

        either : (a b : Bool) → (v == slice_index h.links.found (suc j)) ≡ a → (v == slice_index h.links.partner (suc j)) ≡ b → (a || b) ≡ true → v < 64
        either true b ea eb t = let q = same v (slice_index h.links.found (suc j)) ea in let l = low.entries (suc j) (omega arith) in omega arith
        either false true ea eb t = let q = same v (slice_index h.links.partner (suc j)) eb in let l = low.partners (suc j) (omega arith) (omega arith) in
            omega arith
        either false false ea eb t = absurd (grind (arith, t))

    are_causes : AreCauses h kept cause_list
    unfolding cause_list of_links link_cause own_cause
    are_causes = record {
      count = length-causes;
      links = λ j lt. cause_at cause_list j (link_cause j) (is_linked h j) (let c = length-causes in omega arith)
          (get_or_append_left of_links (of_members h.small.bits ++ of_members kept) (link_cause j) j (let l = length-links in omega arith)
          ∙ get_or-map-range_with_len link_cause 0 (links_of h) j j (link_cause j) lt (omega arith))
          (has-set (is_linked h j) (λ v e. joins_low j v lt e));
      small = λ v e. cause_at cause_list (small_cause h v) (own_cause v) (λ u. u == v)
          (let c = length-causes in let b = before-less h.small.bits v 64 e (small_low v e) in omega arith)
          (ap (λ n. get_or cause_list (n + before h.small.bits v) (own_cause v)) (sym length-links)
          ∙ get_or-append-add of_links (of_members h.small.bits ++ of_members kept) (before h.small.bits v) (own_cause v)
          ∙ get_or_append_left (of_members h.small.bits) (of_members kept) (own_cause v) (before h.small.bits v)
          (let l = length-members h.small.bits in let b = before-less h.small.bits v 64 e (small_low v e) in omega arith)
          ∙ member_at h.small.bits v (own_cause v) e (small_low v e))
          (own_children v (small_low v e));
      kept_ones = λ v e. cause_at cause_list (kept_cause h kept v) (own_cause v) (λ u. u == v)
          (let c = length-causes in let b = before-less kept v 64 e (kept_low v e) in omega arith)
          (ap (λ n. get_or cause_list n (own_cause v)) (let l = length-links in let m = length-members h.small.bits in let z : kept_cause h kept v
          ≡ length of_links + (length (of_members h.small.bits) + before kept v) = omega arith in z)
          ∙ get_or-append-add of_links (of_members h.small.bits ++ of_members kept) (length (of_members h.small.bits) + before kept v) (own_cause v)
          ∙ get_or-append-add (of_members h.small.bits) (of_members kept) (before kept v) (own_cause v)
          ∙ member_at kept v (own_cause v) e (kept_low v e))
          (own_children v (kept_low v e));
    }

-- ---- mechanisms
module _ (h : Hedge) (kept : ℕ) (carry : List ℕ) where
  -- the causes of a hedge bit
  bit_causes : (s v : ℕ) → List ℕ
  bit_causes s v = link_causes h s v ++ cond (has h.small.bits v) (small_cause h v ∷ []) []

  few_bit_causes : (s v : ℕ) → length (bit_causes s v) < 2 ^ 63
  unfolding bit_causes
  few_bit_causes s v =
      let a = length-append (link_causes h s v) (cond (has h.small.bits v) (small_cause h v ∷ []) []) in
      let b = length-members-le (λ j. is_linked h j v && has s (slice_index h.links.found (suc j))) (links_of h) in
      let c = one_more (has h.small.bits v) (small_cause h v) in
      let l = few_links h kept in
      omega arith

  hedge_part : (s v : ℕ) → Part
  hedge_part s v = record {
    hedge_of = set_of (λ u. has s u && (slice_index h.choice.next u == v));
    carried_of = set_of (λ u. false);
    own_hedge = false;
    causes = vec_of (bit_causes s v) (few_bit_causes s v);
  }

  carried_part : ℕ → Part
  carried_part v = record {
    hedge_of = set_of (λ u. false);
    carried_of = set_of (λ u. has kept u && (slice_index carry u == v));
    own_hedge = has h.roots.bits v;
    causes = vec_of (kept_cause h kept v ∷ []) (omega arith);
  }

  mechanism : (s v : ℕ) → Mechanism
  mechanism s v = Parity (part_where (has h.big.bits v) (hedge_part s v)) (part_where (has kept v) (carried_part v))

  none : (u : ℕ) → has (mask_of (λ u. false) 64) u ≡ false
  none u = has-set (λ u. false) (λ v e. absurd (grind (arith, e))) u

  chosen : (s : ℕ) → ((v : ℕ) → has s v ≡ true → v < 64) → (next : List ℕ) (v u : ℕ) → has (mask_of (λ u. has s u && (slice_index next u == v)) 64) u
      ≡ (has s u && (slice_index next u == v))
  chosen s low next v u = has-set (λ u. has s u && (slice_index next u == v)) (λ w e. low w (and_parts (has s w) (slice_index next w == v) e).0) u

  module _ (kept_low : (v : ℕ) → has kept v ≡ true → v < 64) where
    is_mechanism : (s v : ℕ) → ((u : ℕ) → has s u ≡ true → u < 64) → IsMechanismOf h kept carry s v (mechanism s v)
    unfolding mechanism hedge_part carried_part bit_causes
    is_mechanism s v low = (
      is_part_where (has h.big.bits v) (IsHedgePart h s v) (hedge_part s v)
          (record { hedges = chosen s low h.choice.next v; carrieds = none; own = refl; causes = refl }),
      is_part_where (has kept v) (IsCarriedPart h kept carry v) (carried_part v)
          (record { hedges = none; carrieds = chosen kept kept_low carry v; own = refl; causes = refl }),
    )

-- ---- models
module _ (g : MixedGraph) (few : g.vertices ≤ 64) (h : Hedge) (kept : ℕ) (carry : List ℕ) where
  listed : {X : Type 0} → (ℕ → X) → List X
  listed f = map f (range_with_len 0 g.vertices)

  length-listed : {X : Type 0} (f : ℕ → X) → length (listed f) ≡ g.vertices
  unfolding listed
  length-listed f = length-map-range_with_len f 0 g.vertices

  listed_at : {X : Type 0} (f : ℕ → X) (v : ℕ) (d : X) → v < g.vertices → get_or (listed f) v d ≡ f v
  unfolding listed
  listed_at f v d lt = get_or-map-range_with_len f 0 g.vertices v v d lt (omega arith)

  few_listed : {X : Type 0} (f : ℕ → X) → length (listed f) < 2 ^ 63
  few_listed f = let l = length-listed f in omega arith

  model : (ℕ → ℕ) → Model
  model sources = record {
    sizes = vec_of (listed (size_at h kept)) (few_listed (size_at h kept));
    causes = vec_of (cause_list h kept) (few_causes h kept);
    mechanisms = vec_of (listed (λ v. mechanism h kept carry (sources v) v)) (few_listed (λ v. mechanism h kept carry (sources v) v));
  }

  module _ (low : HasLowLinks h) (kept_low : (v : ℕ) → has kept v ≡ true → v < 64) (big_low : (v : ℕ) → has h.big.bits v ≡ true → v < 64)
      (small_big : (v : ℕ) → has h.small.bits v ≡ true → has h.big.bits v ≡ true) where
    is_model : (sources : ℕ → ℕ) → ((v u : ℕ) → has (sources v) u ≡ true → u < 64) → IsModelOf g h kept carry sources (model sources)
    unfolding model
    is_model sources low_sources = record {
      causes = are_causes h kept low kept_low (λ v e. big_low v (small_big v e));
      all_sizes = length-listed (size_at h kept);
      sizes = λ v lt. listed_at (size_at h kept) v 0 lt;
      all_mechanisms = length-listed (λ v. mechanism h kept carry (sources v) v);
      mechanisms = λ v lt past. subst (IsMechanismOf h kept carry (sources v) v) (sym (listed_at (λ v. mechanism h kept carry (sources v) v) v past lt))
          (is_mechanism h kept carry kept_low (sources v) v (low_sources v));
    }

-- each hedge has such a pair
module _ (g : MixedGraph) (graph : IsMixedGraph g) (few : g.vertices ≤ 64) (x y : ℕ) (h : Hedge) (hedge : IsHedge g x y h) where
  kept : ℕ
  kept = kept_mask g graph few x y h.roots.bits hedge.roots

  carry : List ℕ
  carry = carry_list g graph few x y h.roots.bits hedge.roots

  are_kept : AreCarriers g x y h.roots.bits kept carry
  unfolding kept carry
  are_kept = are_carried g graph few x y h.roots.bits hedge.roots

  choice : Choice
  unfolding carry
  choice = record { next = carry; in_range = carry_low g graph few x y h.roots.bits hedge.roots }

  -- the two models of a hedge for the effect of x on y, with the event in which they differ
  pub pair : CounterPair
  pair = record {
    first = model g few h kept carry (in_first h);
    second = model g few h kept carry (in_second h);
    carry = choice;
    event = set_of (λ v. has kept v && has y v);
    noise = size_of h.small.bits + size_of kept;
  }

  big_low : (v : ℕ) → has h.big.bits v ≡ true → v < 64
  big_low v e = let l = hedge.sets.low v e in omega arith

  kept_small : (v : ℕ) → has kept v ≡ true → v < 64
  kept_small v e = kept_low g graph few x y h.roots.bits hedge.roots v (are_kept.sound v e)

  second_low : (v u : ℕ) → has (in_second h v) u ≡ true → u < 64
  second_low v u e = go (has h.small.bits v) e
    where
      go : (b : Bool) → has (cond b h.small.bits h.big.bits) u ≡ true → u < 64
      go true i = big_low u (hedge.sets.small_inside u i)
      go false i = big_low u i

  -- these are the two models of the hedge
  pub is_pair : IsPairOf g x y h pair
  unfolding pair choice
  is_pair = record {
    kept = kept;
    are_kept = are_kept;
    first = is_model g few h kept carry (low_links g x y h few hedge) kept_small big_low (λ v e. hedge.sets.small_inside v e) (in_first h)
        (λ v u e. big_low u e);
    second = is_model g few h kept carry (low_links g x y h few hedge) kept_small big_low (λ v e. hedge.sets.small_inside v e) (in_second h) second_low;
    event = has-set (λ v. has kept v && has y v) (λ v e. kept_small v (and_parts (has kept v) (has y v) e).0);
    noise = refl;
  }
