-- A hedge whose roots hold all of z that is in small.
use Rattle.std.proofs.Common.{ℕ, ◌≡◌, ◌<◌, ◌≤◌, ◌⊎◌, inl, inr, Bool, true, false, cond, refl, sym, ◌∙◌, ◌&&◌, ◌||◌, subst, List, [], map, slice_index}
use Rattle.std.proofs.Common.{IsTrue, arith}
use Rattle.std.specs.List.{range_with_len}
use Rattle.std.proofs.lemmas.List.{get_or_past}
use Rattle.std.proofs.lemmas.List.FromFn.{get_or-map-range_with_len, length-map-range_with_len}
use Rattle.std.proofs.lemmas.Bool.{and_from, and_parts, or_cases, cases_lt}
use Rattle.mixed_graph.specs.Vocabulary.{has, MixedGraph}
use Rattle.hedge.specs.declared.hedge.Hedge.{Hedge}
use Rattle.hedge.specs.Vocabulary.{IsHedge, IsChildInside, IsRightChoice, AreRightLinks, Reaches}
use Rattle.counter_models.proofs.Terms.{set_of, has-set}
use Rattle.finite_models.specs.Vocabulary.{mask_of}

module _ (g : MixedGraph) (few : g.vertices ≤ 64) (x z : ℕ) (h : Hedge) (hedge : IsHedge g x z h) where
  -- a root, or a member of small in z
  abbrev pub is_root : ℕ → Bool
  is_root v = has h.roots.bits v || (has h.small.bits v && has z v)

  abbrev next_of : ℕ → ℕ
  next_of v = cond (is_root v) 64 (slice_index h.choice.next v)

  abbrev next_list : List ℕ
  next_list = map next_of (range_with_len 0 64)

  next_at : (v : ℕ) → v < 64 → slice_index next_list v ≡ next_of v
  next_at v lt = get_or-map-range_with_len next_of 0 64 v v 0 lt (omega arith)

  low_next : (v : ℕ) → slice_index next_list v ≤ 64
  low_next v = elim (cases_lt v 64) [
    | inl lt ↦ subst (λ k. k ≤ 64) (sym (next_at v lt)) (go (is_root v))
    | inr ge ↦ subst (λ k. k ≤ 64) (sym (get_or_past next_list v 0 (let l = length-map-range_with_len next_of 0 64 in omega arith))) (omega arith)
  ]
    where
      go : (p : Bool) → cond p 64 (slice_index h.choice.next v) ≤ 64
      go true = omega arith
      go false = h.choice.in_range v

  pub grown : Hedge
  grown = record {
    big = h.big;
    small = h.small;
    roots = set_of is_root;
    choice = record { next = next_list; in_range = low_next };
    links = h.links;
  }

  in_small : (v : ℕ) → is_root v ≡ true → has h.small.bits v ≡ true
  in_small v e = elim (or_cases (has h.roots.bits v) (has h.small.bits v && has z v) e) [
    | inl r ↦ hedge.sets.roots_inside v r
    | inr s ↦ (and_parts (has h.small.bits v) (has z v) s).0
  ]

  low : (v : ℕ) → is_root v ≡ true → v < 64
  low v e = let b = hedge.sets.low v (hedge.sets.small_inside v (in_small v e)) in omega (arith, b, few)

  roots_are : (v : ℕ) → has (mask_of is_root 64) v ≡ is_root v
  roots_are v = has-set is_root low v

  pub grown_roots : (v : ℕ) → IsTrue (has grown.small.bits v) → IsTrue (has z v) → IsTrue (has grown.roots.bits v)
  unfolding grown
  grown_roots v s i = roots_are v ∙ right (has h.roots.bits v) (has h.small.bits v && has z v) (and_from (has h.small.bits v) (has z v) s i)
    where
      right : (p q : Bool) → q ≡ true → (p || q) ≡ true
      right true q e = refl
      right false q e = e

  choices : (v : ℕ) → v < 64 → IsRightChoice g grown v
  unfolding grown
  choices v lt = record { chosen = chosen; none = none }
    where
      left : (p q : Bool) → (p || q) ≡ false → p ≡ false
      left true q e = absurd (grind (arith, e))
      left false q e = refl

      at : is_root v ≡ false → slice_index next_list v ≡ slice_index h.choice.next v
      at e = next_at v lt ∙ (rw e refl)

      chosen : IsTrue (has h.big.bits v) → has (mask_of is_root 64) v ≡ false → IsChildInside g grown v (slice_index next_list v)
      chosen b r =
          let f : is_root v ≡ false = sym (roots_are v) ∙ r in
          let c = (hedge.choices v lt).chosen b (left (has h.roots.bits v) (has h.small.bits v && has z v) f) in
          record {
            arrow = subst (λ k. IsTrue (g.arrow v k)) (sym (at f)) c.arrow;
            in_big = subst (λ k. IsTrue (has h.big.bits k)) (sym (at f)) c.in_big;
            in_small = λ s. subst (λ k. IsTrue (has h.small.bits k)) (sym (at f)) (c.in_small s);
          }

      to_root : is_root v ≡ true → slice_index next_list v ≡ 64
      to_root e = next_at v lt ∙ (rw e refl)

      none : (has h.big.bits v ≡ false) ⊎ IsTrue (has (mask_of is_root 64) v) → slice_index next_list v ≡ 64
      none (inr r) = to_root (sym (roots_are v) ∙ r)
      none (inl b) = go (is_root v) refl
        where
          go : (p : Bool) → is_root v ≡ p → slice_index next_list v ≡ 64
          go true e = to_root e
          go false e = at e ∙ (hedge.choices v lt).none (inl b)

  links : AreRightLinks g grown
  unfolding grown
  links = record {
    placed = λ v b. (let p = hedge.links.placed v b in
        record { place = p.place; listed = p.listed; here = p.here; once = p.once; small_first = p.small_first });
    inside = hedge.links.inside;
    partners = λ i pos lt. (let p = hedge.links.partners i pos lt in
        record { place = p.place; earlier = p.earlier; is = p.is; joined = p.joined; in_small = p.in_small });
  }

  reaches : (v : ℕ) → is_root v ≡ true → Reaches g x z v
  reaches v e = elim (or_cases (has h.roots.bits v) (has h.small.bits v && has z v) e) [
    | inl r ↦ hedge.roots v r
    | inr s ↦ (let p = and_parts (has h.small.bits v) (has z v) s in
        record { vertex = hedge.sets.low v (hedge.sets.small_inside v p.0); path = []; end = v; leads = refl; inside = p.1 })
  ]

  pub grown_hedge : IsHedge g x z grown
  unfolding grown
  grown_hedge = record {
    sets = record {
      low = hedge.sets.low;
      small_inside = hedge.sets.small_inside;
      roots_inside = λ v r. in_small v (sym (roots_are v) ∙ r);
      rooted = (
        hedge.sets.rooted.0,
        roots_are hedge.sets.rooted.0
            ∙ first (has h.roots.bits hedge.sets.rooted.0) (has h.small.bits hedge.sets.rooted.0 && has z hedge.sets.rooted.0) hedge.sets.rooted.1,
      );
    };
    meets = hedge.meets;
    apart = hedge.apart;
    choices = choices;
    links = links;
    roots = λ v r. reaches v (sym (roots_are v) ∙ r);
  }
    where
      first : (p q : Bool) → p ≡ true → (p || q) ≡ true
      first true q e = refl
      first false q e = absurd (grind (arith, e))
