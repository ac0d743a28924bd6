-- Where the effect on y and z has a formula, that of each district is found.
use Rattle.std.proofs.Common.{ℕ, suc, ◌+◌, ◌≡◌, ◌≢◌, ◌<◌, Bool, true, not, refl, sym, ap, ◌∙◌, ◌&&◌, subst, arith, List, [], ◌∷◌, length, get_or, inl, inr, ◌⊎◌, zero}
use Rattle.mixed_graph.specs.Vocabulary.{has, MixedGraph, IsMixedGraph, IsDirectedPath, induced, minus, all}
use Rattle.mixed_graph.proofs.MaskLaws.{has_minus}
use Rattle.mixed_graph.proofs.Masks.{same_from_has}
use Rattle.finite_models.proofs.Bools.{and_first, and_second, same_truth}
use Rattle.hedge.specs.Vocabulary.{IsDistrict, IsJoinedSet, IsLinked, IsMaximalJoined, AreDistricts, AreDistrictsOf, at, by}
use Rattle.std.specs.Prelude.{All}
use Rattle.prob_expr.specs.Tree.{Tree, prob}
use Rattle.prob_expr.specs.Vocabulary.{PlainFormula, Trees}
use Rattle.identification_theory.specs.Vocabulary.{AreAncestorsIn, Source, IsFactor, IsStopped, AreFactored, StopsAt, Split, IsComposed, IsIdentified, IsUnidentified}
use Rattle.identification_theory.proofs.Groups.{Among}
use Rattle.identification_theory.proofs.Stops.{IsHome, home_of}
use Rattle.identification_theory.proofs.Unique.{one_set, split_one, made_or_stopped}
use Rattle.identify.proofs.Orders.{districts_by}
use Rattle.identify.proofs.Shrinking.{district_of_set}

-- the factor of a district of the list
record HasPart (g : MixedGraph) (order : List ℕ) (c : ℕ) : Type 0 where
  a : ℕ
  ancestors : AreAncestorsIn g (all g.vertices) c a
  k : ℕ
  defs : List Tree
  value : Tree
  factor : IsFactor g order c a (Source.Under 0) k defs value

part_in : (g : MixedGraph) (order : List ℕ) (c k : ℕ) (ts : List ℕ) (ds : List Tree) (fs : Trees) → AreFactored g order k ts ds fs → Among c ts
    → HasPart g order c
part_in g order c k _ _ _ AreFactored.none m = absurd m
part_in g order c _ _ _ _ (AreFactored.next {k = k} {c = b} {a = a} {cs = cs} {ds = ds} {es = es} {e = e} {fs = fs} n f r) (inl same) = record {
  a = a;
  ancestors = subst (λ v. AreAncestorsIn g (all g.vertices) v a) (sym same) n;
  k = k;
  defs = ds;
  value = e;
  factor = subst (λ v. IsFactor g order v a (Source.Under 0) k ds e) (sym same) f;
}
part_in g order c _ _ _ _ (AreFactored.next {k = k} {cs = cs} {ds = ds} {es = es} {fs = fs} n f r) (inr m) =
    part_in g order c (k + length ds) cs es fs r m

-- a district of the list that stops
record HasStop (g : MixedGraph) (ts : List ℕ) (big : ℕ) : Type 0 where
  c : ℕ
  among : Among c ts
  a : ℕ
  ancestors : AreAncestorsIn g (all g.vertices) c a
  stops : IsStopped g c a big

stop_in : (g : MixedGraph) (order : List ℕ) (k : ℕ) (ts : List ℕ) (small big : ℕ) → StopsAt g order k ts small big → HasStop g ts big
stop_in g order _ _ _ big (StopsAt.first {c = c} {a = a} n s) = record { c = c; among = inl refl; a = a; ancestors = n; stops = s }
stop_in g order _ _ _ big (StopsAt.after {k = k} {small = small} {cs = cs} {ds = ds} n f r) =
    let h = stop_in g order (k + length ds) cs small big r in
    record { c = h.c; among = inr h.among; a = h.a; ancestors = h.ancestors; stops = h.stops }

module _ (g : MixedGraph) (ok : IsMixedGraph g) (c : ℕ) (low : (v : ℕ) → has c v ≡ true → v < g.vertices) (joined : IsJoinedSet g c) where
  abbrev others : ℕ
  others = minus (all g.vertices) (minus (all g.vertices) c)

  inside : (v : ℕ) → has others v ≡ true → has c v ≡ true
  inside v e = bools (has (all g.vertices) v) (has c v) (sym (ap (λ b. has (all g.vertices) v && not b) (has_minus (all g.vertices) c v))
      ∙ sym (has_minus (all g.vertices) (minus (all g.vertices) c) v) ∙ e)
    where
      bools : (n c : Bool) → (n && not (n && not c)) ≡ true → c ≡ true
      bools n c h = grind (arith, h)

  -- where all others are set the ancestors of c are c
  whole : (d : ℕ) → AreAncestorsIn g others c d → d ≡ c
  whole d are = same_from_has d c (λ v. same_truth (has d v) (has c v)
      (λ e. let k = are.sound v e in go v k.end k.path k.leads k.inside)
      (λ e. are.complete v (record { vertex = low v e; path = []; end = v; leads = refl; inside = e })))
    where
      go : (v end : ℕ) (path : List ℕ) → IsDirectedPath (induced g (has others)) v path end → has c end ≡ true → has c v ≡ true
      go v end [] p i = ap (has c) p ∙ i
      go v end (w ∷ path) p i = inside v (and_first (has others v) (has others w) (and_second (g.arrow v w) (has others v && has others w) p.0))

  -- and c is its own district
  own : (t : ℕ) → IsHome g c t → t ≡ c
  own t h =
      let k : IsDistrict g c c t = district_of_set g ok c c (λ v e. e) h.vertex t h.in_d joined h.district in
      same_from_has t c (λ v. same_truth (has t v) (has c v) (λ e. linked v e k) (λ e. k.complete v (at e)))
    where
      in_set : (v : ℕ) → IsLinked g (has c) (has c) v → has c v ≡ true
      in_set v (at e) = e
      in_set v (by i b r) = i

      linked : (v : ℕ) → has t v ≡ true → IsDistrict g c c t → has c v ≡ true
      linked v e k = in_set v (k.sound v e)

  -- where it has a factor, identification of c under do(all others) doesn't stop
  never : (order : List ℕ) → HasPart g order c → (small big : ℕ) → IsUnidentified g (minus (all g.vertices) c) c small big → ⊥
  never order part small big u =
      let h = stop_in g u.order 0 u.stop.split.districts small big u.stop.stops in
      let d_is = whole u.stop.split.d u.stop.split.is_d in
      let home : IsHome g c h.c = home_of g c 0 u.order u.stop.split.districts h.c
      (subst (λ d. AreDistricts g d 0 u.order u.stop.split.districts) d_is u.stop.split.are_districts) h.among in
      let c_is = own h.c home in
      let a_is : h.a ≡ part.a = one_set h.a part.a _ (subst (λ v. AreAncestorsIn g (all g.vertices) v h.a) c_is h.ancestors) part.ancestors in
      made_or_stopped g order c part.a (Source.Under 0) part.k part.defs part.value big part.factor
      (subst (λ a. IsStopped g c a big) a_is (subst (λ v. IsStopped g v h.a big) c_is h.stops))

  -- a district of a set that has its parents is the district of itself among its ancestors: identification of it doesn't stop
  pub never_closed : (s : ℕ) → ((p v : ℕ) → g.arrow p v ≡ true → has s v ≡ true → has s p ≡ true) → ((v : ℕ) → has c v ≡ true → has s v ≡ true) → IsHome g s c
      → (small big : ℕ) → IsUnidentified g (minus (all g.vertices) c) c small big → ⊥
  never_closed s closed inside_s place small big u =
      let h = stop_in g u.order 0 u.stop.split.districts small big u.stop.stops in
      let d_is = whole u.stop.split.d u.stop.split.is_d in
      let home : IsHome g c h.c = home_of g c 0 u.order u.stop.split.districts h.c
      (subst (λ d. AreDistricts g d 0 u.order u.stop.split.districts) d_is u.stop.split.are_districts) h.among in
      let c_is = own h.c home in
      stopped h.a big (subst (λ v. AreAncestorsIn g (all g.vertices) v h.a) c_is h.ancestors) (subst (λ v. IsStopped g v h.a big) c_is h.stops)
    where
      along : (v end : ℕ) (path : List ℕ) → IsDirectedPath (induced g (has (all g.vertices))) v path end → has c end ≡ true → has s v ≡ true
      along v end [] p i = inside_s v (ap (has c) p ∙ i)
      along v end (w ∷ path) p i = closed v w (and_first (g.arrow v w) (has (all g.vertices) v && has (all g.vertices) w) p.0) (along w end path p.1 i)

      linked : (a v : ℕ) → AreAncestorsIn g (all g.vertices) c a → IsLinked g (has a) (has c) v → has c v ≡ true
      linked a v are (at e) = e
      linked a v are (by {v = w} i b r) = let k = are.sound v i in
          place.district.complete v (by (along v k.end k.path k.leads k.inside) b (place.district.sound w (linked a w are r)))

      district_is : (a t : ℕ) → AreAncestorsIn g (all g.vertices) c a → IsDistrict g a c t → t ≡ c
      district_is a t are d = same_from_has t c (λ v. same_truth (has t v) (has c v) (λ e. linked a v are (d.sound v e)) (λ e. d.complete v (at e)))

      stopped : (a big : ℕ) → AreAncestorsIn g (all g.vertices) c a → IsStopped g c a big → ⊥
      stopped a _ are (IsStopped.here {t = t} d larger leads) = larger (district_is a t are d)
      stopped a _ are (IsStopped.later {t = t} d larger leads smaller more r) = larger (district_is a t are d)

  pub found : (x y : ℕ) → x ≢ 0 → (d : ℕ) → AreAncestorsIn g (minus (all g.vertices) x) y d → (ts : List ℕ) → AreDistrictsOf g d ts → Among c ts
      → (f : PlainFormula) → IsIdentified g x y f → (small big : ℕ) → IsUnidentified g (minus (all g.vertices) c) c small big → ⊥
  found x y some d are ts districts m f i small big u = go i.answer
    where
      split : Split g i.order x y
      split = record { d = d; is_d = are; districts = ts; are_districts = districts_by g d i.order ts i.is_order districts }

      go : ((x ≡ 0) × (f ≡ record { defs = []; main = prob y 0 0 })) ⊎ ((x ≢ 0) × IsComposed g i.order x y f) → ⊥
      go (inl e) = some e.0
      go (inr k) = never i.order (part_in g i.order c 0 ts f.defs k.1.factors
          (subst (λ l. AreFactored g i.order 0 l f.defs k.1.factors) (split_one g i.order x y k.1.split split).1 k.1.are_factored) m) small big u

-- a place of the list
pub among_at : (ts : List ℕ) (i d : ℕ) → i < length ts → Among (get_or ts i d) ts
among_at [] i d lt = absurd (omega arith)
among_at (t ∷ ts) zero d lt = inl refl
among_at (t ∷ ts) (suc i) d lt = inr (among_at ts i d (omega arith))

-- the formula of each district is found
pub districts_found : (g : MixedGraph) → IsMixedGraph g → (x y joint : ℕ) → joint ≡ y → 0 < x → (d : ℕ) → AreAncestorsIn g (minus (all g.vertices) x) joint d
    → (ts : List ℕ) → AreDistrictsOf g d ts → All (IsMaximalJoined g d) ts → (f : PlainFormula) → IsIdentified g x y f
    → All (λ c. (small big : ℕ) → IsUnidentified g (minus (all g.vertices) c) c small big → ⊥) ts
districts_found g ok x y joint same some d are ts districts maximal f i k e lt small big u =
    let is = maximal k e lt in
    found g ok (get_or ts k e) (λ v h. (are.sound v (is.inside v h)).vertex) is.joined x joint (λ z. absurd (omega (arith, some, z))) d are ts districts
    (among_at ts k e lt) f (subst (λ j. IsIdentified g x j f) (sym same) i) small big u

-- no district of a set that has its parents stops
pub districts_never : (g : MixedGraph) → IsMixedGraph g → (s : ℕ) → ((v : ℕ) → has s v ≡ true → v < g.vertices)
    → ((p v : ℕ) → g.arrow p v ≡ true → has s v ≡ true → has s p ≡ true) → (ts : List ℕ) → AreDistrictsOf g s ts → All (IsMaximalJoined g s) ts
    → All (λ c. (small big : ℕ) → IsUnidentified g (minus (all g.vertices) c) c small big → ⊥) ts
districts_never g ok s low closed ts districts maximal k e lt small big u =
    let is = maximal k e lt in
    never_closed g ok (get_or ts k e) (λ v h. low v (is.inside v h)) is.joined s closed is.inside
    (home_of g s 0 districts.order ts (get_or ts k e) districts.districts (among_at ts k e lt)) small big u
