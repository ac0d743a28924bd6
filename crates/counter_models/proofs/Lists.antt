-- Lists that grow by one entry, and the members of a set below a bound.
use Rattle.std.proofs.Common.{ℕ, zero, suc, ◌+◌, ◌≡◌, ◌<◌, ◌≤◌, Bool, true, false, cond, ◌&&◌, ◌||◌, slice_index, nat_lt, ◌==◌, ◌⊎◌, inl, inr, refl}
use Rattle.std.proofs.Common.{sym, ap, ◌∙◌, List, [], ◌∷◌, ◌++◌, map, get_or, length, length-append, arith}
use Rattle.std.proofs.lemmas.Bool.{cases_lt}
use Rattle.mixed_graph.specs.Vocabulary.{has, members_below, MixedGraph}
use Rattle.mixed_graph.proofs.Members.{one_if, length-members-suc, length-members-zero}
use Rattle.finite_models.specs.declared.model.Cause.{Cause}
use Rattle.finite_models.specs.Vocabulary.{weights_of, children_of}
use Rattle.hedge.specs.declared.hedge.Hedge.{Hedge}
use Rattle.hedge.specs.Vocabulary.{IsHedge}
use Rattle.counter_models.specs.Pairs.{HasLowLinks, IsCauseAt, before, is_linked}

-- an old entry, and the new one
pub get-old : {A : Type 0} (xs : List A) (c : A) (j : ℕ) (d : A) → j < length xs → get_or (xs ++ c ∷ []) j d ≡ get_or xs j d
get-old [] c j d lt = absurd (omega arith)
get-old (x ∷ xs) c zero d lt = refl
get-old (x ∷ xs) c (suc j) d lt = get-old xs c j d (omega arith)

pub get-new : {A : Type 0} (xs : List A) (c : A) (j : ℕ) (d : A) → j ≡ length xs → get_or (xs ++ c ∷ []) j d ≡ c
get-new [] c zero d e = refl
get-new [] c (suc j) d e = absurd (omega arith)
get-new (x ∷ xs) c zero d e = absurd (omega arith)
get-new (x ∷ xs) c (suc j) d e = get-new xs c j d (omega arith)

pub map-old : {A B : Type 0} (f : A → B) (xs : List A) (c : A) (j : ℕ) (d : B) → j < length xs → get_or (map f (xs ++ c ∷ [])) j d ≡ get_or (map f xs) j d
map-old f [] c j d lt = absurd (omega arith)
map-old f (x ∷ xs) c zero d lt = refl
map-old f (x ∷ xs) c (suc j) d lt = map-old f xs c j d (omega arith)

pub map-new : {A B : Type 0} (f : A → B) (xs : List A) (c : A) (j : ℕ) (d : B) → j ≡ length xs → get_or (map f (xs ++ c ∷ [])) j d ≡ f c
map-new f [] c zero d e = refl
map-new f [] c (suc j) d e = absurd (omega arith)
map-new f (x ∷ xs) c zero d e = absurd (omega arith)
map-new f (x ∷ xs) c (suc j) d e = map-new f xs c j d (omega arith)

pub cause-old : (xs : List Cause) (c : Cause) (j : ℕ) (w : List ℕ) (ch : ℕ → Bool) → j < length xs → IsCauseAt xs j w ch → IsCauseAt (xs ++ c ∷ []) j w ch
cause-old xs c j w ch lt is = record {
  weights_are = map-old (λ q. q.weights.items) xs c j [] lt ∙ is.weights_are;
  children_are = λ v. ap (λ m. has m v) (map-old (λ q. q.children.bits) xs c j 0 lt) ∙ is.children_are v;
}

pub cause-new : (xs : List Cause) (c : Cause) (j : ℕ) (w : List ℕ) (ch : ℕ → Bool) → j ≡ length xs → c.weights.items ≡ w
    → ((v : ℕ) → has c.children.bits v ≡ ch v) → IsCauseAt (xs ++ c ∷ []) j w ch
cause-new xs c j w ch e ws cs = record {
  weights_are = map-new (λ q. q.weights.items) xs c j [] e ∙ ws;
  children_are = λ v. ap (λ m. has m v) (map-new (λ q. q.children.bits) xs c j 0 e) ∙ cs v;
}

-- members of a set
pub members-suc : (s : ℕ → Bool) (k : ℕ) → members_below s (suc k) ≡ members_below s k ++ cond (s k) (k ∷ []) []
unfolding members_below
members-suc s k = refl

pub members-none : (s : ℕ → Bool) → members_below s 0 ≡ []
unfolding members_below
members-none s = refl

pub count-congr : (s t : ℕ → Bool) (k : ℕ) → ((u : ℕ) → u < k → s u ≡ t u) → length (members_below s k) ≡ length (members_below t k)
count-congr s t zero h = ap length (members-none s ∙ sym (members-none t))
count-congr s t (suc k) h = length-members-suc s k ∙ (let a = count-congr s t k (λ u lt. h u (omega arith)) in let b = h k (omega arith) in rw (a, b) refl)
    ∙ sym (length-members-suc t k)

pub count-cut : (s t : ℕ → Bool) (v k : ℕ) → ((u : ℕ) → t u ≡ (s u && nat_lt u v)) → v ≤ k → length (members_below t k) ≡ length (members_below s v)
count-cut s t v zero h le = let e : v ≡ 0 = omega arith in rw e (length-members-zero t ∙ sym (length-members-zero s))
count-cut s t v (suc k) h le = go (cases_lt k v) (count-cut s t v k h)
  where
    inside : (b : Bool) (u : ℕ) → u < v → (b && nat_lt u v) ≡ b
    inside true u lt = grind (arith, lt)
    inside false u lt = refl

    outside : (b : Bool) (u : ℕ) → v ≤ u → (b && nat_lt u v) ≡ false
    outside true u ge = grind (arith, ge)
    outside false u ge = refl

    go : (k < v) ⊎ (v ≤ k) → (v ≤ k → length (members_below t k) ≡ length (members_below s v)) → length (members_below t (suc k)) ≡ length (members_below s v)
    go (inl lt) ih = let e : v ≡ suc k = omega arith in rw e (count-congr t s (suc k) (λ u l. h u ∙ inside (s u) u (omega arith)))
    go (inr ge) ih = length-members-suc t k ∙ ap (λ b. length (members_below t k) + one_if b) (h k ∙ outside (s k) k ge)
        ∙ (let z : length (members_below t k) + 0 ≡ length (members_below t k) = omega arith in z) ∙ ih ge

pub count-mono : (s : ℕ → Bool) (u v : ℕ) → u ≤ v → length (members_below s u) ≤ length (members_below s v)
count-mono s u zero le = let e : u ≡ 0 = omega arith in rw e (omega arith)
count-mono s u (suc v) le = go (cases_lt v u) (count-mono s u v)
  where
    go : (v < u) ⊎ (u ≤ v) → (u ≤ v → length (members_below s u) ≤ length (members_below s v)) → length (members_below s u) ≤ length (members_below s (suc v))
    go (inl lt) ih = let e : u ≡ suc v = omega arith in rw e (omega arith)
    go (inr ge) ih = let a = ih ge in let b = length-members-suc s v in omega arith

pub before-less : (s u v : ℕ) → has s u ≡ true → u < v → before s u < before s v
before-less s u v e lt = let a = length-members-suc (has s) u in let b = count-mono (has s) (suc u) v (omega arith) in let c : one_if (has s u) ≡ 1 =
    ap one_if e in omega arith

pub members-more : (s : ℕ → Bool) (k : ℕ) (xs ys : List ℕ) → xs ≡ members_below s k → s k ≡ true → ys ≡ xs ++ k ∷ [] → ys ≡ members_below s (k + 1)
members-more s k xs ys e i q = let z : k + 1 ≡ suc k = omega arith in rw z
    (q ∙ ap (λ r. r ++ k ∷ []) e ∙ ap (λ b. members_below s k ++ cond b (k ∷ []) []) (sym i) ∙ sym (members-suc s k))

pub members-skip : (s : ℕ → Bool) (k : ℕ) (xs : List ℕ) → xs ≡ members_below s k → s k ≡ false → xs ≡ members_below s (k + 1)
members-skip s k xs e o = let z : k + 1 ≡ suc k = omega arith in rw z (e ∙ sym (append_nil (members_below s k))
    ∙ ap (λ b. members_below s k ++ cond b (k ∷ []) []) (sym o) ∙ sym (members-suc s k))
  where
    append_nil : (ys : List ℕ) → ys ++ [] ≡ ys
    append_nil [] = refl
    append_nil (y ∷ ys) = ap (λ r. y ∷ r) (append_nil ys)

pub joins-at : (h : Hedge) (j u : ℕ) → ((u == slice_index h.links.found (j + 1)) || (u == slice_index h.links.partner (j + 1))) ≡ is_linked h j u
joins-at h j u = ap (λ k. (u == slice_index h.links.found k) || (u == slice_index h.links.partner k)) (let z : j + 1 ≡ suc j = omega arith in z)

-- the links of a hedge are low
pub low_links : (g : MixedGraph) (x y : ℕ) (h : Hedge) → g.vertices ≤ 64 → IsHedge g x y h → HasLowLinks h
low_links g x y h small hedge = record {
  entries = entries;
  partners = λ i pos lt. let p = hedge.links.partners i pos lt in rw (sym p.is) (entries p.place (let e = p.earlier in omega arith));
}
  where
    entries : (i : ℕ) → i < h.links.count → slice_index h.links.found i < 64
    entries i lt = let l = hedge.sets.low (slice_index h.links.found i) (hedge.links.inside i lt) in omega arith

-- ---- causes are added
pub record Linking (h : Hedge) (xs : List Cause) (j : ℕ) : Type 0 where
  pub count : length xs ≡ j
  pub links : (i : ℕ) → i < j → IsCauseAt xs i (1 ∷ 1 ∷ []) (is_linked h i)

pub linking-more : (h : Hedge) (xs ys : List Cause) (c : Cause) (j : ℕ) → ys ≡ xs ++ c ∷ [] → c.weights.items ≡ 1 ∷ 1 ∷ []
    → ((u : ℕ) → has c.children.bits u ≡ is_linked h j u) → Linking h xs j → Linking h ys (j + 1)
linking-more h xs ys c j e ws cs l = record {
  count = ap length e ∙ (let a = length-append xs (c ∷ []) in let b = l.count in omega arith);
  links = λ i lt. rw e (go i (cases_lt i j) lt);
}
  where
    go : (i : ℕ) → (i < j) ⊎ (j ≤ i) → i < j + 1 → IsCauseAt (xs ++ c ∷ []) i (1 ∷ 1 ∷ []) (is_linked h i)
    go i (inl lt) k = cause-old xs c i (1 ∷ 1 ∷ []) (is_linked h i) (let b = l.count in omega arith) (l.links i lt)
    go i (inr ge) k = let s : i ≡ j = omega arith in cause-new xs c i (1 ∷ 1 ∷ []) (is_linked h i) (let b = l.count in omega arith) ws
        (λ u. cs u ∙ ap (λ q. is_linked h q u) (sym s))

pub record Adding (base xs : List Cause) (s v : ℕ) : Type 0 where
  pub count : length xs ≡ length base + before s v
  pub old : (j : ℕ) → j < length base → (weights_of xs j ≡ weights_of base j) × (children_of xs j ≡ children_of base j)
  pub fresh : (u : ℕ) → u < v → has s u ≡ true → IsCauseAt xs (length base + before s u) (3 ∷ 1 ∷ []) (λ w. w == u)

pub adding-none : (base : List Cause) (s : ℕ) → Adding base base s 0
adding-none base s = record { count = (let z = length-members-zero (has s) in omega arith); old = λ j lt. (refl, refl); fresh = λ u lt. absurd (omega arith) }

pub adding-same : (base xs : List Cause) (s v : ℕ) → has s v ≡ false → Adding base xs s v → Adding base xs s (v + 1)
adding-same base xs s v e a = record {
  count = (let n = a.count in let m = length-members-suc (has s) v in let z : one_if (has s v) ≡ 0 = ap one_if e in let q : v + 1 ≡ suc v = omega arith in
      rw q (omega arith));
  old = a.old;
  fresh = λ u lt i. a.fresh u (not_last u (cases_lt u v) i lt) i;
}
  where
    not_last : (u : ℕ) → (u < v) ⊎ (v ≤ u) → has s u ≡ true → u < v + 1 → u < v
    not_last u (inl l) i lt = l
    not_last u (inr ge) i lt = absurd (let q : u ≡ v = omega arith in let r : has s v ≡ true = ap (has s) (sym q) ∙ i in grind (arith, r, e))

pub adding-more : (base xs ys : List Cause) (c : Cause) (s v : ℕ) → ys ≡ xs ++ c ∷ [] → has s v ≡ true → c.weights.items ≡ 3 ∷ 1 ∷ []
    → ((u : ℕ) → has c.children.bits u ≡ (u == v)) → Adding base xs s v → Adding base ys s (v + 1)
adding-more base xs ys c s v e i ws cs a = record {
  count = ap length e ∙ (let l = length-append xs (c ∷ []) in let n = a.count in let m = length-members-suc (has s) v in let z : one_if (has s v) ≡ 1 =
      ap one_if i in let q : v + 1 ≡ suc v = omega arith in rw q (omega arith));
  old = λ j lt. let o = a.old j lt in let n = a.count in rw e (
    map-old (λ q. q.weights.items) xs c j [] (omega arith) ∙ o.0,
    map-old (λ q. q.children.bits) xs c j 0 (omega arith) ∙ o.1,
  );
  fresh = λ u lt h. rw e (go u (cases_lt u v) lt h);
}
  where
    go : (u : ℕ) → (u < v) ⊎ (v ≤ u) → u < v + 1 → has s u ≡ true → IsCauseAt (xs ++ c ∷ []) (length base + before s u) (3 ∷ 1 ∷ []) (λ w. w == u)
    go u (inl l) lt h = cause-old xs c (length base + before s u) (3 ∷ 1 ∷ []) (λ w. w == u) (let n = a.count in let b = before-less s u v h l in omega arith)
        (a.fresh u l h)
    go u (inr ge) lt h = let q : u ≡ v = omega arith in
        cause-new xs c (length base + before s u) (3 ∷ 1 ∷ []) (λ w. w == u) (let n = a.count in ap (λ z. length base + before s z) q ∙ sym n) ws
        (λ z. cs z ∙ ap (λ k. z == k) (sym q))
