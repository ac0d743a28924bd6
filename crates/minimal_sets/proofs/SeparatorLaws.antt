-- The closest separator and the branches.
use Rattle.std.proofs.Common.{ℕ, ◌≡◌, Bool, true, false, eqb, not, refl, sym, ◌||◌, ◌&&◌, ◌⊎◌, inl, inr, arith, eqb-true}
use Rattle.minimal_sets.proofs.Tests.{and_first, and_second, not_both}
use Rattle.std.proofs.lemmas.Bool.{and_from, false_from_ne_true, not-true, not_from_false}
use Rattle.minimal_sets.specs.Separators.{Reached, start, step, IsSeparator, IsPart, IsMinimalSeparator, IsOnSide, IsClosest, IsInseparable, IsInBranch}

pub by_test : (b : Bool) → (C : Type 0) → (b ≡ true → C) → (b ≡ false → C) → C
by_test true C f h = f refl
by_test false C f h = h refl

pub part_false : (a b : ℕ → Bool) → IsPart a b → (v : ℕ) → b v ≡ false → a v ≡ false
part_false a b h v o = false_from_ne_true (a v) (λ e. not_both (b v) (h v e) o)

abbrev pub without : (ℕ → Bool) → ℕ → ℕ → Bool
without z v w = z w && not (eqb w v)

module _ (near : ℕ → ℕ → Bool) where
  -- what is reached outside z isn't in z
  pub outside : (s z : ℕ → Bool) (v : ℕ) → Reached near s z v → z v ≡ false
  outside s z v (start e o) = o
  outside s z v (step r a o) = o

  pub reached_part : (s z p : ℕ → Bool) → IsPart p z → (v : ℕ) → Reached near s z v → Reached near s p v
  reached_part s z p h v (start e o) = start e (part_false p z h v o)
  reached_part s z p h v (step {u = u} r a o) = step (reached_part s z p h u r) a (part_false p z h v o)

  module _ (turn : (u v : ℕ) → near u v ≡ true → near v u ≡ true) where
    -- two sides that don't meet at the start of the one don't meet
    pub apart : (s t z : ℕ → Bool) → ((v : ℕ) → s v ≡ true → Reached near t z v → ⊥) → (v : ℕ) → Reached near s z v → Reached near t z v → ⊥
    apart s t z h v (start e o) k = h v e k
    apart s t z h v (step {u = u} r a o) k = apart s t z h u r (step k (turn u v a) (outside s z u r))

    module _ (R X Y : ℕ → Bool) (y_fixed : (v : ℕ) → Y v ≡ true → R v ≡ false) where
      pub separator_apart : (z : ℕ → Bool) → IsSeparator near X Y z → (v : ℕ) → Reached near Y z v → Reached near X z v → ⊥
      separator_apart z c v r k = apart Y X z c v r k

      -- a vertex of a minimal separator is next to the side of y
      pub touched : (z : ℕ → Bool) → IsMinimalSeparator near R X Y z → (v : ℕ) → z v ≡ true → ((w : ℕ) → Reached near Y z w → near w v ≡ true → ⊥) → ⊥
      touched z k v e none = not_both (without z v v) (k.minimal (without z v) (λ w i. and_first (z w) (not (eqb w v)) i) separator v e) (gone (eqb v v) refl)
        where
          gone : (c : Bool) → eqb v v ≡ c → (z v && not (eqb v v)) ≡ false
          gone true q = rw (q, e) refl
          gone false q = absurd (grind (arith, q))

          kept : (w : ℕ) → (z w && not (eqb w v)) ≡ false → (z w ≡ false → ⊥) → w ≡ v
          kept w o in_z = by_test (eqb w v) (w ≡ v) (λ q. eqb-true w v q)
              (λ q. absurd (in_z (false_from_ne_true (z w) (λ i. not_both (z w && not (eqb w v))
              (and_from (z w) (not (eqb w v)) i (not_from_false (eqb w v) q)) o))))

          same : (w : ℕ) → Reached near Y (λ w. z w && not (eqb w v)) w → Reached near Y z w
          same w (start y o) = start y (part_false z R k.within w (y_fixed w y))
          same w (step {u = u} r a o) = let q = same u r in
              by_test (z w) (Reached near Y z w) (λ i. absurd (none u q (rw (sym (kept w o (λ f. not_both (z w) i f))) a))) (λ i. step q a i)

          separator : IsSeparator near X Y (without z v)
          separator w y r = apart X Y (λ w. z w && not (eqb w v)) (λ t x q. separator_apart z k.separates t (same t q) (start x (outside Y z t (same t q)))) w r
              (start y (outside X (λ w. z w && not (eqb w v)) w r))

      module _ (S S1 : ℕ → Bool)
          (s_connected : (v : ℕ) → S v ≡ true → Reached near X (λ u. not (S u)) v) (x_in : IsPart X S)
          (s1_is : (v : ℕ) → S1 v ≡ true → Reached near S (λ u. R u && not (S u)) v)
          (s1_all : (v : ℕ) → Reached near S (λ u. R u && not (S u)) v → S1 v ≡ true) where
        -- a separator that has S on the side of x has S1 there
        pub along : (z : ℕ → Bool) → IsPart z R → IsOnSide near X z S → (v : ℕ) → Reached near S (λ u. R u && not (S u)) v → Reached near X z v
        along z zr on v (start e o) = on v e
        along z zr on v (step {u = u} r a o) = let q = along z zr on u r in
            by_test (S v) (Reached near X z v) (λ e. on v e)
            (λ e. step q a (part_false z R zr v (false_from_ne_true (R v)
            (λ i. not_both (R v && not (S v)) (and_from (R v) (not (S v)) i (not_from_false (S v) e)) o))))

        pub inseparable : (v : ℕ) → S1 v ≡ true → Y v ≡ true → IsInseparable near R X Y S
        inseparable v e y z k on = k.separates v y (along z k.within on v (s1_is v e))

        module _ (F T C D : ℕ → Bool)
            (f_is : (v : ℕ) → F v ≡ true → (R v ≡ true) × (S v ≡ false) × ((u : ℕ) × (S1 u ≡ true) × (near u v ≡ true)))
            (f_all : (u v : ℕ) → R v ≡ true → S v ≡ false → S1 u ≡ true → near u v ≡ true → F v ≡ true)
            (y_away : (v : ℕ) → S1 v ≡ true → Y v ≡ false)
            (t_is : (v : ℕ) → T v ≡ true → Reached near Y F v) (t_all : (v : ℕ) → Reached near Y F v → T v ≡ true)
            (c_is : (v : ℕ) → C v ≡ true → (F v ≡ true) × ((u : ℕ) × (T u ≡ true) × (near u v ≡ true)))
            (c_all : (u v : ℕ) → F v ≡ true → T u ≡ true → near u v ≡ true → C v ≡ true)
            (d_is : (v : ℕ) → D v ≡ true → Reached near X C v) (d_all : (v : ℕ) → Reached near X C v → D v ≡ true) where
          f_fixed : (v : ℕ) → Y v ≡ true → F v ≡ false
          f_fixed v y = false_from_ne_true (F v) (λ e. not_both (R v) (f_is v e).0 (y_fixed v y))

          c_in_f : IsPart C F
          c_in_f v e = (c_is v e).0

          -- the sides of S and of y don't meet
          sides_apart : (v : ℕ) → Reached near Y F v → S1 v ≡ true → ⊥
          sides_apart v (start y o) e = not_both (Y v) y (y_away v e)
          sides_apart v (step {u = u} r a o) e =
              sides_apart u r (s1_all u (step (s1_is v e) (turn u v a) (false_from_ne_true (R u && not (S u)) (λ i.
              not_both (F u) (f_all v u (and_first (R u) (not (S u)) i) (not-true (S u) (and_second (R u) (not (S u)) i)) e (turn u v a)) (outside Y F u r)))))

          -- the side of y at the separator is T
          stays : (v : ℕ) → Reached near Y C v → Reached near Y F v
          stays v (start y o) = start y (f_fixed v y)
          stays v (step {u = u} r a o) = let q = stays u r in step q a (false_from_ne_true (F v) (λ e. not_both (C v) (c_all u v e (t_all u q) a) o))

          is_separator : IsSeparator near X Y C
          is_separator v y r = apart X Y C (λ t x q. sides_apart t (stays t q) (s1_all t (start (x_in t x) (low t (x_in t x))))) v r (start y (outside X C v r))
            where
              low : (t : ℕ) → S t ≡ true → (R t && not (S t)) ≡ false
              low t e = false_from_ne_true (R t && not (S t)) (λ i. not_both (S t) e (not-true (S t) (and_second (R t) (not (S t)) i)))

          not_c : (v : ℕ) → S v ≡ true → C v ≡ false
          not_c v e = false_from_ne_true (C v) (λ c. not_both (S v) e (f_is v (c_in_f v c)).1)

          side_s : (v : ℕ) → Reached near X (λ u. not (S u)) v → Reached near X C v
          side_s v r = reached_part X (λ u. not (S u)) C (λ u c. not_from_false (S u) (f_is u (c_in_f u c)).1) v r

          side_s1 : (v : ℕ) → Reached near S (λ u. R u && not (S u)) v → Reached near X C v
          side_s1 v (start e o) = side_s v (s_connected v e)
          side_s1 v (step {u = u} r a o) = step (side_s1 u r) a (false_from_ne_true (C v) (λ c. let f = f_is v (c_in_f v c) in
              not_both (R v && not (S v)) (and_from (R v) (not (S v)) f.0 (not_from_false (S v) f.1)) o))

          is_minimal : IsMinimalSeparator near R X Y C
          is_minimal = record { within = λ v e. (f_is v (c_in_f v e)).0; separates = is_separator; minimal = minimal }
            where
              minimal : (p : ℕ → Bool) → IsPart p C → IsSeparator near X Y p → IsPart C p
              minimal p part separator v e = by_test (p v) (p v ≡ true) (λ i. i) (λ o.
                  let f = f_is v (c_in_f v e) in let c = c_is v e in
                  absurd (separator_apart p separator v
                  (step (reached_part Y F p (λ w i. c_in_f w (part w i)) c.1.0 (t_is c.1.0 c.1.1)) c.1.2 o)
                  (step (reached_part X C p part f.2.0 (side_s1 f.2.0 (s1_is f.2.0 f.2.1))) f.2.2 o)))

          nearest : (z : ℕ → Bool) → IsMinimalSeparator near R X Y z → IsOnSide near X z S → (v : ℕ) → Reached near X C v → Reached near X z v
          nearest z k on v (start x o) = on v (x_in v x)
          nearest z k on v (step {u = u} r a o) = let q = nearest z k on u r in
              by_test (z v) (Reached near X z v) (λ i. absurd (touched z k v i (λ w l b. meets w (wider w l) b))) (λ i. step q a i)
            where
              wider : (w : ℕ) → Reached near Y z w → Reached near Y F w
              wider w (start y o) = start y (f_fixed w y)
              wider w (step {u = t} l b o') = step (wider t l) b (false_from_ne_true (F w) (λ e. let f = f_is w e in
                  separator_apart z k.separates w (step l b o') (step (along z k.within on f.2.0 (s1_is f.2.0 f.2.1)) f.2.2 o')))

              meets : (w : ℕ) → Reached near Y F w → near w v ≡ true → ⊥
              meets w l b = by_test (F v) ⊥ (λ e. not_both (C v) (c_all w v e (t_all w l) b) o)
                  (λ e. separator_apart C is_separator v (step (reached_part Y F C c_in_f w l) b o) (step r a o))

          pub is_closest : IsClosest near R X Y S C D
          is_closest = record {
            minimal = is_minimal;
            side_is = d_is;
            side_all = d_all;
            holds = λ v e. d_all v (side_s v (s_connected v e));
            touches = λ v e. let f = f_is v (c_in_f v e) in (f.2.0, d_all f.2.0 (side_s1 f.2.0 (s1_is f.2.0 f.2.1)), f.2.2);
            closest = λ z k on v e. nearest z k on v (d_is v e);
          }

      -- ---- the branches
      module _ (s c d : ℕ → Bool) (here : IsClosest near R X Y s c d) where
        -- a vertex of the closest separator is in the separator or on the side of x, and not both
        pub either_way : (k z : ℕ → Bool) → IsInBranch near R X Y d k z → (v : ℕ) → c v ≡ true → (z v ≡ true) ⊎ Reached near X z v
        either_way k z b v e = let t = here.touches v e in
            by_test (z v) ((z v ≡ true) ⊎ Reached near X z v) (λ i. inl i) (λ o. inr (step (b.side t.0 t.1) t.2 o))

        -- a branch whose closest separator is kept whole holds that separator alone
        pub alone : (k z : ℕ → Bool) → IsPart c k → IsInBranch near R X Y d k z → (IsPart c z) × (IsPart z c)
        alone k z ck b = let cz : IsPart c z = λ v e. b.keeps v (ck v e) in (cz, b.minimal.minimal c cz here.minimal.separates)

        pub own : (k : ℕ → Bool) → IsPart k c → IsInBranch near R X Y d k c
        own k kc = record { minimal = here.minimal; side = here.side_is; keeps = kc }

        -- the side for the branch in which v joins is connected
        pub joined_connected : (v : ℕ) → c v ≡ true → (w : ℕ) → (d w || eqb w v) ≡ true → Reached near X (λ u. not (d u || eqb u v)) w
        joined_connected v e w i = by_test (d w) (Reached near X (λ u. not (d u || eqb u v)) w) (λ j. inside w (here.side_is w j))
            (λ o. let t = here.touches v e in let q : w ≡ v = eqb-true w v (second (d w) (eqb w v) i o) in
            step (inside t.0 (here.side_is t.0 t.1)) (rw q t.2) (kept w i))
          where
            second : (a b : Bool) → (a || b) ≡ true → a ≡ false → b ≡ true
            second true b i o = absurd (grind (arith, o))
            second false b i o = i

            kept : (w : ℕ) → (d w || eqb w v) ≡ true → not (d w || eqb w v) ≡ false
            kept w i = rw i refl

            first : (a b : Bool) → a ≡ true → (a || b) ≡ true
            first true b i = refl
            first false b i = absurd (grind (arith, i))

            inside : (w : ℕ) → Reached near X c w → Reached near X (λ u. not (d u || eqb u v)) w
            inside w (start x o) = start x (kept w (first (d w) (eqb w v) (here.side_all w (start x o))))
            inside w (step {u = u} r a o) = step (inside u r) a (kept w (first (d w) (eqb w v) (here.side_all w (step r a o))))

        -- what is kept stays in the closest separator of the branch in which v joins, if that branch holds a set
        pub still_kept : (k s1 c1 d1 z : ℕ → Bool) → IsPart k c → IsPart d s1 → IsClosest near R X Y s1 c1 d1 → IsInBranch near R X Y s1 k z → IsPart k c1
        still_kept k s1 c1 d1 z kc ds there b v e = let t = here.touches v (kc v e) in
            by_test (c1 v) (c1 v ≡ true) (λ i. i) (λ o. absurd (not_both (z v) (b.keeps v e)
            (outside X z v (there.closest z b.minimal b.side v (there.side_all v (step (there.side_is t.0 (there.holds t.0 (ds t.0 t.1))) t.2 o))))))

        -- the branch of the side s1 is that of its closest separator's side
        pub same_branch : (k s1 c1 d1 z : ℕ → Bool) → IsClosest near R X Y s1 c1 d1 → IsInBranch near R X Y s1 k z → IsInBranch near R X Y d1 k z
        same_branch k s1 c1 d1 z there b = record { minimal = b.minimal; side = there.closest z b.minimal b.side; keeps = b.keeps }
