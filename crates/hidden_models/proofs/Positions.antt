-- Members of a set, numbered in their order; sums and products over them.
use Rattle.std.proofs.Common.{ℕ, zero, suc, ◌+◌, ◌*◌, ◌≡◌, ◌<◌, ◌≤◌, Bool, true, false, cond, eqb, [], ◌∷◌, ◌++◌, ◌⊎◌, inl, inr, get_or, refl, sym}
use Rattle.std.proofs.Common.{ap, ◌∙◌, subst, arith, eqb-true, add-one}
use Rattle.std.proofs.lemmas.Bool.{cases_lt}
use Rattle.std.proofs.lemmas.List.{get_or_append_left}
use Rattle.std.proofs.Math.Seq.{get_or-append_seam}
use Rattle.mixed_graph.specs.Vocabulary.{members_below}
use Rattle.mixed_graph.proofs.Members.{one_if, length-members-suc, length-members-zero}
use Rattle.finite_models.specs.Vocabulary.{product_below, set_at, sum_over}
use Rattle.finite_models.proofs.SumLaws.{sum_below-congr, set_at-same, set_at-swap, along, over-congr_within}
use Rattle.latent_projection.proofs.Numbering.{members-more, members-same, at_place}
use Rattle.hidden_models.proofs.FoldingLaw.{position, member}

module _ (j : ℕ → Bool) where
  -- the members below k + 1 are one more than those below k where k is a member, else as many
  pub position_suc : (k : ℕ) → position j (suc k) ≡ cond (j k) (suc (position j k)) (position j k)
  position_suc k = length-members-suc j k ∙ go (j k) (position j k)
    where
      go : (c : Bool) (p : ℕ) → p + one_if c ≡ cond c (suc p) p
      go true p = omega arith
      go false p = omega arith

  -- the new number of a member below n is below the number of such members
  pub position_lt : (i n : ℕ) → i < n → j i ≡ true → position j i < position j n
  position_lt i n lt e = (at_place j n i lt e).below

  -- a member is found again
  pub member_position : (n i : ℕ) → i < n → j i ≡ true → member j n (position j i) ≡ i
  member_position n i lt e = (at_place j n i lt e).entry

  pub record IsMember (n i : ℕ) : Type 0 where
    pub below : member j n i < n
    pub inside : j (member j n i) ≡ true
    pub place : position j (member j n i) ≡ i

  -- each number below the number of members is the new number of one of them
  pub member_is : (n i : ℕ) → i < position j n → IsMember n i
  member_is zero i lt = absurd (omega (arith, length-members-zero j))
  member_is (suc n) i lt = go (cases_lt i (position j n)) (j n) refl (λ l. member_is n i l)
    where
      go : (i < position j n) ⊎ (position j n ≤ i) → (c : Bool) → j n ≡ c → (i < position j n → IsMember n i) → IsMember (suc n) i
      go (inl l) true e ih =
          let m = ih l in
          let q : member j (suc n) i ≡ member j n i = ap (λ k. member j k i) (sym (add-one n)) ∙ ap (λ r. get_or r i 0) (members-more j n e)
          ∙ get_or_append_left (members_below j n) (n ∷ []) 0 i l in
          record { below = rw q (let b = m.below in omega (arith, b)); inside = rw q m.inside; place = rw q m.place }
      go (inl l) false e ih =
          let m = ih l in
          let q : member j (suc n) i ≡ member j n i = ap (λ k. member j k i) (sym (add-one n)) ∙ ap (λ r. get_or r i 0) (members-same j n e) in
          record { below = rw q (let b = m.below in omega (arith, b)); inside = rw q m.inside; place = rw q m.place }
      go (inr ge) true e ih =
          let last : i ≡ position j n = (let s : position j (suc n) ≡ suc (position j n) = position_suc n
          ∙ ap (λ c. cond c (suc (position j n)) (position j n)) e in omega (arith, s)) in
          let q : member j (suc n) i ≡ n = ap (λ k. member j k i) (sym (add-one n)) ∙ ap (λ r. get_or r i 0) (members-more j n e)
          ∙ ap (λ k. get_or (members_below j n ++ n ∷ []) k 0) last ∙ get_or-append_seam (members_below j n) n [] 0 in
          record { below = rw q (omega arith); inside = rw q e; place = rw q (sym last) }
      go (inr ge) false e ih = absurd (let s : position j (suc n) ≡ position j n = position_suc n ∙ ap (λ c. cond c (suc (position j n)) (position j n)) e in
          omega (arith, s))

  -- the point b with the values of c at the members of j below n
  abbrev pub spread : ℕ → (ℕ → ℕ) → (ℕ → ℕ) → ℕ → ℕ
  spread zero b c = b
  spread (suc n) b c = cond (j n) (set_at (spread n b c) n (c (position j n))) (spread n b c)

  spread_set : (n : ℕ) (b c : ℕ → ℕ) (k x : ℕ) → n ≤ k → spread n (set_at b k x) c ≡ set_at (spread n b c) k x
  spread_set zero b c k x le = refl
  spread_set (suc n) b c k x le = go (j n) (spread_set n b c k x (omega arith))
    where
      go : (p : Bool) → spread n (set_at b k x) c ≡ set_at (spread n b c) k x
          → cond p (set_at (spread n (set_at b k x) c) n (c (position j n))) (spread n (set_at b k x) c)
          ≡ set_at (cond p (set_at (spread n b c) n (c (position j n))) (spread n b c)) k x
      go true ih = ap (λ y. set_at y n (c (position j n))) ih ∙ set_at-swap (spread n b c) k n x (c (position j n)) (λ s. omega arith)
      go false ih = ih

  pub spread_at : (n : ℕ) (b c : ℕ → ℕ) (i : ℕ) → i < n → j i ≡ true → spread n b c i ≡ c (position j i)
  spread_at zero b c i lt e = absurd (omega arith)
  spread_at (suc n) b c i lt e = go (eqb i n) refl (spread_at n b c i)
    where
      go : (q : Bool) → eqb i n ≡ q → (i < n → j i ≡ true → spread n b c i ≡ c (position j i)) → spread (suc n) b c i ≡ c (position j i)
      go true s ih = let q : i ≡ n = eqb-true i n s in let f : j n ≡ true = rw q at e in rw (f, s) (ap (λ k. c (position j k)) (sym q))
      go false s ih = other (j n) (ih (let d : i ≡ n → ⊥ = λ q. absurd (grind (arith, q, s)) in omega arith) e)
        where
          other : (p : Bool) → spread n b c i ≡ c (position j i) → cond p (set_at (spread n b c) n (c (position j n))) (spread n b c) i ≡ c (position j i)
          other true h = rw s h
          other false h = h

  -- a sum over the coordinates in j is one over as many coordinates in a row
  pub compress : (s s' : ℕ → ℕ) (n : ℕ) (F : (ℕ → ℕ) → ℕ) (b c : ℕ → ℕ) → ((i : ℕ) → i < n → j i ≡ true → s' (position j i) ≡ s i)
      → sum_over j s n F b ≡ sum_over (λ i. true) s' (position j n) (λ d. F (spread n b d)) c
  compress s s' zero F b c h = subst (λ k. F b ≡ sum_over (λ i. true) s' k (λ d. F b) c) (sym (length-members-zero j)) refl
  compress s s' (suc n) F b c h = subst (λ k. sum_over j s (suc n) F b ≡ sum_over (λ i. true) s' k (λ d. F (spread (suc n) b d)) c) (sym (position_suc n))
      (go (j n) refl (λ b' c'. compress s s' n F b' c' (λ i lt e. h i (omega arith) e)))
    where
      go : (p : Bool) → j n ≡ p → ((b' c' : ℕ → ℕ) → sum_over j s n F b' ≡ sum_over (λ i. true) s' (position j n) (λ d. F (spread n b' d)) c')
          → along p (s n) n (sum_over j s n F) b ≡ sum_over (λ i. true) s' (cond p (suc (position j n)) (position j n))
          (λ d. F (cond p (set_at (spread n b d) n (d (position j n))) (spread n b d))) c
      go false e ih = ih b c
      go true e ih = rw (sym (h n (omega arith) e)) (sum_below-congr (s' (position j n)) (λ x. sum_over j s n F (set_at b n x))
          (λ x. sum_over (λ i. true) s' (position j n) (λ d. F (set_at (spread n b d) n (d (position j n)))) (set_at c (position j n) x))
          (λ x lt. ih (set_at b n x) (set_at c (position j n) x)
          ∙ over-congr_within (λ i. true) s' (position j n) (λ d. F (spread n (set_at b n x) d)) (λ d. F (set_at (spread n b d) n (d (position j n))))
          (set_at c (position j n) x)
          (λ d inside same. ap F (spread_set n b d n x (omega arith) ∙ ap (λ y. set_at (spread n b d) n y)
          (sym (same (position j n) (omega arith) ∙ set_at-same c (position j n) x))))))

  pub product_compress : (n : ℕ) (f f' : ℕ → ℕ) → ((i : ℕ) → i < n → j i ≡ true → f' (position j i) ≡ f i) → product_below n (λ i. cond (j i) (f i) 1)
      ≡ product_below (position j n) f'
  product_compress zero f f' h = subst (λ k. 1 ≡ product_below k f') (sym (length-members-zero j)) refl
  product_compress (suc n) f f' h = subst (λ k. product_below (suc n) (λ i. cond (j i) (f i) 1) ≡ product_below k f') (sym (position_suc n))
      (go (j n) refl (product_compress n f f' (λ i lt e. h i (omega arith) e)))
    where
      go : (p : Bool) → j n ≡ p → product_below n (λ i. cond (j i) (f i) 1) ≡ product_below (position j n) f'
          → product_below n (λ i. cond (j i) (f i) 1) * cond p (f n) 1 ≡ product_below (cond p (suc (position j n)) (position j n)) f'
      go true e ih = ap (λ x. x * f n) ih ∙ ap (λ x. product_below (position j n) f' * x) (sym (h n (omega arith) e))
      go false e ih = omega (arith, ih)
