-- A mechanism given as data reads the parents and the causes alone, and gives a value of its vertex.
use Rattle.std.proofs.Common.{ℕ, suc, ◌+◌, ◌*◌, ◌%◌, ◌≡◌, ◌<◌, Bool, true, false, cond, refl, ap, sym, List, [], ◌∷◌, length, get_or, map, sum, Some}
use Rattle.std.proofs.Common.{None, IsTrue, arith}
use Rattle.std.proofs.lemmas.Bool.{and_parts}
use Rattle.mixed_graph.specs.Vocabulary.{has, MixedGraph}
use Rattle.finite_models.specs.Sums.{sum_below}
use Rattle.finite_models.specs.Data.{weights_of, children_of, hedge_bit, carried_bit, part_bit, value_by, place_in_table}
use Rattle.finite_models.specs.Inputs.{MayRead, HasInputs, HasValues}
use Rattle.finite_models.proofs.SumLaws.{sum_below-congr}
use Rattle.finite_models.proofs.TableLaws.{table_reads, table_index-lt}
use Rattle.finite_models.specs.declared.model.Model.{Model}
use Rattle.finite_models.specs.declared.model.Part.{Part}
use Rattle.finite_models.specs.declared.model.Mechanism.{Mechanism}
use Rattle.finite_models.specs.declared.model.Mechanism.TheVariants.{Table, Parity}

cond_same : (b : Bool) (x y : ℕ) → (b ≡ true → x ≡ y) → cond b x 0 ≡ cond b y 0
cond_same true x y e = e refl
cond_same false x y e = refl

map_same : (xs : List ℕ) (u w : ℕ → ℕ) → ((i : ℕ) → i < length xs → u (get_or xs i 0) ≡ w (get_or xs i 0)) → map u xs ≡ map w xs
map_same [] u w e = refl
map_same (x ∷ xs) u w e = let a : u x ≡ w x = e 0 (omega arith) in let b : map u xs ≡ map w xs = map_same xs u w (λ i l. e (suc i) (omega arith)) in cc

bit_same : (a a' b b' o o' e e' : ℕ) → a ≡ a' → b ≡ b' → o ≡ o' → e ≡ e' → (a + b + o + e) % 2 ≡ (a' + b' + o' + e') % 2
bit_same a a' b b' o o' e e' p q r s = cc

module _ (g : MixedGraph) (m : Model) (v : ℕ) (s t u w : ℕ → ℕ) (hs : (p : ℕ) → IsTrue (g.arrow p v) → s p ≡ t p)
    (hu : (j : ℕ) → j < length m.causes.items → IsTrue (has (children_of m.causes.items j) v) → u j ≡ w j) where
  part_same : (own own' : ℕ) (p : Part) → MayRead g m v p → own ≡ own' → part_bit g.vertices m.mechanisms.items s u own p
      ≡ part_bit g.vertices m.mechanisms.items t w own' p
  part_same own own' p r e = bit_same
      (sum_below g.vertices (λ k. cond (has p.hedge_of.bits k) (hedge_bit (s k)) 0))
      (sum_below g.vertices (λ k. cond (has p.hedge_of.bits k) (hedge_bit (t k)) 0))
      (sum_below g.vertices (λ k. cond (has p.carried_of.bits k) (carried_bit m.mechanisms.items k (s k)) 0))
      (sum_below g.vertices (λ k. cond (has p.carried_of.bits k) (carried_bit m.mechanisms.items k (t k)) 0))
      (cond p.own_hedge own 0) (cond p.own_hedge own' 0) (sum (map u p.causes.items)) (sum (map w p.causes.items))
      (sum_below-congr g.vertices _ _ (λ k lt. cond_same (has p.hedge_of.bits k) _ _ (λ i. ap hedge_bit (hs k (and_parts _ _ (r.hedges k i)).0))))
      (sum_below-congr g.vertices _ _ (λ k lt. cond_same (has p.carried_of.bits k) _ _
      (λ i. ap (carried_bit m.mechanisms.items k) (hs k (and_parts _ _ (r.carrieds k i)).0))))
      (ap (λ x. cond p.own_hedge x 0) e)
      (ap sum (map_same p.causes.items u w (λ i l. hu (get_or p.causes.items i 0) (r.causes i l).below (r.causes i l).serves)))

  pub reads_same : (k : Mechanism) → HasInputs g m v k → value_by g m v s u k ≡ value_by g m v t w k
  reads_same (Table outputs) h = table_reads outputs.items g.vertices (length m.causes.items) (λ p. g.arrow p v) (λ j. has (children_of m.causes.items j) v)
      (λ p. get_or m.sizes.items p 0) (λ j. length (weights_of m.causes.items j)) s t u w (λ p l i. hs p i) hu
  reads_same (Parity None None) h = refl
  reads_same (Parity (Some a) None) h = part_same 0 0 a h.0.0 refl
  reads_same (Parity None (Some b)) h = part_same 0 0 b h.1.0 refl
  reads_same (Parity (Some a) (Some b)) h =
      let e = part_same 0 0 a h.0.0 refl in
      let f = part_same (part_bit g.vertices m.mechanisms.items s u 0 a) (part_bit g.vertices m.mechanisms.items t w 0 a) b h.1.0 e in
      two_bits _ _ _ _ e f
    where
      two_bits : (x x' y y' : ℕ) → x ≡ x' → y ≡ y' → x + 2 * y ≡ x' + 2 * y'
      two_bits x x' y y' p q = cc

bit_below : (n : ℕ) → n % 2 < 2
bit_below n = omega arith

module _ (g : MixedGraph) (m : Model) (v : ℕ) (s u : ℕ → ℕ) (hs : (p : ℕ) → p < g.vertices → s p < get_or m.sizes.items p 0)
    (hu : (j : ℕ) → j < length m.causes.items → u j < length (weights_of m.causes.items j)) where
  pub value_below : (k : Mechanism) → HasInputs g m v k → HasValues (get_or m.sizes.items v 0) k → value_by g m v s u k < get_or m.sizes.items v 0
  value_below (Table outputs) h b = b (place_in_table g m v s u)
      (along (table_index-lt g.vertices (length m.causes.items) (λ p. g.arrow p v) (λ j. has (children_of m.causes.items j) v)
      (λ p. get_or m.sizes.items p 0) (λ j. length (weights_of m.causes.items j)) s u (λ p l i. hs p l) (λ j l i. hu j l)) (sym h))
    where
      along : {x y z : ℕ} → x < y → y ≡ z → x < z
      along h e = omega arith
  value_below (Parity None None) h b = omega (arith, b)
  value_below (Parity (Some a) None) h b = one_bit _ _ (bit_below _) b
    where
      one_bit : (x z : ℕ) → x < 2 → z ≡ 2 → x < z
      one_bit x z l e = omega arith
  value_below (Parity None (Some c)) h b = one_bit _ _ (bit_below _) b
    where
      one_bit : (x z : ℕ) → x < 2 → z ≡ 2 → x < z
      one_bit x z l e = omega arith
  value_below (Parity (Some a) (Some c)) h b = two_bits _ _ _ (bit_below _) (bit_below _) b
    where
      two_bits : (x y z : ℕ) → x < 2 → y < 2 → z ≡ 4 → x + 2 * y < z
      two_bits x y z l k e = omega arith
