-- The steps of identification nest little, whatever the graph.
use Rattle.std.proofs.Common.{ℕ, zero, suc, ◌≡◌, Bool, true, false, cond, refl, ◌&&◌, List, [], ◌∷◌, ◌++◌, arith}
use Rattle.do_derivation.specs.Plans.{Move, Plan, Plans, plan}
use Rattle.do_derivation.specs.Vocabulary.{PlainLemma, no_plans}
use Rattle.do_derivation.specs.declared.moves.SetMove.TheVariants as set_move
use Rattle.do_derivation.specs.declared.moves.BareMove.TheVariants as bare_move
use Rattle.identification_theory.proofs.Bools.{and_l, and_r, both_true}
use Rattle.identification_theory.specs.Depth.{are_lemmas_within, are_plans_within, is_plan_within}
use Rattle.identification_theory.specs.Procedure.{Source}
use Rattle.mixed_graph.specs.Vocabulary.{is_empty, union, minus, one, common}
use Rattle.identification_theory.specs.Derivations.{single, with_set, Lists, no_more, more, at_place, at_each, marginal_steps, source_steps, place_list}

mutual
  -- a step that nests at most d deep nests at most d + 1 deep
  pub step_more : (d : ℕ) (s : Plan) → is_plan_within d s ≡ true → is_plan_within (suc d) s ≡ true
  step_more zero s h = absurd (grind (arith, h))
  step_more (suc d) (Plan.At i s) h = step_more d s h
  step_more (suc d) (Plan.Then l) h = steps_more d l h
  step_more (suc d) (Plan.Make m) h = refl

  -- a list of steps that nests at most d deep nests at most d + 1 deep
  pub steps_more : (d : ℕ) (l : Plans) → are_plans_within d l ≡ true → are_plans_within (suc d) l ≡ true
  steps_more d no_plans h = refl
  steps_more d (plan s l) h = both_true (is_plan_within (suc d) s) (are_plans_within (suc d) l)
      (step_more d s (and_l (is_plan_within d s) (are_plans_within d l) h)) (steps_more d l (and_r (is_plan_within d s) (are_plans_within d l) h))

pub with_deep : (d z : ℕ) (s : Plan) (l : Plans) → is_plan_within d s ≡ true → are_plans_within d l ≡ true → are_plans_within d (with_set z s l) ≡ true
with_deep d z s l h k = go (is_empty z)
  where
    go : (b : Bool) → are_plans_within d (cond b l (plan s l)) ≡ true
    go true = k
    go false = both_true (is_plan_within d s) (are_plans_within d l) h k

marginal_deep : (k a u : ℕ) → are_plans_within 3 (marginal_steps k a u) ≡ true
marginal_deep k a u = go (is_empty (minus a u))
  where
    go : (b : Bool) → are_plans_within 3 (cond b (single (Plan.Make (Move.Cite k)))
        (plan (Plan.Make (Move.WithSet set_move.Widen (minus a u))) (single (Plan.At 0 (Plan.Then (single (Plan.Make (Move.Cite k)))))))) ≡ true
    go true = refl
    go false = refl

source_deep : (from : Source) (a v m : ℕ) → are_plans_within 5 (source_steps from a v m) ≡ true
source_deep (Source.Under z) a v m = refl
source_deep (Source.Defined k) a v m = go (is_empty m)
  where
    go : (b : Bool) → are_plans_within 5 (cond b (marginal_steps k a (one v))
        (plan (Plan.Make (Move.Bare bare_move.Split)) (plan (Plan.At 0 (Plan.Then (marginal_steps k a (union m (one v)))))
        (single (Plan.At 1 (Plan.Then (marginal_steps k a m))))))) ≡ true
    go true = steps_more 4 (marginal_steps k a (one v)) (steps_more 3 (marginal_steps k a (one v)) (marginal_deep k a (one v)))
    go false = both_true (are_plans_within 3 (marginal_steps k a (union m (one v)))) (are_plans_within 3 (marginal_steps k a m) && true)
        (marginal_deep k a (union m (one v))) (both_true (are_plans_within 3 (marginal_steps k a m)) true (marginal_deep k a m) refl)

pub place_deep : (p u a t m : ℕ) (from : Source) (v : ℕ) → are_plans_within 5 (place_list p u a t m (source_steps from a v m)) ≡ true
place_deep p u a t m from v = with_deep 5 (minus (minus u t) (minus (common a p) t)) (Plan.Make (Move.WithSet set_move.Rule3Out (minus (minus u t) (minus (common a p) t))))
    (with_set (minus (common a p) t) (Plan.Make (Move.WithSet set_move.Rule2See (minus (common a p) t)))
    (with_set (minus (common a p) m) (Plan.Make (Move.WithSet set_move.Rule1Out (minus (common a p) m))) (source_steps from a v m))) refl
    (with_deep 5 (minus (common a p) t) (Plan.Make (Move.WithSet set_move.Rule2See (minus (common a p) t)))
    (with_set (minus (common a p) m) (Plan.Make (Move.WithSet set_move.Rule1Out (minus (common a p) m))) (source_steps from a v m)) refl
    (with_deep 5 (minus (common a p) m) (Plan.Make (Move.WithSet set_move.Rule1Out (minus (common a p) m))) (source_steps from a v m) refl (source_deep from a v m)))

-- the steps of each list nest at most d deep
abbrev pub are_lists_to : ℕ → Lists → Bool
are_lists_to d no_more = true
are_lists_to d (more l ls) = are_plans_within d l && are_lists_to d ls

pub place_at : (d i : ℕ) (l rest : Plans) → are_plans_within d l ≡ true → are_plans_within (suc (suc d)) rest ≡ true
    → are_plans_within (suc (suc d)) (at_place i l rest) ≡ true
place_at d i no_plans rest h k = k
place_at d i (plan s l) rest h k = both_true (is_plan_within d s && are_plans_within d l) (are_plans_within (suc (suc d)) rest) h k

pub each_at : (d i : ℕ) (ls : Lists) (rest : Plans) → are_lists_to d ls ≡ true → are_plans_within (suc (suc d)) rest ≡ true
    → are_plans_within (suc (suc d)) (at_each i ls rest) ≡ true
each_at d i no_more rest h k = k
each_at d i (more l ls) rest h k = place_at d i l (at_each (suc i) ls rest) (and_l (are_plans_within d l) (are_lists_to d ls) h)
    (each_at d (suc i) ls rest (and_r (are_plans_within d l) (are_lists_to d ls) h) k)

-- two lists of lemmas whose steps nest at most d deep make one such list
pub lemmas_append : (d : ℕ) (a b : List PlainLemma) → are_lemmas_within d a ≡ true → are_lemmas_within d b ≡ true → are_lemmas_within d (a ++ b) ≡ true
lemmas_append d [] b h k = k
lemmas_append d (l ∷ a) b h k = both_true (is_plan_within d l.plan) (are_lemmas_within d (a ++ b)) (and_l (is_plan_within d l.plan) (are_lemmas_within d a) h)
    (lemmas_append d a b (and_r (is_plan_within d l.plan) (are_lemmas_within d a) h) k)
