-- The two models of a hedge agree on observations and differ on the effect.
use Rattle.std.proofs.Common.{ℕ, ◌+◌, ◌-◌, ◌*◌, ◌%◌, ◌^◌, ◌/◌, ◌==◌, ◌≡◌, ◌<◌, ◌≤◌, Bool, true, false, cond, not, ◌&&◌, inl, inr, refl, sym, ap, ap₂}
use Rattle.std.proofs.Common.{◌∙◌, slice_index, arith}
use Rattle.mixed_graph.specs.Vocabulary.{has, Apart, MixedGraph, IsMixedGraph}
use Rattle.finite_models.specs.declared.model.Model.{Model}
use Rattle.finite_models.specs.Vocabulary.{FiniteModel, Fits, IsAssignment, IsWorld, solution, intervene, world_weight, weight_of, total, meaning, AgreeObserved, AgreeUnder, ServesTwo}
use Rattle.finite_models.proofs.Following.{follows_of}
use Rattle.finite_models.proofs.Indicators.{number}
use Rattle.hedge.specs.declared.hedge.Hedge.{Hedge}
use Rattle.hedge.specs.Vocabulary.{IsHedge}
use Rattle.counter_models.specs.Parities.{bit}
use Rattle.counter_models.specs.Hedges.{ParityHedge, IsWholeHedge, links_of, noise_of}
use Rattle.counter_models.specs.ParityPairs.{first_model, second_model, event_odd, event_even, size_of}
use Rattle.counter_models.specs.ParityLaws.{DifferAt}
use Rattle.counter_models.proofs.ParityLaws.{odd-congr}
use Rattle.counter_models.proofs.Witness.{fit_one, fit_two, positive_one, positive_two, agree_under, half, more, effects, effects_each}
use Rattle.counter_models.specs.Events.{carried_sum, even_weight, IsProperModel, AreCounterModels}
use Rattle.counter_models.specs.Experiments.{IsHarmlessTo}
use Rattle.counter_models.specs.Pairs.{IsPairOf, in_first, in_second}
use Rattle.counter_models.specs.Theory.{data_of, inner_entries}
use Rattle.counter_models.specs.declared.counter_pair.CounterPair.{CounterPair}
use Rattle.counter_models.proofs.Alike.{Alike, sum_alike, weight_alike, total_alike, solution_within_range, solution_alike, event_alike}
use Rattle.counter_models.proofs.Bridge.{whole, links_is, some_small, some_entry}
use Rattle.counter_models.proofs.Same.{two_values, same_hedges, first_alike, second_alike}
use Rattle.counter_models.proofs.Served.{serves_two}
use Rattle.counter_models.proofs.SoundData.{sound, fits}
use Rattle.counter_models.proofs.Values.{event_same}

even_case : (k : ℕ) (b : Bool) (w w' : ℕ) → k % 2 ≡ number b → w ≡ w' → cond (k % 2 == 0) w 0 ≡ w' * cond (not b) 1 0
even_case k true w w' e q = rw e (omega arith)
even_case k false w w' e q = rw e (omega (arith, q))

-- one model that is the same in range as one of the theory
module _ (g : MixedGraph) (graph : IsMixedGraph g) (x : ℕ) (m : Model) (fit : Fits g (meaning g m)) (n : FiniteModel) (fit' : Fits g n)
    (al : Alike (meaning g m) n) where
  pub weights_same : (b a : ℕ → Bool) (s : ℕ → ℕ) → IsAssignment g.vertices (λ v. slice_index m.sizes.items v) s → weight_of (meaning g m) b a s
      ≡ weight_of n b a s
  weights_same b a s within = event_alike (meaning g m) n al g graph (follows_of g (meaning g m) fit) (follows_of g n fit') b s within a

  pub even_same : (d : ParityHedge) (event : ℕ) (a : ℕ → ℕ) → IsAssignment g.vertices (λ v. slice_index m.sizes.items v) a
      → ((s u : ℕ → ℕ) → IsAssignment g.vertices (λ v. slice_index m.sizes.items v) s → IsWorld (meaning g m) u → carried_sum g m event s % 2
      ≡ number (event_odd n.vertices d s))
      → even_weight g m x event a ≡ event_even n d (has x) a
  even_same d event a within parity = sum_alike (meaning g m) n al
      (λ u. cond (carried_sum g m event (solution (intervene (meaning g m) (has x) a) u) % 2 == 0) (world_weight (meaning g m) u) 0)
      (λ u. world_weight n u * cond (not (event_odd n.vertices d (solution (intervene n (has x) a) u))) 1 0)
      (λ u w. even_case (carried_sum g m event (solution (intervene (meaning g m) (has x) a) u)) (event_odd n.vertices d (solution (intervene n (has x) a) u))
      (world_weight (meaning g m) u) (world_weight n u)
      (parity (solution (intervene (meaning g m) (has x) a) u) u (solution_within_range (meaning g m) n al g graph (follows_of g (meaning g m) fit)
      (follows_of g n fit') (has x) a within u w) w
      ∙ ap number (odd-congr n.vertices (λ v. (d.kept v && d.target v)
      && cond (d.big v) (bit (solution (intervene (meaning g m) (has x) a) u v / 2)) (bit (solution (intervene (meaning g m) (has x) a) u v)))
      (λ v. (d.kept v && d.target v) && cond (d.big v) (bit (solution (intervene n (has x) a) u v / 2)) (bit (solution (intervene n (has x) a) u v)))
      (λ v lt. ap (λ r. (d.kept v && d.target v) && cond (d.big v) (bit (r / 2)) (bit r))
      (solution_alike (meaning g m) n al g graph (follows_of g (meaning g m) fit) (follows_of g n fit') (has x) a within u w v
      (let z = al.vertices in omega arith)))))
      (weight_alike (meaning g m) n al u w))

module _ (g : MixedGraph) (graph : IsMixedGraph g) (few : g.vertices ≤ 64) (x y : ℕ) (h : Hedge) (hedge : IsHedge g x y h) (x_y : Apart (has x) (has y))
    (pair : CounterPair) (is : IsPairOf g x y h pair) where
  abbrev d : ParityHedge
  d = data_of y h is.kept pair.carry.next

  abbrev w : IsWholeHedge g (has x) (data_of y h is.kept pair.carry.next)
  w = whole g graph few x y h hedge x_y is.kept pair.carry.next is.are_kept

  at_y : (v : ℕ) → v < 64 → has y v ≡ true → slice_index pair.carry.next v ≡ 64
  at_y v lt e = is.are_kept.others v lt (inr e)

  links : links_of (data_of y h is.kept pair.carry.next) ≡ h.links.count - 1
  links = links_is g graph few x y h hedge x_y is.kept pair.carry.next is.are_kept

  some : 1 ≤ inner_entries h
  some = let s = some_small g graph few x y h hedge x_y is.kept pair.carry.next is.are_kept in let e =
      some_entry g graph few x y h hedge x_y is.kept pair.carry.next is.are_kept in omega arith

  inside_second : (v k : ℕ) → has (in_second h v) k ≡ true → has h.big.bits k ≡ true
  inside_second v k e = go (has h.small.bits v) e
    where
      go : (b : Bool) → has (cond b h.small.bits h.big.bits) k ≡ true → has h.big.bits k ≡ true
      go true i = hedge.sets.small_inside k i
      go false i = i

  al_one : Alike (meaning g pair.first) (first_model g.vertices d)
  al_one = first_alike g graph few x y h hedge is.kept w.hedge.kept_low pair.carry.next at_y links some pair.first is.first

  al_two : Alike (meaning g pair.second) (second_model g.vertices d)
  al_two = second_alike g graph few x y h hedge is.kept w.hedge.kept_low pair.carry.next at_y links some pair.second is.second

  fits_one : Fits g (meaning g pair.first)
  fits_one = fits g graph few x y h hedge is.kept w.hedge.kept_low pair.carry.next at_y is.are_kept.carries links some (in_first h) (λ v k e. e)
      pair.first is.first

  fits_two : Fits g (meaning g pair.second)
  fits_two = fits g graph few x y h hedge is.kept w.hedge.kept_low pair.carry.next at_y is.are_kept.carries links some (in_second h)
      inside_second pair.second is.second

  in_one : (s : ℕ → ℕ) → IsAssignment g.vertices (λ v. slice_index pair.first.sizes.items v) s → IsAssignment g.vertices (size_of d) s
  in_one s a v lt = let z = is.first.sizes v lt in let q = a v lt in omega arith

  in_two : (s : ℕ → ℕ) → IsAssignment g.vertices (λ v. slice_index pair.second.sizes.items v) s → IsAssignment g.vertices (size_of d) s
  in_two s a v lt = let z = is.second.sizes v lt in let q = a v lt in omega arith

  first_to_second : (s : ℕ → ℕ) → IsAssignment g.vertices (λ v. slice_index pair.first.sizes.items v) s
      → IsAssignment g.vertices (λ v. slice_index pair.second.sizes.items v) s
  first_to_second s a v lt = let z = is.first.sizes v lt in let y = is.second.sizes v lt in let q = a v lt in omega arith

  one_same : (b a : ℕ → Bool) (s : ℕ → ℕ) → IsAssignment g.vertices (λ v. slice_index pair.first.sizes.items v) s → weight_of (meaning g pair.first) b a s
      ≡ weight_of (first_model g.vertices d) b a s
  one_same = weights_same g graph x pair.first fits_one (first_model g.vertices d) (fit_one g graph (has x) d w) al_one

  two_same : (b a : ℕ → Bool) (s : ℕ → ℕ) → IsAssignment g.vertices (λ v. slice_index pair.second.sizes.items v) s → weight_of (meaning g pair.second) b a s
      ≡ weight_of (second_model g.vertices d) b a s
  two_same = weights_same g graph x pair.second fits_two (second_model g.vertices d) (fit_two g graph (has x) d w) al_two

  t_one : total (meaning g pair.first) ≡ total (first_model g.vertices d)
  t_one = total_alike (meaning g pair.first) (first_model g.vertices d) al_one

  t_two : total (meaning g pair.second) ≡ total (second_model g.vertices d)
  t_two = total_alike (meaning g pair.second) (second_model g.vertices d) al_two

  -- an intervention that leaves the models of the theory alike leaves these alike
  alike_under : (z : ℕ → Bool) → AgreeUnder z (first_model g.vertices d) (second_model g.vertices d)
      → AgreeUnder z (meaning g pair.first) (meaning g pair.second)
  alike_under z same = record {
    vertices = refl;
    sizes = λ v lt. is.first.sizes v lt ∙ sym (is.second.sizes v lt);
    weights = λ s a. ap₂ (λ p q. p * q) (one_same z (λ v. true) s a) t_two ∙ same.weights s (in_one s a)
        ∙ sym (ap₂ (λ p q. p * q) (two_same z (λ v. true) s (first_to_second s a)) t_one);
  }

  pub agree : AgreeObserved (meaning g pair.first) (meaning g pair.second)
  agree = record {
    vertices = refl;
    sizes = λ v lt. is.first.sizes v lt ∙ sym (is.second.sizes v lt);
    weights = (alike_under (λ v. false) (agree_under g graph (has x) d w (λ v. false) (inl (λ v inside. refl)))).weights;
  }

  -- an experiment that leaves big alone, or sets a member of small, doesn't tell them apart
  pub agree_harmless : (z : ℕ) → IsHarmlessTo h z → AgreeUnder (has z) (meaning g pair.first) (meaning g pair.second)
  unfolding alike_under
  agree_harmless z harmless = alike_under (has z) (agree_under g graph (has x) d w (has z) harmless)

  serve_two : ServesTwo (meaning g pair.first) × ServesTwo (meaning g pair.second)
  serve_two = (
    serves_two g graph x y h hedge is.kept w.hedge.kept_low pair.first is.first.causes,
    serves_two g graph x y h hedge is.kept w.hedge.kept_low pair.second is.second.causes,
  )

  pub proper_one : IsProperModel g pair.first
  proper_one = record {
    sound = sound g graph few x y h hedge is.kept w.hedge.kept_low pair.carry.next at_y is.are_kept.carries links some (in_first h) (λ v k e. e)
        pair.first is.first;
    fits = fits_one;
    positive = λ s a. (let q = one_same (λ v. false) (λ v. true) s a in let p = positive_one g graph (has x) d w s (in_one s a) in omega arith);
  }

  pub proper_two : IsProperModel g pair.second
  proper_two = record {
    sound = sound g graph few x y h hedge is.kept w.hedge.kept_low pair.carry.next at_y is.are_kept.carries links some (in_second h)
        inside_second pair.second is.second;
    fits = fits_two;
    positive = λ s a. (let q = two_same (λ v. false) (λ v. true) s a in let p = positive_two g graph (has x) d w s (in_two s a) in omega arith);
  }

  parity_one : (s u : ℕ → ℕ) → IsAssignment g.vertices (λ v. slice_index pair.first.sizes.items v) s → IsWorld (meaning g pair.first) u
      → carried_sum g pair.first pair.event.bits s % 2 ≡ number (event_odd g.vertices d s)
  parity_one s u a world = event_same g few x y h hedge is.kept pair.carry.next at_y pair.first.mechanisms.items
      (same_hedges g graph few x y h hedge is.kept w.hedge.kept_low pair.carry.next at_y links some (in_first h) pair.first is.first) s u (in_one s a)
      (λ j lt. let c = is.first.causes.count in let t = two_values g graph few x y h hedge is.kept w.hedge.kept_low pair.carry.next at_y links some
      (in_first h) pair.first is.first j (omega arith) in let q = world j (omega arith) in omega arith)
      pair.event.bits is.event

  parity_two : (s u : ℕ → ℕ) → IsAssignment g.vertices (λ v. slice_index pair.second.sizes.items v) s → IsWorld (meaning g pair.second) u
      → carried_sum g pair.second pair.event.bits s % 2 ≡ number (event_odd g.vertices d s)
  parity_two s u a world = event_same g few x y h hedge is.kept pair.carry.next at_y pair.second.mechanisms.items
      (same_hedges g graph few x y h hedge is.kept w.hedge.kept_low pair.carry.next at_y links some (in_second h) pair.second is.second) s u (in_two s a)
      (λ j lt. let c = is.second.causes.count in let t = two_values g graph few x y h hedge is.kept w.hedge.kept_low pair.carry.next at_y links some
      (in_second h) pair.second is.second j (omega arith) in let q = world j (omega arith) in omega arith)
      pair.event.bits is.event

  noise_is : pair.noise ≡ noise_of d
  noise_is = let a = is.noise in let l = links in omega arith

  in_first_sizes : (s : ℕ → ℕ) → IsAssignment g.vertices (size_of d) s → IsAssignment g.vertices (λ v. slice_index pair.first.sizes.items v) s
  in_first_sizes s a v lt = let z = is.first.sizes v lt in let q = a v lt in omega arith

  -- where the models of the theory differ, these do
  differ : DifferAt (first_model g.vertices d) (second_model g.vertices d) (has x) (has y)
      → DifferAt (meaning g pair.first) (meaning g pair.second) (has x) (has y)
  differ e =
      let back = in_first_sizes e.at e.within in
      record {
        at = e.at;
        within = back;
        unequal = λ q. e.unequal (sym (ap₂ (λ p r. p * r) (one_same (has x) (has y) e.at back) t_two) ∙ q
            ∙ ap₂ (λ p r. p * r) (two_same (has x) (has y) e.at (first_to_second e.at back)) t_one);
      }

  -- the two models of a hedge agree on what is observed and differ in the effect of x on y
  pub counter : AreCounterModels g x y pair
  unfolding differ
  counter = record {
    first = proper_one;
    second = proper_two;
    observed = agree;
    half = λ a inside. ap (λ r. 2 * r) (even_same g graph x pair.first fits_one (first_model g.vertices d) (fit_one g graph (has x) d w)
        al_one d pair.event.bits a inside parity_one) ∙ half g graph (has x) d w a (in_one a inside) ∙ sym t_one;
    more = λ a inside. ap₂ (λ k r. 2 ^ (k + 1) * r) noise_is (even_same g graph x pair.second fits_two (second_model g.vertices d)
        (fit_two g graph (has x) d w) al_two d pair.event.bits a inside parity_two)
        ∙ more g graph (has x) d w a (in_two a inside) ∙ sym (ap₂ (λ k r. (2 ^ k + 1) * r) noise_is t_two);
    effects = differ (effects g graph (has x) d w);
    each = λ a inside. let e = effects_each g graph (has x) d w a (in_one a inside) in (differ e.0, e.1);
    two = serve_two;
  }
