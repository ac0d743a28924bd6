-- Open walks of a graph without bidirected edges, read from the front.
use Rattle.std.proofs.Common.{ℕ, ◌≡◌, ◌<◌, Bool, true, false, ◌==◌, List, [], ◌∷◌, refl, sym, arith}
use Rattle.mixed_graph.specs.Vocabulary.{MixedGraph, IsAncestor}
use Rattle.m_separation.specs.declared.marks.Mark.{Mark}
use Rattle.m_separation.specs.declared.marks.Mark.TheVariants.{Out, Into, Both}
use Rattle.m_separation.specs.Vocabulary.{Step, IsJoined, IsWalk, last, heads_first, heads_second, IsPassed, ArePassedFrom, ArePassed, HasOpenWalk, IsSeparated}
use Rattle.markov_equivalence.specs.Skeletons.{HasArrowsAlone}

-- no test is both true and false
pub clash : {A : Type 0} (b : Bool) → b ≡ true → b ≡ false → A
clash b p q = absurd (grind (arith, p, q))

-- what u has to meet where the walk came to it with an arrowhead (true) or not, and leaves by an arrow into u
abbrev pub Met : MixedGraph → (ℕ → Bool) → Bool → ℕ → Type 0
Met g w true u = IsAncestor g w u
Met g w false u = w u ≡ false

-- an open way from u to e, where one came to u with an arrowhead at u (true) or without: its steps are u -> v and u <- v
pub data Way (g : MixedGraph) (w : ℕ → Bool) (e : ℕ) : Bool → ℕ → Type 0 where
  stop : {h : Bool} {u : ℕ} → u ≡ e → w u ≡ false → Way g w e h u
  out : {h : Bool} {u v : ℕ} → g.arrow u v ≡ true → w u ≡ false → Way g w e true v → Way g w e h u
  into : (h : Bool) {u v : ℕ} → g.arrow v u ≡ true → Met g w h u → Way g w e false v → Way g w e h u

module _ (g : MixedGraph) (w : ℕ → Bool) where
  -- from a vertex outside w a walk passes at its first vertex too, if it does at its inner ones
  pub passed_first : (v : ℕ) (r : List Step) → w v ≡ false → ArePassed g w r → ArePassedFrom g w false v r
  passed_first v [] o p = tt
  passed_first v (s ∷ r) o p = (o, p)

  -- a walk that passes from its first vertex on passes at its inner ones
  pub passed_rest : (v : ℕ) (r : List Step) → ArePassedFrom g w false v r → ArePassed g w r
  passed_rest v [] p = tt
  passed_rest v (s ∷ r) p = p.1

  -- where no edge is bidirected, a walk that passes and ends outside w is an open way
  pub to_way : HasArrowsAlone g → (h : Bool) (u : ℕ) (r : List Step) → IsWalk g u r → ArePassedFrom g w h u r → w (last u r) ≡ false → Way g w (last u r) h u
  to_way none h u [] k p o = stop refl o
  to_way none h u (s ∷ r) k p o = go s.mark h k.0 p.0 (to_way none (heads_second s.mark) s.to r k.1 p.1 o)
    where
      go : (m : Mark) (h : Bool) → IsJoined g u m s.to → IsPassed g w u h (heads_first m) → Way g w (last s.to r) (heads_second m) s.to
          → Way g w (last s.to r) h u
      go Out true j q x = out j q x
      go Out false j q x = out j q x
      go Into true j q x = into true j q x
      go Into false j q x = into false j q x
      go Both h j q x = clash (g.both u s.to) j (none u s.to)

  pub record Walked (e : ℕ) (h : Bool) (u : ℕ) : Type 0 where
    pub steps : List Step
    pub walk : IsWalk g u steps
    pub passed : ArePassedFrom g w h u steps
    pub ends : last u steps ≡ e
    pub outside : w e ≡ false

  -- an open way is a walk that passes and ends outside w
  pub from_way : (e : ℕ) (h : Bool) (u : ℕ) → Way g w e h u → Walked e h u
  from_way e h u (stop s o) = record { steps = []; walk = tt; passed = tt; ends = s; outside = rw (sym s) o }
  from_way e h u (out {v = v} a o x) = go h (from_way e true v x)
    where
      go : (h : Bool) → Walked e true v → Walked e h u
      go true t = record { steps = record { mark = Out; to = v } ∷ t.steps; walk = (a, t.walk); passed = (o, t.passed); ends = t.ends; outside = t.outside }
      go false t = record { steps = record { mark = Out; to = v } ∷ t.steps; walk = (a, t.walk); passed = (o, t.passed); ends = t.ends; outside = t.outside }
  from_way e _ u (into true {v = v} a c x) = let t = from_way e false v x in
      record { steps = record { mark = Into; to = v } ∷ t.steps; walk = (a, t.walk); passed = (c, t.passed); ends = t.ends; outside = t.outside }
  from_way e _ u (into false {v = v} a c x) = let t = from_way e false v x in
      record { steps = record { mark = Into; to = v } ∷ t.steps; walk = (a, t.walk); passed = (c, t.passed); ends = t.ends; outside = t.outside }

  -- two vertices without a way between them are separated
  pub separated_without : (a b : ℕ) → HasArrowsAlone g → (Way g w b false a → ⊥) → IsSeparated g (λ v. v == a) (λ v. v == b) w
  separated_without a b none shut v r o =
      let s : v ≡ a = grind (arith, o.begins) in
      let t : last v r ≡ b = grind (arith, o.ends) in
      shut (moved (last v r) v s t (to_way none false v r o.walk (passed_first v r o.first_outside o.passed) o.last_outside))
    where
      moved : (e v : ℕ) → v ≡ a → e ≡ b → Way g w e false v → Way g w b false a
      moved e v s t x = rw (sym s, sym t) x

  -- a way is an open walk
  pub open_along : (a b : ℕ) → a < g.vertices → w a ≡ false → Way g w b false a → HasOpenWalk g (λ v. v == a) (λ v. v == b) w
  open_along a b below o x = let t = from_way b false a x in (
    a,
    t.steps,
    record {
      vertex = below;
      begins = grind arith;
      ends = (let e = t.ends in grind (arith, e));
      first_outside = o;
      last_outside = rw t.ends t.outside;
      walk = t.walk;
      passed = passed_rest a t.steps t.passed;
    },
  )

module _ (g : MixedGraph) (w : ℕ → Bool) (x y : ℕ) where
  -- what lets a way pass u that comes to u with an arrowhead there or not (k), and leaves it by an edge with one or not
  abbrev Pass : Bool → Bool → ℕ → Type 0
  Pass k true u = Met g w k u
  Pass k false u = w u ≡ false

  reversed_onto : (h : Bool) (u : ℕ) → Way g w y h u → ((k : Bool) → Pass k h u → Way g w x k u) → Way g w x false y
  reversed_onto true u (stop s o) more = rw (sym s) (more false o)
  reversed_onto false u (stop s o) more = rw (sym s) (more false o)
  reversed_onto true u (out {v = v} a o r) more = reversed_onto true v r (λ k c. into k a c (more false o))
  reversed_onto false u (out {v = v} a o r) more = reversed_onto true v r (λ k c. into k a c (more false o))
  reversed_onto _ u (into true {v = v} a c r) more = reversed_onto false v r (λ k o. out a o (more true c))
  reversed_onto _ u (into false {v = v} a c r) more = reversed_onto false v r (λ k o. out a o (more true c))

  -- a way read from its end
  pub reversed : Way g w y false x → Way g w x false y
  reversed r = reversed_onto false x r (λ k o. stop refl o)
