-- A set that meets a criterion and what breaks it exclude each other, and so do minimal sets and none; so right answers end alike.
use Rattle.std.proofs.Common.{◌≡◌, ◌==◌, ℕ, Bool, true, false, List, [], ◌∷◌, length, Result, Ok, Err, inl, inr, refl, sym, ap, ◌∙◌, subst, arith}
use Rattle.std.specs.Prelude.{slice_index, Some}
use Rattle.std.proofs.lemmas.Bool.{eq-eqb, eqb-true}
use Rattle.mixed_graph.specs.declared.sets.VSet.{VSet}
use Rattle.mixed_graph.specs.Vocabulary.{has, MixedGraph, one}
use Rattle.mixed_graph.proofs.Masks.{has-pow}
use Rattle.m_separation.specs.Vocabulary.{IsOpenWalk, IsPath}
use Rattle.do_derivation.proofs.TermSets.{apart_back}
use Rattle.targets.specs.declared.query.Sets.{Sets}
use Rattle.targets.specs.declared.fault.TargetFault.{TargetFault}
use Rattle.targets.specs.declared.fault.TargetFault.TheVariants.{NotOneX}
use Rattle.targets.specs.Vocabulary.{Lists, AreSets, fault_in}
use Rattle.adjustment.specs.declared.criteria.AdjFault.{AdjFault}
use Rattle.adjustment.specs.declared.criteria.AdjFault.TheVariants.{Forbidden, Unblocked}
use Rattle.adjustment.specs.Vocabulary.{IsAdmissible, IsBackDoorSet, IsAdjustmentFault, IsBackDoorFault, steps_of}
use Rattle.diagram.specs.declared.diagram.Diagram.{Diagram}
use Rattle.diagram.specs.Vocabulary.{Names}
use Rattle.diagram.proofs.OneDiagram.{AreSameDiagrams, same_query_lists}
use Rattle.replies.proofs.OneTarget.{no_fault_of, one_set}
use Rattle.told.specs.Vocabulary.{target_refusal, outcome_in}
use Rattle.adjust_command.specs.Queries.{Query, by_set, by_back_door, listing, set_of, adjust_lists}
use Rattle.adjust_command.specs.Right.{Judges, IsNotJudged, AreMinimalSets, HasNoSet, ListsSets, Decides, IsNotDecided, IsForNames}
use Rattle.adjust_command.specs.Telling.{adjust_telling}
use Rattle.adjust_command.specs.Verdicts.{IsVerdict}
use Rattle.adjust_command.specs.declared.answer.Answer.{Answer}
use Rattle.adjust_command.specs.declared.answer.Answer.TheVariants.{Admissible, NotAdmissible, Listed, NoSet}
use Rattle.adjust_command.specs.declared.criteria.Verdict.TheVariants.{Meets, Breaks}
use Rattle.adjust_command.proofs.Lists.{three_sets}

-- two vertices with one mask are the same
same_one : (v w : ℕ) → one v ≡ one w → v ≡ w
same_one v w e = eqb-true v w (sym (has-pow w v) ∙ sym (ap (λ (m : ℕ). has m v) e) ∙ has-pow v v ∙ eq-eqb v v refl)

module _ (q : MixedGraph) where
  admissible_or_not : (x y z : ℕ) (f : AdjFault) → IsAdmissible q (has x) (has y) (has z) → IsAdjustmentFault q (has x) (has y) (has z) f → ⊥
  admissible_or_not x y z (Forbidden v) a h = a.clear v h.member h.holds
  admissible_or_not x y z (Unblocked p) a h = a.blocked (slice_index p.vertices 0) (steps_of p) h.1.proper h.1.not_causal h.1.open_path.walk

  meets_or_not : (v y z : ℕ) (f : AdjFault) → IsBackDoorSet q v (has y) (has z) → IsBackDoorFault q v (has y) (has z) f → ⊥
  meets_or_not v y z (Forbidden u) a h = a.clear u h.member h.holds
  meets_or_not v y z (Unblocked p) a h =
      let walk = h.1.open_path.walk in
      let at : slice_index p.vertices 0 ≡ v = eqb-true (slice_index p.vertices 0) v walk.begins in
      a.blocked (steps_of p) (subst (λ (u : ℕ). IsPath u (steps_of p)) at h.1.open_path.path) h.1.begins
      (subst (λ (u : ℕ). IsOpenWalk q (λ k. k == v) (has y) (has z) u (steps_of p)) at walk)

  -- a set that meets a criterion isn't broken
  pub verdict_once : (back_door : Bool) (x y z : ℕ) (f : AdjFault) → IsVerdict back_door q x y z Meets → IsVerdict back_door q x y z (Breaks f) → ⊥
  verdict_once false x y z f a b = admissible_or_not x y z f a.0 b.0
  verdict_once true x y z f (v, exposure, meets, effect) (w, other, breaks) = meets_or_not v y z f meets
      (subst (λ (u : ℕ). IsBackDoorFault q u (has y) (has z) f) (same_one w v (sym other ∙ exposure)) breaks)

  some_or_none : (l : Lists) (x y z most : ℕ) (sets : List VSet) (more : Bool) → length l.observed ≡ q.vertices → AreSets l x y z
      → AreMinimalSets q x y most sets more → HasNoSet q x y → ⊥
  some_or_none l x y z most [] more named s a b = a.some refl
  some_or_none l x y z most (t ∷ ts) more named s a b =
      let m = a.listed.each 0 t (omega arith) in let d = three_sets l q.vertices x y z named s in
      b.none (has t.bits) (record {
        x_within = d.x_within;
        y_within = d.y_within;
        w_within = m.within;
        x_y = d.x_y;
        x_w = apart_back (has t.bits) (has x) m.x_apart;
        y_w = apart_back (has t.bits) (has y) m.y_apart;
      })
      m.admissible

  judged_alike : (back_door : Bool) (s : Sets) (a b : Answer) → Judges back_door q s a → Judges back_door q s b
      → adjust_telling.outcome a ≡ adjust_telling.outcome b
  judged_alike back_door s (Admissible t) (Admissible u) f g = refl
  judged_alike back_door s (Admissible t) (NotAdmissible u fault) f g = absurd (verdict_once back_door s.x.bits s.y.bits s.given.bits fault f.1 g.1)
  judged_alike back_door s (NotAdmissible t fault) (Admissible u) f g = absurd (verdict_once back_door s.x.bits s.y.bits s.given.bits fault g.1 f.1)
  judged_alike back_door s (NotAdmissible t fault) (NotAdmissible u other) f g = refl
  judged_alike back_door s (Admissible t) (Listed u sets more) f g = absurd g
  judged_alike back_door s (Admissible t) (NoSet u) f g = absurd g
  judged_alike back_door s (NotAdmissible t fault) (Listed u sets more) f g = absurd g
  judged_alike back_door s (NotAdmissible t fault) (NoSet u) f g = absurd g
  judged_alike back_door s (Listed t sets more) b f g = absurd f
  judged_alike back_door s (NoSet t) b f g = absurd f

  listed_alike : (l : Lists) (most : ℕ) (s : Sets) → length l.observed ≡ q.vertices → AreSets l s.x.bits s.y.bits s.given.bits → (a b : Answer)
      → ListsSets most q s a → ListsSets most q s b → adjust_telling.outcome a ≡ adjust_telling.outcome b
  listed_alike l most s named is (Listed t sets more) (Listed u others rest) f g = refl
  listed_alike l most s named is (Listed t sets more) (NoSet u) f g =
      absurd (some_or_none l s.x.bits s.y.bits s.given.bits most sets.items more named is f.1 g.1)
  listed_alike l most s named is (NoSet t) (Listed u sets more) f g =
      absurd (some_or_none l s.x.bits s.y.bits s.given.bits most sets.items more named is g.1 f.1)
  listed_alike l most s named is (NoSet t) (NoSet u) f g = refl
  listed_alike l most s named is (Listed t sets more) (Admissible u) f g = absurd g
  listed_alike l most s named is (Listed t sets more) (NotAdmissible u fault) f g = absurd g
  listed_alike l most s named is (NoSet t) (Admissible u) f g = absurd g
  listed_alike l most s named is (NoSet t) (NotAdmissible u fault) f g = absurd g
  listed_alike l most s named is (Admissible t) b f g = absurd f
  listed_alike l most s named is (NotAdmissible t fault) b f g = absurd f

  -- what is judged by the back-door criterion has one exposure
  judged_or_not : (s : Sets) (a : Answer) (fault : TargetFault) → Judges true q s a → IsNotJudged true s fault → ⊥
  judged_or_not s (Admissible t) NotOneX (of, (v, exposure, meets, effect)) n = n v exposure
  judged_or_not s (NotAdmissible t broken) NotOneX (of, (v, exposure, breaks)) n = n v exposure
  judged_or_not s (Listed t sets more) fault f n = absurd f
  judged_or_not s (NoSet t) fault f n = absurd f
  judged_or_not s a fault f n = n

  decided_or_not : (query : Query) (s : Sets) (a : Answer) (fault : TargetFault) → Decides query q s a → IsNotDecided query s fault → ⊥
  decided_or_not (by_set set) s a fault f n = n
  decided_or_not (by_back_door set) s a fault f n = judged_or_not s a fault f n
  decided_or_not (listing most) s a fault f n = n

-- lists name one set each
same_sets : (l : Lists) (P : Sets → Type 0) (s t : Sets) → AreSets l s.x.bits s.y.bits s.given.bits → AreSets l t.x.bits t.y.bits t.given.bits → P t → P s
same_sets l P s t n m p = subst P (λ i. record {
  x = record { bits = one_set l.observed l.x s.x.bits t.x.bits n.set_x m.set_x i };
  y = record { bits = one_set l.observed l.y s.y.bits t.y.bits n.set_y m.set_y i };
  given = record { bits = one_set l.observed l.given s.given.bits t.given.bits n.set_given m.set_given i };
}) p

module _ (query : Query) (q : MixedGraph) (l : Lists) (named : length l.observed ≡ q.vertices) where
  decided_alike : (other : Query) (s : Sets) → AreSets l s.x.bits s.y.bits s.given.bits → (a b : Answer) → Decides other q s a → Decides other q s b
      → adjust_telling.outcome a ≡ adjust_telling.outcome b
  decided_alike (by_set set) s is a b f g = judged_alike q false s a b f g
  decided_alike (by_back_door set) s is a b f g = judged_alike q true s a b f g
  decided_alike (listing most) s is a b f g = listed_alike q l most s named is a b f g

  -- lists whose sets are answered have no fault
  no_fault : (a : Answer) (fault : TargetFault) → IsForNames query q l (Ok a) → IsForNames query q l (Err fault) → ⊥
  no_fault a fault f (inl is) = no_fault_of (fault_in l) l.y l.x fault f.named.no_fault f.named.some_y f.named.some_x is
  no_fault a fault f (inr n) = decided_or_not q query f.sets a fault f.decided (same_sets l (λ s. IsNotDecided query s fault) f.sets n.sets f.named n.named n.refused)

  -- right answers end alike
  pub alike : (a b : Result Answer TargetFault) → IsForNames query q l a → IsForNames query q l b
      → outcome_in adjust_telling target_refusal a ≡ outcome_in adjust_telling target_refusal b
  alike (Ok a) (Ok b) f g = decided_alike query f.sets f.named a b f.decided (same_sets l (λ s. Decides query q s b) f.sets g.sets f.named g.named g.decided)
  alike (Ok a) (Err fault) f g = absurd (no_fault a fault f g)
  alike (Err fault) (Ok b) f g = absurd (no_fault b fault g f)
  alike (Err fault) (Err other) f g = refl

pub same_lists : (x y : Names) (query : Query) (d e : Diagram) → AreSameDiagrams d e → adjust_lists e.read e.observed.names x y query
    ≡ adjust_lists d.read d.observed.names x y query
same_lists x y query d e s = same_query_lists x y (Some (set_of query)) d e s
