-- Lists ask for one question, and have no fault where they ask for one.
use Rattle.std.proofs.Common.{◌≡◌, ℕ, inl, inr, sym, subst, ◌∙◌}
use Rattle.std.specs.Prelude.{slice_index}
use Rattle.mixed_graph.specs.declared.sets.VSet.{VSet}
use Rattle.mixed_graph.specs.Vocabulary.{has, MixedGraph}
use Rattle.targets.specs.declared.fault.TargetFault.{TargetFault}
use Rattle.targets.specs.Vocabulary.{Lists}
use Rattle.adjustment.specs.declared.criteria.AdjFault.{AdjFault}
use Rattle.adjustment.specs.declared.criteria.AdjFault.TheVariants.{Forbidden, Unblocked}
use Rattle.adjustment.specs.Vocabulary.{IsAdmissible, IsAdjustmentFault, steps_of}
use Rattle.replies.proofs.OneTarget.{one_set, no_fault_of, same_three}
use Rattle.bound_values.specs.declared.questions.Question.{Question}
use Rattle.bounds_command.specs.Asking.{BoundLists, later_fault, AreNamed, IsBoundFault, HasInstrument, IsByInstruments, IsOfSet, IsByAdjusting}
use Rattle.bounds_command.specs.Asking.{AskedLists, of_instruments, of_set, IsAskedFault, IsAsked}
use Rattle.bounds_command.specs.declared.first.Unmet.{Unmet}
use Rattle.bounds_command.specs.declared.first.Unmet.TheVariants.{NoInstrument, NotAdmissible}
use Rattle.bounds_command.specs.First.{IsUnmet}

vertex_set : (a b : VSet) → b.bits ≡ a.bits → b ≡ a
vertex_set a b e = λ i. record { bits = e i }

-- they ask for one
one_named : (l : BoundLists) (a b : Question) → AreNamed l a → AreNamed l b → b ≡ a
one_named l a b s t = λ i. record {
  x = vertex_set a.x b.x (one_set l.query.observed l.query.x a.x.bits b.x.bits s.query.set_x t.query.set_x) i;
  y = vertex_set a.y b.y (one_set l.query.observed l.query.y a.y.bits b.y.bits s.query.set_y t.query.set_y) i;
  given = vertex_set a.given b.given (one_set l.query.observed l.query.given a.given.bits b.given.bits s.query.set_given t.query.set_given) i;
  instruments = vertex_set a.instruments b.instruments
      (one_set l.query.observed l.instruments a.instruments.bits b.instruments.bits s.instruments t.instruments) i;
  strata = vertex_set a.strata b.strata (one_set l.query.observed l.strata a.strata.bits b.strata.bits s.strata t.strata) i;
  method = (t.method ∙ sym s.method) i;
}

-- the lists of an admissible set ask for one
one_of_set : (l : Lists) (a b : Question) → IsOfSet l a → IsOfSet l b → b ≡ a
one_of_set l a b s t = λ i. record {
  x = vertex_set a.x b.x (one_set l.observed l.x a.x.bits b.x.bits s.sets.set_x t.sets.set_x) i;
  y = vertex_set a.y b.y (one_set l.observed l.y a.y.bits b.y.bits s.sets.set_y t.sets.set_y) i;
  given = vertex_set a.given b.given (t.no_condition ∙ sym s.no_condition) i;
  instruments = vertex_set a.instruments b.instruments (t.no_instrument ∙ sym s.no_instrument) i;
  strata = vertex_set a.strata b.strata (one_set l.observed l.given a.strata.bits b.strata.bits s.sets.set_given t.sets.set_given) i;
  method = (t.method ∙ sym s.method) i;
}

pub one_question : (g : MixedGraph) (l : AskedLists) (a b : Question) → IsAsked g l a → IsAsked g l b → b ≡ a
one_question g (of_instruments l) a b s t = one_named l a b s.named t.named
one_question g (of_set l) a b s t = one_of_set l a b s.named t.named

-- sets that are an instrument's or admissible aren't refused
alone_by_instruments : (g : MixedGraph) (l : BoundLists) (q : Question) (a : Unmet) → IsByInstruments g l q → IsUnmet g (of_instruments l) a → ⊥
alone_by_instruments g l q (NoInstrument b fault) asked h = h.1.none (subst (HasInstrument g) (sym (one_named l q b asked.named h.0)) asked.instrument)
alone_by_instruments g l q (NotAdmissible s fault) asked h = h

breaks_none : (g : MixedGraph) (x y z : ℕ) (fault : AdjFault) → IsAdmissible g (has x) (has y) (has z)
    → IsAdjustmentFault g (has x) (has y) (has z) fault → ⊥
breaks_none g x y z (Forbidden v) is h = is.clear v h.member h.holds
breaks_none g x y z (Unblocked p) is h = is.blocked (slice_index p.vertices 0) (steps_of p) h.1.proper h.1.not_causal h.1.open_path.walk

alone_by_set : (g : MixedGraph) (l : Lists) (q : Question) (a : Unmet) → IsByAdjusting g l q → IsUnmet g (of_set l) a → ⊥
alone_by_set g l q (NoInstrument b fault) asked h = h
alone_by_set g l q (NotAdmissible s fault) asked h = breaks_none g s.x.bits s.y.bits s.given.bits fault
    (same_three (λ x y z. IsAdmissible g (has x) (has y) (has z)) l s.x.bits s.y.bits s.given.bits q.x.bits q.y.bits q.strata.bits h.0 asked.named.sets
    asked.admissible) h.1

pub not_unmet : (g : MixedGraph) (l : AskedLists) (q : Question) (a : Unmet) → IsAsked g l q → IsUnmet g l a → ⊥
not_unmet g (of_instruments l) q a asked h = alone_by_instruments g l q a asked h
not_unmet g (of_set l) q a asked h = alone_by_set g l q a asked h

-- lists that name the sets of a question have no fault
no_fault : (l : BoundLists) (q : Question) (f : TargetFault) → AreNamed l q → IsBoundFault l f → ⊥
no_fault l q f s (inl h) = no_fault_of _ l.query.y l.query.x f s.query.no_fault s.query.some_y s.query.some_x h
no_fault l q f s (inr h) = no_fault_of (later_fault l) l.query.y l.query.x f s.no_fault s.query.some_y s.query.some_x h.named

pub no_asked_fault : (g : MixedGraph) (l : AskedLists) (q : Question) (f : TargetFault) → IsAsked g l q → IsAskedFault l f → ⊥
no_asked_fault g (of_instruments l) q f s h = no_fault l q f s.named h
no_asked_fault g (of_set l) q f s h = no_fault_of _ l.y l.x f s.named.sets.no_fault s.named.sets.some_y s.named.sets.some_x h

-- lists of whose sets something is refused have no fault
pub no_unmet_fault : (g : MixedGraph) (l : AskedLists) (a : Unmet) (f : TargetFault) → IsUnmet g l a → IsAskedFault l f → ⊥
no_unmet_fault g (of_instruments l) (NoInstrument q fault) f s h = no_fault l q f s.0 h
no_unmet_fault g (of_instruments l) (NotAdmissible t fault) f s h = s
no_unmet_fault g (of_set l) (NoInstrument q fault) f s h = s
no_unmet_fault g (of_set l) (NotAdmissible t fault) f s h = no_fault_of _ l.y l.x f s.0.no_fault s.0.some_y s.0.some_x h
