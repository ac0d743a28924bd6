use Rattle.std.proofs.Common.{◌≡◌, ℕ, Bool, subst}
use mathlib.Core.Path.{fun_ext}
use Rattle.mixed_graph.specs.Vocabulary.{has, MixedGraph, graph_of}
use Rattle.natural_bounds.specs.declared.instruments.InstrumentFault.{InstrumentFault}
use Rattle.natural_bounds.specs.Vocabulary.{fixed, IsInstrument, IsInstrumentFault}
use Rattle.bound_values.specs.declared.questions.Question.{Question}
use Rattle.bound_values.specs.Vocabulary.{asked_of}
use Rattle.bounds_command.specs.Asking.{HasInstrument}
use Rattle.bounds_command.specs.First.{HasNoInstrument}
use Rattle.bounds_command.proofs.first.by_instrument.Goals as goal

-- the sets of the question are an instrument's
is_for : (g : MixedGraph) (q : Question) (w : ℕ → Bool) → w ≡ fixed (asked_of q)
    → IsInstrument g (has q.x.bits) (has q.y.bits) (has q.instruments.bits) w → HasInstrument g q
is_for g q w e is = subst (λ (u : ℕ → Bool). IsInstrument g (has q.x.bits) (has q.y.bits) (has q.instruments.bits) u) e is

-- the fault is that of the question
none_for : (g : MixedGraph) (q : Question) (w : ℕ → Bool) → w ≡ fixed (asked_of q) → (f : InstrumentFault)
    → IsInstrumentFault g (has q.x.bits) (has q.y.bits) (has q.instruments.bits) w f
    → (IsInstrument g (has q.x.bits) (has q.y.bits) (has q.instruments.bits) w → ⊥)
    → HasNoInstrument g q f
none_for g q w e f is none = record {
  is_fault = subst (λ (u : ℕ → Bool). IsInstrumentFault g (has q.x.bits) (has q.y.bits) (has q.instruments.bits) u f) e is;
  none = subst (λ (u : ℕ → Bool). IsInstrument g (has q.x.bits) (has q.y.bits) (has q.instruments.bits) u → ⊥) e none;
}

pub returns-in-Ok : goal.returns-in-Ok
returns-in-Ok c = λ l named. record {
  named = named;
  instrument = is_for (graph_of c.args.graph.now) c.args.question (has c.fixed.result.bits) (fun_ext c.fixed.ensures.members) c.in-Ok.ensures.is;
}

pub returns-in-Err : goal.returns-in-Err
returns-in-Err c = λ l named. (
  named,
  none_for (graph_of c.args.graph.now) c.args.question (has c.fixed.result.bits) (fun_ext c.fixed.ensures.members)
      c.in-Err.fault c.in-Err.ensures.fault c.in-Err.ensures.none,
)
