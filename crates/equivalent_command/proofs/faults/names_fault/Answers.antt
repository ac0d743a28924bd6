use Rattle.std.proofs.Common.{List, ℕ, [], ap, ◌∙◌, sym, refl}
use Rattle.std.proofs.lemmas.Option.{get_or_from_slice_get}
use Rattle.mixed_graph.specs.Vocabulary.{name_of}
use Rattle.targets.specs.declared.fault.TargetFault.TheVariants.{OtherNames}
use Rattle.equivalent_command.specs.Faults.{in_first, in_second}
use Rattle.equivalent_command.proofs.faults.names_fault.Goals as goal

pub returns-in-Some-clause-found : goal.returns-in-Some-clause-found
returns-in-Some-clause-found c = record {
  name = name_of c.args.names.now c.in-Some.v;
  first = in_first c.in-Some.v c.in-Some.ensures.found refl;
  named = ap (λ (t : List ℕ). OtherNames t) (c.in_ok-name.ensures ∙ sym
      (get_or_from_slice_get c.args.names.now c.in-Some.v c.get.result.now [] c.get.ensures.name));
}

pub returns-in-Some-first_alone-clause-found : goal.returns-in-Some-first_alone-clause-found
returns-in-Some-first_alone-clause-found c = record {
  name = name_of c.args.others.now c.in-Some-first_alone.v;
  first = in_second c.in-Some-first_alone.v c.in_default.ensures.none c.in-Some-first_alone.ensures.found refl;
  named = ap (λ (t : List ℕ). OtherNames t) (c.in_ok-name-2.ensures
      ∙ sym (get_or_from_slice_get c.args.others.now c.in-Some-first_alone.v c.get-in-Some-first_alone.result.now [] c.get-in-Some-first_alone.ensures.name));
}
