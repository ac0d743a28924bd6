-- Lists of steps and lists of such lists, as derivations have them.
use Rattle.std.specs.Prelude.{List, [], ◌∷◌}
use Rattle.std.specs.Global.{Vec}
use Rattle.do_derivation.specs.Plans.{Plans, plan}
use Rattle.do_derivation.specs.Vocabulary.{step_view, steps_view}
use Rattle.do_derivation.specs.declared.steps.Step.{Step}
use Rattle.identification_theory.specs.Vocabulary.{Lists, no_more, more}

-- the plans of the steps, and then the rest
abbrev pub onto : List Step → Plans → Plans
onto [] rest = rest
onto (s ∷ steps) rest = plan (step_view s) (onto steps rest)

-- the plans of each list, and then the rest
abbrev pub lists_onto : List (Vec Step) → Lists → Lists
lists_onto [] rest = rest
lists_onto (l ∷ lists) rest = more (steps_view l.items) (lists_onto lists rest)

-- the plans of each list
abbrev pub lists_view : List (Vec Step) → Lists
lists_view lists = lists_onto lists no_more
