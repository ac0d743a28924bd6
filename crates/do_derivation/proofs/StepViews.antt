-- The plans of the code's steps.
use Rattle.std.proofs.Common.{◌≡◌, rules}
use Rattle.do_derivation.specs.Plans.{Plan}
use Rattle.do_derivation.specs.View.{move_view, step_view}
use Rattle.do_derivation.specs.declared.moves.Move.{Move}
use Rattle.do_derivation.specs.declared.steps.Step.{the_lemmas, Make}

-- a step that is a move, as the plain move
pub step-Make : (m : Move) → step_view (Make m) ≡ Plan.Make (move_view m)
step-Make m = search (rules, the_lemmas)
