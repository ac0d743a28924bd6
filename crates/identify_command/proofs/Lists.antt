-- What the sets of a target have.
use Rattle.std.proofs.Common.{◌≡◌, ◌<◌, ℕ, zero, suc, true, length, ap, ◌∙◌, arith}
use Rattle.mixed_graph.specs.Vocabulary.{has}
use Rattle.do_rules.specs.Vocabulary.{AreThreeSets}
use Rattle.prob_expr.specs.Vocabulary.{PlainTarget}
use Rattle.mixed_graph.proofs.MaskLaws.{has_none}
use Rattle.targets.specs.Vocabulary.{Lists}
use Rattle.targets.proofs.Disjoint.{disjoint_listed_sets}
use Rattle.replies.proofs.OneTarget.{one_set}
use Rattle.identify_command.specs.Right.{AreTargetSets}

-- the sets of a target are within the observed vertices, and no two of them meet
pub three_sets : (l : Lists) (n : ℕ) (t : PlainTarget) → length l.observed ≡ n → AreTargetSets l t → AreThreeSets n (has t.x) (has t.y) (has t.given)
three_sets l n t e s =
    let d = disjoint_listed_sets l n t.x t.y t.given e s in
    record { x_within = d.x_within; y_within = d.y_within; w_within = d.w_within; x_y = d.x_y; x_w = d.x_w; y_w = d.y_w }

-- a set with a member isn't empty
pub with_member : (set v : ℕ) → has set v ≡ true → 0 < set
with_member zero v h = absurd (let no = has_none v in cc (h, no))
with_member (suc k) v h = omega arith

abbrev target : (x y given : ℕ) → PlainTarget
target x y given = record { x = x; y = y; given = given }

-- the lists name one target
pub one_target : (l : Lists) (t u : PlainTarget) → AreTargetSets l t → AreTargetSets l u → u ≡ t
one_target l t u s v =
    ap (λ (k : ℕ). target k u.y u.given) (one_set l.observed l.x t.x u.x s.set_x v.set_x)
    ∙ ap (λ (k : ℕ). target t.x k u.given) (one_set l.observed l.y t.y u.y s.set_y v.set_y)
    ∙ ap (λ (k : ℕ). target t.x t.y k) (one_set l.observed l.given t.given u.given s.set_given v.set_given)
