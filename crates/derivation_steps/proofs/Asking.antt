-- The question that is found of a step that is made is that of its row of the table.
use Rattle.std.proofs.Common.{ℕ, ◌≡◌, ◌<◌, Bool, true, false, refl, List, Option, Some, None, MatchOption}
use Rattle.std.specs.Prelude.{IfSome, option_and_then}
use Rattle.mixed_graph.specs.Vocabulary.{has, MixedGraph, union, minus, is_below}
use Rattle.do_rules.specs.declared.rules.Rule.{Rule}
use Rattle.do_rules.specs.declared.rules.Rule.TheVariants.{One, Two, Three}
use Rattle.prob_expr.specs.Tree.{Tree, prob, sum, product, quotient, named}
use Rattle.mixed_graph.proofs.MaskLaws.{below_has}
use Rattle.do_derivation.specs.Plans.{Move, Plan}
use Rattle.do_derivation.specs.declared.faults.StepFault.{StepFault}
use Rattle.do_derivation.specs.declared.faults.StepFault.TheVariants.{Sets}
use Rattle.do_derivation.specs.declared.moves.SetMove.{SetMove}
use Rattle.do_derivation.specs.declared.moves.BareMove.{BareMove}
use Rattle.do_derivation.specs.Vocabulary.{child, IsMade, Makes, on_term, if_so, if_made, is_new, is_part}
use Rattle.do_derivation.specs.Table.{Row, row}
use Rattle.do_derivation.specs.declared.moves.SetMove.TheVariants as set_move
use Rattle.do_derivation.specs.declared.moves.BareMove.TheVariants as bare_move
use Rattle.do_derivation.proofs.MadeSets.{set_below}
use Rattle.do_derivation.proofs.TermSets.{IsTerm, minus_left}
use Rattle.do_derivation.proofs.TreeTerms.{AreTerms, child_terms}
use Rattle.derivation_steps.specs.Questions.{Asked, IsBelow, beside, of_given, of_doing, on_sets, set_question, move_question, question_of}
use Rattle.derivation_steps.specs.Asked.{IsAskedBy, IsAsked, IsAskedIn}
use Rattle.derivation_steps.specs.declared.questions.AskedRule.{AskedRule}

module _ (g : MixedGraph) where
  -- ---- what is asked
  module _ (asked : Option AskedRule) where
    so_told : (ok : Bool) (r : Row) (fault : StepFault) (x : Tree) → IsMade g (if_so ok r fault) x → IsAskedBy g r asked
        → IsAskedBy g (if_so ok r fault) asked
    so_told true r fault x made t = t
    so_told false r fault x made t = absurd made

    -- a row that asks for no rule
    abbrev IsQuiet : Row → Type 0
    IsQuiet (Row.Refuse fault) = Unit {0}
    IsQuiet (Row.Make x) = Unit {0}
    IsQuiet (Row.Ask rule x y z w made) = ⊥

    quiet_told : (r : Row) (x : Tree) → IsQuiet r → IsMade g r x → asked ≡ None → IsAskedBy g r asked
    quiet_told (Row.Refuse fault) x q made e = absurd made
    quiet_told (Row.Make y) x q made e = e
    quiet_told (Row.Ask rule a b c d y) x q made e = absurd q

    so_quiet : (ok : Bool) (r : Row) (fault : StepFault) → IsQuiet r → IsQuiet (if_so ok r fault)
    so_quiet true r fault q = q
    so_quiet false r fault q = tt

    made_quiet : (o : Option Tree) (fault : StepFault) → IsQuiet (if_made o fault)
    made_quiet (Some t) fault = tt
    made_quiet None fault = tt

    term_quiet : (f : ℕ → ℕ → ℕ → Row) → ((a b c : ℕ) → IsQuiet (f a b c)) → (e : Tree) → IsQuiet (on_term f e)
    term_quiet f h (prob a b c) = h a b c
    term_quiet f h (sum u e) = tt
    term_quiet f h (product ts) = tt
    term_quiet f h (quotient p q) = tt
    term_quiet f h (named k) = tt

    term_told : (f : ℕ → ℕ → ℕ → Row) (q : ℕ → ℕ → ℕ → Asked) (x : Tree)
        → ((a b c : ℕ) → IsMade g (f a b c) x → IsAskedIn g (Some (q a b c)) asked → IsAskedBy g (f a b c) asked)
        → (e : Tree) → IsMade g (on_term f e) x → IsAskedIn g (on_sets q e) asked → IsAskedBy g (on_term f e) asked
    term_told f q x h (prob a b c) made t = h a b c made t
    term_told f q x h (sum u e) made t = absurd made
    term_told f q x h (product ts) made t = absurd made
    term_told f q x h (quotient p r) made t = absurd made
    term_told f q x h (named k) made t = absurd made

    set_told : (lemmas : List ℕ) (kind : SetMove) (z : ℕ) (e x : Tree) → IsMade g (row g.vertices lemmas (Move.WithSet kind z) e) x
        → IsAskedIn g (set_question kind z e) asked → IsAskedBy g (row g.vertices lemmas (Move.WithSet kind z) e) asked
    set_told lemmas set_move.Rule1In z e x made t =
        term_told _ (beside One z) x (λ a b c k. so_told (is_new g.vertices z a b c) (Row.Ask One b a z c (prob a b (union c z))) Sets x k) e made t
    set_told lemmas set_move.Rule1Out z e x made t =
        term_told _ (of_given One z) x (λ a b c k. so_told (is_part z c) (Row.Ask One b a z (minus c z) (prob a b (minus c z))) Sets x k) e made t
    set_told lemmas set_move.Rule2See z e x made t =
        term_told _ (of_doing Two z) x (λ a b c k. so_told (is_part z b) (Row.Ask Two (minus b z) a z c (prob a (minus b z) (union c z))) Sets x k) e made t
    set_told lemmas set_move.Rule2Do z e x made t =
        term_told _ (of_given Two z) x (λ a b c k. so_told (is_part z c) (Row.Ask Two b a z (minus c z) (prob a (union b z) (minus c z))) Sets x k) e made t
    set_told lemmas set_move.Rule3In z e x made t =
        term_told _ (beside Three z) x (λ a b c k. so_told (is_new g.vertices z a b c) (Row.Ask Three b a z c (prob a (union b z) c)) Sets x k) e made t
    set_told lemmas set_move.Rule3Out z e x made t =
        term_told _ (of_doing Three z) x (λ a b c k. so_told (is_part z b) (Row.Ask Three (minus b z) a z c (prob a (minus b z) c)) Sets x k) e made t
    set_told lemmas set_move.Widen z e x made t = quiet_told (row g.vertices lemmas (Move.WithSet set_move.Widen z) e) x
        (term_quiet _ (λ a b c. so_quiet _ (Row.Make _) _ tt) e) made t

    bare_quiet : (lemmas : List ℕ) (kind : BareMove) (e : Tree) → IsQuiet (row g.vertices lemmas (Move.Bare kind) e)
    bare_quiet lemmas bare_move.Unchain e = made_quiet _ _
    bare_quiet lemmas bare_move.Narrow e = made_quiet _ _
    bare_quiet lemmas bare_move.Split e = term_quiet _ (λ a b c. so_quiet _ (Row.Make _) _ tt) e
    bare_quiet lemmas bare_move.Unwrap e = made_quiet _ _

    move_told : (lemmas : List ℕ) (m : Move) (e x : Tree) → IsMade g (row g.vertices lemmas m e) x → IsAskedIn g (move_question m e) asked
        → IsAskedBy g (row g.vertices lemmas m e) asked
    move_told lemmas (Move.WithSet kind z) e x made t = set_told lemmas kind z e x made t
    move_told lemmas (Move.Bare kind) e x made t = quiet_told (row g.vertices lemmas (Move.Bare kind) e) x (bare_quiet lemmas kind e) made t
    move_told lemmas (Move.Chain o) e x made t = quiet_told (row g.vertices lemmas (Move.Chain o) e) x
        (term_quiet _ (λ a b c. so_quiet _ (Row.Make _) _ tt) e) made t
    move_told lemmas (Move.Group l) e x made t = quiet_told (row g.vertices lemmas (Move.Group l) e) x (made_quiet _ _) made t
    move_told lemmas (Move.Cite k) e x made t =
        quiet_told (row g.vertices lemmas (Move.Cite k) e) x (so_quiet _ (on_term _ e) _ (term_quiet _ (λ a b c. so_quiet _ (Row.Make (named k)) _ tt) e))
        made t

    -- on a child that is there
    child_told : (lemmas : List ℕ) (p : Plan) (o : Option Tree) (Q : Tree → Type 0)
        → ((c : Tree) → Q c → IsAskedIn g (question_of p c) asked → IsAsked g lemmas p c asked)
        → MatchOption o ⊥ Q → IsAskedIn g (option_and_then (question_of p) o) asked → MatchOption o ⊥ (λ c. IsAsked g lemmas p c asked)
    child_told lemmas p None Q h made t = made
    child_told lemmas p (Some c) Q h made t = h c made t

    pub step_told : (lemmas : List ℕ) (p : Plan) (e x : Tree) → Makes g lemmas p e x → IsAskedIn g (question_of p e) asked
        → IsAsked g lemmas p e asked
    step_told lemmas (Plan.Make m) e x made t = move_told lemmas m e x made t
    step_told lemmas (Plan.At i p) e x made t =
        child_told lemmas p (child e i) _ (λ c m s. step_told lemmas p c m.0 m.1 s) made t
    step_told lemmas (Plan.Then ps) e x made t = t

  -- ---- the sets lie in the graph
  less_below : (b z : ℕ) → ((u : ℕ) → has b u ≡ true → u < g.vertices) → (v : ℕ) → has (minus b z) v ≡ true → v < g.vertices
  less_below b z below v h = below v (minus_left b z v h)

  module _ (z : ℕ) (below : is_below g.vertices z ≡ true) where
    beside_below : (r : Rule) (a b c : ℕ) → IsTerm g.vertices a b c → IsBelow g.vertices (beside r z a b c)
    beside_below r a b c t =
        record { doing = t.doing_below; y = t.of_below; z = λ v. below_has g.vertices z v below; given = t.given_below }

    given_below : (r : Rule) (a b c : ℕ) → IsTerm g.vertices a b c → IsBelow g.vertices (of_given r z a b c)
    given_below r a b c t =
        record { doing = t.doing_below; y = t.of_below; z = λ v. below_has g.vertices z v below; given = less_below c z t.given_below }

    doing_below : (r : Rule) (a b c : ℕ) → IsTerm g.vertices a b c → IsBelow g.vertices (of_doing r z a b c)
    doing_below r a b c t =
        record { doing = less_below b z t.doing_below; y = t.of_below; z = λ v. below_has g.vertices z v below; given = t.given_below }

    term_below : (q : ℕ → ℕ → ℕ → Asked) → ((a b c : ℕ) → IsTerm g.vertices a b c → IsBelow g.vertices (q a b c)) → (e : Tree)
        → AreTerms g.vertices e → IfSome (on_sets q e) (IsBelow g.vertices)
    term_below q h (prob a b c) t = h a b c t.0
    term_below q h (sum u e) t = tt
    term_below q h (product ts) t = tt
    term_below q h (quotient p r) t = tt
    term_below q h (named k) t = tt

    set_question_below : (kind : SetMove) (e : Tree) → AreTerms g.vertices e → IfSome (set_question kind z e) (IsBelow g.vertices)
    set_question_below set_move.Rule1In e t = term_below (beside One z) (beside_below One) e t
    set_question_below set_move.Rule1Out e t = term_below (of_given One z) (given_below One) e t
    set_question_below set_move.Rule2See e t = term_below (of_doing Two z) (doing_below Two) e t
    set_question_below set_move.Rule2Do e t = term_below (of_given Two z) (given_below Two) e t
    set_question_below set_move.Rule3In e t = term_below (beside Three z) (beside_below Three) e t
    set_question_below set_move.Rule3Out e t = term_below (of_doing Three z) (doing_below Three) e t
    set_question_below set_move.Widen e t = tt

  move_below : (lemmas : List ℕ) (m : Move) (e x : Tree) → AreTerms g.vertices e → IsMade g (row g.vertices lemmas m e) x
      → IfSome (move_question m e) (IsBelow g.vertices)
  move_below lemmas (Move.WithSet kind z) e x t made = set_question_below z (set_below g lemmas kind z e x t made) kind e t
  move_below lemmas (Move.Bare kind) e x t made = tt
  move_below lemmas (Move.Chain o) e x t made = tt
  move_below lemmas (Move.Group l) e x t made = tt
  move_below lemmas (Move.Cite k) e x t made = tt

  child_below : (p : Plan) (e : Tree) (i : ℕ) (o : Option Tree) (Q : Tree → Type 0) → child e i ≡ o → AreTerms g.vertices e
      → ((c : Tree) → AreTerms g.vertices c → Q c → IfSome (question_of p c) (IsBelow g.vertices)) → MatchOption o ⊥ Q
      → IfSome (option_and_then (question_of p) o) (IsBelow g.vertices)
  child_below p e i None Q is t h made = tt
  child_below p e i (Some c) Q is t h made = h c (child_terms g.vertices e i c is t) made

  pub question_below : (lemmas : List ℕ) (p : Plan) (e x : Tree) → AreTerms g.vertices e → Makes g lemmas p e x → IfSome (question_of p e) (IsBelow g.vertices)
  question_below lemmas (Plan.Make m) e x t made = move_below lemmas m e x t made
  question_below lemmas (Plan.At i p) e x t made =
      child_below p e i (child e i) _ refl t (λ c s m. question_below lemmas p c m.0 s m.1) made
  question_below lemmas (Plan.Then ps) e x t made = tt
