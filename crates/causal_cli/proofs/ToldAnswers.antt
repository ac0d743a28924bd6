-- From what a command answers to a call to the right answer that was told.
use Rattle.std.proofs.Common.{◌≡◌, ℕ, ◌<◌, ◌≤◌, List, Result, Ok, Err, ap, ◌∙◌, arith}
use Rattle.replies.specs.declared.outcome.Outcome.{Outcome}
use Rattle.replies.specs.Vocabulary.{code_of, HoldsDiagram}
use Rattle.replies.specs.Told.{Told}
use Rattle.diagram.specs.declared.diagram.Diagram.{Diagram}
use Rattle.told.specs.declared.form.Form.{Form}
use Rattle.told.specs.Vocabulary.{Refusal, Tells, outcome_in, told_in}
use Rattle.told.specs.Telling.{Telling}
use Rattle.causal_cli.specs.Answered.{IsAnswered, IsAnsweredOnBoth}

-- a status of 0 or 1 is none of a refusal
module _ {A F : Type 0} (t : Telling A) (f : Refusal F) (refused : (e : F) → 1 < code_of (f.outcome e)) (form : Form) (bytes : List ℕ) (code : ℕ)
    (o : Outcome) (told : Told) (status : code ≡ code_of o) (small : code ≤ 1) where
  -- what is told of a right answer on a diagram that the bytes hold
  pub answered : (is_right : Diagram → Result A F → Type 0) (is_so : Diagram → A → Type 0)
      → ((d : Diagram) (a : A) → is_right d (Ok a) → is_so d a)
      → (d : Diagram) → HoldsDiagram bytes d → Tells t f (is_right d) form d.observed.names o told → IsAnswered t is_right is_so form bytes code told
  answered is_right is_so so d holds h = go h.answer h.right h.ends h.prints
    where
      go : (r : Result A F) → is_right d r → o ≡ outcome_in t f r → told ≡ told_in t f form d.observed.names r
          → IsAnswered t is_right is_so form bytes code told
      go (Ok a) right ends prints = record {
        diagram = d;
        holds = holds;
        answer = a;
        right = right;
        as_drawn = so d a right;
        status = status ∙ ap code_of ends;
        prints = prints;
      }
      go (Err e) right ends prints = let c = status ∙ ap code_of ends in absurd (omega (arith, small, c, refused e))

  -- and on two inputs
  pub answered_on_both : {K : Type 0} (other : List ℕ) (keeps : Diagram → K → Type 0) (is_right : Diagram → K → List ℕ → Result A F → Type 0)
      (is_so : Diagram → K → A → Type 0) → ((d : Diagram) (k : K) (a : A) → keeps d k → is_right d k other (Ok a) → is_so d k a)
      → (d : Diagram) → HoldsDiagram bytes d → (k : K) → keeps d k → Tells t f (is_right d k other) form d.observed.names o told
      → IsAnsweredOnBoth t keeps is_right is_so form bytes other code told
  answered_on_both {K} other keeps is_right is_so so d holds k kept h = go h.answer h.right h.ends h.prints
    where
      go : (r : Result A F) → is_right d k other r → o ≡ outcome_in t f r → told ≡ told_in t f form d.observed.names r
          → IsAnsweredOnBoth t keeps is_right is_so form bytes other code told
      go (Ok a) right ends prints = record {
        diagram = d;
        holds = holds;
        kept = k;
        keeps_it = kept;
        answer = a;
        right = right;
        as_drawn = so d k a kept right;
        status = status ∙ ap code_of ends;
        prints = prints;
      }
      go (Err e) right ends prints = let c = status ∙ ap code_of ends in absurd (omega (arith, small, c, refused e))
