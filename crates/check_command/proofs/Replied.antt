-- The reply tells the answer, or what is wrong with the certificate.
use Rattle.std.proofs.Common.{◌≡◌, ◌<◌, ℕ, false, List, Result, Ok, Err, IfOk, IfErr, length, subst}
use Rattle.std.specs.Prelude.{OnOk}
use Rattle.mixed_graph.specs.Vocabulary.{MixedGraph}
use Rattle.replies.specs.declared.format.Format.{Format}
use Rattle.replies.specs.declared.outcome.Reply.{Reply}
use Rattle.replies.specs.Vocabulary.{told_of}
use Rattle.told.specs.declared.form.Form.{Form}
use Rattle.told.specs.Telling.{Telling}
use Rattle.told.specs.Vocabulary.{Refusal, Tells, plain_form, outcome_in, told_in, is_wanting}

module _ {A F E : Type 0} (t : Telling A) (f : Refusal F) where
  -- an answer is right, and so is a fault that isn't want of memory
  pub replied : (right : Result A F → Type 0) (format : Format) (form : Form) → form ≡ plain_form format → (names : List (List ℕ)) (answer : Result A F)
      → IfOk answer (λ (a : A). right (Ok a)) → IfErr answer (λ (e : F). f.is_memory e ≡ false → right (Err e))
      → (r : Result Reply E) → IfOk r (λ (p : Reply). p.outcome ≡ outcome_in t f answer)
      → IfOk r (λ (p : Reply). told_of p ≡ told_in t f form names answer)
      → OnOk r (is_wanting f answer ≡ false)
      → IfOk r (λ (p : Reply). Tells t f right (plain_form format) names p.outcome (told_of p))
  replied right format form same names answer is fault r ends prints memory =
      subst (λ (w : Form). IfOk r (λ (p : Reply). Tells t f right w names p.outcome (told_of p))) same (go answer is fault r ends prints memory)
    where
      go : (answer : Result A F) → IfOk answer (λ (a : A). right (Ok a)) → IfErr answer (λ (e : F). f.is_memory e ≡ false → right (Err e))
          → (r : Result Reply E) → IfOk r (λ (p : Reply). p.outcome ≡ outcome_in t f answer)
          → IfOk r (λ (p : Reply). told_of p ≡ told_in t f form names answer)
          → OnOk r (is_wanting f answer ≡ false)
          → IfOk r (λ (p : Reply). Tells t f right form names p.outcome (told_of p))
      go answer is fault (Err e) ends prints memory = tt
      go (Ok a) is fault (Ok p) ends prints memory = record { answer = Ok a; right = is; ends = ends; prints = prints }
      go (Err e) is fault (Ok p) ends prints memory = record { answer = Err e; right = fault memory; ends = ends; prints = prints }

  -- a fault is right of all bytes that are more than 67,108,864
  pub long_told : (right : MixedGraph → List (List ℕ) → (zs bytes : List ℕ) → Result A F → Type 0) (fault : F)
      → ((q : MixedGraph) (names : List (List ℕ)) (zs bytes : List ℕ) → 67108864 < length bytes → right q names zs bytes (Err fault))
      → (r : Result Reply E) → IfOk r (λ (p : Reply). p.outcome ≡ f.outcome fault) → IfOk r (λ (p : Reply). told_of p ≡ f.told fault)
      → IfOk r (λ (p : Reply). (form : Form) (q : MixedGraph) (names : List (List ℕ)) (zs bytes : List ℕ) → 67108864 < length bytes
      → Tells t f (right q names zs bytes) form names p.outcome (told_of p))
  long_told right fault is (Err e) ends prints = tt
  long_told right fault is (Ok p) ends prints = λ form q names zs bytes long. record {
    answer = Err fault;
    right = is q names zs bytes long;
    ends = ends;
    prints = prints;
  }
