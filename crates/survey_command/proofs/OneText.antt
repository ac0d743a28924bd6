-- A seed has one survey, so one thing is told of it.
use Rattle.std.proofs.Common.{◌≡◌, ◌+◌, ◌<◌, ◌==◌, ◌&&◌, ℕ, zero, suc, Bool, true, false, not, List, [], Result, Ok, Err, refl, sym, ap, ap₂, ◌∙◌, arith}
use Rattle.std.proofs.lemmas.Bool.{eq-eqb}
use Rattle.mixed_graph.specs.Vocabulary.{MixedGraph}
use Rattle.targets.specs.declared.fault.TargetFault.{TargetFault}
use Rattle.replies.specs.declared.outcome.Outcome.{Outcome}
use Rattle.replies.specs.Told.{Told}
use Rattle.told.specs.Vocabulary.{plain_form, target_refusal, told_in}
use Rattle.survey_command.specs.Command.{survey_command}
use Rattle.survey_command.specs.Counts.{pairs_from}
use Rattle.survey_command.specs.Requests.{Request}
use Rattle.survey_command.specs.Right.{AreTwo, IsSurvey, IsSurveyAnswer, count_of_pairs}
use Rattle.survey_command.specs.Telling.{survey_telling}
use Rattle.survey_command.specs.declared.answer.Survey.{Survey}
use Rattle.survey_command.proofs.Tallying.{length-members-same}

-- rows that are the same below n have as many pairs there
pairs_alike : (n : ℕ) (r q : ℕ → ℕ → Bool) (k : ℕ) → ((a b : ℕ) → a < k → b < n → r a b ≡ q a b) → pairs_from n r k ≡ pairs_from n q k
pairs_alike n r q zero same = refl
pairs_alike n r q (suc k) same = ap₂ (λ (i j : ℕ). i + j) (pairs_alike n r q k (λ a b lt below. same a b (omega (arith, lt)) below))
    (length-members-same (r k) (q k) n (λ b below. same k b (omega arith) below))

unlike : (a b : ℕ) → not (a == b) ≡ true → a ≡ b → ⊥
unlike a b e same = let f = eq-eqb a b same in grind (arith, e, f)

and_same : (c x y : Bool) → (c ≡ true → x ≡ y) → (c && x) ≡ (c && y)
and_same true x y h = h refl
and_same false x y h = refl

-- tests that are the same for each two vertices pass as many pairs
counts_alike : (g : MixedGraph) (s t : ℕ → ℕ → Bool) → ((a b : ℕ) → AreTwo g a b → s a b ≡ t a b) → count_of_pairs g.vertices s ≡ count_of_pairs g.vertices t
counts_alike g s t same = pairs_alike g.vertices (λ a b. not (a == b) && s a b) (λ a b. not (a == b) && t a b) g.vertices
    (λ a b lt below. and_same (not (a == b)) (s a b) (t a b) (λ e. same a b (record { first = lt; second = below; differ = unlike a b e })))

module _ (seed : ℕ) (g : MixedGraph) (x y : Survey) (s : IsSurvey seed g x) (t : IsSurvey seed g y) where
  -- two tests tell the same effects to have a hedge
  hedged_alike : (a b : ℕ) → AreTwo g a b → t.is_hedged a b ≡ s.is_hedged a b
  hedged_alike a b two = go (s.is_hedged a b) (t.is_hedged a b) refl refl
    where
      go : (p q : Bool) → s.is_hedged a b ≡ p → t.is_hedged a b ≡ q → t.is_hedged a b ≡ s.is_hedged a b
      go true true e f = f ∙ sym e
      go true false e f = absurd (t.unhedged a b two f (s.hedged a b two e))
      go false true e f = absurd (s.unhedged a b two e (t.hedged a b two f))
      go false false e f = f ∙ sym e

  -- so a graph has one survey
  one_survey : y ≡ x
  one_survey = λ i. record {
    seed = (t.seed_is ∙ sym s.seed_is) i;
    vertices = (t.vertices ∙ sym s.vertices) i;
    directed = (t.directed ∙ sym s.directed) i;
    bidirected = (t.bidirected ∙ sym s.bidirected) i;
    tally = record {
      formulas = (t.formulas ∙ counts_alike g (λ a b. not (t.is_hedged a b)) (λ a b. not (s.is_hedged a b)) (λ a b two. ap not (hedged_alike a b two))
          ∙ sym s.formulas) i;
      hedges = (t.hedges ∙ counts_alike g t.is_hedged s.is_hedged hedged_alike ∙ sym s.hedges) i;
    };
  }

same_answer : (seed : ℕ) (a b : Result Survey TargetFault) → IsSurveyAnswer seed a → IsSurveyAnswer seed b → b ≡ a
same_answer seed (Ok a) (Ok b) s t = ap Ok (one_survey seed _ a b s t)
same_answer seed (Err fault) b s t = absurd s
same_answer seed (Ok a) (Err fault) s t = absurd t

-- the graph that a seed draws has one text
pub one_survey_text : (q : Request) (o : Outcome) (told other : Told) → survey_command.by_words q o told → survey_command.by_words q o other → other ≡ told
one_survey_text q o told other s t =
    t.prints ∙ ap (told_in survey_telling target_refusal (plain_form q.format) []) (same_answer q.seed s.answer t.answer s.right t.right) ∙ sym s.prints
