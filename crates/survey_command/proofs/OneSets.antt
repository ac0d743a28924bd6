-- Sets of one vertex.
use Rattle.std.proofs.Common.{ℕ, ◌≡◌, ◌<◌, IsTrue, refl, sym, ◌∙◌, arith}
use Rattle.std.proofs.lemmas.Bool.{ne_eqb, eq-eqb, eqb-true}
use Rattle.mixed_graph.specs.Vocabulary.{has, Within, Apart, one}
use Rattle.mixed_graph.proofs.Masks.{has-pow, positive_from_has}

member : (a v : ℕ) → IsTrue (has (one a) v) → v ≡ a
member a v i = eqb-true v a (sym (has-pow a v) ∙ i)

pub within_one : (n a : ℕ) → a < n → Within n (has (one a))
within_one n a lt = λ v i. let e = member a v i in omega (arith, e, lt)

pub apart_one : (a b : ℕ) → (a ≡ b → ⊥) → Apart (has (one a)) (has (one b))
apart_one a b ne = λ v i. let e = member a v i in has-pow b v ∙ ne_eqb v b (λ q. ne (sym e ∙ q))

pub some_one : (a : ℕ) → 0 < one a
some_one a = positive_from_has (one a) a (has-pow a a ∙ eq-eqb a a refl)
