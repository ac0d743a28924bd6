-- The certificate of a formula that nests little is read back.
use Rattle.std.proofs.Common.{arith}
use Rattle.prob_expr.specs.Vocabulary.{PlainFormula}
use Rattle.do_derivation.specs.Vocabulary.{PlainDerivation}
use Rattle.short_formulas.specs.Vocabulary.{IsReadable}
use Rattle.certificate_json.specs.Vocabulary.{IsFormulaShallow}
use Rattle.effect_answers.proofs.Shallow.{tree_nests, defs_nest, step_nests, lemmas_shallow}

-- what is readable is read back
pub readable_shallow : (f : PlainFormula) (d : PlainDerivation) → IsReadable f d → IsFormulaShallow f d
readable_shallow f d r = record {
  numbered = (let few = r.few in omega (arith, few));
  main_text = (let n = tree_nests 60 f.main r.main in omega (arith, n));
  defs_texts = defs_nest 60 f.defs r.defs;
  lemmas = lemmas_shallow 60 d.lemmas (omega arith) r.lemma_steps;
  main = step_nests 60 d.main r.main_steps;
}
