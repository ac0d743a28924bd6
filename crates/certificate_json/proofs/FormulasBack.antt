-- What is written for a formula and its derivation is read again.
use Rattle.std.proofs.Common.{◌≡◌, ◌≤◌, ◌<◌, ◌+◌, ◌^◌, ℕ, Bool, true, false, cond, not, ltb, ◌&&◌, List, [], ◌∷◌, ◌++◌, length, Option, Some, None}
use Rattle.std.proofs.Common.{Result, Ok, Err, is_ok, refl, sym, ap, ◌∙◌, append_assoc, append-nil, length-append, arith, ltb-true, lt-ltb}
use Rattle.std.specs.Result.{result_ok}
use Rattle.mixed_graph.specs.Vocabulary.{AreNames, is_empty, is_below, is_apart}
use Rattle.prob_expr.specs.Tree.{Tree, prob, sum, product, quotient, named, tree}
use Rattle.prob_expr.specs.declared.checking.ExprFault.{ExprFault}
use Rattle.prob_expr.specs.declared.checking.ExprFault.TheVariants.{Forward}
use Rattle.prob_expr.specs.Vocabulary.{Trees, no_trees, PlainFormula, ◌>>=◌, next_node, are_two, check_tree, check_trees, fault_of, fault_in_defs, fault_in, cap}
use Rattle.do_derivation.specs.Vocabulary.{PlainLemma, are_sets, sets_of}
use Rattle.expr_text.specs.Vocabulary.{text_of, nesting, nesting_all}
use Rattle.expr_text.proofs.Checked.{neither, sound_from, numbered_from}
use Rattle.expr_text.proofs.TextsBack.{reads_back}
use Rattle.expr_text.proofs.Within.{and_true}
use Rattle.serde_json.specs.Data.{string, item, no_items}
use Rattle.step_json.specs.Reading as value
use Rattle.step_json.specs.declared.fault.ValueFault.TheVariants.{Form}
use Rattle.step_json.specs.Vocabulary.{or_form, list_by, each, set_in, filled, filled_set_in, step_in}
use Rattle.certificate_json.proofs.Values.{set_value, step_value}
use Rattle.certificate_json.specs.StepSizes as step
use Rattle.certificate_json.proofs.SetsBack.{set_reads_back}
use Rattle.certificate_json.proofs.StepsBack.{step_reads_back}
use Rattle.certificate.specs.Vocabulary.{expr_in, sound, main_in, def_in, more_defs, lemma_of, lemma_in}
use Rattle.certificate_json.specs.Writable.{are_steps_within, AreStepsShallow}
use Rattle.certificate_json.specs.Kept.{are_steps_short}
use Rattle.certificate_json.proofs.Values.{expr_items, lemma_value, lemma_items}

abbrev Checked : Type 0
Checked = Result ℕ ExprFault

-- ---- a formula may be checked with a higher limit

past_guards : (b c : Bool) (e f : ExprFault) (r s : Checked) (j : ℕ) → (r ≡ Ok j → s ≡ Ok j) → cond (not b) (Err e) (cond c (Err f) r) ≡ Ok j
    → cond (not b) (Err e) (cond c (Err f) s) ≡ Ok j
past_guards false c e f r s j next h = absurd cc
past_guards true true e f r s j next h = absurd cc
past_guards true false e f r s j next h = next h

past_guard : (b : Bool) (e : ExprFault) (r s : Checked) (j : ℕ) → (r ≡ Ok j → s ≡ Ok j) → cond b r (Err e) ≡ Ok j → cond b s (Err e) ≡ Ok j
past_guard true e r s j next h = next h
past_guard false e r s j next h = absurd cc

past_first : (r s : Checked) (f g : ℕ → Checked) (j : ℕ) → ((i : ℕ) → r ≡ Ok i → s ≡ Ok i) → ((i : ℕ) → f i ≡ Ok j → g i ≡ Ok j) → (r >>= f) ≡ Ok j
    → (s >>= g) ≡ Ok j
past_first (Ok i) s f g j first next h = ap (λ r. r >>= g) (first i refl) ∙ next i h
past_first (Err e) s f g j first next h = absurd cc

named_higher : (k l m : ℕ) (r : Checked) (e f : ExprFault) (j : ℕ) → l ≤ m → cond (ltb k l) r (Err e) ≡ Ok j → cond (ltb k m) r (Err f) ≡ Ok j
named_higher k l m r e f j le h = go (ltb k l) refl h
  where
    go : (b : Bool) → ltb k l ≡ b → cond b r (Err e) ≡ Ok j → cond (ltb k m) r (Err f) ≡ Ok j
    go true is h = let lt : k < l = ltb-true k l is in ap (λ b. cond b r (Err f)) (lt-ltb k m (omega (arith, lt, le))) ∙ h
    go false is h = absurd cc

mutual
  higher : (n : ℕ) (def : Option ℕ) (l m : ℕ) (t : Tree) (node j : ℕ) → l ≤ m → check_tree n def l t node ≡ Ok j → check_tree n def m t node ≡ Ok j
  higher n def l m (prob a b c) node j le h = h
  higher n def l m (sum u e) node j le h =
      past_guards (is_below n u) (is_empty u) _ _ (check_tree n def l e (next_node node)) (check_tree n def m e (next_node node)) j
      (λ k. higher n def l m e (next_node node) j le k) h
  higher n def l m (product ts) node j le h =
      past_guard (are_two ts) _ (check_trees n def l ts (next_node node)) (check_trees n def m ts (next_node node)) j
      (λ k. higher_each n def l m ts (next_node node) j le k) h
  higher n def l m (quotient p q) node j le h =
      past_first (check_tree n def l p (next_node node)) (check_tree n def m p (next_node node)) (check_tree n def l q) (check_tree n def m q) j
      (λ i k. higher n def l m p (next_node node) i le k) (λ i k. higher n def l m q i j le k) h
  higher n def l m (named k) node j le h = named_higher k l m (Ok (next_node node)) (Forward (cap l)) (Forward (cap m)) j le h

  higher_each : (n : ℕ) (def : Option ℕ) (l m : ℕ) (ts : Trees) (node j : ℕ) → l ≤ m → check_trees n def l ts node ≡ Ok j → check_trees n def m ts node ≡ Ok j
  higher_each n def l m no_trees node j le h = h
  higher_each n def l m (tree t ts) node j le h =
      past_first (check_tree n def l t node) (check_tree n def m t node) (check_trees n def l ts) (check_trees n def m ts) j
      (λ i k. higher n def l m t node i le k) (λ i k. higher_each n def l m ts i j le k) h

no_fault : (r : Checked) → fault_of r ≡ None → (j : ℕ) × (r ≡ Ok j)
no_fault (Ok j) h = (j, refl)
no_fault (Err e) h = absurd cc

-- ---- expressions

expr_back : (names : List (List ℕ)) (def : Option ℕ) (limit : ℕ) (t : Tree) → AreNames names → fault_of (check_tree (length names) def limit t 0) ≡ None
    → limit ≤ 2 ^ 32 → nesting t ≤ 60
    → expr_in names (string (text_of names t)) ≡ Ok t
unfolding expr_in
expr_back names def limit t are ok room nests =
    ap (λ r. or_form (result_ok r)) (reads_back names t are (sound_from (length names) def limit t ok) (numbered_from (length names) def limit t room ok) nests)

-- an expression that is checked up to one limit is read up to a higher one
read_up_to : (names : List (List ℕ)) (def : Option ℕ) (low limit : ℕ) (t : Tree) → AreNames names → fault_of (check_tree (length names) def low t 0) ≡ None
    → low ≤ limit → low ≤ 2 ^ 32 → nesting t ≤ 60
    → value.◌>>=◌ (expr_in names (string (text_of names t))) (sound names def limit) ≡ Ok t
read_up_to names def low limit t are ok le room nests =
    let found = no_fault (check_tree (length names) def low t 0) ok in
    ap (λ r. value.◌>>=◌ r (sound names def limit)) (expr_back names def low t are ok room nests)
    ∙ ap (λ r. cond (is_ok r) (Ok t) (Err Form)) (higher (length names) def low limit t 0 found.0 le found.1)

pub main_back : (names : List (List ℕ)) (f : PlainFormula) → AreNames names → fault_in (length names) f ≡ None → length f.defs ≤ 2 ^ 32 → nesting f.main ≤ 60
    → main_in names (string (text_of names f.main)) ≡ Ok f.main
main_back names f are ok room nests =
    let parts = neither (fault_in_defs (length names) 0 f.defs) (fault_of (check_tree (length names) None (length f.defs) f.main 0)) ok in
    read_up_to names None (length f.defs) (2 ^ 32) f.main are parts.1 room room nests

pub whole_back : (n : ℕ) (f : PlainFormula) → fault_in n f ≡ None → is_ok (check_tree n None (length f.defs) f.main 0) ≡ true
whole_back n f ok =
    let parts = neither (fault_in_defs n 0 f.defs) (fault_of (check_tree n None (length f.defs) f.main 0)) ok in
    let found = no_fault (check_tree n None (length f.defs) f.main 0) parts.1 in
    ap is_ok found.1

pub defs_back : (names : List (List ℕ)) (ds before : List Tree) (k : ℕ) → AreNames names → length before ≡ k → fault_in_defs (length names) k ds ≡ None → k
    + length ds ≤ 2 ^ 32 → nesting_all ds ≤ 60
    → more_defs names before (expr_items names ds) ≡ Ok (before ++ ds)
defs_back names [] before k are at ok room nests = ap (λ l. Ok l) (sym (append-nil before))
defs_back names (d ∷ ds) before k are at ok room nests =
    let n = length names in
    let parts = neither (fault_of (check_tree n (Some (cap k)) k d 0)) (fault_in_defs n (k + 1) ds) ok in
    ap (λ i. value.◌>>=◌ (def_in names i (string (text_of names d))) (λ t. more_defs names (before ++ t ∷ []) (expr_items names ds))) at
    ∙ ap (λ r. value.◌>>=◌ r (λ t. more_defs names (before ++ t ∷ []) (expr_items names ds)))
    (read_up_to names (Some (cap k)) k k d are parts.0 (omega arith) (omega (arith, room)) (omega (arith, nests)))
    ∙ defs_back names ds (before ++ d ∷ []) (k + 1) are (omega (arith, at, length-append before (d ∷ []))) parts.1 (omega (arith, room)) (omega (arith, nests))
    ∙ ap (λ l. Ok l) (append_assoc before (d ∷ []) ds)

-- ---- lemmas

filled_by : (set : ℕ) → not (is_empty set) ≡ true → filled set ≡ Ok set
filled_by set h = go (is_empty set) h
  where
    go : (b : Bool) → not b ≡ true → cond b (Err Form) (Ok set) ≡ Ok set
    go true e = absurd cc
    go false e = refl

pub filled_back : (names : List (List ℕ)) (barred set : ℕ) → AreNames names → is_below (length names) set ≡ true → is_apart barred set ≡ true
    → not (is_empty set) ≡ true
    → filled_set_in names barred (set_value names set) ≡ Ok set
filled_back names barred set are within apart some =
    ap (λ r. value.◌>>=◌ r filled) (set_reads_back names barred set are within apart) ∙ filled_by set some

lemma_back : (names : List (List ℕ)) (l : PlainLemma) → AreNames names → is_below (length names) l.set ≡ true → not (is_empty l.set) ≡ true
    → step.is_within (length names) l.plan ≡ true → step.is_short l.plan ≡ true → step.nesting l.plan ≤ 60 → is_apart 0 l.set ≡ true
    → lemma_in names (lemma_value names l) ≡ Ok l
unfolding lemma_in
lemma_back names l are below some within short nests apart =
    ap (λ r. value.◌>>=◌ r (λ set. lemma_of names set (item (step_value names l.plan) no_items))) (filled_back names 0 l.set are below apart some)
    ∙ ap (λ r. value.◌>>=◌ r (λ p. Ok (record { set = l.set; plan = p }))) (step_reads_back names l.plan are within short nests)

pub lemmas_back : (names : List (List ℕ)) (ls before : List PlainLemma) → AreNames names → are_sets (length names) (sets_of ls) ≡ true
    → are_steps_within (length names) ls ≡ true → are_steps_short ls ≡ true → AreStepsShallow ls → ((set : ℕ) → is_apart 0 set ≡ true)
    → each (lemma_in names) before (lemma_items names ls) ≡ Ok (before ++ ls)
lemmas_back names [] before are sets within short nests apart = ap (λ l. Ok l) (sym (append-nil before))
lemmas_back names (l ∷ ls) before are sets within short nests apart =
    let n = length names in
    let s = and_true (is_below n l.set && not (is_empty l.set)) (are_sets n (sets_of ls)) sets in
    let own = and_true (is_below n l.set) (not (is_empty l.set)) s.0 in
    let w = and_true (step.is_within n l.plan) (are_steps_within n ls) within in
    let k = and_true (step.is_short l.plan) (are_steps_short ls) short in
    ap (λ r. value.◌>>=◌ r (λ x. each (lemma_in names) (before ++ x ∷ []) (lemma_items names ls)))
    (lemma_back names l are own.0 own.1 w.0 k.0 nests.0 (apart l.set))
    ∙ lemmas_back names ls (before ++ l ∷ []) are s.1 w.1 k.1 nests.1 apart
    ∙ ap (λ l. Ok l) (append_assoc before (l ∷ []) ls)
