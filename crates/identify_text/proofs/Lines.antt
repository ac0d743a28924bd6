-- Texts that are written one after another.
use Rattle.std.proofs.Common.{ℕ, zero, suc, ◌≤◌, nat_lt, lt-ltb, arith, ◌+◌, ◌≡◌, Bool, true, false, cond, List, [], ◌∷◌, ◌++◌, drop, length, get_or}
use Rattle.std.proofs.Common.{codes, ◌<◌, refl, sym, ap, ap₂, ◌∙◌, add-one, append-nil, drop-cons}
use Rattle.std.specs.List.{flat_map}
use Rattle.std.proofs.lemmas.List.{append_assoc}
use Rattle.std.proofs.lemmas.List.Concat.{flat_map-append}
use Rattle.std.proofs.lemmas.List.Folds.{flat_map-map}
use Rattle.mixed_graph.specs.Vocabulary.{has, members_below}
use Rattle.finite_models.specs.declared.model.Cause.{Cause}
use Rattle.finite_models.specs.declared.model.Mechanism.{Mechanism}
use Rattle.identify_text.specs.declared.bits.Bit.{Bit}
use Rattle.identify_text.specs.ModelLines.{added, bit_text, bits_of, sum_text, cause_line, cause_lines, mechanism_lines, vertex_lines}

one_text : (f : ℕ → List ℕ) (b : Bool) (k : ℕ) → flat_map f (cond b (k ∷ []) []) ≡ cond b (f k) []
one_text f true k = append-nil (f k)
one_text f false k = refl

-- the texts of the members below k + 1: those below k, and that of k if it is one
pub texts_more : (f : ℕ → List ℕ) (s : ℕ → Bool) (k : ℕ) → flat_map f (members_below s (k + 1)) ≡ flat_map f (members_below s k) ++ cond (s k) (f k) []
unfolding members_below
texts_more f s k =
    ap (λ n. flat_map f (members_below s n)) (add-one k)
    ∙ flat_map-append f (members_below s k) (cond (s k) (k ∷ []) [])
    ∙ ap (λ t. flat_map f (members_below s k) ++ t) (one_text f (s k) k)

-- what is written so far, and one text more
pub written_more : (f : ℕ → List ℕ) (s : ℕ → Bool) (k : ℕ) (old out new : List ℕ) → out ≡ old ++ flat_map f (members_below s k) → new ≡ out
    ++ cond (s k) (f k) []
    → new ≡ old ++ flat_map f (members_below s (k + 1))
written_more f s k old out new before now =
    now ∙ ap (λ t. t ++ cond (s k) (f k) []) before ∙ append_assoc old (flat_map f (members_below s k)) (cond (s k) (f k) [])
    ∙ ap (λ t. old ++ t) (sym (texts_more f s k))

-- no member is below 0
pub texts_none : (f : ℕ → List ℕ) (s : ℕ → Bool) (old : List ℕ) → old ≡ old ++ flat_map f (members_below s 0)
unfolding members_below
texts_none f s old = sym (append-nil old)

-- bits behind ` + `, member by member
pub added_bits : (names : List (List ℕ)) (bit : Bit) (set : ℕ) → flat_map (λ v. codes " + " ++ bit_text names bit v) (members_below (has set) 64)
    ≡ added (bits_of names bit set)
added_bits names bit set = sym (flat_map-map (λ t. codes " + " ++ t) (bit_text names bit) (members_below (has set) 64))

-- terms without the ` + ` before the first
pub without_first : (terms : List (List ℕ)) → drop 3 (added terms) ≡ sum_text terms
without_first [] = refl
without_first (t ∷ ts) = refl

-- terms that are added one list after another
pub added_four : (a b c d : List (List ℕ)) → ((added a ++ added b) ++ added c) ++ added d ≡ added (a ++ (b ++ (c ++ d)))
added_four a b c d =
    append_assoc (added a ++ added b) (added c) (added d) ∙ append_assoc (added a) (added b) (added c ++ added d)
    ∙ sym (flat_map-append plus a (b ++ (c ++ d)) ∙ ap (λ t. added a ++ t)
    (flat_map-append plus b (c ++ d) ∙ ap (λ t. added b ++ t) (flat_map-append plus c d)))
  where
    plus : List ℕ → List ℕ
    plus t = codes " + " ++ t

-- five texts one after another, the first of which is a number between two texts
pub five_written : (a d b e f g h : List ℕ) (old one two three four out : List ℕ) → one ≡ old ++ (a ++ (d ++ b)) → two ≡ one ++ e → three ≡ two ++ f → four
    ≡ three ++ g → out ≡ four ++ h
    → out ≡ old ++ (a ++ (d ++ (b ++ (e ++ (f ++ (g ++ h))))))
five_written a d b e f g h old one two three four out p q r s t = t ∙ ap (λ x. x ++ h) (s ∙ ap (λ x. x ++ g) (r ∙ ap (λ x. x ++ f) (q ∙ ap (λ x. x ++ e) p)))
    ∙ simp append_assoc

-- the lines of the causes from place i on: that of cause i, and those behind it
pub causes_step : (names : List (List ℕ)) (j i : ℕ) (cs : List Cause) (c : Cause) → i < length cs → c ≡ get_or cs i c →
    cause_lines names j (drop i cs) ≡ cause_line names j c ++ cause_lines names (j + 1) (drop (i + 1) cs)
causes_step names j i cs c lt is =
    ap (cause_lines names j) (drop-cons cs i c lt ∙ ap (λ d. d ∷ drop (suc i) cs) (sym is) ∙ ap (λ k. c ∷ drop k cs) (sym (add-one i)))

-- the lines of the vertices from v on
pub vertices_step : (names : List (List ℕ)) (model : List ℕ) (v : ℕ) (ms : List Mechanism) (m : Mechanism) → v < length ms → m ≡ get_or ms v m →
    vertex_lines names model v (drop v ms) ≡ mechanism_lines names model v m ++ vertex_lines names model (v + 1) (drop (v + 1) ms)
vertices_step names model v ms m lt is =
    ap (vertex_lines names model v) (drop-cons ms v m lt ∙ ap (λ d. d ∷ drop (suc v) ms) (sym is) ∙ ap (λ k. m ∷ drop k ms) (sym (add-one v)))

-- what is written, and what is still to come
pub step_written : (line rest behind old out new whole : List ℕ) → rest ≡ line ++ behind → out ++ rest ≡ old ++ whole → new ≡ out ++ line → new ++ behind
    ≡ old ++ whole
step_written line rest behind old out new whole first told now = ap (λ t. t ++ behind) now ∙ append_assoc out line behind ∙ ap (λ t. out ++ t) (sym first)
    ∙ told

-- no number from 1 on is below 1, and none is below 0
pub later_none : (f : ℕ → List ℕ) (k : ℕ) → k ≤ 1 → flat_map f (members_below (nat_lt 0) k) ≡ []
unfolding members_below
later_none f zero h = refl
later_none f (suc zero) h = refl
later_none f (suc (suc k)) h = absurd (omega arith)

-- the text of a number from 1 on
pub later_more : (f : ℕ → List ℕ) (k : ℕ) (old out new : List ℕ) → 0 < k → out ≡ old ++ flat_map f (members_below (nat_lt 0) k) → new ≡ out ++ f k
    → new ≡ old ++ flat_map f (members_below (nat_lt 0) (k + 1))
later_more f k old out new later before now = written_more f (nat_lt 0) k old out new before (now ∙ ap (λ b. out ++ cond b (f k) []) (sym (lt-ltb 0 k later)))

-- three texts between four others, one after another
pub seven_written : (a x b y d z e : List ℕ) (old one two three four five six out : List ℕ) → one ≡ old ++ a → two ≡ one ++ x → three ≡ two ++ b → four
    ≡ three ++ y → five ≡ four ++ d → six ≡ five ++ z → out ≡ six ++ e
    → out ≡ old ++ (a ++ (x ++ (b ++ (y ++ (d ++ (z ++ e))))))
seven_written a x b y d z e old one two three four five six out p q r s t u v =
    v ∙ ap (λ w. w ++ e) (u ∙ ap (λ w. w ++ z) (t ∙ ap (λ w. w ++ d) (s ∙ ap (λ w. w ++ y) (r ∙ ap (λ w. w ++ b) (q ∙ ap (λ w. w ++ x) p)))))
    ∙ simp append_assoc

-- five texts one after another
pub five_appended : (a b d e f : List ℕ) (old one two three four out : List ℕ) → one ≡ old ++ a → two ≡ one ++ b → three ≡ two ++ d → four ≡ three ++ e → out
    ≡ four ++ f
    → out ≡ old ++ (a ++ (b ++ (d ++ (e ++ f))))
five_appended a b d e f old one two three four out p q r s t = t ∙ ap (λ x. x ++ f) (s ∙ ap (λ x. x ++ e) (r ∙ ap (λ x. x ++ d) (q ∙ ap (λ x. x ++ b) p)))
    ∙ simp append_assoc

-- six texts behind another
pub six_behind : (a b d e f g h : List ℕ) (start one two three four five out : List ℕ) → start ≡ a → one ≡ start ++ b → two ≡ one ++ d → three ≡ two ++ e
    → four ≡ three ++ f → five ≡ four ++ g → out ≡ five ++ h
    → out ≡ a ++ (b ++ (d ++ (e ++ (f ++ (g ++ h)))))
six_behind a b d e f g h start one two three four five out p q r s t u v =
    v ∙ ap (λ x. x ++ h) (u ∙ ap (λ x. x ++ g) (t ∙ ap (λ x. x ++ f) (s ∙ ap (λ x. x ++ e) (r ∙ ap (λ x. x ++ d) (q ∙ ap (λ x. x ++ b) p)))))
    ∙ simp append_assoc

-- three parts, the last of which was made by itself
pub last_behind : (a b c text more whole last : List ℕ) → text ≡ a → more ≡ text ++ b → last ≡ c → whole ≡ more ++ last → whole ≡ a ++ (b ++ c)
last_behind a b c text more whole last first second third fourth =
    fourth ∙ ap₂ (λ x y. x ++ y) (second ∙ ap (λ t. t ++ b) first) third ∙ append_assoc a b c
