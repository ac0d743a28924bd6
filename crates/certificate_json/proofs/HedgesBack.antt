-- What is written for the choice and the links of a hedge is read again.
use Rattle.std.proofs.Common.{◌≡◌, ◌<◌, ◌≤◌, ◌+◌, ◌==◌, ℕ, suc, Bool, true, false, cond, List, [], ◌∷◌, ◌++◌, length, get_or, set, replicate, Ok, Err}
use Rattle.std.proofs.Common.{refl, sym, ap, ◌∙◌, append_assoc, append-nil, length-append, arith, lt-ltb, eqb-true}
use Rattle.std.specs.Prelude.{All}
use Rattle.std.proofs.lemmas.Bool.{false≢true}
use Rattle.mixed_graph.specs.Vocabulary.{AreNames, name_of}
use Rattle.serde_json.specs.Data.{array, string, no_items, item}
use Rattle.step_json.specs.declared.fault.ValueFault.TheVariants.{Form}
use Rattle.step_json.specs.Vocabulary.{◌>>=◌, list_by, vertex_in}
use Rattle.certificate_json.proofs.Values.{names_value}
use Rattle.certificate_json.proofs.NamesBack.{vertex_back}
use Rattle.certificate.specs.Vocabulary.{first_by, alone, unchosen, with_choice, more_choices, choice_in, link_of, more_links, links_in}
use Rattle.certificate_json.specs.Certificates.{choices_from}
use Rattle.certificate_json.proofs.Values.{pair_items, link_items}
use Rattle.certificate_json.proofs.Pairs.{IsWithin}

-- a pair is read again
pair_back : {B : Type 0} (names : List (List ℕ)) (v u : ℕ) (next : ℕ → ℕ → B) → AreNames names → v < length names → u < length names
    → first_by (vertex_in names) (λ v. first_by (vertex_in names) (λ u. alone (next v u)))
    (item (string (name_of names v)) (item (string (name_of names u)) no_items)) ≡ Ok (next v u)
pair_back names v u next are lv lu =
    ap (λ r. r >>= λ v. first_by (vertex_in names) (λ u. alone (next v u)) (item (string (name_of names u)) no_items)) (vertex_back names v are lv)
    ∙ ap (λ r. r >>= λ u. alone (next v u) no_items) (vertex_back names u are lu)

within_rest : (n : ℕ) (p : ℕ × ℕ) (ps : List (ℕ × ℕ)) → All (IsWithin n) (p ∷ ps) → All (IsWithin n) ps
within_rest n p ps all k d lt = all (suc k) d (omega arith)

-- ---- links

links_more_back : (names : List (List ℕ)) (ls before : List (ℕ × ℕ)) → AreNames names → All (IsWithin (length names)) ls → length before + length ls ≤ 64
    → more_links names before (pair_items names ls) ≡ Ok (before ++ ls)
links_more_back names [] before are all le = ap (λ l. Ok l) (sym (append-nil before))
links_more_back names (l ∷ ls) before are all le =
    let here = all 0 l (omega arith) in
    let rest = pair_items names ls in
    ap (λ b. cond b (list_by (link_of names) (names_value names (l.0 ∷ l.1 ∷ [])) >>= λ l. more_links names (before ++ l ∷ []) rest) (Err Form))
    (lt-ltb (length before) 64 (omega arith))
    ∙ ap (λ r. r >>= λ l. more_links names (before ++ l ∷ []) rest) (pair_back names l.0 l.1 (λ v u. (v, u)) are here.0 here.1)
    ∙ links_more_back names ls (before ++ l ∷ []) are (within_rest (length names) l ls all) (omega (arith, length-append before (l ∷ [])))
    ∙ ap (λ l. Ok l) (append_assoc before (l ∷ []) ls)

pub links_back : (names : List (List ℕ)) (v : ℕ) (ls : List (ℕ × ℕ)) → AreNames names → All (IsWithin (length names)) ((v, 0) ∷ ls) → length ((v, 0) ∷ ls) ≤ 64
    → links_in names (array (link_items names ((v, 0) ∷ ls))) ≡ Ok ((v, 0) ∷ ls)
unfolding links_in
links_back names v ls are all le =
    let here = all 0 (v, 0) (omega arith) in
    ap (λ r. (r >>= λ v. alone (v, 0) no_items) >>= λ l. more_links names (l ∷ []) (pair_items names ls)) (vertex_back names v are here.0)
    ∙ links_more_back names ls ((v, 0) ∷ []) are (within_rest (length names) (v, 0) ls all) (omega arith)

-- ---- choices

at_end : (done rest : List ℕ) → get_or (done ++ 64 ∷ rest) (length done) 0 ≡ 64
at_end [] rest = refl
at_end (x ∷ done) rest = at_end done rest

set_end : (done rest : List ℕ) (c : ℕ) → set (done ++ 64 ∷ rest) (length done) c ≡ done ++ c ∷ rest
set_end [] rest c = refl
set_end (x ∷ done) rest c = ap (λ l. x ∷ l) (set_end done rest c)

choice_more_back : (names : List (List ℕ)) (k c : ℕ) (next after : List ℕ) → AreNames names → k < length names → c < length names → get_or next k 0 ≡ 64
    → set next k c ≡ after
    → list_by (with_choice names next) (names_value names (k ∷ c ∷ [])) ≡ Ok after
choice_more_back names k c next after are lk lc free is =
    ap (λ r. (r >>= unchosen next) >>= λ v. first_by (vertex_in names) (λ u. alone (set next v u)) (item (string (name_of names c)) no_items))
    (vertex_back names k are lk)
    ∙ ap (λ b. cond (b == 64) (Ok k) (Err Form) >>= λ v. first_by (vertex_in names) (λ u. alone (set next v u)) (item (string (name_of names c)) no_items)) free
    ∙ ap (λ r. r >>= λ u. alone (set next k u) no_items) (vertex_back names c are lc)
    ∙ ap (λ l. Ok l) is

-- the choices from one vertex on, where those behind it are read again
choice_and_more : (names : List (List ℕ)) (c : ℕ) (cs done : List ℕ) (count k : ℕ) → AreNames names → k ≡ length done → count ≤ k → k < 64
    → ((c ≡ 64 → ⊥) → (k < length names) × (c < length names))
    → ((n : ℕ) → n ≤ k + 1 → more_choices names n ((done ++ c ∷ []) ++ replicate (length cs) 64) (pair_items names (choices_from (k + 1) cs))
    ≡ Ok ((done ++ c ∷ []) ++ cs))
    → more_choices names count (done ++ 64 ∷ replicate (length cs) 64) (pair_items names (choices_from k (c ∷ cs))) ≡ Ok (done ++ c ∷ cs)
choice_and_more names c cs done count k are place le room within behind = go (c == 64) refl
  where
    rest : List ℕ
    rest = replicate (length cs) 64

    others : (n : ℕ) → n ≤ k + 1 → more_choices names n (done ++ c ∷ rest) (pair_items names (choices_from (k + 1) cs)) ≡ Ok (done ++ c ∷ cs)
    others n small =
        ap (λ l. more_choices names n l (pair_items names (choices_from (k + 1) cs))) (sym (append_assoc done (c ∷ []) rest))
        ∙ behind n small
        ∙ ap (λ l. Ok l) (append_assoc done (c ∷ []) cs)

    go : (b : Bool) → (c == 64) ≡ b
        → more_choices names count (done ++ 64 ∷ rest) (pair_items names (cond b (choices_from (k + 1) cs) ((k, c) ∷ choices_from (k + 1) cs)))
        ≡ Ok (done ++ c ∷ cs)
    go true e = ap (λ x. more_choices names count (done ++ x ∷ rest) (pair_items names (choices_from (k + 1) cs))) (sym (eqb-true c 64 e))
        ∙ others count (omega (arith, le))
    go false e =
        let p = within (λ is. false≢true (sym e ∙ ap (λ n. n == 64) is)) in
        let at : get_or (done ++ 64 ∷ rest) k 0 ≡ 64 = ap (λ n. get_or (done ++ 64 ∷ rest) n 0) place ∙ at_end done rest in
        let after : set (done ++ 64 ∷ rest) k c ≡ done ++ c ∷ rest = ap (λ n. set (done ++ 64 ∷ rest) n c) place ∙ set_end done rest c in
        ap (λ b. cond b (list_by (with_choice names (done ++ 64 ∷ rest)) (names_value names (k ∷ c ∷ [])) >>= λ more. more_choices names (count + 1) more
        (pair_items names (choices_from (k + 1) cs))) (Err Form)) (lt-ltb count 64 (omega (arith, le, room)))
        ∙ ap (λ r. r >>= λ more. more_choices names (count + 1) more (pair_items names (choices_from (k + 1) cs)))
        (choice_more_back names k c (done ++ 64 ∷ rest) (done ++ c ∷ rest) are p.0 p.1 at after)
        ∙ others (count + 1) (omega (arith, le))

choices_more_back : (names : List (List ℕ)) (cs done : List ℕ) (count k : ℕ) → AreNames names → k ≡ length done → count ≤ k → k + length cs ≤ 64
    → ((i : ℕ) → i < length cs → (get_or cs i 0 ≡ 64 → ⊥) → (k + i < length names) × (get_or cs i 0 < length names))
    → more_choices names count (done ++ replicate (length cs) 64) (pair_items names (choices_from k cs)) ≡ Ok (done ++ cs)
choices_more_back names [] done count k are place le room within = refl
choices_more_back names (c ∷ cs) done count k are place le room within =
    choice_and_more names c cs done count k are place le (omega (arith, room)) (λ other. let p = within 0 (omega arith) other in (omega (arith, p.0), p.1))
    (λ n small. choices_more_back names cs (done ++ c ∷ []) n (k + 1) are (omega (arith, place, length-append done (c ∷ []))) small (omega (arith, room))
    (λ i lt other. let p = within (suc i) (omega (arith, lt)) other in (omega (arith, p.0), p.1)))

pub choice_back : (names : List (List ℕ)) (cs : List ℕ) → AreNames names → length cs ≡ 64
    → ((v : ℕ) → v < 64 → (get_or cs v 0 ≡ 64 → ⊥) → (v < length names) × (get_or cs v 0 < length names))
    → choice_in names (array (pair_items names (choices_from 0 cs))) ≡ Ok cs
unfolding choice_in
choice_back names cs are size within =
    ap (λ n. more_choices names 0 (replicate n 64) (pair_items names (choices_from 0 cs))) (sym size)
    ∙ choices_more_back names cs [] 0 0 are refl (omega arith) (omega (arith, size))
    (λ i lt other. let p = within i (omega (arith, size)) other in (omega (arith, p.0), p.1))
