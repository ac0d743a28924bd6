-- The rows of edges, group by group.
use Rattle.std.proofs.Common.{◌≡◌, ◌≤◌, ◌<◌, ◌-◌, ℕ, Bool, true, false, List, [], ◌∷◌, ◌++◌, map, length, drop, take, get_or, Option, Some, None, refl}
use Rattle.std.proofs.Common.{sym, ap, subst, ◌∙◌, append_assoc, arith}
use Rattle.std.specs.Prelude.{◌==◌, ◌||◌, ◌&&◌, nat_lt}
use Rattle.std.specs.List.{list_any, list_all, filter_map}
use Rattle.std.proofs.Math.Bool.{or_assoc}
use Rattle.std.proofs.lemmas.Bool.{and_parts, ltb-true}
use Rattle.std.proofs.lemmas.List.{take_rest}
use Rattle.std.proofs.lemmas.List.Folds.{list_any-append}
use Rattle.mixed_graph.specs.Vocabulary.{has, has_pair}
use Rattle.dag_reader.specs.declared.marks.Arrow.{Arrow}
use Rattle.dag_reader.specs.declared.marks.Arrow.TheVariants.{Right, Left, Both}
use Rattle.dag_reader.specs.declared.marks.Remark.{Remark}
use Rattle.dag_reader.specs.declared.marks.Remark.TheVariants.{Begins, Joined, Member, HasRole}
use Rattle.dag_reader.specs.MarkEnds.{is_inside}
use Rattle.dag_reader.specs.Rows.{row_has}
use Rattle.dag_reader.specs.LoneEdges.{IsLone, has_edge}
use Rattle.dag_reader.specs.Passes.{Edge, pairs, members, edges_behind, arrow_of, both_of, arrows_of, doubles_of}

-- ---- one group joined to the next

edge_at : ℕ → Arrow → ℕ → Edge
edge_at l a r = record { left = l; arrow = a; right = r }

-- whether one of the pairs of two groups is (x, y), where each is turned by g
abbrev some_pair : (ℕ → ℕ → ℕ × ℕ) → List ℕ → List ℕ → ℕ → ℕ → Bool
some_pair g ls rs x y = list_any (λ l. list_any (λ r. (x == (g l r).0) && (y == (g l r).1)) rs) ls

one_row : (f : Edge → Option (ℕ × ℕ)) (a : Arrow) (g : ℕ → ℕ → ℕ × ℕ) → ((l r : ℕ) → f (record { left = l; arrow = a; right = r }) ≡ Some (g l r))
    → (l : ℕ) (rs : List ℕ) (more : List Edge) (x y : ℕ)
    → has_pair (filter_map f (map (λ r. record { left = l; arrow = a; right = r }) rs ++ more)) x y
    ≡ (list_any (λ r. (x == (g l r).0) && (y == (g l r).1)) rs || has_pair (filter_map f more) x y)
one_row f a g is l [] more x y = refl
one_row f a g is l (r ∷ rs) more x y =
    rw (is l r)
    (ap (λ b. ((x == (g l r).0) && (y == (g l r).1)) || b) (one_row f a g is l rs more x y)
    ∙ sym (or_assoc ((x == (g l r).0) && (y == (g l r).1)) (list_any (λ r. (x == (g l r).0) && (y == (g l r).1)) rs) (has_pair (filter_map f more) x y)))

pairs_joined : (f : Edge → Option (ℕ × ℕ)) (a : Arrow) (g : ℕ → ℕ → ℕ × ℕ) → ((l r : ℕ) → f (record { left = l; arrow = a; right = r }) ≡ Some (g l r))
    → (ls rs : List ℕ) (more : List Edge) (x y : ℕ)
    → has_pair (filter_map f (pairs ls a rs ++ more)) x y ≡ (some_pair g ls rs x y || has_pair (filter_map f more) x y)
pairs_joined f a g is [] rs more x y = refl
pairs_joined f a g is (l ∷ ls) rs more x y =
    ap (λ es. has_pair (filter_map f es) x y) (append_assoc (map (λ r. record { left = l; arrow = a; right = r }) rs) (pairs ls a rs) more)
    ∙ one_row f a g is l rs (pairs ls a rs ++ more) x y
    ∙ ap (λ b. list_any (λ r. (x == (g l r).0) && (y == (g l r).1)) rs || b) (pairs_joined f a g is ls rs more x y)
    ∙ sym (or_assoc (list_any (λ r. (x == (g l r).0) && (y == (g l r).1)) rs) (some_pair g ls rs x y) (has_pair (filter_map f more) x y))

row_dropped : (f : Edge → Option (ℕ × ℕ)) (a : Arrow) → ((l r : ℕ) → ◌≡◌ {A = Option (ℕ × ℕ)} (f (record { left = l; arrow = a; right = r })) None)
    → (l : ℕ) (rs : List ℕ) (more : List Edge) → filter_map f (map (λ r. record { left = l; arrow = a; right = r }) rs ++ more) ≡ filter_map f more
row_dropped f a is l [] more = refl
row_dropped f a is l (r ∷ rs) more = rw (is l r) (row_dropped f a is l rs more)

pairs_dropped : (f : Edge → Option (ℕ × ℕ)) (a : Arrow) → ((l r : ℕ) → ◌≡◌ {A = Option (ℕ × ℕ)} (f (record { left = l; arrow = a; right = r })) None)
    → (ls rs : List ℕ) (more : List Edge) → filter_map f (pairs ls a rs ++ more) ≡ filter_map f more
pairs_dropped f a is [] rs more = refl
pairs_dropped f a is (l ∷ ls) rs more =
    ap (filter_map f) (append_assoc (map (λ r. record { left = l; arrow = a; right = r }) rs) (pairs ls a rs) more)
    ∙ row_dropped f a is l rs (pairs ls a rs ++ more) ∙ pairs_dropped f a is ls rs more

-- ---- pairs as members of the two groups

abbrev among : List ℕ → ℕ → Bool
among vs v = list_any (λ u. v == u) vs

fixed_left : (c : Bool) (rs : List ℕ) (y : ℕ) → list_any (λ r. c && (y == r)) rs ≡ (c && among rs y)
fixed_left true [] y = refl
fixed_left false [] y = refl
fixed_left true (r ∷ rs) y = ap (λ b. (y == r) || b) (fixed_left true rs y)
fixed_left false (r ∷ rs) y = fixed_left false rs y

fixed_right : (d : Bool) (rs : List ℕ) (x : ℕ) → list_any (λ r. (x == r) && d) rs ≡ (among rs x && d)
fixed_right d [] x = refl
fixed_right d (r ∷ rs) x = ap (λ b. ((x == r) && d) || b) (fixed_right d rs x) ∙ shared (x == r) (among rs x) d
  where
    shared : (p q d : Bool) → ((p && d) || (q && d)) ≡ ((p || q) && d)
    shared true true true = refl
    shared true true false = refl
    shared true false true = refl
    shared true false false = refl
    shared false q d = refl

any_same : (p q : ℕ → Bool) → ((v : ℕ) → p v ≡ q v) → (vs : List ℕ) → list_any p vs ≡ list_any q vs
any_same p q is [] = refl
any_same p q is (v ∷ vs) = rw (is v, any_same p q is vs) refl

and_swap : (p q : Bool) → (p && q) ≡ (q && p)
and_swap true true = refl
and_swap true false = refl
and_swap false true = refl
and_swap false false = refl

straight_pairs : (ls rs : List ℕ) (x y : ℕ) → some_pair (λ l r. (l, r)) ls rs x y ≡ (among ls x && among rs y)
straight_pairs ls rs x y =
    any_same (λ l. list_any (λ r. (x == l) && (y == r)) rs) (λ l. (x == l) && among rs y) (λ l. fixed_left (x == l) rs y) ls
    ∙ fixed_right (among rs y) ls x

turned_pairs : (ls rs : List ℕ) (x y : ℕ) → some_pair (λ l r. (r, l)) ls rs x y ≡ (among rs x && among ls y)
turned_pairs ls rs x y =
    any_same (λ l. list_any (λ r. (x == r) && (y == l)) rs) (λ l. among rs x && (y == l)) (λ l. fixed_right (y == l) rs x) ls
    ∙ fixed_left (among rs x) ls y

-- ---- the rows so far

-- the rows hold the edges before the rest, and the mask the last group so far
pub record SoFar (marks rest : List Remark) (left : ℕ) (arrows doubles : List ℕ) : Type 0 where
  pub group : List ℕ
  pub same : (v : ℕ) → has left v ≡ list_any (λ u. v == u) group
  pub arrow_rows : (a b : ℕ) → (row_has arrows a b || has_pair (filter_map arrow_of (edges_behind group rest)) a b) ≡ has_pair (arrows_of marks) a b
  pub double_rows : (a b : ℕ) → (row_has doubles a b || has_pair (filter_map both_of (edges_behind group rest)) a b) ≡ has_pair (doubles_of marks) a b
  pub inside : list_all (is_inside 64) rest ≡ true

false_or : (a b : Bool) → a ≡ false → (a || b) ≡ b
false_or true b h = cc h
false_or false b h = refl

pub begin : (marks : List Remark) (left : ℕ) (arrows doubles : List ℕ) → ((v : ℕ) → has left v ≡ false) → ((a b : ℕ) → row_has arrows a b ≡ false)
    → ((a b : ℕ) → row_has doubles a b ≡ false)
    → list_all (is_inside 64) marks ≡ true → SoFar marks marks left arrows doubles
begin marks left arrows doubles none no_arrows no_doubles inside = record {
  group = [];
  same = none;
  arrow_rows = λ a b. false_or (row_has arrows a b) (has_pair (arrows_of marks) a b) (no_arrows a b);
  double_rows = λ a b. false_or (row_has doubles a b) (has_pair (doubles_of marks) a b) (no_doubles a b);
  inside = inside;
}

pub at_begins : (marks ms : List Remark) (left new : ℕ) (arrows doubles : List ℕ) → SoFar marks (Begins ∷ ms) left arrows doubles
    → ((v : ℕ) → has new v ≡ false) → SoFar marks ms new arrows doubles
at_begins marks ms left new arrows doubles s none =
    record { group = []; same = none; arrow_rows = s.arrow_rows; double_rows = s.double_rows; inside = s.inside }

pub at_role : (marks ms : List Remark) (left : ℕ) (arrows doubles : List ℕ) (r : _) → SoFar marks (HasRole r ∷ ms) left arrows doubles
    → SoFar marks ms left arrows doubles
at_role marks ms left arrows doubles r s =
    record { group = s.group; same = s.same; arrow_rows = s.arrow_rows; double_rows = s.double_rows; inside = s.inside }

or_none : (a b : Bool) → (a || (b || false)) ≡ (a || b)
or_none true b = refl
or_none false true = refl
or_none false false = refl

pub at_member : (marks ms : List Remark) (left new : ℕ) (arrows doubles : List ℕ) (w : ℕ) → SoFar marks (Member w ∷ ms) left arrows doubles
    → ((v : ℕ) → has new v ≡ (has left v || (v == w))) → SoFar marks ms new arrows doubles
at_member marks ms left new arrows doubles w s is = record {
  group = s.group ++ w ∷ [];
  same = λ v. is v ∙ ap (λ b. b || (v == w)) (s.same v) ∙ sym (list_any-append (λ u. v == u) s.group (w ∷ [])
      ∙ or_none (list_any (λ u. v == u) s.group) (v == w));
  arrow_rows = s.arrow_rows;
  double_rows = s.double_rows;
  inside = (and_parts (nat_lt w 64) (list_all (is_inside 64) ms) s.inside).1;
}

shift : (o p q c : Bool) (n : Bool) → n ≡ (o || p) → (o || (p || q)) ≡ c → (n || q) ≡ c
shift o p q c n is h = ap (λ b. b || q) is ∙ or_assoc o p q ∙ h

both_same : (p q r s : Bool) → p ≡ r → q ≡ s → (p && q) ≡ (r && s)
both_same p q r s h k = rw (h, k) refl

-- the mask holds the members of the group at the front
abbrev pub IsGroup : ℕ → List Remark → Type 0
IsGroup group ms = (v : ℕ) → has group v ≡ list_any (λ u. v == u) (members ms)

-- rows and what is left of the edges, where one group is joined to the next: its pairs go to the rows
rows_joined : (f : Edge → Option (ℕ × ℕ)) (k : Arrow) (g : ℕ → ℕ → ℕ × ℕ) → ((l r : ℕ) → f (record { left = l; arrow = k; right = r }) ≡ Some (g l r))
    → (group : List ℕ) (ms : List Remark) (rows more : List ℕ) (all : List (ℕ × ℕ)) (is_pair : ℕ → ℕ → Bool)
    → ((a b : ℕ) → is_pair a b ≡ some_pair g group (members ms) a b) → ((a b : ℕ) → row_has more a b ≡ (row_has rows a b || is_pair a b))
    → ((a b : ℕ) → (row_has rows a b || has_pair (filter_map f (edges_behind group (Joined k ∷ ms))) a b) ≡ has_pair all a b)
    → (a b : ℕ) → (row_has more a b || has_pair (filter_map f (edges_behind [] ms)) a b) ≡ has_pair all a b
rows_joined f k g is group ms rows more all is_pair pairs joined before a b =
    let rest = has_pair (filter_map f (edges_behind [] ms)) a b in
    shift (row_has rows a b) (is_pair a b) rest (has_pair all a b) (row_has more a b) (joined a b)
    (ap (λ t. row_has rows a b || t) (ap (λ t. t || rest) (pairs a b) ∙ sym (pairs_joined f k g is group (members ms) (edges_behind [] ms) a b)) ∙ before a b)

-- the same for rows to which an edge of that kind adds nothing
rows_kept : (f : Edge → Option (ℕ × ℕ)) (k : Arrow) → ((l r : ℕ) → ◌≡◌ {A = Option (ℕ × ℕ)} (f (record { left = l; arrow = k; right = r })) None)
    → (group : List ℕ) (ms : List Remark) (rows : List ℕ) (all : List (ℕ × ℕ))
    → ((a b : ℕ) → (row_has rows a b || has_pair (filter_map f (edges_behind group (Joined k ∷ ms))) a b) ≡ has_pair all a b)
    → (a b : ℕ) → (row_has rows a b || has_pair (filter_map f (edges_behind [] ms)) a b) ≡ has_pair all a b
rows_kept f k is group ms rows all before a b =
    ap (λ es. row_has rows a b || has_pair es a b) (sym (pairs_dropped f k is group (members ms) (edges_behind [] ms))) ∙ before a b

pub at_right : (marks ms : List Remark) (left right new : ℕ) (arrows more doubles : List ℕ) → SoFar marks (Joined Right ∷ ms) left arrows doubles
    → IsGroup right ms → ((v : ℕ) → has new v ≡ false)
    → ((a b : ℕ) → row_has more a b ≡ (row_has arrows a b || (has left a && has right b))) → SoFar marks ms new more doubles
at_right marks ms left right new arrows more doubles s group none joined = record {
  group = [];
  same = none;
  arrow_rows = rows_joined arrow_of Right (λ l r. (l, r)) (λ l r. refl) s.group ms arrows more (arrows_of marks) (λ a b. has left a && has right b)
      (λ a b. both_same _ _ _ _ (s.same a) (group b) ∙ sym (straight_pairs s.group (members ms) a b)) joined s.arrow_rows;
  double_rows = rows_kept both_of Right (λ l r. refl) s.group ms doubles (doubles_of marks) s.double_rows;
  inside = s.inside;
}

pub at_left : (marks ms : List Remark) (left right new : ℕ) (arrows more doubles : List ℕ) → SoFar marks (Joined Left ∷ ms) left arrows doubles
    → IsGroup right ms → ((v : ℕ) → has new v ≡ false)
    → ((a b : ℕ) → row_has more a b ≡ (row_has arrows a b || (has right a && has left b))) → SoFar marks ms new more doubles
at_left marks ms left right new arrows more doubles s group none joined = record {
  group = [];
  same = none;
  arrow_rows = rows_joined arrow_of Left (λ l r. (r, l)) (λ l r. refl) s.group ms arrows more (arrows_of marks) (λ a b. has right a && has left b)
      (λ a b. both_same _ _ _ _ (group a) (s.same b) ∙ sym (turned_pairs s.group (members ms) a b)) joined s.arrow_rows;
  double_rows = rows_kept both_of Left (λ l r. refl) s.group ms doubles (doubles_of marks) s.double_rows;
  inside = s.inside;
}

pub at_both : (marks ms : List Remark) (left right new : ℕ) (arrows doubles more : List ℕ) → SoFar marks (Joined Both ∷ ms) left arrows doubles
    → IsGroup right ms → ((v : ℕ) → has new v ≡ false)
    → ((a b : ℕ) → row_has more a b ≡ (row_has doubles a b || (has left a && has right b))) → SoFar marks ms new arrows more
at_both marks ms left right new arrows doubles more s group none joined = record {
  group = [];
  same = none;
  arrow_rows = rows_kept arrow_of Both (λ l r. refl) s.group ms arrows (arrows_of marks) s.arrow_rows;
  double_rows = rows_joined both_of Both (λ l r. (l, r)) (λ l r. refl) s.group ms doubles more (doubles_of marks) (λ a b. has left a && has right b)
      (λ a b. both_same _ _ _ _ (s.same a) (group b) ∙ sym (straight_pairs s.group (members ms) a b)) joined s.double_rows;
  inside = s.inside;
}

or_false : (a : Bool) → (a || false) ≡ a
or_false true = refl
or_false false = refl

-- at the end the rows hold all edges
pub at_end : (marks rest : List Remark) (left : ℕ) (arrows doubles : List ℕ) → SoFar marks rest left arrows doubles → rest ≡ []
    → ((a b : ℕ) → row_has arrows a b ≡ has_pair (arrows_of marks) a b) × ((a b : ℕ) → row_has doubles a b ≡ has_pair (doubles_of marks) a b)
at_end marks rest left arrows doubles s is =
    let e : SoFar marks [] left arrows doubles = subst (λ (l : List Remark). SoFar marks l left arrows doubles) is s in
    (λ a b. sym (or_false (row_has arrows a b)) ∙ e.arrow_rows a b, λ a b. sym (or_false (row_has doubles a b)) ∙ e.double_rows a b)

-- the rest, as its first mark and the others
pub opened : (marks rest : List Remark) (left : ℕ) (arrows doubles : List ℕ) (m : Remark) → SoFar marks rest left arrows doubles → 1 ≤ length rest
    → get_or rest 0 Begins ≡ m
    → SoFar marks (m ∷ take (length rest - 1) (drop 1 rest)) left arrows doubles
opened marks [] left arrows doubles m s h is = absurd (omega arith)
opened marks (x ∷ xs) left arrows doubles m s h is =
    let e : x ∷ xs ≡ m ∷ take (length (x ∷ xs) - 1) (drop 1 (x ∷ xs)) = ap (λ y. y ∷ xs) is ∙ ap (λ l. m ∷ l) (sym (take_rest (x ∷ xs) 1)) in
    subst (λ (l : List Remark). SoFar marks l left arrows doubles) e s

-- ---- an edge whose ends are the only members of their groups

front_or : (p q : Bool) → (p || q) ≡ ((p || false) || q)
front_or true q = refl
front_or false q = refl

one_front : (f : Edge → Option (ℕ × ℕ)) (l : ℕ) (k : Arrow) (r : ℕ) (more : List Edge) (x y : ℕ)
    → has_pair (filter_map f ((record { left = l; arrow = k; right = r }) ∷ more)) x y ≡ (has_edge f l k r x y || has_pair (filter_map f more) x y)
one_front f l k r more x y = go (f (record { left = l; arrow = k; right = r })) refl
  where
    go : (o : Option (ℕ × ℕ)) → f (record { left = l; arrow = k; right = r }) ≡ o
        → has_pair (filter_map f ((record { left = l; arrow = k; right = r }) ∷ more)) x y ≡ (has_edge f l k r x y || has_pair (filter_map f more) x y)
    go None is = rw is refl
    go (Some p) is = rw is (front_or ((x == p.0) && (y == p.1)) (has_pair (filter_map f more) x y))

rows_with : (f : Edge → Option (ℕ × ℕ)) (l : ℕ) (k : Arrow) (r : ℕ) (es : List Edge) (rows more : List ℕ) (all : List (ℕ × ℕ))
    → ((a b : ℕ) → row_has more a b ≡ (row_has rows a b || has_edge f l k r a b))
    → ((a b : ℕ) → (row_has rows a b || has_pair (filter_map f ((record { left = l; arrow = k; right = r }) ∷ es)) a b) ≡ has_pair all a b)
    → (a b : ℕ) → (row_has more a b || has_pair (filter_map f es) a b) ≡ has_pair all a b
rows_with f l k r es rows more all joined before a b =
    shift (row_has rows a b) (has_edge f l k r a b) (has_pair (filter_map f es) a b) (has_pair all a b) (row_has more a b) (joined a b)
    (ap (λ t. row_has rows a b || t) (sym (one_front f l k r es a b)) ∙ before a b)

lone_inside : (p q r : Bool) → (p && (q && r)) ≡ true → r ≡ true
lone_inside true true r h = h
lone_inside true false r h = cc h
lone_inside false q r h = cc h

lone_taken : (marks ms : List Remark) (left new l r : ℕ) (k : Arrow) (arrows doubles more_arrows more_doubles : List ℕ)
    → SoFar marks (Begins ∷ Member l ∷ Joined k ∷ Member r ∷ Begins ∷ ms) left arrows doubles → ((v : ℕ) → has new v ≡ false)
    → ((a b : ℕ) → row_has more_arrows a b ≡ (row_has arrows a b || has_edge arrow_of l k r a b))
    → ((a b : ℕ) → row_has more_doubles a b ≡ (row_has doubles a b || has_edge both_of l k r a b)) → SoFar marks (Begins ∷ ms) new more_arrows more_doubles
lone_taken marks ms left new l r k arrows doubles more_arrows more_doubles s none arrow_joined double_joined = record {
  group = [];
  same = none;
  arrow_rows = rows_with arrow_of l k r (edges_behind [] ms) arrows more_arrows (arrows_of marks) arrow_joined s.arrow_rows;
  double_rows = rows_with both_of l k r (edges_behind [] ms) doubles more_doubles (doubles_of marks) double_joined s.double_rows;
  inside = lone_inside (nat_lt l 64) (nat_lt r 64) (list_all (is_inside 64) ms) s.inside;
}

-- the rows with such an edge
pub at_lone : (marks all rest : List Remark) (left new l r : ℕ) (k : Arrow) (arrows doubles more_arrows more_doubles : List ℕ)
    → SoFar marks all left arrows doubles → IsLone all l k r rest → ((v : ℕ) → has new v ≡ false)
    → ((a b : ℕ) → row_has more_arrows a b ≡ (row_has arrows a b || has_edge arrow_of l k r a b))
    → ((a b : ℕ) → row_has more_doubles a b ≡ (row_has doubles a b || has_edge both_of l k r a b)) → SoFar marks rest new more_arrows more_doubles
at_lone marks all rest left new l r k arrows doubles more_arrows more_doubles s is none arrow_joined double_joined =
    let e : all ≡ Begins ∷ Member l ∷ Joined k ∷ Member r ∷ Begins ∷ drop 1 rest =
    is.front ∙ ap (λ (ms : List Remark). Begins ∷ Member l ∷ Joined k ∷ Member r ∷ ms) is.next in
    subst (λ (ms : List Remark). SoFar marks ms new more_arrows more_doubles) (sym is.next)
    (lone_taken marks (drop 1 rest) left new l r k arrows doubles more_arrows more_doubles
    (subst (λ (ms : List Remark). SoFar marks ms left arrows doubles) e s) none arrow_joined double_joined)

-- five marks at the front, of which the last is the first behind the edge
pub lone_front : (marks : List Remark) (l r : ℕ) (k : Arrow) → 5 ≤ length marks → get_or marks 0 Begins ≡ Begins → get_or marks 1 Begins ≡ Member l
    → get_or marks 2 Begins ≡ Joined k → get_or marks 3 Begins ≡ Member r → get_or marks 4 Begins ≡ Begins → IsLone marks l k r (drop 4 marks)
lone_front (a ∷ b ∷ c ∷ d ∷ e ∷ ms) l r k some ha hb hc hd he = record { front = rw (ha, hb, hc, hd) refl; next = rw he refl }
lone_front [] l r k some ha hb hc hd he = absurd (omega (arith, some))
lone_front (a ∷ []) l r k some ha hb hc hd he = absurd (omega (arith, some))
lone_front (a ∷ b ∷ []) l r k some ha hb hc hd he = absurd (omega (arith, some))
lone_front (a ∷ b ∷ c ∷ []) l r k some ha hb hc hd he = absurd (omega (arith, some))
lone_front (a ∷ b ∷ c ∷ d ∷ []) l r k some ha hb hc hd he = absurd (omega (arith, some))

pub lone_below : (marks rest : List Remark) (l r : ℕ) (k : Arrow) → IsLone marks l k r rest → list_all (is_inside 64) marks ≡ true → (l < 64) × (r < 64)
lone_below marks rest l r k is inside =
    let h : (nat_lt l 64 && (nat_lt r 64 && list_all (is_inside 64) rest)) ≡ true = sym (ap (λ (ms : List Remark). list_all (is_inside 64) ms) is.front) ∙ inside in
    let p = and_parts (nat_lt l 64) (nat_lt r 64 && list_all (is_inside 64) rest) h in
    (ltb-true l 64 p.0, ltb-true r 64 (and_parts (nat_lt r 64) (list_all (is_inside 64) rest) p.1).0)
