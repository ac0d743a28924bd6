-- An edge between two bare names, read as a whole, says what its three tokens say in turn.
use Rattle.std.proofs.Common.{◌≡◌, ℕ, true, false, List, [], ◌∷◌, Result, Ok, Err, refl, sym, ap, subst, ◌∙◌}
use Rattle.dag_reader.specs.declared.marks.Arrow.{Arrow}
use Rattle.dag_reader.specs.declared.marks.Remark.TheVariants.{Begins, Joined}
use Rattle.dag_reader.specs.declared.tokens.Due.TheVariants as dues
use Rattle.dag_reader.specs.Tokens.{edge, name, first, place_of}
use Rattle.dag_reader.specs.Grammar.{Fault, ◌>>=◌, Said, Position, at_statement, after_name, chain_name, after_group, after_edge, goes_on, ends, step}
use Rattle.dag_reader.specs.Grammar.{taken, settled, with_marks, with_vertex}
use Rattle.dag_reader.specs.Reading.{RestSays}
use Rattle.dag_reader.specs.Links.{IsLink, begins_statement, with_link}
use Rattle.dag_reader.proofs.TokenSteps.{one_more, last_one}

same_said : (s u : Said) → ◌≡◌ {A = Result Said Fault} (Ok s) (Ok u) → s ≡ u
same_said s u h = cc h

name_goes : (p : Position) (s u : Said) (at : ℕ) (n : List ℕ) → begins_statement p ≡ true → settled p (name false n) s ≡ Ok u
    → step p s at (name false n) ≡ goes_on (after_name n) u
unfolding step
name_goes at_statement s u at n here is = ap (taken at_statement at (name false n)) is
name_goes (after_name m) s u at n here is = ap (taken (after_name m) at (name false n)) is
name_goes (chain_name m) s u at n here is = ap (taken (chain_name m) at (name false n)) is
name_goes after_group s u at n here is = ap (taken after_group at (name false n)) is
name_goes p s u at n here is = cc here

name_stops : (p : Position) (s : Said) (at : ℕ) (n : List ℕ) (e : Fault) → settled p (name false n) s ≡ Err e → step p s at (name false n) ≡ ends (Err e)
unfolding step
name_stops p s at n e is = ap (taken p at (name false n)) is

edge_goes : (n : List ℕ) (s u : Said) (at : ℕ) (a : Arrow) → with_vertex n (with_marks (Begins ∷ []) s) ≡ Ok u
    → step (after_name n) s at (edge a) ≡ goes_on after_edge (with_marks (Joined a ∷ []) u)
unfolding step
edge_goes n s u at a is = ap (taken (after_name n) at (edge a)) is

edge_stops : (n : List ℕ) (s : Said) (at : ℕ) (a : Arrow) (e : Fault) → with_vertex n (with_marks (Begins ∷ []) s) ≡ Err e
    → step (after_name n) s at (edge a) ≡ ends (Err e)
unfolding step
edge_stops n s at a e is = ap (taken (after_name n) at (edge a)) is

right_goes : (n : List ℕ) (s : Said) (at : ℕ) → step after_edge s at (name false n) ≡ goes_on (chain_name n) s
unfolding step
right_goes n s at = refl

-- behind the edge, as far as its first name was said
behind_name : (size : ℕ) (s w : Said) (bytes left : List ℕ) (a : Arrow) (right rest behind_edge : List ℕ) (v : Result Said Fault) (r : Result Said Fault)
    → with_vertex left (with_marks (Begins ∷ []) s) ≡ v → (v >>= (λ u. Ok (with_marks (Joined a ∷ []) u))) ≡ Ok w
    → first dues.Token bytes ≡ (edge a, behind_edge) → first dues.Token behind_edge ≡ (name false right, rest)
    → RestSays size dues.Token (chain_name right) w rest r → RestSays size dues.Token (after_name left) s bytes r
behind_name size s w bytes left a right rest behind_edge (Err e) r is goes edge_here right_here more = cc goes
behind_name size s w bytes left a right rest behind_edge (Ok u) r is goes edge_here right_here more =
    one_more size dues.Token (after_name left) after_edge s (with_marks (Joined a ∷ []) u) bytes behind_edge (place_of size bytes) (edge a) r refl
    (sym edge_here) (edge_goes left s u _ a is)
    (one_more size dues.Token after_edge (chain_name right) (with_marks (Joined a ∷ []) u) (with_marks (Joined a ∷ []) u) behind_edge rest
    (place_of size behind_edge) (name false right) r refl (sym right_here)
    (right_goes right (with_marks (Joined a ∷ []) u) _)
    (subst (λ (x : Said). RestSays size dues.Token (chain_name right) x rest r) (sym (same_said (with_marks (Joined a ∷ []) u) w goes)) more))

link_goes : (size : ℕ) (p : Position) (s w : Said) (bytes left : List ℕ) (a : Arrow) (right rest : List ℕ) (v : Result Said Fault) (r : Result Said Fault)
    → begins_statement p ≡ true → IsLink bytes left a right rest → settled p (name false left) s ≡ v
    → (v >>= (λ u. with_vertex left (with_marks (Begins ∷ []) u) >>= (λ u. Ok (with_marks (Joined a ∷ []) u)))) ≡ Ok w
    → RestSays size dues.Token (chain_name right) w rest r → RestSays size dues.Token p s bytes r
link_goes size p s w bytes left a right rest (Err e) r here link is goes more = cc goes
link_goes size p s w bytes left a right rest (Ok u) r here link is goes more =
    one_more size dues.Token p (after_name left) s u bytes link.behind_left (place_of size bytes) (name false left) r refl (sym link.left_first)
    (name_goes p s u _ left here is)
    (behind_name size u w link.behind_left left a right rest link.behind_edge (with_vertex left (with_marks (Begins ∷ []) u))
    r refl goes link.edge_first link.right_first more)

-- what is said behind the edge is what the rest from its first name on says
pub link_more : (size : ℕ) (p : Position) (s w : Said) (bytes left : List ℕ) (a : Arrow) (right rest : List ℕ) (r : Result Said Fault)
    → begins_statement p ≡ true → IsLink bytes left a right rest → with_link p left a s ≡ Ok w
    → RestSays size dues.Token (chain_name right) w rest r → RestSays size dues.Token p s bytes r
link_more size p s w bytes left a right rest r here link goes more =
    link_goes size p s w bytes left a right rest (settled p (name false left) s) r here link refl goes more

stops_behind_name : (size : ℕ) (s : Said) (bytes left : List ℕ) (a : Arrow) (behind_edge : List ℕ) (v : Result Said Fault) (e : Fault)
    → with_vertex left (with_marks (Begins ∷ []) s) ≡ v → (v >>= (λ u. Ok (with_marks (Joined a ∷ []) u))) ≡ Err e
    → first dues.Token bytes ≡ (edge a, behind_edge) → RestSays size dues.Token (after_name left) s bytes (Err e)
stops_behind_name size s bytes left a behind_edge (Ok u) e is stops edge_here = cc stops
stops_behind_name size s bytes left a behind_edge (Err f) e is stops edge_here =
    last_one size dues.Token (after_name left) s bytes behind_edge (place_of size bytes) (edge a) (Err e) refl (sym edge_here)
    (edge_stops left s _ a e (is ∙ stops))

link_stops_at : (size : ℕ) (p : Position) (s : Said) (bytes left : List ℕ) (a : Arrow) (right rest : List ℕ) (v : Result Said Fault) (e : Fault)
    → begins_statement p ≡ true → IsLink bytes left a right rest → settled p (name false left) s ≡ v
    → (v >>= (λ u. with_vertex left (with_marks (Begins ∷ []) u) >>= (λ u. Ok (with_marks (Joined a ∷ []) u)))) ≡ Err e
    → RestSays size dues.Token p s bytes (Err e)
link_stops_at size p s bytes left a right rest (Err f) e here link is stops =
    last_one size dues.Token p s bytes link.behind_left (place_of size bytes) (name false left) (Err e) refl (sym link.left_first)
    (name_stops p s _ left e (is ∙ stops))
link_stops_at size p s bytes left a right rest (Ok u) e here link is stops =
    one_more size dues.Token p (after_name left) s u bytes link.behind_left (place_of size bytes) (name false left) (Err e) refl (sym link.left_first)
    (name_goes p s u _ left here is)
    (stops_behind_name size u link.behind_left left a link.behind_edge (with_vertex left (with_marks (Begins ∷ []) u)) e refl stops link.edge_first)

-- a fault of its names is that of the rest from its first name on
pub link_stops : (size : ℕ) (p : Position) (s : Said) (bytes left : List ℕ) (a : Arrow) (right rest : List ℕ) (e : Fault)
    → begins_statement p ≡ true → IsLink bytes left a right rest → with_link p left a s ≡ Err e → RestSays size dues.Token p s bytes (Err e)
link_stops size p s bytes left a right rest e here link stops =
    link_stops_at size p s bytes left a right rest (settled p (name false left) s) e here link refl stops
