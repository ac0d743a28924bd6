-- What the automaton accepts of a text of the grammar is what the text says.
use Rattle.std.proofs.Common.{◌≡◌, ℕ, Bool, true, false, List, [], ◌∷◌, length, Option, Some, None, Result, Ok, Err, refl, sym, ap, ◌∙◌}
use Rattle.std.specs.Prelude.{if◌then◌else◌, codes}
use Rattle.std.specs.Str.{bytes_eq}
use Rattle.dag_reader.specs.declared.grammar.Braces.{Braces}
use Rattle.dag_reader.specs.declared.grammar.Braces.TheVariants as which
use Rattle.dag_reader.specs.declared.marks.Arrow.{Arrow}
use Rattle.dag_reader.specs.declared.marks.Role.{Role}
use Rattle.dag_reader.specs.declared.marks.Remark.TheVariants.{Begins, Joined}
use Rattle.dag_reader.specs.Tokens.{Tok, open_brace, close_brace, open_bracket, close_bracket, semicolon, equals, comma, edge, name, value, end, bad, bad_edge}
use Rattle.dag_reader.specs.Grammar.{Fault, selected, Said, nothing, with_marks, with_vertex, with_flag, with_role, role_of, Position, behind_braces}
use Rattle.dag_reader.specs.Grammar.{step, taken}
use Rattle.dag_reader.specs.Grammar.{at_start, at_dag, at_title, at_statement, after_name, at_key_value, in_group, group_name, after_first}
use Rattle.dag_reader.specs.Grammar.{after_edge, chain_name, after_group, at_attrs, attr_name, at_attr_value, after_attr, after_comma, at_end}
use Rattle.dag_reader.specs.Syntax.{Word, Inner, inner_semicolon, inner_name, Group, single, braces, Attr, bare, valued, Later, next_attr, comma_attr}
use Rattle.dag_reader.specs.Syntax.{Attrs, no_attr, attr_list, Statement, lone_semicolon, dropped, vertex, chain, Text}
use Rattle.dag_reader.specs.Syntax.{inner_tokens, group_tokens, attr_tokens, later_tokens, attrs_tokens, links_tokens, statement_tokens, body_tokens}
use Rattle.dag_reader.specs.Syntax.{title_tokens, text_tokens}
use Rattle.dag_reader.specs.Syntax.{◌>>=◌, allowed, vertex_says, inner_say, group_says, attr_says, later_say, attrs_say, links_say, statement_says}
use Rattle.dag_reader.specs.Syntax.{statements_say, text_says}
use Rattle.dag_reader.proofs.LawRun.{ok, then_ok, one_ok, none_ok, bind_ext, bind_assoc, bind_none, settled_first}

-- ---- the name before a token

no_more : (f : ℕ → ℕ) (p q : Position) (s : Said) (r : Option Said) → ok f p s [] ≡ (r >>= (λ u. ok f q u []))
no_more f p q s r = none_ok f p s ∙ sym (bind_ext r (λ u. ok f q u []) (λ u. None) (λ u. none_ok f q u) ∙ bind_none r)

chain_turn : (f : ℕ → ℕ) (n : List ℕ) (s : Said) (at : ℕ) (t : Tok) (ts : List Tok)
    → then_ok f ts (step (chain_name n) s at t) ≡ (allowed (with_vertex n s) >>= (λ u. then_ok f ts (step after_group u at t)))
unfolding step
chain_turn f n s at bad ts = sym (bind_none (allowed (with_vertex n s)))
chain_turn f n s at bad_edge ts = sym (bind_none (allowed (with_vertex n s)))
chain_turn f n s at t ts = settled_first f ts (chain_name n) after_group at t (with_vertex n s) (λ u. refl)

pub pending_chain : (f : ℕ → ℕ) (n : List ℕ) (s : Said) (ts : List Tok) → ok f (chain_name n) s ts
    ≡ (allowed (with_vertex n s) >>= (λ u. ok f after_group u ts))
pending_chain f n s [] = no_more f (chain_name n) after_group s _
pending_chain f n s (t ∷ ts) =
    one_ok f (chain_name n) s t ts ∙ chain_turn f n s (f (length ts)) t ts
    ∙ bind_ext (allowed (with_vertex n s)) _ (λ u. ok f after_group u (t ∷ ts)) (λ u. sym (one_ok f after_group u t ts))

group_turn : (f : ℕ → ℕ) (b : Braces) (n : List ℕ) (s : Said) (at : ℕ) (t : Tok) (ts : List Tok)
    → then_ok f ts (step (group_name b n) s at t) ≡ (allowed (with_vertex n s) >>= (λ u. then_ok f ts (step (in_group b) u at t)))
unfolding step
group_turn f b n s at bad ts = sym (bind_none (allowed (with_vertex n s)))
group_turn f b n s at bad_edge ts = sym (bind_none (allowed (with_vertex n s)))
group_turn f b n s at t ts = settled_first f ts (group_name b n) (in_group b) at t (with_vertex n s) (λ u. refl)

pub pending_group : (f : ℕ → ℕ) (b : Braces) (n : List ℕ) (s : Said) (ts : List Tok)
    → ok f (group_name b n) s ts ≡ (allowed (with_vertex n s) >>= (λ u. ok f (in_group b) u ts))
pending_group f b n s [] = no_more f (group_name b n) (in_group b) s _
pending_group f b n s (t ∷ ts) =
    one_ok f (group_name b n) s t ts ∙ group_turn f b n s (f (length ts)) t ts
    ∙ bind_ext (allowed (with_vertex n s)) _ (λ u. ok f (in_group b) u (t ∷ ts)) (λ u. sym (one_ok f (in_group b) u t ts))

-- no `=` stands at the front
abbrev pub Unassigned : List Tok → Type 0
Unassigned [] = Unit {0}
Unassigned (equals ∷ ts) = ⊥
Unassigned (t ∷ ts) = Unit {0}

attr_turn : (f : ℕ → ℕ) (of : Option (List ℕ)) (k : ℕ) (n : List ℕ) (s : Said) (at : ℕ) (t : Tok) (ts : List Tok) → Unassigned (t ∷ ts)
    → then_ok f ts (step (attr_name of k n) s at t) ≡ (allowed (with_flag of k n s) >>= (λ u. then_ok f ts (step (after_attr of) u at t)))
unfolding step
attr_turn f of k n s at bad ts h = sym (bind_none (allowed (with_flag of k n s)))
attr_turn f of k n s at bad_edge ts h = sym (bind_none (allowed (with_flag of k n s)))
attr_turn f of k n s at equals ts h = absurd h
attr_turn f of k n s at t ts h = settled_first f ts (attr_name of k n) (after_attr of) at t (with_flag of k n s) (λ u. refl)

role_place : (k : ℕ) (r : Option Role) (s : Said) → allowed (with_role k r s) ≡ allowed (with_role 0 r s)
role_place k None s = refl
role_place k (Some r) s = refl

chosen_place : (b : Bool) (v : List ℕ) (k : ℕ) (r : Option Role) (s : Said)
    → allowed (if b then Err (selected v) else with_role k r s) ≡ allowed (if b then Err (selected v) else with_role 0 r s)
chosen_place true v k r s = refl
chosen_place false v k r s = role_place k r s

-- a place is in the faults alone
flag_place : (of : Option (List ℕ)) (k : ℕ) (n : List ℕ) (s : Said) → allowed (with_flag of k n s) ≡ allowed (with_flag of 0 n s)
flag_place None k n s = refl
flag_place (Some v) k n s = chosen_place (bytes_eq n (codes "selected")) v k (role_of n) s

pub pending_attr : (f : ℕ → ℕ) (of : Option (List ℕ)) (k : ℕ) (n : List ℕ) (s : Said) (ts : List Tok) → Unassigned ts
    → ok f (attr_name of k n) s ts ≡ (allowed (with_flag of 0 n s) >>= (λ u. ok f (after_attr of) u ts))
pending_attr f of k n s [] h = no_more f (attr_name of k n) (after_attr of) s _
pending_attr f of k n s (t ∷ ts) h =
    one_ok f (attr_name of k n) s t ts ∙ attr_turn f of k n s (f (length ts)) t ts h
    ∙ ap (λ (r : Option Said). r >>= (λ u. then_ok f ts (step (after_attr of) u (f (length ts)) t))) (flag_place of k n s)
    ∙ bind_ext (allowed (with_flag of 0 n s)) _ (λ u. ok f (after_attr of) u (t ∷ ts)) (λ u. sym (one_ok f (after_attr of) u t ts))

-- ---- where a statement may begin or the text may end

abbrev pub Starts : List Tok → Type 0
Starts (semicolon ∷ ts) = Unit {0}
Starts (name q n ∷ ts) = Unit {0}
Starts (open_brace ∷ ts) = Unit {0}
Starts (close_brace ∷ ts) = Unit {0}
Starts ts = ⊥

body_starts : (xs : List Statement) (more : List Tok) → Starts (body_tokens xs more)
body_starts [] more = tt
body_starts (lone_semicolon ∷ xs) more = tt
body_starts (dropped w ∷ xs) more = tt
body_starts (vertex w attrs ∷ xs) more = tt
body_starts (chain (single w) l ls attrs ∷ xs) more = tt
body_starts (chain (braces is) l ls attrs ∷ xs) more = tt

group_then_start : (f : ℕ → ℕ) (s : Said) (ts : List Tok) → Starts ts → ok f after_group s ts ≡ ok f at_statement s ts
unfolding step
group_then_start f s (semicolon ∷ ts) h = one_ok f after_group s semicolon ts ∙ sym (one_ok f at_statement s semicolon ts)
group_then_start f s (name q n ∷ ts) h = one_ok f after_group s (name q n) ts ∙ sym (one_ok f at_statement s (name q n) ts)
group_then_start f s (open_brace ∷ ts) h = one_ok f after_group s open_brace ts ∙ sym (one_ok f at_statement s open_brace ts)
group_then_start f s (close_brace ∷ ts) h = one_ok f after_group s close_brace ts ∙ sym (one_ok f at_statement s close_brace ts)
group_then_start f s ts h = absurd h

first_turn : (f : ℕ → ℕ) (n : List ℕ) (s : Said) (at : ℕ) (t : Tok) (ts : List Tok) → Starts (t ∷ ts)
    → then_ok f ts (step (after_name n) s at t) ≡ (allowed (with_vertex n (with_marks (Begins ∷ []) s)) >>= (λ u. then_ok f ts (step at_statement u at t)))
unfolding step
first_turn f n s at semicolon ts h = settled_first f ts (after_name n) at_statement at semicolon (with_vertex n (with_marks (Begins ∷ []) s)) (λ u. refl)
first_turn f n s at (name q m) ts h = settled_first f ts (after_name n) at_statement at (name q m) (with_vertex n (with_marks (Begins ∷ []) s)) (λ u. refl)
first_turn f n s at open_brace ts h = settled_first f ts (after_name n) at_statement at open_brace (with_vertex n (with_marks (Begins ∷ []) s)) (λ u. refl)
first_turn f n s at close_brace ts h = settled_first f ts (after_name n) at_statement at close_brace (with_vertex n (with_marks (Begins ∷ []) s)) (λ u. refl)
first_turn f n s at t ts h = absurd h

name_then_start : (f : ℕ → ℕ) (n : List ℕ) (s : Said) (ts : List Tok) → Starts ts
    → ok f (after_name n) s ts ≡ (allowed (with_vertex n (with_marks (Begins ∷ []) s)) >>= (λ u. ok f at_statement u ts))
name_then_start f n s [] h = absurd h
name_then_start f n s (t ∷ ts) h =
    one_ok f (after_name n) s t ts ∙ first_turn f n s (f (length ts)) t ts h
    ∙ bind_ext (allowed (with_vertex n (with_marks (Begins ∷ []) s))) _ (λ u. ok f at_statement u (t ∷ ts)) (λ u. sym (one_ok f at_statement u t ts))

name_then_edge : (f : ℕ → ℕ) (n : List ℕ) (s : Said) (a : Arrow) (ts : List Tok)
    → ok f (after_name n) s (edge a ∷ ts) ≡ (allowed (with_vertex n (with_marks (Begins ∷ []) s)) >>= (λ u. ok f after_first u (edge a ∷ ts)))
unfolding step
name_then_edge f n s a ts =
    one_ok f (after_name n) s (edge a) ts
    ∙ settled_first f ts (after_name n) after_first (f (length ts)) (edge a) (with_vertex n (with_marks (Begins ∷ []) s)) (λ u. refl)
    ∙ bind_ext (allowed (with_vertex n (with_marks (Begins ∷ []) s))) _ (λ u. ok f after_first u (edge a ∷ ts)) (λ u. sym (one_ok f after_first u (edge a) ts))

bracket_turn : (f : ℕ → ℕ) (n : List ℕ) (ts : List Tok) (at : ℕ) (r : Result Said Fault)
    → then_ok f ts (taken (after_name n) at open_bracket r) ≡ (allowed r >>= (λ u. ok f (at_attrs (Some n)) u ts))
bracket_turn f n ts at (Err e) = refl
bracket_turn f n ts at (Ok u) = refl

name_then_bracket : (f : ℕ → ℕ) (n : List ℕ) (s : Said) (ts : List Tok)
    → ok f (after_name n) s (open_bracket ∷ ts) ≡ (allowed (with_vertex n (with_marks (Begins ∷ []) s)) >>= (λ u. ok f (at_attrs (Some n)) u ts))
unfolding step
name_then_bracket f n s ts =
    one_ok f (after_name n) s open_bracket ts ∙ bracket_turn f n ts (f (length ts)) (with_vertex n (with_marks (Begins ∷ []) s))

-- ---- groups

inner_read : (f : ℕ → ℕ) (b : Braces) (is : List Inner) (s : Said) (more : List Tok)
    → ok f (in_group b) s (inner_tokens is more) ≡ (inner_say is s >>= (λ u. ok f (behind_braces b) u more))
unfolding step
inner_read f b [] s more = one_ok f (in_group b) s close_brace more
inner_read f b (inner_semicolon ∷ is) s more = one_ok f (in_group b) s semicolon (inner_tokens is more) ∙ inner_read f b is s more
inner_read f b (inner_name w ∷ is) s more =
    one_ok f (in_group b) s (name w.quoted w.text) (inner_tokens is more)
    ∙ pending_group f b w.text s (inner_tokens is more)
    ∙ bind_ext (vertex_says w s) (λ u. ok f (in_group b) u (inner_tokens is more)) _ (λ u. inner_read f b is u more)
    ∙ sym (bind_assoc (vertex_says w s) (inner_say is) (λ u. ok f (behind_braces b) u more))

-- the group that begins a chain
first_read : (f : ℕ → ℕ) (g : Group) (s : Said) (a : Arrow) (ts : List Tok)
    → ok f at_statement s (group_tokens g (edge a ∷ ts)) ≡ (group_says g (with_marks (Begins ∷ []) s) >>= (λ u. ok f after_first u (edge a ∷ ts)))
unfolding step
first_read f (single w) s a ts = one_ok f at_statement s (name w.quoted w.text) (edge a ∷ ts) ∙ name_then_edge f w.text s a ts
first_read f (braces is) s a ts =
    one_ok f at_statement s open_brace (inner_tokens is (edge a ∷ ts)) ∙ inner_read f which.First is (with_marks (Begins ∷ []) s) (edge a ∷ ts)

later_group_read : (f : ℕ → ℕ) (g : Group) (s : Said) (more : List Tok) → ok f after_edge s (group_tokens g more)
    ≡ (group_says g s >>= (λ u. ok f after_group u more))
unfolding step
later_group_read f (single w) s more = one_ok f after_edge s (name w.quoted w.text) more ∙ pending_chain f w.text s more
later_group_read f (braces is) s more = one_ok f after_edge s open_brace (inner_tokens is more) ∙ inner_read f which.Later is s more

links_read : (f : ℕ → ℕ) (ls : List (Arrow × Group)) (s : Said) (more : List Tok)
    → ok f after_group s (links_tokens ls more) ≡ (links_say ls s >>= (λ u. ok f after_group u more))
unfolding step
links_read f [] s more = refl
links_read f (l ∷ ls) s more =
    let joined = with_marks (Joined l.0 ∷ []) s in
    one_ok f after_group s (edge l.0) (group_tokens l.1 (links_tokens ls more))
    ∙ later_group_read f l.1 joined (links_tokens ls more)
    ∙ bind_ext (group_says l.1 joined) (λ u. ok f after_group u (links_tokens ls more)) _ (λ u. links_read f ls u more)
    ∙ sym (bind_assoc (group_says l.1 joined) (links_say ls) (λ u. ok f after_group u more))

first_links_read : (f : ℕ → ℕ) (l : Arrow × Group) (ls : List (Arrow × Group)) (s : Said) (more : List Tok)
    → ok f after_first s (links_tokens (l ∷ ls) more) ≡ (links_say (l ∷ ls) s >>= (λ u. ok f after_group u more))
unfolding step
first_links_read f l ls s more =
    one_ok f after_first s (edge l.0) (group_tokens l.1 (links_tokens ls more))
    ∙ sym (one_ok f after_group s (edge l.0) (group_tokens l.1 (links_tokens ls more)))
    ∙ links_read f (l ∷ ls) s more

-- ---- attributes

abbrev Enters : (ℕ → ℕ) → Option (List ℕ) → Position → Type 0
Enters f of p = (q : Bool) (n : List ℕ) (s : Said) (ts : List Tok) → ok f p s (name q n ∷ ts) ≡ ok f (attr_name of (f (length ts)) n) s ts

attr_read : (f : ℕ → ℕ) (of : Option (List ℕ)) (p : Position) → Enters f of p → (a : Attr) (s : Said) (ts : List Tok) → Unassigned ts
    → ok f p s (attr_tokens a ts) ≡ (attr_says of a s >>= (λ u. ok f (after_attr of) u ts))
unfolding step
attr_read f of p enters (bare w) s ts h = enters w.quoted w.text s ts ∙ pending_attr f of (f (length ts)) w.text s ts h
attr_read f of p enters (valued w d) s ts h =
    enters w.quoted w.text s (equals ∷ value d ∷ ts)
    ∙ one_ok f (attr_name of (f (length (equals ∷ value d ∷ ts))) w.text) s equals (value d ∷ ts)
    ∙ one_ok f (at_attr_value of) s (value d) ts

attr_unassigned : (a : Attr) (ts : List Tok) → Unassigned (attr_tokens a ts)
attr_unassigned (bare w) ts = tt
attr_unassigned (valued w d) ts = tt

later_unassigned : (ls : List Later) (more : List Tok) → Unassigned (later_tokens ls more)
later_unassigned [] more = tt
later_unassigned (next_attr a ∷ ls) more = attr_unassigned a (later_tokens ls more)
later_unassigned (comma_attr a ∷ ls) more = tt

later_read : (f : ℕ → ℕ) (of : Option (List ℕ)) (ls : List Later) (s : Said) (more : List Tok)
    → ok f (after_attr of) s (later_tokens ls more) ≡ (later_say of ls s >>= (λ u. ok f at_statement u more))
unfolding step
later_read f of [] s more = one_ok f (after_attr of) s close_bracket more
later_read f of (next_attr a ∷ ls) s more =
    attr_read f of (after_attr of) (λ q n u ts. one_ok f (after_attr of) u (name q n) ts) a s (later_tokens ls more) (later_unassigned ls more)
    ∙ bind_ext (attr_says of a s) (λ u. ok f (after_attr of) u (later_tokens ls more)) _ (λ u. later_read f of ls u more)
    ∙ sym (bind_assoc (attr_says of a s) (later_say of ls) (λ u. ok f at_statement u more))
later_read f of (comma_attr a ∷ ls) s more =
    one_ok f (after_attr of) s comma (attr_tokens a (later_tokens ls more))
    ∙ attr_read f of (after_comma of) (λ q n u ts. one_ok f (after_comma of) u (name q n) ts) a s (later_tokens ls more) (later_unassigned ls more)
    ∙ bind_ext (attr_says of a s) (λ u. ok f (after_attr of) u (later_tokens ls more)) _ (λ u. later_read f of ls u more)
    ∙ sym (bind_assoc (attr_says of a s) (later_say of ls) (λ u. ok f at_statement u more))

attr_list_read : (f : ℕ → ℕ) (of : Option (List ℕ)) (a : Attr) (ls : List Later) (s : Said) (more : List Tok)
    → ok f (at_attrs of) s (attr_tokens a (later_tokens ls more)) ≡ ((attr_says of a s >>= later_say of ls) >>= (λ u. ok f at_statement u more))
unfolding step
attr_list_read f of a ls s more =
    attr_read f of (at_attrs of) (λ q n u ts. one_ok f (at_attrs of) u (name q n) ts) a s (later_tokens ls more) (later_unassigned ls more)
    ∙ bind_ext (attr_says of a s) (λ u. ok f (after_attr of) u (later_tokens ls more)) _ (λ u. later_read f of ls u more)
    ∙ sym (bind_assoc (attr_says of a s) (later_say of ls) (λ u. ok f at_statement u more))

chain_attrs_read : (f : ℕ → ℕ) (attrs : Option Attrs) (s : Said) (ts : List Tok) → Starts ts
    → ok f after_group s (attrs_tokens attrs ts) ≡ (attrs_say None attrs s >>= (λ u. ok f at_statement u ts))
unfolding step
chain_attrs_read f None s ts h = group_then_start f s ts h
chain_attrs_read f (Some no_attr) s ts h = one_ok f after_group s open_bracket (close_bracket ∷ ts) ∙ one_ok f (at_attrs None) s close_bracket ts
chain_attrs_read f (Some (attr_list a ls)) s ts h = one_ok f after_group s open_bracket (attr_tokens a (later_tokens ls ts)) ∙ attr_list_read f None a ls s ts

name_attrs_read : (f : ℕ → ℕ) (n : List ℕ) (attrs : Option Attrs) (s : Said) (ts : List Tok) → Starts ts
    → ok f (after_name n) s (attrs_tokens attrs ts)
    ≡ (allowed (with_vertex n (with_marks (Begins ∷ []) s)) >>= (λ u. attrs_say (Some n) attrs u >>= (λ v. ok f at_statement v ts)))
unfolding step
name_attrs_read f n None s ts h = name_then_start f n s ts h
name_attrs_read f n (Some no_attr) s ts h =
    name_then_bracket f n s (close_bracket ∷ ts)
    ∙ bind_ext (allowed (with_vertex n (with_marks (Begins ∷ []) s))) (λ u. ok f (at_attrs (Some n)) u (close_bracket ∷ ts)) (λ u. ok f at_statement u ts)
    (λ u. one_ok f (at_attrs (Some n)) u close_bracket ts)
name_attrs_read f n (Some (attr_list a ls)) s ts h =
    name_then_bracket f n s (attr_tokens a (later_tokens ls ts))
    ∙ bind_ext (allowed (with_vertex n (with_marks (Begins ∷ []) s))) (λ u. ok f (at_attrs (Some n)) u (attr_tokens a (later_tokens ls ts))) _
    (λ u. attr_list_read f (Some n) a ls u ts)

-- ---- statements

statement_read : (f : ℕ → ℕ) (x : Statement) (s : Said) (ts : List Tok) → Starts ts
    → ok f at_statement s (statement_tokens x ts) ≡ (statement_says x s >>= (λ u. ok f at_statement u ts))
unfolding step
statement_read f lone_semicolon s ts h = one_ok f at_statement s semicolon ts
statement_read f (dropped w) s ts h =
    one_ok f at_statement s (name w.quoted w.text) (equals ∷ value true ∷ ts) ∙ one_ok f (after_name w.text) s equals (value true ∷ ts)
    ∙ one_ok f at_key_value s (value true) ts
statement_read f (vertex w attrs) s ts h =
    one_ok f at_statement s (name w.quoted w.text) (attrs_tokens attrs ts) ∙ name_attrs_read f w.text attrs s ts h
    ∙ sym (bind_assoc (vertex_says w (with_marks (Begins ∷ []) s)) (attrs_say (Some w.text) attrs) (λ u. ok f at_statement u ts))
statement_read f (chain g l ls attrs) s ts h =
    let begun = with_marks (Begins ∷ []) s in
    let all : (u : Said) → ok f after_first u (links_tokens (l ∷ ls) (attrs_tokens attrs ts))
    ≡ ((links_say (l ∷ ls) u >>= attrs_say None attrs) >>= (λ v. ok f at_statement v ts)) = λ u.
    first_links_read f l ls u (attrs_tokens attrs ts)
    ∙ bind_ext (links_say (l ∷ ls) u) (λ v. ok f after_group v (attrs_tokens attrs ts)) _ (λ v. chain_attrs_read f attrs v ts h)
    ∙ sym (bind_assoc (links_say (l ∷ ls) u) (attrs_say None attrs) (λ v. ok f at_statement v ts)) in
    first_read f g s l.0 (group_tokens l.1 (links_tokens ls (attrs_tokens attrs ts)))
    ∙ bind_ext (group_says g begun) (λ u. ok f after_first u (links_tokens (l ∷ ls) (attrs_tokens attrs ts))) _ all
    ∙ sym (bind_assoc (group_says g begun) (λ u. links_say (l ∷ ls) u >>= attrs_say None attrs) (λ v. ok f at_statement v ts))

body_read : (f : ℕ → ℕ) (xs : List Statement) (more : List Tok) (s : Said) → ok f at_statement s (body_tokens xs more) ≡ statements_say xs s
unfolding step
body_read f [] more s = one_ok f at_statement s close_brace (end ∷ more) ∙ one_ok f at_end s end more
body_read f (x ∷ xs) more s =
    statement_read f x s (body_tokens xs more) (body_starts xs more)
    ∙ bind_ext (statement_says x s) (λ u. ok f at_statement u (body_tokens xs more)) (statements_say xs) (λ u. body_read f xs more u)

title_read : (f : ℕ → ℕ) (title : Option Word) (xs : List Statement) (more : List Tok)
    → ok f at_start nothing (name false (codes "dag") ∷ title_tokens title (body_tokens xs more)) ≡ statements_say xs nothing
unfolding step
title_read f None xs more =
    one_ok f at_start nothing (name false (codes "dag")) (open_brace ∷ body_tokens xs more) ∙ one_ok f at_dag nothing open_brace (body_tokens xs more)
    ∙ body_read f xs more nothing
title_read f (Some w) xs more =
    one_ok f at_start nothing (name false (codes "dag")) (name w.quoted w.text ∷ open_brace ∷ body_tokens xs more)
    ∙ one_ok f at_dag nothing (name w.quoted w.text) (open_brace ∷ body_tokens xs more)
    ∙ one_ok f at_title nothing open_brace (body_tokens xs more) ∙ body_read f xs more nothing

-- What is accepted of the tokens of a text of the grammar is what the text says, and nothing where it says nothing.
pub text_read : (f : ℕ → ℕ) (t : Text) (more : List Tok) → ok f at_start nothing (text_tokens t more) ≡ text_says t
text_read f t more = title_read f t.title t.statements more
