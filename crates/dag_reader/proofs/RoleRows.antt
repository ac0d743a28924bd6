-- The roles that the marks before the rest give.
use Rattle.std.proofs.Common.{◌≡◌, ◌<◌, ◌≤◌, ◌-◌, ℕ, Bool, true, false, List, [], ◌∷◌, length, drop, take, get_or, Option, Some, None, refl, sym, ap, subst}
use Rattle.std.proofs.Common.{◌∙◌, arith}
use Rattle.std.specs.Prelude.{◌||◌, ◌&&◌, ◌==◌, nat_lt}
use Rattle.std.specs.List.{list_all}
use Rattle.std.proofs.Math.Bool.{or_assoc}
use Rattle.std.proofs.lemmas.Bool.{and_parts, ltb-true}
use Rattle.std.proofs.lemmas.List.{take_rest}
use Rattle.dag_reader.specs.declared.marks.Arrow.{Arrow}
use Rattle.dag_reader.specs.declared.marks.Role.{Role}
use Rattle.dag_reader.specs.declared.marks.Remark.{Remark}
use Rattle.dag_reader.specs.declared.marks.Remark.TheVariants.{Begins, Joined, Member, HasRole}
use Rattle.dag_reader.specs.declared.roles.Roles.{Roles}
use Rattle.dag_reader.specs.MarkEnds.{is_inside}
use Rattle.dag_reader.specs.LoneEdges.{IsLone}
use Rattle.dag_reader.specs.Passes.{same_role, has_role, roles_behind, roles_of}
use Rattle.dag_reader.specs.RoleSets.{in_set}

-- the sets and the roles of the rest are those of all; `last` is the member before the rest
pub record RolesSoFar (marks rest : List Remark) (last : Option ℕ) (roles : Roles) : Type 0 where
  pub low : (v : ℕ) → last ≡ Some v → v < 64
  pub given : (r : Role) (v : ℕ) → (in_set roles r v || has_role (roles_behind last rest) r v) ≡ has_role (roles_of marks) r v

false_or : (a b : Bool) → a ≡ false → (a || b) ≡ b
false_or true b h = cc h
false_or false b h = refl

or_false : (a : Bool) → (a || false) ≡ a
or_false true = refl
or_false false = refl

pub roles_begin : (marks : List Remark) (roles : Roles) → ((r : Role) (v : ℕ) → in_set roles r v ≡ false) → RolesSoFar marks marks None roles
roles_begin marks roles none = record {
  low = λ v e. absurd (cc e);
  given = λ r v. false_or (in_set roles r v) (has_role (roles_of marks) r v) (none r v);
}

-- the rest, as its first mark and the others
pub first_mark : (rest : List Remark) (m : Remark) → 1 ≤ length rest → get_or rest 0 Begins ≡ m → rest ≡ m ∷ take (length rest - 1) (drop 1 rest)
first_mark [] m some is = absurd (omega arith)
first_mark (x ∷ xs) m some is = ap (λ (y : Remark). y ∷ xs) is ∙ ap (λ (l : List Remark). m ∷ l) (sym (take_rest (x ∷ xs) 1))

module _ (marks all ms : List Remark) (last : Option ℕ) (roles : Roles) (s : RolesSoFar marks all last roles) where
  pub roles_at_begins : all ≡ Begins ∷ ms → RolesSoFar marks ms last roles
  roles_at_begins is =
      let e = subst (λ (l : List Remark). RolesSoFar marks l last roles) is s in record { low = e.low; given = e.given }

  pub roles_at_joined : (a : Arrow) → all ≡ Joined a ∷ ms → RolesSoFar marks ms last roles
  roles_at_joined a is =
      let e = subst (λ (l : List Remark). RolesSoFar marks l last roles) is s in record { low = e.low; given = e.given }

  pub roles_at_member : (w : ℕ) → all ≡ Member w ∷ ms → list_all (is_inside 64) all ≡ true → RolesSoFar marks ms (Some w) roles
  roles_at_member w is inside =
      let e = subst (λ (l : List Remark). RolesSoFar marks l last roles) is s in
      let h : (nat_lt w 64 && list_all (is_inside 64) ms) ≡ true = sym (ap (λ (l : List Remark). list_all (is_inside 64) l) is) ∙ inside in
      let below : w < 64 = ltb-true w 64 (and_parts (nat_lt w 64) (list_all (is_inside 64) ms) h).0 in
      record { low = λ v same. subst (λ k. k < 64) (same_some w v same) below; given = e.given }
    where
      same_some : (w v : ℕ) → ◌≡◌ {A = Option ℕ} (Some w) (Some v) → w ≡ v
      same_some w v h = cc h

  pub roles_at_lone : (l : ℕ) (k : Arrow) (r : ℕ) → IsLone all l k r ms → r < 64 → RolesSoFar marks ms (Some r) roles
  roles_at_lone l k r is below =
      let e = subst (λ (x : List Remark). RolesSoFar marks x last roles) is.front s in
      record { low = λ v same. subst (λ k. k < 64) (same_some r v same) below; given = e.given }
    where
      same_some : (w v : ℕ) → ◌≡◌ {A = Option ℕ} (Some w) (Some v) → w ≡ v
      same_some w v h = cc h

front_or : (o p q c n : Bool) → n ≡ (o || (p || false)) → (o || (p || q)) ≡ c → (n || q) ≡ c
front_or o p q c n is h = ap (λ b. b || q) (is ∙ ap (λ b. o || b) (or_false p)) ∙ or_assoc o p q ∙ h

role_taken : (marks ms : List Remark) (last : Option ℕ) (roles more : Roles) (q : Role) → RolesSoFar marks (HasRole q ∷ ms) last roles
    → ((r : Role) (u : ℕ) → in_set more r u ≡ (in_set roles r u || has_role (roles_behind last (HasRole q ∷ [])) r u)) → RolesSoFar marks ms last more
role_taken marks ms None roles more q s is = record {
  low = s.low;
  given = λ r v. ap (λ b. b || has_role (roles_behind None ms) r v) (is r v ∙ or_false (in_set roles r v)) ∙ s.given r v;
}
role_taken marks ms (Some w) roles more q s is = record {
  low = s.low;
  given = λ r v. front_or (in_set roles r v) ((v == w) && same_role r q) (has_role (roles_behind (Some w) ms) r v) (has_role (roles_of marks) r v)
      (in_set more r v) (is r v) (s.given r v);
}

pub roles_at_role : (marks all ms : List Remark) (last : Option ℕ) (roles more : Roles) (q : Role) → RolesSoFar marks all last roles → all ≡ HasRole q ∷ ms
    → ((r : Role) (u : ℕ) → in_set more r u ≡ (in_set roles r u || has_role (roles_behind last (HasRole q ∷ [])) r u)) → RolesSoFar marks ms last more
roles_at_role marks all ms last roles more q s is joined =
    role_taken marks ms last roles more q (subst (λ (l : List Remark). RolesSoFar marks l last roles) is s) joined

pub roles_at_end : (marks rest : List Remark) (last : Option ℕ) (roles : Roles) → RolesSoFar marks rest last roles → rest ≡ []
    → (r : Role) (v : ℕ) → in_set roles r v ≡ has_role (roles_of marks) r v
roles_at_end marks rest last roles s is r v =
    let e = subst (λ (l : List Remark). RolesSoFar marks l last roles) is s in sym (or_false (in_set roles r v)) ∙ e.given r v

-- a role that is given to the member before, where there is one
pub with_some : (o : Bool) (last : Option ℕ) (v : ℕ) (q r : Role) (u : ℕ) → last ≡ Some v
    → (o || ((u == v) && same_role r q)) ≡ (o || has_role (roles_behind last (HasRole q ∷ [])) r u)
with_some o last v q r u is = rw is (ap (λ b. o || b) (sym (or_false ((u == v) && same_role r q))))

pub with_none : (o : Bool) (last : Option ℕ) (q r : Role) (u : ℕ) → last ≡ None → o ≡ (o || has_role (roles_behind last (HasRole q ∷ [])) r u)
with_none o last q r u is = rw is (sym (or_false o))
