-- Marks whose members are among the names.
use Rattle.std.specs.Prelude.{ℕ, Bool, true, nat_lt}
use Rattle.dag_reader.specs.declared.marks.Remark.{Remark}
use Rattle.dag_reader.specs.declared.marks.Remark.TheVariants.{Begins, Joined, Member, HasRole}

-- a member is the index of one of n names
abbrev pub is_inside : ℕ → Remark → Bool
is_inside n Begins = true
is_inside n (Joined a) = true
is_inside n (Member v) = nat_lt v n
is_inside n (HasRole r) = true
