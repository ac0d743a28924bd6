-- The table of kinds is held against the definitions at each of the 256 bytes, by computing.
use Rattle.std.proofs.Common.{◌≡◌, ℕ, ◌<◌, Bool, true, nat_eq, nat_le, get_or, List, refl}
use Rattle.std.proofs.lemmas.Bool.{agree_below, agree_below_at}
use Rattle.answer_text.specs.Vocabulary.{is_white, is_edge_byte, is_name_byte}
use Rattle.dag_reader.specs.Bytes.{begins_name}
use Rattle.dag_reader.specs.declared.bytes.TheConstants.{KINDS}

-- a kind of the table is a test of bytes
from_table : (table : List ℕ) (kind : ℕ) (test : ℕ → Bool) (b : ℕ) → b < 256
    → agree_below (λ k. nat_eq (get_or table k 0) kind) test 256 ≡ true → nat_eq (get_or table b 0) kind ≡ test b
from_table table kind test b lt h = agree_below_at (λ k. nat_eq (get_or table k 0) kind) test 256 b h lt

pub white_kind : (b : ℕ) → b < 256 → nat_eq (get_or KINDS b 0) 98 ≡ is_white b
white_kind b lt = from_table KINDS 98 is_white b lt refl

pub edge_kind : (b : ℕ) → b < 256 → nat_eq (get_or KINDS b 0) 101 ≡ is_edge_byte b
edge_kind b lt = from_table KINDS 101 is_edge_byte b lt refl

pub sure_kind : (b : ℕ) → b < 256 → nat_eq (get_or KINDS b 0) 110 ≡ begins_name b
sure_kind b lt = from_table KINDS 110 begins_name b lt refl

-- the kinds of names come last
pub name_kind : (b : ℕ) → b < 256 → nat_le 110 (get_or KINDS b 0) ≡ is_name_byte b
name_kind b lt = agree_below_at (λ k. nat_le 110 (get_or KINDS k 0)) is_name_byte 256 b refl lt
