-- Keys of short names: numbers that tell them apart.
use Rattle.std.specs.Prelude.{ℕ, ◌≡◌, ◌<◌, ◌+◌, ◌*◌, List, [], ◌∷◌, length, All, nat_lt, slice_index, slice_index_or, if◌then◌else◌}

-- a number with the bytes behind it as further digits to the base 256
abbrev pub digits_on : ℕ → List ℕ → ℕ
digits_on n [] = n
digits_on n (b ∷ bs) = digits_on (n * 256 + b) bs

-- the key of a name: its length, and then its bytes, as digits to the base 256; 0 for a name of more than seven bytes
abbrev pub key_of : List ℕ → ℕ
key_of name = if nat_lt 7 (length name) then 0 else length name * 72057594037927936 + digits_on 0 name

-- these numbers are bytes
abbrev pub AreBytes : List ℕ → Type 0
AreBytes = All (λ b. b < 256)

-- the first keys are those of the names; a name with a key is made of bytes
pub record AreKeys (keys : List ℕ) (names : List (List ℕ)) : Type 0 where
  pub same : (i : ℕ) → i < length names → slice_index keys i ≡ key_of (slice_index_or names i [])
  pub bytes : (i : ℕ) → i < length names → (key_of (slice_index_or names i []) ≡ 0 → ⊥) → AreBytes (slice_index_or names i [])

-- the number is the key of the name, and a name with a key is made of bytes
pub record IsKeyed (name : List ℕ) (key : ℕ) : Type 0 where
  pub same : key ≡ key_of name
  pub bytes : (key ≡ 0 → ⊥) → AreBytes name
