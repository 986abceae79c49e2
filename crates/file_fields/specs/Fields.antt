-- Reading a file field by field: what a field holds, or the first field that is not whole or breaks
-- its rule. K is what fields can break.
use Rattle.std.specs.Prelude.{◌≡◌, ◌<◌, ℕ, ◌+◌, ◌-◌, Bool, not, ◌&&◌, nat_le, nat_lt, ◌==◌, List}
use Rattle.std.specs.Prelude.{◌∷◌, ◌++◌, length, take, drop, replicate, Result, Ok, Err}
use Rattle.std.specs.Prelude.{if◌then◌else◌, slice_index_or}
use Rattle.std.specs.Int.{Width, w8, byte_len, from_le_bytes}
use Rattle.std.specs.List.{list_all}
use Rattle.text_lex.specs.Spelled.{fits_name}
use Rattle.file_fields.specs.declared.faults.FileFault.{FileFault}

-- one field after another: the first fault is the answer, and what follows it is not read
infixl 10 ◌>>=◌
abbrev pub ◌>>=◌ : {K A B : Type 0} → Result A (FileFault K) → (A → Result B (FileFault K))
    → Result B (FileFault K)
(Ok x) >>= f = f x
(Err e) >>= f = Err e

-- the fault that a field is refused with: the place where it begins, and the rule it breaks
abbrev pub fault_at : {K : Type 0} → ℕ → K → FileFault K
fault_at at kind = record { at = at; kind = kind }

-- What a function returned, seen by view, is what reading gives.
abbrev pub Gives : {K X Y : Type 0} → (X → Y) → Result X (FileFault K) → Result Y (FileFault K)
    → Type 0
Gives view (Ok x) read = read ≡ Ok (view x)
Gives view (Err f) read = read ≡ Err f

-- a rule of the field at a place
abbrev pub rule : {K : Type 0} → Bool → ℕ → K → Result (Unit {0}) (FileFault K)
rule holds at kind = if holds then Ok tt else Err (fault_at at kind)

-- so many bytes from a place on. A file that ends before breaks short at its length
abbrev pub bytes_at : {K : Type 0} → K → ℕ → ℕ → List ℕ → Result (List ℕ) (FileFault K)
bytes_at short len at bytes = if nat_lt (length bytes) (at + len)
    then Err (fault_at (length bytes) short) else Ok (take len (drop at bytes))

-- the number of that width at a place, the low byte first
abbrev pub number_at : {K : Type 0} → K → Width → ℕ → List ℕ → Result ℕ (FileFault K)
number_at short w at bytes = bytes_at short (byte_len w) at bytes >>= λ field.
    Ok (from_le_bytes w field)

-- a number that has to pass a test
abbrev pub field_at : {K : Type 0} → K → Width → (ℕ → Bool) → K → ℕ → List ℕ
    → Result ℕ (FileFault K)
field_at short w passes kind at bytes = do
  n ← number_at short w at bytes
  fits ← rule (passes n) at kind
  Ok n

-- a field's number lies in a range, both ends included
abbrev pub is_between : ℕ → ℕ → ℕ → Bool
is_between low high n = nat_le low n && nat_le n high

-- each is a byte
abbrev pub IsBytes : List ℕ → Type 0
IsBytes bytes = (i : ℕ) → slice_index_or bytes i 0 < 256

-- the first so many bytes of the field are a name, and the others are 0
abbrev pub is_padded_name : ℕ → List ℕ → Bool
is_padded_name len field = fits_name (take len field) && list_all (λ b. b == 0) (drop len field)

-- a name's length, its bytes, and zeros up to 16
abbrev pub name_bytes : List ℕ → List ℕ
name_bytes name = length name ∷ (name ++ replicate (16 - length name) 0)

-- a name that is not taken, in a byte for its length and 16 for itself
unfoldable pub name_at : {K : Type 0} → K → K → (List ℕ → Bool) → ℕ → List ℕ
    → Result (List ℕ) (FileFault K)
name_at short kind taken at bytes = do
  len ← field_at short w8 (is_between 1 16) kind at bytes
  field ← bytes_at short 16 (at + 1) bytes
  new ← rule (is_padded_name len field && not (taken (take len field))) (at + 1) kind
  Ok (take len field)
