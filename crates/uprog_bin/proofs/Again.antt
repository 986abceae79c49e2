-- What is spelled is read again.
use Rattle.uprog_bin.proofs.Common.{and_from, and_parts, ◌≡◌, ℕ, zero, suc, ◌+◌, ◌*◌, ◌^◌, ◌<◌}
use Rattle.uprog_bin.proofs.Common.{Bool, true, false, not, ◌&&◌, eqb, ltb, leb, List, [], ◌∷◌}
use Rattle.uprog_bin.proofs.Common.{length, Some, Result, Ok, refl, ap, ◌∙◌, subst, arith}
use Rattle.uprog_bin.proofs.Common.{slice_get, slice_index, slice_index_or, flat_map}
use Rattle.uprog_bin.proofs.Common.{AllByRecursion, eqb-true, ltb-true, leb-true, length-append}
use Rattle.uprog_bin.proofs.Common.{flat_map-cons, Uop, Shape, is_legal, is_first, is_second, ◌>>=◌}
use Rattle.uprog_bin.proofs.Common.{Holds, Holds-front, Holds-back, bytes_again}
use Rattle.std.proofs.lemmas.Nat.{from_le_bytes-to_le_bytes_2}
use Rattle.uprog_code.specs.declared.code.RowSpace.{RowSpace}
use Rattle.uprog_code.specs.declared.code.RowRef.{RowRef}
use Rattle.uprog_code.specs.declared.code.RowSpace.TheVariants as space
use Rattle.uprog_code.specs.declared.code.Uop.TheVariants as uop
use Rattle.uprog_bin.specs.declared.instruction.Raw.{Raw}
use Rattle.uprog_bin.specs.declared.opcode.Opcode.{Opcode}
use Rattle.uprog_bin.specs.declared.opcode.Opcode.TheVariants.{Done, SetI, SetN, SetT, Mov, Add}
use Rattle.uprog_bin.specs.declared.opcode.Opcode.TheVariants.{AddI, SubI, Bnez, Aap, Ap}
use Rattle.uprog_bin.specs.declared.opcode.TheConstants.{OPCODES, SPACES}
use Rattle.uprog_bin.specs.Spelling.{space_number, instruction_bytes}
use Rattle.uprog_bin.specs.Reading.{raw_of, operand, row_of, uop_as, uop_of, numbered, uop_at}
use Rattle.uprog_bin.specs.Reading.{uops_at}
use Rattle.uprog_bin.proofs.Found.{IsRead}
use Rattle.uprog_bin.specs.declared.fault.ProgKind.TheVariants as kinds

pub instruction_length : (i : Uop) → length (instruction_bytes i) ≡ 8
instruction_length uop.Done = refl
instruction_length (uop.SetI r k) = refl
instruction_length (uop.SetN r) = refl
instruction_length (uop.SetT r) = refl
instruction_length (uop.Mov r s) = refl
instruction_length (uop.Add r s) = refl
instruction_length (uop.AddI r k) = refl
instruction_length (uop.SubI r k) = refl
instruction_length (uop.Bnez r t) = refl
instruction_length (uop.Aap x y) = refl
instruction_length (uop.Ap x) = refl

space_back : (s : RowSpace) → slice_index_or SPACES (space_number s) space.Spill ≡ s
space_back space.B = refl
space_back space.C = refl
space_back space.Result = refl
space_back space.Source = refl
space_back space.ScratchBit = refl
space_back space.ScratchWord = refl
space_back space.Spill = refl

space_small : (s : RowSpace) → ltb (space_number s) 7 ≡ true
space_small space.B = refl
space_small space.C = refl
space_small space.Result = refl
space_small space.Source = refl
space_small space.ScratchBit = refl
space_small space.ScratchWord = refl
space_small space.Spill = refl

row_back : (x : RowRef) → row_of (record {
  space = space_number x.space;
  which = x.which;
  index = x.index;
}) ≡ x
row_back x =
    ap (λ (s : RowSpace). (let r : RowRef = record {
      space = s;
      which = x.which;
      index = x.index;
    } in r)) (space_back x.space)

first_back : (shape : Shape) (x : RowRef) → is_first shape x ≡ true
    → (ltb (space_number x.space) 7 && is_first shape
    (row_of (record { space = space_number x.space; which = x.which; index = x.index }))) ≡ true
first_back shape x h = and_from (ltb (space_number x.space) 7)
    (is_first shape (row_of (record {
      space = space_number x.space;
      which = x.which;
      index = x.index;
    }))) (space_small x.space) (ap (is_first shape) (row_back x) ∙ h)

second_back : (shape : Shape) (x : RowRef) → is_second shape x ≡ true
    → (ltb (space_number x.space) 7 && is_second shape
    (row_of (record { space = space_number x.space; which = x.which; index = x.index }))) ≡ true
second_back shape x h = and_from (ltb (space_number x.space) 7)
    (is_second shape (row_of (record {
      space = space_number x.space;
      which = x.which;
      index = x.index;
    }))) (space_small x.space) (ap (is_second shape) (row_back x) ∙ h)

open_end : (last : Bool) → (last ≡ true → ⊥) → not last ≡ true
open_end true h = absurd (h refl)
open_end false h = refl

-- an instruction's bytes are read as it
pub record IsAgain (shape : Shape) (size : ℕ) (last : Bool) (i : Uop) : Type 0 where
  pub opcode : Opcode
  pub number : slice_get OPCODES (slice_index (instruction_bytes i) 0) ≡ Some opcode
  pub read : IsRead opcode shape size last (raw_of (instruction_bytes i))
  pub is : uop_as opcode (raw_of (instruction_bytes i)) ≡ i

pub again : (shape : Shape) (size : ℕ) (last : Bool) (i : Uop) → size < 2 ^ 16
    → is_legal shape size i ≡ true → (last ≡ true → i ≡ uop.Done) → IsAgain shape size last i
again shape size last uop.Done small h l = record {
  opcode = Done;
  number = refl;
  read = record { formed = refl; target = refl; rows = refl; ends = refl };
  is = refl;
}
again shape size last (uop.SetI r k) small h l =
    let b = and_parts (ltb r 8) (leb k 1023) h in
    let x = (raw_of (instruction_bytes (uop.SetI r k))).x in
    let o : operand x ≡ k = from_le_bytes-to_le_bytes_2 k (omega (arith, leb-true k 1023 b.1)) in
    record {
      opcode = SetI;
      number = refl;
      read = record {
        formed = and_from (ltb r 8) (leb (operand x) 1023
            && true) b.0 (and_from (leb (operand x) 1023) true (ap (λ n. leb n 1023) o
            ∙ b.1) refl);
        target = refl;
        rows = refl;
        ends = open_end last (λ t. let e = l t in absurd cc);
      };
      is = ap (λ n. uop.SetI r n) o;
    }
again shape size last (uop.SetN r) small h l =
    record {
      opcode = SetN;
      number = refl;
      read = record {
        formed = and_from (ltb r 8) true h refl;
        target = refl;
        rows = refl;
        ends = open_end last (λ t. let e = l t in absurd cc);
      };
      is = refl;
    }
again shape size last (uop.SetT r) small h l =
    record {
      opcode = SetT;
      number = refl;
      read = record {
        formed = and_from (ltb r 8) true h refl;
        target = refl;
        rows = refl;
        ends = open_end last (λ t. let e = l t in absurd cc);
      };
      is = refl;
    }
again shape size last (uop.Mov r s) small h l =
    let b = and_parts (ltb r 8) (ltb s 8) h in
    record {
      opcode = Mov;
      number = refl;
      read = record {
        formed = and_from (ltb r 8) ((ltb s 8 && true)
            && true) b.0 (and_from (ltb s 8 && true) true (and_from (ltb s 8) true b.1 refl)
            refl);
        target = refl;
        rows = refl;
        ends = open_end last (λ t. let e = l t in absurd cc);
      };
      is = refl;
    }
again shape size last (uop.Add r s) small h l =
    let b = and_parts (ltb r 8) (ltb s 8) h in
    record {
      opcode = Add;
      number = refl;
      read = record {
        formed = and_from (ltb r 8) ((ltb s 8 && true)
            && true) b.0 (and_from (ltb s 8 && true) true (and_from (ltb s 8) true b.1 refl)
            refl);
        target = refl;
        rows = refl;
        ends = open_end last (λ t. let e = l t in absurd cc);
      };
      is = refl;
    }
again shape size last (uop.AddI r k) small h l =
    let b = and_parts (ltb r 8) (leb k 1023) h in
    let x = (raw_of (instruction_bytes (uop.AddI r k))).x in
    let o : operand x ≡ k = from_le_bytes-to_le_bytes_2 k (omega (arith, leb-true k 1023 b.1)) in
    record {
      opcode = AddI;
      number = refl;
      read = record {
        formed = and_from (ltb r 8) (leb (operand x) 1023
            && true) b.0 (and_from (leb (operand x) 1023) true (ap (λ n. leb n 1023) o
            ∙ b.1) refl);
        target = refl;
        rows = refl;
        ends = open_end last (λ t. let e = l t in absurd cc);
      };
      is = ap (λ n. uop.AddI r n) o;
    }
again shape size last (uop.SubI r k) small h l =
    let b = and_parts (ltb r 8) (leb k 1023) h in
    let x = (raw_of (instruction_bytes (uop.SubI r k))).x in
    let o : operand x ≡ k = from_le_bytes-to_le_bytes_2 k (omega (arith, leb-true k 1023 b.1)) in
    record {
      opcode = SubI;
      number = refl;
      read = record {
        formed = and_from (ltb r 8) (leb (operand x) 1023
            && true) b.0 (and_from (leb (operand x) 1023) true (ap (λ n. leb n 1023) o
            ∙ b.1) refl);
        target = refl;
        rows = refl;
        ends = open_end last (λ t. let e = l t in absurd cc);
      };
      is = ap (λ n. uop.SubI r n) o;
    }
again shape size last (uop.Bnez r t) small h l =
    let b = and_parts (ltb r 8) (ltb t size) h in
    let x = (raw_of (instruction_bytes (uop.Bnez r t))).x in
    let o : operand x ≡ t = from_le_bytes-to_le_bytes_2 t (omega (arith, ltb-true t size b.1)) in
    record {
      opcode = Bnez;
      number = refl;
      read = record {
        formed = and_from (ltb r 8) true b.0 refl;
        target = ap (λ n. ltb n size) o
            ∙ b.1;
        rows = refl;
        ends = open_end last (λ u. let e = l u in absurd cc);
      };
      is = ap (λ n. uop.Bnez r n) o;
    }
again shape size last (uop.Aap x y) small h l =
    let b = and_parts (is_first shape x) (is_second shape y) h in
    record {
      opcode = Aap;
      number = refl;
      read = record {
        formed = refl;
        target = refl;
        rows = and_from (ltb (space_number x.space) 7
            && is_first shape (row_of (record {
              space = space_number x.space;
              which = x.which;
              index = x.index;
            }))) (ltb (space_number y.space) 7
            && is_second shape (row_of (record {
              space = space_number y.space;
              which = y.which;
              index = y.index;
            }))) (first_back shape x b.0) (second_back shape y b.1);
        ends = open_end last (λ t. let e = l t in absurd cc);
      };
      is = ap (λ (a : RowRef). uop.Aap a (row_of (record {
        space = space_number y.space;
        which = y.which;
        index = y.index;
      }))) (row_back x)
          ∙ ap (λ (a : RowRef). uop.Aap x a) (row_back y);
    }
again shape size last (uop.Ap x) small h l =
    record {
      opcode = Ap;
      number = refl;
      read = record {
        formed = refl;
        target = refl;
        rows = first_back shape x h;
        ends = open_end last (λ t. let e = l t in absurd cc);
      };
      is = ap (λ (a : RowRef). uop.Ap a) (row_back x);
    }

uop_made : (k : Opcode) (shape : Shape) (size : ℕ) (last : Bool) (at : ℕ) (r : Raw)
    → IsRead k shape size last r → uop_of k shape size last at r ≡ Ok (uop_as k r)
uop_made k shape size last at r h = rw (h.formed, h.target, h.rows, h.ends) refl

pub uop_again : (shape : Shape) (size : ℕ) (last : Bool) (at : ℕ) (bytes : List ℕ) (i : Uop)
    → Holds bytes at (instruction_bytes i) (at + 8) → IsAgain shape size last i
    → uop_at shape size last at bytes ≡ Ok i
unfolding uop_at
uop_again shape size last at bytes i h a =
    let field = bytes_again kinds.Short 8 at (at + 8) bytes (instruction_bytes i) h
    (instruction_length i) in
    let read : Result (List ℕ) _ → Result Uop _ =
    λ f. f >>= λ field. numbered (slice_get OPCODES (slice_index field 0)) shape size last at
    (raw_of field) in
    ap read field
    ∙ ap (λ o. numbered o shape size last at (raw_of (instruction_bytes i))) a.number
    ∙ uop_made a.opcode shape size last at (raw_of (instruction_bytes i)) a.read
    ∙ ap (λ (u : Uop). Ok u) a.is

-- code takes eight bytes for each instruction
pub length-code : (code : List Uop) → length (flat_map instruction_bytes code) ≡ 8 * length code
length-code [] = refl
length-code (i ∷ code) = ap length (flat_map-cons instruction_bytes i code)
    ∙ omega (
      arith,
      length-append (instruction_bytes i) (flat_map instruction_bytes code),
      instruction_length i,
      length-code code,
    )

pub uops_again : (n : ℕ) (shape : Shape) (size at : ℕ) (bytes : List ℕ) (code : List Uop)
    → length code ≡ n → size < 2 ^ 16 → AllByRecursion (λ i. is_legal shape size i ≡ true) code
    → ((k : ℕ) → n ≡ suc k → slice_get code k ≡ Some uop.Done)
    → Holds bytes at (flat_map instruction_bytes code) (at + 8 * n)
    → uops_at n shape size at bytes ≡ Ok code
unfolding uops_at
uops_again zero shape size at bytes [] e small legal last h = refl
uops_again zero shape size at bytes (i ∷ code) e small legal last h = absurd (omega arith)
uops_again (suc n) shape size at bytes [] e small legal last h = absurd (omega arith)
uops_again (suc n) shape size at bytes (i ∷ code) e small legal last h =
    let split = subst (λ (t : List ℕ). Holds bytes at t (at + 8 * suc n))
    (flat_map-cons instruction_bytes i code) h in
    let place : at + 8 ≡ at + length (instruction_bytes i) = omega (arith, instruction_length i) in
    let front = Holds-front bytes at (instruction_bytes i) (at + 8)
    (flat_map instruction_bytes code) (at + 8 * suc n) split place in
    let back = Holds-back bytes at (instruction_bytes i) (at + 8) (flat_map instruction_bytes code)
    (at + 8 * suc n) split place in
    let end : at + 8 * suc n ≡ at + 8 + 8 * n = omega arith in
    let one = uop_again shape size (eqb n 0) at bytes i front
    (again shape size (eqb n 0) i small legal.0 (λ t. ends i code n (eqb-true n 0 t) last)) in
    let rest = uops_again n shape size (at + 8) bytes code (omega arith) small legal.1 (λ k f.
    last (suc k) (ap (λ m. suc m) f)) (subst
    (Holds bytes (at + 8) (flat_map instruction_bytes code)) end back) in
    rw (one, rest) refl
  where
    ends : (i : Uop) (code : List Uop) (n : ℕ) → n ≡ 0
        → ((k : ℕ) → suc n ≡ suc k → slice_get (i ∷ code) k ≡ Some uop.Done) → i ≡ uop.Done
    ends i code n z last = let first : Some i ≡ Some uop.Done = last 0 (ap (λ m. suc m) z) in cc
