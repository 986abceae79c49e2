-- An instruction is its spelling, and its spelling is read.
use Rattle.uprog_bin.proofs.Common.{and_parts, ◌≡◌, ℕ, zero, suc, ◌<◌, Bool, true, false, ◌&&◌, eqb}
use Rattle.uprog_bin.proofs.Common.{ltb, leb, List, [], ◌∷◌, ◌++◌, length, get_or, Some, refl, sym}
use Rattle.uprog_bin.proofs.Common.{ap, ◌∙◌, arith, slice_get, slice_index_or, w16, to_le_bytes}
use Rattle.uprog_bin.proofs.Common.{eqb-true, ltb-true, Shape, is_first, is_second}
use Rattle.std.proofs.lemmas.Nat.{le_bytes_2}
use Rattle.uprog_code.specs.declared.code.RowSpace.TheVariants as space
use Rattle.uprog_bin.specs.declared.instruction.RawRow.{RawRow}
use Rattle.uprog_bin.specs.declared.instruction.Raw.{Raw}
use Rattle.uprog_bin.specs.declared.opcode.Opcode.{Opcode}
use Rattle.uprog_bin.specs.declared.opcode.Opcode.TheVariants.{Done, SetI, SetN, SetT, Mov, Add}
use Rattle.uprog_bin.specs.declared.opcode.Opcode.TheVariants.{AddI, SubI, Bnez, Aap, Ap}
use Rattle.uprog_bin.specs.declared.opcode.TheConstants.{OPCODES, SPACES}
use Rattle.uprog_bin.specs.Spelling.{space_number, instruction_bytes, zeros}
use Rattle.uprog_bin.specs.Reading.{raw_of, is_zero, has_register, has_second, operand, row_of}
use Rattle.uprog_bin.specs.Reading.{ends_at_y, is_formed, has_rows, uop_as}

-- the number of an instruction, and its place among them
abbrev pub number_of : Opcode → ℕ
number_of Done = 0
number_of SetI = 1
number_of SetN = 2
number_of SetT = 3
number_of Mov = 4
number_of Add = 5
number_of AddI = 6
number_of SubI = 7
number_of Bnez = 8
number_of Aap = 9
number_of Ap = 10

pub number_is : (n : ℕ) (k : Opcode) → slice_get OPCODES n ≡ Some k → n ≡ number_of k
number_is zero k e = let h : Done ≡ k = cc in ap number_of h
number_is (suc zero) k e = let h : SetI ≡ k = cc in ap number_of h
number_is (suc (suc zero)) k e = let h : SetN ≡ k = cc in ap number_of h
number_is (suc (suc (suc zero))) k e = let h : SetT ≡ k = cc in ap number_of h
number_is (suc (suc (suc (suc zero)))) k e = let h : Mov ≡ k = cc in ap number_of h
number_is (suc (suc (suc (suc (suc zero))))) k e = let h : Add ≡ k = cc in ap number_of h
number_is (suc (suc (suc (suc (suc (suc zero)))))) k e = let h : AddI ≡ k = cc in ap number_of h
number_is (suc (suc (suc (suc (suc (suc (suc zero))))))) k e = let h : SubI ≡ k = cc in
    ap number_of h
number_is (suc (suc (suc (suc (suc (suc (suc (suc zero)))))))) k e = let h : Bnez ≡ k = cc in
    ap number_of h
number_is (suc (suc (suc (suc (suc (suc (suc (suc (suc zero))))))))) k e = let h : Aap ≡ k = cc in
    ap number_of h
number_is (suc (suc (suc (suc (suc (suc (suc (suc (suc (suc zero)))))))))) k e = let h : Ap ≡ k =
    cc in ap number_of h
number_is (suc (suc (suc (suc (suc (suc (suc (suc (suc (suc (suc n))))))))))) k e = absurd cc

space_is : (n : ℕ) → n < 7 → space_number (slice_index_or SPACES n space.Spill) ≡ n
space_is zero h = refl
space_is (suc zero) h = refl
space_is (suc (suc zero)) h = refl
space_is (suc (suc (suc zero))) h = refl
space_is (suc (suc (suc (suc zero)))) h = refl
space_is (suc (suc (suc (suc (suc zero))))) h = refl
space_is (suc (suc (suc (suc (suc (suc zero)))))) h = refl
space_is (suc (suc (suc (suc (suc (suc (suc n))))))) h = absurd (omega arith)

-- the bytes of an instruction, before they are read
abbrev pub text_of : Raw → List ℕ
text_of r = r.number ∷ r.x.space ∷ r.x.which ∷ r.x.index ∷ r.y.space ∷ r.y.which ∷ r.y.index
    ∷ r.spare ∷ []

pub text-raw : (field : List ℕ) → length field ≡ 8 → text_of (raw_of field) ≡ field
text-raw [] e = absurd (omega arith)
text-raw (a ∷ []) e = absurd (omega arith)
text-raw (a ∷ b ∷ []) e = absurd (omega arith)
text-raw (a ∷ b ∷ c ∷ []) e = absurd (omega arith)
text-raw (a ∷ b ∷ c ∷ d ∷ []) e = absurd (omega arith)
text-raw (a ∷ b ∷ c ∷ d ∷ f ∷ []) e = absurd (omega arith)
text-raw (a ∷ b ∷ c ∷ d ∷ f ∷ g ∷ []) e = absurd (omega arith)
text-raw (a ∷ b ∷ c ∷ d ∷ f ∷ g ∷ h ∷ []) e = absurd (omega arith)
text-raw (a ∷ b ∷ c ∷ d ∷ f ∷ g ∷ h ∷ i ∷ []) e = refl
text-raw (a ∷ b ∷ c ∷ d ∷ f ∷ g ∷ h ∷ i ∷ j ∷ more) e = absurd (omega arith)

-- the second and third byte as a number, and back
operand_text : (x : RawRow) → x.which < 256 → x.index < 256
    → to_le_bytes w16 (operand x) ≡ x.which ∷ x.index ∷ []
operand_text x w i = le_bytes_2 (x.which ∷ x.index ∷ []) (operand x) refl fits refl
  where
    fits : (k : ℕ) → get_or (x.which ∷ x.index ∷ []) k 0 < 256
    fits zero = w
    fits (suc zero) = i
    fits (suc (suc k)) = omega arith

pub record IsZero (x : RawRow) : Type 0 where
  pub space : x.space ≡ 0
  pub which : x.which ≡ 0
  pub index : x.index ≡ 0

zero_is : (x : RawRow) → is_zero x ≡ true → IsZero x
zero_is x h =
    let a = and_parts (eqb x.space 0) (eqb x.which 0 && eqb x.index 0) h in
    let b = and_parts (eqb x.which 0) (eqb x.index 0) a.1 in
    record {
      space = eqb-true x.space 0 a.0;
      which = eqb-true x.which 0 b.0;
      index = eqb-true x.index 0 b.1;
    }

-- bytes 4 to 7 are 0
ends_is : (r : Raw) → ends_at_y r ≡ true → (r.y.space ∷ r.y.which ∷ r.y.index ∷ r.spare ∷ [])
    ≡ zeros 4
ends_is r h =
    let a = and_parts (is_zero r.y) (eqb r.spare 0) h in
    let y = zero_is r.y a.0 in
    let s = eqb-true r.spare 0 a.1 in
    rw (y.space, y.which, y.index, s) refl

-- an instruction that was read is spelled so
pub instruction_text : (k : Opcode) (shape : Shape) (r : Raw) → r.x.which < 256 → r.x.index < 256
    → is_formed k r ≡ true → has_rows k shape r ≡ true
    → (number_of k ∷ r.x.space ∷ r.x.which ∷ r.x.index ∷ r.y.space ∷ r.y.which ∷ r.y.index ∷ r.spare
    ∷ []) ≡ instruction_bytes (uop_as k r)
instruction_text Done shape r w i f h =
    let a = and_parts (is_zero r.x) (ends_at_y r) f in
    let x = zero_is r.x a.0 in
    ap (λ (t : List ℕ). 0 ∷ r.x.space ∷ r.x.which ∷ r.x.index ∷ t) (ends_is r a.1)
    ∙ rw (x.space, x.which, x.index) refl
instruction_text SetI shape r w i f h =
    let a = and_parts (has_register r.x) (leb (operand r.x) 1023 && ends_at_y r) f in
    let b = and_parts (leb (operand r.x) 1023) (ends_at_y r) a.1 in
    ap (λ (t : List ℕ). 1 ∷ r.x.space ∷ r.x.which ∷ r.x.index ∷ t) (ends_is r b.1)
    ∙ ap (λ (t : List ℕ). 1 ∷ r.x.space ∷ (t ++ zeros 4)) (sym (operand_text r.x w i))
instruction_text SetN shape r w i f h =
    let a = and_parts (has_register r.x) ((eqb r.x.which 0 && eqb r.x.index 0) && ends_at_y r) f in
    let b = and_parts (eqb r.x.which 0 && eqb r.x.index 0) (ends_at_y r) a.1 in
    let c = and_parts (eqb r.x.which 0) (eqb r.x.index 0) b.0 in
    ap (λ (t : List ℕ). 2 ∷ r.x.space ∷ r.x.which ∷ r.x.index ∷ t) (ends_is r b.1)
    ∙ rw (eqb-true r.x.which 0 c.0, eqb-true r.x.index 0 c.1) refl
instruction_text SetT shape r w i f h =
    let a = and_parts (has_register r.x) ((eqb r.x.which 0 && eqb r.x.index 0) && ends_at_y r) f in
    let b = and_parts (eqb r.x.which 0 && eqb r.x.index 0) (ends_at_y r) a.1 in
    let c = and_parts (eqb r.x.which 0) (eqb r.x.index 0) b.0 in
    ap (λ (t : List ℕ). 3 ∷ r.x.space ∷ r.x.which ∷ r.x.index ∷ t) (ends_is r b.1)
    ∙ rw (eqb-true r.x.which 0 c.0, eqb-true r.x.index 0 c.1) refl
instruction_text Mov shape r w i f h =
    let a = and_parts (has_register r.x) ((has_second r.x && eqb r.x.index 0) && ends_at_y r) f in
    let b = and_parts (has_second r.x && eqb r.x.index 0) (ends_at_y r) a.1 in
    let c = and_parts (has_second r.x) (eqb r.x.index 0) b.0 in
    ap (λ (t : List ℕ). 4 ∷ r.x.space ∷ r.x.which ∷ r.x.index ∷ t) (ends_is r b.1)
    ∙ rw (eqb-true r.x.index 0 c.1) refl
instruction_text Add shape r w i f h =
    let a = and_parts (has_register r.x) ((has_second r.x && eqb r.x.index 0) && ends_at_y r) f in
    let b = and_parts (has_second r.x && eqb r.x.index 0) (ends_at_y r) a.1 in
    let c = and_parts (has_second r.x) (eqb r.x.index 0) b.0 in
    ap (λ (t : List ℕ). 5 ∷ r.x.space ∷ r.x.which ∷ r.x.index ∷ t) (ends_is r b.1)
    ∙ rw (eqb-true r.x.index 0 c.1) refl
instruction_text AddI shape r w i f h =
    let a = and_parts (has_register r.x) (leb (operand r.x) 1023 && ends_at_y r) f in
    let b = and_parts (leb (operand r.x) 1023) (ends_at_y r) a.1 in
    ap (λ (t : List ℕ). 6 ∷ r.x.space ∷ r.x.which ∷ r.x.index ∷ t) (ends_is r b.1)
    ∙ ap (λ (t : List ℕ). 6 ∷ r.x.space ∷ (t ++ zeros 4)) (sym (operand_text r.x w i))
instruction_text SubI shape r w i f h =
    let a = and_parts (has_register r.x) (leb (operand r.x) 1023 && ends_at_y r) f in
    let b = and_parts (leb (operand r.x) 1023) (ends_at_y r) a.1 in
    ap (λ (t : List ℕ). 7 ∷ r.x.space ∷ r.x.which ∷ r.x.index ∷ t) (ends_is r b.1)
    ∙ ap (λ (t : List ℕ). 7 ∷ r.x.space ∷ (t ++ zeros 4)) (sym (operand_text r.x w i))
instruction_text Bnez shape r w i f h =
    let a = and_parts (has_register r.x) (ends_at_y r) f in
    ap (λ (t : List ℕ). 8 ∷ r.x.space ∷ r.x.which ∷ r.x.index ∷ t) (ends_is r a.1)
    ∙ ap (λ (t : List ℕ). 8 ∷ r.x.space ∷ (t ++ zeros 4)) (sym (operand_text r.x w i))
instruction_text Aap shape r w i f h =
    let a = and_parts (ltb r.x.space 7 && is_first shape (row_of r.x)) (ltb r.y.space 7
    && is_second shape (row_of r.y)) h in
    let x = space_is r.x.space (ltb-true r.x.space 7
    (and_parts (ltb r.x.space 7) (is_first shape (row_of r.x)) a.0).0) in
    let y = space_is r.y.space (ltb-true r.y.space 7
    (and_parts (ltb r.y.space 7) (is_second shape (row_of r.y)) a.1).0) in
    ap (λ s. 9 ∷ r.x.space ∷ r.x.which ∷ r.x.index ∷ r.y.space ∷ r.y.which ∷ r.y.index ∷ s
    ∷ []) (eqb-true r.spare 0 f)
    ∙ ap (λ s. 9 ∷ s ∷ r.x.which ∷ r.x.index ∷ r.y.space ∷ r.y.which ∷ r.y.index ∷ 0 ∷ []) (sym x)
    ∙ ap (λ s. 9 ∷ space_number (row_of r.x).space ∷ r.x.which ∷ r.x.index ∷ s ∷ r.y.which
    ∷ r.y.index ∷ 0 ∷ []) (sym y)
instruction_text Ap shape r w i f h =
    let x = space_is r.x.space (ltb-true r.x.space 7
    (and_parts (ltb r.x.space 7) (is_first shape (row_of r.x)) h).0) in
    ap (λ (t : List ℕ). 10 ∷ r.x.space ∷ r.x.which ∷ r.x.index ∷ t) (ends_is r f)
    ∙ ap (λ s. 10 ∷ s ∷ r.x.which ∷ r.x.index ∷ zeros 4) (sym x)
