-- An entry of a file that was read.
use Rattle.uprog_bin.proofs.Common.{and_from, and_parts, ◌≡◌, ℕ, zero, suc, ◌+◌, ◌-◌, ◌*◌, ◌/◌, ◌^◌}
use Rattle.uprog_bin.proofs.Common.{◌<◌, ◌≤◌, Bool, true, false, not, ◌&&◌, eqb, ltb, leb, List, []}
use Rattle.uprog_bin.proofs.Common.{◌∷◌, length, take, drop, Some, None, Ok, refl, sym, ap, ◌∙◌}
use Rattle.uprog_bin.proofs.Common.{subst, arith, cond, slice_get, slice_index, slice_index_or}
use Rattle.uprog_bin.proofs.Common.{AllByRecursion, position, bytes_eq, drop-drop, take_at, Uop}
use Rattle.uprog_bin.proofs.Common.{Shape, Microprogram, shape_of, is_legal, is_first, is_second}
use Rattle.uprog_bin.proofs.Common.{◌>>=◌, rule, bind_ok, ok_is, rule_ok, bytes_takes}
use Rattle.std.proofs.Common.{Option}
use Rattle.std.specs.List.{position_or_len}
use Rattle.std.proofs.lemmas.Option.{get_or_from_slice_get, slice_get_read}
use Rattle.std.proofs.lemmas.List.{drop-take, take-take, length-take, length-drop}
use Rattle.uprog_code.specs.Legal.{IsLegalCode}
use Rattle.uprog_code.specs.declared.code.Uop.TheVariants as uop
use Rattle.uprog_bin.specs.declared.fault.ProgKind.TheVariants as kinds
use Rattle.uprog_bin.specs.declared.directory.Listed.{Listed}
use Rattle.uprog_bin.specs.declared.instruction.Raw.{Raw}
use Rattle.uprog_bin.specs.declared.opcode.Opcode.{Opcode}
use Rattle.uprog_bin.specs.declared.opcode.Opcode.TheVariants.{Done, SetI, SetN, SetT, Mov, Add}
use Rattle.uprog_bin.specs.declared.opcode.Opcode.TheVariants.{AddI, SubI, Bnez, Aap, Ap}
use Rattle.uprog_bin.specs.declared.opcode.TheConstants.{OPCODES}
use Rattle.uprog_bin.specs.Reading.{bytes_at, raw_of, has_register, has_second, operand, row_of}
use Rattle.uprog_bin.specs.Reading.{ends_at_y, is_formed, has_target, has_rows, ends_code, uop_as}
use Rattle.uprog_bin.specs.Reading.{uop_of, numbered, uop_at, uops_at, codes_at, codes_start}
use Rattle.uprog_bin.specs.Reading.{total_count, Listing, listing_of, listings_of, is_named}
use Rattle.uprog_bin.specs.Opened.{EntryBytes, File, file_of, programs_in, uop_in, uops_in, code_of}
use Rattle.uprog_bin.specs.Opened.{program_of, count_before, code_place, AreStarts, IsOpened}
use Rattle.uprog_bin.proofs.Files.{codes_length, entries_are}
use Rattle.uprog_bin.proofs.Uops.{length-uops}

-- the rules of an instruction that was read
pub record IsRead (k : Opcode) (shape : Shape) (size : ℕ) (last : Bool) (r : Raw) : Type 0 where
  pub formed : is_formed k r ≡ true
  pub target : has_target k size r ≡ true
  pub rows : has_rows k shape r ≡ true
  pub ends : ends_code k last ≡ true

pub uop_read : (k : Opcode) (shape : Shape) (size : ℕ) (last : Bool) (at : ℕ) (r : Raw) (i : Uop)
    → uop_of k shape size last at r ≡ Ok i → (i ≡ uop_as k r) × IsRead k shape size last r
uop_read k shape size last at r i e =
    let a = bind_ok (rule (is_formed k r) at kinds.Instruction) (λ _.
    rule (has_target k size r) at kinds.Target >>= λ _.
    rule (has_rows k shape r) at kinds.Row >>= λ _.
    rule (ends_code k last) at kinds.NoDone >>= λ _. Ok (uop_as k r)) i e in
    let b = bind_ok (rule (has_target k size r) at kinds.Target) (λ _.
    rule (has_rows k shape r) at kinds.Row >>= λ _.
    rule (ends_code k last) at kinds.NoDone >>= λ _. Ok (uop_as k r)) i a.2 in
    let c = bind_ok (rule (has_rows k shape r) at kinds.Row) (λ _.
    rule (ends_code k last) at kinds.NoDone >>= λ _. Ok (uop_as k r)) i b.2 in
    let d = bind_ok (rule (ends_code k last) at kinds.NoDone) (λ _. Ok (uop_as k r)) i c.2 in (
      sym (ok_is (uop_as k r) i d.2),
      record {
        formed = rule_ok (is_formed k r) at kinds.Instruction a.0 a.1;
        target = rule_ok (has_target k size r) at kinds.Target b.0 b.1;
        rows = rule_ok (has_rows k shape r) at kinds.Row c.0 c.1;
        ends = rule_ok (ends_code k last) at kinds.NoDone d.0 d.1;
      },
    )

numbered_read : (o : Option Opcode) (shape : Shape) (size : ℕ) (last : Bool) (at : ℕ) (r : Raw)
    (i : Uop) → numbered o shape size last at r ≡ Ok i → (k : Opcode) × (o ≡ Some k)
    × (i ≡ uop_as k r) × IsRead k shape size last r
numbered_read None shape size last at r i e = absurd cc
numbered_read (Some k) shape size last at r i e = let h = uop_read k shape size last at r i e in
    (k, refl, h.0, h.1)

-- what is known of an instruction that was read
pub record IsUop (shape : Shape) (size : ℕ) (last : Bool) (field : List ℕ) (i : Uop) : Type 0 where
  pub opcode : Opcode
  pub number : slice_get OPCODES (slice_index field 0) ≡ Some opcode
  pub is : i ≡ uop_as opcode (raw_of field)
  pub read : IsRead opcode shape size last (raw_of field)

pub uop_at_read : (shape : Shape) (size : ℕ) (last : Bool) (at : ℕ) (bytes : List ℕ) (i : Uop)
    → uop_at shape size last at bytes ≡ Ok i → (at + 8 ≤ length bytes)
    × IsUop shape size last (take 8 (drop at bytes)) i
unfolding uop_at
uop_at_read shape size last at bytes i e =
    let a = bind_ok (bytes_at 8 at bytes) (λ field. numbered
    (slice_get OPCODES (slice_index field 0)) shape size last at (raw_of field)) i e in
    let t = bytes_takes kinds.Short 8 at (at + 8) bytes a.0 a.1 refl in
    let n = numbered_read (slice_get OPCODES (slice_index a.0 0)) shape size last at (raw_of a.0) i
    a.2 in
    let known : IsUop shape size last a.0 i =
    record { opcode = n.0; number = n.1; is = n.2; read = n.3 } in
    let part : a.0 ≡ take 8 (drop at bytes) = sym (take_at a.0 (drop (at + 8) bytes) 8 t.1)
    ∙ ap (take 8) (sym t.0.parts) in
    (t.0.within, subst (λ f. IsUop shape size last f i) part known)

-- the instructions that were read are those that the bytes spell
pub uops_read : (n : ℕ) (shape : Shape) (size at : ℕ) (bytes : List ℕ) (code : List Uop)
    → uops_at n shape size at bytes ≡ Ok code → (code ≡ uops_in n (drop at bytes))
    × (length code ≡ n)
unfolding uops_at
uops_read zero shape size at bytes code e = (
  sym (ok_is [] code e),
  ap length (sym (ok_is [] code e)),
)
uops_read (suc n) shape size at bytes code e =
    let a = bind_ok (uop_at shape size (eqb n 0) at bytes)
    (λ first. uops_at n shape size (at + 8) bytes >>= λ others. Ok (first ∷ others)) code e in
    let b = bind_ok (uops_at n shape size (at + 8) bytes) (λ others. Ok (a.0 ∷ others)) code a.2 in
    let known = (uop_at_read shape size (eqb n 0) at bytes a.0 a.1).1 in
    let h = uops_read n shape size (at + 8) bytes b.0 b.1 in
    let field : List ℕ = take 8 (drop at bytes) in
    let opcode : slice_index_or OPCODES (slice_index field 0) Done ≡ known.opcode =
    get_or_from_slice_get OPCODES (slice_index field 0) known.opcode Done known.number in
    let first : a.0 ≡ uop_in field = known.is ∙ ap (λ k. uop_as k (raw_of field)) (sym opcode) in
    let rest : b.0 ≡ uops_in n (drop 8 (drop at bytes)) =
    h.0 ∙ ap (uops_in n) (sym (drop-drop 8 at bytes)) in
    let whole = sym (ok_is (a.0 ∷ b.0) code b.2) in (
      whole ∙ ap (λ (i : Uop). i ∷ b.0) first ∙ ap (λ (is : List Uop). uop_in field ∷ is) rest,
      ap length whole ∙ omega (arith, h.1),
    )

-- the code of the k-th entry
pub record IsEntryAt (ls : List Listing) (at first : ℕ) (bytes : List ℕ) (ms : List Microprogram)
    (k : ℕ) (l : Listing) : Type 0 where
  pub before : ℕ
  pub start : l.start ≡ first + before
  pub count : count_before ms k ≡ before
  pub within : before + l.count ≤ total_count ls
  pub code : List Uop
  pub read : uops_at l.count l.shape l.count (at + 8 * before) bytes ≡ Ok code
  pub entry : slice_get ms k ≡ Some (record { name = l.name; shape = l.shape; code = code })
  pub some : 0 < l.count
  pub few : l.count < 2 ^ 16

pub entry_at : (ls : List Listing) (at first : ℕ) (bytes : List ℕ) (ms : List Microprogram) (k : ℕ)
    (l : Listing) → codes_at ls at bytes ≡ Ok ms → AreStarts first ls → slice_get ls k ≡ Some l
    → IsEntryAt ls at first bytes ms k l
unfolding codes_at
entry_at [] at first bytes ms k l e s g = absurd cc
entry_at (x ∷ ls) at first bytes ms zero l e s g =
    let a = bind_ok (uops_at x.count x.shape x.count at bytes)
    (λ code. codes_at ls (at + 8 * x.count) bytes >>= λ others. Ok
    (record { name = x.name; shape = x.shape; code = code } ∷ others)) ms e in
    let b = bind_ok (codes_at ls (at + 8 * x.count) bytes)
    (λ others. Ok (record { name = x.name; shape = x.shape; code = a.0 } ∷ others)) ms a.2 in
    let m : Microprogram = record { name = x.name; shape = x.shape; code = a.0 } in
    let none : at ≡ at + 8 * 0 = omega arith in
    let here : IsEntryAt (x ∷ ls) at first bytes (m ∷ b.0) zero x = record {
      before = 0;
      start = omega (arith, s.0);
      count = refl;
      within = omega arith;
      code = a.0;
      read = ap (λ n. uops_at x.count x.shape x.count n bytes) (sym none) ∙ a.1;
      entry = refl;
      some = s.1;
      few = s.2;
    } in
    let same : x ≡ l = cc in
    subst (λ (y : Listing). IsEntryAt (x ∷ ls) at first bytes ms zero y) same
    (subst (λ (ys : List Microprogram). IsEntryAt (x ∷ ls) at first bytes ys zero x)
    (ok_is (m ∷ b.0) ms b.2) here)
entry_at (x ∷ ls) at first bytes ms (suc k) l e s g =
    let a = bind_ok (uops_at x.count x.shape x.count at bytes)
    (λ code. codes_at ls (at + 8 * x.count) bytes >>= λ others. Ok
    (record { name = x.name; shape = x.shape; code = code } ∷ others)) ms e in
    let b = bind_ok (codes_at ls (at + 8 * x.count) bytes)
    (λ others. Ok (record { name = x.name; shape = x.shape; code = a.0 } ∷ others)) ms a.2 in
    let m : Microprogram = record { name = x.name; shape = x.shape; code = a.0 } in
    let h = entry_at ls (at + 8 * x.count) (first + x.count) bytes b.0 k l b.1 s.3 g in
    let length-a = (uops_read x.count x.shape x.count at bytes a.0 a.1).1 in
    let place : at + 8 * x.count + 8 * h.before ≡ at + 8 * (x.count + h.before) = omega arith in
    let here : IsEntryAt (x ∷ ls) at first bytes (m ∷ b.0) (suc k) l = record {
      before = x.count + h.before;
      start = omega (arith, h.start);
      count = omega (arith, h.count, length-a);
      within = omega (arith, h.within);
      code = h.code;
      read = ap (λ n. uops_at l.count l.shape l.count n bytes) (sym place) ∙ h.read;
      entry = h.entry;
      some = h.some;
      few = h.few;
    } in
    subst (λ (ys : List Microprogram). IsEntryAt (x ∷ ls) at first bytes ys (suc k) l)
    (ok_is (m ∷ b.0) ms b.2) here

-- ---- what was read is legal

legal_as : (k : Opcode) (shape : Shape) (size : ℕ) (last : Bool) (r : Raw)
    → IsRead k shape size last r → is_legal shape size (uop_as k r) ≡ true
legal_as Done shape size last r h = refl
legal_as SetI shape size last r h =
    let a = and_parts (has_register r.x) (leb (operand r.x) 1023 && ends_at_y r) h.formed in
    let b = and_parts (leb (operand r.x) 1023) (ends_at_y r) a.1 in
    and_from (has_register r.x) (leb (operand r.x) 1023) a.0 b.0
legal_as SetN shape size last r h = (and_parts (has_register r.x) ((eqb r.x.which 0 && eqb r.x.index 0)
    && ends_at_y r) h.formed).0
legal_as SetT shape size last r h = (and_parts (has_register r.x) ((eqb r.x.which 0 && eqb r.x.index 0)
    && ends_at_y r) h.formed).0
legal_as Mov shape size last r h =
    let a = and_parts (has_register r.x) ((has_second r.x && eqb r.x.index 0) && ends_at_y r) h.formed in
    let b = and_parts (has_second r.x && eqb r.x.index 0) (ends_at_y r) a.1 in
    let c = and_parts (has_second r.x) (eqb r.x.index 0) b.0 in
    and_from (has_register r.x) (has_second r.x) a.0 c.0
legal_as Add shape size last r h =
    let a = and_parts (has_register r.x) ((has_second r.x && eqb r.x.index 0) && ends_at_y r) h.formed in
    let b = and_parts (has_second r.x && eqb r.x.index 0) (ends_at_y r) a.1 in
    let c = and_parts (has_second r.x) (eqb r.x.index 0) b.0 in
    and_from (has_register r.x) (has_second r.x) a.0 c.0
legal_as AddI shape size last r h =
    let a = and_parts (has_register r.x) (leb (operand r.x) 1023 && ends_at_y r) h.formed in
    let b = and_parts (leb (operand r.x) 1023) (ends_at_y r) a.1 in
    and_from (has_register r.x) (leb (operand r.x) 1023) a.0 b.0
legal_as SubI shape size last r h =
    let a = and_parts (has_register r.x) (leb (operand r.x) 1023 && ends_at_y r) h.formed in
    let b = and_parts (leb (operand r.x) 1023) (ends_at_y r) a.1 in
    and_from (has_register r.x) (leb (operand r.x) 1023) a.0 b.0
legal_as Bnez shape size last r h =
    let a = and_parts (has_register r.x) (ends_at_y r) h.formed in
    and_from (has_register r.x) (ltb (operand r.x) size) a.0 h.target
legal_as Aap shape size last r h =
    let a = and_parts (ltb r.x.space 7 && is_first shape (row_of r.x)) (ltb r.y.space 7
    && is_second shape (row_of r.y)) h.rows in
    let b = and_parts (ltb r.x.space 7) (is_first shape (row_of r.x)) a.0 in
    let c = and_parts (ltb r.y.space 7) (is_second shape (row_of r.y)) a.1 in
    and_from (is_first shape (row_of r.x)) (is_second shape (row_of r.y)) b.1 c.1
legal_as Ap shape size last r h = (and_parts (ltb r.x.space 7) (is_first shape (row_of r.x)) h.rows).1

last_as : (k : Opcode) (r : Raw) → ends_code k true ≡ true → uop_as k r ≡ uop.Done
last_as Done r h = refl
last_as SetI r h = absurd cc
last_as SetN r h = absurd cc
last_as SetT r h = absurd cc
last_as Mov r h = absurd cc
last_as Add r h = absurd cc
last_as AddI r h = absurd cc
last_as SubI r h = absurd cc
last_as Bnez r h = absurd cc
last_as Aap r h = absurd cc
last_as Ap r h = absurd cc

pub uops_legal : (n : ℕ) (shape : Shape) (size at : ℕ) (bytes : List ℕ) (code : List Uop)
    → uops_at n shape size at bytes ≡ Ok code
    → AllByRecursion (λ i. is_legal shape size i ≡ true) code
unfolding uops_at
uops_legal zero shape size at bytes code e = subst (AllByRecursion (λ i. is_legal shape size i
    ≡ true)) (ok_is [] code e) tt
uops_legal (suc n) shape size at bytes code e =
    let a = bind_ok (uop_at shape size (eqb n 0) at bytes)
    (λ first. uops_at n shape size (at + 8) bytes >>= λ others. Ok (first ∷ others)) code e in
    let b = bind_ok (uops_at n shape size (at + 8) bytes) (λ others. Ok (a.0 ∷ others)) code a.2 in
    let known = (uop_at_read shape size (eqb n 0) at bytes a.0 a.1).1 in
    let first : is_legal shape size a.0 ≡ true = ap (is_legal shape size) known.is
    ∙ legal_as known.opcode shape size (eqb n 0) (raw_of (take 8 (drop at bytes))) known.read in
    subst (AllByRecursion (λ i. is_legal shape size i ≡ true)) (ok_is (a.0 ∷ b.0) code b.2) (
      first,
      uops_legal n shape size (at + 8) bytes b.0 b.1,
    )

pub uops_last : (n : ℕ) (shape : Shape) (size at : ℕ) (bytes : List ℕ) (code : List Uop)
    → uops_at (suc n) shape size at bytes ≡ Ok code → slice_get code n ≡ Some uop.Done
unfolding uops_at
uops_last zero shape size at bytes code e =
    let a = bind_ok (uop_at shape size true at bytes)
    (λ first. uops_at 0 shape size (at + 8) bytes >>= λ others. Ok (first ∷ others)) code e in
    let b = bind_ok (uops_at 0 shape size (at + 8) bytes) (λ others. Ok (a.0 ∷ others)) code a.2 in
    let known = (uop_at_read shape size true at bytes a.0 a.1).1 in
    ap (λ (is : List Uop). slice_get is 0) (sym (ok_is (a.0 ∷ b.0) code b.2))
    ∙ ap (λ (i : Uop). Some i) (known.is ∙ last_as known.opcode
    (raw_of (take 8 (drop at bytes))) known.read.ends)
uops_last (suc n) shape size at bytes code e =
    let a = bind_ok (uop_at shape size (eqb (suc n) 0) at bytes)
    (λ first. uops_at (suc n) shape size (at + 8) bytes >>= λ others. Ok (first ∷ others)) code
    e in
    let b = bind_ok (uops_at (suc n) shape size (at + 8) bytes) (λ others. Ok (a.0 ∷ others)) code
    a.2 in
    ap (λ (is : List Uop). slice_get is (suc n)) (sym (ok_is (a.0 ∷ b.0) code b.2))
    ∙ uops_last n shape size (at + 8) bytes b.0 b.1

pub legal_read : (n : ℕ) (shape : Shape) (at : ℕ) (bytes : List ℕ) (code : List Uop) → 0 < n
    → n < 2 ^ 16 → uops_at n shape n at bytes ≡ Ok code → IsLegalCode shape code
legal_read zero shape at bytes code some few e = absurd (omega arith)
legal_read (suc n) shape at bytes code some few e =
    let size : length code ≡ suc n = (uops_read (suc n) shape (suc n) at bytes code e).1 in
    let end : length code - 1 ≡ n = omega arith in
    record {
      short = omega (arith, size);
      each = subst (λ (k : ℕ). AllByRecursion (λ i. is_legal shape k i ≡ true) code) (sym size)
          (uops_legal (suc n) shape (suc n) at bytes code e);
      last = ap (slice_get code) end ∙ uops_last n shape (suc n) at bytes code e;
    }

-- ---- the part of the file that holds an entry's code

uops-take : (n : ℕ) (bytes : List ℕ) → uops_in n (take (8 * n) bytes) ≡ uops_in n bytes
uops-take zero bytes = refl
uops-take (suc n) bytes =
    let e : 8 * suc n ≡ 8 + 8 * n = omega arith in
    let front : take 8 (take (8 + 8 * n) bytes) ≡ take 8 bytes =
    take-take 8 (8 + 8 * n) bytes (omega arith) in
    let following : drop 8 (take (8 + 8 * n) bytes) ≡ take (8 * n) (drop 8 bytes) =
    drop-take 8 (8 * n) bytes in
    ap (λ k. uops_in (suc n) (take k bytes)) e
    ∙ ap (λ f. uop_in f ∷ uops_in n (drop 8 (take (8 + 8 * n) bytes))) front
    ∙ ap (λ r. uop_in (take 8 bytes) ∷ uops_in n r) following
    ∙ ap (λ (is : List Uop). uop_in (take 8 bytes) ∷ is) (uops-take n (drop 8 bytes))

-- an entry of the file, with the slice that holds its code
pub record IsFound (bytes : List ℕ) (seen : File) (k : ℕ) (name : List ℕ) (shape : Shape)
    (start count : ℕ) : Type 0 where
  pub within : start + 8 * count ≤ length bytes
  pub program : slice_get seen.programs k ≡ Some (record {
    name = name;
    shape = shape;
    code = uops_in count (take (8 * count) (drop start bytes));
  })
  pub place : code_place seen.programs k ≡ start
  pub file : seen.bytes ≡ bytes
  pub legal : IsLegalCode shape (uops_in count (take (8 * count) (drop start bytes)))

listings_get : (ls : List Listed) (k : ℕ) (l : Listed) → slice_get ls k ≡ Some l
    → slice_get (listings_of ls) k ≡ Some (listing_of l)
listings_get [] k l e = absurd cc
listings_get (x ∷ ls) zero l e = let same : x ≡ l = cc in
    ap (λ (y : Listed). Some (listing_of y)) same
listings_get (x ∷ ls) (suc k) l e = listings_get ls k l e

listings_length : (ls : List Listed) → length (listings_of ls) ≡ length ls
listings_length [] = refl
listings_length (l ∷ ls) = let h = listings_length ls in omega arith

pub found : (v : ℕ) (bytes : List ℕ) (listed : List Listed) (k : ℕ) (l : Listed)
    → IsOpened bytes v listed
    → slice_get listed k ≡ Some l
    → IsFound bytes (file_of bytes) k l.head.name
    (shape_of l.head) (8 + 27 * length listed + 8 * l.start) l.count
found v bytes listed k l h at =
    let ls = listings_of listed in
    let ms = programs_in bytes in
    let entry = entry_at ls (codes_start ls) 0 bytes ms k (listing_of l) h.codes h.starts
    (listings_get listed k l at) in
    let size = listings_length listed in
    let start : codes_start ls + 8 * entry.before ≡ 8 + 27 * length listed + 8 * l.start =
    omega (arith, entry.start) in
    let read : uops_at l.count (shape_of l.head) l.count (8 + 27 * length listed + 8 * l.start)
    bytes ≡ Ok entry.code = ap (λ n. uops_at l.count (shape_of l.head) l.count n bytes)
    (sym start) ∙ entry.read in
    let code : entry.code ≡ uops_in l.count (take (8 * l.count)
    (drop (8 + 27 * length listed + 8 * l.start) bytes)) =
    (uops_read l.count (shape_of l.head) l.count (8 + 27 * length listed + 8 * l.start) bytes
    entry.code read).0
    ∙ sym (uops-take l.count (drop (8 + 27 * length listed + 8 * l.start) bytes)) in
    let many : length ms ≡ length ls = codes_length ls (codes_start ls) bytes ms h.codes in
    record {
      within = omega (arith, entry.within, h.long, entry.start);
      program =
          entry.entry
          ∙ ap (λ (is : List Uop). Some (let m : Microprogram = record {
            name = l.head.name;
            shape = shape_of l.head;
            code = is;
          } in m)) code;
      place = omega (arith, entry.count, many, entry.start);
      file = refl;
      legal = subst (IsLegalCode (shape_of l.head)) code
          (legal_read l.count (shape_of l.head) (8 + 27 * length listed + 8 * l.start) bytes
          entry.code entry.some entry.few read);
    }

-- the same name at the same place
or_len_is : (ls : List Listed) (at : ℕ) (bytes : List ℕ) (ms : List Microprogram) (name : List ℕ)
    → codes_at (listings_of ls) at bytes ≡ Ok ms
    → position_or_len (is_named name) ls ≡ position_or_len (λ m. bytes_eq m.name name) ms
unfolding codes_at
or_len_is [] at bytes ms name e = ap (position_or_len (λ (m : Microprogram). bytes_eq m.name name))
    (ok_is [] ms e)
or_len_is (l ∷ ls) at bytes ms name e =
    let x = listing_of l in
    let a = bind_ok (uops_at x.count x.shape x.count at bytes)
    (λ code. codes_at (listings_of ls) (at + 8 * x.count) bytes >>= λ others. Ok
    (record { name = x.name; shape = x.shape; code = code } ∷ others)) ms e in
    let b = bind_ok (codes_at (listings_of ls) (at + 8 * x.count) bytes)
    (λ others. Ok (record { name = x.name; shape = x.shape; code = a.0 } ∷ others)) ms a.2 in
    let h = or_len_is ls (at + 8 * x.count) bytes b.0 name b.1 in
    let m : Microprogram = record { name = x.name; shape = x.shape; code = a.0 } in
    ap (λ n. cond (not (bytes_eq l.head.name name)) (1 + n) 0) h
    ∙ ap (position_or_len (λ (m : Microprogram). bytes_eq m.name name)) (ok_is (m ∷ b.0) ms b.2)

pub place_is : (v : ℕ) (bytes : List ℕ) (listed : List Listed) (seen : File) (name : List ℕ)
    → file_of bytes ≡ seen
    → IsOpened bytes v listed → position (is_named name) listed
    ≡ position (λ m. bytes_eq m.name name) seen.programs
place_is v bytes listed seen name is h =
    let place = or_len_is listed (codes_start (listings_of listed)) bytes
    (programs_in bytes) name h.codes in
    let many = entries_are v bytes listed (file_of bytes) refl h in
    ap (λ n. cond (ltb n (length listed)) (Some n) None) place
    ∙ ap (λ n.
    cond (ltb (position_or_len (λ (m : Microprogram). bytes_eq m.name name)
    (programs_in bytes)) n) (Some
    (position_or_len (λ (m : Microprogram). bytes_eq m.name name)
    (programs_in bytes))) None) many
    ∙ ap (λ (f : File). position (λ (m : Microprogram). bytes_eq m.name name) f.programs) is

-- an entry as it is handed out: its head is a copy, and its code a slice
pub record Hands (bytes : List ℕ) (seen : File) (k : ℕ) (h : EntryBytes) : Type 0 where
  pub program : slice_get seen.programs k ≡ Some (program_of h)
  pub code : h.bytes ≡ take (8 * length (code_of h)) (drop (code_place seen.programs k) seen.bytes)
  pub legal : IsLegalCode h.shape (code_of h)

pub hands : (bytes : List ℕ) (seen : File) (k : ℕ) (name : List ℕ) (shape : Shape) (start count : ℕ)
    (h : EntryBytes) → IsFound bytes seen k name shape start count → h.name ≡ name → h.shape ≡ shape
    → h.bytes ≡ take (8 * count) (drop start bytes) → Hands bytes seen k h
hands bytes seen k name shape start count h f n s t =
    let size : length h.bytes ≡ 8 * count = ap length t
    ∙ omega (
      arith,
      length-take (8 * count) (drop start bytes),
      length-drop start bytes,
      f.within,
    ) in
    let many : length h.bytes / 8 ≡ count = omega arith in
    let code : code_of h ≡ uops_in count (take (8 * count) (drop start bytes)) =
    ap (λ m. uops_in m h.bytes) many ∙ ap (uops_in count) t in
    let len : length (code_of h) ≡ count = length-uops (length h.bytes / 8) h.bytes ∙ many in
    let made : program_of h ≡ (let m : Microprogram = record {
      name = name;
      shape = shape;
      code = uops_in count (take (8 * count) (drop start bytes));
    } in m) = rw (n, s, code) refl in
    record {
      program = f.program ∙ ap (λ (m : Microprogram). Some m) (sym made);
      code =
          t
          ∙ ap (λ m. take (8 * m) (drop start bytes)) (sym len)
          ∙ ap (λ m. take (8 * length (code_of h)) (drop m bytes)) (sym f.place)
          ∙ ap (λ (bs : List ℕ). take (8 * length (code_of h))
          (drop (code_place seen.programs k) bs)) (sym f.file);
      legal = subst (λ (x : Shape). IsLegalCode x (code_of h)) (sym s)
          (subst (IsLegalCode shape) (sym code) f.legal);
    }

-- the same of the file that a view shows
pub found_in : (v : ℕ) (bytes : List ℕ) (listed : List Listed) (seen : File) (k : ℕ) (l : Listed)
    → file_of bytes ≡ seen
    → IsOpened bytes v listed → slice_get listed k ≡ Some l
    → IsFound bytes seen k l.head.name (shape_of l.head) (8 + 27 * length listed + 8 * l.start)
    l.count
found_in v bytes listed seen k l is h at = subst
    (λ (f : File). IsFound bytes f k l.head.name (shape_of l.head) (8 + 27 * length listed + 8
    * l.start) l.count) is (found v bytes listed k l h at)

-- and of a slice that shows what is listed
pub found_seen : (v : ℕ) (bytes : List ℕ) (listed xs : List Listed) (seen : File) (k at : ℕ)
    (l : Listed) → file_of bytes ≡ seen → IsOpened bytes v listed → xs ≡ listed → at ≡ k
    → k < length seen.programs → l ≡ slice_index_or xs at l
    → IsFound bytes seen k l.head.name (shape_of l.head) (8 + 27 * length xs + 8 * l.start) l.count
found_seen v bytes listed xs seen k at l is h same e lt there =
    let many = entries_are v bytes listed seen is h in
    let below : at < length xs = omega (arith, many, lt, e, ap length same) in
    let read : slice_get listed k ≡ Some l =
    ap (λ (ys : List Listed). slice_get ys k) (sym same) ∙ ap (slice_get xs) (sym e)
    ∙ slice_get_read xs (length xs) at l refl below there in
    subst (λ (ys : List Listed). IsFound bytes seen k l.head.name (shape_of l.head)
    (8 + 27 * length ys + 8 * l.start) l.count) (sym same) (found_in v bytes listed seen k l is h read)
