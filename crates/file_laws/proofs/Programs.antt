-- The fault that is told of a program file is one of the file.
use Rattle.std.proofs.Common.{◌≡◌, ℕ, zero, suc, ◌+◌, ◌*◌, Bool, true, false, List, [], ◌∷◌}
use Rattle.std.proofs.Common.{◌++◌, length, Option, Some, None, Result, Ok, Err, refl, sym, ap}
use Rattle.std.proofs.Common.{subst, arith}
use Rattle.std.proofs.lemmas.List.{length-append}
use Rattle.std.specs.Prelude.{nat_le, ◌==◌, ◌/◌, ◌%◌, codes, slice_get, slice_index}
use Rattle.std.specs.Int.{w8, w16, w32}
use Rattle.std.specs.Str.{bytes_eq}
use Rattle.file_fields.specs.Fields.{◌>>=◌, is_between, rule}
use Rattle.uprog_code.specs.declared.code.Uop.{Uop}
use Rattle.uprog_code.specs.Shape.{Shape, Microprogram}
use Rattle.uprog_bin.specs.declared.fault.ProgKind.{ProgKind}
use Rattle.uprog_bin.specs.declared.fault.ProgKind.TheVariants as kinds
use Rattle.uprog_bin.specs.declared.opcode.Opcode.{Opcode}
use Rattle.uprog_bin.specs.declared.opcode.TheConstants.{OPCODES}
use Rattle.uprog_bin.specs.declared.instruction.Raw.{Raw}
use Rattle.uprog_bin.specs.Reading.{Listing, ProgFault, bytes_at, codes_at, codes_start, directory_at}
use Rattle.uprog_bin.specs.Reading.{ends_code, field_at, has_name, has_rows, has_target, is_formed}
use Rattle.uprog_bin.specs.Reading.{is_kinds, is_version, kind_of_bit, kinds_of, listing_at, name_at}
use Rattle.uprog_bin.specs.Reading.{number_at, numbered, opening_in, program_in, raw_of, second_of}
use Rattle.uprog_bin.specs.Reading.{shape_at, total_count, uop_as, uop_at, uop_of, uops_at}
use Rattle.file_laws.specs.Programs.{IsEntryField, IsField, ProgramFaultsStand, ends}
use Rattle.file_laws.specs.Programs.IsField.{Magic, Version, Entries, InEntry, Instruction}
use Rattle.file_laws.specs.Programs.IsEntryField.{NameLength, Name, Sources, Kinds, Start, Count}
use Rattle.file_laws.proofs.Steady.{IsRule, Steady, bytes_steady, ends_at, field_steady}
use Rattle.file_laws.proofs.Steady.{judged_steady, name_steady, number_steady, pure_steady}
use Rattle.file_laws.proofs.Steady.{test_steady, then_steady}
use Rattle.file_laws.proofs.Closing.{Closing, closing_after, closing_stands, ended_at}

directory_rule : IsRule ends kinds.Directory
directory_rule = ((λ e. cc), (λ e. cc))

-- a field of entry k's record
field_of : (k at from to a b : ℕ) → IsEntryField from to → at ≡ 8 + 27 * k → a ≡ at + from
    → b ≡ at + to → IsField a b
field_of k at from to a b f e g h =
    let p : 8 + 27 * k + from ≡ a = omega (arith, e, g) in
    let q : 8 + 27 * k + to ≡ b = omega (arith, e, h) in
    subst (λ (x : ℕ). IsField x b) p
    (subst (λ (y : ℕ). IsField (8 + 27 * k + from) y) q (InEntry k f))

abbrev shape_of_bytes : (sources kinds bits words : ℕ) → Shape
shape_of_bytes sources kinds bits words = record {
  sources = kinds_of sources kinds;
  result = kind_of_bit (kinds / 16 % 2);
  second = second_of (kinds / 16 / 2);
  bits = bits;
  words = words;
}

shape_steady : (version k at : ℕ) → at ≡ 8 + 27 * k
    → Steady ends IsField (at + 17) (λ (shape : Shape). at + 21)
    (λ b. shape_at version (at + 17) b)
unfolding shape_at
shape_steady version k at e =
    then_steady ends IsField (at + 17) (λ sources. at + 17 + 1) (λ shape. at + 21)
    (field_at w8 (is_between 1 4) kinds.Directory (at + 17))
    (λ sources b. field_at w8 (is_kinds version sources) kinds.Directory (at + 17 + 1) b
    >>= λ ks. number_at w8 (at + 17 + 2) b >>= λ bits. number_at w8 (at + 17 + 3) b >>= λ words.
    Ok (shape_of_bytes sources ks bits words))
    (λ sources. then_steady ends IsField (at + 17 + 1) (λ ks. at + 17 + 2) (λ shape. at + 21)
    (field_at w8 (is_kinds version sources) kinds.Directory (at + 17 + 1))
    (λ ks b. number_at w8 (at + 17 + 2) b >>= λ bits. number_at w8 (at + 17 + 3) b >>= λ words.
    Ok (shape_of_bytes sources ks bits words))
    (λ ks. then_steady ends IsField (at + 17 + 2) (λ bits. at + 17 + 3) (λ shape. at + 21)
    (number_at w8 (at + 17 + 2))
    (λ bits b. number_at w8 (at + 17 + 3) b >>= λ words.
    Ok (shape_of_bytes sources ks bits words))
    (λ bits. then_steady ends IsField (at + 17 + 3) (λ words. at + 21) (λ shape. at + 21)
    (number_at w8 (at + 17 + 3))
    (λ words b. Ok (shape_of_bytes sources ks bits words))
    (λ words. pure_steady ends IsField (at + 21) (shape_of_bytes sources ks bits words)
    (λ shape. at + 21) refl)
    (ends_at ends IsField (number_at w8 (at + 17 + 3)) (at + 17 + 3) (at + 17 + 3 + 1) (at + 21)
    (omega arith) (number_steady ends IsField w8 (at + 17 + 3))))
    (ends_at ends IsField (number_at w8 (at + 17 + 2)) (at + 17 + 2) (at + 17 + 2 + 1)
    (at + 17 + 3) (omega arith) (number_steady ends IsField w8 (at + 17 + 2))))
    (ends_at ends IsField (field_at w8 (is_kinds version sources) kinds.Directory (at + 17 + 1))
    (at + 17 + 1) (at + 17 + 1 + 1) (at + 17 + 2) (omega arith)
    (field_steady ends IsField w8 (is_kinds version sources) kinds.Directory (at + 17 + 1)
    (field_of k at 18 19 (at + 17 + 1) (at + 17 + 1 + 1) Kinds e (omega arith) (omega arith))
    (omega arith) directory_rule)))
    (field_steady ends IsField w8 (is_between 1 4) kinds.Directory (at + 17)
    (field_of k at 17 18 (at + 17) (at + 17 + 1) Sources e refl (omega arith)) (omega arith)
    directory_rule)

abbrev listing : List ℕ → Shape → (start count : ℕ) → Listing
listing name shape start count =
    record { name = name; shape = shape; start = start; count = count }

listing_steady : (version : ℕ) (earlier : List Listing) (start k at : ℕ) → at ≡ 8 + 27 * k
    → Steady ends IsField at (λ (l : Listing). at + 27)
    (λ b. listing_at version earlier start at b)
unfolding listing_at
listing_steady version earlier start k at e =
    then_steady ends IsField at (λ name. at + 17) (λ l. at + 27) (λ b. name_at earlier at b)
    (λ name b. shape_at version (at + 17) b >>= λ shape.
    field_at w32 (λ n. n == start) kinds.Directory (at + 21) b >>= λ first.
    field_at w16 (is_between 1 65535) kinds.Directory (at + 25) b >>= λ count.
    Ok (listing name shape first count))
    (λ name. then_steady ends IsField (at + 17) (λ shape. at + 21) (λ l. at + 27)
    (λ b. shape_at version (at + 17) b)
    (λ shape b. field_at w32 (λ n. n == start) kinds.Directory (at + 21) b >>= λ first.
    field_at w16 (is_between 1 65535) kinds.Directory (at + 25) b >>= λ count.
    Ok (listing name shape first count))
    (λ shape. then_steady ends IsField (at + 21) (λ first. at + 25) (λ l. at + 27)
    (field_at w32 (λ n. n == start) kinds.Directory (at + 21))
    (λ first b. field_at w16 (is_between 1 65535) kinds.Directory (at + 25) b >>= λ count.
    Ok (listing name shape first count))
    (λ first. then_steady ends IsField (at + 25) (λ count. at + 27) (λ l. at + 27)
    (field_at w16 (is_between 1 65535) kinds.Directory (at + 25))
    (λ count b. Ok (listing name shape first count))
    (λ count. pure_steady ends IsField (at + 27) (listing name shape first count) (λ l. at + 27)
    refl)
    (ends_at ends IsField (field_at w16 (is_between 1 65535) kinds.Directory (at + 25)) (at + 25)
    (at + 25 + 2) (at + 27) (omega arith)
    (field_steady ends IsField w16 (is_between 1 65535) kinds.Directory (at + 25)
    (field_of k at 25 27 (at + 25) (at + 25 + 2) Count e refl (omega arith)) (omega arith)
    directory_rule)))
    (ends_at ends IsField (field_at w32 (λ n. n == start) kinds.Directory (at + 21)) (at + 21)
    (at + 21 + 4) (at + 25) (omega arith)
    (field_steady ends IsField w32 (λ n. n == start) kinds.Directory (at + 21)
    (field_of k at 21 25 (at + 21) (at + 21 + 4) Start e refl (omega arith)) (omega arith)
    directory_rule)))
    (shape_steady version k at e))
    (name_steady ends IsField kinds.Directory (has_name earlier) at
    (field_of k at 0 1 at (at + 1) NameLength e (omega arith) refl)
    (field_of k at 1 17 (at + 1) (at + 17) Name e refl refl) directory_rule)

directory_steady : (version n : ℕ) (earlier : List Listing) (start at : ℕ)
    → at ≡ 8 + 27 * length earlier
    → Steady ends IsField at (λ (ls : List Listing). codes_start ls)
    (λ b. directory_at version n earlier start at b)
unfolding directory_at
directory_steady version zero earlier start at e =
    pure_steady ends IsField at earlier (λ ls. codes_start ls) (sym e)
directory_steady version (suc n) earlier start at e =
    then_steady ends IsField at (λ l. at + 27) (λ ls. codes_start ls)
    (λ b. listing_at version earlier start at b)
    (λ l b. directory_at version n (earlier ++ l ∷ []) (start + l.count) (at + 27) b)
    (λ l. directory_steady version n (earlier ++ l ∷ []) (start + l.count) (at + 27)
    (omega (arith, e, length-append earlier (l ∷ []))))
    (listing_steady version earlier start (length earlier) at e)

-- An instruction: each of its rules is its own field's

abbrev Judges : {A : Type 0} → ℕ → Result A ProgFault → Type 0
Judges at v = (f : ProgFault) → v ≡ Err f → (f.at ≡ at) × IsRule ends f.kind

abbrev fault_here : ℕ → ProgKind → ProgFault
fault_here at kind = record { at = at; kind = kind }

judges_err : {A : Type 0} (at : ℕ) (kind : ProgKind) → IsRule ends kind
    → Judges {A = A} at (Err (fault_here at kind))
judges_err at kind broken f e =
    let same : fault_here at kind ≡ f = cc in (
      ap (λ (g : ProgFault). g.at) (sym same),
      subst (λ (g : ProgFault). IsRule ends g.kind) same broken,
    )

judges_ok : {A : Type 0} (at : ℕ) (x : A) → Judges at (Ok x)
judges_ok at x f e = absurd (cc)

judges_rule : {A : Type 0} (b : Bool) (at : ℕ) (kind : ProgKind) (more : Result A ProgFault)
    → IsRule ends kind → Judges at more → Judges at (rule b at kind >>= λ u. more)
judges_rule true at kind more broken judges = judges
judges_rule {A} false at kind more broken judges = judges_err {A = A} at kind broken

instruction_rule : IsRule ends kinds.Instruction
instruction_rule = ((λ e. cc), (λ e. cc))

judges_uop : (k : Opcode) (shape : Shape) (size : ℕ) (last : Bool) (at : ℕ) (r : Raw)
    → Judges at (uop_of k shape size last at r)
judges_uop k shape size last at r =
    judges_rule (is_formed k r) at kinds.Instruction _ instruction_rule
    (judges_rule (has_target k size r) at kinds.Target _ ((λ e. cc), (λ e. cc))
    (judges_rule (has_rows k shape r) at kinds.Row _ ((λ e. cc), (λ e. cc))
    (judges_rule (ends_code k last) at kinds.NoDone _ ((λ e. cc), (λ e. cc))
    (judges_ok at (uop_as k r)))))

judges_numbered : (o : Option Opcode) (shape : Shape) (size : ℕ) (last : Bool) (at : ℕ) (r : Raw)
    → Judges at (numbered o shape size last at r)
judges_numbered None shape size last at r =
    judges_err {A = Uop} at kinds.Instruction instruction_rule
judges_numbered (Some k) shape size last at r = judges_uop k shape size last at r

uop_steady : (shape : Shape) (size : ℕ) (last : Bool) (at : ℕ) → IsField at (at + 8)
    → Steady ends IsField at (λ (u : Uop). at + 8) (λ b. uop_at shape size last at b)
unfolding uop_at
uop_steady shape size last at field =
    judged_steady ends IsField at (at + 8) (bytes_at 8 at)
    (λ bytes. numbered (slice_get OPCODES (slice_index bytes 0)) shape size last at (raw_of bytes))
    field (omega arith)
    (λ bytes. judges_numbered (slice_get OPCODES (slice_index bytes 0)) shape size last at
    (raw_of bytes))
    (bytes_steady ends IsField 8 at)

-- the place of instruction j of a file of so many entries
instruction_at : (entries j at : ℕ) → at ≡ 8 + 27 * entries + 8 * j → IsField at (at + 8)
instruction_at entries j at e =
    subst (λ (x : ℕ). IsField x (x + 8)) (sym e) (Instruction entries j)

uops_steady : (left : ℕ) (shape : Shape) (size entries j at : ℕ)
    → at ≡ 8 + 27 * entries + 8 * j
    → Steady ends IsField at (λ (us : List Uop). at + 8 * left)
    (λ b. uops_at left shape size at b)
unfolding uops_at
uops_steady zero shape size entries j at e =
    pure_steady ends IsField at [] (λ us. at + 8 * 0) (omega arith)
uops_steady (suc left) shape size entries j at e =
    then_steady ends IsField at (λ u. at + 8) (λ us. at + 8 * suc left)
    (λ b. uop_at shape size (left == 0) at b)
    (λ u b. uops_at left shape size (at + 8) b >>= λ us. Ok (u ∷ us))
    (λ u. then_steady ends IsField (at + 8) (λ us. at + 8 * suc left) (λ us. at + 8 * suc left)
    (λ b. uops_at left shape size (at + 8) b) (λ us b. Ok (u ∷ us))
    (λ us. pure_steady ends IsField (at + 8 * suc left) (u ∷ us) (λ vs. at + 8 * suc left) refl)
    (ends_at ends IsField (λ b. uops_at left shape size (at + 8) b) (at + 8)
    (at + 8 + 8 * left) (at + 8 * suc left) (omega arith)
    (uops_steady left shape size entries (j + 1) (at + 8) (omega (arith, e)))))
    (uop_steady shape size (left == 0) at (instruction_at entries j at e))

abbrev program_of : Listing → List Uop → Microprogram
program_of l code = record { name = l.name; shape = l.shape; code = code }

codes_steady : (ls : List Listing) (entries j at : ℕ) → at ≡ 8 + 27 * entries + 8 * j
    → Steady ends IsField at (λ (ms : List Microprogram). at + 8 * total_count ls)
    (λ b. codes_at ls at b)
unfolding codes_at
codes_steady [] entries j at e =
    pure_steady ends IsField at [] (λ ms. at + 8 * 0) (omega arith)
codes_steady (l ∷ ls) entries j at e =
    then_steady ends IsField at (λ code. at + 8 * l.count)
    (λ ms. at + 8 * (l.count + total_count ls))
    (λ b. uops_at l.count l.shape l.count at b)
    (λ code b. codes_at ls (at + 8 * l.count) b >>= λ others. Ok (program_of l code ∷ others))
    (λ code. then_steady ends IsField (at + 8 * l.count)
    (λ others. at + 8 * (l.count + total_count ls)) (λ ms. at + 8 * (l.count + total_count ls))
    (λ b. codes_at ls (at + 8 * l.count) b) (λ others b. Ok (program_of l code ∷ others))
    (λ others. pure_steady ends IsField (at + 8 * (l.count + total_count ls))
    (program_of l code ∷ others) (λ ms. at + 8 * (l.count + total_count ls)) refl)
    (ends_at ends IsField (λ b. codes_at ls (at + 8 * l.count) b) (at + 8 * l.count)
    (at + 8 * l.count + 8 * total_count ls) (at + 8 * (l.count + total_count ls)) (omega arith)
    (codes_steady ls entries (j + l.count) (at + 8 * l.count) (omega (arith, e)))))
    (uops_steady l.count l.shape l.count entries j at e)

opening_steady : Steady ends IsField 0 (λ (version : ℕ). 6) (λ b. opening_in b)
unfolding opening_in
opening_steady =
    test_steady ends IsField 0 0 4 (λ version. 6) (bytes_at 4 0)
    (λ magic. bytes_eq magic (codes "SDMP")) kinds.Magic
    (λ magic b. field_at w16 is_version kinds.Version 4 b) Magic (omega arith) (omega arith)
    ((λ e. cc), (λ e. cc))
    (λ magic. field_steady ends IsField w16 is_version kinds.Version 4 Version (omega arith)
    ((λ e. cc), (λ e. cc)))
    (bytes_steady ends IsField 4 0)

program_closing : Closing ends IsField 0 (λ b. program_in b)
unfolding program_in
program_closing =
    closing_after ends IsField 0 (λ version. 6) (λ b. opening_in b)
    (λ version b. field_at w16 (λ n. nat_le n 32) kinds.Directory 6 b >>= λ count.
    directory_at version count [] 0 8 b >>= λ ls. codes_at ls (codes_start ls) b >>= λ ms.
    rule (length b == codes_start ls + 8 * total_count ls)
    (codes_start ls + 8 * total_count ls) kinds.Rest >>= λ ended. Ok (version, ms))
    (λ version. closing_after ends IsField 6 (λ count. 8)
    (field_at w16 (λ n. nat_le n 32) kinds.Directory 6)
    (λ count b. directory_at version count [] 0 8 b >>= λ ls.
    codes_at ls (codes_start ls) b >>= λ ms.
    rule (length b == codes_start ls + 8 * total_count ls)
    (codes_start ls + 8 * total_count ls) kinds.Rest >>= λ ended. Ok (version, ms))
    (λ count. closing_after ends IsField 8 (λ ls. codes_start ls)
    (λ b. directory_at version count [] 0 8 b)
    (λ ls b. codes_at ls (codes_start ls) b >>= λ ms.
    rule (length b == codes_start ls + 8 * total_count ls)
    (codes_start ls + 8 * total_count ls) kinds.Rest >>= λ ended. Ok (version, ms))
    (λ ls. closing_after ends IsField (codes_start ls)
    (λ ms. codes_start ls + 8 * total_count ls) (λ b. codes_at ls (codes_start ls) b)
    (λ ms b. rule (length b == codes_start ls + 8 * total_count ls)
    (codes_start ls + 8 * total_count ls) kinds.Rest >>= λ ended. Ok (version, ms))
    (λ ms. ended_at ends IsField (codes_start ls + 8 * total_count ls) (version, ms) (λ e. cc))
    (codes_steady ls (length ls) 0 (codes_start ls) (omega arith)))
    (directory_steady version count [] 0 8 refl))
    (field_steady ends IsField w16 (λ n. nat_le n 32) kinds.Directory 6 Entries (omega arith)
    directory_rule))
    opening_steady

pub faults_stand : ProgramFaultsStand
faults_stand = closing_stands ends IsField program_in (λ e. cc) program_closing
