-- What was read of a file is spelled so.
use Rattle.uprog_bin.proofs.Common.{◌≡◌, ℕ, zero, suc, ◌+◌, ◌*◌, ◌<◌, ◌≤◌, Bool, eqb, List, [], ◌∷◌}
use Rattle.uprog_bin.proofs.Common.{◌++◌, length, take, drop, Ok, refl, sym, ap, ◌∙◌, subst, arith}
use Rattle.uprog_bin.proofs.Common.{slice_get, slice_index, flat_map, flat_map-cons, take_at, Uop}
use Rattle.uprog_bin.proofs.Common.{Shape, Microprogram, IsBytes, ◌>>=◌, Holds, Holds-then, bind_ok}
use Rattle.uprog_bin.proofs.Common.{ok_is, bytes_takes}
use Rattle.file_fields.proofs.Held.{Holds-fits}
use Rattle.uprog_bin.specs.Spelling.{instruction_bytes, code_bytes}
use Rattle.uprog_bin.specs.Reading.{bytes_at, raw_of, numbered, uop_at, uops_at, codes_at, Listing}
use Rattle.uprog_bin.specs.Reading.{total_count}
use Rattle.uprog_bin.specs.declared.opcode.TheConstants.{OPCODES}
use Rattle.uprog_bin.proofs.Found.{IsUop, uop_at_read}
use Rattle.uprog_bin.proofs.Instructions.{number_of, number_is, text-raw, instruction_text}
use Rattle.uprog_bin.specs.declared.fault.ProgKind.TheVariants as kinds

-- a place and its text, by two names
same-place : (bytes : List ℕ) (at : ℕ) (text : List ℕ) (next next' : ℕ) → next ≡ next'
    → Holds bytes at text next → Holds bytes at text next'
same-place bytes at text next next' e h = subst (Holds bytes at text) e h

pub no-text : (bytes : List ℕ) (at : ℕ) → at ≤ length bytes → Holds bytes at [] at
no-text bytes at h = record { parts = refl; ends = omega arith; within = h }

byte_in : (field : List ℕ) (k : ℕ) → IsBytes field → slice_index field k < 256
byte_in field k fits = fits k

pub uop_takes : (shape : Shape) (size : ℕ) (last : Bool) (at : ℕ) (bytes : List ℕ) (i : Uop)
    → IsBytes bytes → uop_at shape size last at bytes ≡ Ok i
    → Holds bytes at (instruction_bytes i) (at + 8)
unfolding uop_at
uop_takes shape size last at bytes i fits e =
    let a = bind_ok (bytes_at 8 at bytes) (λ field. numbered
    (slice_get OPCODES (slice_index field 0)) shape size last at (raw_of field)) i e in
    let t = bytes_takes kinds.Short 8 at (at + 8) bytes a.0 a.1 refl in
    let part = Holds-fits bytes at a.0 (at + 8) t.0 fits in
    let known = (uop_at_read shape size last at bytes i e).1 in
    let field : a.0 ≡ take 8 (drop at bytes) = sym (take_at a.0 (drop (at + 8) bytes) 8 t.1)
    ∙ ap (take 8) (sym t.0.parts) in
    let k : IsUop shape size last a.0 i = subst (λ f. IsUop shape size last f i) (sym field) known
    in
    let r = raw_of a.0 in
    let number : slice_index a.0 0 ≡ number_of k.opcode =
    number_is (slice_index a.0 0) k.opcode k.number in
    let text = instruction_text k.opcode shape r (byte_in a.0 2 part) (byte_in a.0 3 part)
    k.read.formed k.read.rows in
    let whole : a.0 ≡ instruction_bytes i =
    sym (text-raw a.0 t.1)
    ∙ ap (λ n. n ∷ r.x.space ∷ r.x.which ∷ r.x.index ∷ r.y.space ∷ r.y.which ∷ r.y.index ∷ r.spare
    ∷ []) number
    ∙ text
    ∙ ap instruction_bytes (sym k.is) in
    subst (λ f. Holds bytes at f (at + 8)) whole t.0

pub uops_take : (n : ℕ) (shape : Shape) (size at : ℕ) (bytes : List ℕ) (code : List Uop)
    → IsBytes bytes → at ≤ length bytes → uops_at n shape size at bytes ≡ Ok code
    → Holds bytes at (flat_map instruction_bytes code) (at + 8 * n)
unfolding uops_at
uops_take zero shape size at bytes code fits le e =
    let none : at ≡ at + 8 * 0 = omega arith in
    subst (λ (is : List Uop). Holds bytes at (flat_map instruction_bytes is) (at + 8 * 0))
    (ok_is [] code e) (same-place bytes at [] at (at + 8 * 0) none (no-text bytes at le))
uops_take (suc n) shape size at bytes code fits le e =
    let a = bind_ok (uop_at shape size (eqb n 0) at bytes)
    (λ first. uops_at n shape size (at + 8) bytes >>= λ others. Ok (first ∷ others)) code e in
    let b = bind_ok (uops_at n shape size (at + 8) bytes) (λ others. Ok (a.0 ∷ others)) code a.2 in
    let one = uop_takes shape size (eqb n 0) at bytes a.0 fits a.1 in
    let rest = uops_take n shape size (at + 8) bytes b.0 fits one.within b.1 in
    let end : at + 8 + 8 * n ≡ at + 8 * suc n = omega arith in
    let both = same-place bytes at (instruction_bytes a.0 ++ flat_map instruction_bytes b.0) (at + 8
    + 8 * n) (at + 8 * suc n) end (Holds-then bytes at (instruction_bytes a.0) (at + 8)
    (flat_map instruction_bytes b.0) (at + 8 + 8 * n) one rest) in
    subst (λ (is : List Uop). Holds bytes at (flat_map instruction_bytes is) (at + 8 * suc n))
    (ok_is (a.0 ∷ b.0) code b.2) (subst (λ (t : List ℕ). Holds bytes at t (at + 8 * suc n))
    (sym (flat_map-cons instruction_bytes a.0 b.0)) both)

pub codes_take : (ls : List Listing) (at : ℕ) (bytes : List ℕ) (ms : List Microprogram)
    → IsBytes bytes → at ≤ length bytes → codes_at ls at bytes ≡ Ok ms
    → Holds bytes at (flat_map code_bytes ms) (at + 8 * total_count ls)
unfolding codes_at
codes_take [] at bytes ms fits le e =
    let none : at ≡ at + 8 * 0 = omega arith in
    subst (λ (is : List Microprogram). Holds bytes at (flat_map code_bytes is) (at + 8 * 0))
    (ok_is [] ms e) (same-place bytes at [] at (at + 8 * 0) none (no-text bytes at le))
codes_take (l ∷ ls) at bytes ms fits le e =
    let a = bind_ok (uops_at l.count l.shape l.count at bytes)
    (λ code. codes_at ls (at + 8 * l.count) bytes >>= λ others. Ok
    (record { name = l.name; shape = l.shape; code = code } ∷ others)) ms e in
    let b = bind_ok (codes_at ls (at + 8 * l.count) bytes)
    (λ others. Ok (record { name = l.name; shape = l.shape; code = a.0 } ∷ others)) ms a.2 in
    let m : Microprogram = record { name = l.name; shape = l.shape; code = a.0 } in
    let one = uops_take l.count l.shape l.count at bytes a.0 fits le a.1 in
    let rest = codes_take ls (at + 8 * l.count) bytes b.0 fits one.within b.1 in
    let end : at + 8 * l.count + 8 * total_count ls ≡ at + 8 * (l.count + total_count ls) =
    omega arith in
    let both = same-place bytes at (code_bytes m ++ flat_map code_bytes b.0) (at + 8 * l.count + 8
    * total_count ls) (at + 8 * (l.count + total_count ls)) end
    (Holds-then bytes at (code_bytes m) (at + 8 * l.count) (flat_map code_bytes b.0) (at + 8
    * l.count + 8 * total_count ls) one rest) in
    subst (λ (is : List Microprogram). Holds bytes at (flat_map code_bytes is) (at + 8
    * (l.count + total_count ls))) (ok_is (m ∷ b.0) ms b.2)
    (subst (λ (t : List ℕ). Holds bytes at t (at + 8 * (l.count + total_count ls)))
    (sym (flat_map-cons code_bytes m b.0)) both)
