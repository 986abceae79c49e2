-- A program file is read exactly.
use Rattle.uprog_bin.proofs.Common.{◌≡◌, ◌≢◌, ℕ, zero, suc, ◌+◌, ◌*◌, ◌^◌, ◌<◌, eqb, leb, List, []}
use Rattle.uprog_bin.proofs.Common.{◌∷◌, ◌++◌, length, get_or, Ok, refl, sym, ap, None, ◌⊎◌, inl}
use Rattle.uprog_bin.proofs.Common.{inr, ◌∙◌, subst, arith, append-nil, codes, w16, to_le_bytes}
use Rattle.uprog_bin.proofs.Common.{flat_map, AllByRecursion, AllPairs, bytes_eq, eqb-true}
use Rattle.uprog_bin.proofs.Common.{leb-true, bytes_eq-Decides, drop_all, flat_map-cons, Word}
use Rattle.uprog_bin.proofs.Common.{Microprogram, IsEntry, IsProgram, IsBytes, ◌>>=◌, rule, Holds}
use Rattle.uprog_bin.proofs.Common.{Holds-then, bind_ok, ok_is, rule_ok, bytes_takes, wide16}
use Rattle.uprog_bin.proofs.Common.{field_takes}
use Rattle.uprog_bin.specs.declared.fault.ProgKind.TheVariants as kinds
use Rattle.uprog_bin.specs.Spelling.{head_bytes, directory_bytes, code_bytes, opening_bytes}
use Rattle.uprog_bin.specs.Spelling.{HasVersion, program_bytes}
use Rattle.uprog_bin.specs.Reading.{bytes_at, field_at, uops_at, codes_at, codes_start, total_count}
use Rattle.uprog_bin.specs.Reading.{Listing, directory_at, opening_in, is_version, program_in}
use Rattle.uprog_bin.specs.Opened.{AreStarts}
use Rattle.uprog_bin.proofs.Files.{codes_length, directory_starts}
use Rattle.uprog_bin.proofs.Found.{uops_read, legal_read}
use Rattle.uprog_bin.proofs.Records.{listing_bytes, IsListing, HaveNames, directory_takes}
use Rattle.uprog_bin.proofs.Taken.{codes_take}
use Rattle.uprog_bin.proofs.Numbers.{is_one_or_two}

opening_takes : (v : ℕ) (bytes : List ℕ) → IsBytes bytes → opening_in bytes ≡ Ok v
    → Holds bytes 0 (opening_bytes v) 6 × ((v ≡ 1) ⊎ (v ≡ 2))
unfolding opening_in
opening_takes v bytes fits e =
    let a = bind_ok (bytes_at 4 0 bytes) (λ magic. rule (bytes_eq magic (codes "SDMP")) 0
    kinds.Magic >>= λ _. field_at w16 is_version kinds.Version 4 bytes) v e in
    let b = bind_ok (rule (bytes_eq a.0 (codes "SDMP")) 0 kinds.Magic) (λ _.
    field_at w16 is_version kinds.Version 4 bytes) v a.2 in
    let magic = bytes_takes kinds.Short 4 0 4 bytes a.0 a.1 (omega arith) in
    let same : a.0 ≡ codes "SDMP" = (bytes_eq-Decides a.0 (codes "SDMP")).0
    (rule_ok (bytes_eq a.0 (codes "SDMP")) 0 kinds.Magic b.0 b.1) in
    let version = field_takes kinds.Short w16 (2 ^ 16) (to_le_bytes w16) wide16 is_version
    kinds.Version 4 6
    bytes v fits b.2 (omega arith) in (
      Holds-then bytes 0 (codes "SDMP") 4 (to_le_bytes w16 v) 6
          (subst (λ f. Holds bytes 0 f 4) same magic.0) version.0,
      is_one_or_two v version.2,
    )

-- an entry of a file has its record's name and shape, and as many instructions
pub record Matches (l : Listing) (m : Microprogram) : Type 0 where
  pub name : l.name ≡ m.name
  pub shape : l.shape ≡ m.shape
  pub count : l.count ≡ length m.code

abbrev AllMatch : List Listing → List Microprogram → Type 0
AllMatch [] [] = Unit {0}
AllMatch [] (m ∷ ms) = ⊥
AllMatch (l ∷ ls) [] = ⊥
AllMatch (l ∷ ls) (m ∷ ms) = Matches l m × AllMatch ls ms

codes_match : (ls : List Listing) (at : ℕ) (bytes : List ℕ) (ms : List Microprogram)
    → codes_at ls at bytes ≡ Ok ms → AllMatch ls ms
unfolding codes_at
codes_match [] at bytes ms e = subst (AllMatch []) (ok_is [] ms e) tt
codes_match (l ∷ ls) at bytes ms e =
    let a = bind_ok (uops_at l.count l.shape l.count at bytes)
    (λ code. codes_at ls (at + 8 * l.count) bytes >>= λ others. Ok
    (record { name = l.name; shape = l.shape; code = code } ∷ others)) ms e in
    let b = bind_ok (codes_at ls (at + 8 * l.count) bytes)
    (λ others. Ok (record { name = l.name; shape = l.shape; code = a.0 } ∷ others)) ms a.2 in
    let m : Microprogram = record { name = l.name; shape = l.shape; code = a.0 } in
    let size = (uops_read l.count l.shape l.count at bytes a.0 a.1).1 in
    subst (AllMatch (l ∷ ls)) (ok_is (m ∷ b.0) ms b.2) (
      record {
        name = refl;
        shape = refl;
        count = sym size;
      },
      codes_match ls (at + 8 * l.count) bytes b.0 b.1,
    )

head_is : (l : Listing) (m : Microprogram) (start : ℕ) → Matches l m → l.start ≡ start
    → listing_bytes l ≡ head_bytes start m
head_is l m start h s = rw (h.name, h.shape, h.count, s) refl

directory_is : (ls : List Listing) (ms : List Microprogram) (start : ℕ) → AllMatch ls ms
    → AreStarts start ls → flat_map listing_bytes ls ≡ directory_bytes start ms
directory_is [] [] start h s = refl
directory_is [] (m ∷ ms) start h s = absurd h
directory_is (l ∷ ls) [] start h s = absurd h
directory_is (l ∷ ls) (m ∷ ms) start h s =
    flat_map-cons listing_bytes l ls
    ∙ ap (λ (t : List ℕ). t ++ flat_map listing_bytes ls) (head_is l m start h.0 s.0)
    ∙ ap (λ (t : List ℕ). head_bytes start m ++ t) (directory_is ls ms (start + l.count) h.1 s.3)
    ∙ ap (λ n. head_bytes start m ++ directory_bytes (start + n) ms) h.0.count

entries_are : (v : ℕ) (ls : List Listing) (at first : ℕ) (bytes : List ℕ) (ms : List Microprogram)
    → AllByRecursion (IsListing v) ls → AreStarts first ls → codes_at ls at bytes ≡ Ok ms
    → AllByRecursion IsEntry ms × (v ≡ 1 → AllByRecursion (λ m. m.shape.second ≡ None) ms)
unfolding codes_at
entries_are v [] at first bytes ms is s e = let same = ok_is [] ms e in (
  subst (AllByRecursion IsEntry) same tt,
  λ one. subst (AllByRecursion (λ m. m.shape.second ≡ None)) same tt,
)
entries_are v (l ∷ ls) at first bytes ms is s e =
    let a = bind_ok (uops_at l.count l.shape l.count at bytes)
    (λ code. codes_at ls (at + 8 * l.count) bytes >>= λ others. Ok
    (record { name = l.name; shape = l.shape; code = code } ∷ others)) ms e in
    let b = bind_ok (codes_at ls (at + 8 * l.count) bytes)
    (λ others. Ok (record { name = l.name; shape = l.shape; code = a.0 } ∷ others)) ms a.2 in
    let m : Microprogram = record { name = l.name; shape = l.shape; code = a.0 } in
    let entry : IsEntry m = record {
      name = is.0.name;
      some = is.0.shape.some;
      few = is.0.shape.few;
      bits = is.0.shape.bits;
      words = is.0.shape.words;
      code = legal_read l.count l.shape at bytes a.0 s.1 s.2 a.1;
    } in
    let rest = entries_are v ls (at + 8 * l.count) (first + l.count) bytes b.0 is.1 s.3 b.1 in
    let same = ok_is (m ∷ b.0) ms b.2 in (
      subst (AllByRecursion IsEntry) same (entry, rest.0),
      λ one. subst (AllByRecursion (λ x. x.shape.second ≡ None)) same
          (is.0.shape.one one, rest.1 one),
    )

name_at_place : (ls : List Listing) (ms : List Microprogram) (k : ℕ) (c : Listing)
    (d : Microprogram) → AllMatch ls ms → k < length ms
    → (get_or ls k c).name ≡ (get_or ms k d).name
name_at_place [] [] k c d h lt = absurd (omega arith)
name_at_place [] (m ∷ ms) k c d h lt = absurd h
name_at_place (l ∷ ls) [] k c d h lt = absurd h
name_at_place (l ∷ ls) (m ∷ ms) zero c d h lt = h.0.name
name_at_place (l ∷ ls) (m ∷ ms) (suc k) c d h lt = name_at_place ls ms k c d h.1 (omega arith)

match_length : (ls : List Listing) (ms : List Microprogram) → AllMatch ls ms → length ls ≡ length ms
match_length [] [] h = refl
match_length [] (m ∷ ms) h = absurd h
match_length (l ∷ ls) [] h = absurd h
match_length (l ∷ ls) (m ∷ ms) h = let e = match_length ls ms h.1 in omega arith

blank : Listing
blank = record {
  name = [];
  shape = record { sources = []; result = Word; second = None; bits = 0; words = 0 };
  start = 0;
  count = 0;
}

names_differ : (ls : List Listing) (ms : List Microprogram) → AllMatch ls ms → HaveNames ls
    → AllPairs (λ m n. m.name ≢ n.name) ms
names_differ ls ms h names i j d lt lj e =
    let size = match_length ls ms h in
    names i j blank lt (omega arith) (name_at_place ls ms i blank d h (omega arith) ∙ e
    ∙ sym (name_at_place ls ms j blank d h lj))

pub spelled : (bytes : List ℕ) (version : ℕ) (ms : List Microprogram) → IsBytes bytes
    → program_in bytes ≡ Ok (version, ms)
    → IsProgram ms × HasVersion version ms × (bytes ≡ program_bytes version ms)
unfolding program_in program_bytes
spelled bytes version ms fits e =
    let a = bind_ok (opening_in bytes) (λ v. field_at w16 (λ n. leb n 32) kinds.Directory 6 bytes
    >>= λ count. directory_at v count [] 0 8 bytes >>= λ ls. codes_at ls (codes_start ls) bytes
    >>= λ ps. rule (eqb (length bytes) (codes_start ls + 8 * total_count ls)) (codes_start ls
    + 8 * total_count ls) kinds.Rest >>= λ _. Ok (v, ps)) (version, ms) e in
    let v = a.0 in
    let b = bind_ok (field_at w16 (λ n. leb n 32) kinds.Directory 6 bytes)
    (λ count. directory_at v count [] 0 8 bytes >>= λ ls. codes_at ls (codes_start ls) bytes >>=
    λ ps. rule (eqb (length bytes) (codes_start ls + 8 * total_count ls)) (codes_start ls + 8
    * total_count ls) kinds.Rest >>= λ _. Ok (v, ps)) (version, ms) a.2 in
    let c = bind_ok (directory_at v b.0 [] 0 8 bytes)
    (λ ls. codes_at ls (codes_start ls) bytes >>= λ ps. rule
    (eqb (length bytes) (codes_start ls + 8 * total_count ls)) (codes_start ls + 8
    * total_count ls) kinds.Rest >>= λ _. Ok (v, ps)) (version, ms) b.2 in
    let ls = c.0 in
    let d = bind_ok (codes_at ls (codes_start ls) bytes)
    (λ ps. rule (eqb (length bytes) (codes_start ls + 8 * total_count ls)) (codes_start ls + 8
    * total_count ls) kinds.Rest >>= λ _. Ok (v, ps)) (version, ms) c.2 in
    let f = bind_ok (rule (eqb (length bytes) (codes_start ls + 8 * total_count ls)) (codes_start ls
    + 8 * total_count ls) kinds.Rest) (λ _. Ok (v, d.0)) (version, ms) d.2 in
    let long : length bytes ≡ codes_start ls + 8 * total_count ls =
    eqb-true (length bytes) (codes_start ls + 8 * total_count ls)
    (rule_ok (eqb (length bytes) (codes_start ls + 8 * total_count ls)) (codes_start ls + 8
    * total_count ls) kinds.Rest f.0 f.1) in
    let opening = opening_takes v bytes fits a.1 in
    let count = field_takes kinds.Short w16 (2 ^ 16) (to_le_bytes w16) wide16 (λ n.
    leb n 32) kinds.Directory 6
    8 bytes b.0 fits b.1 (omega arith) in
    let reads = directory_takes v b.0 [] 0 8 bytes ls fits count.0.within c.1 in
    let same : reads.rest ≡ ls = sym reads.parts in
    let size : length ls ≡ b.0 = ap length (sym same) ∙ reads.size in
    let starts = directory_starts v b.0 [] 0 8 bytes ls c.1 tt refl in
    let matches = codes_match ls (codes_start ls) bytes d.0 d.1 in
    let many : length d.0 ≡ b.0 = codes_length ls (codes_start ls) bytes d.0 d.1 ∙ size in
    let listings = subst (AllByRecursion (IsListing v)) same reads.listings in
    let names = reads.names (λ i j x lt lj. absurd (omega arith)) in
    let entries = entries_are v ls (codes_start ls) 0 bytes d.0 listings starts d.1 in
    let is : IsProgram d.0 = record {
      few = omega (arith, many, leb-true b.0 32 count.2);
      entries = entries.0;
      names = names_differ ls d.0 matches names;
    } in
    let has : HasVersion v d.0 = elim opening.1 [
      | inl one ↦ inl (one, entries.1 one)
      | inr two ↦ inr two
    ] in
    let from : 8 + 27 * b.0 ≡ codes_start ls = omega (arith, size) in
    let directory : Holds bytes 8 (directory_bytes 0 d.0) (codes_start ls) =
    subst (λ (t : List ℕ). Holds bytes 8 t (codes_start ls)) (ap (flat_map listing_bytes) same
    ∙ directory_is ls d.0 0 matches starts)
    (subst (Holds bytes 8 (flat_map listing_bytes reads.rest)) from reads.held) in
    let codes = codes_take ls (codes_start ls) bytes d.0 fits directory.within d.1 in
    let end : ℕ = codes_start ls + 8 * total_count ls in
    let counted : Holds bytes 6 (to_le_bytes w16 (length d.0)) 8 =
    subst (λ n. Holds bytes 6 (to_le_bytes w16 n) 8) (sym many) count.0 in
    let following = Holds-then bytes 8 (directory_bytes 0 d.0) (codes_start ls)
    (flat_map code_bytes d.0) end directory codes in
    let whole = Holds-then bytes 0 (opening_bytes v) 6 (to_le_bytes w16 (length d.0)
    ++ (directory_bytes 0 d.0 ++ flat_map code_bytes d.0)) end opening.0
    (Holds-then bytes 6 (to_le_bytes w16 (length d.0)) 8 (directory_bytes 0 d.0
    ++ flat_map code_bytes d.0) end counted following) in
    let text : bytes ≡ opening_bytes v ++ (to_le_bytes w16 (length d.0)
    ++ (directory_bytes 0 d.0 ++ flat_map code_bytes d.0)) =
    whole.parts ∙ ap (λ (rest : List ℕ). (opening_bytes v
    ++ (to_le_bytes w16 (length d.0) ++ (directory_bytes 0 d.0 ++ flat_map code_bytes d.0)))
    ++ rest) (drop_all end bytes (omega (arith, long)))
    ∙ append-nil (opening_bytes v ++ (to_le_bytes w16 (length d.0)
    ++ (directory_bytes 0 d.0 ++ flat_map code_bytes d.0))) in
    subst (λ (x : ℕ × List Microprogram). IsProgram x.1 × HasVersion x.0 x.1
    × (bytes ≡ opening_bytes x.0 ++ (to_le_bytes w16 (length x.1)
    ++ (directory_bytes 0 x.1 ++ flat_map code_bytes x.1)))) (ok_is (v, d.0) (version, ms) f.2)
    (is, has, text)
