-- A field that is read is the field that was written, and what was written is read again.
use Rattle.std.proofs.Common.{◌≡◌, ℕ, ◌+◌, ◌^◌, ◌<◌, ◌≤◌, Bool, true, false, cond, ltb, List, []}
use Rattle.std.proofs.Common.{◌∷◌, ◌++◌, length, get_or, take, drop, Result, Ok, Err, refl, sym, ap}
use Rattle.std.proofs.Common.{subst, ◌∙◌, append_assoc, arith, inl, inr}
use Rattle.std.specs.Int.{Width, w8, w16, w32, byte_len, from_le_bytes, to_le_bytes}
use Rattle.std.proofs.lemmas.Bool.{cases_lt, ltb-false, le-ltb}
use Rattle.std.proofs.lemmas.List.{take_at, drop_at, drop-drop, take-append-drop, length-append}
use Rattle.std.proofs.lemmas.List.{length-take, length-drop, get_or-drop, get_or_append_left}
use Rattle.std.proofs.lemmas.List.{get_or_past}
use Rattle.std.proofs.lemmas.Nat.{le_bytes_2, le_bytes_4, from_le_bytes-to_le_bytes_2}
use Rattle.std.proofs.lemmas.Nat.{from_le_bytes-to_le_bytes_4}
use Rattle.file_fields.specs.declared.faults.FileFault.{FileFault}
use Rattle.file_fields.specs.Fields.{IsBytes, ◌>>=◌, fault_at, rule, bytes_at, number_at, field_at}

-- this text stands at a place of the bytes, and ends at the next place
pub record Holds (bytes : List ℕ) (at : ℕ) (text : List ℕ) (next : ℕ) : Type 0 where
  pub parts : drop at bytes ≡ text ++ drop next bytes
  pub ends : next ≡ at + length text
  pub within : next ≤ length bytes

-- one text after another
pub Holds-then : (bytes : List ℕ) (at : ℕ) (x : List ℕ) (place : ℕ) (y : List ℕ) (next : ℕ)
    → Holds bytes at x place → Holds bytes place y next → Holds bytes at (x ++ y) next
Holds-then bytes at x place y next p q = record {
  parts = p.parts ∙ ap (λ (t : List ℕ). x ++ t) q.parts ∙ sym (append_assoc x y (drop next bytes));
  ends = omega (arith, p.ends, q.ends, length-append x y);
  within = q.within;
}

-- a file that holds two parts holds the first
pub Holds-front : (bytes : List ℕ) (at : ℕ) (x : List ℕ) (place : ℕ) (y : List ℕ) (next : ℕ)
    → Holds bytes at (x ++ y) next → place ≡ at + length x → Holds bytes at x place
Holds-front bytes at x place y next h e =
    let whole : drop at bytes ≡ x ++ (y ++ drop next bytes) =
    h.parts ∙ append_assoc x y (drop next bytes) in
    let following : drop place bytes ≡ y ++ drop next bytes = ap (λ (k : ℕ). drop k bytes) e
    ∙ sym (drop-drop (length x) at bytes) ∙ ap (drop (length x)) whole
    ∙ drop_at x (y ++ drop next bytes) (length x) refl in
    record {
      parts = whole ∙ ap (λ (t : List ℕ). x ++ t) (sym following);
      ends = e;
      within = omega (arith, h.ends, h.within, length-append x y);
    }

-- a file that holds two parts holds the second, where the first ends
pub Holds-back : (bytes : List ℕ) (at : ℕ) (x : List ℕ) (place : ℕ) (y : List ℕ) (next : ℕ)
    → Holds bytes at (x ++ y) next → place ≡ at + length x → Holds bytes place y next
Holds-back bytes at x place y next h e =
    let whole : drop at bytes ≡ x ++ (y ++ drop next bytes) =
    h.parts ∙ append_assoc x y (drop next bytes) in
    record {
      parts = ap (λ (k : ℕ). drop k bytes) e ∙ sym (drop-drop (length x) at bytes)
          ∙ ap (drop (length x)) whole ∙ drop_at x (y ++ drop next bytes) (length x) refl;
      ends = omega (arith, h.ends, length-append x y);
      within = h.within;
    }

-- what stands in bytes is bytes
pub Holds-fits : (bytes : List ℕ) (at : ℕ) (text : List ℕ) (next : ℕ) → Holds bytes at text next
    → IsBytes bytes → IsBytes text
Holds-fits bytes at text next h fits i =
    elim (cases_lt i (length text)) [
      | inl lt ↦ rw (
        sym (get_or_append_left text (drop next bytes) 0 i lt),
        ← h.parts,
        get_or-drop,
      ) (fits (at + i))
      | inr le ↦ rw (get_or_past text i 0 le) (omega arith)
    ]

-- the value of a step that did not fail
pub bind_ok : {K A B : Type 0} (r : Result A (FileFault K)) (f : A → Result B (FileFault K)) (y : B)
    → (r >>= f) ≡ Ok y → (x : A) × (r ≡ Ok x) × (f x ≡ Ok y)
bind_ok (Ok x) f y e = (x, refl, e)
bind_ok (Err d) f y e = absurd cc

abbrev done : {K A : Type 0} → A → Result A (FileFault K)
done x = Ok x

-- a reading gives one value
pub ok_is : {K A : Type 0} (x y : A) → done {K = K} x ≡ done y → x ≡ y
ok_is x y e = cc

-- a rule that did not fail
pub rule_ok : {K : Type 0} (b : Bool) (at : ℕ) (kind : K) (x : Unit {0}) → rule b at kind ≡ Ok x
    → b ≡ true
rule_ok true at kind x e = refl
rule_ok false at kind x e = absurd cc

guard_ok : {K A : Type 0} (b : Bool) (d : FileFault K) (x y : A) → cond b (Err d) (Ok x) ≡ Ok y
    → (b ≡ false) × (x ≡ y)
guard_ok true d x y e = absurd cc
guard_ok false d x y e = (refl, cc)

-- a field that was read stands there in the file
pub bytes_takes : {K : Type 0} (short : K) (len at next : ℕ) (bytes field : List ℕ)
    → bytes_at short len at bytes ≡ Ok field
    → next ≡ at + len → Holds bytes at field next × (length field ≡ len)
bytes_takes short len at next bytes field e n =
    let g = guard_ok (ltb (length bytes) (at + len)) (fault_at (length bytes) short)
    (take len (drop at bytes)) field e in
    let long : at + len ≤ length bytes = ltb-false _ _ g.0 in
    let size : length (take len (drop at bytes)) ≡ len =
    omega (arith, length-take len (drop at bytes), length-drop at bytes) in
    let rest : drop len (drop at bytes) ≡ drop next bytes = drop-drop len at bytes
    ∙ ap (λ (k : ℕ). drop k bytes) (sym n) in
    let held : Holds bytes at (take len (drop at bytes)) next = record {
      parts = sym (take-append-drop len (drop at bytes))
          ∙ ap (λ (r : List ℕ). take len (drop at bytes) ++ r) rest;
      ends = omega (arith, n, size);
      within = omega (arith, n, long);
    } in
    subst (λ (f : List ℕ). Holds bytes at f next × (length f ≡ len)) g.1 (held, size)

-- a field that stands in the file is read
pub bytes_again : {K : Type 0} (short : K) (len at next : ℕ) (bytes field : List ℕ)
    → Holds bytes at field next
    → length field ≡ len → bytes_at short len at bytes ≡ Ok field
bytes_again short len at next bytes field h size =
    let long : ltb (length bytes) (at + len) ≡ false =
    le-ltb _ _ (omega (arith, h.ends, h.within, size)) in
    let part : take len (drop at bytes) ≡ field = ap (take len) h.parts
    ∙ take_at field (drop next bytes) len size in
    rw (long, part) refl

-- numbers of a width: their spelling and their limit
pub record IsWide (w : Width) (limit : ℕ) (text : ℕ → List ℕ) : Type 0 where
  pub len : (n : ℕ) → length (text n) ≡ byte_len w
  pub back : (bytes : List ℕ) → length bytes ≡ byte_len w → IsBytes bytes
      → text (from_le_bytes w bytes) ≡ bytes
  pub again : (n : ℕ) → n < limit → from_le_bytes w (text n) ≡ n
  pub below : (bytes : List ℕ) → IsBytes bytes → from_le_bytes w bytes < limit

one_byte : (bytes : List ℕ) → length bytes ≡ 1 → get_or bytes 0 0 ∷ [] ≡ bytes
one_byte [] e = absurd (omega arith)
one_byte (b ∷ []) e = refl
one_byte (b ∷ c ∷ bs) e = absurd (omega arith)

-- a byte spells each number below 256
pub wide8 : IsWide w8 256 (λ n. n ∷ [])
wide8 = record {
  len = λ n. refl;
  back = λ bytes len fits. one_byte bytes len;
  again = λ n lt. refl;
  below = λ bytes fits. fits 0;
}

-- two bytes spell each number below 2 ^ 16
pub wide16 : IsWide w16 (2 ^ 16) (to_le_bytes w16)
wide16 = record {
  len = λ n. refl;
  back = λ bytes len fits. le_bytes_2 bytes _ len fits refl;
  again = λ n lt. from_le_bytes-to_le_bytes_2 n lt;
  below = λ bytes fits. omega (arith, fits 0, fits 1);
}

-- four bytes spell each number below 2 ^ 32
pub wide32 : IsWide w32 (2 ^ 32) (to_le_bytes w32)
wide32 = record {
  len = λ n. refl;
  back = λ bytes len fits. le_bytes_4 bytes _ len fits refl;
  again = λ n lt. from_le_bytes-to_le_bytes_4 n lt;
  below = λ bytes fits. omega (arith, fits 0, fits 1, fits 2, fits 3);
}

-- a number that was read stands there in its one spelling
pub number_takes : {K : Type 0} (short : K) (w : Width) (limit : ℕ) (text : ℕ
    → List ℕ) (wide : IsWide w limit text) (at next : ℕ) (bytes : List ℕ) (n : ℕ) → IsBytes bytes
    → number_at short w at bytes ≡ Ok n → next ≡ at + byte_len w → Holds bytes at (text n) next
    × (n < limit)
number_takes short w limit text wide at next bytes n fits e nx =
    let a = bind_ok (bytes_at short (byte_len w) at bytes) (λ field. Ok (from_le_bytes w field)) n e
    in
    let t = bytes_takes short (byte_len w) at next bytes a.0 a.1 nx in
    let part : IsBytes a.0 = Holds-fits bytes at a.0 next t.0 fits in
    let held : Holds bytes at (text (from_le_bytes w a.0)) next =
    subst (λ (f : List ℕ). Holds bytes at f next) (sym (wide.back a.0 t.1 part)) t.0 in
    subst (λ (k : ℕ). Holds bytes at (text k) next
    × (k < limit)) (ok_is (from_le_bytes w a.0) n a.2) (held, wide.below a.0 part)

-- a number that stands there is read
pub number_again : {K : Type 0} (short : K) (w : Width) (limit : ℕ) (text : ℕ
    → List ℕ) (wide : IsWide w limit text) (at next : ℕ) (bytes : List ℕ) (n : ℕ)
    → Holds bytes at (text n) next → n < limit → number_at short w at bytes ≡ Ok n
number_again short w limit text wide at next bytes n h lt =
    rw (bytes_again short (byte_len w) at next bytes (text n) h (wide.len n))
    (ap done (wide.again n lt))

-- a number that was read and passes stands there in its one spelling
pub field_takes : {K : Type 0} (short : K) (w : Width) (limit : ℕ) (text : ℕ
    → List ℕ) (wide : IsWide w limit text) (passes : ℕ
    → Bool) (kind : K) (at next : ℕ) (bytes : List ℕ) (n : ℕ)
    → IsBytes bytes → field_at short w passes kind at bytes ≡ Ok n → next ≡ at + byte_len w
    → Holds bytes at (text n) next × (n < limit) × (passes n ≡ true)
field_takes {K = K} short w limit text wide passes kind at next bytes n fits e nx =
    let a = bind_ok (number_at short w at bytes) (λ k. rule (passes k) at kind >>= λ _. Ok k) n e in
    let b = bind_ok (rule (passes a.0) at kind) (λ _. Ok a.0) n a.2 in
    let t = number_takes short w limit text wide at next bytes a.0 fits a.1 nx in
    subst (λ (k : ℕ). Holds bytes at (text k) next × (k < limit)
    × (passes k ≡ true)) (ok_is a.0 n b.2) (t.0, t.1, rule_ok (passes a.0) at kind b.0 b.1)

-- a number that stands there and passes is read
pub field_again : {K : Type 0} (short : K) (w : Width) (limit : ℕ) (text : ℕ
    → List ℕ) (wide : IsWide w limit text) (passes : ℕ
    → Bool) (kind : K) (at next : ℕ) (bytes : List ℕ) (n : ℕ)
    → Holds bytes at (text n) next → n < limit → passes n ≡ true
    → field_at short w passes kind at bytes ≡ Ok n
field_again {K = K} short w limit text wide passes kind at next bytes n h lt ok =
    let read : number_at short w at bytes ≡ Ok n =
    number_again short w limit text wide at next bytes n h lt in
    let step : Result ℕ (FileFault K) → Result ℕ (FileFault K) =
    λ r. r >>= λ k. rule (passes k) at kind >>= λ _. Ok k in
    ap step read ∙ rw ok refl

-- a number that was read passes its test
pub field_passes : {K : Type 0} (short : K) (w : Width) (passes : ℕ
    → Bool) (kind : K) (at : ℕ) (bytes : List ℕ) (n : ℕ)
    → field_at short w passes kind at bytes ≡ Ok n → passes n ≡ true
field_passes short w passes kind at bytes n e =
    let a = bind_ok (number_at short w at bytes) (λ k. rule (passes k) at kind >>= λ _. Ok k) n e in
    let b = bind_ok (rule (passes a.0) at kind) (λ _. Ok a.0) n a.2 in
    ap passes (sym (ok_is a.0 n b.2)) ∙ rule_ok (passes a.0) at kind b.0 b.1
