-- The instructions that bytes spell, one by one.
use Rattle.uprog_bin.proofs.Common.{◌≡◌, ℕ, zero, suc, ◌+◌, ◌*◌, ◌/◌, ◌<◌, List, length, take, drop}
use Rattle.uprog_bin.proofs.Common.{Some, refl, sym, ap, ◌∙◌, arith, slice_get, drop-drop, Shape}
use Rattle.uprog_bin.specs.Opened.{EntryBytes, uop_in, uops_in, code_of}

pub length-uops : (n : ℕ) (bytes : List ℕ) → length (uops_in n bytes) ≡ n
length-uops zero bytes = refl
length-uops (suc n) bytes = let h = length-uops n (drop 8 bytes) in omega arith

pub at-uops : (n k : ℕ) (bytes : List ℕ) → k < n
    → slice_get (uops_in n bytes) k ≡ Some (uop_in (take 8 (drop (8 * k) bytes)))
at-uops zero k bytes lt = absurd (omega arith)
at-uops (suc n) zero bytes lt = let none : 0 ≡ 8 * 0 = omega arith in
    ap (λ m. Some (uop_in (take 8 (drop m bytes)))) none
at-uops (suc n) (suc k) bytes lt =
    let e : 8 * suc k ≡ 8 + 8 * k = omega arith in
    at-uops n k (drop 8 bytes) (omega arith)
    ∙ ap (λ xs. Some (uop_in (take 8 xs))) (drop-drop (8 * k) 8 bytes
    ∙ ap (λ m. drop m bytes) (sym e))

module _ (name : List ℕ) (shape : Shape) (bytes : List ℕ) (seen : EntryBytes)
    (is : (let h : EntryBytes = record { name = name; shape = shape; bytes = bytes } in h)
    ≡ seen) where
  pub length-code : length (code_of seen) ≡ length bytes / 8
  length-code = ap (λ (h : EntryBytes). length (code_of h)) (sym is)
      ∙ length-uops (length bytes / 8) bytes

  pub at-code : (k : ℕ) → k < length bytes / 8
      → slice_get (code_of seen) k ≡ Some (uop_in (take 8 (drop (8 * k) bytes)))
  at-code k lt = ap (λ (h : EntryBytes). slice_get (code_of h) k) (sym is)
      ∙ at-uops (length bytes / 8) k bytes lt
