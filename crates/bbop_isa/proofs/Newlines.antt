-- Where a text's first newline stands.
use Rattle.std.proofs.lemmas.Bool.{false_from_ne_true}
use Rattle.std.proofs.Common.{◌≡◌, ℕ, zero, suc, ◌+◌, ◌<◌, ◌==◌, Bool, true, false, List, ◌∷◌, []}
use Rattle.std.proofs.Common.{length, get_or, refl, sym, ap, ◌∙◌, arith, Option, Some, None, not}
use Rattle.std.proofs.Common.{if◌then◌else◌}
use Rattle.std.specs.List.{prefix_len}
use Rattle.std.specs.Option.{unwrap_or}
use Rattle.memchr.specs.Find.{IsFirstByte, is_byte}
use Rattle.text_lex.specs.Bytes.{is_no_newline}

first_newline : (text : List ℕ) (k : ℕ) → k < length text
    → ((j : ℕ) → j < k → (get_or text j 0 == 10) ≡ false) → (get_or text k 0 == 10) ≡ true
    → k ≡ prefix_len is_no_newline text
first_newline [] k l before here = absurd (omega arith)
first_newline (b ∷ bs) zero l before here =
    sym (ap (λ (t : Bool). if not t then 1 + prefix_len is_no_newline bs else 0) here)
first_newline (b ∷ bs) (suc k) l before here =
    let rest : k ≡ prefix_len is_no_newline bs = first_newline bs k (omega arith) (λ j m.
    before (suc j) (omega arith)) here in
    let more : suc k ≡ 1 + prefix_len is_no_newline bs = omega (arith, rest) in
    more ∙ sym (ap (λ (t : Bool). if not t then 1 + prefix_len is_no_newline bs else 0)
    (before 0 (omega arith)))

no_newline : (text : List ℕ) → ((j : ℕ) → j < length text → (get_or text j 0 == 10) ≡ false)
    → length text ≡ prefix_len is_no_newline text
no_newline [] h = refl
no_newline (b ∷ bs) h =
    let rest : length bs ≡ prefix_len is_no_newline bs = no_newline bs (λ j m.
    h (suc j) (omega arith)) in
    let more : length (b ∷ bs) ≡ 1 + prefix_len is_no_newline bs = omega (arith, rest) in
    more ∙ sym (ap (λ (t : Bool). if not t then 1 + prefix_len is_no_newline bs else 0)
    (h 0 (omega arith)))

-- the bytes before it, or all where there is none
pub line_found : (text : List ℕ) (found : Option ℕ) → IsFirstByte (is_byte 10) text found
    → unwrap_or found (length text) ≡ prefix_len is_no_newline text
line_found text None h = no_newline text (λ j l. false_from_ne_true (get_or text j 0 == 10)
    (h j (omega arith) l))
line_found text (Some k) h = first_newline text k h.0.high (λ j l.
    false_from_ne_true (get_or text j 0 == 10) (h.0.before j (omega arith) l)) h.1
