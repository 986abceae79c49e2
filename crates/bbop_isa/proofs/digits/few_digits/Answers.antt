use Rattle.std.proofs.Common.{◌≡◌, ℕ, suc, ap, ◌+◌, ◌*◌, ◌^◌, ◌-◌, ◌≤◌, ◌<◌, true, get_or, arith, ◌∙◌}
use Rattle.std.proofs.Math.Nat.{pow-le-pow_right, pow-succ'}
use Rattle.std.specs.Char.{is_ascii_digit}
use Rattle.std.proofs.lemmas.Int.Digits.{digits_value_more}
use Rattle.std.proofs.lemmas.Bool.Decides.{nat_tests}
use Rattle.text_lex.proofs.Digits.{digit_is}
use Rattle.bbop_isa.proofs.digits.few_digits.Goals as goal

-- a digit is below 10
below-ten : (b : ℕ) → is_ascii_digit b ≡ true → b - 48 < 10
below-ten b h = grind (arith, nat_tests)

-- one digit more of at most 19
more : (value digit i : ℕ) → value < 10 ^ i → digit < 10 → i < 19
    → 10 * value + digit < 10000000000000000000
more value digit i small d l =
    let p : 10 ^ i ≤ 10 ^ 18 = pow-le-pow_right {n = 10} (omega arith) {i = i} {j = 18} (omega arith) in
    omega (arith, p, small, d)

pub overflow_mul-value : goal.overflow_mul-value
overflow_mul-value c = let m = more c.loop-byte.value 0 c.loop-byte.byte-index
    c.loop-byte.invariant.small (omega arith) (omega (arith, c.requires.few, c.loop-byte-test.true)) in
    omega (arith, m)

pub overflow_add-value : goal.overflow_add-value
overflow_add-value c =
    let i = c.loop-byte.byte-index in
    let d = below-ten (get_or c.args.text.now i 0) (c.requires.digits i 0 c.loop-byte-test.true) in
    let s = c.from.ensures in
    let m = more c.loop-byte.value c.from.result i c.loop-byte.invariant.small (omega (arith, d, s))
    (omega (arith, c.requires.few, c.loop-byte-test.true)) in
    omega (arith, m)

pub loop-byte-preserved : goal.loop-byte-preserved
loop-byte-preserved c =
    let i = c.loop-byte.byte-index in
    let digit = c.requires.digits i 0 c.loop-byte-test.true in
    let e = digits_value_more 10 c.args.text.now i c.loop-byte-test.true in
    let b = below-ten (get_or c.args.text.now i 0) digit in
    let d = digit_is (get_or c.args.text.now i 0) digit in
    let s = c.from.ensures in
    let next : i + 1 ≡ suc i = omega arith in
    let p : 10 ^ (i + 1) ≡ 10 * 10 ^ i = ap (λ k. 10 ^ k) next ∙ pow-succ' 10 i in
    record {
      so_far = omega (arith, e, d, s, c.loop-byte.invariant.so_far);
      small = omega (arith, p, b, s, c.loop-byte.invariant.small);
    }
