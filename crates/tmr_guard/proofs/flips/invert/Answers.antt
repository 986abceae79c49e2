use Rattle.tmr_guard.proofs.Common.{◌≡◌, ℕ, ◌*◌, ◌%◌, ◌^◌, ◌<◌, ap, ◌∙◌, arith, bit_xor, bits}
use Rattle.std.proofs.Math.Nat.{mod-eq_of_lt}
use Rattle.std.proofs.Math.Pow.{pow-lt}
use Rattle.tmr_guard.proofs.Columns.{word_inverted}
use Rattle.tmr_guard.proofs.flips.invert.Goals as goal

one_bit : (k : ℕ) → k < 64 → 1 * 2 ^ k % 18446744073709551616 ≡ 2 ^ k
one_bit k l =
    let small : 2 ^ k < 2 ^ 64 = pow-lt l in
    let one : 1 * 2 ^ k ≡ 2 ^ k = omega arith in
    ap (λ n. n % 18446744073709551616) one ∙ mod-eq_of_lt small

pub returns : goal.returns
returns c = ap (λ n. bits (bit_xor c.args.word n) 64) (one_bit c.args.k c.requires)
    ∙ word_inverted c.args.word c.args.k c.requires
