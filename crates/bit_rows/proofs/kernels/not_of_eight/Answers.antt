use Rattle.std.proofs.Common.{◌≡◌, ℕ, ◌+◌, ◌≤◌, ◌<◌, List, length, get_or, take, drop, map, ap, ◌∙◌}
use Rattle.std.proofs.Common.{arith}
use Rattle.std.specs.Int.{bit_not, w64}
use Rattle.std.proofs.lemmas.List.{get_or-map}
use Rattle.bit_rows.specs.Bits.{bit_at}
use Rattle.bit_rows.proofs.WordBits.{not-bit, part-length, part-at}
use Rattle.bit_rows.proofs.kernels.not_of_eight.Goals as goal

-- a lane
lane : (xs : List ℕ) (at k : ℕ) → at + 8 ≤ length xs → k < 8
    → get_or (map (λ w. bit_not w64 w) (take 8 (drop at xs))) k 0
    ≡ bit_not w64 (get_or xs (at + k) 0)
lane xs at k l h = get_or-map (λ w. bit_not w64 w) (take 8 (drop at xs)) k 0 0
    (omega (arith, part-length xs at l)) ∙ ap (λ w. bit_not w64 w) (part-at xs at k h)

pub returns-clause-bits : goal.returns-clause-bits
returns-clause-bits c = λ k r h s. ap (λ w. bit_at w r)
    (lane c.args.src.now c.args.at k c.requires h)
    ∙ not-bit (get_or c.args.src.now (c.args.at + k) 0) r (c.type_inv.src (c.args.at + k)).fits s
