use Rattle.std.proofs.Common.{◌≡◌, ℕ, ◌+◌, ◌-◌, ◌<◌, ◌≤◌, ◌++◌, List, Bool, length, get_or, take}
use Rattle.std.proofs.Common.{drop, refl, sym, ap, ◌∙◌, arith, inl, inr, length-append, length-take}
use Rattle.std.proofs.Common.{length-drop}
use Rattle.std.proofs.lemmas.List.{get_or_append_left}
use mathlib.Core.Logic.{◌⊎◌}
use Rattle.bit_rows.specs.Bits.{bit_at, word_bit, flip_if}
use Rattle.dram_chip.proofs.Placed.{past, alike, placed, length-placed, placed-at, placed-off}
use Rattle.dram_chip.proofs.Placed.{headed, length-headed, headed-at, headed-off, read-front}
use Rattle.dram_chip.proofs.Placed.{read-back}
use Rattle.dram_chip.proofs.rows.move_words.Goals as goal

bit-moved : (x y z w r : ℕ) (inverted : Bool) → x ≡ y → bit_at y r ≡ flip_if inverted (bit_at z r)
    → z ≡ w → bit_at x r ≡ flip_if inverted (bit_at w r)
bit-moved x y z w r inverted e f g =
    ap (λ k. bit_at k r) e ∙ f ∙ ap (λ k. flip_if inverted (bit_at k r)) g

-- the row at `to` took one before it: the list is parted at `to`
record Up (all low high B : List ℕ) (n from to : ℕ) (inverted : Bool) : Type 0 where
  whole : all ≡ low ++ high
  low_length : length low ≡ to
  fits : from + n ≤ to
  room : n ≤ length high
  long : length B ≡ n
  bits : (q r : ℕ) → q < n → r < 64 → word_bit B q r
      ≡ flip_if inverted (word_bit (take (from + n - from) (drop from low)) q r)

up-moved : (all low high B : List ℕ) (n from to : ℕ) (inverted : Bool)
    → Up all low high B n from to inverted → (q r : ℕ) → q < n → r < 64
    → word_bit (low ++ headed high B n) (to + q) r ≡ flip_if inverted (word_bit all (from + q) r)
up-moved all low high B n from to inverted u q r h l =
    bit-moved _ _ _ _ r inverted (past low (headed high B n) to q u.low_length
    ∙ headed-at high B n q u.long h) (u.bits q r h l)
    (read-front all low high from to n q u.whole u.low_length u.fits h)

up-off : (all low high B : List ℕ) (n from to : ℕ) (inverted : Bool)
    → Up all low high B n from to inverted → (k : ℕ) → (k < to) ⊎ (to + n ≤ k)
    → get_or (low ++ headed high B n) k 0 ≡ get_or all k 0
up-off all low high B n from to inverted u k off =
    alike low low (headed high B n) high k refl (λ l. refl) (λ j e. headed-off high B n j u.long
    (far j e off)) ∙ ap (λ xs. get_or xs k 0) (sym u.whole) where
      far : (j : ℕ) → k ≡ length low + j → (k < to) ⊎ (to + n ≤ k) → n ≤ j
      far j e (inl l) = absurd (omega (arith, e, l, u.low_length))
      far j e (inr l) = omega (arith, e, l, u.low_length)

up-length : (all low high B : List ℕ) (n from to : ℕ) (inverted : Bool)
    → Up all low high B n from to inverted → length (low ++ headed high B n) ≡ length all
up-length all low high B n from to inverted u = length-append low (headed high B n)
    ∙ ap (λ k. length low + k) (length-headed high B n u.room u.long)
    ∙ sym (length-append low high) ∙ ap length (sym u.whole)

-- the row at `to` took one past it: the list is parted at `from`
record Down (all low high B : List ℕ) (n from to : ℕ) (inverted : Bool) : Type 0 where
  whole : all ≡ low ++ high
  low_length : length low ≡ from
  fits : to + n ≤ from
  long : length B ≡ n
  bits : (q r : ℕ) → q < n → r < 64 → word_bit B q r
      ≡ flip_if inverted (word_bit (take n high) q r)

down-moved : (all low high B : List ℕ) (n from to : ℕ) (inverted : Bool)
    → Down all low high B n from to inverted → (q r : ℕ) → q < n → r < 64
    → word_bit (placed low B to n ++ high) (to + q) r
    ≡ flip_if inverted (word_bit all (from + q) r)
down-moved all low high B n from to inverted d q r h l =
    let room : to + n ≤ length low = omega (arith, d.fits, d.low_length) in
    bit-moved _ _ _ _ r inverted (get_or_append_left (placed low B to n) high 0 (to + q)
    (omega (arith, length-placed low B to n room d.long, room, h))
    ∙ placed-at low B to n q room d.long h) (d.bits q r h l)
    (read-back all low high from n q d.whole d.low_length h)

down-off : (all low high B : List ℕ) (n from to : ℕ) (inverted : Bool)
    → Down all low high B n from to inverted → (k : ℕ) → (k < to) ⊎ (to + n ≤ k)
    → get_or (placed low B to n ++ high) k 0 ≡ get_or all k 0
down-off all low high B n from to inverted d k off =
    let room : to + n ≤ length low = omega (arith, d.fits, d.low_length) in
    alike (placed low B to n) low high high k (length-placed low B to n room d.long)
    (λ l. placed-off low B to n k room d.long off)
    (λ j e. refl) ∙ ap (λ xs. get_or xs k 0) (sym d.whole)

down-length : (all low high B : List ℕ) (n from to : ℕ) (inverted : Bool)
    → Down all low high B n from to inverted → length (placed low B to n ++ high) ≡ length all
down-length all low high B n from to inverted d = length-append (placed low B to n) high
    ∙ ap (λ k. k + length high) (length-placed low B to n
    (omega (arith, d.fits, d.low_length)) d.long)
    ∙ sym (length-append low high) ∙ ap length (sym d.whole)

apart-up : (from to n : ℕ) → from < to → (from ≡ to) ⊎ (from + n ≤ to) ⊎ (to + n ≤ from)
    → from + n ≤ to
apart-up from to n l (inl e) = absurd (omega arith)
apart-up from to n l (inr (inl h)) = h
apart-up from to n l (inr (inr h)) = absurd (omega arith)

apart-down : (from to n : ℕ) → to < from → (from ≡ to) ⊎ (from + n ≤ to) ⊎ (to + n ≤ from)
    → to + n ≤ from
apart-down from to n l (inl e) = absurd (omega arith)
apart-down from to n l (inr (inl h)) = absurd (omega arith)
apart-down from to n l (inr (inr h)) = h

up : (all low high B : List ℕ) (n from to : ℕ) (inverted : Bool) → from < to
    → (from ≡ to) ⊎ (from + n ≤ to) ⊎ (to + n ≤ from) → to + n ≤ length all → all ≡ low ++ high
    → length low ≡ to → length B ≡ length (take n high)
    → ((q r : ℕ) → q < length (take n high) → r < 64 → word_bit B q r
    ≡ flip_if inverted (word_bit (take (from + n - from) (drop from low)) q r))
    → Up all low high B n from to inverted
up all low high B n from to inverted l apart room e low_length size bits =
    let all_length = ap length e ∙ length-append low high in
    let left : n ≤ length high = omega (arith, all_length, low_length, room) in
    let wide : length (take n high) ≡ n = omega (arith, length-take n high, left) in
    record {
      whole = e;
      low_length = low_length;
      fits = apart-up from to n l apart;
      room = left;
      long = size ∙ wide;
      bits = λ q r h m. bits q r (omega (arith, h, wide)) m;
    }

down : (all low high B : List ℕ) (n from to : ℕ) (inverted : Bool) → to < from
    → (from ≡ to) ⊎ (from + n ≤ to) ⊎ (to + n ≤ from) → from + n ≤ length all → all ≡ low ++ high
    → length low ≡ from → length B ≡ length (take (to + n - to) (drop to low))
    → ((q r : ℕ) → q < length (take (to + n - to) (drop to low)) → r < 64 → word_bit B q r
    ≡ flip_if inverted (word_bit (take n high) q r))
    → Down all low high B n from to inverted
down all low high B n from to inverted l apart room e low_length size bits =
    let fits = apart-down from to n l apart in
    let wide : length (take (to + n - to) (drop to low)) ≡ n = omega (
      arith,
      length-take (to + n - to) (drop to low),
      length-drop to low,
      fits,
      low_length,
    ) in
    record {
      whole = e;
      low_length = low_length;
      fits = fits;
      long = size ∙ wide;
      bits = λ q r h m. bits q r (omega (arith, h, wide)) m;
    }

pub returns-then-from-to-clause-length : goal.returns-then-from-to-clause-length
unfolding headed
returns-then-from-to-clause-length c =
    let low = c.split_at_mut-low.result.0.now in
    let high = c.split_at_mut-low.result.1.now in
    up-length c.args.all.now low high c.put.new.dst c.args.n c.args.from c.args.to c.args.inverted
    (up c.args.all.now low high c.put.new.dst c.args.n c.args.from c.args.to c.args.inverted
    c.if-from-to.true c.requires.apart c.requires.to c.split_at_mut-low.ensures.value
    c.split_at_mut-low.ensures.front_len c.put.ensures.length c.put.ensures.bits)

pub returns-then-from-to-clause-moved : goal.returns-then-from-to-clause-moved
unfolding headed
returns-then-from-to-clause-moved c =
    let low = c.split_at_mut-low.result.0.now in
    let high = c.split_at_mut-low.result.1.now in
    up-moved c.args.all.now low high c.put.new.dst c.args.n c.args.from c.args.to c.args.inverted
    (up c.args.all.now low high c.put.new.dst c.args.n c.args.from c.args.to c.args.inverted
    c.if-from-to.true c.requires.apart c.requires.to c.split_at_mut-low.ensures.value
    c.split_at_mut-low.ensures.front_len c.put.ensures.length c.put.ensures.bits)

pub returns-then-from-to-clause-below : goal.returns-then-from-to-clause-below
unfolding headed
returns-then-from-to-clause-below c = λ k l.
    let low = c.split_at_mut-low.result.0.now in
    let high = c.split_at_mut-low.result.1.now in
    up-off c.args.all.now low high c.put.new.dst c.args.n c.args.from c.args.to c.args.inverted
    (up c.args.all.now low high c.put.new.dst c.args.n c.args.from c.args.to c.args.inverted
    c.if-from-to.true c.requires.apart c.requires.to c.split_at_mut-low.ensures.value
    c.split_at_mut-low.ensures.front_len c.put.ensures.length c.put.ensures.bits) k (inl l)

pub returns-then-from-to-clause-above : goal.returns-then-from-to-clause-above
unfolding headed
returns-then-from-to-clause-above c = λ k l.
    let low = c.split_at_mut-low.result.0.now in
    let high = c.split_at_mut-low.result.1.now in
    up-off c.args.all.now low high c.put.new.dst c.args.n c.args.from c.args.to c.args.inverted
    (up c.args.all.now low high c.put.new.dst c.args.n c.args.from c.args.to c.args.inverted
    c.if-from-to.true c.requires.apart c.requires.to c.split_at_mut-low.ensures.value
    c.split_at_mut-low.ensures.front_len c.put.ensures.length c.put.ensures.bits) k (inr l)

pub returns-then-to-from-clause-length : goal.returns-then-to-from-clause-length
unfolding placed
returns-then-to-from-clause-length c =
    let low = c.split_at_mut-low-then-to-from.result.0.now in
    let high = c.split_at_mut-low-then-to-from.result.1.now in
    down-length c.args.all.now low high c.put-then-to-from.new.dst c.args.n c.args.from c.args.to
    c.args.inverted (down c.args.all.now low high c.put-then-to-from.new.dst c.args.n c.args.from
    c.args.to c.args.inverted c.if-to-from.true c.requires.apart c.requires.from
    c.split_at_mut-low-then-to-from.ensures.value c.split_at_mut-low-then-to-from.ensures.front_len
    c.put-then-to-from.ensures.length c.put-then-to-from.ensures.bits)

pub returns-then-to-from-clause-moved : goal.returns-then-to-from-clause-moved
unfolding placed
returns-then-to-from-clause-moved c =
    let low = c.split_at_mut-low-then-to-from.result.0.now in
    let high = c.split_at_mut-low-then-to-from.result.1.now in
    down-moved c.args.all.now low high c.put-then-to-from.new.dst c.args.n c.args.from c.args.to
    c.args.inverted (down c.args.all.now low high c.put-then-to-from.new.dst c.args.n c.args.from
    c.args.to c.args.inverted c.if-to-from.true c.requires.apart c.requires.from
    c.split_at_mut-low-then-to-from.ensures.value c.split_at_mut-low-then-to-from.ensures.front_len
    c.put-then-to-from.ensures.length c.put-then-to-from.ensures.bits)

pub returns-then-to-from-clause-below : goal.returns-then-to-from-clause-below
unfolding placed
returns-then-to-from-clause-below c = λ k l.
    let low = c.split_at_mut-low-then-to-from.result.0.now in
    let high = c.split_at_mut-low-then-to-from.result.1.now in
    down-off c.args.all.now low high c.put-then-to-from.new.dst c.args.n c.args.from c.args.to
    c.args.inverted (down c.args.all.now low high c.put-then-to-from.new.dst c.args.n c.args.from
    c.args.to c.args.inverted c.if-to-from.true c.requires.apart c.requires.from
    c.split_at_mut-low-then-to-from.ensures.value c.split_at_mut-low-then-to-from.ensures.front_len
    c.put-then-to-from.ensures.length c.put-then-to-from.ensures.bits) k (inl l)

pub returns-then-to-from-clause-above : goal.returns-then-to-from-clause-above
unfolding placed
returns-then-to-from-clause-above c = λ k l.
    let low = c.split_at_mut-low-then-to-from.result.0.now in
    let high = c.split_at_mut-low-then-to-from.result.1.now in
    down-off c.args.all.now low high c.put-then-to-from.new.dst c.args.n c.args.from c.args.to
    c.args.inverted (down c.args.all.now low high c.put-then-to-from.new.dst c.args.n c.args.from
    c.args.to c.args.inverted c.if-to-from.true c.requires.apart c.requires.from
    c.split_at_mut-low-then-to-from.ensures.value c.split_at_mut-low-then-to-from.ensures.front_len
    c.put-then-to-from.ensures.length c.put-then-to-from.ensures.bits) k (inr l)
