-- Rows that take bits, one after another.
use Rattle.object_steps.proofs.Common.{◌≡◌, ◌≢◌, ℕ, zero, suc, ◌+◌, ◌*◌, ◌<◌, Bool, true, false}
use Rattle.object_steps.proofs.Common.{List, [], ◌∷◌, map, refl, sym, ◌∙◌, arith, add-one, flat_map}
use Rattle.object_steps.proofs.Common.{nat_lt, range_with_len, suc-mul, nat_tests, bit_at}
use Rattle.object_steps.proofs.Common.{bit_number, Aap, Banks, Event, Row, ChipView, Did, Object}
use Rattle.std.specs.Prelude.{Result, Ok, Err, OnErr}
use Rattle.std.proofs.lemmas.Bool.{ne_eqb}
use Rattle.std.proofs.lemmas.List.FromFn.{map-range_with_len_more}
use Rattle.dram_model.specs.declared.address.Addr.{Addr}
use Rattle.dram_model.specs.Column.{is_legal}
use Rattle.dram_model.specs.Chip.{after, happens}
use Rattle.dram_model.proofs.EventLaws.{Did-more}
use Rattle.dram_model.specs.declared.address.Addr.TheVariants as addr
use Rattle.object_steps.specs.Objects.{filled_in}
use Rattle.object_steps.proofs.Valued.{flat_suc}

pub on_err : {T E P : Type 0} (r : Result T E) → P → OnErr r P
on_err (Ok x) p = tt
on_err (Err e) p = p

legal_by : (b : Bool) (rows row : ℕ) → row < rows
    → is_legal rows (Aap (addr.C (bit_number b)) (addr.D row)) ≡ true
legal_by true rows row l = let e : nat_lt row rows ≡ true = grind (arith, nat_tests) in rw e refl
legal_by false rows row l = let e : nat_lt row rows ≡ true = grind (arith, nat_tests) in rw e refl

-- a row of constants may be given to any data row
pub is_given : (value k rows row : ℕ) (x : Addr) → x ≡ addr.C (bit_number (bit_at value k))
    → row < rows → is_legal rows (Aap x (addr.D row)) ≡ true
is_given value k rows row x e l = rw e (legal_by (bit_at value k) rows row l)

-- one more row
pub next_row : (f : ℕ → Event) (k : ℕ) (event : Event) (a b c : ChipView) → event ≡ f k
    → Did (map f (range_with_len 0 k)) a b → Did (event ∷ []) b c
    → Did (map f (range_with_len 0 (k + 1))) a c
next_row f k event a b c same d e = rw (map-range_with_len_more f 0 k k (omega arith))
    (Did-more _ _ a b c d (rw (sym same) e))

-- the other banks stay
pub rows_others : (x y : ℕ → Addr) (bank a n : ℕ) (banks : Banks) (b : ℕ) → b ≢ bank
    → after (map (λ k. Row bank (Aap (x k) (y k))) (range_with_len a n)) banks b ≡ banks b
rows_others x y bank a zero banks b ne = refl
rows_others x y bank a (suc n) banks b ne =
    rows_others x y bank (a + 1) n (happens (Row bank (Aap (x a) (y a))) banks) b ne
    ∙ rw (ne_eqb bank b (λ e. ne (sym e))) refl

pub filled_others : (o : Object) (value bank : ℕ) (banks : Banks) (b : ℕ) → b ≢ bank
    → after (filled_in o value bank) banks b ≡ banks b
filled_others o value bank banks b ne =
    rows_others (λ k. addr.C (bit_number (bit_at value k))) (λ k. addr.D (o.base + k)) bank 0
    o.width banks b ne

-- one more bank
pub next_bank : (E : ℕ → List Event) (k : ℕ) (a b c : ChipView)
    → Did (flat_map E (range_with_len 0 k)) a b → Did (E k) b c
    → Did (flat_map E (range_with_len 0 (k + 1))) a c
next_bank E k a b c d e =
    let z : 0 + k ≡ k = omega arith in
    rw (add-one k, flat_suc E 0 k, z) (Did-more _ _ a b c d e)

pub given_as : (bank : ℕ) (x y : Addr) (row at : ℕ) → x ≡ y → row ≡ at
    → Row bank (Aap x (addr.D row)) ≡ Row bank (Aap y (addr.D at))
given_as bank x y row at e f = rw (e, f) refl

pub one_times_more : (k c : ℕ) → k * c + c ≡ (k + 1) * c
one_times_more k c = rw (add-one k, suc-mul k c) refl
