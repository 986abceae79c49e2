-- Lists of gates that go on
use Rattle.std.proofs.Common.{◌≡◌, ℕ, suc, ◌+◌, ◌<◌, ◌≤◌, Bool, false, List, [], ◌∷◌, ◌++◌}
use Rattle.std.proofs.Common.{length, refl, sym, ◌∙◌, ap, subst, arith, inl, inr, length-append}
use Rattle.std.proofs.Common.{append_assoc}
use Rattle.std.proofs.lemmas.Bool.{cases_lt}
use Rattle.std.proofs.lemmas.List.{get_or_append_left, get_or-append-add}
use Rattle.aoi_graph.specs.Gates.{with_value}
use Rattle.aoi_graph.proofs.GateLaws.{with-same}
use Rattle.aoi_graph.specs.declared.AoiNode.{AoiNode}
use Rattle.aoi_graph.specs.declared.AoiNode.TheVariants.{Zero}
use Rattle.aoi_graph.specs.Gates.{gate_value, ReadsBelow, aoi_at, aoi_from, aoi_values, AreLower}
use Rattle.aoi_graph.proofs.GateLaws.{aoi-below}
use Rattle.std.specs.Prelude.{Option, Some, None, Result, Ok, Err, bytes_eq}
use Rattle.std.specs.Result.{OnOk}
use Rattle.std.specs.Option.{option_map_or}
use Rattle.indexmap.specs.IndexMap.{get}
use Rattle.aoi_graph.specs.Blocks.{Numbers, IsHeld, AreHeld, input_value}
use Rattle.aoi_graph.specs.Making.{Grows, IsEnv, AreBelow}

aoi-append : (bits : ℕ → Bool) (k : ℕ) (ns more : List AoiNode) (v : ℕ → Bool)
    → aoi_from bits k (ns ++ more) v ≡ aoi_from bits (k + length ns) more (aoi_from bits k ns v)
unfolding aoi_from
aoi-append bits k [] more v = let e : k + 0 ≡ k = omega arith in rw e refl
aoi-append bits k (n ∷ ns) more v = let e : k + suc (length ns) ≡ k + 1 + length ns = omega arith in
    rw e (aoi-append bits (k + 1) ns more (with_value k (gate_value bits v n) v))

-- a node keeps its value
pub value-stays : (bits : ℕ → Bool) (ns more : List AoiNode) (j : ℕ) → j < length ns
    → aoi_values (ns ++ more) bits j ≡ aoi_values ns bits j
value-stays bits ns more j b = ap (λ (v : ℕ → Bool). v j) (aoi-append bits 0 ns more (λ _. false))
    ∙ aoi-below bits (0 + length ns) more (aoi_values ns bits) j (omega arith)

at-old : (ns : List AoiNode) (n : AoiNode) (k : ℕ) → k < length ns
    → aoi_at (ns ++ n ∷ []) k ≡ aoi_at ns k
at-old ns n k b = get_or_append_left ns (n ∷ []) Zero k b

at-last : (ns : List AoiNode) (n : AoiNode) → aoi_at (ns ++ n ∷ []) (length ns) ≡ n
at-last ns n = let e : length ns ≡ length ns + 0 = omega arith in
    rw e (get_or-append-add ns (n ∷ []) 0 Zero)

pub value-new : (bits : ℕ → Bool) (ns new : List AoiNode) (n : AoiNode) (r : ℕ) → new ≡ ns ++ n ∷ []
    → r ≡ length ns → AreLower ns → ReadsBelow (length ns) n
    → aoi_values new bits r ≡ gate_value bits (aoi_values ns bits) n
unfolding aoi_from
value-new bits ns new n r e f h b = rw (e, f)
    (ap (λ (v : ℕ → Bool). v (length ns)) (aoi-append bits 0 ns (n ∷ []) (λ _. false))
    ∙ (let z : 0 + length ns ≡ length ns = omega arith in
    rw z (with-same (length ns) (gate_value bits (aoi_values ns bits) n) (aoi_values ns bits))))

-- what follows where a call succeeds
pub on-ok : {X E : Type 0} (r : Result X E) (P Q : Type 0) → (P → Q) → OnOk r P → OnOk r Q
on-ok (Ok x) P Q f h = f h
on-ok (Err e) P Q f h = tt

-- twice
pub grows-then : (a b c : List AoiNode) (g p h q i r : ℕ) → Grows a b g p → Grows b c h q
    → g + h ≤ i → p + q ≤ r → Grows a c i r
grows-then a b c g p h q i r x y l m = record {
  extends = (
    x.extends.0 ++ y.extends.0,
    y.extends.1
        ∙ rw x.extends.1 (append_assoc a x.extends.0 y.extends.0),
  );
  lower = y.lower;
  few = omega (arith, x.few, y.few);
  short = omega (arith, x.short, y.short);
}

-- what was there keeps its value
pub grows-keeps : (a b : List AoiNode) (g p : ℕ) (bits : ℕ → Bool) (j : ℕ) → Grows a b g p
    → j < length a → aoi_values b bits j ≡ aoi_values a bits j
grows-keeps a b g p bits j x l = rw x.extends.1 (value-stays bits a x.extends.0 j l)

pub grows-length : (a b : List AoiNode) (g p : ℕ) → Grows a b g p → length a ≤ length b
grows-length a b g p x = rw x.extends.1 (omega (arith, length-append a x.extends.0))

names-same : (bits : ℕ → Bool) (old mid : List AoiNode) (g p : ℕ) (o : Option ℕ) (d : Bool)
    → Grows old mid g p → ((k : ℕ) → o ≡ Some k → k < length old)
    → option_map_or (λ k. aoi_values mid bits k) o d
    ≡ option_map_or (λ k. aoi_values old bits k) o d
names-same bits old mid g p None d x h = refl
names-same bits old mid g p (Some k) d x h = grows-keeps old mid g p bits k x (h k refl)

-- the names keep their values
pub env-stays : (old mid : List AoiNode) (g p : ℕ) (known inputs : Numbers) (bits : ℕ
    → Bool) (env : List ℕ → Bool) → Grows old mid g p → AreBelow known (length old)
    → IsEnv old known inputs bits env → IsEnv mid known inputs bits env
env-stays old mid g p known inputs bits env x b h n =
    h n ∙ sym (names-same bits old mid g p (get bytes_eq known n) (input_value inputs bits n) x
    (λ k e. b n k e))

-- two values in a row, where the names have these values
pub two-values : (old mid more : List AoiNode) (g p h q : ℕ) (known inputs : Numbers) (bits : ℕ
    → Bool) (env : List ℕ → Bool) (a b : ℕ) (x y : Bool) → Grows old mid g p → Grows mid more h q
    → AreBelow known (length old) → a < length mid
    → (IsEnv old known inputs bits env → aoi_values mid bits a ≡ x)
    → (IsEnv mid known inputs bits env → aoi_values more bits b ≡ y)
    → IsEnv old known inputs bits env
    → (aoi_values more bits a ≡ x) × (aoi_values more bits b ≡ y)
two-values old mid more g p h q known inputs bits env a b x y r s below l va vb e = (
  grows-keeps mid more h q bits a s l ∙ va e,
  vb (env-stays old mid g p known inputs bits env r below e),
)

-- and a third after them
pub third-value : (old mid more : List AoiNode) (g p h q : ℕ) (known inputs : Numbers) (bits : ℕ
    → Bool) (env : List ℕ → Bool) (a b c : ℕ) (x y z : Bool) → Grows old mid g p
    → Grows mid more h q → AreBelow known (length old) → (a < length mid) × (b < length mid)
    → (IsEnv old known inputs bits env → (aoi_values mid bits a ≡ x) × (aoi_values mid bits b ≡ y))
    → (IsEnv mid known inputs bits env → aoi_values more bits c ≡ z)
    → IsEnv old known inputs bits env
    → (aoi_values more bits a ≡ x) × (aoi_values more bits b ≡ y) × (aoi_values more bits c ≡ z)
third-value old mid more g p h q known inputs bits env a b c x y z s t below l two vc e = (
  grows-keeps mid more h q bits a t l.0 ∙ (two e).0,
  grows-keeps mid more h q bits b t l.1 ∙ (two e).1,
  vc (env-stays old mid g p known inputs bits env s below e),
)

-- each input still has a number that the map holds
pub held-more : (inputs : Numbers) (ns new : List AoiNode) (n : AoiNode) → new ≡ ns ++ n ∷ []
    → IsHeld inputs n → AreHeld inputs ns → AreHeld inputs new
held-more inputs ns new n e f h = rw e (λ k l. elim (cases_lt k (length ns)) [
  | inl c ↦ subst (IsHeld inputs) (sym (at-old ns n k c)) (h k c)
  | inr c ↦ let d : length ns ≡ k = omega (arith, length-append ns (n ∷ [])) in
      subst (λ j. IsHeld inputs (aoi_at (ns ++ n ∷ []) j)) d
      (subst (IsHeld inputs) (sym (at-last ns n)) f)
])
