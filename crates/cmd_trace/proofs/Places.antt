-- Bytes that are put in place of others, one after another.
use Rattle.cmd_trace.proofs.Common.{◌≡◌, ℕ, ◌+◌, ◌*◌, ◌≤◌, List, [], ◌++◌, length, take, drop, refl}
use Rattle.cmd_trace.proofs.Common.{sym, ◌∙◌, ap, to_le_bytes, w16, w32, flat_map, Geometry, Named}
use Rattle.cmd_trace.proofs.Common.{object_bytes, trace_head, arith, append_assoc, length-append}
use Rattle.cmd_trace.proofs.Common.{drop_at, drop-drop, length-drop}
use Rattle.object_alloc.specs.Spelling.{geometry_bytes}
use Rattle.trace_model.specs.Spelling.{trace_opening}
use Rattle.std.proofs.lemmas.List.{take_at, take-append-drop, length-take}
use Rattle.cmd_trace.specs.Places.{IsPut}

pub put_none : (at : ℕ) (old : List ℕ) → IsPut at [] old old
put_none at old = sym (take-append-drop at old)
    ∙ ap (λ (k : ℕ). take at old ++ drop k old) (same at) where
      same : (n : ℕ) → n ≡ n + 0
      same n = omega arith

-- where the next bytes stand
front_length : (at : ℕ) (bytes old : List ℕ) → at ≤ length old
    → length (take at old ++ bytes) ≡ at + length bytes
front_length at bytes old l =
    let t = length-take at old in
    length-append (take at old) bytes ∙ omega (arith, t, l)

-- all up to their end, and after it
pub put_front : (at : ℕ) (bytes old new : List ℕ) → at ≤ length old → IsPut at bytes old new
    → take (at + length bytes) new ≡ take at old ++ bytes
put_front at bytes old new l h =
    let front = take at old ++ bytes in
    let rest = drop (at + length bytes) old in
    ap (take (at + length bytes)) (h ∙ sym (append_assoc (take at old) bytes rest))
    ∙ take_at front rest (at + length bytes) (front_length at bytes old l)

pub put_back : (at : ℕ) (bytes old new : List ℕ) → at ≤ length old → IsPut at bytes old new
    → drop (at + length bytes) new ≡ drop (at + length bytes) old
put_back at bytes old new l h =
    let front = take at old ++ bytes in
    let rest = drop (at + length bytes) old in
    ap (drop (at + length bytes)) (h ∙ sym (append_assoc (take at old) bytes rest))
    ∙ drop_at front rest (at + length bytes) (front_length at bytes old l)

pub put_length : (at : ℕ) (bytes old new : List ℕ) → at + length bytes ≤ length old
    → IsPut at bytes old new → length new ≡ length old
put_length at bytes old new l h =
    let t = length-take at old in
    let d = length-drop (at + length bytes) old in
    let one = length-append bytes (drop (at + length bytes) old) in
    ap length h ∙ length-append (take at old) (bytes ++ drop (at + length bytes) old)
    ∙ omega (arith, t, d, one, l)

-- one text after another
pub put_then : (at place : ℕ) (a b x y z : List ℕ) → at ≤ length x → place ≡ at + length a
    → IsPut at a x y → IsPut place b y z → IsPut at (a ++ b) x z
put_then at place a b x y z l e h k =
    let front : take place y ≡ take at x ++ a =
    ap (λ (n : ℕ). take n y) e ∙ put_front at a x y l h in
    let back : drop place y ≡ drop (at + length a) x =
    ap (λ (n : ℕ). drop n y) e ∙ put_back at a x y l h in
    let end : at + length (a ++ b) ≡ at + length a + length b =
    ap (λ (n : ℕ). at + n) (length-append a b) ∙ omega arith in
    let rest : drop (place + length b) y ≡ drop (at + length (a ++ b)) x =
    sym (drop-drop (length b) place y) ∙ ap (drop (length b)) back
    ∙ drop-drop (length b) (at + length a) x ∙ ap (λ (n : ℕ). drop n x) (sym end) in
    k ∙ ap (λ (f : List ℕ). f ++ (b ++ drop (place + length b) y)) front
    ∙ ap (λ (r : List ℕ). (take at x ++ a) ++ (b ++ r)) rest
    ∙ append_assoc (take at x) a (b ++ drop (at + length (a ++ b)) x)
    ∙ ap (λ (t : List ℕ). take at x ++ t)
    (sym (append_assoc a b (drop (at + length (a ++ b)) x)))

-- what stands from the place on, up to a later one
pub put_from : (at end : ℕ) (bytes old new : List ℕ) → at ≤ length old → end ≡ at + length bytes
    → IsPut at bytes old new → drop at new ≡ bytes ++ drop end old
put_from at end bytes old new l e h =
    let t = length-take at old in
    ap (drop at) h
    ∙ drop_at (take at old) (bytes ++ drop (at + length bytes) old) at (t ∙ omega (arith, l))
    ∙ ap (λ (n : ℕ). bytes ++ drop n old) (sym e)

-- the parts of a head
pub head_put : (at end : ℕ) (x y z u v : List ℕ) (g : Geometry) (table : List Named) (count : ℕ)
    → at ≤ length x → length (flat_map object_bytes table) ≡ 24 * length table
    → end ≡ at + 14 + 24 * length table → IsPut at (trace_opening ++ geometry_bytes g) x y
    → IsPut (at + 12) (to_le_bytes w16 (length table)) y z
    → IsPut (at + 14) (flat_map object_bytes table) z u
    → IsPut end (to_le_bytes w32 count) u v
    → IsPut at (trace_head g table ++ to_le_bytes w32 count) x v
head_put at end x y z u v g table count l long e a b c d =
    let opening = trace_opening ++ geometry_bytes g in
    let number = to_le_bytes w16 (length table) in
    let records = flat_map object_bytes table in
    let first = put_then at (at + 12) opening number x y z l refl a b in
    let second = put_then at (at + 14) (opening ++ number) records x z u l refl first c in
    let size : length ((opening ++ number) ++ records) ≡ 14 + 24 * length table =
    length-append (opening ++ number) records ∙ omega (arith, long) in
    put_then at end ((opening ++ number) ++ records) (to_le_bytes w32 count) x u v l
    (omega (arith, e, size)) second d

-- a file and what was kept, where a head ends in front of the events
pub head_file : (start end : ℕ) (head old new bytes : List ℕ) → old ≡ bytes → end ≤ length old
    → end ≡ start + length head → IsPut start head old new
    → drop start new ≡ head ++ drop end bytes
head_file start end head old new bytes e l s h =
    put_from start end head old new (omega (arith, s, l)) s h
    ∙ ap (λ (b : List ℕ). head ++ drop end b) e

pub head_kept : (start end : ℕ) (head old new bytes : List ℕ) → old ≡ bytes → end ≤ length old
    → end ≡ start + length head → IsPut start head old new → drop end new ≡ drop end bytes
head_kept start end head old new bytes e l s h =
    ap (λ (n : ℕ). drop n new) s ∙ put_back start head old new (omega (arith, s, l)) h
    ∙ ap (λ (n : ℕ). drop n old) (sym s) ∙ ap (drop end) e
