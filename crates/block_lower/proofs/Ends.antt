-- What rows hold, by names and by bits.
use Rattle.block_lower.proofs.Common.{◌≡◌, ℕ, ◌+◌, ◌<◌, Bool, false, List, [], ◌∷◌, map, length}
use Rattle.block_lower.proofs.Common.{fold, get_or, refl, sym, ap, ◌∙◌, subst, arith, inl, inr}
use Rattle.block_lower.proofs.Common.{range_with_len, length-map, Kind, Word, Bit, Block, Visit}
use Rattle.block_lower.proofs.Common.{NameValue, bit_read, width, visited, with_states, with_blanks}
use Rattle.block_lower.proofs.Common.{state_names, word_names, StepOf, all_rounds, Spots}
use Rattle.block_lower.proofs.Common.{after_rounds, Slots, Does}
use Rattle.std.proofs.Common.{slice_index_or}
use Rattle.std.proofs.lemmas.List.{ext_get_or, get_or-map}
use Rattle.std.proofs.lemmas.List.FromFn.{length-range_with_len, get_or-range_with_len}
use Rattle.loop_ir.specs.Plain.{Block as Body}
use Rattle.loop_ir.specs.Lowered.{slot_bits, HoldsAt, Holds}
use Rattle.block_lower.proofs.Names.{among-either}
use Rattle.block_lower.proofs.Rows.{slot_or, row_of, position, position-below, position-twice}
use Rattle.block_lower.proofs.Rows.{row-below}
use Rattle.block_lower.proofs.Facts.{Given, IsState, IsWord, IsRead, IsWritten, IsNamed}
use Rattle.block_lower.proofs.Facts.{state-named, word-written, written-named, read-named, found}
use Rattle.block_lower.proofs.Facts.{state-kind, word-kind}
use Rattle.block_lower.proofs.Folds.{positions_from, positions-are}
use Rattle.block_lower.proofs.Stand.{in_rows, state-row}
use Rattle.block_lower.proofs.Visits.{Stands, AreRead, row}

read-kind : (p : ℕ) (k : Kind) (bs : List Bool)
    → bit_read p (record { kind = k; bits = bs }) ≡ slice_index_or bs (row_of p k) false
read-kind p Word bs = refl
read-kind p Bit bs = refl

-- row v of the bits of m rows
row-bit : (f : ℕ → Bool) (m v : ℕ) → v < m → get_or (map f (range_with_len 0 m)) v false ≡ f v
row-bit f m v l =
    let e : 0 + v ≡ v = omega arith in
    get_or-map f (range_with_len 0 m) v 0 false (omega (arith, length-range_with_len 0 m))
    ∙ ap f (get_or-range_with_len 0 m v 0 l ∙ e)

-- the values that rows hold
abbrev seen : ℕ → Slots → Spots → List ℕ → NameValue
seen n slots bits x = record {
  kind = (slot_or (slots x)).kind;
  bits = slot_bits n bits (slot_or (slots x));
}

module _ {slots : Slots} {fb fw : ℕ} {b : Block} (g : Given slots fb fw b) (n : ℕ) where
  holds : (held : List ℕ → NameValue) (bits : Spots) (x : List ℕ) → IsNamed b x
      → (held x).kind ≡ (slot_or (slots x)).kind
      → (held x).bits ≡ slot_bits n bits (slot_or (slots x)) → Holds n slots held bits x
  holds held bits x e k same = subst (λ o. HoldsAt n o (held x) bits) (sym (found g x e)) (k, same)

  are-read : (old : List ℕ → NameValue) (before : Spots)
      → ((x : List ℕ) → IsRead b x → Holds n slots old before x) → AreRead slots b n old before
  are-read old before all x e p lt =
      let s = slot_or (slots x) in
      let h = subst (λ o. HoldsAt n o (old x) before) (found g x (read-named b x e)) (all x e) in
      read-kind p (old x).kind (old x).bits
      ∙ ap (λ k. slice_index_or (old x).bits (row_of p k) false) h.0
      ∙ ap (λ bs. slice_index_or bs (row_of p s.kind) false) h.1
      ∙ row-bit (λ v. before (row n slots x v)) (width n s.kind) (row_of p s.kind)
      (row-below n p s.kind lt)

  module _ {old held : List ℕ → NameValue} {before bits : Spots}
      (st : Stands slots (in_rows b) n old before n held bits) (x : List ℕ) where
    abbrev f : ℕ → Bool
    f v = bits (row n slots x v)

    holds-state : IsState b x → Holds n slots held bits x
    holds-state e =
        let kind = state-kind g x e in
        let is = st.states x e in
        holds held bits x (state-named b x e) (ap (λ (h : NameValue). h.kind) is ∙ sym kind)
        (ap (λ (h : NameValue). h.bits) is ∙ ap (λ q. bits q ∷ []) (state-row g n 0 x e)
        ∙ sym (ap (λ k. map f (range_with_len 0 (width n k))) kind))

    holds-word : IsWord b x → Holds n slots held bits x
    holds-word e =
        let long = st.long x e in
        let kind = word-kind g x e in
        let at = λ (v : ℕ) (l : v < length (held x).bits).
        let lv : v < n = omega (arith, l, long) in
        let p = position b.down n v in
        sym (ap (λ w. get_or (held x).bits w false) (position-twice b.down n v lv))
        ∙ st.words x e p (position-below b.down n v lv) ∙ ap f (position-twice b.down n v lv)
        ∙ sym (row-bit f n v lv) in
        holds held bits x (written-named b x (word-written b x e)) (st.kinds x e ∙ sym kind)
        (ext_get_or false (held x).bits (map f (range_with_len 0 n)) (long
        ∙ sym (length-map (range_with_len 0 n) f ∙ length-range_with_len 0 n)) at
        ∙ sym (ap (λ k. map f (range_with_len 0 (width n k))) kind))

    holds-all : IsWritten b x → Holds n slots held bits x
    holds-all e = elim (among-either (state_names b) (word_names b) x e) [
      | inl s ↦ holds-state s
      | inr w ↦ holds-word w
    ]

  -- steps that take the names through all positions do the block
  pub does-block : (steps : List (StepOf Body))
      → ((old : List ℕ → NameValue) (bits : Spots) → AreRead slots b n old bits
      → Stands slots (in_rows b) n old bits n
      (fold (visited b) (with_states (with_blanks n old b.assigns) b.states)
      (positions_from b.down n 0 n)) (after_rounds n (all_rounds n steps) bits))
      → Does slots fb fw (Visit b) n steps
  does-block steps ends =
      let last = λ (old : List ℕ → NameValue) (bits : Spots) (all : AreRead slots b n old bits).
      subst (λ ps. Stands slots (in_rows b) n old bits n
      (fold (visited b) (with_states (with_blanks n old b.assigns) b.states) ps)
      (after_rounds n (all_rounds n steps) bits)) (sym (positions-are b.down n))
      (ends old bits all) in
      record {
        gives = λ held bits all x e. holds-all (last held bits (are-read held bits all)) x e;
        keeps = λ bits q s out.
            let all = are-read (seen n slots bits) bits (λ x e.
            holds (seen n slots bits) bits x (read-named b x e) refl refl) in
            (last (seen n slots bits) bits all).rest q s (λ w. out (inl w));
      }
