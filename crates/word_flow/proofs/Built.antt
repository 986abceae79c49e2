-- The flows of a table's lines, one line more.
use Rattle.std.proofs.lemmas.Bool.{and_parts}
use Rattle.word_flow.proofs.Common.{◌≡◌, ℕ, zero, suc, ◌+◌, ◌-◌, ◌<◌, ◌≤◌, List, [], ◌∷◌, ◌++◌, map}
use Rattle.word_flow.proofs.Common.{drop, length, reverse, slice_index_or, refl, sym, ap, ◌∙◌}
use Rattle.word_flow.proofs.Common.{arith, ◌&&◌, map-append, reverse-append, drop_more, Slot}
use Rattle.word_flow.proofs.Common.{flow_of, Block, FlowOf, first_of, others_of, line_on, flows_on}
use Rattle.word_flow.proofs.Common.{coded_on, line_holds, lines_hold}
use Rattle.std.specs.Prelude.{Bool, true, false}
use Rattle.word_flow.specs.declared.shapes.Line.{Line}
use Rattle.word_flow.specs.declared.shapes.CodedBody.{CodedBody}
use Rattle.loop_ir.specs.declared.ir.Flow as code
use Rattle.word_flow.specs.declared.shapes.Line.TheVariants as line

-- a line leaves a flow first
line_first : (g : CodedBody → Block) (l : Line) (fs : List (FlowOf Block))
    → first_of (line_on g l fs) ∷ others_of (line_on g l fs) ≡ line_on g l fs
line_first g line.Done fs = refl
line_first g (line.Do c) fs = refl
line_first g (line.Put m) fs = refl
line_first g (line.If r) fs = refl
line_first g (line.Loop r) fs = refl
line_first g (line.LoopTwo r) fs = refl

one_back : (ls : List Line) (k : ℕ) (d : Line) → 0 < k → k ≤ length ls
    → drop (k - 1) ls ≡ slice_index_or ls (k - 1) d ∷ drop k ls
one_back ls k d some le = let e : k - 1 + 1 ≡ k = omega (arith, some) in
    drop_more ls (k - 1) d (omega (arith, some, le))
    ∙ ap (λ j. slice_index_or ls (k - 1) d ∷ drop j ls) e

-- the flow that a line makes comes to those of the lines behind it; d is a line that stands for none
pub flows_more : (owners : List Slot) (ls : List Line) (k : ℕ) (d : Line)
    (flows begun new : List code.Flow) (f : code.Flow) → 0 < k → k ≤ length ls
    → map flow_of flows ≡ reverse (flows_on (coded_on owners) (drop k ls))
    → flow_of f ≡ first_of (line_on (coded_on owners) (slice_index_or ls (k - 1) d)
    (flows_on (coded_on owners) (drop k ls)))
    → map flow_of begun ≡ reverse (others_of (line_on (coded_on owners)
    (slice_index_or ls (k - 1) d) (flows_on (coded_on owners) (drop k ls))))
    → new ≡ begun ++ f ∷ []
    → map flow_of new ≡ reverse (flows_on (coded_on owners) (drop (k - 1) ls))
flows_more owners ls k d flows begun new f some le so first others en =
    let g = coded_on owners in
    let l = slice_index_or ls (k - 1) d in
    let fs = flows_on g (drop k ls) in
    let made = line_on g l fs in
    let back : flows_on g (drop (k - 1) ls) ≡ made = ap (flows_on g) (one_back ls k d some le) in
    ap (map flow_of) en ∙ map-append flow_of begun (f ∷ [])
    ∙ ap (λ x. map flow_of begun ++ x ∷ []) first
    ∙ ap (λ l. l ++ first_of made ∷ []) others
    ∙ sym (reverse-append (first_of made ∷ []) (others_of made))
    ∙ ap reverse (line_first g l fs ∙ sym back)

-- each line of a table holds
pub line_at : (ls : List Line) (k : ℕ) (d : Line) → lines_hold ls ≡ true → k < length ls
    → line_holds (slice_index_or ls k d) ≡ true
line_at [] k d h lt = absurd (omega (arith, lt))
line_at (l ∷ ls) zero d h lt = (and_parts (line_holds l) (lines_hold ls) h).0
line_at (l ∷ ls) (suc k) d h lt = line_at ls k d (and_parts (line_holds l) (lines_hold ls) h).1
    (omega (arith, lt))
