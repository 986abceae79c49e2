-- Programs that grow step by step.
use Rattle.word_lower.proofs.Common.{◌≡◌, ℕ, ◌+◌, ◌<◌, List, [], ◌∷◌, ◌++◌, map, take, length}
use Rattle.word_lower.proofs.Common.{slice_index_or, Option, Some, None, refl, sym, ap, ◌∙◌, subst}
use Rattle.word_lower.proofs.Common.{take_more, Slot, Block, StepOf, AllParts, step_of, IsMade}
use Rattle.std.proofs.lemmas.List.{map-append}
use Rattle.loop_ir.specs.declared.ir.Step.{Step}
use Rattle.loop_ir.specs.Plain.{AllStep}
use Rattle.word_lower.specs.declared.shapes.ProgramLine.{ProgramLine}
use Rattle.word_lower.specs.Places.{program_on}
use Rattle.word_lower.specs.Lines.{lines_steps}

pub same_push : (steps new : List Step) (s : Step) (us : List (StepOf Block))
    → new ≡ steps ++ s ∷ [] → step_of s ∷ [] ≡ us
    → map step_of new ≡ map step_of steps ++ us
same_push steps new s us e g = ap (map step_of) e ∙ map-append step_of steps (s ∷ [])
    ∙ ap (λ l. map step_of steps ++ l) g

made_last : (ss : List (StepOf Block)) (s : StepOf Block) → AllParts IsMade ss → AllStep IsMade s
    → AllParts IsMade (ss ++ s ∷ [])
made_last [] s all h = (h, tt)
made_last (x ∷ xs) s all h = (all.0, made_last xs s all.1 h)

pub made_push : (steps new : List Step) (s : Step) → new ≡ steps ++ s ∷ []
    → AllParts IsMade (map step_of steps) → AllStep IsMade (step_of s)
    → AllParts IsMade (map step_of new)
made_push steps new s e all h = subst (AllParts IsMade) (sym (ap (map step_of) e
    ∙ map-append step_of steps (s ∷ []))) (made_last (map step_of steps) (step_of s) all h)

lines_append : (o : ℕ → Slot) (xs ys : List (Option ProgramLine))
    → program_on o (lines_steps (xs ++ ys))
    ≡ program_on o (lines_steps xs) ++ program_on o (lines_steps ys)
lines_append o [] ys = refl
lines_append o (None ∷ xs) ys = lines_append o xs ys
lines_append o (Some l ∷ xs) ys = rw (lines_append o xs ys)

-- a program grows line by line
pub lines_more : (o : ℕ → Slot) (lines : List (Option ProgramLine)) (i : ℕ) (d : Option ProgramLine)
    → i < length lines → program_on o (lines_steps (take (i + 1) lines))
    ≡ program_on o (lines_steps (take i lines))
    ++ program_on o (lines_steps (slice_index_or lines i d ∷ []))
lines_more o lines i d lt = ap (λ ls. program_on o (lines_steps ls)) (take_more lines i d lt)
    ∙ lines_append o (take i lines) (slice_index_or lines i d ∷ [])
