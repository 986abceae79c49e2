use Rattle.std.proofs.Common.{ap, ◌∙◌, ◌++◌, ℕ, List}
use Rattle.std.proofs.lemmas.List.{append_assoc}
use Rattle.uprog_bin.specs.Opened.{code_of, program_of}
use Rattle.prog_text.specs.Listing.{code_lines, entry_line, entry_text}
use Rattle.prog_text.proofs.Written.{part_more}
use Rattle.prog_text.proofs.listing.list_text.Goals as goal

pub loop-k-preserved : goal.loop-k-preserved
loop-k-preserved c =
    let entry = c.entry-entry.result in
    let out = c.loop-k.out.items in
    part_more entry_text c.args.prog.now.programs c.loop-k.k (program_of entry) out
    c.put_code.new.out.items _ c.entry-entry.ensures.program
    (c.in_ok-put_code.ensures
    ∙ ap (λ (xs : List ℕ). xs ++ code_lines 0 (code_of entry)) c.in_ok-put_entry_line.ensures
    ∙ append_assoc out (entry_line (program_of entry)) (code_lines 0 (code_of entry)))
    c.loop-k.invariant
