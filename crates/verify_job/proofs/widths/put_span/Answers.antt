use Rattle.std.proofs.Common.{◌≡◌, ◌++◌, ℕ, List, length, ap, sym, ◌∙◌, arith}
use Rattle.std.specs.Prelude.{codes, decimal}
use Rattle.std.proofs.lemmas.List.{append_assoc}
use Rattle.verify_job.specs.Widths.{span_text}
use Rattle.verify_job.proofs.Runs.{span_of_more}
use Rattle.verify_job.proofs.widths.put_span.Goals as goal

pub returns-in_ok-put_number-in-len1-up : goal.returns-in_ok-put_number-in-len1-up
returns-in_ok-put_number-in-len1-up c =
    let run = c.args.run.now in
    let first = c.from-in-len1-up.result in
    let last = c.from-in-len1-up-2.result in
    let long = c.in-len1-up.len_at_least in
    let text = span_of_more run first last (omega (arith, long)) (λ one. omega (arith, one, long))
    c.from-in-len1-up.ensures c.from-in-len1-up-2.ensures in
    let whole : c.put_number-in-len1-up.new.out.items ++ (codes "-" ++ decimal last)
    ≡ c.args.out.now.items ++ span_text run =
    ap (λ (o : List ℕ). o ++ (codes "-" ++ decimal last)) c.in_ok-put_number-in-len1-up.ensures
    ∙ append_assoc c.args.out.now.items (decimal first) (codes "-" ++ decimal last)
    ∙ ap (λ (s : List ℕ). c.args.out.now.items ++ s)
    (sym (append_assoc (decimal first) (codes "-") (decimal last)) ∙ text) in
    rw whole at c.put_number-in-len1-up-2.ensures
