-- The commands of a line, one after another.
use Rattle.width_entry.proofs.Common.{◌≡◌, ℕ, suc, ◌+◌, ◌<◌, Bool, true, false, List, [], ◌∷◌, ◌++◌}
use Rattle.width_entry.proofs.Common.{length, refl, sym, ap, ◌∙◌, arith, Some, None, take, get_or}
use Rattle.width_entry.proofs.Common.{nat_lt, append_assoc, append-nil, take_more, Issued, Shape}
use Rattle.width_entry.proofs.Common.{Issue, issue_of}
use Rattle.std.proofs.Common.{cond}
use Rattle.std.specs.Prelude.{not}
use Rattle.std.specs.List.{position_or_len}
use Rattle.std.proofs.lemmas.Bool.{ltb-false}
use Rattle.std.proofs.lemmas.List.Sums.{fails_before_first}
use Rattle.width_entry.specs.Lines.{AreNameable, first_unnamed, is_nameable, issues}
use Rattle.width_entry.specs.Code.{command_code, line_code}

no_place : (b : Bool) (k : ℕ) → None ≡ cond b (Some k) None → b ≡ false
no_place true k e = absurd (cc)
no_place false k e = refl

not_not : (b : Bool) → not b ≡ false → b ≡ true
not_not true e = refl
not_not false e = absurd (cc)

each_named : (shape : Shape) (n : ℕ) (line : List Issued)
    → ((k : ℕ) (d : Issued) → k < length line
    → is_nameable shape n (issue_of (get_or line k d)) ≡ true) → AreNameable shape n (issues line)
each_named shape n [] h = tt
each_named shape n (c ∷ cs) h =
    (h 0 c (omega arith), each_named shape n cs (λ k d lt. h (suc k) d (omega arith)))

-- where none is the first that cannot be issued, all can
pub none_unnamed : (shape : Shape) (n : ℕ) (line : List Issued) → None ≡ first_unnamed shape n line
    → AreNameable shape n (issues line)
none_unnamed shape n line e =
    let p : Issued → Bool = λ c. not (is_nameable shape n (issue_of c)) in
    let none = no_place (nat_lt (position_or_len p line) (length line)) (position_or_len p line) e in
    let all = ltb-false (position_or_len p line) (length line) none in
    each_named shape n line (λ k d lt. not_not (is_nameable shape n (issue_of (get_or line k d)))
    (fails_before_first p line k d (omega (arith, all, lt))))

code_push : (cs : List Issue) (c : Issue) → line_code (cs ++ c ∷ []) ≡ line_code cs ++ command_code c
code_push [] c = append-nil (command_code c)
code_push (d ∷ cs) c =
    ap (λ us. command_code d ++ us) (code_push cs c)
    ∙ sym (append_assoc (command_code d) (line_code cs) (command_code c))

issues_push : (xs : List Issued) (c : Issued) → issues (xs ++ c ∷ []) ≡ issues xs ++ issue_of c ∷ []
issues_push [] c = refl
issues_push (x ∷ xs) c = ap (λ is. issue_of x ∷ is) (issues_push xs c)

-- the instructions of one more command
pub one_more : (line : List Issued) (k : ℕ) (d : Issued) → k < length line
    → line_code (issues (take (k + 1) line))
    ≡ line_code (issues (take k line)) ++ command_code (issue_of (get_or line k d))
one_more line k d lt =
    ap (λ xs. line_code (issues xs)) (take_more line k d lt)
    ∙ ap line_code (issues_push (take k line) (get_or line k d))
    ∙ code_push (issues (take k line)) (issue_of (get_or line k d))
