-- The code's rows, with the registers as they stand in a round, are the round's.
use Rattle.uprog_gen.proofs.Common.{◌≡◌, ℕ, ◌+◌, true, List, [], ◌∷◌, map, length, Some, refl, ap}
use Rattle.uprog_gen.proofs.Common.{◌∙◌, arith, slice_get, slice_index, AllByRecursion, Uop, Shape}
use Rattle.uprog_gen.proofs.Common.{Issue, Trace, issue, onto, all_in_range, BodyRef, BodyCmd, Sub}
use Rattle.uprog_gen.proofs.Common.{Space, ScratchBit, Cells, Block, RoundOf, sub_value, nth_place}
use Rattle.uprog_code.specs.Machine.Issue.{IssueAap, IssueAp}
use Rattle.uprog_code.specs.Machine.{issued, row_at}
use Rattle.uprog_gen.proofs.Running.Goes.{HasAt, one}
use Rattle.row_alloc.specs.declared.body.BodyRef.TheVariants as ref
use Rattle.row_alloc.specs.declared.body.BodyCmd.TheVariants as cmd
use Rattle.uprog_gen.specs.Code.{row_space, register, place_ref, code_ref, code_uop}
use Rattle.uprog_gen.proofs.Rows.Issued.{place_row, round_ref, round_command}
use Rattle.uprog_gen.proofs.Running.Runs.{Runs, run_then, run_none, run_at}

-- the registers hold the subscripts of the body's places
pub record Names (n : ℕ) (b : Block) (g regs : List ℕ) : Type 0 where
  pub reads : (k : ℕ) → slice_index regs (register (nth_place b.reads k).sub)
      ≡ sub_value n 0 g (nth_place b.reads k).sub
  pub writes : (k : ℕ) → slice_index regs (register (nth_place b.writes k).sub)
      ≡ sub_value n 0 g (nth_place b.writes k).sub

-- the round's commands are in range
abbrev pub InRange : Shape → ℕ → RoundOf Block → Type 0
InRange head n r = AllByRecursion (λ c. all_in_range head n c ≡ true)
    (map (round_command n r) r.part.found)

module _ (head : Shape) (code : List Uop) (n : ℕ) where
  row_is : (s : Space) (w : ℕ) (u : Sub) (g regs : List ℕ)
      → slice_index regs (register u) ≡ sub_value n 0 g u
      → row_at regs (place_ref (record { space = s; which = w; sub = u }))
      ≡ place_row n 0 g (record { space = s; which = w; sub = u })
  row_is ScratchBit w u g regs e = refl
  row_is Cells w u g regs e = refl
  row_is s w u g regs e = ap (λ x. record { space = row_space s; which = w; index = x }) e

  module _ (p : Block) (at : List ℕ) where
    abbrev here : RoundOf Block
    here = record { part = p; i = 0; regs = at }

    ref_is : (x : BodyRef) (regs : List ℕ) → Names n p at regs
        → row_at regs (code_ref p x) ≡ round_ref n here x
    ref_is (ref.In k) regs g = let q = nth_place p.reads k in
        row_is q.space q.which q.sub at regs (g.reads k)
    ref_is (ref.Out k) regs g = let q = nth_place p.writes k in
        row_is q.space q.which q.sub at regs (g.writes k)
    ref_is x regs g = refl

    issues_it : (i c : Issue) → i ≡ c → all_in_range head n c ≡ true → (pc : ℕ) (t : Trace)
        → issued head n i pc t ≡ onto (c ∷ []) t
    issues_it i c e ok pc t = rw (e, ok) refl

    goes_command : (c : BodyCmd) (pc : ℕ) (regs : List ℕ) → Names n p at regs
        → slice_get code pc ≡ Some (code_uop p c)
        → all_in_range head n (round_command n here c) ≡ true → (all rest : ℕ)
        → all ≡ 1 + rest → issue head code n all pc regs
        ≡ onto (round_command n here c ∷ []) (issue head code n rest (pc + 1) regs)
    goes_command (cmd.Aap x y) pc regs g has ok all rest e =
        one head code n pc regs (code_uop p (cmd.Aap x y)) has all rest e
        ∙ issues_it (IssueAap (row_at regs (code_ref p x)) (row_at regs (code_ref p y)))
        (round_command n here (cmd.Aap x y)) (rw (ref_is x regs g, ref_is y regs g) refl) ok pc _
    goes_command (cmd.Ap x) pc regs g has ok all rest e =
        one head code n pc regs (code_uop p (cmd.Ap x)) has all rest e
        ∙ issues_it (IssueAp (row_at regs (code_ref p x))) (round_command n here (cmd.Ap x))
        (rw (ref_is x regs g) refl) ok pc _

    -- the body's commands, whatever is known of the registers
    pub run_body : (I : List ℕ → Type 0) (cs : List BodyCmd) (pc : ℕ) (regs : List ℕ)
        → Names n p at regs → I regs → HasAt code pc (map (code_uop p) cs)
        → AllByRecursion (λ c. all_in_range head n c
        ≡ true) (map (round_command n here) cs)
        → Runs head code n pc regs (length (map (code_uop p) cs))
        (map (round_command n here) cs) (pc + length (map (code_uop p) cs)) I
    run_body I [] pc regs g h has ok = run_none head code n pc (pc + 0) regs I (omega arith) h
    run_body I (c ∷ cs) pc regs g h has ok =
        let len = length (map (code_uop p) cs) in
        run_at head code n _ (pc + 1 + len) _ _ _ _ _ (omega arith)
        (run_then head code n _ (pc + 1) _ 1 len _ _ (round_command n here c ∷ []) _
        (λ r. Names n p at r × I r) _ (omega arith)
        (record {
          count = 1;
          few = omega arith;
          regs' = regs;
          known = (g, h);
          goes = record { by = goes_command c pc regs g has.0 ok.0 };
        })
        (λ r k. run_body I cs (pc + 1) r k.0 k.1 has.1 ok.1))
