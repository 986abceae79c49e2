-- Runs of code with what is known of the registers.
use Rattle.uprog_gen.proofs.Common.{◌≡◌, ℕ, ◌+◌, ◌≤◌, Bool, true, false, cond, List, [], ◌++◌, Some}
use Rattle.uprog_gen.proofs.Common.{refl, subst, arith, slice_get, slice_index, ◌==◌, Issue, act}
use Rattle.uprog_gen.proofs.Common.{issue, Uop, Shape}
use Rattle.uprog_code.specs.declared.code.Uop.TheVariants.{Bnez}
use Rattle.uprog_gen.proofs.Running.Goes.{Goes, stays, then_goes, moves}

-- at most so many instructions go from one place to another, issue these commands, and leave
-- registers of which something is known
pub record Runs (head : Shape) (code : List Uop) (n pc : ℕ) (regs : List ℕ) (limit : ℕ)
    (cs : List Issue) (pc' : ℕ) (I : List ℕ → Type 0) : Type 0 where
  pub count : ℕ
  pub few : count ≤ limit
  pub regs' : List ℕ
  pub goes : Goes head code n pc regs count cs pc' regs'
  pub known : I regs'

module _ (head : Shape) (code : List Uop) (n : ℕ) where
  pub run_then : (pc pc1 pc2 k1 k2 k : ℕ) (regs : List ℕ) (cs ds : List Issue) (I J : List ℕ
      → Type 0) → k1 + k2 ≡ k → Runs head code n pc regs k1 cs pc1 I
      → ((r : List ℕ) → I r → Runs head code n pc1 r k2 ds pc2 J)
      → Runs head code n pc regs k (cs ++ ds) pc2 J
  run_then pc pc1 pc2 k1 k2 k regs cs ds I J e a f =
      let b = f a.regs' a.known in
      record {
        count = a.count + b.count;
        few = omega (arith, a.few, b.few);
        regs' = b.regs';
        goes = then_goes head code n pc pc1 pc2 a.count b.count (a.count + b.count) regs a.regs'
            b.regs' cs ds refl a.goes b.goes;
        known = b.known;
      }

  pub run_none : (pc pc' : ℕ) (regs : List ℕ) (I : List ℕ → Type 0) → pc ≡ pc' → I regs
      → Runs head code n pc regs 0 [] pc' I
  run_none pc pc' regs I e h = record {
    count = 0;
    few = omega arith;
    regs' = regs;
    goes = stays head code n pc pc' regs e;
    known = h;
  }

  -- a greater limit
  pub run_more : (pc pc' : ℕ) (regs : List ℕ) (k l : ℕ) (cs : List Issue) (I : List ℕ → Type 0)
      → k ≤ l → Runs head code n pc regs k cs pc' I → Runs head code n pc regs l cs pc' I
  run_more pc pc' regs k l cs I le a = record {
    count = a.count;
    few = omega (arith, a.few, le);
    regs' = a.regs';
    goes = a.goes;
    known = a.known;
  }

  pub run_at : (pc pc1 pc2 : ℕ) (regs : List ℕ) (k : ℕ) (cs : List Issue) (I : List ℕ → Type 0)
      → pc1 ≡ pc2 → Runs head code n pc regs k cs pc1 I → Runs head code n pc regs k cs pc2 I
  run_at pc pc1 pc2 regs k cs I e a = subst (λ q. Runs head code n pc regs k cs q I) e a

  -- one instruction that issues nothing
  pub step_run : (pc pc' : ℕ) (regs regs' : List ℕ) (i : Uop) (I : List ℕ → Type 0)
      → slice_get code pc ≡ Some i → ((left : ℕ) → act head n i (issue head code n left) pc regs
      ≡ issue head code n left pc' regs') → I regs' → Runs head code n pc regs 1 [] pc' I
  step_run pc pc' regs regs' i I at does known = record {
    count = 1;
    few = omega arith;
    regs' = regs';
    goes = moves head code n pc pc' regs regs' i at does;
    known = known;
  }

  -- a jump back, unless the register is 0
  pub run_jump : (pc r l : ℕ) (regs : List ℕ) (again : Bool) (I : List ℕ → Type 0)
      → slice_get code pc ≡ Some (Bnez r l) → (slice_index regs r == 0) ≡ again → I regs
      → Runs head code n pc regs 1 [] (cond again (pc + 1) l) I
  run_jump pc r l regs true I at test h =
      step_run pc (pc + 1) regs regs (Bnez r l) I at (λ left. rw test refl) h
  run_jump pc r l regs false I at test h =
      step_run pc l regs regs (Bnez r l) I at (λ left. rw test refl) h
