-- Verdicts, by what was found
use Rattle.verify_core.proofs.Common.{ℕ, ◌<◌, ◌≤◌, List, subst, sym, Shape, trace, issues_of, Gives}
use Rattle.verify_core.proofs.Common.{◌≡◌}
use Rattle.std.specs.Prelude.{Ok}
use Rattle.bit_rows.specs.declared.TheConstants.{WIDTH_MAX}
use Rattle.uprog_code.specs.declared.walker.Counts.{Counts}
use Rattle.uprog_code.specs.declared.code.Uop.{Uop}
use Rattle.uprog_code.specs.Machine.{Ended, HasEnded, Stuck, Trace}
use Rattle.uprog_code.specs.Count.{walked}
use Rattle.uprog_code.specs.Implements.{Implements, Keeps}
use Rattle.uprog_code.specs.Texts.{TextOp}
use Rattle.verify_core.specs.declared.verdict.Verdict.TheVariants.{Right}
use Rattle.verify_core.specs.Verdicts.{IsVerdict, SameKinds}

-- a walk that counts has ended
pub counted-ends : (t : Trace) (counts : Counts) → walked t ≡ Ok counts → HasEnded t
counted-ends (Ended issues) counts e = tt
counted-ends (Stuck at why) counts e = absurd (cc)

pub kinds-by : (a b c d : Shape) → a ≡ c → b ≡ d → SameKinds a b → SameKinds c d
kinds-by a b c d p q s = subst (λ (z : Shape). SameKinds z d) p
    (subst (λ (z : Shape). SameKinds a z) q s)

-- the meaning that the other entry gives
pub gives-by : (b : Shape) (code : List Uop) (n : ℕ) (o : TextOp) → b ≡ o.shape → 0 < n
    → n ≤ WIDTH_MAX → Implements o.shape code o.ceiling o.meaning
    → Gives b n (issues_of (trace b code n)) (o.meaning n)
gives-by b code n o e some narrow does =
    subst (λ (z : Shape). Gives z n (issues_of (trace z code n)) (o.meaning n)) (sym e)
    (does.gives n some narrow)

pub is-right : (a b : Shape) (name : List ℕ) (own code : List Uop) (n : ℕ) (o : TextOp)
    (counts : Counts) → b ≡ o.shape → 0 < n → n ≤ WIDTH_MAX
    → Implements o.shape code o.ceiling o.meaning → SameKinds a b
    → walked (trace a own n) ≡ Ok counts → Keeps a n (issues_of (trace a own n))
    → ((meaning : List ℕ → List ℕ) → Gives b n (issues_of (trace b code n)) meaning
    → Gives a n (issues_of (trace a own n)) meaning)
    → IsVerdict n (record { name = name; shape = a; code = own }) o (Right counts)
is-right a b name own code n o counts e some narrow does same walk keeps gives = (
  subst (λ (z : Shape). SameKinds a z) e same,
  walk,
  record {
    ends = counted-ends (trace a own n) counts walk;
    gives = gives (o.meaning n) (gives-by b code n o e some narrow does);
    keeps = keeps;
  },
)
