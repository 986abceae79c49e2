-- A test of a body of a table, after which its commands do it, and so many are AP.
use Rattle.word_flow.proofs.Common.{and_parts, count_by, eqb-true, BodyCmd, Marked, is_ap, Owner}
use Rattle.word_flow.proofs.Common.{Bool, true, List, Room, ◌&&◌, ◌==◌, ◌*◌, ◌≡◌, ℕ}
use Rattle.word_lower.proofs.BodyRules.{keeps}
use Rattle.word_lower.proofs.Commands.{Works, does_body, works_is}
use Rattle.word_flow.proofs.Views.{all_known}

-- how many AP are among these
abbrev pub aps_in : List BodyCmd → ℕ
aps_in cmds = count_by is_ap cmds

-- the body keeps the rules, its commands do it, and so many times its weight are its AP
abbrev pub body_holds : List Room → List Owner → (List BodyCmd → ℕ) → ℕ → Marked → Bool
body_holds rooms known x w b = keeps rooms b && (all_known known b.reads && (does_body b
    && aps_in b.found == w * x b.found))

-- what the test says of a body
pub record Stands (rooms : List Room) (known : List Owner) (x : List BodyCmd → ℕ) (w : ℕ)
    (b : Marked) : Type 0 where
  pub keeps : keeps rooms b ≡ true
  pub knows : all_known known b.reads ≡ true
  pub works : Works b
  pub counts : aps_in b.found ≡ w * x b.found

pub held_is : (rooms : List Room) (known : List Owner) (x : List BodyCmd → ℕ) (w : ℕ)
    (b : Marked) → body_holds rooms known x w b ≡ true → Stands rooms known x w b
held_is rooms known x w b h =
    let p = and_parts (keeps rooms b) _ h in
    let q = and_parts (all_known known b.reads) _ p.1 in
    let r = and_parts (does_body b) _ q.1 in
    record {
      keeps = p.0;
      knows = q.0;
      works = works_is b r.0;
      counts = eqb-true _ _ r.1;
    }
