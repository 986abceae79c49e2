-- Relations of what is known before and after.
use Rattle.std.proofs.Common.{Option, Some, None}
use Rattle.host_edge.specs.Views.{Known}

-- two steps make one
pub Known-trans : {A : Type 0} {R S U : A → A → Type 0} (a b c : Option A)
    → ((x y z : A) → R x y → S y z → U x z) → Known R a b → Known S b c → Known U a c
Known-trans None b c join r s = tt
Known-trans (Some x) None c join r s = absurd r
Known-trans (Some x) (Some y) None join r s = absurd s
Known-trans (Some x) (Some y) (Some z) join r s = join x y z r s

-- what follows for the values follows where they are known
pub Known-map : {A : Type 0} {R S : A → A → Type 0} (a b : Option A) → ((x y : A) → R x y → S x y)
    → Known R a b → Known S a b
Known-map None b to r = tt
Known-map (Some x) None to r = absurd r
Known-map (Some x) (Some y) to r = to x y r

-- what stays is related to itself, if it is known
pub Known-same : {A : Type 0} (R : A → A → Type 0) (a : Option A) → ((x : A) → R x x) → Known R a a
Known-same R None same = tt
Known-same R (Some x) same = same x
