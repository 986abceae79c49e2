-- Rows by their names, and what rounds do to their bits.
use Rattle.std.specs.Prelude.{ℕ, zero, suc, ◌+◌, ◌*◌, ◌==◌, ◌&&◌, Bool, true, false, if◌then◌else◌}
use Rattle.std.specs.Prelude.{List, [], ◌∷◌}
use Rattle.mig_graph.specs.declared.Lit.{Lit}
use Rattle.mig_graph.specs.Literals.{lit_value}
use Rattle.mig_graph.specs.Graph.{value, values}
use Rattle.mig_graph.specs.Outputs.{lit_at}
use Rattle.loop_ir.specs.declared.ir.Space.{Space}
use Rattle.loop_ir.specs.declared.ir.Space.TheVariants.{Result, Source, ScratchBit, ScratchWord}
use Rattle.loop_ir.specs.declared.ir.Space.TheVariants.{Cells}
use Rattle.loop_ir.specs.declared.ir.Sub.TheVariants.{Zero}
use Rattle.loop_ir.specs.declared.ir.Place.{Place}
use Rattle.loop_ir.specs.Plain.{Block}
use Rattle.loop_ir.specs.Loops.{RoundOf, sub_value}

-- a row by its name
pub record Spot : Type 0 where
  pub space : Space
  pub which : ℕ
  pub index : ℕ

-- rows of both lie in one space: the results', the sources', or the scratch's bits or words
abbrev pub same_space : Space → Space → Bool
same_space Result Result = true
same_space Source Source = true
same_space ScratchBit ScratchBit = true
same_space ScratchWord ScratchWord = true
same_space Cells Cells = true
same_space a b = false

-- both are one row
abbrev pub same_spot : Spot → Spot → Bool
same_spot p q = same_space p.space q.space && (p.which == q.which && p.index == q.index)

-- the bit of each named row
abbrev pub Spots : Type 0
Spots = Spot → Bool

-- the row has this bit now, and all others are as they were
abbrev pub set_spot : Spots → Spot → Bool → Spots
set_spot bits p v q = if same_spot q p then v else bits q

-- the row of a place at an index: scratch words lie one after another, so that an index past one is
-- in the next. What stands in cells has a name like a row's, and no row
abbrev pub spot_in : ℕ → Space → ℕ → ℕ → Spot
spot_in n Result w v = record { space = Result; which = w; index = v }
spot_in n Source w v = record { space = Source; which = w; index = v }
spot_in n ScratchBit w v = record { space = ScratchBit; which = w; index = 0 }
spot_in n ScratchWord w v = record { space = ScratchWord; which = 0; index = w * n + v }
spot_in n Cells w v = record { space = Cells; which = w; index = 0 }

-- the row of a place at this index of a loop
abbrev pub spot_at : ℕ → ℕ → List ℕ → Place → Spot
spot_at n i g p = spot_in n p.space p.which (sub_value n i g p.sub)

-- place k of these
abbrev pub nth_place : List Place → ℕ → Place
nth_place [] k = record { space = Source; which = 0; sub = Zero }
nth_place (p ∷ ps) zero = p
nth_place (p ∷ ps) (suc k) = nth_place ps k

-- the row of place k at this index
abbrev pub nth_spot : ℕ → ℕ → List ℕ → List Place → ℕ → Spot
nth_spot n i g ps k = spot_at n i g (nth_place ps k)

-- all writes, with values that are known
abbrev pub write_all : ℕ → ℕ → List ℕ → (ℕ → Bool) → List Place → List Lit → Spots → Spots
write_all n i g env [] ls bits = bits
write_all n i g env (p ∷ ps) [] bits = bits
write_all n i g env (p ∷ ps) (l ∷ ls) bits = write_all n i g env ps ls
    (set_spot bits (spot_at n i g p) (lit_value env l))

-- the value of an output, from the values of the inputs
abbrev pub gives : Block → (ℕ → Bool) → ℕ → Bool
gives b v j = value b.graph v (lit_at b.outs j)

-- the graph's nodes on the bits that a round reads
abbrev pub round_env : ℕ → RoundOf Block → Spots → ℕ → Bool
round_env n r bits = values r.part.graph (λ k. bits (nth_spot n r.i r.regs r.part.reads k))

-- a round: all its writes come after all its reads
abbrev pub after_round : ℕ → RoundOf Block → Spots → Spots
after_round n r bits = write_all n r.i r.regs (round_env n r bits) r.part.writes r.part.outs
    bits

-- the bits of the rows after rounds, one after another
abbrev pub after_rounds : ℕ → List (RoundOf Block) → Spots → Spots
after_rounds n [] bits = bits
after_rounds n (r ∷ rs) bits = after_rounds n rs (after_round n r bits)

-- a body may write it: it is no row of a source
abbrev pub IsOwn : Space → Type 0
IsOwn Result = Unit {0}
IsOwn Source = ⊥
IsOwn ScratchBit = Unit {0}
IsOwn ScratchWord = Unit {0}
IsOwn Cells = Unit {0}

-- it stands in cells, and has no row
abbrev pub is_state : Space → Bool
is_state Result = false
is_state Source = false
is_state ScratchBit = false
is_state ScratchWord = false
is_state Cells = true
