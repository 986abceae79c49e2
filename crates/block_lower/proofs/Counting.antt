-- The offers that are counted, one after another, and the fewest commands of them.
use Rattle.block_lower.proofs.Common.{◌≡◌, ℕ, ◌+◌, ◌<◌, ◌≤◌, List, [], ◌∷◌, ◌++◌, length, map, take}
use Rattle.block_lower.proofs.Common.{arith, inl, inr, refl, Option, Some, None, IfNone}
use Rattle.block_lower.proofs.Common.{slice_index_or, AllByRecursion, Lit, Graph, BodyCmd, Place}
use Rattle.std.proofs.lemmas.List.{map_more}
use Rattle.mig_rewrite.specs.declared.sketch.Sketch.{Sketch}
use Rattle.block_lower.specs.declared.choice.Choice.{Choice}
use Rattle.block_lower.specs.declared.rounds.Tried.{Tried}
use Rattle.block_lower.specs.Choice.{AreCounted, AreNoFewer, HasFound, IsCounted, IsDropped}
use Rattle.block_lower.specs.Choice.{IsNoDearer, IsRightChoice, sketch_of}

module _ (reads writes : List Place) (g : Graph) (outs : List Lit) where
  -- one offer more, with its choice
  pub counted-more : (ss : List Sketch) (cs : List Choice) (s : Sketch) (c : Choice)
      → AreCounted reads writes g outs ss cs → IsCounted reads writes g outs s c
      → AreCounted reads writes g outs (ss ++ s ∷ []) (cs ++ c ∷ [])
  counted-more [] [] s c h k = inr (k, tt)
  counted-more [] (d ∷ cs) s c h k = absurd h
  counted-more (t ∷ ss) [] s c h k = inl (h.0, counted-more ss [] s c h.1 k)
  counted-more (t ∷ ss) (d ∷ cs) s c h k = elim h [
    | inl e ↦ inl (e.0, counted-more ss (d ∷ cs) s c e.1 k)
    | inr e ↦ inr (e.0, counted-more ss cs s c e.1 k)
  ]

  -- one that is dropped
  pub dropped-more : (ss : List Sketch) (cs : List Choice) (s : Sketch)
      → AreCounted reads writes g outs ss cs → IsDropped reads writes g outs s
      → AreCounted reads writes g outs (ss ++ s ∷ []) cs
  dropped-more [] [] s h k = (k, tt)
  dropped-more [] (d ∷ cs) s h k = absurd h
  dropped-more (t ∷ ss) [] s h k = (h.0, dropped-more ss [] s h.1 k)
  dropped-more (t ∷ ss) (d ∷ cs) s h k = elim h [
    | inl e ↦ inl (e.0, dropped-more ss (d ∷ cs) s e.1 k)
    | inr e ↦ inr (e.0, dropped-more ss cs s e.1 k)
  ]

  -- so it is with the next of a list
  pub next-counted : (offers : List Tried) (k : ℕ) (x : Tried) (cs : List Choice) (c : Choice)
      → k < length offers → x ≡ slice_index_or offers k x
      → AreCounted reads writes g outs (map sketch_of (take k offers)) cs
      → IsCounted reads writes g outs x.sketch c
      → AreCounted reads writes g outs (map sketch_of (take (k + 1) offers)) (cs ++ c ∷ [])
  next-counted offers k x cs c lt e h i = rw (map_more sketch_of offers k x lt, ← e)
      (counted-more (map sketch_of (take k offers)) cs x.sketch c h i)

  pub next-dropped : (offers : List Tried) (k : ℕ) (x : Tried) (cs : List Choice)
      → k < length offers → x ≡ slice_index_or offers k x
      → AreCounted reads writes g outs (map sketch_of (take k offers)) cs
      → IsDropped reads writes g outs x.sketch
      → AreCounted reads writes g outs (map sketch_of (take (k + 1) offers)) cs
  next-dropped offers k x cs lt e h i = rw (map_more sketch_of offers k x lt, ← e)
      (dropped-more (map sketch_of (take k offers)) cs x.sketch h i)

  -- each choice is right
  pub all-right : (ss : List Sketch) (cs : List Choice) → AreCounted reads writes g outs ss cs
      → AllByRecursion (IsRightChoice reads writes g outs) cs
  all-right [] [] h = tt
  all-right [] (c ∷ cs) h = absurd h
  all-right (s ∷ ss) [] h = tt
  all-right (s ∷ ss) (c ∷ cs) h = elim h [
    | inl e ↦ all-right ss (c ∷ cs) e.1
    | inr e ↦ (e.0.right, all-right ss cs e.1)
  ]

-- what holds where nothing is told
pub told-none : {A P : Type 0} (o : Option A) → IfNone o P → ((x : A) → o ≡ Some x → ⊥) → P
told-none None p n = p
told-none (Some x) p n = absurd (n x refl)

-- nothing is fewer than none
pub none-fewer : (cs : List Choice) → AreNoFewer 0 cs
none-fewer [] = tt
none-fewer (c ∷ cs) = (omega arith, none-fewer cs)

-- fewer commands still
pub fewer-too : (a b : ℕ) (cs : List Choice) → a ≤ b → AreNoFewer b cs → AreNoFewer a cs
fewer-too a b [] l h = tt
fewer-too a b (c ∷ cs) l h = let f = h.0 in (omega (arith, l, f), fewer-too a b cs l h.1)

-- what was found for the graph's own body is no dearer, and so fewer commands
pub no-dearer : (reads writes : List Place) (g : Graph) (outs : List Lit) (cmds : List BodyCmd)
    (count : ℕ) → HasFound reads writes g outs cmds → count ≤ length cmds
    → IsNoDearer reads writes g outs count
no-dearer reads writes g outs cmds count h l = record {
  rows = h.rows;
  are = h.are;
  plain = let f = h.found.few in omega (arith, l, f);
  sequences = λ k lt s. (let f = h.found.least k lt s in omega (arith, l, f));
}
