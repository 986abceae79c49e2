-- The commands of a round are in range.
use Rattle.uprog_gen.proofs.Common.{◌≡◌, ℕ, ◌+◌, ◌*◌, true, List, [], ◌∷◌, map, length, refl, arith}
use Rattle.uprog_gen.proofs.Common.{Option, Some, None, slice_get, ◌&&◌, AllByRecursion, list_all}
use Rattle.uprog_gen.proofs.Common.{and_parts, and_from, lt-ltb, Kind, Word, Bit, Shape, results}
use Rattle.uprog_gen.proofs.Common.{position, all_in_range, BodyRef, BodyCmd, Held, is_ref}
use Rattle.uprog_gen.proofs.Common.{is_first_ref, is_second_ref, is_legal_cmd, are_legal, is_read}
use Rattle.uprog_gen.proofs.Common.{reads_rows, Space, Result, Source, ScratchBit, ScratchWord}
use Rattle.uprog_gen.proofs.Common.{Cells, RoundOf, sub_value, nth_place, spot_in, IsRound, IsSmall}
use Rattle.uprog_gen.proofs.Common.{enters, Block}
use Rattle.std.proofs.lemmas.Bool.{eq-eqb}
use Rattle.uprog_code.specs.Machine.{in_kind, in_space, in_range}
use Rattle.row_alloc.specs.declared.body.BodyRef.TheVariants as ref
use Rattle.row_alloc.specs.declared.body.BodyCmd.TheVariants as cmd
use Rattle.uprog_gen.specs.Where.{IsSpot, IsBelow}
use Rattle.uprog_gen.specs.Code.{row_space}
use Rattle.uprog_gen.proofs.Rows.Issued.{round_ref, round_command}
use Rattle.uprog_gen.proofs.Rows.Named.{IsNamed, named_ref}
use Rattle.uprog_gen.proofs.Bodies.Outs.{outs_of}

below_kind : (k : Option Kind) (n i : ℕ) → IsBelow k n i → in_kind k n i ≡ true
below_kind None n i h = absurd h
below_kind (Some Word) n i h = lt-ltb i n h
below_kind (Some Bit) n i h = eq-eqb i 0 (omega (arith, h))

module _ (head : Shape) (n : ℕ) where
  space_range : (s : Space) (w v : ℕ) → IsSpot head n (spot_in n s w v)
      → in_space head n (row_space s) w (position (row_space s) v) ≡ true
  space_range Result w v h = below_kind (slice_get (results head) w) n v h
  space_range Source w v h = below_kind (slice_get head.sources w) n v h
  space_range ScratchBit w v h = refl
  space_range ScratchWord w v h = lt-ltb (w * n + v) (n * head.words) h.1
  space_range Cells w v h = absurd h

  module _ (r : RoundOf Block) (is : IsRound (IsSpot head n) n r)
      (small : IsSmall r.part) where
    abbrev inputs : ℕ
    inputs = r.part.graph.inputs

    abbrev outputs : ℕ
    outputs = length (outs_of r.part)

    abbrev enter : List Held
    enter = enters 0 r.part.reads

    ref_range : (x : BodyRef) → IsNamed r.part x → in_range head n (round_ref n r x) ≡ true
    ref_range (ref.In k) h =
        let p = nth_place r.part.reads k in
        space_range p.space p.which (sub_value n r.i r.regs p.sub) (is.reads k h.0 h.1)
    ref_range (ref.Out k) h =
        let p = nth_place r.part.writes k in
        space_range p.space p.which (sub_value n r.i r.regs p.sub) (is.writes k h.0 h.1)
    ref_range x h = refl

    command_range : (c : BodyCmd) → is_legal_cmd inputs outputs c ≡ true
        → reads_rows enter c ≡ true → all_in_range head n (round_command n r c) ≡ true
    command_range (cmd.Aap x y) h u =
        let a = and_parts (is_ref inputs outputs x && is_first_ref x)
        (is_ref inputs outputs y && is_second_ref y) h in
        let v = and_parts (is_read enter x) (is_read enter y) u in
        and_from (in_range head n (round_ref n r x)) (in_range head n (round_ref n r y))
        (ref_range x (named_ref r.part small x
        (and_parts (is_ref inputs outputs x) (is_first_ref x) a.0).0 v.0))
        (ref_range y (named_ref r.part small y
        (and_parts (is_ref inputs outputs y) (is_second_ref y) a.1).0 v.1))
    command_range (cmd.Ap x) h u = ref_range x (named_ref r.part small x
        (and_parts (is_ref inputs outputs x) (is_first_ref x) h).0 u)

    pub commands_range : (cs : List BodyCmd) → are_legal inputs outputs cs ≡ true
        → list_all (reads_rows enter) cs ≡ true
        → AllByRecursion (λ c. all_in_range head n c ≡ true) (map (round_command n r) cs)
    commands_range [] h u = tt
    commands_range (c ∷ cs) h u =
        let a = and_parts (is_legal_cmd inputs outputs c) (are_legal inputs outputs cs) h in
        let v = and_parts (reads_rows enter c) (list_all (reads_rows enter) cs) u in
        (command_range c a.0 v.0, commands_range cs a.1 v.1)
