-- The code is legal.
use Rattle.uprog_gen.proofs.Common.{◌≡◌, ℕ, zero, suc, ◌+◌, ◌-◌, ◌*◌, ◌<◌, ◌≤◌, true, List, [], ◌∷◌}
use Rattle.uprog_gen.proofs.Common.{◌++◌, map, length, refl, ap, ◌∙◌, subst, arith, Some, ⊎_elim}
use Rattle.uprog_gen.proofs.Common.{length-append, slice_get, nat_lt, ◌&&◌, AllByRecursion}
use Rattle.uprog_gen.proofs.Common.{list_all, get_or-append_seam, mul-le-mul_right}
use Rattle.uprog_gen.proofs.Common.{slice_get-get_or, and_parts, cases_lt, nat_tests, Kind, Uop}
use Rattle.uprog_gen.proofs.Common.{Shape, results, BodyRef, BodyCmd, Held, is_ref, is_first_ref}
use Rattle.uprog_gen.proofs.Common.{is_second_ref, is_legal_cmd, are_legal, is_read, reads_rows}
use Rattle.uprog_gen.proofs.Common.{Sub, Register, Space, Result, Source, ScratchBit, ScratchWord}
use Rattle.uprog_gen.proofs.Common.{Cells, Move, SetI, SetN, SetT, Mov, AddI, SubI, Add, Block}
use Rattle.uprog_gen.proofs.Common.{StepOf, FlowOf, TurnsOf, AllFlow, AllActs, End, Do, Put, If}
use Rattle.uprog_gen.proofs.Common.{Loop, Last, Turn, is_low, all_keep, counts, all_count}
use Rattle.uprog_gen.proofs.Common.{nth_place, spot_in, IsOwn, enters, HasValues, IsSmall}
use Rattle.std.specs.Prelude.{nat_le}
use Rattle.uprog_code.specs.Legal.{is_row, is_first, is_second, may_be_first, may_be_second}
use Rattle.uprog_code.specs.Legal.{is_legal, IsLegalCode}
use Rattle.uprog_code.specs.declared.code.Uop.TheVariants as uop
use Rattle.row_alloc.specs.declared.body.BodyRef.TheVariants as ref
use Rattle.row_alloc.specs.declared.body.BodyCmd.TheVariants as cmd
use Rattle.uprog_gen.specs.Where.{IsSpot, IsBelow}
use Rattle.uprog_gen.specs.Code.{row_space, register, place_ref, code_ref, code_uop}
use Rattle.uprog_gen.specs.Code.{body_uops}
use Rattle.uprog_gen.specs.FlowCode.{uop_of, leave, size, turns_size, code_of, turns_code}
use Rattle.uprog_gen.specs.Entries.{AreFlowsOf}
use Rattle.uprog_gen.proofs.Rows.Named.{named_ref}
use Rattle.uprog_gen.proofs.Coding.FlowSizes.{flows_long, flows_code}
use Rattle.uprog_gen.proofs.Bodies.Outs.{outs_of, commands_do}

pub both : {X : Type 0} (P : X → Type 0) (xs ys : List X) → AllByRecursion P xs
    → AllByRecursion P ys → AllByRecursion P (xs ++ ys)
both P [] ys h k = k
both P (x ∷ xs) ys h k = (h.0, both P xs ys h.1 k)

register_small : (s : Sub) → nat_le (register s) 8 ≡ true
register_small (Register r) = grind (arith, nat_tests)
register_small s = refl

below_length : (ks : List Kind) (w n v : ℕ) → IsBelow (slice_get ks w) n v → w < length ks
below_length [] w n v h = absurd h
below_length (k ∷ ks) zero n v h = omega arith
below_length (k ∷ ks) (suc w) n v h = let l = below_length ks w n v h in omega (arith, l)

word_below : (n w v words : ℕ) → w * n + v < n * words → w < words
word_below n w v words h = ⊎_elim (λ (lt : w < words). lt)
    (λ (le : words ≤ w). let k : words * n ≤ w * n = mul-le-mul_right n le in
    absurd (omega (arith, h, k))) (cases_lt w words)

module _ (head : Shape) where
  place_row_legal : (n : ℕ) (s : Space) (w v : ℕ) (u : Sub) → IsSpot head n (spot_in n s w v)
      → is_row head (place_ref (record { space = s; which = w; sub = u })) ≡ true
  place_row_legal n Result w v u h =
      let low = register_small u in
      let below = below_length (results head) w n v h in
      grind (arith, nat_tests)
  place_row_legal n Source w v u h =
      let low = register_small u in
      let below = below_length head.sources w n v h in
      grind (arith, nat_tests)
  place_row_legal n ScratchBit w v u h = grind (arith, nat_tests)
  place_row_legal n ScratchWord w v u h =
      let low = register_small u in
      let below = word_below n w v head.words h.1 in
      grind (arith, nat_tests)
  place_row_legal n Cells w v u h = absurd h

  place_first : (n : ℕ) (s : Space) (w v : ℕ) (u : Sub) → IsSpot head n (spot_in n s w v)
      → is_first head (place_ref (record { space = s; which = w; sub = u })) ≡ true
  place_first n s w v u h = rw (place_row_legal n s w v u h) (by s)
    where
      by : (s : Space) → may_be_first (row_space s) w ≡ true
      by Result = refl
      by s = refl

  place_second : (n : ℕ) (s : Space) (w v : ℕ) (u : Sub) → IsSpot head n (spot_in n s w v)
      → IsOwn s → is_second head (place_ref (record { space = s; which = w; sub = u })) ≡ true
  place_second n s w v u h own = rw (place_row_legal n s w v u h) (by s own)
    where
      by : (s : Space) → IsOwn s → may_be_second (row_space s) ≡ true
      by Source h = absurd h
      by s h = refl

  module _ (total : ℕ) where
    abbrev IsLegal : Uop → Type 0
    IsLegal i = is_legal head total i ≡ true

    abbrev AreLegal : List Uop → Type 0
    AreLegal is = AllByRecursion IsLegal is

    -- a body's commands are legal, as its values are such as the operation has
    module _ (p : Block) (small : IsSmall p) (has : HasValues (IsSpot head) p) where
      abbrev N : ℕ
      N = p.graph.inputs

      abbrev M : ℕ
      M = length (outs_of p)

      abbrev enter : List Held
      enter = enters 0 p.reads

      first_legal : (x : BodyRef) → (is_ref N M x && is_first_ref x) ≡ true
          → is_read enter x ≡ true → is_first head (code_ref p x) ≡ true
      first_legal (ref.B k) h u = grind (arith, nat_tests)
      first_legal (ref.C k) h u = grind (arith, nat_tests)
      first_legal (ref.Spill k) h u = grind (arith, nat_tests)
      first_legal (ref.In k) h u =
          let m = named_ref p small (ref.In k) (and_parts (nat_lt k N) true h).0 u in
          let q = nth_place p.reads k in
          let v = has.reads k m.0 m.1 in
          place_first v.0 q.space q.which v.1 q.sub v.2
      first_legal (ref.Out k) h u =
          let m = named_ref p small (ref.Out k) (and_parts (nat_lt k M) true h).0 u in
          let q = nth_place p.writes k in
          let v = has.writes k m.0 m.1 in
          place_first v.0 q.space q.which v.1 q.sub v.2

      second_legal : (x : BodyRef) → (is_ref N M x && is_second_ref x) ≡ true
          → is_read enter x ≡ true → is_second head (code_ref p x) ≡ true
      second_legal (ref.B k) h u = grind (arith, nat_tests)
      second_legal (ref.C k) h u = grind (arith, nat_tests)
      second_legal (ref.Spill k) h u = grind (arith, nat_tests)
      second_legal (ref.In k) h u = grind (arith, nat_tests)
      second_legal (ref.Out k) h u =
          let m = named_ref p small (ref.Out k) (and_parts (nat_lt k M) true h).0 u in
          let q = nth_place p.writes k in
          let v = has.writes k m.0 m.1 in
          place_second v.0 q.space q.which v.1 q.sub v.2 (has.own k m.0)

      uops_legal : (cs : List BodyCmd) → are_legal N M cs ≡ true
          → list_all (reads_rows enter) cs ≡ true → AreLegal (map (code_uop p) cs)
      uops_legal [] h u = tt
      uops_legal (c ∷ cs) h u =
          let a = and_parts (is_legal_cmd N M c) (are_legal N M cs) h in
          let v = and_parts (reads_rows enter c) (list_all (reads_rows enter) cs) u in
          (one c a.0 v.0, uops_legal cs a.1 v.1)
        where
          one : (c : BodyCmd) → is_legal_cmd N M c ≡ true → reads_rows enter c ≡ true
              → IsLegal (code_uop p c)
          one (cmd.Aap x y) h u =
              let a = and_parts (is_ref N M x && is_first_ref x) (is_ref N M y && is_second_ref y) h in
              let v = and_parts (is_read enter x) (is_read enter y) u in
              rw (first_legal x a.0 v.0) (second_legal y a.1 v.1)
          one (cmd.Ap x) h u = first_legal x h u

    move_legal : (m : Move) → is_low m ≡ true → IsLegal (uop_of m)
    move_legal (SetI r k) h = grind (arith, nat_tests)
    move_legal (SetN r) h = grind (arith, nat_tests)
    move_legal (SetT r) h = grind (arith, nat_tests)
    move_legal (Mov r s) h = grind (arith, nat_tests)
    move_legal (AddI r k) h = grind (arith, nat_tests)
    move_legal (SubI r k) h = grind (arith, nat_tests)
    move_legal (Add r s) h = grind (arith, nat_tests)

    jump_legal : (r to : ℕ) → nat_lt r 7 ≡ true → to < total → IsLegal (uop.Bnez r to)
    jump_legal r to lr lt = grind (arith, nat_tests)

    step_legal : (r : ℕ) → nat_lt r 7 ≡ true → IsLegal (uop.SubI r 1)
    step_legal r lr = grind (arith, nat_tests)

    leave_legal : (to : ℕ) (is : List Uop) → to < total → AreLegal is → AreLegal (leave to ++ is)
    leave_legal to is lt more = (refl, (grind (arith, nat_tests), more))

    mutual
      flow_legal : (f : FlowOf Block) (pc : ℕ) → counts f ≡ true → AllFlow IsSmall f
          → AllFlow (HasValues (IsSpot head)) f → pc + size f < total
          → AreLegal (code_of f pc)
      flow_legal End pc c h v lt = tt
      flow_legal (Do b k) pc c h v lt =
          let d = commands_do b h.0 in
          both IsLegal _ _ (uops_legal b h.0 v.0 b.found d.legal d.unread)
          (flow_legal k (pc + length (body_uops b)) c h.1 v.1 (omega arith))
      flow_legal (Put m k) pc c h v lt = let p = and_parts (is_low m) (counts k) c in
          (move_legal m p.0, flow_legal k (pc + 1) p.1 h v (omega arith))
      flow_legal (If r x y k) pc c h v lt =
          let p = and_parts (nat_lt r 7) (counts x && (counts y && counts k)) c in
          let q = and_parts (counts x) (counts y && counts k) p.1 in
          let s = and_parts (counts y) (counts k) q.1 in
          let at_x = pc + 1 + size y + 2 in
          let end = at_x + size x in (
            jump_legal r at_x p.0 (omega arith),
            both IsLegal _ _ (flow_legal y (pc + 1) s.0 h.1.0 v.1.0 (omega arith))
                (leave_legal end _ (omega arith)
                (both IsLegal _ _ (flow_legal x at_x q.0 h.0 v.0 (omega arith))
                (flow_legal k end s.1 h.1.1 v.1.1 (omega arith)))),
          )
      flow_legal (Loop r ts k) pc c h v lt =
          let ct = all_count ts in
          let kept = all_keep r ts in
          let p = and_parts (nat_lt r 7) (kept && (ct && counts k)) c in
          let s = and_parts ct (counts k) (and_parts kept (ct && counts k) p.1).1 in
          let top = pc + 1 + 2 in
          let end = top + turns_size ts in (
            jump_legal r top p.0 (omega arith),
            leave_legal end _ (omega arith)
                (both IsLegal _ _
                (turns_legal r top (pc + 1) ts top p.0 (omega arith) (omega arith) s.0 h.0 v.0
                (omega arith)) (flow_legal k end s.1 h.1 v.1 (omega arith))),
          )

      turns_legal : (r top out : ℕ) (ts : TurnsOf Block) (pc : ℕ) → nat_lt r 7 ≡ true
          → top < total → out < total → all_count ts ≡ true → AllActs IsSmall ts
          → AllActs (HasValues (IsSpot head)) ts → pc + turns_size ts < total
          → AreLegal (turns_code r top out ts pc)
      turns_legal r top out (Last x) pc lr lt lo c h v le = (
        step_legal r lr,
        both IsLegal _ (uop.Bnez r top ∷ []) (flow_legal x (pc + 1) c h v (omega arith))
            (jump_legal r top lr lt, tt),
      )
      turns_legal r top out (Turn x ts) pc lr lt lo c h v le =
          let p = and_parts (counts x) (all_count ts) c in
          let next = pc + 1 + size x + 1 + 2 in (
            step_legal r lr,
            both IsLegal _ _ (flow_legal x (pc + 1) p.0 h.0 v.0 (omega arith)) (
              jump_legal r next lr (omega arith),
              leave_legal out _ lo
                  (turns_legal r top out ts next lr lt lo p.1 h.1 v.1 (omega arith)),
            ),
          )

    flows_legal : (ps : List (List (StepOf Block))) (fs : List (FlowOf Block)) (pc : ℕ)
        → AreFlowsOf (IsSpot head) ps fs
        → pc + length (flows_code fs pc) < total → AreLegal (flows_code fs pc)
    flows_legal [] [] pc are lt = tt
    flows_legal [] (f ∷ fs) pc are lt = absurd are
    flows_legal (p ∷ ps) [] pc are lt = absurd are
    flows_legal (p ∷ ps) (f ∷ fs) pc are lt =
        let long = flows_long f fs pc in
        let is = are.0.0 in
        both IsLegal _ _ (flow_legal f pc is.counts is.small is.values (omega arith))
        (flows_legal ps fs (pc + size f) are.1 (omega arith))

  pub code_legal : (ps : List (List (StepOf Block))) (fs : List (FlowOf Block))
      → length (flows_code fs 0) ≤ 4096 → AreFlowsOf (IsSpot head) ps fs
      → IsLegalCode head (flows_code fs 0 ++ uop.Done ∷ [])
  code_legal ps fs short are =
      let is = flows_code fs 0 in
      let total = length (is ++ uop.Done ∷ []) in
      let long : total ≡ length is + 1 = length-append is (uop.Done ∷ []) in
      let at : slice_get (is ++ uop.Done ∷ []) (length is) ≡ Some uop.Done =
      slice_get-get_or (is ++ uop.Done ∷ []) (length is) uop.Done (omega (arith, long))
      ∙ ap Some (get_or-append_seam is uop.Done [] uop.Done) in
      let e : length is ≡ total - 1 = omega (arith, long) in
      record {
        short = omega (arith, long, short);
        each = both (IsLegal total) is (uop.Done ∷ [])
            (flows_legal total ps fs 0 are (omega arith)) (refl, tt);
        last = subst (λ k. slice_get (is ++ uop.Done ∷ []) k ≡ Some uop.Done) e at;
      }
