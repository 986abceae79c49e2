-- The code of a flow issues the commands of its run, and leaves its registers.
use Rattle.uprog_gen.proofs.Common.{◌≡◌, ℕ, zero, suc, ◌+◌, ◌-◌, ◌*◌, ◌<◌, ◌≤◌, Bool, true, false}
use Rattle.uprog_gen.proofs.Common.{cond, not, List, [], ◌∷◌, ◌++◌, length, Some, refl, sym, ap}
use Rattle.uprog_gen.proofs.Common.{◌∙◌, subst, arith, append_assoc, append-nil, length-set}
use Rattle.uprog_gen.proofs.Common.{slice_get, slice_set, slice_index, ◌==◌, AllByRecursion}
use Rattle.uprog_gen.proofs.Common.{eqb-true, ltb-true, mul-le-mul_right, Shape, Issue, act, issue}
use Rattle.uprog_gen.proofs.Common.{Uop, Move, SetI, SetN, SetT, Mov, AddI, SubI, Add, FlowOf}
use Rattle.uprog_gen.proofs.Common.{TurnsOf, EventOf, run, End, Do, Put, If, Loop, Last, Turn}
use Rattle.uprog_gen.proofs.Common.{Moved, Counted, is_low, all_keep, counts, all_count, Block}
use Rattle.std.proofs.Common.{get_or-set_same, get_or-set_other}
use Rattle.std.proofs.lemmas.Bool.{le-leb, leb-true, eqb-false, ne_eqb}
use Rattle.loop_ir.specs.Flows.{RunOf, nothing, moved, cycle, behind, acts}
use Rattle.loop_ir.specs.Flows.EventOf.{Done}
use Rattle.loop_ir.specs.FlowTests.{is_safe, target, keeps}
use Rattle.uprog_code.specs.declared.code.Uop.TheVariants as uop
use Rattle.uprog_gen.specs.Code.{body_uops}
use Rattle.uprog_gen.specs.FlowCode.{uop_of, leave, size, turns_size, code_of, turns_code}
use Rattle.uprog_gen.proofs.Coding.FlowSizes.{limit, turns_limit, code_long, turns_long}
use Rattle.uprog_gen.proofs.Running.Goes.{HasAt, has_front, has_back}
use Rattle.uprog_gen.proofs.Running.Runs.{Runs, run_then, run_none, run_more, run_at, run_jump}
use Rattle.uprog_gen.proofs.Running.Runs.{step_run}

-- the code's registers are those of the run, but for the one that jumps use
pub record Alike (g h : List ℕ) : Type 0 where
  pub flow : length g ≡ 8
  pub code : length h ≡ 8
  pub same : (q : ℕ) → q < 7 → slice_index h q ≡ slice_index g q

set_both : (g h : List ℕ) (r v : ℕ) → r < 7 → Alike g h
    → Alike (slice_set g r v) (slice_set h r v)
set_both g h r v lt a = record {
  flow = length-set g r v ∙ a.flow;
  code = length-set h r v ∙ a.code;
  same = λ q tq. by q tq (q == r) refl;
}
  where
    by : (q : ℕ) → q < 7 → (b : Bool) → (q == r) ≡ b
        → slice_index (slice_set h r v) q ≡ slice_index (slice_set g r v) q
    by q tq true e = let k = eqb-true q r e in
        ap (slice_index (slice_set h r v)) k
        ∙ get_or-set_same h r v 0 (omega (arith, lt, a.code))
        ∙ sym (get_or-set_same g r v 0 (omega (arith, lt, a.flow)))
        ∙ ap (slice_index (slice_set g r v)) (sym k)
    by q tq false e = get_or-set_other h r q v 0 (eqb-false q r e) ∙ a.same q tq
        ∙ sym (get_or-set_other g r q v 0 (eqb-false q r e))

front_all : {X : Type 0} (P : X → Type 0) (xs ys : List X) → AllByRecursion P (xs ++ ys)
    → AllByRecursion P xs
front_all P [] ys h = tt
front_all P (x ∷ xs) ys h = (h.0, front_all P xs ys h.1)

back_all : {X : Type 0} (P : X → Type 0) (xs ys : List X) → AllByRecursion P (xs ++ ys)
    → AllByRecursion P ys
back_all P [] ys h = h
back_all P (x ∷ xs) ys h = back_all P xs ys h.1

behind_acts : {A : Type 0} (n : ℕ) (all : List (List ℕ → RunOf A)) (ts : TurnsOf A)
    → behind all (acts n ts) ≡ acts n ts
behind_acts n all (Last x) = refl
behind_acts n all (Turn x ts) = refl

not_zero : (m : ℕ) → (suc m == 0) ≡ false
not_zero m = ne_eqb (suc m) 0 (λ e. absurd (omega (arith, e)))

one_more : (m t x y : ℕ) → x ≤ t → y ≡ x + m * t → y ≤ suc m * t
one_more m t x y h e = grind (arith, h, e)

two_more : (m t x y : ℕ) → x ≤ t → y ≡ x + m * t + 2 → y ≤ suc m * t + 2
two_more m t x y h e = omega (arith, one_more m t x (x + m * t) h refl, e)

not_same : (s r : ℕ) → not (s == r) ≡ true → r ≡ s → ⊥
not_same s r h e = grind (arith, h, e)

-- a register that no form changes
module _ (A : Type 0) (n r : ℕ) where
  abbrev Keeps : FlowOf A → Type 0
  Keeps f = (g : List ℕ) → slice_index (run n f g).regs r ≡ slice_index g r

  abbrev AllKeep : TurnsOf A → Type 0
  AllKeep (Last x) = Keeps x
  AllKeep (Turn x ts) = Keeps x × AllKeep ts

  kept_move : (m : Move) (g : List ℕ) → not (target m == r) ≡ true
      → slice_index (moved n m g) r ≡ slice_index g r
  kept_move (SetI s k) g h = get_or-set_other g s r _ 0 (not_same s r h)
  kept_move m g h = get_or-set_other g (target m) r _ 0 (not_same (target m) r h)

  kept_cycle : (s : ℕ) (all : TurnsOf A) → (r ≡ s → ⊥) → AllKeep all → (m : ℕ) (ts : TurnsOf A)
      → AllKeep ts → (g : List ℕ)
      → slice_index (cycle s (acts n all) (acts n ts) m g).regs r ≡ slice_index g r
  kept_cycle s all ne ka zero ts k g = refl
  kept_cycle s all ne ka (suc m) (Last x) k g =
      kept_cycle s all ne ka m all ka (run n x (slice_set g s m)).regs
      ∙ k (slice_set g s m) ∙ get_or-set_other g s r m 0 ne
  kept_cycle s all ne ka (suc m) (Turn x ts) k g =
      ap (λ l. slice_index (cycle s (acts n all) l m (run n x (slice_set g s m)).regs).regs r)
      (behind_acts n (acts n all) ts)
      ∙ kept_cycle s all ne ka m ts k.1 (run n x (slice_set g s m)).regs
      ∙ k.0 (slice_set g s m) ∙ get_or-set_other g s r m 0 ne

  kept_if : (s : ℕ) (x y : FlowOf A) → Keeps x → Keeps y → (g : List ℕ) (b : Bool)
      → slice_index (cond b (run n y g) (run n x g)).regs r ≡ slice_index g r
  kept_if s x y kx ky g true = ky g
  kept_if s x y kx ky g false = kx g

  mutual
    kept : (f : FlowOf A) → keeps r f ≡ true → Keeps f
    kept End h g = refl
    kept (Do b k) h g = kept k h g
    kept (Put m k) h g =
        kept k (grind (arith, h)) (moved n m g) ∙ kept_move m g (grind (arith, h))
    kept (If s x y k) h g =
        kept k (grind (arith, h)) (cond (slice_index g s == 0) (run n y g) (run n x g)).regs
        ∙ kept_if s x y (kept x (grind (arith, h))) (kept y (grind (arith, h))) g
        (slice_index g s == 0)
    kept (Loop s ts k) h g =
        let ks = kept_turns ts (grind (arith, h)) in
        kept k (grind (arith, h)) (cycle s (acts n ts) (acts n ts) (slice_index g s) g).regs
        ∙ kept_cycle s ts (not_same s r (grind (arith, h))) ks (slice_index g s) ts ks g

    kept_turns : (ts : TurnsOf A) → all_keep r ts ≡ true → AllKeep ts
    kept_turns (Last x) h = kept x h
    kept_turns (Turn x ts) h = (kept x (grind (arith, h)), kept_turns ts (grind (arith, h)))

module _ (head : Shape) (cmds : Block → List ℕ → List Issue) (n : ℕ) (code : List Uop) where
  -- what the rounds issue
  unfoldable pub issues : List (EventOf Block) → List Issue
  issues [] = []
  issues (Done b g ∷ rs) = cmds b g ++ issues rs
  issues (Moved m g ∷ rs) = issues rs
  issues (Counted r g ∷ rs) = issues rs

  issues_append : (rs ss : List (EventOf Block)) → issues (rs ++ ss) ≡ issues rs ++ issues ss
  unfolding issues
  issues_append [] ss = refl
  issues_append (Done b g ∷ rs) ss = ap (λ l. cmds b g ++ l) (issues_append rs ss)
      ∙ sym (append_assoc (cmds b g) (issues rs) (issues ss))
  issues_append (Moved m g ∷ rs) ss = issues_append rs ss
  issues_append (Counted r g ∷ rs) ss = issues_append rs ss

  -- what the jumps use may change
  set_seven : (g h : List ℕ) (v : ℕ) → Alike g h → Alike g (slice_set h 7 v)
  set_seven g h v a = record {
    flow = a.flow;
    code = length-set h 7 v ∙ a.code;
    same = λ q tq. get_or-set_other h 7 q v 0 (λ e. absurd (omega (arith, e, tq)))
        ∙ a.same q tq;
  }

  -- the body's code does it, the move is safe, and the loop has at most n rounds
  abbrev pub IsFine : EventOf Block → Type 0
  IsFine (Done b g) = (h : List ℕ) (pc : ℕ) → Alike g h → HasAt code pc (body_uops b)
      → Runs head code n pc h (length (body_uops b)) (cmds b g) (pc + length (body_uops b)) (Alike g)
  IsFine (Moved m g) = is_safe m g ≡ true
  IsFine (Counted r g) = slice_index g r ≤ n

  abbrev Goal : FlowOf Block → Type 0
  Goal f = (pc : ℕ) (g h : List ℕ) → counts f ≡ true → Alike g h → HasAt code pc (code_of f pc)
      → AllByRecursion IsFine (run n f g).events
      → Runs head code n pc h (limit n f) (issues (run n f g).events) (pc + size f)
      (Alike (run n f g).regs)

  abbrev AllGoal : TurnsOf Block → Type 0
  AllGoal (Last x) = Goal x
  AllGoal (Turn x ts) = Goal x × AllGoal ts

  set_runs : (pc r v : ℕ) (g h : List ℕ) (i : Uop) → slice_get code pc ≡ Some i
      → ((left : ℕ) → act head n i (issue head code n left) pc h ≡ issue head code n left (pc + 1) (slice_set h r v))
      → r < 7 → Alike g h → Runs head code n pc h 1 [] (pc + 1) (Alike (slice_set g r v))
  set_runs pc r v g h i at does lt a =
      step_run head code n pc (pc + 1) h (slice_set h r v) i _ at does (set_both g h r v lt a)

  sub_runs : (pc r k : ℕ) (g h : List ℕ) → r < 7 → Alike g h
      → slice_get code pc ≡ Some (uop.SubI r k) → k ≤ slice_index g r
      → Runs head code n pc h 1 [] (pc + 1) (Alike (slice_set g r (slice_index g r - k)))
  sub_runs pc r k g h t a at le =
      let e = a.same r t in
      set_runs pc r (slice_index g r - k) g h (uop.SubI r k) at
      (λ left. rw (le-leb k (slice_index h r) (omega (arith, e, le)), e) refl) t a

  move_runs : (m : Move) (pc : ℕ) (g h : List ℕ) → is_low m ≡ true → Alike g h
      → slice_get code pc ≡ Some (uop_of m) → is_safe m g ≡ true
      → Runs head code n pc h 1 [] (pc + 1) (Alike (moved n m g))
  move_runs (SetI r k) pc g h t a at s =
      set_runs pc r k g h _ at (λ left. refl) (grind (arith, t)) a
  move_runs (SetN r) pc g h t a at s =
      set_runs pc r n g h _ at (λ left. refl) (ltb-true r 7 t) a
  move_runs (SetT r) pc g h t a at s =
      set_runs pc r (n - 1) g h _ at (λ left. refl) (ltb-true r 7 t) a
  move_runs (Mov r q) pc g h t a at s =
      set_runs pc r (slice_index g q) g h _ at
      (λ left. rw (a.same q (grind (arith, t))) refl) (grind (arith, t)) a
  move_runs (AddI r k) pc g h t a at s =
      let le = leb-true (slice_index g r + k) 1023 s in
      let lt : r < 7 = grind (arith, t) in
      let e = a.same r lt in
      set_runs pc r (slice_index g r + k) g h (uop.AddI r k) at
      (λ left. rw (le-leb (slice_index h r + k) 1023 (omega (arith, e, le)), e) refl) lt a
  move_runs (SubI r k) pc g h t a at s =
      sub_runs pc r k g h (grind (arith, t)) a at (leb-true k (slice_index g r) s)
  move_runs (Add r q) pc g h t a at s =
      let le = leb-true (slice_index g r + slice_index g q) 1023 s in
      let d = a.same r (grind (arith, t)) in
      let e = a.same q (grind (arith, t)) in
      set_runs pc r (slice_index g r + slice_index g q) g h (uop.Add r q) at
      (λ left. rw (le-leb (slice_index h r + slice_index h q) 1023 (omega (arith, d, e, le)), d, e)
      refl) (grind (arith, t)) a

  -- a jump
  leave_runs : (pc to : ℕ) (g h : List ℕ) → Alike g h → HasAt code pc (leave to)
      → Runs head code n pc h 2 [] to (Alike g)
  leave_runs pc to g h a has =
      run_then head code n pc (pc + 1) to 1 1 2 h [] [] (λ k. Alike g k × (slice_index k 7 ≡ 1)) (Alike g)
      refl
      (step_run head code n pc (pc + 1) h (slice_set h 7 1) (uop.SetI 7 1) _ has.0 (λ left. refl)
      (set_seven g h 1 a, get_or-set_same h 7 1 0 (omega (arith, a.code))))
      (λ k p. run_jump head code n (pc + 1) 7 to k false (Alike g) has.1.0 (ap (λ v. v == 0) p.1) p.0)

  -- a greater limit, and the place by another sum
  run_fit : {h : List ℕ} {cs : List Issue} {I : List ℕ → Type 0} (pc j mid end : ℕ) {k : ℕ} → j ≤ k
      → mid ≡ end → Runs head code n pc h j cs mid I → Runs head code n pc h k cs end I
  run_fit pc j mid end le e a =
      run_at head code n _ _ _ _ _ _ _ e (run_more head code n _ _ _ _ _ _ _ le a)

  -- one after the other
  seq : (pc mid end j k : ℕ) (h : List ℕ) (rs ss : List (EventOf Block)) (I J : List ℕ → Type 0)
      → Runs head code n pc h j (issues rs) mid I
      → ((x : List ℕ) → I x → Runs head code n mid x k (issues ss) end J)
      → Runs head code n pc h (j + k) (issues (rs ++ ss)) end J
  seq pc mid end j k h rs ss I J a f = subst (λ l. Runs head code n pc h (j + k) l end J)
      (sym (issues_append rs ss))
      (run_then head code n pc mid end j k (j + k) h (issues rs) (issues ss) I J refl a f)

  -- and then instructions that issue nothing
  then_moves : (pc mid end j k : ℕ) (h : List ℕ) (cs : List Issue) (I J : List ℕ → Type 0)
      → Runs head code n pc h j cs mid I → ((x : List ℕ) → I x → Runs head code n mid x k [] end J)
      → Runs head code n pc h (j + k) cs end J
  then_moves pc mid end j k h cs I J a f = subst (λ l. Runs head code n pc h (j + k) l end J)
      (append-nil cs) (run_then head code n pc mid end j k (j + k) h cs [] I J refl a f)

  end_case : Goal End
  unfolding issues
  end_case pc g h c a has ok = run_none head code n pc (pc + 0) h (Alike g) (omega arith) a

  do_case : (b : Block) (k : FlowOf Block) → Goal k → Goal (Do b k)
  unfolding issues
  do_case b k gk pc g h c a has ok =
      let l = length (body_uops b) in
      let e : pc + l + size k ≡ pc + (l + size k) = omega arith in
      run_at head code n _ _ _ _ _ _ _ e (run_then head code n _ _ _ _ _ _ _ _ _ _ _ refl
      (ok.0 h pc a (has_front code pc (body_uops b) (code_of k (pc + l)) has))
      (λ x ax. gk (pc + l) g x c ax (has_back code pc (body_uops b) (code_of k (pc + l)) has) ok.1))

  put_case : (m : Move) (k : FlowOf Block) → Goal k → Goal (Put m k)
  unfolding issues
  put_case m k gk pc g h c a has ok =
      let e : pc + 1 + size k ≡ pc + (1 + size k) = omega arith in
      run_at head code n _ _ _ _ _ _ _ e (run_then head code n _ _ _ _ _ _ _ [] _ _ _ refl
      (move_runs m pc g h (grind (arith, c)) a has.0 ok.0)
      (λ x ax. gk (pc + 1) (moved n m g) x (grind (arith, c)) ax has.1 ok.1))

  if_case : (r : ℕ) (x y k : FlowOf Block) → Goal x → Goal y → Goal k → Goal (If r x y k)
  unfolding issues
  if_case r x y k gx gy gk pc g h c a has ok =
      by (slice_index g r == 0) refl (grind (arith, c)) (grind (arith, c)) (grind (arith, c))
      (grind (arith, c)) ok
    where
      cy : List Uop
      cy = code_of y (pc + 1)

      at_x : ℕ
      at_x = pc + 1 + size y + 2

      cx : List Uop
      cx = code_of x at_x

      end : ℕ
      end = at_x + size x

      ck : List Uop
      ck = code_of k end

      has_y : HasAt code (pc + 1) cy
      has_y = has_front code (pc + 1) cy (leave end ++ (cx ++ ck)) has.1

      has_more : HasAt code (pc + 1 + size y) (leave end ++ (cx ++ ck))
      has_more = subst (λ l. HasAt code (pc + 1 + l) (leave end ++ (cx ++ ck))) (code_long y (pc + 1))
          (has_back code (pc + 1) cy (leave end ++ (cx ++ ck)) has.1)

      has_rest : HasAt code at_x (cx ++ ck)
      has_rest = let e : pc + 1 + size y + 1 + 1 ≡ at_x = omega arith in
          subst (λ l. HasAt code l (cx ++ ck)) e has_more.1.1

      has_k : HasAt code end ck
      has_k = subst (λ l. HasAt code (at_x + l) ck) (code_long x at_x)
          (has_back code at_x cx ck has_rest)

      way : Bool → RunOf Block
      way b = cond b (run n y g) (run n x g)

      by : (b : Bool) → (slice_index g r == 0) ≡ b → r < 7 → counts x ≡ true → counts y ≡ true
          → counts k ≡ true → AllByRecursion IsFine ((way b).events ++ (run n k (way b).regs).events)
          → Runs head code n pc h (limit n (If r x y k))
          (issues ((way b).events ++ (run n k (way b).regs).events)) (pc + size (If r x y k)) (Alike (run n k (way b).regs).regs)
      by true e lt nx ny nk ok =
          let ry = run n y g in
          let rk = run n k ry.regs in
          let mid = pc + 1 + size y in
          run_fit _ (1 + (limit n y + 2) + limit n k) (end + size k) _ (omega arith)
          (omega arith) (seq _ end _ _ _ _ ry.events rk.events _ _
          (run_then head code n _ _ _ _ _ _ _ [] _ _ _ refl
          (run_jump head code n pc r at_x h true (Alike g) has.0 (ap (λ v. v == 0) (a.same r lt) ∙ e) a)
          (λ z az. then_moves _ mid end _ 2 z _ _ _
          (gy (pc + 1) g z ny az has_y (front_all IsFine ry.events rk.events ok))
          (λ w aw. leave_runs mid end ry.regs w aw
          (has_front code mid (leave end) (cx ++ ck) has_more))))
          (λ z az. gk end ry.regs z nk az has_k (back_all IsFine ry.events rk.events ok)))
      by false e lt nx ny nk ok =
          let rx = run n x g in
          let rk = run n k rx.regs in
          run_fit _ (1 + limit n x + limit n k) (end + size k) _ (omega arith) (omega arith)
          (seq _ end _ _ _ _ rx.events rk.events _ _
          (run_then head code n _ _ _ _ _ _ _ [] _ _ _ refl
          (run_jump head code n pc r at_x h false (Alike g) has.0 (ap (λ v. v == 0) (a.same r lt) ∙ e) a)
          (λ z az. gx at_x g z nx az (has_front code at_x cx ck has_rest)
          (front_all IsFine rx.events rk.events ok)))
          (λ z az. gk end rx.regs z nk az has_k (back_all IsFine rx.events rk.events ok)))

  -- a loop's turns, where its code ends at a place
  module _ (r top out end : ℕ) (all : TurnsOf Block) (lt : r < 7) (keep : all_keep r all ≡ true)
      (ends : top + turns_size all ≡ end) (has_out : HasAt code out (leave end))
      (has_all : HasAt code top (turns_code r top out all top)) where
    abbrev Most : ℕ
    Most = turns_limit n all

    -- what is left of the loop
    abbrev rest : TurnsOf Block → ℕ → List ℕ → RunOf Block
    rest ts m g = cycle r (acts n all) (acts n ts) m g

    -- one turn, and then what comes from its test on
    turn_then : (x : FlowOf Block) (m pc l most : ℕ) (g h : List ℕ) (rest : List Uop) (more : RunOf Block)
        → Goal x → counts x ≡ true → slice_index g r ≡ suc m → Alike g h
        → HasAt code pc (uop.SubI r 1 ∷ (code_of x (pc + 1) ++ rest))
        → AllByRecursion IsFine ((run n x (slice_set g r m)).events ++ more.events)
        → 1 + limit n x + l ≤ most
        → (HasAt code (pc + 1 + size x) rest → AllByRecursion IsFine more.events
        → (z : List ℕ) → Alike (run n x (slice_set g r m)).regs z
        → Runs head code n (pc + 1 + size x) z l (issues more.events) end (Alike more.regs))
        → Runs head code n pc h most (issues ((run n x (slice_set g r m)).events ++ more.events))
        end (Alike more.regs)
    turn_then x m pc l most g h rest more gx c is a has ok few then =
        let less : slice_index g r - 1 ≡ m = omega (arith, is) in
        let s = slice_set g r m in
        let rx = run n x s in
        let q = pc + 1 + size x in
        let cx = code_of x (pc + 1) in
        let fine = back_all IsFine rx.events more.events ok in
        let test = subst (λ k. HasAt code (pc + 1 + k) rest) (code_long x (pc + 1))
        (has_back code (pc + 1) cx rest has.1) in
        run_more head code n _ _ _ _ _ _ _ few
        (seq _ q _ (1 + limit n x) l _ rx.events more.events _ _
        (run_then head code n _ _ _ _ _ _ _ [] _ _ _ refl
        (subst (λ v. Runs head code n pc h 1 [] (pc + 1) (Alike (slice_set g r v))) less
        (sub_runs pc r 1 g h lt a has.0 (omega (arith, is))))
        (λ z az. gx (pc + 1) s z c az (has_front code (pc + 1) cx rest has.1)
        (front_all IsFine rx.events more.events ok)))
        (then test fine))

    -- after a turn the register holds how many come
    left_is : (x : FlowOf Block) (m : ℕ) (g h : List ℕ) → keeps r x ≡ true → Alike g h
        → slice_index (run n x (slice_set g r m)).regs r ≡ m
    left_is x m g h k a = kept Block n r x k (slice_set g r m)
        ∙ get_or-set_same g r m 0 (omega (arith, lt, a.flow))

    -- what stands behind a turn that is not the last
    abbrev after : FlowOf Block → TurnsOf Block → ℕ → List Uop
    after x ts pc = let q = pc + 1 + size x in
        uop.Bnez r (q + 1 + 2) ∷ (leave out ++ turns_code r top out ts (q + 1 + 2))

    cycle_runs : (m : ℕ) (ts : TurnsOf Block) (pc : ℕ) (g h : List ℕ) → AllGoal ts → AllGoal all
        → all_keep r ts ≡ true → all_count ts ≡ true → all_count all ≡ true
        → turns_limit n ts ≤ Most → slice_index g r ≡ suc m → Alike g h
        → HasAt code pc (turns_code r top out ts pc) → pc + turns_size ts ≡ end
        → AllByRecursion IsFine (rest ts (suc m) g).events
        → Runs head code n pc h (suc m * Most + 2) (issues (rest ts (suc m) g).events) end
        (Alike (rest ts (suc m) g).regs)
    unfolding issues
    cycle_runs zero (Last x) pc g h gs ga ks cs ca most is a has at_end ok =
        let q = pc + 1 + size x in
        let more : RunOf Block = nothing (run n x (slice_set g r 0)).regs in
        let past : q + 1 ≡ end = omega (arith, at_end) in
        turn_then x 0 pc 1 _ g h (uop.Bnez r top ∷ []) more gs cs is a has ok (omega (arith, most))
        (λ test fine z az. run_at head code n _ _ _ _ _ _ _ past
        (run_jump head code n q r top z true (Alike more.regs) test.0
        (ap (λ v. v == 0) (az.same r lt ∙ left_is x 0 g h ks a)) az))
    cycle_runs (suc m) (Last x) pc g h gs ga ks cs ca most is a has at_end ok =
        let q = pc + 1 + size x in
        let rx = run n x (slice_set g r (suc m)) in
        let more = rest all (suc m) rx.regs in
        turn_then x (suc m) pc (1 + (suc m * Most + 2)) _ g h (uop.Bnez r top ∷ []) more gs cs is a
        has ok
        (two_more (suc m) Most (2 + limit n x) _ most (omega arith))
        (λ test fine z az. run_then head code n _ _ _ _ _ _ _ [] _ _ _ refl
        (run_jump head code n q r top z false (Alike rx.regs) test.0
        (ap (λ v. v == 0) (az.same r lt ∙ left_is x (suc m) g h ks a) ∙ not_zero m) az)
        (λ w aw. cycle_runs m all top rx.regs w ga ga keep ca ca (omega arith)
        (left_is x (suc m) g h ks a) aw has_all ends fine))
    cycle_runs zero (Turn x ts) pc g h gs ga ks cs ca most is a has at_end ok =
        let q = pc + 1 + size x in
        let more : RunOf Block = nothing (run n x (slice_set g r 0)).regs in
        turn_then x 0 pc (1 + (2 + 2)) _ g h (after x ts pc) more gs.0 (grind (arith, cs)) is a
        has ok (omega (arith, most))
        (λ test fine z az. run_then head code n _ _ _ 1 (2 + 2) _ _ [] [] _ _ refl
        (run_jump head code n q r (q + 1 + 2) z true (Alike more.regs) test.0
        (ap (λ v. v == 0) (az.same r lt ∙ left_is x 0 g h (grind (arith, ks)) a)) az)
        (λ w aw. run_then head code n _ _ _ 2 2 _ _ [] [] _ _ refl
        (leave_runs (q + 1) out more.regs w aw (has_front code (q + 1) (leave out)
        (turns_code r top out ts (q + 1 + 2)) test.1))
        (λ v av. leave_runs out end more.regs v av has_out)))
    cycle_runs (suc m) (Turn x ts) pc g h gs ga ks cs ca most is a has at_end ok =
        let q = pc + 1 + size x in
        let rx = run n x (slice_set g r (suc m)) in
        let more = rest ts (suc m) rx.regs in
        let up : q + 1 + 1 + 1 ≡ q + 1 + 2 = omega arith in
        let left = left_is x (suc m) g h (grind (arith, ks)) a in
        let same = behind_acts n (acts n all) ts in
        let fine = subst (λ l. AllByRecursion IsFine (rx.events ++ (cycle r (acts n all) l (suc m)
        rx.regs).events)) same ok in
        rw same (turn_then x (suc m) pc (1 + (suc m * Most + 2)) _ g h (after x ts pc) more gs.0
        (grind (arith, cs)) is a has fine
        (two_more (suc m) Most (2 + limit n x) _ (omega (arith, most)) (omega arith))
        (λ test fine z az. run_then head code n _ _ _ _ _ _ _ [] _ _ _ refl
        (run_jump head code n q r (q + 1 + 2) z false (Alike rx.regs) test.0
        (ap (λ v. v == 0) (az.same r lt ∙ left) ∙ not_zero m) az)
        (λ w aw. cycle_runs m ts (q + 1 + 2) rx.regs w gs.1 ga (grind (arith, ks))
        (grind (arith, cs)) ca (omega (arith, most)) left aw
        (subst (λ l. HasAt code l (turns_code r top out ts (q + 1 + 2))) up test.1.1.1)
        (omega (arith, at_end)) fine)))

  loop_case : (r : ℕ) (ts : TurnsOf Block) (k : FlowOf Block) → AllGoal ts → Goal k → Goal (Loop r ts k)
  unfolding issues
  loop_case r ts k gt gk pc g h c a has ok =
      by (slice_index g r) refl (grind (arith, c)) (grind (arith, c)) (grind (arith, c))
      (grind (arith, c)) ok.0 ok.1
    where
      top : ℕ
      top = pc + 1 + 2

      end : ℕ
      end = top + turns_size ts

      ct : List Uop
      ct = turns_code r top (pc + 1) ts top

      ck : List Uop
      ck = code_of k end

      has_rest : HasAt code top (ct ++ ck)
      has_rest = let e : pc + 1 + 1 + 1 ≡ top = omega arith in
          subst (λ l. HasAt code l (ct ++ ck)) e has.1.1.1

      has_k : HasAt code end ck
      has_k = subst (λ l. HasAt code (top + l) ck) (turns_long r top (pc + 1) ts top)
          (has_back code top ct ck has_rest)

      has_leave : HasAt code (pc + 1) (leave end)
      has_leave = has_front code (pc + 1) (leave end) (ct ++ ck) has.1

      rest_of : ℕ → RunOf Block
      rest_of m = cycle r (acts n ts) (acts n ts) m g

      by : (m : ℕ) → slice_index g r ≡ m → r < 7 → all_keep r ts ≡ true → all_count ts ≡ true
          → counts k ≡ true → slice_index g r ≤ n
          → AllByRecursion IsFine ((rest_of m).events ++ (run n k (rest_of m).regs).events)
          → Runs head code n pc h (limit n (Loop r ts k))
          (issues ((rest_of m).events ++ (run n k (rest_of m).regs).events)) (pc + size (Loop r ts k)) (Alike (run n k (rest_of m).regs).regs)
      by zero e lt kt nt nk le ok =
          run_fit _ (3 + limit n k) (end + size k) _ (omega arith) (omega arith)
          (run_then head code n _ end _ 3 _ _ _ [] _ _ _ refl
          (run_then head code n _ _ _ 1 2 3 _ [] [] _ _ refl
          (run_jump head code n pc r top h true (Alike g) has.0 (ap (λ v. v == 0) (a.same r lt ∙ e)) a)
          (λ z az. leave_runs (pc + 1) end g z az has_leave))
          (λ z az. gk end g z nk az has_k ok))
      by (suc m) e lt kt nt nk le ok =
          let rt = rest_of (suc m) in
          let rk = run n k rt.regs in
          let most = turns_limit n ts in
          let fits : suc m * most ≤ n * most = mul-le-mul_right most (omega (arith, e, le)) in
          run_fit _ (1 + (suc m * most + 2) + limit n k) (end + size k) _ (omega (arith, fits))
          (omega arith) (seq _ end _ _ _ _ rt.events rk.events _ _
          (run_then head code n _ _ _ _ _ _ _ [] _ _ _ refl
          (run_jump head code n pc r top h false (Alike g) has.0
          (ap (λ v. v == 0) (a.same r lt ∙ e) ∙ not_zero m) a)
          (λ z az. cycle_runs r top (pc + 1) end ts lt kt refl has_leave (has_front code top ct ck has_rest) m ts top g z
          gt gt kt nt nt (omega arith) e az (has_front code top ct ck has_rest) refl
          (front_all IsFine rt.events rk.events ok)))
          (λ z az. gk end rt.regs z nk az has_k (back_all IsFine rt.events rk.events ok)))

  mutual
    unfolding issues

    pub flow_runs : (f : FlowOf Block) → Goal f
    flow_runs End = end_case
    flow_runs (Do b k) = do_case b k (flow_runs k)
    flow_runs (Put m k) = put_case m k (flow_runs k)
    flow_runs (If r x y k) = if_case r x y k (flow_runs x) (flow_runs y) (flow_runs k)
    flow_runs (Loop r ts k) = loop_case r ts k (turns_run ts) (flow_runs k)

    turns_run : (ts : TurnsOf Block) → AllGoal ts
    turns_run (Last x) = flow_runs x
    turns_run (Turn x ts) = (flow_runs x, turns_run ts)
