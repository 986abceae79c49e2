-- The code that the emitters add.
use Rattle.uprog_gen.proofs.Common.{◌≡◌, ℕ, zero, suc, ◌+◌, ◌<◌, List, [], ◌∷◌, ◌++◌, map, length}
use Rattle.uprog_gen.proofs.Common.{sym, subst, ap, ◌∙◌, arith, length-append, append_assoc}
use Rattle.uprog_gen.proofs.Common.{append-nil, length-set, slice_set, slice_index_or}
use Rattle.uprog_gen.proofs.Common.{AllByRecursion, map_more, Uop, Move, Flow, FlowOf, TurnsOf, End}
use Rattle.uprog_gen.proofs.Common.{Do, Put, If, Loop, Last, Turn, Block, flow_of}
use Rattle.std.specs.Prelude.{take}
use Rattle.std.proofs.Math.Seq.{set-append_seam}
use Rattle.uprog_code.specs.declared.code.Uop.TheVariants as uop
use Rattle.uprog_gen.specs.Code.{body_uops}
use Rattle.uprog_gen.specs.FlowCode.{uop_of, leave, size, turns_size, code_of, turns_code}
use Rattle.uprog_gen.specs.Emits.{EmitsFlow, EmitsActs}
use Rattle.uprog_gen.proofs.Coding.FlowSizes.{code_long, turns_long, flows_code, flows_long}

-- one instruction, and then a piece
after_one : (old a b : List Uop) (i : Uop) (f : ℕ → List Uop) → a ≡ old ++ i ∷ []
    → b ≡ a ++ f (length a) → b ≡ old ++ i ∷ f (length old + 1)
after_one old a b i f ea eb =
    let long : length a ≡ length old + 1 = omega (arith, length-append {A = Uop}, ap length ea) in
    eb ∙ rw (long, ea, append_assoc)

pub end_emits : (old : List Uop) → EmitsFlow End old old
end_emits old = record { code = sym (append-nil old) }

pub do_emits : (b : Block) (k : FlowOf Block) (old mid new : List Uop) → mid ≡ old ++ body_uops b
    → EmitsFlow k mid new → EmitsFlow (Do b k) old new
do_emits b k old mid new h a =
    let long : length mid ≡ length old + length (body_uops b) =
    omega (arith, length-append {A = Uop}, ap length h) in
    record { code = a.code ∙ rw (long, h, append_assoc) }

pub put_emits : (m : Move) (k : FlowOf Block) (old mid new : List Uop)
    → mid ≡ old ++ uop_of m ∷ [] → EmitsFlow k mid new → EmitsFlow (Put m k) old new
put_emits m k old mid new e a =
    record { code = after_one old mid new (uop_of m) (code_of k) e a.code }

pub if_emits : (r : ℕ) (x y k : FlowOf Block) (old a b c e new : List Uop) (test there jump past : ℕ)
    → a ≡ old ++ uop.Bnez r 0 ∷ [] → EmitsFlow y a b → c ≡ b ++ leave 0 → test ≡ length old
    → there ≡ length c → jump ≡ length b + 1
    → EmitsFlow x (slice_set c test (uop.Bnez r there)) e → past ≡ length e
    → EmitsFlow k (slice_set e jump (uop.Bnez 7 past)) new → EmitsFlow (If r x y k) old new
if_emits r x y k old a b c e new test there jump past ea by ec et eh ej bx ep bk =
    let cy = code_of y (length old + 1) in
    let at_x = length old + 1 + size y + 2 in
    let cx = code_of x at_x in
    let end = at_x + size x in
    let front = old ++ uop.Bnez r at_x ∷ (cy ++ uop.SetI 7 1 ∷ []) in
    let long_y = code_long y (length old + 1) in
    let is_b : b ≡ old ++ uop.Bnez r 0 ∷ cy =
    after_one old a b (uop.Bnez r 0) (code_of y) ea by.code in
    let long_b : length b ≡ length old + 1 + size y =
    omega (arith, length-append {A = Uop}, ap length is_b) in
    let long_c : length c ≡ at_x = omega (arith, length-append {A = Uop}, ap length ec) in
    let d = slice_set c test (uop.Bnez r there) in
    let is_d : d ≡ old ++ uop.Bnez r at_x ∷ (cy ++ leave 0) =
    rw (eh ∙ long_c, et, ec, is_b, append_assoc)
    (set-append_seam old (uop.Bnez r 0) (cy ++ leave 0) (uop.Bnez r at_x)) in
    let long_d : length d ≡ at_x = length-set c test (uop.Bnez r there) ∙ long_c in
    let is_e : e ≡ front ++ uop.Bnez 7 0 ∷ cx = bx.code ∙ rw (long_d, is_d) (simp append_assoc) in
    let at : jump ≡ length front = omega (arith, length-append {A = Uop}) in
    let long_x = code_long x at_x in
    let past_is : past ≡ end = omega (arith, length-append {A = Uop}, ap length is_e) in
    let f = slice_set e jump (uop.Bnez 7 past) in
    let is_f : f ≡ front ++ uop.Bnez 7 end ∷ cx =
    rw (past_is, at, is_e) (set-append_seam front (uop.Bnez 7 0) cx (uop.Bnez 7 end)) in
    let long_f : length f ≡ end = length-set e jump (uop.Bnez 7 past) ∙ sym ep ∙ past_is in
    record { code = bk.code ∙ rw (long_f, is_f) (simp append_assoc) }

pub loop_emits : (r top out : ℕ) (ts : TurnsOf Block) (k : FlowOf Block) (old a b c new : List Uop)
    (past : ℕ) → out ≡ length old + 1 → top ≡ out + 2 → a ≡ old ++ uop.Bnez r top ∷ []
    → b ≡ a ++ leave 0 → EmitsActs r top out ts b c → past ≡ length c
    → EmitsFlow k (slice_set c (out + 1) (uop.Bnez 7 past)) new → EmitsFlow (Loop r ts k) old new
loop_emits r top out ts k old a b c new past eo et ea eb bt ep bk =
    let q = length old + 1 + 2 in
    let ct = turns_code r q (length old + 1) ts q in
    let end = q + turns_size ts in
    let front = old ++ uop.Bnez r q ∷ uop.SetI 7 1 ∷ [] in
    let top_is : top ≡ q = omega arith in
    let long_b : length b ≡ q =
    omega (arith, length-append {A = Uop}, ap length ea, ap length eb) in
    let is_c : c ≡ front ++ uop.Bnez 7 0 ∷ ct =
    bt.code ∙ rw (long_b, eb, ea, top_is, eo) (simp append_assoc) in
    let at : out + 1 ≡ length front = omega (arith, length-append {A = Uop}) in
    let long_t = turns_long r q (length old + 1) ts q in
    let past_is : past ≡ end = omega (arith, length-append {A = Uop}, ap length is_c) in
    let d = slice_set c (out + 1) (uop.Bnez 7 past) in
    let is_d : d ≡ front ++ uop.Bnez 7 end ∷ ct =
    rw (past_is, at, is_c) (set-append_seam front (uop.Bnez 7 0) ct (uop.Bnez 7 end)) in
    let long_d : length d ≡ end = length-set c (out + 1) (uop.Bnez 7 past) ∙ sym ep ∙ past_is in
    record { code = bk.code ∙ rw (long_d, is_d) (simp append_assoc) }

pub last_emits : (r top out : ℕ) (x : FlowOf Block) (old a b c : List Uop)
    → a ≡ old ++ uop.SubI r 1 ∷ [] → EmitsFlow x a b → c ≡ b ++ uop.Bnez r top ∷ []
    → EmitsActs r top out (Last x) old c
last_emits r top out x old a b c ea bx ec =
    let is_b = after_one old a b (uop.SubI r 1) (code_of x) ea bx.code in
    record { code = ec ∙ rw (is_b, append_assoc) }

pub turn_emits : (r top out : ℕ) (x : FlowOf Block) (ts : TurnsOf Block) (old a b c d new : List Uop)
    (next : ℕ) → a ≡ old ++ uop.SubI r 1 ∷ [] → EmitsFlow x a b → next ≡ length b + 3
    → c ≡ b ++ uop.Bnez r next ∷ [] → d ≡ c ++ leave out → EmitsActs r top out ts d new
    → EmitsActs r top out (Turn x ts) old new
turn_emits r top out x ts old a b c d new next ea bx en ec ed bt =
    let cx = code_of x (length old + 1) in
    let q = length old + 1 + size x + 1 + 2 in
    let is_b : b ≡ old ++ uop.SubI r 1 ∷ cx =
    after_one old a b (uop.SubI r 1) (code_of x) ea bx.code in
    let long_x = code_long x (length old + 1) in
    let next_is : next ≡ q = omega (arith, length-append {A = Uop}, ap length is_b) in
    let long_d : length d ≡ q =
    omega (arith, length-append {A = Uop}, ap length ed, ap length ec) in
    record { code = bt.code ∙ rw (long_d, ed, ec, next_is, is_b) (simp append_assoc) }

flows_more : (fs : List (FlowOf Block)) (f : FlowOf Block) (pc : ℕ)
    → flows_code (fs ++ f ∷ []) pc ≡ flows_code fs pc
    ++ code_of f (pc + length (flows_code fs pc))
flows_more [] f pc = let e : pc ≡ pc + 0 = omega arith in
    append-nil (code_of f pc) ∙ ap (code_of f) e
flows_more (g ∷ fs) f pc =
    let a = code_of g pc in
    let q = pc + size g in
    let b = flows_code fs q in
    let e : q + length b ≡ pc + length (a ++ b) = omega (arith, flows_long g fs pc) in
    ap (λ l. a ++ l) (flows_more fs f q ∙ ap (λ k. b ++ code_of f k) e)
    ∙ sym (append_assoc a b (code_of f (pc + length (a ++ b))))

-- the code of the flows so far, and that of one more
pub next_flow : (fs : List Flow) (k : ℕ) (x : Flow) (old new : List Uop) → k < length fs
    → x ≡ slice_index_or fs k x → old ≡ flows_code (map flow_of (take k fs)) 0
    → EmitsFlow (flow_of x) old new
    → new ≡ flows_code (map flow_of (take (k + 1) fs)) 0
next_flow fs k x old new lt e a b =
    let xs = map flow_of (take k fs) in
    let at : length old ≡ 0 + length (flows_code xs 0) = omega (arith, ap length a) in
    b.code ∙ ap (λ l. l ++ code_of (flow_of x) (length old)) a
    ∙ ap (λ q. flows_code xs 0 ++ code_of (flow_of x) q) at
    ∙ sym (flows_more xs (flow_of x) 0)
    ∙ ap (λ y. flows_code (xs ++ y ∷ []) 0) (ap flow_of e)
    ∙ ap (λ l. flows_code l 0) (sym (map_more flow_of fs k x lt))

-- what holds of all flows holds of one
pub flow_at : (P : FlowOf Block → Type 0) (fs : List Flow) (k : ℕ) (x : Flow)
    → AllByRecursion P (map flow_of fs) → k < length fs → x ≡ slice_index_or fs k x
    → P (flow_of x)
flow_at P [] k x h lt e = absurd (omega arith)
flow_at P (f ∷ fs) zero x h lt e = subst (λ y. P (flow_of y)) (sym e) h.0
flow_at P (f ∷ fs) (suc k) x h lt e = flow_at P fs k x h.1 (omega arith) e
