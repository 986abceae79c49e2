-- Where the plain instructions on three copies end.
use Rattle.tmr_guard.proofs.Common.{◌≡◌, ◌+◌, true, List, [], ◌∷◌, ◌++◌, Option, Some, None, refl}
use Rattle.tmr_guard.proofs.Common.{sym, ◌∙◌, ap, subst, arith, append-nil, flat_map, Geometry}
use Rattle.tmr_guard.proofs.Common.{ChipView, Turn, Counts, Named, Instruction, Why, Reply, Done}
use Rattle.tmr_guard.proofs.Common.{Refused, Program, Routines, routines_in, refusal, reply_by}
use Rattle.tmr_guard.proofs.Common.{counts_for, tabled, replies, plus, is_refused, plain_ones}
use Rattle.tmr_guard.proofs.Common.{plain_script, joined, done_ones, removal, if_none, none_yet}
use Rattle.tmr_guard.proofs.Common.{script_by, script_for, script_done, script_refused, done_more}
use Rattle.tmr_guard.proofs.Common.{done_first}
use Rattle.guard_model.specs.Guarded.{guarded_reply}
use Rattle.guard_model.proofs.Runs.{reply_more, reply_first}
use Rattle.tmr_guard.specs.Steps.{Ran, Replied, One}
use Rattle.tmr_guard.proofs.Runs.{ran_more, ran_refused}

pub replied_refused : (r : Option Why) (k : Counts) (w : Why) → Refused w ≡ reply_by r k
    → r ≡ Some w
replied_refused None k w e = cc
replied_refused (Some v) k w e = let f : v ≡ w = cc in ap (λ u. Some u) f

pub replied_done : (r : Option Why) (k c : Counts) → Done c ≡ reply_by r k
    → (r ≡ None) × (c ≡ k)
replied_done None k c e = let f : c ≡ k = cc in (refl, f)
replied_done (Some v) k c e = cc

-- the same geometry and program
pub moved_one : (g h : Geometry) (p q : Program) (t t' : Turn) (T T' : List Named)
    (i : Instruction) (r : Reply) (a b : ChipView) → h ≡ g → q ≡ p
    → One h q t t' T T' i r a b → One g p t t' T T' i r a b
moved_one g h p q t t' T T' i r a b e f one =
    subst (λ x. One g x t t' T T' i r a b) f (subst (λ x. One x q t t' T T' i r a b) e one)

pub moved_ran : (g h : Geometry) (p q : Program) (t t' : Turn) (T T' : List Named)
    (xs : List Instruction) (a b : ChipView) → h ≡ g → q ≡ p
    → Ran h q t t' T T' xs a b → Ran g p t t' T T' xs a b
moved_ran g h p q t t' T T' xs a b e f ran =
    subst (λ x. Ran g x t t' T T' xs a b) f (subst (λ x. Ran x q t t' T T' xs a b) e ran)

zero_plus : (k : Counts) → plus none_yet k ≡ k
zero_plus k =
    let e : 0 + k.aap ≡ k.aap = omega arith in
    let f : 0 + k.ap ≡ k.ap = omega arith in
    rw (e, f) refl

module _ (g : Geometry) (p : Program) (T : List Named) (i x y z : Instruction)
    (ones : plain_ones i ≡ x ∷ y ∷ z ∷ [])
  where
    abbrev o : Routines
    o = routines_in p

    reply_is : (reply : Reply) → joined none_yet (replies g o T (x ∷ y ∷ z ∷ [])) ≡ reply
        → reply ≡ guarded_reply g o T i
    reply_is reply e = sym (ap (λ l. joined none_yet (replies g o T l)) ones ∙ e)

    script_is : (done : List Instruction) (w : Why)
        → joined none_yet (replies g o T (x ∷ y ∷ z ∷ [])) ≡ Refused w
        → done_ones g o T (x ∷ y ∷ z ∷ []) ≡ done
        → done ++ flat_map removal done ≡ plain_script g o T i
    script_is done w e f =
        sym (ap (script_for g o T) ones
        ∙ ap (λ r. script_by (is_refused r) (done_ones g o T (x ∷ y ∷ z ∷ []))) e
        ∙ ap (script_by true) f)

    -- refused at the first
    pub exit_first : (t t1 : Turn) (T1 : List Named) (w : Why) (a b : ChipView)
        → One g p t t1 T T1 x (Refused w) a b → Replied g p t t1 T T1 i (Refused w) a b
    exit_first t t1 T1 w a b one =
        let e = replied_refused (refusal g o T x) (counts_for g o T x) w one.answer in
        record {
          ran = subst (λ s. Ran g p t t1 T T1 s a b)
              (sym (ap (script_for g o T) ones ∙ script_refused g o T x (y ∷ z ∷ []) w e))
              (ran_refused g p t t1 T T1 x w a b one.ran e);
          answer = reply_is (Refused w) (reply_first g o T x (y ∷ z ∷ []) none_yet w e);
        }

    -- at the second
    pub exit_second : (t t1 t2 t3 : Turn) (T1 T2 T3 : List Named) (k : Counts) (w : Why)
        (a b c d : ChipView) → One g p t t1 T T1 x (Done k) a b
        → One g p t1 t2 T1 T2 y (Refused w) b c → Ran g p t2 t3 T2 T3 (removal x) c d
        → Replied g p t t3 T T3 i (Refused w) a d
    exit_second t t1 t2 t3 T1 T2 T3 k w a b c d one two back =
        let e1 = (replied_done (refusal g o T x) (counts_for g o T x) k one.answer).0 in
        let k1 : T1 ≡ tabled g T x =
        one.ran.tables ∙ if_none (refusal g o T x) (tabled g T x) T e1 in
        let e2 = replied_refused (refusal g o T1 y) (counts_for g o T1 y) w two.answer in
        let f2 : refusal g o (tabled g T x) y ≡ Some w = ap (λ u. refusal g o u y) (sym k1)
        ∙ e2 in
        let full = reply_more g o T x (y ∷ z ∷ []) none_yet e1
        ∙ reply_first g o (tabled g T x) y (z ∷ []) _ w f2 in
        let done : done_ones g o T (x ∷ y ∷ z ∷ []) ≡ x ∷ [] =
        done_more g o T x (y ∷ z ∷ []) e1
        ∙ ap (λ l. x ∷ l) (done_first g o (tabled g T x) y (z ∷ []) w f2) in
        let none = ran_refused g p t1 t2 T1 T2 y w b c two.ran e2 in
        let rest : Ran g p t1 t3 T1 T3 (removal x ++ []) b d =
        subst (λ s. Ran g p t1 t3 T1 T3 s b d) (sym (append-nil (removal x)))
        (ran_more g p t1 t2 t3 T1 T2 T3 [] (removal x) b c d none back) in
        record {
          ran = subst (λ s. Ran g p t t3 T T3 s a d) (script_is (x ∷ []) w full done)
              (ran_more g p t t1 t3 T T1 T3 (x ∷ []) (removal x ++ []) a b d one.ran rest);
          answer = reply_is (Refused w) full;
        }

    -- at the third
    pub exit_third : (t t1 t2 t3 t4 t5 : Turn) (T1 T2 T3 T4 T5 : List Named) (k l : Counts)
        (w : Why) (a b c d e f : ChipView) → One g p t t1 T T1 x (Done k) a b
        → One g p t1 t2 T1 T2 y (Done l) b c → One g p t2 t3 T2 T3 z (Refused w) c d
        → Ran g p t3 t4 T3 T4 (removal x) d e → Ran g p t4 t5 T4 T5 (removal y) e f
        → Replied g p t t5 T T5 i (Refused w) a f
    exit_third t t1 t2 t3 t4 t5 T1 T2 T3 T4 T5 k l w a b c d e f one two three back again =
        let e1 = (replied_done (refusal g o T x) (counts_for g o T x) k one.answer).0 in
        let k1 : T1 ≡ tabled g T x =
        one.ran.tables ∙ if_none (refusal g o T x) (tabled g T x) T e1 in
        let e2 = (replied_done (refusal g o T1 y) (counts_for g o T1 y) l two.answer).0 in
        let f2 : refusal g o (tabled g T x) y ≡ None = ap (λ u. refusal g o u y) (sym k1) ∙ e2 in
        let k2 : T2 ≡ tabled g (tabled g T x) y =
        two.ran.tables ∙ if_none (refusal g o T1 y) (tabled g T1 y) T1 e2
        ∙ ap (λ u. tabled g u y) k1 in
        let e3 = replied_refused (refusal g o T2 z) (counts_for g o T2 z) w three.answer in
        let f3 : refusal g o (tabled g (tabled g T x) y) z ≡ Some w =
        ap (λ u. refusal g o u z) (sym k2) ∙ e3 in
        let full = reply_more g o T x (y ∷ z ∷ []) none_yet e1
        ∙ reply_more g o (tabled g T x) y (z ∷ []) _ f2
        ∙ reply_first g o (tabled g (tabled g T x) y) z [] _ w f3 in
        let done : done_ones g o T (x ∷ y ∷ z ∷ []) ≡ x ∷ y ∷ [] =
        done_more g o T x (y ∷ z ∷ []) e1
        ∙ ap (λ l. x ∷ l) (done_more g o (tabled g T x) y (z ∷ []) f2
        ∙ ap (λ l. y ∷ l) (done_first g o (tabled g (tabled g T x) y) z [] w f3)) in
        let none = ran_refused g p t2 t3 T2 T3 z w c d three.ran e3 in
        let last : Ran g p t4 t5 T4 T5 (removal y ++ []) e f =
        subst (λ s. Ran g p t4 t5 T4 T5 s e f) (sym (append-nil (removal y))) again in
        let rest : Ran g p t2 t5 T2 T5 (removal x ++ (removal y ++ [])) c f =
        ran_more g p t2 t4 t5 T2 T4 T5 (removal x) (removal y ++ []) c e f
        (ran_more g p t2 t3 t4 T2 T3 T4 [] (removal x) c d e none back) last in
        record {
          ran = subst (λ s. Ran g p t t5 T T5 s a f) (script_is (x ∷ y ∷ []) w full done)
              (ran_more g p t t1 t5 T T1 T5 (x ∷ []) (y ∷ (removal x ++ (removal y ++ []))) a b f
              one.ran (ran_more g p t1 t2 t5 T1 T2 T5 (y ∷ [])
              (removal x ++ (removal y ++ [])) b c f two.ran rest));
          answer = reply_is (Refused w) full;
        }

    -- nowhere
    pub exit_all : (t t1 t2 t3 : Turn) (T1 T2 T3 : List Named) (k l m : Counts)
        (a b c d : ChipView) → One g p t t1 T T1 x (Done k) a b
        → One g p t1 t2 T1 T2 y (Done l) b c → One g p t2 t3 T2 T3 z (Done m) c d
        → Replied g p t t3 T T3 i (Done (plus (plus k l) m)) a d
    exit_all t t1 t2 t3 T1 T2 T3 k l m a b c d one two three =
        let r1 = replied_done (refusal g o T x) (counts_for g o T x) k one.answer in
        let e1 = r1.0 in
        let k1 : T1 ≡ tabled g T x =
        one.ran.tables ∙ if_none (refusal g o T x) (tabled g T x) T e1 in
        let r2 = replied_done (refusal g o T1 y) (counts_for g o T1 y) l two.answer in
        let e2 = r2.0 in
        let f2 : refusal g o (tabled g T x) y ≡ None = ap (λ u. refusal g o u y) (sym k1) ∙ e2 in
        let k2 : T2 ≡ tabled g (tabled g T x) y =
        two.ran.tables ∙ if_none (refusal g o T1 y) (tabled g T1 y) T1 e2
        ∙ ap (λ u. tabled g u y) k1 in
        let r3 = replied_done (refusal g o T2 z) (counts_for g o T2 z) m three.answer in
        let f3 : refusal g o (tabled g (tabled g T x) y) z ≡ None =
        ap (λ u. refusal g o u z) (sym k2) ∙ r3.0 in
        let full = reply_more g o T x (y ∷ z ∷ []) none_yet e1
        ∙ reply_more g o (tabled g T x) y (z ∷ []) _ f2
        ∙ reply_more g o (tabled g (tabled g T x) y) z [] _ f3 in
        let cx : k ≡ plus none_yet (counts_for g o T x) =
        r1.1 ∙ sym (zero_plus (counts_for g o T x)) in
        let cy : l ≡ counts_for g o (tabled g T x) y =
        r2.1 ∙ ap (λ u. counts_for g o u y) k1 in
        let cz : m ≡ counts_for g o (tabled g (tabled g T x) y) z =
        r3.1 ∙ ap (λ u. counts_for g o u z) k2 in
        let sums : Done (plus (plus k l) m) ≡ Done (plus (plus (plus none_yet
        (counts_for g o T x)) (counts_for g o (tabled g T x) y))
        (counts_for g o (tabled g (tabled g T x) y) z)) =
        ap (λ u. Done (plus (plus u l) m)) cx
        ∙ ap (λ u. Done (plus (plus (plus none_yet (counts_for g o T x)) u) m)) cy
        ∙ ap (λ u. Done (plus (plus (plus none_yet (counts_for g o T x))
        (counts_for g o (tabled g T x) y)) u)) cz in
        record {
          ran = subst (λ s. Ran g p t t3 T T3 s a d)
              (sym (ap (script_for g o T) ones
              ∙ script_done g o T (x ∷ y ∷ z ∷ []) (e1, (f2, (f3, tt)))))
              (ran_more g p t t1 t3 T T1 T3 (x ∷ []) (y ∷ z ∷ []) a b d one.ran
              (ran_more g p t1 t2 t3 T1 T2 T3 (y ∷ []) (z ∷ []) b c d two.ran three.ran));
          answer = sums ∙ reply_is _ full;
        }
