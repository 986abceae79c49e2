-- What stands before each statement of an operation, and the flows so far.
use Rattle.uprog_gen.proofs.Common.{◌≡◌, ℕ, zero, suc, ◌+◌, ◌<◌, List, [], ◌∷◌, ◌++◌, map, length}
use Rattle.uprog_gen.proofs.Common.{take, sym, ap, ◌∙◌, subst, arith, slice_index_or, map-append}
use Rattle.uprog_gen.proofs.Common.{Stmt, Statement, Operation, statement, Context, next_context}
use Rattle.uprog_gen.proofs.Common.{at_start, OperationMeets, Flow, StepOf, Block, flow_of, Slots}
use Rattle.uprog_gen.proofs.Common.{IsPlaced, front}
use Rattle.loop_ir.specs.Statements.{StatementMeets}
use Rattle.loop_ir.specs.Lowered.{IsLowered}
use Rattle.word_lower.specs.Forms.{HasForm}
use Rattle.uprog_gen.specs.Layout.{IsLayout}
use Rattle.uprog_gen.specs.Programs.{AreLowered, HaveForms, IsAsWritten, AreWritten}
use Rattle.uprog_gen.specs.Entries.{AreFronts}
use Rattle.uprog_gen.proofs.Naming.Stage.{Stage, first_stage, next_stage}
use Rattle.uprog_gen.proofs.Naming.Ready.{statement_meets, is_placed}
use Rattle.uprog_gen.proofs.Naming.LaidOut.{body_more}

-- what a statement needs to be lowered
pub record IsReady (slots : Slots) (free_bit free_word : ℕ) (s : Statement) : Type 0 where
  pub meets : StatementMeets slots s
  pub placed : IsPlaced slots free_bit free_word s

module _ (op : Operation) (meets : OperationMeets op) (slots : Slots) (free_bit free_word : ℕ)
    (is : IsLayout op slots free_bit free_word) where
  ready_at : (c : Context) (items : List Stmt) → Stage op c (map statement items)
      → (k : ℕ) (x : Stmt) → k < length items → x ≡ slice_index_or items k x
      → IsReady slots free_bit free_word (statement x)
  ready_at c [] st k x lt e = absurd (omega arith)
  ready_at c (y ∷ items) st zero x lt e =
      subst (λ (z : Stmt). IsReady slots free_bit free_word (statement z)) (sym e) (record {
        meets = statement_meets _ meets _ _ _ is c (statement y) (map statement items) st;
        placed = is_placed _ meets _ _ _ is c (statement y) (map statement items) st;
      })
  ready_at c (y ∷ items) st (suc k) x lt e = ready_at (next_context c (statement y)) items
      (next_stage op c (statement y) (map statement items) st) k x (omega arith) e

  pub statement_ready : (items : List Stmt) → op.body ≡ map statement items → (k : ℕ) (x : Stmt)
      → k < length items → x ≡ slice_index_or items k x
      → IsReady slots free_bit free_word (statement x)
  statement_ready items e k x lt f = ready_at (at_start op) items
      (subst (Stage op (at_start op)) e (first_stage op meets)) k x lt f

-- one statement's program more
all-append : (slots : Slots) (free_bit free_word : ℕ) (body : List Statement)
    (ps : List (List (StepOf Block))) (s : Statement) (p : List (StepOf Block))
    → AreLowered slots free_bit free_word body ps → HaveForms slots body ps
    → AreWritten slots free_bit free_word body ps → IsLowered slots free_bit free_word s p
    → HasForm slots s p → IsAsWritten slots free_bit free_word s p
    → AreLowered slots free_bit free_word (body ++ s ∷ []) (ps ++ p ∷ [])
    × HaveForms slots (body ++ s ∷ []) (ps ++ p ∷ [])
    × AreWritten slots free_bit free_word (body ++ s ∷ []) (ps ++ p ∷ [])
all-append slots free_bit free_word [] [] s p l f w i j k = ((i, tt), (j, tt), (k, tt))
all-append slots free_bit free_word (t ∷ body) (q ∷ ps) s p l f w i j k =
    let more = all-append slots free_bit free_word body ps s p l.1 f.1 w.1 i j k in
    ((l.0, more.0), (f.0, more.1), (w.0, more.2))
all-append _ _ _ _ _ _ _ l _ _ _ _ _ = absurd l

-- one statement more
pub fronts_more : (slots : Slots) (free_bit free_word : ℕ) (items : List Stmt) (k : ℕ) (x : Stmt)
    (old new : List Flow) (f : Flow) (p : List (StepOf Block)) → k < length items
    → x ≡ slice_index_or items k x → new ≡ old ++ f ∷ [] → flow_of f ≡ front p
    → AreFronts slots free_bit free_word (take k (map statement items)) (map flow_of old)
    → IsLowered slots free_bit free_word (statement x) p → HasForm slots (statement x) p
    → IsAsWritten slots free_bit free_word (statement x) p
    → AreFronts slots free_bit free_word (take (k + 1) (map statement items)) (map flow_of new)
fronts_more slots free_bit free_word items k x old new f p lt e g is h low form written =
    let body = take k (map statement items) in
    let all = all-append _ _ _ body h.statements (statement x) p h.lowered h.forms h.written low form
    written in
    subst (λ l. AreFronts slots free_bit free_word l (map flow_of new))
    (sym (body_more items k x lt e)) (record {
      statements = h.statements ++ p ∷ [];
      fronts = ap (map flow_of) g ∙ map-append flow_of old (f ∷ [])
          ∙ ap (λ l. l ++ flow_of f ∷ []) h.fronts ∙ ap (λ y. map front h.statements ++ y ∷ []) is
          ∙ sym (map-append front h.statements (p ∷ []));
      lowered = all.0;
      forms = all.1;
      written = all.2;
    })
