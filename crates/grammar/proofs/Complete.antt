-- The grammar allows tokens exactly where one of its texts begins with them.
use Rattle.std.proofs.Common.{◌≡◌, Bool, false, List, [], ◌∷◌, ◌++◌, Option, Some, None}
use Rattle.std.proofs.Common.{option_and_then, refl, ap, ◌∙◌, IsSome}
use Rattle.grammar.specs.Machine.{Language, ends, opens_or, allowed}
use Rattle.grammar.specs.Laws.{IsViable, IsAccepted, IsTheGrammar}
use Rattle.grammar.proofs.Walks.{some_same}
use Rattle.grammar.proofs.Found.{IsAlike, allowed_split, refused}

-- What is wanted can be given. Which stacks can be wanted before an opening token, and before
-- another, rests on the language.
pub record Completes {W U S K : Type 0} (l : Language W U S K) : Type 1 where
  pub Fine : Bool → List W → Type 0
  pub first : (o : Bool) → Fine o (l.first ∷ [])
  pub keeps : (w : W) (ws front : List W) (u : U) (o : Bool) → Fine (l.opens u) (w ∷ ws)
      → l.follow w u o ≡ Some front → Fine o (front ++ ws)
  -- tokens that give all that is wanted
  pub finish : List W → List U
  pub finishes : (ws : List W) → Fine false ws → (end : List W)
      × (allowed l false ws (finish ws) ≡ Some end) × (ends l end ≡ None)
  -- the last token means before them what it means at the end
  pub last : (w : W) (ws front : List W) (u : U) → Fine (l.opens u) (w ∷ ws)
      → l.follow w u false ≡ Some front
      → l.follow w u (opens_or l false (finish (front ++ ws))) ≡ Some front

module _ {W U S K : Type 0} (l : Language W U S K) (c : Completes l) where
  stays_fine : (us : List U) (o : Bool) (ws end : List W) → c.Fine (opens_or l o us) ws
      → allowed l o ws us ≡ Some end → c.Fine o end
  unfolding allowed
  stays_fine [] o ws end f h = Rattle.std.proofs.Common.subst (c.Fine o) (some_same ws end h) f
  stays_fine (u ∷ us) o [] end f h = cc
  stays_fine (u ∷ us) o (w ∷ ws) end f h =
      by (l.follow w u (opens_or l o us)) refl (λ front k g. stays_fine us o (front ++ ws) end k g) h
    where
      by : (x : Option (List W)) → l.follow w u (opens_or l o us) ≡ x
          → ((front : List W) → c.Fine (opens_or l o us) (front ++ ws)
          → allowed l o (front ++ ws) us ≡ Some end → c.Fine o end)
          → option_and_then (λ front. allowed l o (front ++ ws) us) x ≡ Some end → c.Fine o end
      by None e go h = cc
      by (Some front) e go h = go front (c.keeps w ws front u (opens_or l o us) f e) h

  -- tokens are allowed before what completes them
  before_end : (us : List U) (ws end : List W) → c.Fine (opens_or l false us) ws
      → allowed l false ws us ≡ Some end
      → allowed l (opens_or l false (c.finish end)) ws us ≡ Some end
  unfolding allowed
  before_end [] ws end f h = h
  before_end (u ∷ us) [] end f h = cc
  before_end (u ∷ []) (w ∷ ws) end f h = by (l.follow w u false) refl h where
    by : (x : Option (List W)) → l.follow w u false ≡ x
        → option_and_then (λ front. Some (front ++ ws)) x ≡ Some end
        → option_and_then (λ front. Some (front ++ ws))
        (l.follow w u (opens_or l false (c.finish end))) ≡ Some end
    by None e h = cc
    by (Some front) e h =
        let same = some_same (front ++ ws) end h in
        let k = c.last w ws front u f e in
        rw (← same, k) refl
  before_end (u ∷ v ∷ us) (w ∷ ws) end f h =
      by (l.follow w u (l.opens v)) refl (λ front k g. before_end (v ∷ us) (front ++ ws) end k g) h
    where
      by : (x : Option (List W)) → l.follow w u (l.opens v) ≡ x
          → ((front : List W) → c.Fine (l.opens v) (front ++ ws)
          → allowed l false (front ++ ws) (v ∷ us) ≡ Some end
          → allowed l (opens_or l false (c.finish end)) (front ++ ws) (v ∷ us) ≡ Some end)
          → option_and_then (λ front. allowed l false (front ++ ws) (v ∷ us)) x ≡ Some end
          → option_and_then (λ front. allowed l (opens_or l false (c.finish end)) (front ++ ws) (v
          ∷ us)) x ≡ Some end
      by None e go h = cc
      by (Some front) e go h = go front (c.keeps w ws front u (l.opens v) f e) h

  -- what is wanted after tokens that are allowed can be given
  pub stack_is_fine : (us : List U) (end : List W)
      → allowed l false (l.first ∷ []) us ≡ Some end → c.Fine false end
  stack_is_fine us end h = stays_fine us false (l.first ∷ []) end (c.first _) h

  completed : (us : List U) (end : List W) → allowed l false (l.first ∷ []) us ≡ Some end
      → IsAccepted l (us ++ c.finish end)
  completed us end h =
      let f = c.finishes end (stack_is_fine us end h) in (
        f.0,
        allowed_split l false us (c.finish end) (l.first ∷ [])
            ∙ ap (option_and_then (λ stack. allowed l false stack (c.finish end)))
            (before_end us (l.first ∷ []) end (c.first _) h) ∙ f.1,
        f.2,
      )

  module _ (IsText : List U → Type 0) (alike : IsAlike l)
      (back : (us : List U) → IsAccepted l us → IsText us)
      (runs : (us : List U) → IsText us → IsAccepted l us) where
    viable : (us : List U) (o : Option (List W)) → allowed l false (l.first ∷ []) us ≡ o → IsSome o
        → IsViable IsText us
    viable us None e h = cc
    viable us (Some end) e h = (c.finish end, back _ (completed us end e))

    not_viable : (us : List U) (o : Option (List W)) → allowed l false (l.first ∷ []) us ≡ o
        → IsViable IsText us → IsSome o
    not_viable us (Some end) e v = refl
    not_viable us None e (more, v) =
        let a = runs _ v in
        let none = refused l alike us false (opens_or l false more) (l.first ∷ []) e in
        let none_more = allowed_split l false us more (l.first ∷ [])
        ∙ ap (option_and_then (λ stack. allowed l false stack more)) none in
        let some = a.1 in
        cc

    pub is_the_grammar : IsTheGrammar l IsText
    is_the_grammar = record {
      accepts = λ us. (back us, runs us);
      allows = λ us. (
        viable us (allowed l false (l.first ∷ []) us) refl,
        not_viable us (allowed l false (l.first ∷ []) us) refl,
      );
    }
