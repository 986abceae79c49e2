-- Words as terms, and terms as words.
use Rattle.std.proofs.Common.{◌≡◌, Bool, true, false, List, [], ◌∷◌, map, drop, Option, Some}
use Rattle.std.proofs.Common.{None, ℕ, zero, suc, ◌+◌, ◌<◌, ◌-◌, length, take, get_or, refl, ap}
use Rattle.std.proofs.Common.{◌∙◌, arith}
use Rattle.std.proofs.Math.Seq.{take-length}
use Rattle.std.specs.List.{flat_map}
use Rattle.bbop_isa.specs.declared.words.Word.{Word as Kept}
use Rattle.bbop_isa.specs.Words.{word_view}
use Rattle.bbop_isa.specs.Words.{Word, Name, Number, Comma, Open, Colon, Close, Other}
use Rattle.bbop_isa.specs.Operands.{Written, Whole, Bit, Bits, Term, Named, Value, Break, Stray}
use Rattle.bbop_isa.specs.Operands.{terms_of, term_words}
use Rattle.bbop_isa.specs.Reading.{bit_in, bits_in}

-- each word belongs to a term that may stand in a line
abbrev pub no_stray : List Term → Bool
no_stray [] = true
no_stray (Stray ∷ terms) = false
no_stray (Named place ∷ terms) = no_stray terms
no_stray (Value number ∷ terms) = no_stray terms
no_stray (Break ∷ terms) = no_stray terms

-- terms are read again
pub terms_are : (terms : List Term) → terms_of (flat_map term_words terms) ≡ terms
terms_are [] = refl
terms_are (Named (Whole name) ∷ []) = refl
terms_are (Named (Whole name) ∷ Named (Whole other) ∷ terms) =
    ap (λ ts. Named (Whole name) ∷ ts) (terms_are (Named (Whole other) ∷ terms))
terms_are (Named (Whole name) ∷ Named (Bit other k) ∷ terms) =
    ap (λ ts. Named (Whole name) ∷ ts) (terms_are (Named (Bit other k) ∷ terms))
terms_are (Named (Whole name) ∷ Named (Bits other low high) ∷ terms) =
    ap (λ ts. Named (Whole name) ∷ ts) (terms_are (Named (Bits other low high) ∷ terms))
terms_are (Named (Whole name) ∷ Value number ∷ terms) =
    ap (λ ts. Named (Whole name) ∷ ts) (terms_are (Value number ∷ terms))
terms_are (Named (Whole name) ∷ Break ∷ terms) =
    ap (λ ts. Named (Whole name) ∷ ts) (terms_are (Break ∷ terms))
terms_are (Named (Whole name) ∷ Stray ∷ terms) =
    ap (λ ts. Named (Whole name) ∷ ts) (terms_are (Stray ∷ terms))
terms_are (Named (Bit name k) ∷ terms) = ap (λ ts. Named (Bit name k) ∷ ts) (terms_are terms)
terms_are (Named (Bits name low high) ∷ terms) =
    ap (λ ts. Named (Bits name low high) ∷ ts) (terms_are terms)
terms_are (Value number ∷ terms) = ap (λ ts. Value number ∷ ts) (terms_are terms)
terms_are (Break ∷ terms) = ap (λ ts. Break ∷ ts) (terms_are terms)
terms_are (Stray ∷ terms) = ap (λ ts. Stray ∷ ts) (terms_are terms)

-- words without a stray are those of their terms
pub words_are : (words : List Word) → no_stray (terms_of words) ≡ true
    → words ≡ flat_map term_words (terms_of words)
words_are [] none = refl
words_are (Name name ∷ Open ∷ Number k ∷ Close ∷ words) none =
    ap (λ ws. Name name ∷ Open ∷ Number k ∷ Close ∷ ws) (words_are words none)
words_are (Name name ∷ Open ∷ Number low ∷ Colon ∷ Number high ∷ Close ∷ words) none =
    ap (λ ws. Name name ∷ Open ∷ Number low ∷ Colon ∷ Number high ∷ Close ∷ ws)
    (words_are words none)
words_are (Name name ∷ []) none = refl
words_are (Name name ∷ Name n ∷ words) none =
    ap (λ ws. Name name ∷ ws) (words_are (Name n ∷ words) none)
words_are (Name name ∷ Number m ∷ words) none =
    ap (λ ws. Name name ∷ ws) (words_are (Number m ∷ words) none)
words_are (Name name ∷ Comma ∷ words) none =
    ap (λ ws. Name name ∷ ws) (words_are (Comma ∷ words) none)
words_are (Name name ∷ Colon ∷ words) none =
    ap (λ ws. Name name ∷ ws) (words_are (Colon ∷ words) none)
words_are (Name name ∷ Close ∷ words) none =
    ap (λ ws. Name name ∷ ws) (words_are (Close ∷ words) none)
words_are (Name name ∷ Other ∷ words) none =
    ap (λ ws. Name name ∷ ws) (words_are (Other ∷ words) none)
words_are (Name name ∷ Open ∷ []) none = absurd (cc)
words_are (Name name ∷ Open ∷ Name n ∷ words) none = absurd (cc)
words_are (Name name ∷ Open ∷ Comma ∷ words) none = absurd (cc)
words_are (Name name ∷ Open ∷ Open ∷ words) none = absurd (cc)
words_are (Name name ∷ Open ∷ Colon ∷ words) none = absurd (cc)
words_are (Name name ∷ Open ∷ Close ∷ words) none = absurd (cc)
words_are (Name name ∷ Open ∷ Other ∷ words) none = absurd (cc)
words_are (Name name ∷ Open ∷ Number k ∷ []) none = absurd (cc)
words_are (Name name ∷ Open ∷ Number k ∷ Name n ∷ words) none = absurd (cc)
words_are (Name name ∷ Open ∷ Number k ∷ Number m ∷ words) none = absurd (cc)
words_are (Name name ∷ Open ∷ Number k ∷ Comma ∷ words) none = absurd (cc)
words_are (Name name ∷ Open ∷ Number k ∷ Open ∷ words) none = absurd (cc)
words_are (Name name ∷ Open ∷ Number k ∷ Other ∷ words) none = absurd (cc)
words_are (Name name ∷ Open ∷ Number k ∷ Colon ∷ []) none = absurd (cc)
words_are (Name name ∷ Open ∷ Number k ∷ Colon ∷ Name n ∷ words) none = absurd (cc)
words_are (Name name ∷ Open ∷ Number k ∷ Colon ∷ Comma ∷ words) none = absurd (cc)
words_are (Name name ∷ Open ∷ Number k ∷ Colon ∷ Open ∷ words) none = absurd (cc)
words_are (Name name ∷ Open ∷ Number k ∷ Colon ∷ Colon ∷ words) none = absurd (cc)
words_are (Name name ∷ Open ∷ Number k ∷ Colon ∷ Close ∷ words) none = absurd (cc)
words_are (Name name ∷ Open ∷ Number k ∷ Colon ∷ Other ∷ words) none = absurd (cc)
words_are (Name name ∷ Open ∷ Number k ∷ Colon ∷ Number l ∷ []) none = absurd (cc)
words_are (Name name ∷ Open ∷ Number k ∷ Colon ∷ Number l ∷ Name n ∷ words) none = absurd (cc)
words_are (Name name ∷ Open ∷ Number k ∷ Colon ∷ Number l ∷ Number m ∷ words) none = absurd (cc)
words_are (Name name ∷ Open ∷ Number k ∷ Colon ∷ Number l ∷ Comma ∷ words) none = absurd (cc)
words_are (Name name ∷ Open ∷ Number k ∷ Colon ∷ Number l ∷ Open ∷ words) none = absurd (cc)
words_are (Name name ∷ Open ∷ Number k ∷ Colon ∷ Number l ∷ Colon ∷ words) none = absurd (cc)
words_are (Name name ∷ Open ∷ Number k ∷ Colon ∷ Number l ∷ Other ∷ words) none = absurd (cc)
words_are (Number number ∷ words) none = ap (λ ws. Number number ∷ ws) (words_are words none)
words_are (Comma ∷ words) none = ap (λ ws. Comma ∷ ws) (words_are words none)
words_are (Open ∷ words) none = absurd (cc)
words_are (Colon ∷ words) none = absurd (cc)
words_are (Close ∷ words) none = absurd (cc)
words_are (Other ∷ words) none = absurd (cc)

-- what stands after a name
pub bit_is_read : (name : List ℕ) (words : List Word) (k : Option ℕ) → bit_in words ≡ Some k
    → terms_of (Name name ∷ words) ≡ Named (Bit name k) ∷ terms_of (drop 3 words)
bit_is_read name (Open ∷ Number j ∷ Close ∷ words) k is =
    let same : j ≡ k = cc in ap (λ n. Named (Bit name n) ∷ terms_of words) same
bit_is_read name [] k is = absurd (cc)
bit_is_read name (Name n ∷ words) k is = absurd (cc)
bit_is_read name (Number m ∷ words) k is = absurd (cc)
bit_is_read name (Comma ∷ words) k is = absurd (cc)
bit_is_read name (Colon ∷ words) k is = absurd (cc)
bit_is_read name (Close ∷ words) k is = absurd (cc)
bit_is_read name (Other ∷ words) k is = absurd (cc)
bit_is_read name (Open ∷ []) k is = absurd (cc)
bit_is_read name (Open ∷ Name n ∷ words) k is = absurd (cc)
bit_is_read name (Open ∷ Comma ∷ words) k is = absurd (cc)
bit_is_read name (Open ∷ Open ∷ words) k is = absurd (cc)
bit_is_read name (Open ∷ Colon ∷ words) k is = absurd (cc)
bit_is_read name (Open ∷ Close ∷ words) k is = absurd (cc)
bit_is_read name (Open ∷ Other ∷ words) k is = absurd (cc)
bit_is_read name (Open ∷ Number j ∷ []) k is = absurd (cc)
bit_is_read name (Open ∷ Number j ∷ Name n ∷ words) k is = absurd (cc)
bit_is_read name (Open ∷ Number j ∷ Number m ∷ words) k is = absurd (cc)
bit_is_read name (Open ∷ Number j ∷ Comma ∷ words) k is = absurd (cc)
bit_is_read name (Open ∷ Number j ∷ Open ∷ words) k is = absurd (cc)
bit_is_read name (Open ∷ Number j ∷ Colon ∷ words) k is = absurd (cc)
bit_is_read name (Open ∷ Number j ∷ Other ∷ words) k is = absurd (cc)

pub bits_are_read : (name : List ℕ) (words : List Word) (low high : Option ℕ)
    → bits_in words ≡ Some (low, high)
    → terms_of (Name name ∷ words) ≡ Named (Bits name low high) ∷ terms_of (drop 5 words)
bits_are_read name (Open ∷ Number l ∷ Colon ∷ Number h ∷ Close ∷ words) low high is =
    ends name l low h high words (some_is (l, h) (low, high) is)
  where
    some_is : (a b : Option ℕ × Option ℕ) → Some a ≡ Some b → a ≡ b
    some_is a b e = cc

    ends : (name : List ℕ) (l low h high : Option ℕ) (words : List Word)
        → let a : Option ℕ × Option ℕ = (l, h) in let b : Option ℕ × Option ℕ = (low, high) in a ≡ b
        → Named (Bits name l h) ∷ terms_of words ≡ Named (Bits name low high) ∷ terms_of words
    ends name l low h high words e =
        let first : l ≡ low = ap (λ (p : Option ℕ × Option ℕ). p.0) e in
        let second : h ≡ high = ap (λ (p : Option ℕ × Option ℕ). p.1) e in
        rw (first, second) refl
bits_are_read name [] low high is = absurd (cc)
bits_are_read name (Name n ∷ words) low high is = absurd (cc)
bits_are_read name (Number m ∷ words) low high is = absurd (cc)
bits_are_read name (Comma ∷ words) low high is = absurd (cc)
bits_are_read name (Colon ∷ words) low high is = absurd (cc)
bits_are_read name (Close ∷ words) low high is = absurd (cc)
bits_are_read name (Other ∷ words) low high is = absurd (cc)
bits_are_read name (Open ∷ []) low high is = absurd (cc)
bits_are_read name (Open ∷ Name n ∷ words) low high is = absurd (cc)
bits_are_read name (Open ∷ Comma ∷ words) low high is = absurd (cc)
bits_are_read name (Open ∷ Open ∷ words) low high is = absurd (cc)
bits_are_read name (Open ∷ Colon ∷ words) low high is = absurd (cc)
bits_are_read name (Open ∷ Close ∷ words) low high is = absurd (cc)
bits_are_read name (Open ∷ Other ∷ words) low high is = absurd (cc)
bits_are_read name (Open ∷ Number l ∷ []) low high is = absurd (cc)
bits_are_read name (Open ∷ Number l ∷ Name n ∷ words) low high is = absurd (cc)
bits_are_read name (Open ∷ Number l ∷ Number m ∷ words) low high is = absurd (cc)
bits_are_read name (Open ∷ Number l ∷ Comma ∷ words) low high is = absurd (cc)
bits_are_read name (Open ∷ Number l ∷ Open ∷ words) low high is = absurd (cc)
bits_are_read name (Open ∷ Number l ∷ Close ∷ words) low high is = absurd (cc)
bits_are_read name (Open ∷ Number l ∷ Other ∷ words) low high is = absurd (cc)
bits_are_read name (Open ∷ Number l ∷ Colon ∷ []) low high is = absurd (cc)
bits_are_read name (Open ∷ Number l ∷ Colon ∷ Name n ∷ words) low high is = absurd (cc)
bits_are_read name (Open ∷ Number l ∷ Colon ∷ Comma ∷ words) low high is = absurd (cc)
bits_are_read name (Open ∷ Number l ∷ Colon ∷ Open ∷ words) low high is = absurd (cc)
bits_are_read name (Open ∷ Number l ∷ Colon ∷ Colon ∷ words) low high is = absurd (cc)
bits_are_read name (Open ∷ Number l ∷ Colon ∷ Close ∷ words) low high is = absurd (cc)
bits_are_read name (Open ∷ Number l ∷ Colon ∷ Other ∷ words) low high is = absurd (cc)
bits_are_read name (Open ∷ Number l ∷ Colon ∷ Number h ∷ []) low high is = absurd (cc)
bits_are_read name (Open ∷ Number l ∷ Colon ∷ Number h ∷ Name n ∷ words) low high is = absurd (cc)
bits_are_read name (Open ∷ Number l ∷ Colon ∷ Number h ∷ Number m ∷ words) low high is = absurd (cc)
bits_are_read name (Open ∷ Number l ∷ Colon ∷ Number h ∷ Comma ∷ words) low high is = absurd (cc)
bits_are_read name (Open ∷ Number l ∷ Colon ∷ Number h ∷ Open ∷ words) low high is = absurd (cc)
bits_are_read name (Open ∷ Number l ∷ Colon ∷ Number h ∷ Colon ∷ words) low high is = absurd (cc)
bits_are_read name (Open ∷ Number l ∷ Colon ∷ Number h ∷ Other ∷ words) low high is = absurd (cc)

pub name_is_read : (name : List ℕ) (words : List Word) → bit_in words ≡ None
    → bits_in words ≡ None → terms_of (Name name ∷ words) ≡ Named (Whole name) ∷ terms_of words
name_is_read name (Open ∷ Number k ∷ Close ∷ words) one more = absurd (cc)
name_is_read name (Open ∷ Number l ∷ Colon ∷ Number h ∷ Close ∷ words) one more = absurd (cc)
name_is_read name [] one more = refl
name_is_read name (Name n ∷ words) one more = refl
name_is_read name (Number m ∷ words) one more = refl
name_is_read name (Comma ∷ words) one more = refl
name_is_read name (Colon ∷ words) one more = refl
name_is_read name (Close ∷ words) one more = refl
name_is_read name (Other ∷ words) one more = refl
name_is_read name (Open ∷ []) one more = refl
name_is_read name (Open ∷ Name n ∷ words) one more = refl
name_is_read name (Open ∷ Comma ∷ words) one more = refl
name_is_read name (Open ∷ Open ∷ words) one more = refl
name_is_read name (Open ∷ Colon ∷ words) one more = refl
name_is_read name (Open ∷ Close ∷ words) one more = refl
name_is_read name (Open ∷ Other ∷ words) one more = refl
name_is_read name (Open ∷ Number l ∷ []) one more = refl
name_is_read name (Open ∷ Number l ∷ Name n ∷ words) one more = refl
name_is_read name (Open ∷ Number l ∷ Number m ∷ words) one more = refl
name_is_read name (Open ∷ Number l ∷ Comma ∷ words) one more = refl
name_is_read name (Open ∷ Number l ∷ Open ∷ words) one more = refl
name_is_read name (Open ∷ Number l ∷ Other ∷ words) one more = refl
name_is_read name (Open ∷ Number l ∷ Colon ∷ []) one more = refl
name_is_read name (Open ∷ Number l ∷ Colon ∷ Name n ∷ words) one more = refl
name_is_read name (Open ∷ Number l ∷ Colon ∷ Comma ∷ words) one more = refl
name_is_read name (Open ∷ Number l ∷ Colon ∷ Open ∷ words) one more = refl
name_is_read name (Open ∷ Number l ∷ Colon ∷ Colon ∷ words) one more = refl
name_is_read name (Open ∷ Number l ∷ Colon ∷ Close ∷ words) one more = refl
name_is_read name (Open ∷ Number l ∷ Colon ∷ Other ∷ words) one more = refl
name_is_read name (Open ∷ Number l ∷ Colon ∷ Number h ∷ []) one more = refl
name_is_read name (Open ∷ Number l ∷ Colon ∷ Number h ∷ Name n ∷ words) one more = refl
name_is_read name (Open ∷ Number l ∷ Colon ∷ Number h ∷ Number m ∷ words) one more = refl
name_is_read name (Open ∷ Number l ∷ Colon ∷ Number h ∷ Comma ∷ words) one more = refl
name_is_read name (Open ∷ Number l ∷ Colon ∷ Number h ∷ Open ∷ words) one more = refl
name_is_read name (Open ∷ Number l ∷ Colon ∷ Number h ∷ Colon ∷ words) one more = refl
name_is_read name (Open ∷ Number l ∷ Colon ∷ Number h ∷ Other ∷ words) one more = refl

drop_seen : (k : ℕ) (words : List Kept) → drop k (map word_view words) ≡ map word_view (drop k words)
drop_seen zero words = refl
drop_seen (suc k) [] = refl
drop_seen (suc k) (word ∷ words) = drop_seen k words

-- the same of words as they are kept
pub bit_is_kept : (name : List ℕ) (words : List Kept) (k : Option ℕ)
    → bit_in (map word_view words) ≡ Some k
    → terms_of (Name name ∷ map word_view words)
    ≡ Named (Bit name k) ∷ terms_of (map word_view (drop 3 words))
bit_is_kept name words k is = bit_is_read name (map word_view words) k is
    ∙ ap (λ ws. Named (Bit name k) ∷ terms_of ws) (drop_seen 3 words)

pub bits_are_kept : (name : List ℕ) (words : List Kept) (low high : Option ℕ)
    → bits_in (map word_view words) ≡ Some (low, high)
    → terms_of (Name name ∷ map word_view words)
    ≡ Named (Bits name low high) ∷ terms_of (map word_view (drop 5 words))
bits_are_kept name words low high is = bits_are_read name (map word_view words) low high is
    ∙ ap (λ ws. Named (Bits name low high) ∷ terms_of ws) (drop_seen 5 words)

pub name_is_first : (words : List Kept) (name : List ℕ) (place : Written) (k : ℕ) (w : Kept)
    → 0 < length words → get_or words 0 w ≡ w → word_view w ≡ Name name
    → terms_of (Name name ∷ map word_view (take (length words - 1) (drop 1 words)))
    ≡ Named place ∷ terms_of (map word_view (drop k (take (length words - 1) (drop 1 words))))
    → terms_of (map word_view words) ≡ Named place ∷ terms_of (map word_view (drop (1 + k) words))
name_is_first [] name place k w some first is read = absurd (omega (arith, some))
name_is_first (word ∷ words) name place k w some first is read =
    let e : 1 + k ≡ suc k = omega arith in
    let f : suc (length words) - 1 ≡ length words = omega arith in
    rw (first, is, e) (rw (f, take-length words) at read)
