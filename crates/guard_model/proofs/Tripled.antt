-- Which tables are three copies of each of some objects, and where the first stranger stands.
use Rattle.guard_model.proofs.Common.{◌≡◌, ℕ, zero, suc, ◌+◌, ◌≤◌, Bool, true, false, not, cond}
use Rattle.guard_model.proofs.Common.{List, [], ◌∷◌, ◌++◌, length, map, drop, Option, Some, None}
use Rattle.guard_model.proofs.Common.{refl, sym, ◌∙◌, ap, subst, arith, fits_name, Named}
use Rattle.guard_model.proofs.Common.{bytes_same, take}
use Rattle.std.proofs.lemmas.Bool.{eq-eqb}
use Rattle.guard_model.specs.Triples.{x_letter, y_letter, z_letter, is_first_name, is_first}
use Rattle.guard_model.specs.Triples.{is_copy, stranger_from, Outline, outline, lettered, in_copies}
use Rattle.guard_model.specs.Triples.{AllNamed, IsTripled, BeginsTripled, IsLongestFront}
use Rattle.guard_model.specs.Laws.{StrangersAreFirst}
use Rattle.guard_model.proofs.Trios.{all_pass, copy_is, first_name, one_none}

-- ---- from tests to outlines, and back

-- the object whose copy under x this is
abbrev guarded_by : Named → Outline
guarded_by x = record { name = drop 1 x.0; width = x.1.width; count = x.1.count }

same_outline : (a b : List ℕ) (v w c d : ℕ) (p q : Outline)
    → p ≡ record { name = a; width = v; count = c }
    → q ≡ record { name = b; width = w; count = d } → a ≡ b → v ≡ w → c ≡ d → p ≡ q
same_outline a b v w c d p q e f g h i = e ∙ rw (g, h, i) (sym f)

first_outline : (x : Named) → is_first x ≡ true → outline x ≡ lettered x_letter (guarded_by x)
first_outline x h = same_outline x.0 (x_letter ∷ drop 1 x.0) x.1.width x.1.width x.1.count
    x.1.count (outline x) (lettered x_letter (guarded_by x)) refl refl (first_name x.0 h).0 refl
    refl

copy_outline : (letter : ℕ) (x p : Named) → is_copy letter x p ≡ true
    → outline p ≡ lettered letter (guarded_by x)
copy_outline letter x p h =
    let c = copy_is letter x p h in
    same_outline p.0 (letter ∷ drop 1 x.0) p.1.width x.1.width p.1.count x.1.count (outline p)
    (lettered letter (guarded_by x)) refl refl c.0 c.1 c.2

abbrev name_in : Outline → List ℕ
name_in o = o.name

abbrev width_in : Outline → ℕ
width_in o = o.width

abbrev count_in : Outline → ℕ
count_in o = o.count

first_again : (x : Named) (o : Outline) → fits_name o.name ≡ true
    → outline x ≡ lettered x_letter o → is_first x ≡ true
first_again x o named e = ap is_first_name (ap name_in e) ∙ named

copy_again : (letter : ℕ) (x p : Named) (o : Outline) → outline x ≡ lettered x_letter o
    → outline p ≡ lettered letter o → is_copy letter x p ≡ true
copy_again letter x p o e f =
    let name : p.0 ≡ letter ∷ drop 1 x.0 =
    ap name_in f ∙ ap (λ (n : List ℕ). letter ∷ drop 1 n) (sym (ap name_in e)) in
    let width : p.1.width ≡ x.1.width = ap width_in f ∙ sym (ap width_in e) in
    let count : p.1.count ≡ x.1.count = ap count_in f ∙ sym (ap count_in e) in
    rw (
      bytes_same p.0 (letter ∷ drop 1 x.0) name,
      eq-eqb p.1.width x.1.width width,
      eq-eqb p.1.count x.1.count count,
    ) refl

-- ---- whole tables

head_is : (a b : Outline) (xs ys : List Outline) → a ∷ xs ≡ b ∷ ys → a ≡ b
head_is a b xs ys e = cc

rest_is : (a b : Outline) (xs ys : List Outline) → a ∷ xs ≡ b ∷ ys → xs ≡ ys
rest_is a b xs ys e = cc

three_same : (a b c d e f : Outline) (xs ys : List Outline) → a ≡ d → b ≡ e → c ≡ f → xs ≡ ys
    → a ∷ b ∷ c ∷ xs ≡ d ∷ e ∷ f ∷ ys
three_same a b c d e f xs ys h i j k = rw (h, i, j, k) refl

tripled : (table : List Named) (k : ℕ) → stranger_from k table ≡ None → IsTripled table
tripled [] k h = record { guarded = []; names = tt; parts = refl }
tripled (x ∷ []) k h = cc
tripled (x ∷ y ∷ []) k h = cc
tripled (x ∷ y ∷ z ∷ rest) k h =
    let a = one_none (is_first x) k _ h in
    let b = one_none (is_copy y_letter x y) (k + 1) _ a.1 in
    let c = one_none (is_copy z_letter x z) (k + 2) _ b.1 in
    let r = tripled rest (k + 3) c.1 in
    record {
      guarded = guarded_by x ∷ r.guarded;
      names = ((first_name x.0 a.0).1, r.names);
      parts = three_same _ _ _ _ _ _ _ _ (first_outline x a.0) (copy_outline y_letter x y b.0)
          (copy_outline z_letter x z c.0) r.parts;
    }

no_stranger : (guarded : List Outline) (table : List Named) (k : ℕ) → AllNamed guarded
    → map outline table ≡ in_copies guarded → stranger_from k table ≡ None
no_stranger [] [] k named e = refl
no_stranger [] (x ∷ table) k named e = absurd (cc)
no_stranger (o ∷ guarded) [] k named e = absurd (cc)
no_stranger (o ∷ guarded) (x ∷ []) k named e = absurd (cc)
no_stranger (o ∷ guarded) (x ∷ y ∷ []) k named e = absurd (cc)
no_stranger (o ∷ guarded) (x ∷ y ∷ z ∷ rest) k named e =
    let first = head_is _ _ _ _ e in
    let after = rest_is _ _ _ _ e in
    let second = head_is _ _ _ _ after in
    let later = rest_is _ _ _ _ after in
    let third = head_is _ _ _ _ later in
    all_pass (is_first x) (is_copy y_letter x y) (is_copy z_letter x z) k (k + 1) (k + 2) _
    (first_again x o named.0 first) (copy_again y_letter x y o first second)
    (copy_again z_letter x z o first third)
    (no_stranger guarded rest (k + 3) named.1 (rest_is _ _ _ _ later))

-- ---- what begins such copies

begins_first : (x : Named) (rest : List Named) (guarded more : List Outline) → AllNamed guarded
    → map outline (x ∷ rest) ++ more ≡ in_copies guarded → is_first x ≡ true
begins_first x rest [] more named e = absurd (cc)
begins_first x rest (o ∷ guarded) more named e = first_again x o named.0 (head_is _ _ _ _ e)

begins_second : (x y : Named) (rest : List Named) (guarded more : List Outline)
    → map outline (x ∷ y ∷ rest) ++ more ≡ in_copies guarded → is_copy y_letter x y ≡ true
begins_second x y rest [] more e = absurd (cc)
begins_second x y rest (o ∷ guarded) more e =
    copy_again y_letter x y o (head_is _ _ _ _ e) (head_is _ _ _ _ (rest_is _ _ _ _ e))

begins_third : (x y z : Named) (rest : List Named) (guarded more : List Outline)
    → map outline (x ∷ y ∷ z ∷ rest) ++ more ≡ in_copies guarded → is_copy z_letter x z ≡ true
begins_third x y z rest [] more e = absurd (cc)
begins_third x y z rest (o ∷ guarded) more e =
    copy_again z_letter x z o (head_is _ _ _ _ e)
    (head_is _ _ _ _ (rest_is _ _ _ _ (rest_is _ _ _ _ e)))

begins_after : (x y z : Named) (rest : List Named) (guarded more : List Outline)
    → AllNamed guarded → map outline (x ∷ y ∷ z ∷ rest) ++ more ≡ in_copies guarded
    → BeginsTripled rest
begins_after x y z rest [] more named e = absurd (cc)
begins_after x y z rest (o ∷ guarded) more named e = record {
  guarded = guarded;
  names = named.1;
  more = more;
  parts = rest_is _ _ _ _ (rest_is _ _ _ _ (rest_is _ _ _ _ e));
}

begins_none : BeginsTripled []
begins_none = record { guarded = []; names = tt; more = []; parts = refl }

begins_one : (x : Named) → is_first x ≡ true → BeginsTripled (x ∷ [])
begins_one x a =
    let o = guarded_by x in
    record {
      guarded = o ∷ [];
      names = ((first_name x.0 a).1, tt);
      more = lettered y_letter o ∷ lettered z_letter o ∷ [];
      parts = three_same _ _ _ _ _ _ _ _ (first_outline x a) refl refl refl;
    }

begins_two : (x y : Named) → is_first x ≡ true → is_copy y_letter x y ≡ true
    → BeginsTripled (x ∷ y ∷ [])
begins_two x y a b =
    let o = guarded_by x in
    record {
      guarded = o ∷ [];
      names = ((first_name x.0 a).1, tt);
      more = lettered z_letter o ∷ [];
      parts = three_same _ _ _ _ _ _ _ _ (first_outline x a) (copy_outline y_letter x y b) refl
          refl;
    }

begins_three : (x y z : Named) (rest : List Named) → is_first x ≡ true
    → is_copy y_letter x y ≡ true → is_copy z_letter x z ≡ true → BeginsTripled rest
    → BeginsTripled (x ∷ y ∷ z ∷ rest)
begins_three x y z rest a b c r = record {
  guarded = guarded_by x ∷ r.guarded;
  names = ((first_name x.0 a).1, r.names);
  more = r.more;
  parts = three_same _ _ _ _ _ _ _ _ (first_outline x a) (copy_outline y_letter x y b)
      (copy_outline z_letter x z c) r.parts;
}

-- ---- the longest front

no_longer : (x : Named) (rest : List Named) → is_first x ≡ false → (n : ℕ)
    → BeginsTripled (take n (x ∷ rest)) → n ≤ 0
no_longer x rest a zero b = omega arith
no_longer x rest a (suc n) b =
    let first = begins_first x (take n rest) b.guarded b.more b.names b.parts in absurd (cc)

front_none : (x : Named) (rest : List Named) → is_first x ≡ false → IsLongestFront (x ∷ rest) 0
front_none x rest a = record {
  within = omega arith;
  begins = begins_none;
  longest = λ n l b. no_longer x rest a n b;
}

one_longer : (x y : Named) (rest : List Named) → is_copy y_letter x y ≡ false → (n : ℕ)
    → BeginsTripled (take n (x ∷ y ∷ rest)) → n ≤ 1
one_longer x y rest a zero b = omega arith
one_longer x y rest a (suc zero) b = omega arith
one_longer x y rest a (suc (suc n)) b =
    let second = begins_second x y (take n rest) b.guarded b.more b.parts in absurd (cc)

front_one : (x y : Named) (rest : List Named) → is_first x ≡ true → is_copy y_letter x y ≡ false
    → IsLongestFront (x ∷ y ∷ rest) 1
front_one x y rest a b = record {
  within = omega arith;
  begins = begins_one x a;
  longest = λ n l h. one_longer x y rest b n h;
}

front_alone : (x : Named) → is_first x ≡ true → IsLongestFront (x ∷ []) 1
front_alone x a = record {
  within = omega arith;
  begins = begins_one x a;
  longest = λ n l h. l;
}

front_pair : (x y : Named) → is_first x ≡ true → is_copy y_letter x y ≡ true
    → IsLongestFront (x ∷ y ∷ []) 2
front_pair x y a b = record {
  within = omega arith;
  begins = begins_two x y a b;
  longest = λ n l h. l;
}

two_longer : (x y z : Named) (rest : List Named) → is_copy z_letter x z ≡ false → (n : ℕ)
    → BeginsTripled (take n (x ∷ y ∷ z ∷ rest)) → n ≤ 2
two_longer x y z rest a zero b = omega arith
two_longer x y z rest a (suc zero) b = omega arith
two_longer x y z rest a (suc (suc zero)) b = omega arith
two_longer x y z rest a (suc (suc (suc n))) b =
    let third = begins_third x y z (take n rest) b.guarded b.more b.parts in absurd (cc)

front_two : (x y z : Named) (rest : List Named) → is_first x ≡ true
    → is_copy y_letter x y ≡ true → is_copy z_letter x z ≡ false
    → IsLongestFront (x ∷ y ∷ z ∷ rest) 2
front_two x y z rest a b c = record {
  within = omega arith;
  begins = begins_two x y a b;
  longest = λ n l h. two_longer x y z rest c n h;
}

three_longer : (x y z : Named) (rest : List Named) (k : ℕ) → IsLongestFront rest k → (n : ℕ)
    → n ≤ length (x ∷ y ∷ z ∷ rest) → BeginsTripled (take n (x ∷ y ∷ z ∷ rest))
    → n ≤ suc (suc (suc k))
three_longer x y z rest k f zero l b = omega arith
three_longer x y z rest k f (suc zero) l b = omega arith
three_longer x y z rest k f (suc (suc zero)) l b = omega arith
three_longer x y z rest k f (suc (suc (suc n))) l b =
    let shorter : n ≤ length rest = omega (arith, l) in
    let more = f.longest n shorter
    (begins_after x y z (take n rest) b.guarded b.more b.names b.parts) in
    omega (arith, more)

front_three : (x y z : Named) (rest : List Named) (k : ℕ) → is_first x ≡ true
    → is_copy y_letter x y ≡ true → is_copy z_letter x z ≡ true → IsLongestFront rest k
    → IsLongestFront (x ∷ y ∷ z ∷ rest) (suc (suc (suc k)))
front_three x y z rest k a b c f =
    let within = f.within in
    record {
      within = omega (arith, within);
      begins = begins_three x y z (take k rest) a b c f.begins;
      longest = λ n l h. three_longer x y z rest k f n l h;
    }

-- a stranger's number, where the table's first has number k
record Front (table : List Named) (k m : ℕ) : Type 0 where
  size : ℕ
  place : m ≡ k + size
  longest : IsLongestFront table size

number_is : (a b : ℕ) → Some a ≡ Some b → b ≡ a
number_is a b e = cc

alone_case : (x : Named) (k m : ℕ) (a : Bool) → is_first x ≡ a → Some (cond a (k + 1) k) ≡ Some m
    → Front (x ∷ []) k m
alone_case x k m true a h =
    record { size = 1; place = number_is (k + 1) m h; longest = front_alone x a }
alone_case x k m false a h =
    let p = number_is k m h in
    record { size = 0; place = omega (arith, p); longest = front_none x [] a }

pair_case : (x y : Named) (k m : ℕ) (a b : Bool) → is_first x ≡ a → is_copy y_letter x y ≡ b
    → Some (cond (not a) k (cond (not b) (k + 1) (k + 2))) ≡ Some m → Front (x ∷ y ∷ []) k m
pair_case x y k m false b e f h =
    let p = number_is k m h in
    record { size = 0; place = omega (arith, p); longest = front_none x (y ∷ []) e }
pair_case x y k m true false e f h =
    record { size = 1; place = number_is (k + 1) m h; longest = front_one x y [] e f }
pair_case x y k m true true e f h =
    record { size = 2; place = number_is (k + 2) m h; longest = front_pair x y e f }

three_case : (x y z : Named) (rest : List Named) (k m : ℕ) (later : Option ℕ) (a b c : Bool)
    → is_first x ≡ a → is_copy y_letter x y ≡ b → is_copy z_letter x z ≡ c
    → cond (not a) (Some k) (cond (not b) (Some (k + 1)) (cond (not c) (Some (k + 2)) later))
    ≡ Some m → (later ≡ Some m → Front rest (k + 3) m) → Front (x ∷ y ∷ z ∷ rest) k m
three_case x y z rest k m later false b c e f g h go =
    let p = number_is k m h in
    record { size = 0; place = omega (arith, p); longest = front_none x (y ∷ z ∷ rest) e }
three_case x y z rest k m later true false c e f g h go =
    record { size = 1; place = number_is (k + 1) m h; longest = front_one x y (z ∷ rest) e f }
three_case x y z rest k m later true true false e f g h go =
    record { size = 2; place = number_is (k + 2) m h; longest = front_two x y z rest e f g }
three_case x y z rest k m later true true true e f g h go =
    let r = go h in
    let place = r.place in
    record {
      size = suc (suc (suc r.size));
      place = omega (arith, place);
      longest = front_three x y z rest r.size e f g r.longest;
    }

front : (table : List Named) (k m : ℕ) → stranger_from k table ≡ Some m → Front table k m
front [] k m h = absurd (cc)
front (x ∷ []) k m h = alone_case x k m (is_first x) refl h
front (x ∷ y ∷ []) k m h = pair_case x y k m (is_first x) (is_copy y_letter x y) refl refl h
front (x ∷ y ∷ z ∷ rest) k m h =
    three_case x y z rest k m (stranger_from (k + 3) rest) (is_first x) (is_copy y_letter x y)
    (is_copy z_letter x z) refl refl refl h (λ e. front rest (k + 3) m e)

longest_front : (table : List Named) (k : ℕ) → stranger_from 0 table ≡ Some k
    → IsLongestFront table k
longest_front table k h =
    let f = front table 0 k h in
    let place = f.place in
    let same : f.size ≡ k = omega (arith, place) in
    subst (IsLongestFront table) same f.longest

pub strangers_are_first : StrangersAreFirst
strangers_are_first = record {
  none = λ table. (
    λ h. tripled table 0 h,
    λ t. no_stranger t.guarded table 0 t.names t.parts,
  );
  some = longest_front;
}
