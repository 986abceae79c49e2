-- What is read of an image file is spelled so, and what is spelled so is read.
use Rattle.object_alloc.proofs.Common.{false_from_ne_true, ◌≡◌, ◌≢◌, ℕ, zero, suc, ◌+◌, ◌*◌, ◌^◌}
use Rattle.object_alloc.proofs.Common.{◌<◌, ◌≤◌, true, false, ◌&&◌, leb, List, [], ◌∷◌, ◌++◌}
use Rattle.object_alloc.proofs.Common.{length, drop, get_or, Result, Ok, refl, sym, ap, subst, ◌∙◌}
use Rattle.object_alloc.proofs.Common.{append_assoc, arith, codes, All, w16, w32, to_le_bytes}
use Rattle.object_alloc.proofs.Common.{flat_map, bytes_eq, nat_tests, bytes_eq-Decides, append-nil}
use Rattle.object_alloc.proofs.Common.{length-append, length-map, get_or-map, flat_map-cons}
use Rattle.object_alloc.proofs.Common.{Geometry, is_between, column_count, fits_name, IsBytes}
use Rattle.object_alloc.proofs.Common.{name_bytes, ◌>>=◌, rule, Holds, Holds-then, Holds-front}
use Rattle.object_alloc.proofs.Common.{Holds-back, bind_ok, ok_is, rule_ok, wide16, field_takes}
use Rattle.object_alloc.proofs.Common.{field_again, between_is, name_size}
use Rattle.std.proofs.Common.{eqb, mul-le-mul}
use Rattle.std.proofs.lemmas.Bool.{eqb-true, eq-eqb}
use Rattle.std.proofs.lemmas.List.{get_or_append_left, get_or_at}
use Rattle.std.proofs.lemmas.List.Folds.{list_any_none}
use Rattle.dram_model.specs.Geometry.{fits_size, is_geometry}
use Rattle.file_fields.proofs.Held.{bytes_takes, bytes_again}
use Rattle.file_fields.proofs.Padded.{both, name_short}
use Rattle.object_alloc.specs.declared.fault.ImageKind.TheVariants as kinds
use Rattle.object_alloc.specs.declared.table.Object.{Object}
use Rattle.object_alloc.specs.Free.{end_of, has_row, AreApart}
use Rattle.object_alloc.specs.Listed.{Named, IsTable, objects_of, limit_of}
use Rattle.object_alloc.specs.Spelling.{object_bytes, table_bytes, geometry_bytes, opening_bytes}
use Rattle.object_alloc.specs.Spelling.{IsObject}
use Rattle.object_alloc.specs.Reading.{bytes_at, field_at, object_at, objects_at, table_at}
use Rattle.object_alloc.specs.Reading.{geometry_at, opening_in, rows_size, rows_at}
use Rattle.object_alloc.proofs.Tables.{IsTable-add}
use Rattle.object_alloc.proofs.Least.{AreFree-are}
use Rattle.object_alloc.proofs.Records.{Follows, le_is, is-le, object_takes, object_again}

-- ---- the opening

opening_is : (magic : List ℕ) → bytes_eq magic (codes "SDMI") ≡ true → magic ≡ codes "SDMI"
opening_is magic h = (bytes_eq-Decides magic (codes "SDMI")).0 h

pub opening_takes : (bytes : List ℕ) (x : Unit {0}) → IsBytes bytes → opening_in bytes ≡ Ok x
    → Holds bytes 0 opening_bytes 6
unfolding opening_in
opening_takes bytes x fits e =
    let a = bind_ok (bytes_at 4 0 bytes) (λ magic. rule (bytes_eq magic (codes "SDMI")) 0
    kinds.Magic >>= λ _. field_at w16 (λ version. eqb version 1) kinds.Version 4 bytes >>= λ _.
    Ok tt) x e in
    let b = bind_ok (rule (bytes_eq a.0 (codes "SDMI")) 0 kinds.Magic) (λ _.
    field_at w16 (λ version. eqb version 1) kinds.Version 4 bytes >>= λ _. Ok tt) x a.2 in
    let c = bind_ok (field_at w16 (λ version. eqb version 1) kinds.Version 4 bytes) (λ _.
    Ok tt) x b.2 in
    let magic = bytes_takes kinds.Short 4 0 4 bytes a.0 a.1 refl in
    let version = field_takes kinds.Short w16 (2 ^ 16) (to_le_bytes w16) wide16 (λ v.
    eqb v 1) kinds.Version 4 6
    bytes c.0 fits c.1 refl in
    let same : a.0 ≡ codes "SDMI" = opening_is a.0
    (rule_ok (bytes_eq a.0 (codes "SDMI")) 0 kinds.Magic b.0 b.1) in
    let one : c.0 ≡ 1 = eqb-true _ _ version.2 in
    let first : Holds bytes 0 (codes "SDMI") 4 =
    subst (λ (m : List ℕ). Holds bytes 0 m 4) same magic.0 in
    let second : Holds bytes 4 (to_le_bytes w16 1) 6 =
    subst (λ (v : ℕ). Holds bytes 4 (to_le_bytes w16 v) 6) one version.0 in
    Holds-then bytes 0 (codes "SDMI") 4 (to_le_bytes w16 1) 6 first second

pub opening_again : (bytes : List ℕ) → Holds bytes 0 opening_bytes 6 → opening_in bytes ≡ Ok tt
unfolding opening_in
opening_again bytes h =
    let front = Holds-front bytes 0 (codes "SDMI") 4 (to_le_bytes w16 1) 6 h refl in
    let back = Holds-back bytes 0 (codes "SDMI") 4 (to_le_bytes w16 1) 6 h refl in
    let magic = bytes_again kinds.Short 4 0 4 bytes (codes "SDMI") front refl in
    let version = field_again kinds.Short w16 (2 ^ 16) (to_le_bytes w16) wide16 (λ v.
    eqb v 1) kinds.Version 4 6
    bytes 1 back (omega arith) refl in
    rw (magic, version) refl

-- ---- the geometry

-- a shape that was read stands there in its six bytes, and is one that a chip may have
pub geometry_takes : (at : ℕ) (bytes : List ℕ) (g : Geometry) → IsBytes bytes
    → geometry_at at bytes ≡ Ok g → Holds bytes at (geometry_bytes g) (at + 6)
    × (is_geometry g ≡ true)
unfolding geometry_at
geometry_takes at bytes g fits e =
    let third : ℕ → ℕ → Result ℕ _ = λ banks rows. field_at w16 (λ words. is_between 1 1024 words
    && fits_size (record { banks = banks; rows = rows; words = words })) kinds.Geometry (at + 4)
    bytes in
    let a = bind_ok (field_at w16 (is_between 1 16) kinds.Geometry at bytes)
    (λ banks. field_at w16 (is_between 64 1006) kinds.Geometry (at + 2) bytes >>= λ rows. third
    banks rows >>= λ words. Ok (record { banks = banks; rows = rows; words = words })) g e in
    let b = bind_ok (field_at w16 (is_between 64 1006) kinds.Geometry (at + 2) bytes)
    (λ rows. third a.0 rows >>= λ words. Ok (record {
      banks = a.0;
      rows = rows;
      words = words;
    })) g a.2 in
    let c = bind_ok (third a.0 b.0) (λ words. Ok
    (record { banks = a.0; rows = b.0; words = words })) g b.2 in
    let banks = field_takes kinds.Short w16 (2 ^ 16) (to_le_bytes w16) wide16 (is_between 1 16)
    kinds.Geometry
    at (at + 2) bytes a.0 fits a.1 refl in
    let rows = field_takes kinds.Short w16 (2 ^ 16) (to_le_bytes w16) wide16 (is_between 64 1006)
    kinds.Geometry
    (at + 2) (at + 4) bytes b.0 fits b.1 (omega arith) in
    let words = field_takes kinds.Short w16 (2 ^ 16) (to_le_bytes w16) wide16
    (λ words. is_between 1 1024 words
    && fits_size (record { banks = a.0; rows = b.0; words = words })) kinds.Geometry (at + 4)
    (at + 6) bytes c.0 fits c.1 (omega arith) in
    let made : Geometry = record { banks = a.0; rows = b.0; words = c.0 } in
    let last = both (is_between 1 1024 c.0) (fits_size made) words.2 in
    let two = Holds-then bytes (at + 2) (to_le_bytes w16 b.0) (at + 4) (to_le_bytes w16 c.0) (at
    + 6) rows.0 words.0 in
    let held : Holds bytes at (geometry_bytes made) (at + 6) =
    Holds-then bytes at (to_le_bytes w16 a.0) (at + 2) (to_le_bytes w16 b.0
    ++ to_le_bytes w16 c.0) (at + 6) banks.0 two in
    let is : is_geometry made ≡ true = rw (banks.2, rows.2, last.0, last.1) refl in
    subst (λ (y : Geometry). Holds bytes at (geometry_bytes y) (at + 6)
    × (is_geometry y ≡ true)) (ok_is made g c.2) (held, is)

-- the bounds that a geometry meets
pub record Bounds (g : Geometry) : Type 0 where
  pub banks : is_between 1 16 g.banks ≡ true
  pub rows : is_between 64 1006 g.rows ≡ true
  pub words : is_between 1 1024 g.words ≡ true
  pub size : fits_size g ≡ true

-- the bounds of a shape that a chip may have, one by one
pub bounds_of : (g : Geometry) → is_geometry g ≡ true → Bounds g
bounds_of g h =
    let t = both (is_between 1 16 g.banks && is_between 64 1006 g.rows && is_between 1 1024 g.words)
    (fits_size g) h in
    let u = both (is_between 1 16 g.banks && is_between 64 1006 g.rows) (is_between 1 1024 g.words)
    t.0 in
    let v = both (is_between 1 16 g.banks) (is_between 64 1006 g.rows) u.0 in
    record { banks = v.0; rows = v.1; words = u.1; size = t.1 }

-- a shape that stands there is read
pub geometry_again : (at : ℕ) (bytes : List ℕ) (g : Geometry)
    → Holds bytes at (geometry_bytes g) (at + 6) → is_geometry g ≡ true
    → geometry_at at bytes ≡ Ok g
unfolding geometry_at
geometry_again at bytes g h is =
    let b = bounds_of g is in
    let banks = between_is 1 16 g.banks b.banks in
    let rows = between_is 64 1006 g.rows b.rows in
    let words = between_is 1 1024 g.words b.words in
    let front = Holds-front bytes at (to_le_bytes w16 g.banks) (at + 2) (to_le_bytes w16 g.rows
    ++ to_le_bytes w16 g.words) (at + 6) h refl in
    let back = Holds-back bytes at (to_le_bytes w16 g.banks) (at + 2) (to_le_bytes w16 g.rows
    ++ to_le_bytes w16 g.words) (at + 6) h refl in
    let middle = Holds-front bytes (at + 2) (to_le_bytes w16 g.rows) (at + 4)
    (to_le_bytes w16 g.words) (at + 6) back (omega arith) in
    let last = Holds-back bytes (at + 2) (to_le_bytes w16 g.rows) (at + 4) (to_le_bytes w16 g.words)
    (at + 6) back (omega arith) in
    let one = field_again kinds.Short w16 (2 ^ 16) (to_le_bytes w16) wide16 (is_between 1 16)
    kinds.Geometry at
    (at + 2) bytes g.banks front (omega (arith, banks.1)) b.banks in
    let two = field_again kinds.Short w16 (2 ^ 16) (to_le_bytes w16) wide16 (is_between 64 1006)
    kinds.Geometry
    (at + 2) (at + 4) bytes g.rows middle (omega (arith, rows.1)) b.rows in
    let three = field_again kinds.Short w16 (2 ^ 16) (to_le_bytes w16) wide16
    (λ words. is_between 1 1024 words
    && fits_size (record { banks = g.banks; rows = g.rows; words = words })) kinds.Geometry (at
    + 4) (at + 6) bytes g.words last (omega (arith, words.1)) (rw (b.words, b.size) refl) in
    rw (one, two, three) refl

-- ---- the table

-- a table of objects that an image may have
pub record IsListed (g : Geometry) (table : List Named) : Type 0 where
  pub listed : IsTable (limit_of g) table
  pub names : All (λ named. fits_name named.0 ≡ true) table
  pub objects : All (λ named. IsObject g named.1) table

all_push : (P : Named → Type 0) (xs : List Named) (x : Named) → All P xs → P x
    → All P (xs ++ x ∷ [])
all_push P [] x h p zero d l = p
all_push P [] x h p (suc k) d l = absurd (omega arith)
all_push P (y ∷ xs) x h p zero d l = h 0 d (omega arith)
all_push P (y ∷ xs) x h p (suc k) d l = all_push P xs x (λ j e m. h (suc j) e (omega arith)) p k d
    (omega arith)

pub IsListed-add : (g : Geometry) (earlier : List Named) (named : Named) → IsListed g earlier
    → length earlier < 256 → Follows g earlier named → IsListed g (earlier ++ named ∷ [])
IsListed-add g earlier named t few f = record {
  listed = IsTable-add (limit_of g) earlier named.0 named.1 t.listed few f.new f.object.wide f.free;
  names = all_push (λ n. fits_name n.0 ≡ true) earlier named t.names f.name;
  objects = all_push (λ n. IsObject g n.1) earlier named t.objects f.object;
}

-- these objects, and those that are read after them
pub record Reads (bytes : List ℕ) (g : Geometry) (at n : ℕ) (earlier all : List Named) : Type 0
  where
    pub more : List Named
    pub whole : all ≡ earlier ++ more
    pub count : length more ≡ n
    pub held : Holds bytes at (flat_map object_bytes more) (at + 24 * n)
    pub listed : IsListed g all

pub objects_take : (n : ℕ) (g : Geometry) (earlier : List Named) (at : ℕ) (bytes : List ℕ)
    (all : List Named) → IsBytes bytes → IsListed g earlier → length earlier + n ≤ 256
    → at ≤ length bytes
    → objects_at n g earlier at bytes ≡ Ok all → Reads bytes g at n earlier all
unfolding objects_at
objects_take zero g earlier at bytes all fits t few l e =
    let same : earlier ≡ all = ok_is earlier all e in
    let next : at + 24 * 0 ≡ at = omega arith in
    subst (λ (a : List Named). Reads bytes g at 0 earlier a) same (record {
      more = [];
      whole = sym (append-nil earlier);
      count = refl;
      held = record {
        parts = ap (λ (k : ℕ). drop k bytes) (sym next);
        ends = omega arith;
        within = omega arith;
      };
      listed = t;
    })
objects_take (suc n) g earlier at bytes all fits t few l e =
    let a = bind_ok (object_at g earlier at bytes)
    (λ named. objects_at n g (earlier ++ named ∷ []) (at + 24) bytes) all e in
    let one = object_takes g earlier at bytes a.0 fits a.1 in
    let longer : length (earlier ++ a.0 ∷ []) + n ≤ 256 =
    omega (arith, length-append earlier (a.0 ∷ [])) in
    let rest = objects_take n g (earlier ++ a.0 ∷ []) (at + 24) bytes all fits
    (IsListed-add g earlier a.0 t (omega arith) one.1) longer one.0.within a.2 in
    let to : at + 24 + 24 * n ≡ at + 24 * suc n = omega arith in
    let following : Holds bytes (at + 24) (flat_map object_bytes rest.more) (at + 24 * suc n) =
    subst (λ (k : ℕ). Holds bytes (at + 24) (flat_map object_bytes rest.more) k) to rest.held in
    record {
      more = a.0 ∷ rest.more;
      whole = rest.whole ∙ append_assoc earlier (a.0 ∷ []) rest.more;
      count = ap suc rest.count;
      held = rw flat_map-cons (Holds-then bytes at (object_bytes a.0) (at + 24)
          (flat_map object_bytes rest.more) (at + 24 * suc n) one.0 following);
      listed = rest.listed;
    }

no_listed : (g : Geometry) → IsListed g []
no_listed g = record {
  listed = record {
    few = omega arith;
    within = λ k d l. absurd (omega arith);
    names = λ i j d l m.
        absurd (omega arith);
    rows = λ i j d l m. absurd (omega arith);
  };
  names = λ k d l. absurd (omega arith);
  objects = λ k d l. absurd (omega arith);
}

-- a table that was read stands there, and is one that an image may have
pub table_takes : (g : Geometry) (at : ℕ) (bytes : List ℕ) (table : List Named) → IsBytes bytes
    → table_at g at bytes ≡ Ok table → Holds bytes at (table_bytes table) (at + 2 + 24
    * length table) × IsListed g table
unfolding table_at
table_takes g at bytes table fits e =
    let a = bind_ok (field_at w16 (λ count. leb count 256) kinds.Object at bytes)
    (λ count. objects_at count g [] (at + 2) bytes) table e in
    let count = field_takes kinds.Short w16 (2 ^ 16) (to_le_bytes w16) wide16
    (λ count. leb count 256)
    kinds.Object at (at + 2) bytes a.0 fits a.1 refl in
    let r = objects_take a.0 g [] (at + 2) bytes table fits (no_listed g)
    (omega (arith, le_is a.0 256 count.2)) count.0.within a.2 in
    let len : a.0 ≡ length table = sym (ap length r.whole ∙ r.count) in
    let held : Holds bytes at (to_le_bytes w16 a.0 ++ flat_map object_bytes table) (at + 2 + 24
    * a.0) =
    Holds-then bytes at (to_le_bytes w16 a.0) (at + 2) (flat_map object_bytes table) (at + 2 + 24
    * a.0) count.0
    (subst (λ (t : List Named). Holds bytes (at + 2) (flat_map object_bytes t) (at + 2 + 24 * a.0))
    (sym r.whole) r.held) in (
      subst (λ (n : ℕ). Holds bytes at (to_le_bytes w16 n ++ flat_map object_bytes table) (at + 2
          + 24 * n)) len held,
      r.listed,
    )

-- the objects of a table, each after those before it
not_same : (a b : List ℕ) → a ≢ b → bytes_eq a b ≡ false
not_same a b h = false_from_ne_true (bytes_eq a b) (λ t. h ((bytes_eq-Decides a b).0 t))

follows_of : (g : Geometry) (earlier : List Named) (named : Named) (more : List Named)
    → IsListed g (earlier ++ named ∷ more) → Follows g earlier named
follows_of g earlier named more t =
    let all : List Named = earlier ++ named ∷ more in
    let size : length all ≡ length earlier + suc (length more) =
    length-append earlier (named ∷ more) in
    let last : length earlier < length all = omega arith in
    let here : (d : Named) → get_or all (length earlier) d ≡ named =
    λ d. get_or_at earlier named more d (length earlier) refl in
    let before : (k : ℕ) (d : Named) → k < length earlier → get_or all k d ≡ get_or earlier k d =
    λ k d l. get_or_append_left earlier (named ∷ more) d k l in
    record {
      name = subst (λ (n : Named). fits_name n.0
          ≡ true) (here named) (t.names (length earlier) named last);
      new = list_any_none (λ (p : Named). bytes_eq p.0 named.0) earlier (λ k d l.
          let apart : (get_or all k d).0 ≢ (get_or all (length earlier) d).0 =
          t.listed.names k (length earlier) d l last in
          not_same (get_or earlier k d).0 named.0 (λ e.
          apart (ap (λ (n : Named). n.0) (before k d l) ∙ e
          ∙ ap (λ (n : Named). n.0) (sym (here d)))));
      object = subst (λ (n : Named). IsObject g n.1) (here named)
          (t.objects (length earlier) named last);
      within = subst (λ (n : Named). end_of n.1
          ≤ limit_of g) (here named) (t.listed.within (length earlier) named last);
      free = AreFree-are (limit_of g) (objects_of earlier) named.1.width named.1.base (λ row l m.
          let within : end_of named.1 ≤ limit_of g =
          subst (λ (n : Named). end_of n.1
          ≤ limit_of g) (here named) (t.listed.within (length earlier) named last) in (
            omega arith,
            λ k d j.
                let lies : k < length earlier = simp length-map at j in
                let e : Named = ([], d) in
                let is : get_or (objects_of earlier) k d ≡ (get_or earlier k e).1 =
                get_or-map (λ (p : Named). p.1) earlier k e d lies in
                let apart : AreApart (get_or earlier k e).1 named.1 =
                subst (λ (n : Named). AreApart (get_or earlier k e).1 n.1) (here e)
                (subst (λ (n : Named). AreApart n.1 (get_or all (length earlier) e).1)
                (before k e lies) (t.listed.rows k (length earlier) e lies last)) in
                let has : has_row named.1 row ≡ true = grind (arith, nat_tests) in
                false_from_ne_true (has_row (get_or (objects_of earlier) k d) row) (λ h.
                let not_has : has_row named.1 row ≡ false =
                apart row (ap (λ (o : Object). has_row o row) (sym is) ∙ h) in cc),
          ));
    }

-- the limits of a geometry
pub small_limit : (g : Geometry) → is_geometry g ≡ true → limit_of g < 2 ^ 16
small_limit g is = let r = between_is 64 1006 g.rows (bounds_of g is).rows in omega arith

pub small_count : (g : Geometry) → is_geometry g ≡ true → column_count g * g.banks < 2 ^ 32
small_count g is =
    let b = between_is 1 16 g.banks (bounds_of g is).banks in
    let w = between_is 1 1024 g.words (bounds_of g is).words in
    let columns : 64 * g.words ≤ 65536 = omega arith in
    let most : 64 * g.words * g.banks ≤ 65536 * 16 = mul-le-mul columns b.1 in
    omega arith

object_size : (g : Geometry) (earlier : List Named) (named : Named) → Follows g earlier named
    → length (object_bytes named) ≡ 24
object_size g earlier named f =
    let short = (name_short named.0 f.name).1 in
    omega (
      arith,
      length-append (name_bytes named.0) (named.1.width ∷ to_le_bytes w16 named.1.base
          ++ to_le_bytes w32 named.1.count),
      name_size named.0 f.name,
    )

objects_again : (more : List Named) (g : Geometry) (earlier : List Named) (at : ℕ) (bytes : List ℕ)
    → is_geometry g ≡ true → IsListed g (earlier ++ more)
    → Holds bytes at (flat_map object_bytes more) (at + 24 * length more)
    → objects_at (length more) g earlier at bytes ≡ Ok (earlier ++ more)
unfolding objects_at
objects_again [] g earlier at bytes is t h = ap (λ (x : List Named). Ok x)
    (sym (append-nil earlier))
objects_again (named ∷ more) g earlier at bytes is t h =
    let f = follows_of g earlier named more t in
    let size = object_size g earlier named f in
    let next : at + 24 * length (named ∷ more) ≡ at + 24 + 24 * length more = omega arith in
    let whole : Holds bytes at (object_bytes named ++ flat_map object_bytes more) (at + 24 + 24
    * length more) = subst (λ (k : ℕ). Holds bytes at (object_bytes named
    ++ flat_map object_bytes more) k) next (rw flat_map-cons at h) in
    let front = Holds-front bytes at (object_bytes named) (at + 24) (flat_map object_bytes more) (at
    + 24 + 24 * length more) whole (omega (arith, size)) in
    let back = Holds-back bytes at (object_bytes named) (at + 24) (flat_map object_bytes more) (at
    + 24 + 24 * length more) whole (omega (arith, size)) in
    let first = object_again g earlier at bytes named (small_limit g is) (small_count g is) front f
    in
    let grouped : earlier ++ named ∷ [] ++ more ≡ earlier ++ named ∷ more =
    append_assoc earlier (named ∷ []) more in
    let rest = objects_again more g (earlier ++ named ∷ []) (at + 24) bytes is
    (subst (IsListed g) (sym grouped) t) back in
    rw first (rest ∙ ap (λ (x : List Named). Ok x) grouped)

-- a table that stands there is read
pub table_again : (g : Geometry) (at : ℕ) (bytes : List ℕ) (table : List Named)
    → is_geometry g ≡ true → IsListed g table
    → Holds bytes at (table_bytes table) (at + 2 + 24 * length table)
    → table_at g at bytes ≡ Ok table
unfolding table_at
table_again g at bytes table is t h =
    let front = Holds-front bytes at (to_le_bytes w16 (length table)) (at + 2)
    (flat_map object_bytes table) (at + 2 + 24 * length table) h refl in
    let back = Holds-back bytes at (to_le_bytes w16 (length table)) (at + 2)
    (flat_map object_bytes table) (at + 2 + 24 * length table) h refl in
    let few = t.listed.few in
    let count = field_again kinds.Short w16 (2 ^ 16) (to_le_bytes w16) wide16
    (λ count. leb count 256)
    kinds.Object at (at + 2) bytes (length table) front (omega arith)
    (is-le (length table) 256 few) in
    rw (count, objects_again table g [] (at + 2) bytes is t back) refl

-- ---- the rows

-- the rows of an image are all that is left of the file, and as many as its shape says
pub rows_take : (g : Geometry) (at : ℕ) (bytes rows : List ℕ) → rows_at g at bytes ≡ Ok rows
    → Holds bytes at rows (length bytes) × (length rows ≡ rows_size g)
unfolding rows_at
rows_take g at bytes rows e =
    let a = bind_ok (bytes_at (rows_size g) at bytes) (λ r.
    rule (eqb (length bytes) (at + rows_size g)) (at + rows_size g) kinds.Rest >>= λ _.
    Ok r) rows e in
    let b = bind_ok (rule (eqb (length bytes) (at + rows_size g)) (at + rows_size g) kinds.Rest)
    (λ _. Ok a.0) rows a.2 in
    let whole : length bytes ≡ at + rows_size g =
    eqb-true _ _ (rule_ok (eqb (length bytes) (at + rows_size g)) (at + rows_size g) kinds.Rest
    b.0 b.1) in
    let t = bytes_takes kinds.Short (rows_size g) at (length bytes) bytes a.0 a.1 whole in
    subst (λ (r : List ℕ). Holds bytes at r (length bytes)
    × (length r ≡ rows_size g)) (ok_is a.0 rows b.2) t

pub rows_again : (g : Geometry) (at : ℕ) (bytes rows : List ℕ) → Holds bytes at rows (length bytes)
    → length rows ≡ rows_size g → rows_at g at bytes ≡ Ok rows
unfolding rows_at
rows_again g at bytes rows h size =
    let whole : length bytes ≡ at + rows_size g = h.ends ∙ ap (λ (n : ℕ). at + n) size in
    rw (
      bytes_again kinds.Short (rows_size g) at (length bytes) bytes rows h size,
      eq-eqb _ _ whole,
    ) refl
