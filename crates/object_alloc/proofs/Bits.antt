-- The bits of words and of their bytes.
use Rattle.object_alloc.proofs.Common.{◌≡◌, ℕ, zero, suc, ◌+◌, ◌-◌, ◌*◌, ◌/◌, ◌%◌, ◌^◌, ◌<◌, ◌==◌}
use Rattle.object_alloc.proofs.Common.{Bool, List, [], ◌∷◌, ◌++◌, length, take, drop, refl, sym, ap}
use Rattle.object_alloc.proofs.Common.{◌∙◌, arith, flat_map, to_le_bytes, pow-succ'}
use Rattle.object_alloc.proofs.Common.{flat_map-append, append-nil, length-append, bits}
use Rattle.object_alloc.proofs.Common.{bits_of_words, IsBytes}
use Rattle.std.proofs.Common.{set, All}
use Rattle.std.specs.Int.{w64, from_le_bytes}
use Rattle.std.proofs.Math.Nat.{mul_assoc}
use Rattle.std.proofs.lemmas.List.{take_more_set}
use Rattle.std.proofs.lemmas.Nat.{from_le_bytes-to_le_bytes_8}
use Rattle.object_alloc.specs.Bytes.{bits_of_bytes, bytes_of_bits}
use Rattle.object_alloc.proofs.Pieces.{take-add}
use Rattle.object_alloc.proofs.Rows.{bytes-bits}

-- low bits, and high bits after them
bits-join : (m n b v : ℕ) → b < 2 ^ m → bits (b + 2 ^ m * v) (m + n) ≡ bits b m ++ bits v n
unfolding bits
bits-join zero n b v l =
    let none : b + 2 ^ 0 * v ≡ v = omega arith in
    let count : 0 + n ≡ n = omega arith in
    ap (λ (x : ℕ). bits x (0 + n)) none ∙ ap (bits v) count
bits-join (suc m) n b v l =
    let double : 2 ^ suc m * v ≡ 2 * (2 ^ m * v) = ap (λ (p : ℕ). p * v) (pow-succ' 2 m)
    ∙ mul_assoc 2 (2 ^ m) v in
    let whole : b + 2 ^ suc m * v ≡ b + 2 * (2 ^ m * v) = ap (λ (p : ℕ). b + p) double in
    let low : (b + 2 * (2 ^ m * v)) % 2 ≡ b % 2 = omega arith in
    let half : (b + 2 * (2 ^ m * v)) / 2 ≡ b / 2 + 2 ^ m * v = omega arith in
    let small : b / 2 < 2 ^ m = omega (arith, pow-succ' 2 m) in
    let count : suc m + n ≡ suc (m + n) = omega arith in
    let step : (x : ℕ) → bits x (suc (m + n)) ≡ (x % 2 == 1) ∷ bits (x / 2) (m + n) = λ x. refl in
    ap (λ (x : ℕ). bits x (suc m + n)) whole ∙ ap (bits (b + 2 * (2 ^ m * v))) count
    ∙ step (b + 2 * (2 ^ m * v))
    ∙ ap (λ (r : ℕ). (r == 1) ∷ bits ((b + 2 * (2 ^ m * v)) / 2) (m + n)) low
    ∙ ap (λ (x : ℕ). (b % 2 == 1) ∷ bits x (m + n)) half
    ∙ ap (λ (xs : List Bool). (b % 2 == 1) ∷ xs) (bits-join m n (b / 2) v small)

byte_and : (b v n : ℕ) → b < 256 → bits (b + 256 * v) (8 + n) ≡ bits b 8 ++ bits v n
byte_and b v n l = bits-join 8 n b v l

no_bits : bits 0 0 ≡ []
unfolding bits
no_bits = refl

-- the bits of a word are those of its bytes
eight_bytes : (a b c d e f g h : ℕ) → IsBytes (a ∷ b ∷ c ∷ d ∷ e ∷ f ∷ g ∷ h ∷ [])
    → bits (from_le_bytes w64 (a ∷ b ∷ c ∷ d ∷ e ∷ f ∷ g ∷ h ∷ [])) 64
    ≡ bits_of_bytes (a ∷ b ∷ c ∷ d ∷ e ∷ f ∷ g ∷ h ∷ [])
eight_bytes a b c d e f g h fits =
    let v7 : ℕ = h + 256 * 0 in
    let v6 : ℕ = g + 256 * (h + 256 * 0) in
    let v5 : ℕ = f + 256 * (g + 256 * (h + 256 * 0)) in
    let v4 : ℕ = e + 256 * (f + 256 * (g + 256 * (h + 256 * 0))) in
    let v3 : ℕ = d + 256 * (e + 256 * (f + 256 * (g + 256 * (h + 256 * 0)))) in
    let v2 : ℕ = c + 256 * (d + 256 * (e + 256 * (f + 256 * (g + 256 * (h + 256 * 0))))) in
    let v1 : ℕ = b + 256 * (c + 256 * (d + 256 * (e + 256 * (f + 256 * (g + 256 * (h + 256 * 0))))))
    in
    let horner : from_le_bytes w64 (a ∷ b ∷ c ∷ d ∷ e ∷ f ∷ g ∷ h ∷ [])
    ≡ a + 256
    * (b + 256 * (c + 256 * (d + 256 * (e + 256 * (f + 256 * (g + 256 * (h + 256 * 0))))))) =
    omega arith in
    let nothing : bits 0 0 ≡ [] = no_bits in
    ap (λ (x : ℕ). bits x 64) horner
    ∙ byte_and a v1 56 (fits 0) ∙ ap (λ (xs : List Bool). bits a 8 ++ xs) (byte_and b v2 48 (fits 1)
    ∙ ap (λ (xs : List Bool). bits b 8 ++ xs) (byte_and c v3 40 (fits 2)
    ∙ ap (λ (xs : List Bool). bits c 8 ++ xs) (byte_and d v4 32 (fits 3)
    ∙ ap (λ (xs : List Bool). bits d 8 ++ xs) (byte_and e v5 24 (fits 4)
    ∙ ap (λ (xs : List Bool). bits e 8 ++ xs) (byte_and f v6 16 (fits 5)
    ∙ ap (λ (xs : List Bool). bits f 8 ++ xs) (byte_and g v7 8 (fits 6)
    ∙ ap (λ (xs : List Bool). bits g 8 ++ xs) (byte_and h 0 0 (fits 7)
    ∙ ap (λ (xs : List Bool). bits h 8 ++ xs) nothing)))))))

pub word-bytes : (bytes : List ℕ) → length bytes ≡ 8 → IsBytes bytes
    → bits (from_le_bytes w64 bytes) 64 ≡ bits_of_bytes bytes
word-bytes [] e fits = absurd (omega arith)
word-bytes (a ∷ []) e fits = absurd (omega arith)
word-bytes (a ∷ b ∷ []) e fits = absurd (omega arith)
word-bytes (a ∷ b ∷ c ∷ []) e fits = absurd (omega arith)
word-bytes (a ∷ b ∷ c ∷ d ∷ []) e fits = absurd (omega arith)
word-bytes (a ∷ b ∷ c ∷ d ∷ f ∷ []) e fits = absurd (omega arith)
word-bytes (a ∷ b ∷ c ∷ d ∷ f ∷ g ∷ []) e fits = absurd (omega arith)
word-bytes (a ∷ b ∷ c ∷ d ∷ f ∷ g ∷ h ∷ []) e fits = absurd (omega arith)
word-bytes (a ∷ b ∷ c ∷ d ∷ f ∷ g ∷ h ∷ i ∷ []) e fits = eight_bytes a b c d f g h i fits
word-bytes (a ∷ b ∷ c ∷ d ∷ f ∷ g ∷ h ∷ i ∷ j ∷ more) e fits = absurd (omega arith)

-- the bytes of a list of words
abbrev pub word_list_bytes : List ℕ → List ℕ
word_list_bytes words = flat_map (to_le_bytes w64) words

bytes_are : (w : ℕ) → IsBytes (to_le_bytes w64 w)
bytes_are w zero = omega arith
bytes_are w (suc zero) = omega arith
bytes_are w (suc (suc zero)) = omega arith
bytes_are w (suc (suc (suc zero))) = omega arith
bytes_are w (suc (suc (suc (suc zero)))) = omega arith
bytes_are w (suc (suc (suc (suc (suc zero))))) = omega arith
bytes_are w (suc (suc (suc (suc (suc (suc zero)))))) = omega arith
bytes_are w (suc (suc (suc (suc (suc (suc (suc zero))))))) = omega arith
bytes_are w (suc (suc (suc (suc (suc (suc (suc (suc i)))))))) = omega arith

words-bytes : (words : List ℕ) → All (λ w. w < 2 ^ 64) words
    → bits_of_words words ≡ bits_of_bytes (word_list_bytes words)
words-bytes [] h = refl
words-bytes (w ∷ words) h =
    let small : w < 2 ^ 64 = h 0 w (omega arith) in
    let again : from_le_bytes w64 (to_le_bytes w64 w) ≡ w = from_le_bytes-to_le_bytes_8 w small in
    let one : bits w 64 ≡ bits_of_bytes (to_le_bytes w64 w) = ap (λ (x : ℕ). bits x 64) (sym again)
    ∙ word-bytes (to_le_bytes w64 w) refl (bytes_are w) in
    ap (λ (xs : List Bool). xs ++ bits_of_words words) one
    ∙ ap (λ (xs : List Bool). bits_of_bytes (to_le_bytes w64 w)
    ++ xs) (words-bytes words (λ k d l. h (suc k) d (omega arith)))
    ∙ sym (flat_map-append (λ byte. bits byte 8) (to_le_bytes w64 w) (word_list_bytes words))

length-word_list_bytes : (words : List ℕ) → length (word_list_bytes words) ≡ 8 * length words
length-word_list_bytes [] = refl
length-word_list_bytes (w ∷ words) = omega (
  arith,
  length-append (to_le_bytes w64 w) (word_list_bytes words),
  length-word_list_bytes words,
)

IsBytes-append : (xs ys : List ℕ) → IsBytes xs → IsBytes ys → IsBytes (xs ++ ys)
IsBytes-append [] ys h g i = g i
IsBytes-append (x ∷ xs) ys h g zero = h 0
IsBytes-append (x ∷ xs) ys h g (suc i) = IsBytes-append xs ys (λ k. h (suc k)) g i

words_are_bytes : (words : List ℕ) → IsBytes (word_list_bytes words)
words_are_bytes [] i = omega arith
words_are_bytes (w ∷ words) i = IsBytes-append (to_le_bytes w64 w) (word_list_bytes words)
    (bytes_are w) (words_are_bytes words) i

-- the bytes of words, as those of their bits
pub bytes-words : (words : List ℕ) → All (λ w. w < 2 ^ 64) words
    → bytes_of_bits (8 * length words) (bits_of_words words) ≡ word_list_bytes words
bytes-words words h =
    ap (bytes_of_bits (8 * length words)) (words-bytes words h)
    ∙ bytes-bits (8 * length words) (word_list_bytes words) (words_are_bytes words)
    (length-word_list_bytes words)

-- a word more
pub words_more : (bytes words : List ℕ) (i word : ℕ) → i < length words
    → bits word 64 ≡ bits_of_bytes (take (8 * i + 8 - 8 * i) (drop (8 * i) bytes))
    → bits_of_words (take i words) ≡ bits_of_bytes (take (8 * i) bytes)
    → bits_of_words (take (i + 1) (set words i word)) ≡ bits_of_bytes (take (8 * (i + 1)) bytes)
words_more bytes words i word l e so_far =
    let size : 8 * i + 8 - 8 * i ≡ 8 = omega arith in
    let next : 8 * (i + 1) ≡ 8 * i + 8 = omega arith in
    let one : bits word 64 ≡ bits_of_bytes (take 8 (drop (8 * i) bytes)) =
    e ∙ ap (λ (n : ℕ). bits_of_bytes (take n (drop (8 * i) bytes))) size in
    ap bits_of_words (take_more_set words i word l)
    ∙ flat_map-append (λ w. bits w 64) (take i words) (word ∷ [])
    ∙ ap (λ (xs : List Bool). bits_of_words (take i words) ++ xs) (append-nil (bits word 64) ∙ one)
    ∙ ap (λ (xs : List Bool). xs ++ bits_of_bytes (take 8 (drop (8 * i) bytes))) so_far
    ∙ sym (flat_map-append (λ byte. bits byte 8) (take (8 * i) bytes) (take 8 (drop (8 * i) bytes)))
    ∙ ap bits_of_bytes (sym (take-add (8 * i) 8 bytes) ∙ ap (λ (n : ℕ). take n bytes) (sym next))
