-- Digits and the bytes that they spell.
use Rattle.std.proofs.Common.{◌≡◌, Bool, MatchBool, ◌≤◌, ◌-◌, append-nil, append_assoc, set, true, false, ℕ, zero, suc, ◌+◌, ◌*◌, ◌/◌, ◌%◌, ◌<◌, List, [], ◌∷◌, ◌++◌, length, get_or, take, drop, sym, refl, ap, ◌∙◌, subst, arith}
use Rattle.std.specs.List.{flat_map}
use Rattle.std.specs.Simd.{first_chunks}
use Rattle.std.proofs.lemmas.Bool.Decides.{nat_tests}
use Rattle.std.proofs.lemmas.List.Concat.{flat_map-append}
use Rattle.std.proofs.lemmas.List.{take-append-drop, length-drop, take_more, take_more_set}
use Rattle.std.proofs.ByRecursion.{All-push}
use Rattle.cipher.specs.declared.block.Block.{Block}
use Rattle.cipher.specs.Bytes.{Bytes, bytes_of}
use Rattle.hex_digits.specs.Digits.{digit_of, spelled, Unspelt}
use Rattle.hex_digits.specs.Worth.{IsDigit, NoDigit, NoByte, IsByte}

pub length-spelled : (bs : List ℕ) → length (spelled bs) ≡ 2 * length bs
unfolding spelled
length-spelled [] = refl
length-spelled (b ∷ bs) = let h = length-spelled bs in omega arith

pub spelled-append : (xs ys : List ℕ) → spelled (xs ++ ys) ≡ spelled xs ++ spelled ys
unfolding spelled
spelled-append [] ys = refl
spelled-append (x ∷ xs) ys = ap (λ zs. digit_of (x / 16) ∷ digit_of (x % 16) ∷ zs) (spelled-append xs ys)

two : (xs : List ℕ) → length xs ≡ 2 → xs ≡ get_or xs 0 0 ∷ get_or xs 1 0 ∷ []
two [] h = absurd (omega (arith, h))
two (x ∷ []) h = absurd (omega (arith, h))
two (x ∷ y ∷ []) h = refl
two (x ∷ y ∷ z ∷ xs) h = absurd (omega (arith, h))

-- no byte where the higher digit is none, nor where the lower is none
pub no_high : (xs : List ℕ) → length xs ≡ 2 → NoDigit (get_or xs 0 0) → NoByte xs
unfolding spelled
no_high xs l n b h s = n (b / 16) (omega (arith, h)) (ap (λ ys. get_or ys 0 0) s)

pub no_low : (xs : List ℕ) → length xs ≡ 2 → NoDigit (get_or xs 1 0) → NoByte xs
unfolding spelled
no_low xs l n b h s = n (b % 16) (omega arith) (ap (λ ys. get_or ys 1 0) s)

-- the byte of two numbers below 16 has their digits
pub byte_back : (xs : List ℕ) (p q : ℕ) → length xs ≡ 2 → p < 16 → q < 16 → digit_of p ≡ get_or xs 0 0 → digit_of q ≡ get_or xs 1 0
    → spelled ((p * 16 + q) ∷ []) ≡ xs
unfolding spelled
byte_back xs p q l h k d e =
    let u : (p * 16 + q) / 16 ≡ p = omega (arith, h, k) in
    let v : (p * 16 + q) % 16 ≡ q = omega (arith, h, k) in
    ap (λ x. digit_of x ∷ digit_of ((p * 16 + q) % 16) ∷ []) u ∙ ap (λ x. digit_of p ∷ digit_of x ∷ []) v
    ∙ ap (λ x. x ∷ digit_of q ∷ []) d ∙ ap (λ x. get_or xs 0 0 ∷ x ∷ []) e ∙ sym (two xs l)

-- the pairs of digits, joined again
pub flat_pairs : (n : ℕ) (ds : List ℕ) → length ds ≡ 2 * n → flat_map (λ x. x) (first_chunks 2 n ds) ≡ ds
flat_pairs zero [] h = refl
flat_pairs zero (d ∷ ds) h = absurd (omega (arith, h))
flat_pairs (suc n) ds h =
    ap (λ xs. take 2 ds ++ xs) (flat_pairs n (drop 2 ds) (omega (arith, h, length-drop 2 ds))) ∙ take-append-drop 2 ds

-- of what is spelled each pair is a byte's
pair_spelled : (bs : List ℕ) (k : ℕ) → k < length bs → get_or (first_chunks 2 (length bs) (spelled bs)) k [] ≡ spelled (get_or bs k 0 ∷ [])
unfolding spelled
pair_spelled [] k h = absurd (omega (arith, h))
pair_spelled (b ∷ bs) zero h = refl
pair_spelled (b ∷ bs) (suc k) h = pair_spelled bs k (omega (arith, h))

bytes_at : (bs : List ℕ) → Bytes bs → (k : ℕ) → k < length bs → get_or bs k 0 < 256
bytes_at [] h k l = absurd (omega (arith, l))
bytes_at (b ∷ bs) h zero l = h.0
bytes_at (b ∷ bs) h (suc k) l = bytes_at bs h.1 k (omega (arith, l))

-- where some pair is no byte's nothing is spelled so
pub unspelt_pair : (n : ℕ) (ds : List ℕ) (ps : List (List ℕ)) (k : ℕ) → ps ≡ first_chunks 2 (length ds / 2) ds → length ds / 2 ≡ n → k < n
    → NoByte (get_or ps k []) → Unspelt n ds
unspelt_pair n ds ps k c m h none bs all e s =
    let l : k < length bs = omega (arith, h, e) in
    let p : get_or (first_chunks 2 (length bs) (spelled bs)) k [] ≡ get_or ps k [] =
    ap (λ m. get_or (first_chunks 2 m (spelled bs)) k []) (e ∙ sym m) ∙ ap (λ xs. get_or (first_chunks 2 (length ds / 2) xs) k []) s
    ∙ ap (λ xs. get_or xs k []) (sym c) in
    none (get_or bs k 0) (bytes_at bs all k l) (sym (pair_spelled bs k l) ∙ p)

-- nor where there are not two digits to a byte
pub unspelt_length : (n : ℕ) (ds : List ℕ) → (length ds ≡ 2 * n → ⊥) → Unspelt n ds
unspelt_length n ds d bs h e s = d (sym (ap length s) ∙ length-spelled bs ∙ ap (λ m. 2 * m) e)

-- a block's bytes are bytes
pub bytes_of-bytes : (b : Block) → Bytes (bytes_of b)
bytes_of-bytes b =
    (omega arith, (omega arith, (omega arith, (omega arith, (omega arith, (omega arith, (omega arith, (omega arith, tt))))))))

-- one byte more at the end
pub spelled-more : (bs : List ℕ) (i : ℕ) → i < length bs → spelled (take (i + 1) bs) ≡ spelled (take i bs) ++ spelled (get_or bs i 0 ∷ [])
spelled-more bs i h = ap spelled (take_more bs i 0 h) ∙ spelled-append (take i bs) (get_or bs i 0 ∷ [])

pub digit_ascii : (d : ℕ) → d < 16 → digit_of d < 128
digit_ascii d h = grind (arith, nat_tests)

-- two digits are a byte's, and a byte's are two digits
pub pair_byte : (xs : List ℕ) → length xs ≡ 2 → IsDigit (get_or xs 0 0) → IsDigit (get_or xs 1 0) → IsByte xs
pair_byte xs l p q = (p.0 * 16 + q.0, omega (arith, p.1, q.1), byte_back xs p.0 q.0 l p.1 q.1 p.2 q.2)

pub pair_bytes : (r : Bool) (xs : List ℕ) → length xs ≡ 2 → IsDigit (get_or xs 0 0) → MatchBool r (IsDigit (get_or xs 1 0)) (NoDigit (get_or xs 1 0))
    → MatchBool r (IsByte xs) (NoByte xs)
pair_bytes true xs l p h = pair_byte xs l p h
pair_bytes false xs l p h = no_low xs l h

pub numeral : (c : ℕ) → 48 ≤ c → c < 58 → IsDigit c
numeral c h k = let e : digit_of (c - 48) ≡ c = grind (arith, nat_tests) in (c - 48, omega (arith, h, k), e)

pub letter : (c : ℕ) → 65 ≤ c → c < 71 → IsDigit c
letter c h k = let e : digit_of (c - 55) ≡ c = grind (arith, nat_tests) in (c - 55, omega (arith, h, k), e)

pub high_digit : (xs : List ℕ) → IsByte xs → IsDigit (get_or xs 0 0)
unfolding spelled
high_digit xs b = (b.0 / 16, omega (arith, b.1), ap (λ ys. get_or ys 0 0) b.2)

pub low_digit : (xs : List ℕ) → IsByte xs → IsDigit (get_or xs 1 0)
unfolding spelled
low_digit xs b = (b.0 % 16, omega arith, ap (λ ys. get_or ys 1 0) b.2)

-- one byte more is read
pub read_more : (ps : List (List ℕ)) (bs : List ℕ) (i v : ℕ) → i < length bs → i < length ps → spelled (v ∷ []) ≡ get_or ps i []
    → spelled (take i bs) ≡ flat_map (λ x. x) (take i ps) → spelled (take (i + 1) (set bs i v)) ≡ flat_map (λ x. x) (take (i + 1) ps)
read_more ps bs i v h k e s =
    ap spelled (take_more_set bs i v h) ∙ spelled-append (take i bs) (v ∷ [])
    ∙ ap (λ xs. xs ++ spelled (v ∷ [])) s ∙ ap (λ xs. flat_map (λ x. x) (take i ps) ++ xs) e
    ∙ sym (ap (flat_map (λ x. x)) (take_more ps i [] k) ∙ flat_map-append (λ x. x) (take i ps) (get_or ps i [] ∷ []) ∙ ap (λ xs. flat_map (λ x. x) (take i ps) ++ xs) (append-nil (get_or ps i [])))

pub bytes-more : (bs : List ℕ) (i v : ℕ) → i < length bs → v < 256 → Bytes (take i bs) → Bytes (take (i + 1) (set bs i v))
bytes-more bs i v h k b = subst Bytes (sym (take_more_set bs i v h)) (All-push (λ x. x < 256) (take i bs) v b k)

ascii_high : (b : ℕ) → b < 256 → get_or (spelled (b ∷ [])) 0 0 < 128
unfolding spelled
ascii_high b h = digit_ascii (b / 16) (omega (arith, h))

ascii_low : (b : ℕ) → get_or (spelled (b ∷ [])) 1 0 < 128
unfolding spelled
ascii_low b = digit_ascii (b % 16) (omega arith)

-- one byte more is written, digit by digit
pub spell_more : (bs : List ℕ) (i p q : ℕ) (ds s t u h l : List ℕ) → i < length bs → get_or bs i 0 < 256 → ds ≡ spelled (get_or bs i 0 ∷ [])
    → p ≡ get_or ds 0 0 → q ≡ get_or ds 1 0 → s ≡ spelled (take i bs) → t ≡ s ++ h → (p < 128 → h ≡ p ∷ []) → u ≡ t ++ l
    → (q < 128 → l ≡ q ∷ []) → u ≡ spelled (take (i + 1) bs)
spell_more bs i p q ds s t u h l r f d m n a b v e w =
    let high : p < 128 = subst (λ x. x < 128) (sym (m ∙ ap (λ xs. get_or xs 0 0) d)) (ascii_high (get_or bs i 0) f) in
    let low : q < 128 = subst (λ x. x < 128) (sym (n ∙ ap (λ xs. get_or xs 1 0) d)) (ascii_low (get_or bs i 0)) in
    let z : ds ≡ get_or ds 0 0 ∷ get_or ds 1 0 ∷ [] = two ds (ap length d ∙ length-spelled (get_or bs i 0 ∷ [])) in
    e ∙ ap (λ xs. xs ++ l) b ∙ append_assoc s h l ∙ ap (λ xs. s ++ (xs ++ l)) (v high) ∙ ap (λ xs. s ++ (p ∷ xs)) (w low)
    ∙ ap (λ x. s ++ (x ∷ q ∷ [])) m ∙ ap (λ x. s ++ (get_or ds 0 0 ∷ x ∷ [])) n ∙ ap (λ xs. s ++ xs) (sym z ∙ d)
    ∙ ap (λ xs. xs ++ spelled (get_or bs i 0 ∷ [])) a ∙ sym (spelled-more bs i r)

-- the digit at a place is one of a byte's two
pub spelled_at : (bs : List ℕ) (k : ℕ) → k < length (spelled bs) → get_or (spelled (get_or bs (k / 2) 0 ∷ [])) (k % 2) 0 ≡ get_or (spelled bs) k 0
unfolding spelled
spelled_at [] k h = absurd (omega (arith, h))
spelled_at (b ∷ bs) zero h = refl
spelled_at (b ∷ bs) (suc zero) h = refl
spelled_at (b ∷ bs) (suc (suc k)) h =
    let d : suc (suc k) / 2 ≡ suc (k / 2) = omega arith in
    let m : suc (suc k) % 2 ≡ k % 2 = omega arith in
    ap (λ i. get_or (spelled (get_or (b ∷ bs) i 0 ∷ [])) (suc (suc k) % 2) 0) d ∙ ap (λ i. get_or (spelled (get_or bs (k / 2) 0 ∷ [])) i 0) m
    ∙ spelled_at bs k (omega (arith, h))

digit_one : (d e : ℕ) → d < 16 → e < 16 → digit_of d ≡ digit_of e → d ≡ e
digit_one d e h k s = grind (arith, nat_tests)

-- bytes that are spelled alike are the same
pub spelled_one : (xs ys : List ℕ) → Bytes xs → Bytes ys → spelled xs ≡ spelled ys → xs ≡ ys
unfolding spelled
spelled_one [] [] h k e = refl
spelled_one [] (y ∷ ys) h k e = cc
spelled_one (x ∷ xs) [] h k e = cc
spelled_one (x ∷ xs) (y ∷ ys) h k e =
    let p : digit_of (x / 16) ≡ digit_of (y / 16) = ap (λ zs. get_or zs 0 0) e in
    let q : digit_of (x % 16) ≡ digit_of (y % 16) = ap (λ zs. get_or zs 1 0) e in
    let u = digit_one (x / 16) (y / 16) (omega (arith, h.0)) (omega (arith, k.0)) p in
    let v = digit_one (x % 16) (y % 16) (omega arith) (omega arith) q in
    let w : x ≡ y = omega (arith, u, v) in
    ap (λ z. z ∷ xs) w ∙ ap (λ zs. y ∷ zs) (spelled_one xs ys h.1 k.1 (ap (drop 2) e))
