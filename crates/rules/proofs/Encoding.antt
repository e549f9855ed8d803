-- A list of entries as bytes: how long it is, that it is bytes, and that no other lawful list has the same.
use Rattle.std.proofs.Common.{◌≡◌, ℕ, suc, ◌+◌, ◌*◌, ◌/◌, ◌%◌, ◌^◌, ◌<◌, ◌≤◌, List, [], ◌∷◌, ◌++◌, length, ℤ, pos, negsuc, sym, refl, ap, ◌∙◌, ap₂, arith, length-append}
use Rattle.std.proofs.lemmas.Int.{ints}
use Rattle.cipher.specs.Bytes.{Bytes, word, word_bytes}
use Rattle.cipher.proofs.Bytes.{word-word_bytes}
use Rattle.curve.specs.Curves.{Point, Curve, point, InRange, LawfulCurve}
use Rattle.rules.specs.Registers.{Standing, in_force, withdrawn}
use Rattle.rules.specs.Bundles.{stage_word, Entry, kind, points_in, heads, curve_bytes, body, bodies, total_points, encoding, LawfulStanding, RisesAbove, curves_in, curves, LawfulList}
use Rattle.rules.specs.Laws.{OneList}

pub two_one : (a b : ℕ) → a < 65536 → b < 65536 → a / 256 % 256 ≡ b / 256 % 256 → a % 256 ≡ b % 256 → a ≡ b
two_one a b h k p q = omega arith

pub word_one : (a b : ℕ) → a < 2 ^ 32 → b < 2 ^ 32 → a / 16777216 % 256 ≡ b / 16777216 % 256 → a / 65536 % 256 ≡ b / 65536 % 256 → a / 256 % 256 ≡ b / 256 % 256 → a % 256 ≡ b % 256 → a ≡ b
word_one a b h k p q r s =
    sym (word-word_bytes a h) ∙ (λ i. word (p i) (q i) (r i) (s i)) ∙ word-word_bytes b k

-- two lists of equal parts
pub append_apart : {X : Type 0} (a b x y : List X) → length a ≡ length b → a ++ x ≡ b ++ y → (a ≡ b) × (x ≡ y)
append_apart [] [] x y l h = (refl, h)
append_apart [] (k ∷ b) x y l h = absurd (omega arith)
append_apart (k ∷ a) [] x y l h = absurd (omega arith)
append_apart (k ∷ a) (m ∷ b) x y l h =
    let t : a ++ x ≡ b ++ y = cc h in
    let r = append_apart a b x y (omega arith) t in
    let e : k ≡ m = cc h in
    (ap₂ (λ u v. u ∷ v) e r.0, r.1)

-- ---- stages and points

stage_low : (z : ℤ) (q : ℕ) → InRange z q → stage_word z < 2 ^ 32
stage_low (pos n) q h = omega (arith, ints)
stage_low (negsuc n) q h = omega arith

stage_one : (y z : ℤ) (q r : ℕ) → InRange y q → InRange z r → stage_word y ≡ stage_word z → y ≡ z
stage_one (pos a) (pos b) q r h k e = ap pos e
stage_one (pos a) (negsuc b) q r h k e = absurd (omega (arith, ints))
stage_one (negsuc a) (pos b) q r h k e = absurd (omega (arith, ints))
stage_one (negsuc a) (negsuc b) q r h k e = omega (arith, ints)

-- each point of a list is one that a curve may have
Ranged : Curve → Type 0
Ranged c = (k : ℕ) → k < length c → InRange (point c k).stage (point c k).flow

ranged : (c : Curve) → LawfulCurve c → Ranged c
unfolding Ranged
ranged c L = L.in_range

rest_ranged : (p : Point) (c : Curve) → Ranged (p ∷ c) → Ranged c
unfolding Ranged
rest_ranged p c r k l = r (suc k) (omega arith)

curve_one : (u v : Curve) → length u ≡ length v → Ranged u → Ranged v → curve_bytes u ≡ curve_bytes v → u ≡ v
unfolding Ranged
curve_one [] [] l p q h = refl
curve_one [] (b ∷ v) l p q h = absurd (omega arith)
curve_one (a ∷ u) [] l p q h = absurd (omega arith)
curve_one (a ∷ u) (b ∷ v) l p q h =
    let x = p 0 (omega arith) in
    let y = q 0 (omega arith) in
    let s : a.stage ≡ b.stage = stage_one a.stage b.stage a.flow b.flow x y (word_one (stage_word a.stage) (stage_word b.stage) (stage_low a.stage a.flow x) (stage_low b.stage b.flow y) (cc h) (cc h) (cc h) (cc h)) in
    let f : a.flow ≡ b.flow = word_one a.flow b.flow (omega (arith, x.2)) (omega (arith, y.2)) (cc h) (cc h) (cc h) (cc h) in
    let t : u ≡ v = curve_one u v (omega arith) (rest_ranged a u p) (rest_ranged b v q) (cc h) in
    let e : a ≡ b = ap₂ {C = Point} (λ x y. record { stage = x; flow = y }) s f in
    ap₂ (λ x y. x ∷ y) e t

curve_length : (c : Curve) → length (curve_bytes c) ≡ 8 * length c
curve_length [] = refl
curve_length (p ∷ c) = omega (arith, curve_length c)

-- ---- entries

body_one : (x y : Standing) (a b : List ℕ) → LawfulStanding x → LawfulStanding y → kind x ≡ kind y → points_in x ≡ points_in y → body x ++ a ≡ body y ++ b → (x ≡ y) × (a ≡ b)
body_one withdrawn withdrawn a b L M k l h = (refl, h)
body_one withdrawn (in_force v) a b L M k l h = absurd (omega arith)
body_one (in_force u) withdrawn a b L M k l h = absurd (omega arith)
body_one (in_force u) (in_force v) a b L M k l h =
    let r = append_apart (curve_bytes u) (curve_bytes v) a b (omega (arith, curve_length u, curve_length v, l)) h in
    (ap in_force (curve_one u v l (ranged u L) (ranged v M) r.0), r.1)

entries_one : (b d : ℕ) (xs ys : List Entry) → length xs ≡ length ys → RisesAbove b xs → RisesAbove d ys → heads xs ≡ heads ys → bodies xs ≡ bodies ys → xs ≡ ys
entries_one b d [] [] l p q h e = refl
entries_one b d [] (y ∷ ys) l p q h e = absurd (omega arith)
entries_one b d (x ∷ xs) [] l p q h e = absurd (omega arith)
entries_one b d (x ∷ xs) (y ∷ ys) l p q h e =
    let n : x.number ≡ y.number = two_one x.number y.number (omega (arith, p.1)) (omega (arith, q.1)) (cc h) (cc h) in
    let t = body_one x.standing y.standing (bodies xs) (bodies ys) p.2 q.2 (cc h) (cc h) e in
    let r : xs ≡ ys = entries_one x.number y.number xs ys (omega arith) p.3 q.3 (cc h) t.1 in
    let s : x ≡ y = ap₂ {C = Entry} (λ a b. record { number = a; standing = b }) n t.0 in
    ap₂ (λ a b. a ∷ b) s r

heads-length : (xs : List Entry) → length (heads xs) ≡ 4 * length xs
heads-length [] = refl
heads-length (x ∷ xs) = omega (arith, heads-length xs)

body-length : (x : Standing) → length (body x) ≡ 8 * points_in x
body-length (in_force c) = curve_length c
body-length withdrawn = refl

bodies-length : (xs : List Entry) → length (bodies xs) ≡ 8 * total_points xs
bodies-length [] = refl
bodies-length (x ∷ xs) = omega (arith, bodies-length xs, body-length x.standing, length-append (body x.standing) (bodies xs))

pub encoding-length : (xs : List Entry) → length (encoding xs) ≡ 4 + 4 * length xs + 8 * total_points xs
encoding-length xs = omega (arith, heads-length xs, bodies-length xs, length-append (heads xs) (bodies xs))

-- as many entries as numbers, as many points as sixteen to a curve
entries_few : (b : ℕ) (xs : List Entry) → RisesAbove b xs → b ≤ 1024 → length xs + b ≤ 1024
entries_few b [] r h = omega arith
entries_few b (x ∷ xs) r h = omega (arith, r.0, entries_few x.number xs r.3 r.1)

standing-points : (x : Standing) → LawfulStanding x → points_in x ≤ 16 * curves_in x
standing-points (in_force c) L = omega (arith, L.most)
standing-points withdrawn L = omega arith

points_few : (b : ℕ) (xs : List Entry) → RisesAbove b xs → total_points xs ≤ 16 * curves xs
points_few b [] r = omega arith
points_few b (x ∷ xs) r = omega (arith, standing-points x.standing r.2, points_few x.number xs r.3)

pub entries_most : (xs : List Entry) → LawfulList xs → length xs ≤ 1024
entries_most xs L = omega (arith, entries_few 0 xs L.rising (omega arith))

pub points_most : (xs : List Entry) → LawfulList xs → total_points xs ≤ 512
points_most xs L = omega (arith, points_few 0 xs L.rising, L.few)

pub encoding_most : (xs : List Entry) → LawfulList xs → length (encoding xs) ≤ 8196
encoding_most xs L = omega (arith, encoding-length xs, entries_most xs L, points_most xs L)

pub one_list : OneList
one_list xs ys L M h =
    let l : length xs ≡ length ys = two_one (length xs) (length ys) (omega (arith, entries_most xs L)) (omega (arith, entries_most ys M)) (cc h) (cc h) in
    let t : heads xs ++ bodies xs ≡ heads ys ++ bodies ys = cc h in
    let r = append_apart (heads xs) (heads ys) (bodies xs) (bodies ys) (omega (arith, l, heads-length xs, heads-length ys)) t in
    entries_one 0 0 xs ys l L.rising M.rising r.0 r.1

-- ---- what is encoded is bytes

bytes_of_a_word : (w : ℕ) (xs : List ℕ) → Bytes xs → Bytes (word_bytes w ++ xs)
bytes_of_a_word w xs p = (omega arith, (omega arith, (omega arith, (omega arith, p))))

bytes_of_a_curve : (c : Curve) (xs : List ℕ) → Bytes xs → Bytes (curve_bytes c ++ xs)
bytes_of_a_curve [] xs h = h
bytes_of_a_curve (p ∷ c) xs h = bytes_of_a_word (stage_word p.stage) (word_bytes p.flow ++ (curve_bytes c ++ xs)) (bytes_of_a_word p.flow (curve_bytes c ++ xs) (bytes_of_a_curve c xs h))

body_bytes : (x : Standing) (xs : List ℕ) → Bytes xs → Bytes (body x ++ xs)
body_bytes (in_force c) xs h = bytes_of_a_curve c xs h
body_bytes withdrawn xs h = h

bodies-bytes : (xs : List Entry) → Bytes (bodies xs)
bodies-bytes [] = tt
bodies-bytes (x ∷ xs) = body_bytes x.standing (bodies xs) (bodies-bytes xs)

kind_low : (x : Standing) → kind x < 256
kind_low (in_force c) = omega arith
kind_low withdrawn = omega arith

points_low : (x : Standing) → LawfulStanding x → points_in x < 256
points_low (in_force c) L = omega (arith, L.most)
points_low withdrawn L = omega arith

heads-bytes : (b : ℕ) (xs : List Entry) (ys : List ℕ) → RisesAbove b xs → Bytes ys → Bytes (heads xs ++ ys)
heads-bytes b [] ys r h = h
heads-bytes b (x ∷ xs) ys r h =
    (omega arith, (omega arith, (kind_low x.standing, (points_low x.standing r.2, heads-bytes x.number xs ys r.3 h))))

pub encoding-bytes : (xs : List Entry) → LawfulList xs → Bytes (encoding xs)
encoding-bytes xs L = (omega arith, (omega arith, (omega arith, (omega arith, heads-bytes 0 xs (bodies xs) L.rising (bodies-bytes xs)))))
