-- Padding: how long a padded text is, that it is bytes, and that a text is padded in one way.
use Rattle.std.proofs.Common.{◌≡◌, ℕ, zero, suc, ◌+◌, ◌%◌, ◌<◌, ◌≤◌, List, [], ◌∷◌, ◌++◌, length, replicate, sym, refl, ap, ◌∙◌, arith, length-append}
use lib.ListN.{length-replicate}
use Rattle.cipher.specs.Bytes.{Bytes}
use Rattle.rules.specs.Bundles.{encoding, padding, padded, PadsTo}
use Rattle.rules.specs.Laws.{BundleFits, OnePadding}
use Rattle.rules.proofs.Encoding.{append_apart, encoding-length, encoding_most}

pub filled-length : (xs : List ℕ) (k : ℕ) → length (xs ++ replicate k k) ≡ length xs + k
filled-length xs k = length-append xs (replicate k k) ∙ ap (λ n. length xs + n) (length-replicate k k)

pub padded-length : (xs : List ℕ) → length (padded xs) ≡ length xs + padding (length xs)
padded-length xs = filled-length xs (padding (length xs))

pub padded_whole : (xs : List ℕ) → length (padded xs) % 8 ≡ 0
padded_whole xs = omega (arith, padded-length xs)

replicate-bytes : (k v : ℕ) → v < 256 → Bytes (replicate k v)
replicate-bytes zero v h = tt
replicate-bytes (suc k) v h = (h, replicate-bytes k v h)

append-bytes : (xs ys : List ℕ) → Bytes xs → Bytes ys → Bytes (xs ++ ys)
append-bytes [] ys p q = q
append-bytes (x ∷ xs) ys p q = (p.0, append-bytes xs ys p.1 q)

pub padded-bytes : (xs : List ℕ) → Bytes xs → Bytes (padded xs)
padded-bytes xs p = append-bytes xs _ p (replicate-bytes (padding (length xs)) (padding (length xs)) (omega arith))

pub padded_pads : (xs : List ℕ) → PadsTo xs (padded xs)
padded_pads xs = (padding (length xs), omega arith, omega arith, refl)

-- of a text of whole blocks, the count of padding follows from the length before it
pads_padded : (xs text : List ℕ) → length text % 8 ≡ 0 → PadsTo xs text → text ≡ padded xs
pads_padded xs text w (k, a, b, e) =
    let l : length text ≡ length xs + k = ap length e ∙ filled-length xs k in
    let q : k ≡ padding (length xs) = omega (arith, l, w) in
    e ∙ ap (λ n. xs ++ replicate n n) q

pub one_padding : OnePadding
one_padding xs text w = (pads_padded xs text w, λ e. (padding (length xs), omega arith, omega arith, e))

pub bundle_fits : BundleFits
bundle_fits xs L = (omega (arith, encoding-length xs), encoding_most xs L, padded_whole (encoding xs))

-- ---- the last byte tells how many there are

last : ℕ → List ℕ → ℕ
last d [] = d
last d (x ∷ xs) = last x xs

last_append : (d : ℕ) (xs ys : List ℕ) → last d (xs ++ ys) ≡ last (last d xs) ys
unfolding last
last_append d [] ys = refl
last_append d (x ∷ xs) ys = last_append x xs ys

last_same : (v k : ℕ) → last v (replicate k v) ≡ v
unfolding last
last_same v zero = refl
last_same v (suc k) = last_same v k

last_replicate : (d v k : ℕ) → 1 ≤ k → last d (replicate k v) ≡ v
unfolding last
last_replicate d v zero h = absurd (omega arith)
last_replicate d v (suc k) h = last_same v k

filled_last : (xs : List ℕ) (k : ℕ) → 1 ≤ k → last 0 (xs ++ replicate k k) ≡ k
filled_last xs k h = last_append 0 xs (replicate k k) ∙ last_replicate (last 0 xs) k k h

pub pads_one : (xs ys text : List ℕ) → PadsTo xs text → PadsTo ys text → xs ≡ ys
pads_one xs ys text (k, a, b, e) (m, c, d, f) =
    let q : k ≡ m = sym (filled_last xs k a) ∙ ap (last 0) (sym e ∙ f) ∙ filled_last ys m c in
    let l : length xs ≡ length ys = omega (arith, q, ap length (sym e ∙ f), filled-length xs k, filled-length ys m) in
    (append_apart xs ys (replicate k k) (replicate m m) l (sym e ∙ f)).0
