-- Whether a curve is lawful can be decided.
use Rattle.std.proofs.Common.{◌≡◌, ℕ, zero, suc, ◌+◌, ◌<◌, ◌≤◌, length, ℤ, pos, negsuc, ◌≤ℤ◌, ◌<ℤ◌, sym, subst, arith}
use native.Mathlib.Decide.{dec_le, dec_lt, ℕ_discrete}
use Rattle.std.proofs.lemmas.Int.{ints, by_lt_z}
use Rattle.curve.specs.Curves.{Curve, point, InRange, LawfulCurve}

dec_le_z : (a b : ℤ) → Dec (a ≤ℤ b)
dec_le_z a b = by_lt_z b a (λ l. no (λ h. omega (arith, ints, l, h))) (λ g. yes g)

dec_lt_z : (a b : ℤ) → Dec (a <ℤ b)
dec_lt_z a b = by_lt_z a b (λ l. yes l) (λ g. no (λ h. omega (arith, ints, g, h)))

dec_both : {P Q : Type 0} → Dec P → Dec Q → Dec (P × Q)
dec_both (yes p) (yes q) = yes (p, q)
dec_both (yes p) (no n) = no (λ h. n h.1)
dec_both (no n) d = no (λ h. n h.0)

dec_if : {P Q : Type 0} → Dec P → Dec Q → Dec (P → Q)
dec_if (no n) d = yes (λ p. absurd (n p))
dec_if (yes p) (yes q) = yes (λ _. q)
dec_if (yes p) (no n) = no (λ f. n (f p))

-- of each number below n
dec_below : (P : ℕ → Type 0) → ((k : ℕ) → Dec (P k)) → (n : ℕ) → Dec ((k : ℕ) → k < n → P k)
dec_below P d zero = yes (λ k h. absurd (omega arith))
dec_below P d (suc n) = go (dec_below P d n) (d n)
  where
    go : Dec ((k : ℕ) → k < n → P k) → Dec (P n) → Dec ((k : ℕ) → k < suc n → P k)
    go (no f) e = no (λ g. f (λ k h. g k (omega arith)))
    go (yes f) (no e) = no (λ g. e (g n (omega arith)))
    go (yes f) (yes e) = yes (λ k h. pick k h (ℕ_discrete k n))
      where
        pick : (k : ℕ) → k < suc n → Dec (k ≡ n) → P k
        pick k h (yes q) = subst P (sym q) e
        pick k h (no q) = f k (omega arith)

dec_in_range : (s : ℤ) (q : ℕ) → Dec (InRange s q)
dec_in_range s q = go (dec_both (dec_le_z (negsuc 19999) s) (dec_both (dec_le_z s (pos 60000)) (dec_le q 2000000000)))
  where
    go : Dec ((negsuc 19999 ≤ℤ s) × ((s ≤ℤ pos 60000) × (q ≤ 2000000000))) → Dec (InRange s q)
    go (no n) = no (λ h. n (h.0, (h.1, h.2)))
    go (yes h) = yes (h.0, h.1.0, h.1.1)

-- what is asked of the point at k, and of its neighbour
abbrev Fine : Curve → ℕ → Type 0
Fine c k = InRange (point c k).stage (point c k).flow × (k + 1 < length c → ((point c k).stage <ℤ (point c (k + 1)).stage) × ((point c k).flow ≤ (point c (k + 1)).flow))

fine : (c : Curve) (k : ℕ) → Dec (Fine c k)
fine c k =
    dec_both (dec_in_range (point c k).stage (point c k).flow)
    (dec_if (dec_lt (k + 1) (length c)) (dec_both (dec_lt_z (point c k).stage (point c (k + 1)).stage) (dec_le (point c k).flow (point c (k + 1)).flow)))

pub decide_lawful : (c : Curve) → Dec (LawfulCurve c)
decide_lawful c = go (dec_both (dec_le 2 (length c)) (dec_le (length c) 16)) (dec_below (Fine c) (fine c) (length c))
  where
    go : Dec ((2 ≤ length c) × (length c ≤ 16)) → Dec ((k : ℕ) → k < length c → Fine c k) → Dec (LawfulCurve c)
    go (no n) d = no (λ L. n (L.least, L.most))
    go (yes s) (no n) = no (λ L. n (λ k h. (L.in_range k h, λ m. (L.rises k m, L.never_falls k m))))
    go (yes s) (yes f) = yes (record {
      least = s.0;
      most = s.1;
      in_range = λ k h. (f k h).0;
      rises = λ k h. ((f k (omega arith)).1 h).0;
      never_falls = λ k h. ((f k (omega arith)).1 h).1;
    })
