-- The rounds in turns: the words of P are xored in one round early.
use Rattle.std.proofs.Common.{◌≡◌, ℕ, zero, suc, ◌+◌, ◌*◌, ◌/◌, ◌%◌, ◌^◌, ◌<◌, List, [], ◌∷◌, length, map, take, drop, slice_index, slice_index_or, ap, refl, subst, sym, ◌∙◌, add-one, arith}
use Rattle.std.proofs.Math.Nat.{mod-eq_of_lt}
use Rattle.std.specs.List.{push}
use Rattle.std.proofs.lemmas.List.{length_push, get_or-take, get_or-drop}
use Rattle.std.proofs.Math.Seq.{take-append_seam}
use Rattle.std.proofs.lemmas.Grind.{common_steps}
use Rattle.std.proofs.lemmas.Simd.{map-map}
use lib.Bits.{bit_xor, xor_assoc, xor_comm}
use Rattle.cipher.specs.declared.block.Block.{Block}
use Rattle.cipher.specs.Inverses.{same}
use Rattle.cipher.specs.Rounds.{rounds, unrounds}
use Rattle.blowfish.specs.declared.tables.Blowfish.{Blowfish}
use Rattle.blowfish.specs.Blowfish.{f, pword, odd_round, even_round, pair, begun, begun_at, exchanged, odd_back_of, even_back_of, pair_back, enciphering, deciphering, turned}

past : (a k f : ℕ) → bit_xor (bit_xor a k) f ≡ bit_xor (bit_xor a f) k
past a k f = xor_assoc a k f ∙ ap (bit_xor a) (xor_comm k f) ∙ sym (xor_assoc a f k)

-- two turns after two words: two rounds, and the next two words
pub two_turns : (t : Blowfish) (odd even u v : ℕ) (b : Block)
    → turned t v (turned t u (begun odd even b)) ≡ begun u v (even_round t even (odd_round t odd b))
unfolding turned odd_round even_round
two_turns t odd even u v b =
    let l = bit_xor b.left odd in
    let m : bit_xor (bit_xor b.right even) (f t l) ≡ bit_xor (bit_xor b.right (f t l)) even = past b.right even (f t l) in
    same _ _ _ _ (ap (λ x. bit_xor (bit_xor l u) (f t x)) m ∙ past l u _) (ap (λ x. bit_xor x v) m)

-- the round of the number i + 1 in turns: word i + 2 of P is the next one
abbrev pub turned_at : Blowfish → ℕ → Block → Block
turned_at t i b = turned t (pword t (i + 2)) b

next : (t : Blowfish) (m : ℕ) (b c : Block) → rounds (turned_at t) m b ≡ begun (pword t m) (pword t (m + 1)) c
    → rounds (turned_at t) (m + 2) b
    ≡ begun (pword t (m + 2)) (pword t (m + 3)) (even_round t (pword t (m + 1)) (odd_round t (pword t m) c))
next t m b c h =
    let e : m + 2 ≡ suc (suc m) = omega arith in
    let k : suc m + 2 ≡ m + 3 = omega arith in
    ap (λ n. rounds (turned_at t) n b) e ∙ ap (λ n. turned t (pword t n) (turned_at t m (rounds (turned_at t) m b))) k
    ∙ ap (λ y. turned t (pword t (m + 3)) (turned_at t m y)) h
    ∙ two_turns t (pword t m) (pword t (m + 1)) (pword t (m + 2)) (pword t (m + 3)) c

many : (t : Blowfish) (n : ℕ) (b : Block) → rounds (turned_at t) (2 * n) (begun_at t 0 b) ≡ begun_at t n (rounds (pair t) n b)
many t zero b = refl
many t (suc n) b =
    let e : 2 * suc n ≡ 2 * n + 2 = omega arith in
    let o : 2 * n + 3 ≡ 2 * suc n + 1 = omega arith in
    ap (λ k. rounds (turned_at t) k (begun_at t 0 b)) e ∙ next t (2 * n) (begun_at t 0 b) (rounds (pair t) n b) (many t n b)
    ∙ ap (λ k. begun (pword t k) (pword t (2 * n + 3)) (rounds (pair t) (suc n) b)) (sym e)
    ∙ ap (λ k. begun (pword t (2 * suc n)) (pword t k) (rounds (pair t) (suc n) b)) o

-- n pairs of rounds in turns, and the halves exchanged, are the cipher
pub turns_are : (t : Blowfish) (n : ℕ) (b z x : Block) → z ≡ begun_at t 0 b → x ≡ rounds (turned_at t) (2 * n) z
    → exchanged x ≡ enciphering t n b
unfolding enciphering
turns_are t n b z x first e = ap exchanged (e ∙ ap (rounds (turned_at t) (2 * n)) first ∙ many t n b)

-- the words of P by pairs
pub first_word : (t : Blowfish) (j : ℕ) → slice_index (slice_index_or t.p j []) 0 < 2 ^ 32 → slice_index (slice_index_or t.p j []) 0 ≡ pword t (2 * j)
first_word t j h =
    let d : 2 * j / 2 ≡ j = omega arith in
    let m : 2 * j % 2 ≡ 0 = omega arith in
    sym (ap (λ k. slice_index (slice_index_or t.p k []) (2 * j % 2) % 2 ^ 32) d
    ∙ ap (λ k. slice_index (slice_index_or t.p j []) k % 2 ^ 32) m ∙ mod-eq_of_lt h)

pub second_word : (t : Blowfish) (j : ℕ) → slice_index (slice_index_or t.p j []) 1 < 2 ^ 32 → slice_index (slice_index_or t.p j []) 1 ≡ pword t (2 * j + 1)
second_word t j h =
    let d : (2 * j + 1) / 2 ≡ j = omega arith in
    let m : (2 * j + 1) % 2 ≡ 1 = omega arith in
    sym (ap (λ k. slice_index (slice_index_or t.p k []) ((2 * j + 1) % 2) % 2 ^ 32) d
    ∙ ap (λ k. slice_index (slice_index_or t.p j []) k % 2 ^ 32) m ∙ mod-eq_of_lt h)

-- a block after j pairs of rounds, with the next two words
abbrev pub gone : Blowfish → ℕ → Block → Block
gone t j b = begun_at t j (rounds (pair t) j b)

pub next_gone : (t : Blowfish) (j n u v : ℕ) (b c : Block) → n ≡ suc j → u ≡ pword t (2 * n) → v ≡ pword t (2 * n + 1)
    → c ≡ gone t j b → turned t v (turned t u c) ≡ gone t n b
next_gone t j n u v b c s first second e =
    ap (λ x. turned t v (turned t u x)) e ∙ two_turns t (pword t (2 * j)) (pword t (2 * j + 1)) u v (rounds (pair t) j b)
    ∙ ap (λ w. begun w v (rounds (pair t) (suc j) b)) first ∙ ap (λ w. begun (pword t (2 * n)) w (rounds (pair t) (suc j) b)) second
    ∙ ap (λ k. begun_at t n (rounds (pair t) k b)) (sym s)

-- a pair after the first, in P and in the n that follow P's first pair
pub after_first : (ps : List (List ℕ)) (n j : ℕ) → j < n → slice_index_or (take n (drop 1 ps)) j [] ≡ slice_index_or ps (j + 1) []
after_first ps n j lt =
    let e : 1 + j ≡ j + 1 = omega arith in
    get_or-take n (drop 1 ps) j [] lt ∙ get_or-drop 1 ps j [] ∙ ap (λ k. slice_index_or ps k []) e

-- a pair of rounds in turns, by the words of a pair of P
pub step_is : (t : Blowfish) (j n : ℕ) (ws : List ℕ) (z c x : Block) → n ≡ suc j
    → x ≡ turned t (slice_index ws 1) (turned t (slice_index ws 0) c) → ws ≡ slice_index_or t.p n []
    → slice_index ws 0 < 2 ^ 32 → slice_index ws 1 < 2 ^ 32 → c ≡ rounds (turned_at t) (2 * j) z → x ≡ rounds (turned_at t) (2 * n) z
step_is t j n ws z c x s made at odd even e =
    let P : List ℕ → Type 0 = λ v. slice_index v 0 < 2 ^ 32 in
    let Q : List ℕ → Type 0 = λ v. slice_index v 1 < 2 ^ 32 in
    let d : 2 * n ≡ 2 * j + 2 = omega (arith, s) in
    let o : 2 * n + 1 ≡ suc (2 * j) + 2 = omega (arith, s) in
    let g : 2 * n ≡ suc (suc (2 * j)) = omega (arith, s) in
    made ∙ ap (λ y. turned t (slice_index ws 1) (turned t (slice_index ws 0) y)) e
    ∙ ap (λ w. turned t (slice_index ws 1) (turned t w (rounds (turned_at t) (2 * j) z)))
    (ap (λ v. slice_index v 0) at ∙ first_word t n (subst P at odd) ∙ ap (pword t) d)
    ∙ ap (λ w. turned t w (turned_at t (2 * j) (rounds (turned_at t) (2 * j) z)))
    (ap (λ v. slice_index v 1) at ∙ second_word t n (subst Q at even) ∙ ap (pword t) o)
    ∙ ap (λ k. rounds (turned_at t) k z) (sym g)

pub next_pair : (t : Blowfish) (j n u v : ℕ) (xs ys : List Block) → n ≡ suc j → u ≡ pword t (2 * n) → v ≡ pword t (2 * n + 1)
    → ys ≡ map (gone t j) xs → map (λ b. turned t v (turned t u b)) ys ≡ map (gone t n) xs
next_pair t j n u v xs ys s first second e =
    ap (map (λ b. turned t v (turned t u b))) e ∙ map-map (λ b. turned t v (turned t u b)) (gone t j) xs
    ∙ ap (λ f. map f xs) (λ i b. next_gone t j n u v b (gone t j b) s first second refl i)

pub closed : (t : Blowfish) (xs ys : List Block) (n m : ℕ) → n ≡ m → ys ≡ map (gone t n) xs
    → map exchanged ys ≡ map (enciphering t m) xs
unfolding enciphering
closed t xs ys n m e h = ap (map exchanged) (h ∙ ap (λ j. map (gone t j) xs) e) ∙ map-map exchanged (gone t m) xs

-- what is left of P's pairs as they are taken from the end
pub popped : (ps rest left : List (List ℕ)) (x : List ℕ) → rest ≡ push left x → rest ≡ take (length rest) ps
    → (length rest ≡ suc (length left)) × (left ≡ take (length left) ps) × (x ≡ slice_index_or ps (length left) [])
popped ps rest left x e h =
    let l : length rest ≡ suc (length left) = ap length e ∙ length_push left x ∙ add-one (length left) in
    let whole : push left x ≡ take (suc (length left)) ps = sym e ∙ h ∙ ap (λ k. take k ps) l in (
      l,
      sym (take-append_seam left (x ∷ [])) ∙ ap (take (length left)) whole ∙ grind (arith, common_steps),
      grind (arith, common_steps, whole),
    )

-- a block on its way back, with n pairs of rounds still to undo
pub pair_undone : (t : Blowfish) (n m u v : ℕ) (ys zs : List Block) → m ≡ suc n → u ≡ pword t (2 * n) → v ≡ pword t (2 * n + 1)
    → map (unrounds (pair_back t) m) ys ≡ zs → map (unrounds (pair_back t) n) (map (λ b. odd_back_of t u (even_back_of t v b)) ys) ≡ zs
pair_undone t n m u v ys zs s first second e =
    map-map (unrounds (pair_back t) n) (λ b. odd_back_of t u (even_back_of t v b)) ys
    ∙ ap (λ f. map f ys) (λ i b. (ap (λ w. unrounds (pair_back t) n (odd_back_of t w (even_back_of t v b))) first
    ∙ ap (λ w. unrounds (pair_back t) n (odd_back_of t (pword t (2 * n)) (even_back_of t w b))) second) i)
    ∙ ap (λ k. map (unrounds (pair_back t) k) ys) (sym s) ∙ e

pub opened : (t : Blowfish) (n : ℕ) (xs ys : List Block) → ys ≡ map (λ b. begun_at t n (exchanged b)) xs
    → map (unrounds (pair_back t) n) ys ≡ map (deciphering t n) xs
unfolding deciphering
opened t n xs ys e = ap (map (unrounds (pair_back t) n)) e ∙ map-map (unrounds (pair_back t) n) (λ b. begun_at t n (exchanged b)) xs
