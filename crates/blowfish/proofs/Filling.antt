-- The steps of the key schedule: each loop's turn is one step of its definition.
use Rattle.std.proofs.Common.{◌≡◌, ℕ, ◌+◌, ◌*◌, ◌/◌, ◌%◌, ◌<◌, suc, List, [], ◌∷◌, length, slice_index, slice_index_or, slice_set, ap, sym, ◌∙◌, arith, get_or-set_same, refl}
use Rattle.std.proofs.lemmas.List.{set-set}
use lib.Bits.{bit_xor}
use Rattle.cipher.specs.declared.block.Block.{Block}
use Rattle.cipher.specs.Rounds.{rounds}
use Rattle.blowfish.specs.declared.tables.Blowfish.{Blowfish}
use Rattle.blowfish.specs.Blowfish.{enciphered}
use Rattle.blowfish.specs.Schedule.{Going, in_p, in_s, key_word_of, mix_word, step_p, step_s, filled_p, filled_box, filled, mixed, scheduled}

pub table : (t : Blowfish) (ps : List (List ℕ)) (ss : List (List ℕ)) → t.p ≡ ps → t.s ≡ ss → t ≡ record { p = ps; s = ss }
table t ps ss e h = ap (λ q. record { p = q; s = t.s }) e ∙ ap (λ q. record { p = ps; s = q }) h

set_two : (ws : List ℕ) (x y : ℕ) → length ws ≡ 2 → slice_set (slice_set ws 0 x) 1 y ≡ x ∷ y ∷ []
set_two [] x y e = absurd (omega (arith, e))
set_two (a ∷ []) x y e = absurd (omega (arith, e))
set_two (a ∷ b ∷ []) x y e = refl
set_two (a ∷ b ∷ c ∷ ws) x y e = absurd (omega (arith, e))

second_after_set : (ws : List ℕ) (x : ℕ) → slice_index (slice_set ws 0 x) 1 ≡ slice_index ws 1
second_after_set [] x = refl
second_after_set (a ∷ ws) x = refl

mix_first : (key : List ℕ) (ps : List (List ℕ)) (i : ℕ) → mix_word key (2 * i) ps
    ≡ slice_set ps i (slice_set (slice_index_or ps i []) 0 (bit_xor (slice_index (slice_index_or ps i []) 0) (key_word_of key (2 * i))))
unfolding mix_word
mix_first key ps i =
    let d : 2 * i / 2 ≡ i = omega arith in
    let m : 2 * i % 2 ≡ 0 = omega arith in
    ap (λ k. slice_set ps k (slice_set (slice_index_or ps k []) (2 * i % 2) (bit_xor (slice_index (slice_index_or ps k []) (2 * i % 2)) (key_word_of key (2 * i))))) d
    ∙ ap (λ k. slice_set ps i (slice_set (slice_index_or ps i []) k (bit_xor (slice_index (slice_index_or ps i []) k) (key_word_of key (2 * i))))) m

mix_second : (key : List ℕ) (ps : List (List ℕ)) (i : ℕ) → mix_word key (2 * i + 1) ps
    ≡ slice_set ps i (slice_set (slice_index_or ps i []) 1 (bit_xor (slice_index (slice_index_or ps i []) 1) (key_word_of key (2 * i + 1))))
unfolding mix_word
mix_second key ps i =
    let d : (2 * i + 1) / 2 ≡ i = omega arith in
    let m : (2 * i + 1) % 2 ≡ 1 = omega arith in
    ap (λ k. slice_set ps k (slice_set (slice_index_or ps k []) ((2 * i + 1) % 2) (bit_xor (slice_index (slice_index_or ps k []) ((2 * i + 1) % 2)) (key_word_of key (2 * i + 1))))) d
    ∙ ap (λ k. slice_set ps i (slice_set (slice_index_or ps i []) k (bit_xor (slice_index (slice_index_or ps i []) k) (key_word_of key (2 * i + 1))))) m

mix_pair : (key : List ℕ) (ps : List (List ℕ)) (i : ℕ) → i < length ps → length (slice_index_or ps i []) ≡ 2
    → mix_word key (2 * i + 1) (mix_word key (2 * i) ps)
    ≡ slice_set ps i (bit_xor (slice_index (slice_index_or ps i []) 0) (key_word_of key (2 * i)) ∷ bit_xor (slice_index (slice_index_or ps i []) 1) (key_word_of key (2 * i + 1)) ∷ [])
mix_pair key ps i lt two =
    let ws = slice_index_or ps i [] in
    let a = bit_xor (slice_index ws 0) (key_word_of key (2 * i)) in
    let k = key_word_of key (2 * i + 1) in
    let new = slice_set ws 0 a in
    ap (mix_word key (2 * i + 1)) (mix_first key ps i) ∙ mix_second key (slice_set ps i new) i
    ∙ ap (λ xs. slice_set (slice_set ps i new) i (slice_set xs 1 (bit_xor (slice_index xs 1) k))) (get_or-set_same ps i new [] lt)
    ∙ set-set ps i new (slice_set new 1 (bit_xor (slice_index new 1) k))
    ∙ ap (λ w. slice_set ps i (slice_set new 1 (bit_xor w k))) (second_after_set ws a)
    ∙ ap (slice_set ps i) (set_two ws a (bit_xor (slice_index ws 1) k) two)

-- two words of P in one turn
pub mixed_pair : (key : List ℕ) (start ps : List (List ℕ)) (i u v : ℕ) → i < length ps → length (slice_index_or ps i []) ≡ 2
    → u ≡ key_word_of key (2 * i) → v ≡ key_word_of key (2 * i + 1) → ps ≡ rounds (mix_word key) (2 * i) start
    → slice_set ps i (bit_xor (slice_index (slice_index_or ps i []) 0) u ∷ bit_xor (slice_index (slice_index_or ps i []) 1) v ∷ [])
    ≡ rounds (mix_word key) (2 * (i + 1)) start
mixed_pair key start ps i u v lt two e h r =
    let n : 2 * (i + 1) ≡ suc (suc (2 * i)) = omega arith in
    let o : suc (2 * i) ≡ 2 * i + 1 = omega arith in
    let a = slice_index (slice_index_or ps i []) 0 in
    let b = slice_index (slice_index_or ps i []) 1 in
    ap (λ w. slice_set ps i (bit_xor a w ∷ bit_xor b v ∷ [])) e ∙ ap (λ w. slice_set ps i (bit_xor a (key_word_of key (2 * i)) ∷ bit_xor b w ∷ [])) h
    ∙ sym (mix_pair key ps i lt two) ∙ ap (λ qs. mix_word key (2 * i + 1) (mix_word key (2 * i) qs)) r
    ∙ ap (λ k. mix_word key k (rounds (mix_word key) (suc (2 * i)) start)) (sym o) ∙ ap (λ k. rounds (mix_word key) k start) (sym n)

pub step_p_is : (x : Going) (t : Blowfish) (b d : Block) (i : ℕ) → t ≡ x.0 → b ≡ x.1 → d ≡ enciphered t b
    → (in_p t i d ≡ (step_p i x).0) × (d ≡ (step_p i x).1)
unfolding step_p
step_p_is x t b d i p q r =
    let e : d ≡ enciphered x.0 x.1 = cc in
    (ap (λ u. in_p u i d) p ∙ ap (in_p x.0 i) e, e)

pub step_s_is : (x : Going) (k : ℕ) (t : Blowfish) (b d : Block) (i : ℕ) → t ≡ x.0 → b ≡ x.1 → d ≡ enciphered t b
    → (in_s k t i d ≡ (step_s k i x).0) × (d ≡ (step_s k i x).1)
unfolding step_s
step_s_is x k t b d i p q r =
    let e : d ≡ enciphered x.0 x.1 = cc in
    (ap (λ u. in_s k u i d) p ∙ ap (in_s k x.0 i) e, e)

going : (x : Going) (t : Blowfish) (b : Block) → t ≡ x.0 → b ≡ x.1 → ◌≡◌ {A = Going} (t, b) x
going x t b p q = ap (λ u. (u, b)) p ∙ ap (λ v. (x.0, v)) q

pub filled_box_is : (x : Going) (k : ℕ) (t u : Blowfish) (b d : Block) → t ≡ x.0 → b ≡ x.1
    → u ≡ (filled_box k (t, b)).0 → d ≡ (filled_box k (t, b)).1 → (u ≡ (filled_box k x).0) × (d ≡ (filled_box k x).1)
filled_box_is x k t u b d p q e h =
    let g : ◌≡◌ {A = Going} (t, b) x = going x t b p q in
    (e ∙ ap (λ y. (filled_box k y).0) g, h ∙ ap (λ y. (filled_box k y).1) g)

pub scheduled_is : (key : List ℕ) (z m t r : Blowfish) (b : Block) (n : ℕ) → m ≡ mixed key z → t ≡ (filled_p m).0 → b ≡ (filled_p m).1
    → n ≡ 4 → r ≡ (rounds filled_box n (t, b)).0 → r ≡ scheduled z key
unfolding scheduled filled
scheduled_is key z m t r b n e p q four h =
    h ∙ ap (λ j. (rounds filled_box j (t, b)).0) four ∙ ap (λ y. (rounds filled_box 4 y).0) (going (filled_p m) t b p q)
    ∙ ap (λ u. (rounds filled_box 4 (filled_p u)).0) e
