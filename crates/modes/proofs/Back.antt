-- Deciphering undoes enciphering, for every cipher and mode. Assumes nothing.
use Rattle.std.proofs.Common.{◌≡◌, ℕ, zero, suc, ◌*◌, ◌/◌, ◌%◌, ◌^◌, ◌<◌, ◌≤◌, List, [], ◌∷◌, ◌++◌, length, get_or, drop, sym, refl, ap, ◌∙◌, subst, arith}
use lib.Bits.{xor_lt}
use Rattle.std.proofs.lemmas.List.{length-drop, nil_from_length}
use Rattle.std.proofs.ByRecursion.{All-drop}
use Rattle.modes.proofs.Pieces.{first_block}
use Rattle.std.specs.List.{AllByRecursion}
use Rattle.cipher.specs.Blocks.{Sound, Inverse}
use Rattle.cipher.specs.Bytes.{Bytes, word, bytes_of, block_at}
use Rattle.cipher.proofs.Bytes.{word_bytes-word, word-word_bytes}
use Rattle.cipher.proofs.Words as words
use Rattle.cipher.specs.declared.block.Block.{Block}
use Rattle.modes.specs.declared.mode.Mode.{Mode}
use Rattle.modes.specs.declared.mode.Mode.TheVariants.{Ecb, Cbc, Cfb, Ofb}
use Rattle.modes.specs.declared.mode.Step.{Step}
use Rattle.modes.specs.Layout.{cut, blocks, bytes}
use Rattle.cipher.specs.Blocks.{xor}
use Rattle.modes.specs.Formulas.{forward, backward, outs, after}
use Rattle.modes.specs.Texts.{Whole, enciphered, following, OneText}

word_low : (a b c d : ℕ) → a < 256 → b < 256 → c < 256 → d < 256 → word a b c d < 2 ^ 32
word_low a b c d p q r s = omega arith

pub blocks-bytes : (bs : List Block) → AllByRecursion Sound bs → blocks (bytes bs) ≡ bs
blocks-bytes [] h = refl
blocks-bytes (b ∷ bs) h =
    let l = word-word_bytes b.left h.0.0 in
    let r = word-word_bytes b.right h.0.1 in
    let t = blocks-bytes bs h.1 in
    first_block (bytes (b ∷ bs)) (omega arith) ∙ (λ i. record { left = l i; right = r i } ∷ t i)

-- eight bytes are the bytes of their block
rejoin : (xs : List ℕ) → Bytes xs → 8 ≤ length xs → bytes_of (block_at xs 0) ++ drop 8 xs ≡ xs
rejoin (a ∷ b ∷ c ∷ d ∷ e ∷ f ∷ g ∷ h ∷ xs) p l =
    let q = p.1.1.1.1 in
    let left = word_bytes-word a b c d p.0 p.1.0 p.1.1.0 p.1.1.1.0 in
    let right = word_bytes-word e f g h q.0 q.1.0 q.1.1.0 q.1.1.1.0 in
    λ i. left i ++ (right i ++ xs)
rejoin [] p l = absurd (omega arith)
rejoin (a ∷ []) p l = absurd (omega arith)
rejoin (a ∷ b ∷ []) p l = absurd (omega arith)
rejoin (a ∷ b ∷ c ∷ []) p l = absurd (omega arith)
rejoin (a ∷ b ∷ c ∷ d ∷ []) p l = absurd (omega arith)
rejoin (a ∷ b ∷ c ∷ d ∷ e ∷ []) p l = absurd (omega arith)
rejoin (a ∷ b ∷ c ∷ d ∷ e ∷ f ∷ []) p l = absurd (omega arith)
rejoin (a ∷ b ∷ c ∷ d ∷ e ∷ f ∷ g ∷ []) p l = absurd (omega arith)

bytes_cut : (n : ℕ) (xs : List ℕ) → Bytes xs → length xs ≡ n * 8 → bytes (cut n xs) ≡ xs
bytes_cut zero xs p e = sym (nil_from_length xs (omega arith))
bytes_cut (suc n) xs p e =
    ap (λ (l : List ℕ). bytes_of (block_at xs 0) ++ l) (bytes_cut n (drop 8 xs) (All-drop _ 8 xs p) (omega (arith, length-drop 8 xs)))
    ∙ rejoin xs p (omega arith)

pub bytes-blocks : (xs : List ℕ) → Bytes xs → length xs % 8 ≡ 0 → bytes (blocks xs) ≡ xs
bytes-blocks xs p w = bytes_cut (length xs / 8) xs p (omega arith)

byte_at : (xs : List ℕ) (i : ℕ) → Bytes xs → get_or xs i 0 < 256
byte_at [] i p = omega arith
byte_at (x ∷ xs) zero p = p.0
byte_at (x ∷ xs) (suc i) p = byte_at xs i p.1

cut_sound : (n : ℕ) (xs : List ℕ) → Bytes xs → AllByRecursion Sound (cut n xs)
cut_sound zero xs p = tt
cut_sound (suc n) xs p =
    let at : (i : ℕ) → get_or xs i 0 < 256 = λ i. byte_at xs i p in (
      (word_low _ _ _ _ (at 0) (at 1) (at 2) (at 3), word_low _ _ _ _ (at 4) (at 5) (at 6) (at 7)),
      cut_sound n (drop 8 xs) (All-drop _ 8 xs p),
    )

pub blocks_sound : (xs : List ℕ) → Bytes xs → AllByRecursion Sound (blocks xs)
blocks_sound xs p = cut_sound (length xs / 8) xs p

pub bytes_proper : (bs : List Block) → Bytes (bytes bs)
bytes_proper [] = tt
bytes_proper (b ∷ bs) = (omega arith, (omega arith, (omega arith, (omega arith, (omega arith, (omega arith, (omega arith, (omega arith, bytes_proper bs))))))))

pub length-bytes : (bs : List Block) → length (bytes bs) ≡ 8 * length bs
length-bytes [] = refl
length-bytes (b ∷ bs) = omega (arith, length-bytes bs)

-- xor undoes itself
xor_twice : (a b : Block) → xor (xor a b) b ≡ a
xor_twice a b =
    let l = words.xor_twice a.left b.left in
    let r = words.xor_twice a.right b.right in
    λ i. record { left = l i; right = r i }

xor_sound : (a b : Block) → Sound a → Sound b → Sound (xor a b)
xor_sound a b p q = (xor_lt 32 _ _ p.0 q.0, xor_lt 32 _ _ p.1 q.1)

-- g takes back what f does, one block at a time, and both chain on alike
pub record Undoes (f g : Block → Block → Step) : Type 0 where
  pub out_sound : (s t : Block) → Sound s → Sound t → Sound (f s t).out
  pub chain_sound : (s t : Block) → Sound s → Sound t → Sound (f s t).chain
  pub back : (s t : Block) → Sound s → Sound t → (g s (f s t).out).out ≡ t
  pub along : (s t : Block) → Sound s → Sound t → (g s (f s t).out).chain ≡ (f s t).chain

module _ {f g : Block → Block → Step} (u : Undoes f g) where
  pub outs_sound : (s : Block) (ts : List Block) → Sound s → AllByRecursion Sound ts → AllByRecursion Sound (outs f s ts)
  outs_sound s [] p q = tt
  outs_sound s (t ∷ ts) p q = (u.out_sound s t p q.0, outs_sound (f s t).chain ts (u.chain_sound s t p q.0) q.1)

  pub outs_back : (s : Block) (ts : List Block) → Sound s → AllByRecursion Sound ts → outs g s (outs f s ts) ≡ ts
  outs_back s [] p q = refl
  outs_back s (t ∷ ts) p q =
      let next = (f s t).chain in
      ap (λ (c : Block). (g s (f s t).out).out ∷ outs g c (outs f next ts)) (u.along s t p q.0)
      ∙ ap (λ (b : Block). b ∷ outs g next (outs f next ts)) (u.back s t p q.0)
      ∙ ap (λ (l : List Block). t ∷ l) (outs_back next ts (u.chain_sound s t p q.0) q.1)

  pub after_back : (s : Block) (ts : List Block) → Sound s → AllByRecursion Sound ts → after g s (outs f s ts) ≡ after f s ts
  after_back s [] p q = refl
  after_back s (t ∷ ts) p q =
      let next = (f s t).chain in
      ap (λ (c : Block). after g c (outs f next ts)) (u.along s t p q.0)
      ∙ after_back next ts (u.chain_sound s t p q.0) q.1

pub length-outs : (f : Block → Block → Step) (s : Block) (ts : List Block) → length (outs f s ts) ≡ length ts
length-outs f s [] = refl
length-outs f s (t ∷ ts) = omega (arith, length-outs f (f s t).chain ts)

module _ {E D : Block → Block} (k : Inverse E D) where
  -- the text enciphered, and back
  pub undone : (m : Mode) → Undoes (forward m E) (backward m E D)
  undone Ecb = record {
    out_sound = λ s t p q. k.enc_sound t q;
    chain_sound = λ s t p q. p;
    back = λ s t p q. k.dec_enc t q;
    along = λ s t p q. refl;
  }
  undone Cbc = record {
    out_sound = λ s t p q. k.enc_sound _ (xor_sound t s q p);
    chain_sound = λ s t p q. k.enc_sound _ (xor_sound t s q p);
    back = λ s t p q. ap (λ (b : Block). xor b s) (k.dec_enc (xor t s) (xor_sound t s q p)) ∙ xor_twice t s;
    along = λ s t p q. refl;
  }
  undone Cfb = record {
    out_sound = λ s t p q. xor_sound t _ q (k.enc_sound s p);
    chain_sound = λ s t p q. xor_sound t _ q (k.enc_sound s p);
    back = λ s t p q. xor_twice t (E s);
    along = λ s t p q. refl;
  }
  undone Ofb = record {
    out_sound = λ s t p q. xor_sound t _ q (k.enc_sound s p);
    chain_sound = λ s t p q. k.enc_sound s p;
    back = λ s t p q. xor_twice t (E s);
    along = λ s t p q. refl;
  }

  -- and the cipher blocks deciphered, and forth
  pub redone : (m : Mode) → Undoes (backward m E D) (forward m E)
  redone Ecb = record {
    out_sound = λ s t p q. k.dec_sound t q;
    chain_sound = λ s t p q. p;
    back = λ s t p q. k.enc_dec t q;
    along = λ s t p q. refl;
  }
  redone Cbc = record {
    out_sound = λ s t p q. xor_sound _ s (k.dec_sound t q) p;
    chain_sound = λ s t p q. q;
    back = λ s t p q. ap E (xor_twice (D t) s) ∙ k.enc_dec t q;
    along = λ s t p q. ap E (xor_twice (D t) s) ∙ k.enc_dec t q;
  }
  redone Cfb = record {
    out_sound = λ s t p q. xor_sound t _ q (k.enc_sound s p);
    chain_sound = λ s t p q. q;
    back = λ s t p q. xor_twice t (E s);
    along = λ s t p q. xor_twice t (E s);
  }
  redone Ofb = record {
    out_sound = λ s t p q. xor_sound t _ q (k.enc_sound s p);
    chain_sound = λ s t p q. k.enc_sound s p;
    back = λ s t p q. xor_twice t (E s);
    along = λ s t p q. refl;
  }

  -- what deciphering leaves is the one text
  pub one_text : (m : Mode) (s : Block) (given text : List ℕ) → Sound s → Bytes given → Whole given → text ≡ bytes (outs (backward m E D) s (blocks given)) → OneText m E s given text
  one_text m s given text p q w e =
      let ts = outs (backward m E D) s (blocks given) in
      let sound : AllByRecursion Sound ts = outs_sound (redone m) s (blocks given) p (blocks_sound given q) in
      let same : blocks text ≡ ts = ap blocks e ∙ blocks-bytes ts sound in
      let long : length given ≡ 8 * length (blocks given) = sym (ap length (bytes-blocks given q w.0)) ∙ length-bytes (blocks given) in
      let size : length text ≡ length given = ap length e ∙ length-bytes ts ∙ ap (λ n. 8 * n) (length-outs (backward m E D) s (blocks given)) ∙ sym long in
      record {
        proper = subst Bytes (sym e) (bytes_proper ts);
        whole = (ap (λ n. n % 8) size ∙ w.0, omega (arith, w.1));
        enciphers = ap (λ (l : List Block). bytes (outs (forward m E) s l)) same ∙ ap bytes (outs_back (redone m) s (blocks given) p (blocks_sound given q)) ∙ bytes-blocks given q w.0;
        only = λ other b v f.
            let os = blocks other in
            let cs = outs (forward m E) s os in
            let osound = blocks_sound other b in
            let given_is : blocks given ≡ cs = ap blocks (sym f) ∙ blocks-bytes cs (outs_sound (undone m) s os p osound) in
            sym (bytes-blocks other b v.0) ∙ ap bytes (sym (outs_back (undone m) s os p osound)) ∙ ap (λ (l : List Block). bytes (outs (backward m E D) s l)) (sym given_is) ∙ sym e;
      }

  pub goes_on : (m : Mode) (s : Block) (given text : List ℕ) → Sound s → Bytes given → text ≡ bytes (outs (backward m E D) s (blocks given)) → after (backward m E D) s (blocks given) ≡ following m E s text
  goes_on m s given text p q e =
      let ts = outs (backward m E D) s (blocks given) in
      let sound : AllByRecursion Sound ts = outs_sound (redone m) s (blocks given) p (blocks_sound given q) in
      let same : blocks text ≡ ts = ap blocks e ∙ blocks-bytes ts sound in
      sym (after_back (redone m) s (blocks given) p (blocks_sound given q)) ∙ ap (after (forward m E) s) (sym same)

pub length-enciphered : (m : Mode) (E : Block → Block) (s : Block) (xs : List ℕ) → Bytes xs → Whole xs → length (enciphered m E s xs) ≡ length xs
length-enciphered m E s xs b w =
    length-bytes (outs (forward m E) s (blocks xs)) ∙ ap (λ n. 8 * n) (length-outs (forward m E) s (blocks xs))
    ∙ sym (length-bytes (blocks xs)) ∙ ap length (bytes-blocks xs b w.0)

-- a text is the one that enciphers to what it was enciphered to
pub one_before : {E D : Block → Block} (k : Inverse E D) (m : Mode) (s : Block) (old new : List ℕ) → Sound s → Bytes old → Whole old
    → new ≡ enciphered m E s old → OneText m E s new old
one_before {E} {D} k m s old new p b w e =
    let back : (text : List ℕ) → Bytes text → Whole text → bytes (outs (backward m E D) s (blocks (enciphered m E s text))) ≡ text
    = λ text c v.
    let cs = outs (forward m E) s (blocks text) in
    let sound = blocks_sound text c in
    ap (λ (l : List Block). bytes (outs (backward m E D) s l)) (blocks-bytes cs (outs_sound (undone k m) s (blocks text) p sound))
    ∙ ap bytes (outs_back (undone k m) s (blocks text) p sound) ∙ bytes-blocks text c v.0 in
    record {
      proper = b;
      whole = w;
      enciphers = sym e;
      only = λ other c v f.
          sym (back other c v) ∙ ap (λ l. bytes (outs (backward m E D) s (blocks l))) (f ∙ e) ∙ back old b w;
    }
