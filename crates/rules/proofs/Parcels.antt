-- Parcels: what is sealed is read, and a parcel says one thing.
use Rattle.std.proofs.Common.{◌≡◌, ℕ, ◌+◌, ◌<◌, ◌≤◌, cond, eqb, List, ◌++◌, length, sym, refl, ap, ◌∙◌, subst, arith, length-append}
use mathlib.Core.Path.{transport}
use Rattle.cipher.specs.declared.block.Block.{Block}
use Rattle.cipher.specs.Blocks.{Sound, Inverse}
use Rattle.cipher.specs.Bytes.{bytes_of}
use Rattle.modes.specs.declared.mode.Mode.{Mode}
use Rattle.modes.specs.declared.mode.Mode.TheVariants.{Ecb, Cbc, Cfb, Ofb}
use Rattle.modes.specs.Cmac.{tag_of}
use Rattle.modes.specs.Names.{called}
use Rattle.modes.specs.Texts.{Whole, OneText}
use Rattle.modes.proofs.Back.{length-enciphered, one_before}
use Rattle.rules.specs.Registers.{State, Lawful}
use Rattle.rules.specs.Bundles.{Bundle, told, entries_of, bundle_of, padded, PadsTo}
use Rattle.rules.specs.Parcels.{header, start_of, body_of, front_of, parcel_of, Parcel, Text, Reads}
use Rattle.rules.specs.Laws.{SealedReads, SealedIsRead}
use Rattle.rules.proofs.Encoding.{two_one, word_one, append_apart, one_list, encoding-length, encoding_most, encoding-bytes}
use Rattle.rules.proofs.Copies.{entries_lawful, told_entries}
use Rattle.rules.proofs.Padding.{padded-length, padded_whole, padded-bytes, padded_pads, pads_one}

-- ---- what is sealed is read

module _ (E1 D1 E2 : Block → Block) (k : Inverse E1 D1) (m : Mode) (s : State) (L : Lawful s) (notEcb : m ≡ Ecb → ⊥) (more : s.serial < 65535) where
  text : List ℕ
  text = padded (bundle_of s)

  text_length : (8 ≤ length text) × (length text ≤ 8200)
  unfolding text
  text_length =
      let l = padded-length (bundle_of s) in
      let n = encoding-length (entries_of s) in
      let x = encoding_most (entries_of s) (entries_lawful s L) in
      (omega (arith, l, n), omega (arith, l, x))

  text_whole : Whole text
  unfolding text
  text_whole = (padded_whole (bundle_of s), omega (arith, text_length.1))

  start_sound : Sound (start_of E1 s.station (s.serial + 1))
  start_sound = k.enc_sound _ (omega (arith, L.station_fits), omega (arith, more))

  body : List ℕ
  body = body_of E1 m s.station (s.serial + 1) (bundle_of s)

  body-length : length body ≡ length text
  unfolding body text
  body-length = length-enciphered m E1 (start_of E1 s.station (s.serial + 1)) text (padded-bytes (bundle_of s) (encoding-bytes (entries_of s) (entries_lawful s L))) text_whole

  whole_length : length (parcel_of E1 E2 m s) ≡ 16 + length text
  unfolding body
  whole_length = omega (arith, body-length, length-append body (bytes_of (tag_of E2 (front_of E1 m s))))

  read : SealedReads E1 E2 m s
  unfolding body text
  read =
      record {
        size = (omega (arith, whole_length, text_length.0), omega (arith, whole_length, text_length.1), omega (arith, whole_length, text_whole.0));
        parcel = record {
          mode = m;
          station = s.station;
          serial = s.serial + 1;
          body = body;
          tag = bytes_of (tag_of E2 (front_of E1 m s));
          not_ecb = notEcb;
          station_fits = L.station_fits;
          serial_least = omega arith;
          serial_most = omega (arith, more);
          tag_length = refl;
          is = refl;
        };
        tagged = refl;
        reads = (
          text,
          one_before k m (start_of E1 s.station (s.serial + 1)) text body start_sound (padded-bytes (bundle_of s) (encoding-bytes (entries_of s) (entries_lawful s L))) text_whole refl,
          padded_pads (bundle_of s),
        );
      }

pub sealed_is_read : SealedIsRead
sealed_is_read E1 D1 E2 k m s L n more = read E1 D1 E2 k m s L n more

-- ---- a parcel is taken apart in one way

-- the mode of a code
mode_of : ℕ → Mode
mode_of c = cond (eqb c 1) Ecb (cond (eqb c 2) Cbc (cond (eqb c 3) Cfb Ofb))

mode_of_code : (m : Mode) → mode_of (called m).1 ≡ m
unfolding mode_of
mode_of_code Ecb = refl
mode_of_code Cbc = refl
mode_of_code Cfb = refl
mode_of_code Ofb = refl

code_one : (m n : Mode) → (called m).1 ≡ (called n).1 → m ≡ n
code_one m n h = sym (mode_of_code m) ∙ ap mode_of h ∙ mode_of_code n

pub record Alike {bytes given : List ℕ} (p : Parcel bytes) (q : Parcel given) : Type 0 where
  pub mode : p.mode ≡ q.mode
  pub station : p.station ≡ q.station
  pub serial : p.serial ≡ q.serial
  pub body : p.body ≡ q.body
  pub tag : p.tag ≡ q.tag

pub parcel_one : (bytes given : List ℕ) → bytes ≡ given → (p : Parcel bytes) (q : Parcel given) → Alike p q
parcel_one bytes given e p q =
    let h : header p.mode p.station p.serial ++ (p.body ++ p.tag) ≡ header q.mode q.station q.serial ++ (q.body ++ q.tag) = sym p.is ∙ e ∙ q.is in
    let t : p.body ++ p.tag ≡ q.body ++ q.tag = cc h in
    let l : length p.body ≡ length q.body = omega (arith, ap length t, length-append p.body p.tag, length-append q.body q.tag, p.tag_length, q.tag_length) in
    let r = append_apart p.body q.body p.tag q.tag l t in
    record {
      mode = code_one p.mode q.mode (cc h);
      station = two_one p.station q.station (omega (arith, p.station_fits)) (omega (arith, q.station_fits)) (cc h) (cc h);
      serial = word_one p.serial q.serial (omega (arith, p.serial_most)) (omega (arith, q.serial_most)) (cc h) (cc h) (cc h) (cc h);
      body = r.0;
      tag = r.1;
    }

-- ---- and says one thing

pub text_one : (E1 : Block → Block) {bytes given : List ℕ} (p : Parcel bytes) (q : Parcel given) → Alike p q → (a b : List ℕ) → Text E1 p a → Text E1 q b → b ≡ a
text_one E1 p q e a b P Q =
    let moved : Text E1 p b = transport (λ i. OneText (sym e.mode i) E1 (start_of E1 (sym e.station i) (sym e.serial i)) (sym e.body i) b) Q in
    P.only b moved.proper moved.whole moved.enciphers

pub reads_one : (E1 : Block → Block) {bytes given : List ℕ} (p : Parcel bytes) (q : Parcel given) → Alike p q → (xs ys : List ℕ) → Reads E1 p xs → Reads E1 q ys → xs ≡ ys
reads_one E1 p q e xs ys (a, P, x) (b, Q, y) = pads_one xs ys a x (subst (λ t. PadsTo ys t) (text_one E1 p q e a b P Q) y)

pub bundle_one : (xs ys : List ℕ) → xs ≡ ys → (b : Bundle xs) (d : Bundle ys) → b.entries ≡ d.entries
bundle_one xs ys e b d = one_list b.entries d.entries b.lawful d.lawful (b.spelled ∙ e ∙ sym d.spelled)

-- what is read out of a sealed parcel tells what stood at its register
pub sealed_told : (E1 D1 E2 : Block → Block) → Inverse E1 D1 → (m : Mode) (s : State) → Lawful s → (m ≡ Ecb → ⊥) → s.serial < 65535
    → (bytes : List ℕ) → bytes ≡ parcel_of E1 E2 m s → (p : Parcel bytes) (xs : List ℕ) → Reads E1 p xs → (b : Bundle xs) → (n : ℕ) → told b.entries n ≡ s.standing n
sealed_told E1 D1 E2 k m s L notEcb more bytes e p xs r b n =
    let w = sealed_is_read E1 D1 E2 k m s L notEcb more in
    let same : xs ≡ bundle_of s = reads_one E1 p w.parcel (parcel_one bytes (parcel_of E1 E2 m s) e p w.parcel) xs (bundle_of s) r w.reads in
    let own : Bundle (bundle_of s) = record { entries = entries_of s; lawful = entries_lawful s L; spelled = refl } in
    ap (λ es. told es n) (bundle_one xs (bundle_of s) same b own) ∙ told_entries s L n
