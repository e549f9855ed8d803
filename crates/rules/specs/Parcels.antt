-- The parcel: a bundle enciphered and tagged. E1 is the first cipher's E, E2 the second's.
--   header m station serial     the first eight bytes
--   start_of E1 station serial  the starting block
--   parcel_of E1 E2 m s         what a register in the state s seals in the mode m
--   Sized bytes                 24 to 8,216 bytes, a multiple of 8
--   Parcel bytes                a header within the rule, then a body, then eight bytes for the tag
--   Tagged E2 p                 the tag is that of header and body
--   Text E1 p text              text is the one text that enciphers to the body
--   Reads E1 p xs               that text is xs and its padding
use Rattle.std.specs.Prelude.{◌≡◌, ℕ, ◌+◌, ◌%◌, ◌≤◌, List, ◌∷◌, ◌++◌, length}
use Rattle.cipher.specs.declared.block.Block.{Block}
use Rattle.cipher.specs.Bytes.{word_bytes, bytes_of}
use Rattle.modes.specs.declared.mode.Mode.{Mode}
use Rattle.modes.specs.declared.mode.Mode.TheVariants.{Ecb}
use Rattle.modes.specs.Cmac.{tag_of}
use Rattle.modes.specs.Names.{called}
use Rattle.modes.specs.Texts.{enciphered, OneText}
use Rattle.rules.specs.Registers.{State}
use Rattle.rules.specs.Bundles.{two_bytes, bundle_of, padded, PadsTo}

-- version 1, mode code, station, serial
abbrev pub header : Mode → ℕ → ℕ → List ℕ
header m station serial = 1 ∷ (called m).1 ∷ (two_bytes station ++ word_bytes serial)

-- E of the block whose words are station and serial
abbrev pub start_of : (Block → Block) → ℕ → ℕ → Block
start_of E1 station serial = E1 (record { left = station; right = serial })

-- the padded bundle, enciphered from the starting block
abbrev pub body_of : (Block → Block) → Mode → ℕ → ℕ → List ℕ → List ℕ
body_of E1 m station serial xs = enciphered m E1 (start_of E1 station serial) (padded xs)

-- header and body
abbrev pub front_of : (Block → Block) → Mode → State → List ℕ
front_of E1 m s = header m s.station (s.serial + 1) ++ body_of E1 m s.station (s.serial + 1) (bundle_of s)

-- header, body and tag; the header has the raised serial
abbrev pub parcel_of : (Block → Block) → (Block → Block) → Mode → State → List ℕ
parcel_of E1 E2 m s = front_of E1 m s ++ bytes_of (tag_of E2 (front_of E1 m s))

abbrev pub Sized : List ℕ → Type 0
Sized bytes = (24 ≤ length bytes) × (length bytes ≤ 8216) × (length bytes % 8 ≡ 0)

-- version 1, a mode other than ECB, a serial from 1 to 65,535
pub record Parcel (bytes : List ℕ) : Type 0 where
  pub mode : Mode
  pub station : ℕ
  pub serial : ℕ
  pub body : List ℕ
  pub tag : List ℕ
  pub not_ecb : mode ≡ Ecb → ⊥
  pub station_fits : station ≤ 65535
  pub serial_least : 1 ≤ serial
  pub serial_most : serial ≤ 65535
  pub tag_length : length tag ≡ 8
  pub is : bytes ≡ header mode station serial ++ (body ++ tag)

abbrev pub Tagged : {bytes : List ℕ} → (Block → Block) → Parcel bytes → Type 0
Tagged E2 p = p.tag ≡ bytes_of (tag_of E2 (header p.mode p.station p.serial ++ p.body))

abbrev pub Text : {bytes : List ℕ} → (Block → Block) → Parcel bytes → List ℕ → Type 0
Text E1 p text = OneText p.mode E1 (start_of E1 p.station p.serial) p.body text

abbrev pub Reads : {bytes : List ℕ} → (Block → Block) → Parcel bytes → List ℕ → Type 0
Reads E1 p xs = (text : List ℕ) × Text E1 p text × PadsTo xs text
