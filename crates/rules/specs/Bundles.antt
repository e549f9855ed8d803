-- The bundle: a register's copy as bytes.
--   Entry             a number with its standing
--   encoding xs       the bytes of a list of entries
--   LawfulList xs     entries by strictly rising number, lawful curves, at most 32 of them
--   Bundle bytes      a lawful bundle: these bytes are the encoding of a lawful list
--   told xs n         what the list tells of the number n, if anything
--   entries_of s      the entries of a register, by rising number
--   bundle_of s       the bundle of a register
--   padded xs         xs with 1 to 8 bytes, each equal to their count, up to a multiple of 8
--   PadsTo xs text    text is xs and k bytes equal to k, with k from 1 to 8
use Rattle.std.specs.Prelude.{◌≡◌, ℕ, zero, suc, ◌+◌, ◌-◌, ◌/◌, ◌%◌, ◌^◌, ◌<◌, ◌≤◌, cond, List, [], ◌∷◌, ◌++◌, length, replicate, ℤ, pos, negsuc, Some, None, Option, ◌==◌}
use Rattle.cipher.specs.Bytes.{word_bytes}
use Rattle.curve.specs.Curves.{Curve, LawfulCurve}
use Rattle.rules.specs.Registers.{Standing, State, in_force, withdrawn}

-- a number of two bytes, big-endian; word_bytes has four
abbrev pub two_bytes : ℕ → List ℕ
two_bytes n = n / 256 % 256 ∷ n % 256 ∷ []

-- a stage as a word: two's complement; negsuc n is −(n + 1)
abbrev pub stage_word : ℤ → ℕ
stage_word (pos n) = n
stage_word (negsuc n) = 2 ^ 32 - 1 - n

pub record Entry : Type 0 where
  pub number : ℕ
  pub standing : Standing

-- 1, a curve; 2, a withdrawal
abbrev pub kind : Standing → ℕ
kind (in_force c) = 1
kind withdrawn = 2

abbrev pub points_in : Standing → ℕ
points_in (in_force c) = length c
points_in withdrawn = 0

-- number, kind, points: four bytes
abbrev pub head : Entry → List ℕ
head x = two_bytes x.number ++ (kind x.standing ∷ points_in x.standing ∷ [])

abbrev pub heads : List Entry → List ℕ
heads [] = []
heads (x ∷ xs) = head x ++ heads xs

-- stage and flow: eight bytes a point
abbrev pub curve_bytes : Curve → List ℕ
curve_bytes [] = []
curve_bytes (p ∷ c) = word_bytes (stage_word p.stage) ++ (word_bytes p.flow ++ curve_bytes c)

abbrev pub body : Standing → List ℕ
body (in_force c) = curve_bytes c
body withdrawn = []

abbrev pub bodies : List Entry → List ℕ
bodies [] = []
bodies (x ∷ xs) = body x.standing ++ bodies xs

abbrev pub total_points : List Entry → ℕ
total_points [] = 0
total_points (x ∷ xs) = points_in x.standing + total_points xs

-- the count of entries, the total of points, the entries, and the bodies in the same order
abbrev pub encoding : List Entry → List ℕ
encoding xs = two_bytes (length xs) ++ (two_bytes (total_points xs) ++ (heads xs ++ bodies xs))

abbrev pub LawfulStanding : Standing → Type 0
LawfulStanding (in_force c) = LawfulCurve c
LawfulStanding withdrawn = Unit {0}

-- lawful entries whose numbers rise strictly, the first above b and the last at most 1,024
abbrev pub RisesAbove : ℕ → List Entry → Type 0
RisesAbove b [] = Unit {0}
RisesAbove b (x ∷ xs) = (b < x.number) × (x.number ≤ 1024) × LawfulStanding x.standing × RisesAbove x.number xs

abbrev pub curves_in : Standing → ℕ
curves_in (in_force c) = 1
curves_in withdrawn = 0

abbrev pub curves : List Entry → ℕ
curves [] = 0
curves (x ∷ xs) = curves_in x.standing + curves xs

pub record LawfulList (xs : List Entry) : Type 0 where
  pub rising : RisesAbove 0 xs
  pub few : curves xs ≤ 32

pub record Bundle (bytes : List ℕ) : Type 0 where
  pub entries : List Entry
  pub lawful : LawfulList entries
  pub spelled : encoding entries ≡ bytes

abbrev pub told : List Entry → ℕ → Option Standing
told [] n = None
told (x ∷ xs) n = cond (x.number == n) (Some x.standing) (told xs n)

abbrev pub entry_of : ℕ → Option Standing → List Entry
entry_of n None = []
entry_of n (Some x) = record { number = n; standing = x } ∷ []

-- the entries of the numbers from 1 to n
unfoldable pub entries_up_to : (ℕ → Option Standing) → ℕ → List Entry
entries_up_to f zero = []
entries_up_to f (suc n) = entries_up_to f n ++ entry_of (suc n) (f (suc n))

abbrev pub entries_of : State → List Entry
entries_of s = entries_up_to s.standing 1024

abbrev pub bundle_of : State → List ℕ
bundle_of s = encoding (entries_of s)

-- how many bytes of padding a text of n bytes gets
abbrev pub padding : ℕ → ℕ
padding n = 8 - n % 8

abbrev pub padded : List ℕ → List ℕ
padded xs = xs ++ replicate (padding (length xs)) (padding (length xs))

abbrev pub PadsTo : List ℕ → List ℕ → Type 0
PadsTo xs text = (k : ℕ) × (1 ≤ k) × (k ≤ 8) × (text ≡ xs ++ replicate k k)
