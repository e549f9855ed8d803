-- Refusals.
--   number_of e    the number of a refusal
--   layer_of n     the layer that a number tells
--   reason_of e    the bytes of its reason
--   Answers r P Q  P of what an accepted call answered, Q of the number of a refused one
use Rattle.std.specs.Prelude.{ℕ, cond, List, Ok, Err, codes, Result, nat_lt}
use Rattle.refusal.specs.declared.Layer.{Layer}
use Rattle.refusal.specs.declared.Layer.TheVariants.{Register, Parcel, Bundle, Cipher}
use Rattle.refusal.specs.declared.Refusal.{Refusal}
use Rattle.refusal.specs.declared.Refusal.TheVariants.{NumberOutOfRange, Withdrawn, NoLawfulCurve, AlreadyInForce, NoFreePlace, NotInForce, StageOffCurve, ParcelLength, Header, Tag, TooShort, Padding, NoLawfulBundle, OtherPoints, SerialUsedUp, KeyLength, TextLength, Mode}

abbrev pub number_of : Refusal → ℕ
number_of NumberOutOfRange = 1
number_of Withdrawn = 2
number_of NoLawfulCurve = 3
number_of AlreadyInForce = 4
number_of NoFreePlace = 5
number_of NotInForce = 6
number_of StageOffCurve = 7
number_of ParcelLength = 8
number_of Header = 9
number_of Tag = 10
number_of TooShort = 11
number_of Padding = 12
number_of NoLawfulBundle = 13
number_of OtherPoints = 14
number_of SerialUsedUp = 15
number_of KeyLength = 16
number_of TextLength = 17
number_of Mode = 18

-- 1 to 7 register, 8 to 12 parcel and buffers, 13 bundle, 14 and 15 register, from 16 on cipher and mode
abbrev pub layer_of : ℕ → Layer
layer_of n = cond (nat_lt n 8) Register (cond (nat_lt n 13) Parcel (cond (nat_lt n 14) Bundle (cond (nat_lt n 16) Register Cipher)))

abbrev pub reason_of : Refusal → List ℕ
reason_of NumberOutOfRange = codes "number outside 1 to 1024"
reason_of Withdrawn = codes "withdrawn"
reason_of NoLawfulCurve = codes "lists of unequal length or no lawful curve"
reason_of AlreadyInForce = codes "already in force"
reason_of NoFreePlace = codes "no free place"
reason_of NotInForce = codes "not in force"
reason_of StageOffCurve = codes "stage below the first point or above the last"
reason_of ParcelLength = codes "parcel length"
reason_of Header = codes "header: version, mode code or serial"
reason_of Tag = codes "tag"
reason_of TooShort = codes "buffer or list too short"
reason_of Padding = codes "padding"
reason_of NoLawfulBundle = codes "no lawful bundle"
reason_of OtherPoints = codes "a curve in force here has other points"
reason_of SerialUsedUp = codes "serial used up"
reason_of KeyLength = codes "key length"
reason_of TextLength = codes "text length"
reason_of Mode = codes "unknown mode, or a mode that may not be used here"

abbrev pub Answers : {X : Type 0} → Result X Refusal → (X → Type 0) → (ℕ → Type 0) → Type 0
Answers (Ok x) P Q = P x
Answers (Err e) P Q = Q (number_of e)
