-- One of two ciphers, by cases.
--   by_case f g c    f of the first, or g of the second, whichever c is
--   is_first c       whether c is the first
use Rattle.std.specs.Prelude.{Bool, true, false}
use Rattle.cipher.specs.declared.block.Block.{Block}
use Rattle.cipher.specs.declared.one_of.OneOf.{OneOf}
use Rattle.cipher.specs.declared.one_of.OneOf.TheVariants.{First, Second}
use Rattle.cipher.specs.Blocks.{Inverse}

abbrev pub by_case {ℓ} : {X Y : Type 0} {T : Type ℓ} → (X → T) → (Y → T) → OneOf X Y → T
by_case f g (First x) = f x
by_case f g (Second y) = g y

abbrev pub is_first : {X Y : Type 0} → OneOf X Y → Bool
is_first (First x) = true
is_first (Second y) = false

-- E and D of either undo each other, so those of one of them do
pub inverse_by_case : {X Y : Type 0} (E D : X → Block → Block) (F G : Y → Block → Block)
    → ((x : X) → Inverse (E x) (D x)) → ((y : Y) → Inverse (F y) (G y)) → (c : OneOf X Y) → Inverse (by_case E F c) (by_case D G c)
inverse_by_case E D F G first second (First x) = first x
inverse_by_case E D F G first second (Second y) = second y
