-- The four modes, block by block.
--   forward m E c t     what the text block t becomes, chained to c, and what the next one is chained to
--   backward m E D c b  the same of a cipher block that is deciphered
--   outs f s bs         what blocks become, each chained to the one before, the first to s
--   after f s bs        the block with which a following piece starts
use Rattle.std.specs.Prelude.{List, [], ◌∷◌}
use Rattle.cipher.specs.declared.block.Block.{Block}
use Rattle.cipher.specs.Blocks.{xor}
use Rattle.modes.specs.declared.mode.Mode.{Mode}
use Rattle.modes.specs.declared.mode.Mode.TheVariants.{Ecb, Cbc, Cfb, Ofb}
use Rattle.modes.specs.declared.mode.Step.{Step}

abbrev pub forward : Mode → (Block → Block) → Block → Block → Step
forward Ecb E c t = record { out = E t; chain = c }
forward Cbc E c t = record { out = E (xor t c); chain = E (xor t c) }
forward Cfb E c t = record { out = xor t (E c); chain = xor t (E c) }
forward Ofb E o t = record { out = xor t (E o); chain = E o }

abbrev pub backward : Mode → (Block → Block) → (Block → Block) → Block → Block → Step
backward Ecb E D c b = record { out = D b; chain = c }
backward Cbc E D c b = record { out = xor (D b) c; chain = b }
backward Cfb E D c b = record { out = xor b (E c); chain = b }
backward Ofb E D o b = record { out = xor b (E o); chain = E o }

abbrev pub outs : (Block → Block → Step) → Block → List Block → List Block
outs f s [] = []
outs f s (b ∷ bs) = (f s b).out ∷ outs f (f s b).chain bs

abbrev pub after : (Block → Block → Step) → Block → List Block → Block
after f s [] = s
after f s (b ∷ bs) = after f (f s b).chain bs
