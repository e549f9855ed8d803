-- A whole text, block after block, by any step.
--   Ran f s old r new   from s, each block of `old` became what f makes of it, which is `new`; a following piece starts with r
--   Gives P f           whatever a step that P describes answers is f of what it was given
--   GivesEach P f       the same of eight blocks and eight others: f of each two that stand in the same place
--   before s bs         what each of bs is chained to, where each is chained to the one before it, and the first to s
--   pairwise f cs bs    f of each two blocks that stand in the same place
--   last s bs           the last of bs; s where there is none
--   by_pairs f          the step that makes f of a block and the one before it, and chains the next one to the block itself
use Rattle.std.specs.Prelude.{◌≡◌, ℕ, List, [], ◌∷◌, length}
use Rattle.cipher.specs.declared.block.Block.{Block}
use Rattle.modes.specs.declared.mode.Step.{Step}
use Rattle.modes.specs.Formulas.{outs, after}
use Rattle.modes.specs.Layout.{blocks, bytes}

abbrev pub Ran : (Block → Block → Step) → Block → List ℕ → Block → List ℕ → Type 0
Ran f s old r new = (new ≡ bytes (outs f s (blocks old))) × (r ≡ after f s (blocks old))

abbrev pub Gives : {A B C : Type 0} → (A → B → C → Type 0) → (A → B → C) → Type 0
Gives {A} {B} {C} P f = (a : A) (b : B) (c : C) → P a b c → c ≡ f a b

abbrev pub before : Block → List Block → List Block
before s [] = []
before s (b ∷ bs) = s ∷ before b bs

abbrev pub last : Block → List Block → Block
last s [] = s
last s (b ∷ bs) = last b bs

abbrev pub pairwise : (Block → Block → Block) → List Block → List Block → List Block
pairwise f [] bs = []
pairwise f (c ∷ cs) [] = []
pairwise f (c ∷ cs) (b ∷ bs) = f c b ∷ pairwise f cs bs

abbrev pub GivesEach : (List Block → List Block → List Block → Type 0) → (Block → Block → Block) → Type 0
GivesEach P f = (cs bs rs : List Block) → length cs ≡ 8 → length bs ≡ 8 → P cs bs rs → rs ≡ pairwise f cs bs

abbrev pub by_pairs : (Block → Block → Block) → Block → Block → Step
by_pairs f c b = record { out = f c b; chain = b }
