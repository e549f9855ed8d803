use Rattle.xtea.proofs.Lanes.{by_one}
use Rattle.xtea.proofs.words.U32x8Word.shift_left.Goals as goal

pub returns : goal.returns
returns c = λ k h. by_one _ c.args.self 8 c.args.places k c.fits-self.0 h
