use Rattle.session.proofs.ciphers.Ciphers.perform.Goals as goal

pub returns-in-Cipher : goal.returns-in-Cipher
returns-in-Cipher c = rw c.in-Cipher.is c.make.ensures

pub returns-in-Load : goal.returns-in-Load
returns-in-Load c = rw (c.in-Load.is, ← c.as_slice.ensures.value) c.load.ensures

pub returns-in-Encipher : goal.returns-in-Encipher
returns-in-Encipher c = rw c.in-Encipher.is c.turned.ensures

pub returns-in-Decipher : goal.returns-in-Decipher
returns-in-Decipher c = rw c.in-Decipher.is c.turned-in-Decipher.ensures

pub returns-in-Mode : goal.returns-in-Mode
returns-in-Mode c = rw c.in-Mode.is c.mode.ensures

pub returns-in-Tag : goal.returns-in-Tag
returns-in-Tag c = rw (c.in-Tag.is, ← c.as_slice-in-Tag.ensures.value) c.tag.ensures
