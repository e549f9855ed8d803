-- Kinds of cipher.
--   Keyed, Chosen    a keyed cipher, and one such or three in a row
--   kind_name k      the kind's name
--   keyed_kind c     the kind of a keyed cipher
--   chosen_kind c    the kind of a chosen one
use Rattle.std.specs.Prelude.{List, ℕ, codes}
use Rattle.blowfish.specs.declared.tables.Blowfish as blowfish
use Rattle.cipher.specs.declared.one_of.OneOf.{OneOf}
use Rattle.cipher.specs.declared.one_of.OneOf.TheVariants.{First as One, Second as Three}
use Rattle.cipher.specs.declared.one_of.OneOf.TheVariants.{First as Blowfish, Second as Xtea}
use Rattle.cipher.specs.declared.triple.Triple.{Triple}
use Rattle.xtea.specs.declared.Xtea as xtea
use Rattle.chosen.specs.declared.Kind.{Kind}
use Rattle.chosen.specs.declared.Kind.TheVariants as kind

abbrev pub Keyed : Type 0
Keyed = OneOf blowfish.Blowfish xtea.Xtea

abbrev pub Chosen : Type 0
Chosen = OneOf Keyed (Triple Keyed Keyed Keyed)

abbrev pub kind_name : Kind → List ℕ
kind_name kind.Blowfish = codes "blowfish"
kind_name kind.Xtea = codes "xtea"
kind_name kind.Triple = codes "triple"

abbrev pub keyed_kind : Keyed → Kind
keyed_kind (Blowfish _) = kind.Blowfish
keyed_kind (Xtea _) = kind.Xtea

abbrev pub chosen_kind : Chosen → Kind
chosen_kind (One c) = keyed_kind c
chosen_kind (Three _) = kind.Triple
