-- Each row computes.
use Rattle.std.proofs.Common.{refl}
use Rattle.blowfish.specs.Blowfish as blowfish
use Rattle.blowfish.specs.Blowfish.{odd_round, even_round}
use Rattle.blowfish.specs.Schedule.{initial, scheduled, filled, filled_p, filled_box, step_p, step_s, mixed, mix_word}
use Rattle.xtea.specs.Xtea as xtea
use Rattle.xtea.specs.Xtea.{cycled}
use Rattle.worked.proofs.rows.Goals as goal

pub returns-clause-table : goal.returns-clause-table
unfolding cycled xtea.cycles blowfish.enciphering odd_round even_round initial scheduled filled filled_p filled_box step_p step_s mixed mix_word
returns-clause-table c =
    record {
      words_of_a_key = (refl, refl, refl);
      f_of_words = refl;
      first_cycle = refl;
      xtea_vector = refl;
      blowfish_vector = refl;
      top_bit_doubled = refl;
    }
