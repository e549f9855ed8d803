use Rattle.worked.proofs.Bundles.{new_bundle, new_padded, new_parcel, seven_bundle, seven_parcel, bundle_of_five_and_seven}
use Rattle.worked.proofs.Curves.{k_is_lawful, k_at_100, k_at_minus_50, k_at_minus_1, k_at_400, k_at_401, k_at_minus_201}
use Rattle.worked.proofs.Seasons.{season_is_a_run}
use Rattle.worked.proofs.rules_rows.Goals as goal

pub returns-clause-table : goal.returns-clause-table
returns-clause-table c =
    record {
      k_is_lawful = k_is_lawful;
      k_at_100 = k_at_100;
      k_at_minus_50 = k_at_minus_50;
      k_at_minus_1 = k_at_minus_1;
      k_at_400 = k_at_400;
      k_at_401 = k_at_401;
      k_at_minus_201 = k_at_minus_201;
      new_bundle = new_bundle;
      new_padded = new_padded;
      new_parcel = new_parcel;
      seven_bundle = seven_bundle;
      seven_parcel = seven_parcel;
      bundle_of_five_and_seven = bundle_of_five_and_seven;
      season = season_is_a_run;
    }
