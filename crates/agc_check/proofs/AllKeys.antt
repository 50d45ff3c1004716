-- All words name keys if none does not.
use Rattle.std.proofs.Common.{◌≡◌, ◌∙◌, not, List, [], ◌∷◌, refl}
use Rattle.std.specs.Prelude.{Option, Some, None, is_none, is_some, option_map}
use Rattle.std.specs.List.{list_any}
use Rattle.agc_script.specs.declared.key.Key.{Key}
use Rattle.agc_load.specs.Keys.{all_there}

some_with : (key : Key) (keys : Option (List Key)) → is_some keys ≡ is_some (option_map (λ others. key ∷ others) keys)
some_with key None = refl
some_with key (Some keys) = refl

-- the keys are all there exactly if none is missing
pub none_missing : (found : List (Option Key)) → not (list_any is_none found) ≡ is_some (all_there found)
unfolding all_there
none_missing [] = refl
none_missing (None ∷ others) = refl
none_missing (Some key ∷ others) = none_missing others ∙ some_with key (all_there others)
