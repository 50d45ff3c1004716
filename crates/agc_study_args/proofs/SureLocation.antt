-- A location that no unknown bank decides is the one that the address names.
use Rattle.std.proofs.Common.{◌≡◌, ℕ, ◌/◌, ◌%◌, ◌-◌, Bool, true, false, sym, refl, inl, inr, nat_le, nat_lt, arith}
use Rattle.std.specs.Prelude.{Some}
use Rattle.std.proofs.lemmas.Bool.Decides.{nat_tests}
use Rattle.agc_store.specs.Memory.{Memory, erasable_place, fixed_place, selected_bank}
use Rattle.agc_store.specs.Places.{erasable_window, fixed_bank_size, fixed_fixed, fixed_window}
use Rattle.agc_listing.specs.Location.{is_fixed_fixed, location_at, location_in}
use Rattle.agc_listing.specs.declared.location.Location.{Location}
use Rattle.agc_listing.specs.SureLocation.{sure_location}
use Rattle.agc_study_args.specs.NamedList.{RunsAt}

low_is_erasable : (address : ℕ) → nat_lt address erasable_window ≡ true → nat_lt address fixed_window ≡ true
low_is_erasable address low = grind (arith, nat_tests)

is_past : (address from : ℕ) → nat_lt address from ≡ false → nat_le from address ≡ true
is_past address from past = grind (arith, nat_tests)

is_before : (address from : ℕ) → nat_lt address from ≡ true → nat_le from address ≡ false
is_before address from before = grind (arith, nat_tests)

low_is_before : (address : ℕ) → nat_lt address fixed_window ≡ true → nat_le fixed_fixed address ≡ false
low_is_before address low = grind (arith, nat_tests)

offset_in_window : (address : ℕ) → nat_lt address fixed_window ≡ false → nat_lt address fixed_fixed ≡ true → address % fixed_bank_size ≡ address - fixed_window
offset_in_window address e w = grind (arith, nat_tests)

module _ (m : Memory) (place address : ℕ) (at : Location) (sure : sure_location place address ≡ Some at) where
  in_own : (l : nat_lt address erasable_window ≡ false) (e : nat_lt address fixed_window ≡ false) (w : nat_lt address fixed_fixed ≡ true) (own : is_fixed_fixed place ≡ false)
      → place / fixed_bank_size ≡ selected_bank m → location_in m address ≡ at
  unfolding sure_location location_at location_in erasable_place fixed_place
  in_own l e w own bank =
      let found = rw (l, is_before address fixed_fixed w, is_past address fixed_window e, own, e, w) at sure in
      rw (e, w, sym bank, sym (offset_in_window address e w)) cc

  in_window : (l : nat_lt address erasable_window ≡ false) (e : nat_lt address fixed_window ≡ false) (w : nat_lt address fixed_fixed ≡ true)
      → (elsewhere : Bool) → is_fixed_fixed place ≡ elsewhere → RunsAt m place → location_in m address ≡ at
  unfolding sure_location
  in_window l e w true own runs =
      let found = rw (l, is_before address fixed_fixed w, is_past address fixed_window e, own) at sure in cc
  in_window l e w false own (inl other) = cc
  in_window l e w false own (inr bank) = in_own l e w own bank

  above : (l : nat_lt address erasable_window ≡ false) (e : nat_lt address fixed_window ≡ false)
      → (window : Bool) → nat_lt address fixed_fixed ≡ window → RunsAt m place → location_in m address ≡ at
  unfolding sure_location location_at location_in erasable_place fixed_place
  above l e true w runs = in_window l e w (is_fixed_fixed place) refl runs
  above l e false w runs =
      let found = rw (l, is_past address fixed_fixed w, e, w) at sure in
      rw (e, w) cc

  past_low : (l : nat_lt address erasable_window ≡ false)
      → (erasable : Bool) → nat_lt address fixed_window ≡ erasable → RunsAt m place → location_in m address ≡ at
  unfolding sure_location
  past_low l true e runs =
      let found = rw (l, low_is_before address e, is_before address fixed_window e) at sure in cc
  past_low l false e runs = above l e (nat_lt address fixed_fixed) refl runs

  by_address : (low : Bool) → nat_lt address erasable_window ≡ low → RunsAt m place → location_in m address ≡ at
  unfolding sure_location location_at location_in erasable_place fixed_place
  by_address true l runs =
      let found = rw l at sure in
      let e = low_is_erasable address l in
      rw (e, l) cc
  by_address false l runs = past_low l (nat_lt address fixed_window) refl runs

pub is_addressed : (m : Memory) (place address : ℕ) (at : Location) → RunsAt m place → sure_location place address ≡ Some at → location_in m address ≡ at
is_addressed m place address at runs sure = by_address m place address at sure (nat_lt address erasable_window) refl runs
