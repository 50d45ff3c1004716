-- The location that an order of a rope names, as far as its place decides it.
use Rattle.std.specs.Prelude.{ℕ, ◌/◌, ◌&&◌, ◌||◌, not, nat_le, nat_lt, Bool, Option, Some, None, if◌then◌else◌}
use Rattle.agc_store.specs.Places.{erasable_window, fixed_bank_size, fixed_fixed, fixed_window}
use Rattle.agc_listing.specs.Location.{is_fixed_fixed, location_at}
use Rattle.agc_listing.specs.declared.location.Location.{Location}

-- Whether no other bank decides what an address names for the order at a place. EB decides what the erasable window
-- shows. An order in the fixed window addresses its own bank there; one of banks 02 and 03 runs while any bank is there.
abbrev pub is_sure : ℕ → ℕ → Bool
is_sure here address =
    nat_lt address erasable_window || nat_le fixed_fixed address
    || (nat_le fixed_window address && not (is_fixed_fixed here))

-- the location that an address names for the order at a place of the rope, if it is sure
unfoldable pub sure_location : ℕ → ℕ → Option Location
sure_location here address =
    if is_sure here address then Some (location_at (here / fixed_bank_size) address) else None
