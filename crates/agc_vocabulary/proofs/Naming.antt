-- Adding the name of a line.
use Rattle.std.specs.Prelude.{◌≡◌, ℕ, List, Option}
use Rattle.std.proofs.Common.{ap}
use Rattle.std.proofs.Math.Path.{fun_ext}
use Rattle.agc_vocabulary.specs.Name.{Naming, with_channel, with_given, with_name, with_taken}
use Rattle.agc_listing.specs.declared.location.Location.{Location}

abbrev naming_with : (List ℕ → Option Location) → (List ℕ → Option ℕ) → (List ℕ → Option Location) → Naming
naming_with guess channels given = record { given = given; guess = guess; channels = channels }

pub one_more : (before after guess : List ℕ → Option Location) (channels : List ℕ → Option ℕ) (name : List ℕ) (place : Location) → ((other : List ℕ) → after other ≡ with_given before name place other)
    → record { given = after; guess = guess; channels = channels } ≡ with_name (record { given = before; guess = guess; channels = channels }) name place
one_more before after guess channels name place h = ap (naming_with guess channels) (fun_ext h)

-- and a name that a line takes as a channel's
abbrev naming_taking : (List ℕ → Option Location) → (List ℕ → Option Location) → (List ℕ → Option ℕ) → Naming
naming_taking given guess channels = record { given = given; guess = guess; channels = channels }

pub one_more_channel : (given guess : List ℕ → Option Location) (before after : List ℕ → Option ℕ) (name : List ℕ) (line : ℕ) → ((other : List ℕ) → after other ≡ with_taken before name line other)
    → record { given = given; guess = guess; channels = after } ≡ with_channel (record { given = given; guess = guess; channels = before }) name line
one_more_channel given guess before after name line h = ap (naming_taking given guess) (fun_ext h)
