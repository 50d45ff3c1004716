-- How often something happened and how many cycles it took, and tables of such tallies.
use Rattle.std.specs.Prelude.{ℕ, ◌+◌, ◌*◌, ◌==◌, ◌&&◌, not, Bool, List, drop, get_or, replicate, set, take}
use Rattle.std.specs.List.{sum_by}
use Rattle.agc_profile.specs.declared.tally.Tally.{Tally}

abbrev pub nothing : Tally
nothing = record { times = 0; cycles = 0 }

abbrev pub once : ℕ → Tally
once cycles = record { times = 1; cycles = cycles }

abbrev pub plus : Tally → Tally → Tally
plus x y = record { times = x.times + y.times; cycles = x.cycles + y.cycles }

-- a table of this many tallies in which nothing is counted yet
unfoldable pub empty_table : ℕ → List Tally
empty_table size = replicate size nothing

-- the tally at a place of a table
unfoldable pub tally_at : ℕ → List Tally → Tally
tally_at place table = get_or table place nothing

-- a table with a tally added at a place
unfoldable pub added : ℕ → Tally → List Tally → List Tally
added place tally table = set table place (plus (get_or table place nothing) tally)

-- the sum of several tallies
abbrev pub times_in : List Tally → ℕ
times_in tallies = sum_by (λ tally. tally.times) tallies

abbrev pub cycles_in : List Tally → ℕ
cycles_in tallies = sum_by (λ tally. tally.cycles) tallies

abbrev pub total_of : List Tally → Tally
total_of tallies = record { times = times_in tallies; cycles = cycles_in tallies }

-- the sum of a bank of this many places
unfoldable pub bank_tally : ℕ → ℕ → List Tally → Tally
bank_tally size bank table = total_of (take size (drop (size * bank) table))

-- it happened at all
abbrev pub is_counted : Tally → Bool
is_counted tally = not ((tally.times == 0) && (tally.cycles == 0))
