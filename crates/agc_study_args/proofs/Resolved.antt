-- The values of an option, resolved one after the other.
use Rattle.std.proofs.Common.{◌≡◌, List, [], ◌∷◌, ◌++◌, string_bytes}
use Rattle.std.specs.Prelude.{ℕ, Option, Result, Ok, Err}
use Rattle.std.specs.declared.alloc.Global.{Global}
use Rattle.std.specs.declared.string.String.{String}
use Rattle.agc_cli.specs.declared.fault.ArgsFault.{ArgsFault}
use Rattle.agc_cli.specs.declared.fault.ArgsFault.TheVariants as fault
use Rattle.agc_symbols.specs.Channels.{ChannelSymbol}
use Rattle.agc_symbols.specs.Symbols.{Symbol}
use Rattle.agc_listing.specs.declared.location_range.LocationRange.{LocationRange}
use Rattle.agc_listing.specs.declared.location_range.RangeFault.{RangeFault}
use Rattle.agc_study_args.specs.Joined.{joined}
use Rattle.agc_study_args.specs.Locations.{IsMistake, IsRejected, all_resolved, resolved_by, unresolved_text}
use Rattle.agc_study_args.specs.declared.locations.LocationOption.{LocationOption}

-- a value that names locations
pub next_resolved : (option : LocationOption) (names : Option (List Symbol)) (channels : List ChannelSymbol) (done : List LocationRange) (text : String Global) (texts left : List (String Global)) (places : LocationRange)
    → left ≡ text ∷ texts → resolved_by option names (joined (string_bytes text)) ≡ Ok places
    → all_resolved option names channels done left ≡ all_resolved option names channels (done ++ places ∷ []) texts
unfolding all_resolved
next_resolved option names channels done text texts left places h e = rw (h, e, all_resolved)

-- a value that names none
pub next_unresolved : (option : LocationOption) (names : Option (List Symbol)) (channels : List ChannelSymbol) (done : List LocationRange) (text : String Global) (texts left : List (String Global)) (why : RangeFault)
    → left ≡ text ∷ texts → resolved_by option names (joined (string_bytes text)) ≡ Err why
    → all_resolved option names channels done left ≡ Err (unresolved_text option names channels (string_bytes text) why)
unfolding all_resolved
next_unresolved option names channels done text texts left why h e = rw (h, e, all_resolved)

-- no value is left
pub no_text_left : (option : LocationOption) (names : Option (List Symbol)) (channels : List ChannelSymbol) (done : List LocationRange) (left : List (String Global)) → left ≡ []
    → all_resolved option names channels done left ≡ Ok done
unfolding all_resolved
no_text_left option names channels done left h = rw (h, all_resolved)

-- the error that reports it
pub mistake_of : {A : Type 0} (resolved : Result A (List ℕ)) (line : List ℕ) (why : ArgsFault) → resolved ≡ Err line → IsMistake line why → IsRejected resolved why
mistake_of resolved line (fault.Command text) e same = rw (e, same)
mistake_of resolved line (fault.Help text) e same = same
mistake_of resolved line fault.Memory e same = same
