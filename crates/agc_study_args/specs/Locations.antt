-- The locations that the values of `--at` and `--cell` name, and why those of `--channel` name no channel.
use Rattle.std.specs.Prelude.{◌≡◌, ◌⊎◌, ℕ, List, [], ◌∷◌, ◌++◌, codes, string_bytes}
use Rattle.std.specs.Prelude.{◌&&◌, Bool, false, true, Option, Some, None, is_none, is_some, Result, Ok, Err}
use Rattle.std.specs.declared.alloc.Global.{Global}
use Rattle.std.specs.declared.string.String.{String}
use Rattle.agc_cli.specs.declared.fault.ArgsFault.{ArgsFault}
use Rattle.agc_cli.specs.declared.fault.ArgsFault.TheVariants as fault
use Rattle.agc_study_args.specs.declared.args.TraceArgs.{TraceArgs}
use Rattle.std.specs.List.{list_any, range_with_len}
use Rattle.std.specs.Str.{bytes_eq}
use Rattle.agc_symbols.specs.Channels.{ChannelSymbol, name_of_channel}
use Rattle.agc_symbols.specs.Lookup.{resolve}
use Rattle.agc_symbols.specs.Symbols.{Symbol}
use Rattle.agc_symbols.specs.Resolve.{resolve_cells, resolve_range}
use Rattle.agc_listing.specs.Location.{location_named}
use Rattle.agc_listing.specs.declared.location_range.LocationRange.{LocationRange}
use Rattle.agc_listing.specs.declared.location_range.RangeFault.{RangeFault}
use Rattle.agc_listing.specs.declared.location_range.RangeFault.TheVariants as range
use Rattle.agc_study_args.specs.Joined.{joined}
use Rattle.agc_study_args.specs.Until.{IsUntilWith}
use Rattle.agc_study_args.specs.declared.locations.LocationOption.{LocationOption}
use Rattle.agc_study_args.specs.declared.locations.LocationOption.TheVariants as location

-- the option, as errors name it
abbrev pub option_name : LocationOption → List ℕ
option_name location.At = codes "--at <PLACES>"
option_name location.Cell = codes "--cell <PLACES>"

-- the locations that a value names
abbrev pub resolved_by : LocationOption → Option (List Symbol) → List ℕ → Result LocationRange RangeFault
resolved_by location.At names text = resolve_range names text
resolved_by location.Cell names text = resolve_cells names text

-- a text is the name of a channel: one of 000 to 777 goes by it
abbrev pub is_text : List ℕ → Option (List ℕ) → Bool
is_text text (Some name) = bytes_eq name text
is_text text None = false

abbrev pub goes_by : List ChannelSymbol → List ℕ → ℕ → Bool
goes_by channels text channel = is_text text (name_of_channel channels channel)

unfoldable pub is_channel : List ChannelSymbol → List ℕ → Bool
is_channel channels text = list_any (goes_by channels text) (range_with_len 0 0o1000)

-- what is wrong with a value, and what is right, without symbols and with them
abbrev pub no_place_text : Bool → Bool → List ℕ
no_place_text has_names true = codes "this names a channel: see --channel"
no_place_text false false =
    codes "no such place: octal 4100, 05,2071, E3,1400 or 4100-4177; a name needs --names FILE"
no_place_text true false = codes "no such place, and no such name in the file of --names"

abbrev pub why_text : Bool → Bool → RangeFault → List ℕ
why_text has_names named range.BadPlace = no_place_text has_names named
why_text has_names named range.BadRange =
    codes "a range has two places of one bank, the lower one first"
why_text has_names named range.NotErasable =
    codes "this is in fixed memory; cells are 0000 to 1377, or E0,1400 to E7,1777"

-- the error text for a value that names no location, in the form of a command-line error
unfoldable pub unresolved_text : LocationOption → Option (List Symbol) → List ChannelSymbol → List ℕ → RangeFault
    → List ℕ
unresolved_text option names channels text why =
    codes "error: invalid value '" ++ text ++ codes "' for '" ++ option_name option ++ codes "': "
    ++ why_text (is_some names) (is_channel channels text) why
    ++ codes "\n\nFor more information, try '--help'.\n"

-- the locations that values name, after these; or the error for the first value that names none
unfoldable pub all_resolved : LocationOption → Option (List Symbol) → List ChannelSymbol → List LocationRange
    → List (String Global) → Result (List LocationRange) (List ℕ)
all_resolved option names channels done [] = Ok done
all_resolved option names channels done (text ∷ texts) =
    elim (resolved_by option names (joined (string_bytes text))) [
      | Ok places ↦ all_resolved option names channels (done ++ places ∷ []) texts
      | Err why ↦ Err (unresolved_text option names channels (string_bytes text) why)
    ]

-- a text is the name of a place, and not its number
abbrev pub is_place_name : Option (List Symbol) → List ℕ → Bool
is_place_name names text = is_none (location_named text) && is_some (resolve names text)

abbrev pub why_no_channel : Bool → List ℕ
why_no_channel true = codes "this names a place: see --cell and --at"
why_no_channel false =
    codes "a channel is one to three octal digits, 0 to 777, or a name of --names"

-- the error text for a value that names no channel
unfoldable pub unnamed_text : Option (List Symbol) → List ℕ → List ℕ
unnamed_text names text =
    codes "error: invalid value '" ++ text ++ codes "' for '--channel <CCC>': "
    ++ why_no_channel (is_place_name names text) ++ codes "\n\nFor more information, try '--help'.\n"

-- a command-line error with this text
abbrev pub IsMistake : List ℕ → ArgsFault → Type 0
IsMistake line (fault.Command text) = string_bytes text ≡ line
IsMistake line (fault.Help text) = ⊥
IsMistake line fault.Memory = Unit {0}

-- a value is rejected: for that reason, or because memory ran out
abbrev pub IsRejected : {A : Type 0} → Result A (List ℕ) → ArgsFault → Type 0
IsRejected resolved (fault.Command text) = resolved ≡ Err (string_bytes text)
IsRejected resolved (fault.Help text) = ⊥
IsRejected resolved fault.Memory = Unit {0}

-- channels after those that were there
abbrev pub AddsChannels : List ℕ → List ℕ → Type 0
AddsChannels before after = (named : List ℕ) × (after ≡ before ++ named)

-- a text that names no channel is rejected for that reason
abbrev pub IsUnnamed : Option (List Symbol) → ArgsFault → Type 0
IsUnnamed names why = (text : List ℕ) × IsMistake (unnamed_text names text) why

-- the selection with the locations, cells and channels that the values name, the resolved text of the stop address,
-- and everything else unchanged
pub record AreResolved (names : Option (List Symbol)) (called : List ChannelSymbol) (before after : TraceArgs)
    : Type 0 where
  pub places : all_resolved location.At names called before.selection.places.items before.at.items
      ≡ Ok after.selection.places.items
  pub cells : all_resolved location.Cell names called before.selection.cells.items before.cell.items
      ≡ Ok after.selection.cells.items
  pub channels : AddsChannels before.selection.channels.items after.selection.channels.items
  pub until : IsUntilWith names before.options.until after.options.until
  pub rest : after ≡ record before {
    options = record before.options { until = after.options.until };
    selection = record before.selection {
      places = after.selection.places;
      channels = after.selection.channels;
      cells = after.selection.cells;
    };
  }

-- the locations are resolved before the cells, and these before the channels
abbrev pub AreUnresolved : Option (List Symbol) → List ChannelSymbol → TraceArgs → ArgsFault → Type 0
AreUnresolved names channels args why =
    IsRejected (all_resolved location.At names channels args.selection.places.items args.at.items) why
    ⊎ ((places : List LocationRange)
    × (all_resolved location.At names channels args.selection.places.items args.at.items ≡ Ok places)
    × (IsRejected (all_resolved location.Cell names channels args.selection.cells.items args.cell.items) why
    ⊎ ((cells : List LocationRange)
    × (all_resolved location.Cell names channels args.selection.cells.items args.cell.items ≡ Ok cells)
    × IsUnnamed names why)))
