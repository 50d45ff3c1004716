-- What holds for the operands of a trace.
use Rattle.std.specs.Prelude.{◌≡◌, ◌<◌, [], None}
use Rattle.agc_store.specs.Places.{fixed_words}
use Rattle.agc_listing.specs.declared.location.Location.{Location}
use Rattle.agc_listing.specs.declared.location.Location.TheVariants as location
use Rattle.agc_trace.specs.declared.line_form.LineForm.{LineForm}

-- a form without names, in which lines do not show what operands held
pub record IsBare (form : LineForm) : Type 0 where
  pub names : form.names ≡ None
  pub channels : form.channels ≡ []
  pub operands : form.operands ≡ None

-- a cell, or a word of the 36 banks of the rope
abbrev pub IsInRope : Location → Type 0
IsInRope (location.Erasable cell) = Unit {0}
IsInRope (location.Fixed place) = place < fixed_words
