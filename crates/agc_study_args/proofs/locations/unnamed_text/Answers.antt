use Rattle.std.proofs.Common.{append_assoc}
use Rattle.agc_study_args.specs.Locations.{unnamed_text}
use Rattle.agc_study_args.proofs.locations.unnamed_text.Goals as goal

pub returns : goal.returns
unfolding unnamed_text
returns c = simp append_assoc (rw (c.why_no_channel-why.ensures, c.is_place_name.ensures, c.as_bytes.ensures.value) at c.format.ensures.ok)
