use Rattle.std.proofs.Common.{append_assoc}
use Rattle.agc_study_args.specs.Locations.{unresolved_text}
use Rattle.agc_study_args.proofs.locations.unresolved_text.Goals as goal

pub returns : goal.returns
unfolding unresolved_text
returns c = simp append_assoc (rw (c.name-name.ensures, c.why_text-why.ensures, c.has_names.ensures, c.is_channel-named.ensures, c.as_bytes.ensures.value) at c.format.ensures.ok)
