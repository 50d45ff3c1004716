use Rattle.std.proofs.Common.{subst}
use Rattle.agc_profile.specs.Step.{HasTally}
use Rattle.agc_profile.proofs.Room.{left_room, right_room}
use Rattle.agc_profile.proofs.profile.Profile.take_at.Goals as goal

pub gain-requires-clause-times : goal.gain-requires-clause-times
gain-requires-clause-times c =
    (left_room 0o120000 0o4000 c.in-Fixed.place _ _ c.args.one c.requires.fits (subst HasTally c.in-Fixed.is c.requires.tally)).times

pub gain-requires-clause-cycles : goal.gain-requires-clause-cycles
gain-requires-clause-cycles c =
    (left_room 0o120000 0o4000 c.in-Fixed.place _ _ c.args.one c.requires.fits (subst HasTally c.in-Fixed.is c.requires.tally)).cycles

pub gain-requires-in-Erasable-clause-times : goal.gain-requires-in-Erasable-clause-times
gain-requires-in-Erasable-clause-times c =
    (right_room 0o120000 0o4000 c.in-Erasable.cell _ _ c.args.one c.requires.fits (subst HasTally c.in-Erasable.is c.requires.tally)).times

pub gain-requires-in-Erasable-clause-cycles : goal.gain-requires-in-Erasable-clause-cycles
gain-requires-in-Erasable-clause-cycles c =
    (right_room 0o120000 0o4000 c.in-Erasable.cell _ _ c.args.one c.requires.fits (subst HasTally c.in-Erasable.is c.requires.tally)).cycles
