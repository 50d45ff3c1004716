use Rattle.agc_profile.proofs.Room.{left_room, right_room}
use Rattle.agc_profile.proofs.profile.Profile.take_as.Goals as goal

pub gain-requires-clause-times : goal.gain-requires-clause-times
gain-requires-clause-times c = (left_room 19 20 c.basic_number.result _ _ c.args.one c.requires.fits c.basic_number.ensures.range).times

pub gain-requires-clause-cycles : goal.gain-requires-clause-cycles
gain-requires-clause-cycles c = (left_room 19 20 c.basic_number.result _ _ c.args.one c.requires.fits c.basic_number.ensures.range).cycles

pub gain-requires-in-Extracode-clause-times : goal.gain-requires-in-Extracode-clause-times
gain-requires-in-Extracode-clause-times c =
    (right_room 19 20 c.extracode_number.result _ _ c.args.one c.requires.fits c.extracode_number.ensures.range).times

pub gain-requires-in-Extracode-clause-cycles : goal.gain-requires-in-Extracode-clause-cycles
gain-requires-in-Extracode-clause-cycles c =
    (right_room 19 20 c.extracode_number.result _ _ c.args.one c.requires.fits c.extracode_number.ensures.range).cycles
