use Rattle.agc_repl.proofs.Going.{goes_by, shows}
use Rattle.agc_repl.proofs.Runs.{advances_by, all_in_range, hit_in_range, reach_stretch, run_goes_on, shown_by}
use Rattle.agc_repl.proofs.repl.Repl.advance.Goals as goal

pub advance-next-requires : goal.advance-next-requires
advance-next-requires c = all_in_range c.args.armed.now c.requires.range

pub returns-clause-run : goal.returns-clause-run
returns-clause-run c =
    run_goes_on c.args.armed.now c.args.cycle c.args.self.now c.note-stepped.new.self c.note-stepped.result c.advance-next.result.hit c.requires.short
    (rw (c.note-stepped.ensures.session, c.note-stepped.ensures.same) c.advance-next.ensures.gone.now)
    (shown_by c.args.self.now c.note-stepped.new.self _ c.advance-next.new.self _ _ c.note-stepped.ensures.session c.note-stepped.ensures.same c.advance-next.ensures.gone
    c.note-stepped.ensures.counted c.note-stepped.ensures.settings)
    (rw (c.note-stepped.ensures.session, c.note-stepped.ensures.same) c.advance-next.ensures.hit)

pub returns-clause-range : goal.returns-clause-range
returns-clause-range c = hit_in_range c.args.armed.now _ _ _ c.advance-next.result.hit c.advance-next.ensures.hit c.requires.range

pub returns-clause-shown : goal.returns-clause-shown
returns-clause-shown c =
    shown_by c.args.self.now c.note-stepped.new.self _ c.advance-next.new.self _ _ c.note-stepped.ensures.session c.note-stepped.ensures.same c.advance-next.ensures.gone
    c.note-stepped.ensures.counted c.note-stepped.ensures.settings

pub returns-clause-on : goal.returns-clause-on
returns-clause-on c =
    record {
      session = rw c.note-stepped.ensures.session (goes_by _ _ _ _ c.advance-next.ensures.gone (reach_stretch c.args.armed.now c.args.cycle _ _ _ c.advance-next.ensures.gone.now));
      settings = c.note-stepped.ensures.settings;
    }

pub returns-clause-advances : goal.returns-clause-advances
returns-clause-advances c = rw c.note-stepped.ensures.session (advances_by c.args.armed.now c.args.cycle _ _ _ c.advance-next.ensures.gone.now)

pub returns-clause-hit : goal.returns-clause-hit
returns-clause-hit c = rw (c.note-stepped.ensures.session, c.note-stepped.ensures.same) c.advance-next.ensures.hit

pub returns-clause-channel : goal.returns-clause-channel
returns-clause-channel c = rw c.note-stepped.ensures.same c.advance-next.ensures.channel
