use Rattle.std.proofs.Common.{codes}
use Rattle.clap.specs.Words.{found_of}
use Rattle.agc_cli.proofs.CommandLine.{flag_in_rows}
use Rattle.agc_cli.proofs.args.options_of.Goals as goal

pub returns-clause-options : goal.returns-clause-options
returns-clause-options c = record {
  rope = c.in_ok-path_of.ensures;
  script = c.in_ok-path_of-2.ensures;
  limit = c.number_of.ensures;
  slots = c.slots_of.ensures;
  watch = c.in_ok-text_of.ensures;
  log = flag_in_rows (found_of c.args.matches.now) (codes "log") c.get_flag.result c.get_flag.ensures.none c.get_flag.ensures.value c.get_flag.ensures.other;
  form = c.form_of.ensures;
  until = c.in_ok-text_of-2.ensures;
  live = flag_in_rows (found_of c.args.matches.now) (codes "live") c.get_flag-2.result c.get_flag-2.ensures.none c.get_flag-2.ensures.value c.get_flag-2.ensures.other;
  spacing = c.number_of-2.ensures;
}
