use Rattle.std.specs.Prelude.{string_bytes}
use Rattle.agc_repl.specs.Run.{run_line}
use Rattle.agc_repl.proofs.Beginning.{not_memory}
use Rattle.agc_repl.proofs.Telling.{none_written, nothing_more, one_written, pushed, same_line, stays_known, when_ok}
use Rattle.agc_repl.proofs.commands.print_write.Goals as goal

pub returns-in_default : goal.returns-in_default
returns-in_default g c =
    record {
      reported = nothing_more _ _ (none_written c.args.quiet c.args.stepped.now c.in_default.not-Wrote);
      kept = λ e. cc;
      grows = λ never. stays_known _;
    }

pub returns-clause-reported : goal.returns-clause-reported
returns-clause-reported g c =
    when_ok c.write_part.result c.write_part.ensures.same
    (λ retained. same_line _ _ _ _ (one_written c.args.quiet c.args.stepped.now c.in-Wrote.write c.in-Wrote.is)
    (pushed (g.W.Write.contents c.args.output.now) (g.W.Write.contents c.write_part.new.output) (string_bytes c.args.text.now)
    (string_bytes c.push_run_line.new.text) (string_bytes c.write_part.new.text) (run_line c.args.quiet c.in-Wrote.write) c.in_ok-push_run_line.ensures retained))

pub returns-clause-kept : goal.returns-clause-kept
returns-clause-kept g c e = absurd (not_memory c.write_part.result c.write_part.ensures.fault e)
