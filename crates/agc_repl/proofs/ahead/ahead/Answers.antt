use Rattle.std.specs.Prelude.{◌++◌, flat_map, string_bytes}
use Rattle.std.proofs.Common.{subst}
use Rattle.agc_machine.specs.State.{State}
use Rattle.agc_trace.specs.NamedLine.{line_with}
use Rattle.agc_trace.specs.Trace.{trace_within}
use Rattle.agc_repl.specs.Answered.{Begins}
use Rattle.agc_repl.proofs.Beginning.{nothing_begun}
use Rattle.agc_repl.proofs.Telling.{stays_known}
use Rattle.agc_repl.proofs.ahead.ahead.Goals as goal

pub returns-in-Some-clause-begins : goal.returns-in-Some-clause-begins
returns-in-Some-clause-begins g c e =
    subst
    (λ (s : State). Begins (string_bytes c.args.text.now ++ flat_map (line_with c.args.names.now) (trace_within c.args.boundaries s))
    (g.W.Write.contents c.args.output.now) (g.W.Write.contents c.print_boundaries.new.output))
    c.in-Some.ensures (c.print_boundaries.ensures.begins e)

pub returns-in-None-clause-begins : goal.returns-in-None-clause-begins
returns-in-None-clause-begins g c e = nothing_begun _ (g.W.Write.contents c.args.output.now)

pub returns-in-None-clause-grows : goal.returns-in-None-clause-grows
returns-in-None-clause-grows g c never = stays_known (g.W.Write.contents c.args.output.now)
