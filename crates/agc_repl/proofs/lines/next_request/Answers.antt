use Rattle.std.proofs.Common.{ap, sym, ◌∙◌}
use Rattle.agc_command.specs.Command.{request_of}
use Rattle.agc_repl.proofs.Input.{no_request, other_request, quit_request, quits}
use Rattle.agc_repl.proofs.lines.next_request.Goals as goal

pub returns-in_default-clause-reads : goal.returns-in_default-clause-reads
returns-in_default-clause-reads g c = no_request c.args.names.now (g.R.Read.remaining c.args.reader.now) (g.R.Read.remaining c.next_line.new.reader) (rw c.in_default.is at c.in_ok-line.ensures c.args.names.now)

pub returns-then-is_quit-clause-reads : goal.returns-then-is_quit-clause-reads
returns-then-is_quit-clause-reads g c =
    quit_request c.args.names.now _ _ c.in-Some.line.items (rw c.in-Some.is at c.in_ok-line.ensures c.args.names.now)
    (sym (c.parse_command-request.ensures.request ∙ ap (request_of c.args.names.now) c.deref.ensures.value) ∙ quits c.parse_command-request.result (sym c.is_quit.ensures ∙ c.if-is_quit.true))

pub returns-clause-reads : goal.returns-clause-reads
returns-clause-reads g c =
    other_request c.args.names.now _ _ c.in-Some.line.items c.parse_command-request.result (rw c.in-Some.is at c.in_ok-line.ensures c.args.names.now)
    (c.parse_command-request.ensures.request ∙ ap (request_of c.args.names.now) c.deref.ensures.value) (sym c.is_quit.ensures ∙ c.if-is_quit.false)
