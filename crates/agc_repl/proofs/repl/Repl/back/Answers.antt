use Rattle.agc_repl.proofs.Backwards.{back_near}
use Rattle.agc_repl.proofs.repl.Repl.back.Goals as goal

pub returns-in-Ok-clause-ok : goal.returns-in-Ok-clause-ok
returns-in-Ok-clause-ok c =
    let at = c.in-Ok.ensures in
    back_near c.args.cut c.args.cycle c.args.self c.go_silently.new.self c.in-Ok.rewound.session c.in-Ok.rewound.writes at.base at.retained at.script at.injected at.way c.go_silently.ensures
