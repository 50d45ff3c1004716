use Rattle.std.proofs.KnownBytes.{Appends-trans}
use Rattle.agc_repl.proofs.Telling.{when_ok}
use Rattle.agc_repl.proofs.conversation.write_back.Goals as goal

pub returns : goal.returns
returns g c =
    when_ok c.write_end.result c.write_end.ensures
    (λ written. Appends-trans (g.W.Write.contents c.args.output.now) (g.W.Write.contents c.write_bytes.new.output) (g.W.Write.contents c.write_end.new.output)
    c.args.dropped.now _ c.in_ok-write_bytes.ensures.ok written)
