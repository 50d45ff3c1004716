use Rattle.std.specs.Prelude.{[], string_bytes}
use Rattle.std.proofs.Common.{refl, inl, inr}
use Rattle.agc_repl.proofs.Answering.{left_nothing, ran_out}
use Rattle.agc_repl.proofs.Beginning.{nothing_begun}
use Rattle.agc_repl.proofs.Telling.{all_written, when_ok}
use Rattle.agc_repl.proofs.conversation.answer_now.Goals as goal

pub returns-in_default : goal.returns-in_default
returns-in_default g c =
    when_ok c.write_text.result c.write_text.ensures.ok
    (λ written. inr (ran_out c.args.names.now c.args.request c.args.repl.now c.args.repl.now [] _ _ _ (left_nothing c.args.request c.args.repl.now) refl
    (nothing_begun _ (g.W.Write.contents c.args.output.now)) written))

pub returns-in-Ok-execute : goal.returns-in-Ok-execute
returns-in-Ok-execute g c =
    when_ok c.write_text-in-Ok-execute.result c.write_text-in-Ok-execute.ensures.ok
    (λ written. inl (
      c.in-Ok-execute.ensures.parsed.0,
      all_written (g.W.Write.contents c.args.output.now) (g.W.Write.contents c.execute.new.output)
          (g.W.Write.contents c.write_text-in-Ok-execute.new.output) (string_bytes c.in-Ok.text) (string_bytes c.execute.new.text) c.deref.result.now _
          c.in-Ok.ensures.bytes c.deref.ensures c.in-Ok-execute.ensures.parsed.1 written,
    ))

pub returns : goal.returns
returns g c =
    when_ok c.end_short.result c.end_short.ensures
    (λ short. inr (ran_out c.args.names.now c.args.request c.args.repl.now c.execute.new.repl (string_bytes c.in-Ok.text) (g.W.Write.contents c.args.output.now)
    (g.W.Write.contents c.execute.new.output) _ c.execute.ensures.left c.in-Ok.ensures.bytes (c.execute.ensures.begins (cc (c.in-Err.is, short.0))) short.1))
