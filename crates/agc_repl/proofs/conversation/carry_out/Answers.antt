use Rattle.std.specs.Prelude.{string_bytes}
use Rattle.std.proofs.Common.{refl}
use Rattle.agc_repl.proofs.Answering.{changes_nothing, done_shown, reports_same, reports_waiting}
use Rattle.agc_repl.proofs.Beginning.{nothing_begun}
use Rattle.agc_repl.proofs.Telling.{stays_known, when_ok}
use Rattle.agc_repl.proofs.conversation.carry_out.Goals as goal

pub returns-in_default : goal.returns-in_default
returns-in_default g c =
    record {
      reported =
          when_ok c.show.result c.show.ensures
          (λ parsed. reports_same _ _ _ _ _
          (done_shown c.args.names.now c.args.command c.args.repl.now c.in_default.not-Go c.in_default.not-GoTo c.in_default.not-Step c.in_default.not-Until c.in_default.not-Continue c.in_default.not-Ahead)
          (reports_waiting _ _ (g.W.Write.contents c.args.output.now) (string_bytes c.args.text.now) (string_bytes c.show.new.text) refl parsed));
      left = changes_nothing c.args.command c.args.repl.now c.requires.plain c.in_default.not-Go c.in_default.not-GoTo c.in_default.not-Step c.in_default.not-Until c.in_default.not-Continue;
      begins = λ e. nothing_begun _ (g.W.Write.contents c.args.output.now);
      grows = λ never. stays_known (g.W.Write.contents c.args.output.now);
    }
