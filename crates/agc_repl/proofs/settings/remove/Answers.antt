use Rattle.std.specs.Prelude.{◌==◌, not}
use Rattle.std.proofs.Common.{◌≡◌, rules}
use Rattle.std.proofs.lemmas.Fn.{filter_same}
use Rattle.std.proofs.lemmas.List.Elements.{All-filter}
use Rattle.agc_command.specs.Command.{IsBreakpointInRange}
use Rattle.agc_repl.specs.Settings.{without}
use Rattle.agc_repl.specs.declared.settings.Numbered.{Numbered}
use Rattle.agc_repl.proofs.settings.remove.Goals as goal

pub returns-clause-without : goal.returns-clause-without
returns-clause-without c = filter_same _ _ _ (λ x b f' k. search rules) _ _ c.retain.ensures.filtered

pub returns-clause-range : goal.returns-clause-range
returns-clause-range c h =
    let kept : c.retain.new.self.items ≡ without c.args.number c.args.breakpoints.now.items = filter_same _ _ _ (λ x b f' k. search rules) _ _ c.retain.ensures.filtered in
    rw kept (All-filter (λ (b : Numbered). not (b.number == c.args.number)) (λ (b : Numbered). IsBreakpointInRange b.what) c.args.breakpoints.now.items h)
